-- Lines that are carried out one after another.
use Rattle.std.proofs.Common.{◌≡◌, ℕ, suc, ◌+◌, ◌<◌, ◌≤◌, List, [], ◌∷◌, ◌++◌, map, length, get_or, take, drop, refl, sym, ap, ◌∙◌, subst, arith, append_assoc, append-nil, add-one, take_all}
use Rattle.std.specs.Prelude.{Option, Some, None}
use Rattle.std.proofs.Math.Seq.{drop-cons}
use Rattle.std.proofs.lemmas.List.{length-map, map-append, take-append-drop, take_more, length-take-le}
use Rattle.da_shelf.proofs.CountLaws.{rose_since}
use Rattle.da_shelf.specs.Told.{Files, appended, IsPrefixAppended}
use Rattle.analysis_answers.specs.declared.run_status.RunStatus.{RunStatus}
use Rattle.analysis_answers.specs.declared.run_status.RunStatus.TheVariants as s
use Rattle.analysis_answers.specs.Lines.{read_fault_line}
use Rattle.dia_session_engine.specs.Held.{Held}
use Rattle.dia_session_command.specs.declared.carrying.SessionFault.{SessionFault}
use Rattle.dia_session_command.specs.declared.carrying.SessionFault.TheVariants.{Memory, Unread, Unwritten}
use Rattle.dia_session_command.specs.declared.script.ScriptLine.{ScriptLine}
use Rattle.dia_session_command.specs.Script.{Request, request_so}
use Rattle.dia_session_command.specs.Session.{Gives, GiveAll}
use Rattle.dia_session_command.specs.steps.Carrying.{IsCarriedOut, MeansLine, of_line, of_fault, LineFails, status_at, IsCarried, done, ends}

-- ---- one more line

pub give_more : (told : Option Files) (before : Held) (rs : List Request) (output : List ℕ) (mid : Held) (r : Request) (more : List ℕ) (after : Held)
    → GiveAll told before rs output mid → Gives told mid r more after → GiveAll told before (rs ++ r ∷ []) (output ++ more) after
give_more told before [] output mid r more after all gives =
    (after, more, [], subst (λ h. Gives told h r more after) all.1 gives, (refl, refl), ap (λ o. o ++ more) all.0 ∙ sym (append-nil more))
give_more told before (q ∷ rs) output mid r more after all gives =
    (all.0, all.1, all.2 ++ more, all.3, give_more told all.0 rs all.2 mid r more after all.4 gives, ap (λ o. o ++ more) all.5 ∙ append_assoc all.1 all.2 more)

-- what is written behind what was written
pub appended_on : (told was now : Option (List ℕ)) (xs ys : List ℕ) → was ≡ appended told xs → now ≡ appended was ys → now ≡ appended told (xs ++ ys)
appended_on None was now xs ys e f = f ∙ ap (λ w. appended w ys) e
appended_on (Some all) was now xs ys e f = f ∙ ap (λ w. appended w ys) e ∙ ap Some (append_assoc all xs ys)

-- ---- the lines so far

abbrev pub requests : List ScriptLine → List Request
requests ls = map request_so ls

pub record AreCarried (told : Option Files) (rs : List Request) (held : Held) (written written_now : Option (List ℕ)) : Type 0 where
  pub output : List ℕ
  pub give : GiveAll told [] rs output held
  pub written_so : written_now ≡ appended written output

pub none_carried : (told : Option Files) (written : Option (List ℕ)) → AreCarried told [] [] written written
none_carried told written = record { output = []; give = (refl, refl); written_so = by written }
  where
    by : (w : Option (List ℕ)) → w ≡ appended w []
    by None = refl
    by (Some all) = ap Some (sym (append-nil all))

carried_more : (told : Option Files) (rs : List Request) (r : Request) (held after : Held) (written mid now : Option (List ℕ)) → AreCarried told rs held written mid
    → IsCarriedOut told held r after mid now → AreCarried told (rs ++ r ∷ []) after written now
carried_more told rs r held after written mid now h one = record {
  output = h.output ++ one.output;
  give = give_more told [] rs h.output held r one.output after h.give one.gives;
  written_so = appended_on written mid now h.output one.output h.written_so one.written_so;
}

-- the lines up to one, and that one
requests_more : (ls : List ScriptLine) (i : ℕ) (d : ScriptLine) → i < length ls → requests (take (i + 1) ls) ≡ requests (take i ls) ++ request_so (get_or ls i d) ∷ []
requests_more ls i d low = ap requests (take_more ls i d low) ∙ map-append request_so (take i ls) (get_or ls i d ∷ [])

-- one more line is carried out
pub line_carried : (told mid : Option Files) (ls : List ScriptLine) (i : ℕ) (d : ScriptLine) (held after : Held) (written was now : Option (List ℕ)) → i < length ls → mid ≡ told
    → AreCarried told (requests (take i ls)) held written was → IsCarriedOut mid held (request_so (get_or ls i d)) after was now → AreCarried told (requests (take (i + 1) ls)) after written now
line_carried told mid ls i d held after written was now low m h one =
    subst (λ rs. AreCarried told rs after written now) (sym (requests_more ls i d low))
    (carried_more told (requests (take i ls)) (request_so (get_or ls i d)) held after written was now h (subst (λ t. IsCarriedOut t held (request_so (get_or ls i d)) after was now) m one))

requests_split : (ls : List ScriptLine) (i : ℕ) (d : ScriptLine) → i < length ls → requests ls ≡ requests (take i ls) ++ request_so (get_or ls i d) ∷ requests (drop (suc i) ls)
requests_split ls i d low =
    ap requests (sym (take-append-drop i ls) ∙ ap (λ xs. take i ls ++ xs) (drop-cons ls i d low)) ∙ map-append request_so (take i ls) (get_or ls i d ∷ drop (suc i) ls)

first_length : (ls : List ScriptLine) (i : ℕ) → i < length ls → length (requests (take i ls)) ≡ i
first_length ls i low = length-map (take i ls) request_so ∙ length-take-le i ls (omega (arith, low))

-- ---- the end

means_since : (told : Option Files) (held : Held) (r : Request) (early reads now : ℕ) (output : List ℕ) → early ≤ reads → MeansLine told held r reads now output → MeansLine told held r early now output
means_since told held r early reads now output low (of_line after g) = of_line after g
means_since told held r early reads now output low (of_fault file a b c) = of_fault file a b (rose_since early reads now low c)

pub fails_since : (told : Option Files) (held : Held) (r : Request) (early reads now first faults last : ℕ) (written was after : Option (List ℕ)) (fault : SessionFault) → early ≤ reads → first ≤ faults → was ≡ written
    → LineFails told held r reads now faults last was after fault → LineFails told held r early now first last written after fault
fails_since told held r early reads now first faults last written was after Memory low least same h = h ∙ same
fails_since told held r early reads now first faults last written was after Unread low least same h = (h.0, h.1, rose_since early reads now low h.2, subst (λ w. after ≡ appended w (read_fault_line h.0)) same h.3)
fails_since told held r early reads now first faults last written was after Unwritten low least same h =
    (h.0, means_since told held r early reads now h.0 low h.1, rose_since first faults last least h.2, subst (λ w. IsPrefixAppended w after h.0) same h.3)

pub ends_at : (told mid : Option Files) (ls : List ScriptLine) (i : ℕ) (d : ScriptLine) (held : Held) (early reads now first faults last : ℕ) (written was after : Option (List ℕ)) (fault : SessionFault) (status : RunStatus)
    → i < length ls → mid ≡ told → AreCarried told (requests (take i ls)) held written was → early ≤ reads → first ≤ faults
    → LineFails mid held (request_so (get_or ls i d)) reads now faults last was after fault → status ≡ status_at (i + 1) fault → IsCarried told (requests ls) early now first last written after status
ends_at told mid ls i d held early reads now first faults last written was after fault status low m h a b fails s = ends (record {
  first = requests (take i ls);
  request = request_so (get_or ls i d);
  rest = requests (drop (suc i) ls);
  split = requests_split ls i d low;
  output = h.output;
  held = held;
  give = h.give;
  fault = fault;
  status_so = s ∙ ap (λ n. status_at n fault) (add-one i ∙ ap suc (sym (first_length ls i low)));
  is = fails_since told held (request_so (get_or ls i d)) early reads now first faults last (appended written h.output) was after fault a b h.written_so
      (subst (λ t. LineFails t held (request_so (get_or ls i d)) reads now faults last was after fault) m fails);
})

pub all_carried : (told : Option Files) (ls : List ScriptLine) (i : ℕ) (held : Held) (reads now faults last : ℕ) (written after : Option (List ℕ)) (status : RunStatus) → length ls ≤ i
    → AreCarried told (requests (take i ls)) held written after → status ≡ s.Done → IsCarried told (requests ls) reads now faults last written after status
all_carried told ls i held reads now faults last written after status past h e =
    done e h.output held (subst (λ xs. GiveAll told [] (requests xs) h.output held) (take_all i ls past) h.give) h.written_so
