-- Texts that are read one after another, as files that hold them are.
use Rattle.std.proofs.Common.{◌≡◌, ℕ, zero, suc, ◌+◌, ◌<◌, ◌≤◌, List, [], ◌∷◌, ◌++◌, length, take, refl, sym, ap, ◌∙◌, subst, Some, arith, get_or}
use Rattle.std.specs.Prelude.{slice_get, Option}
use Rattle.da_shelf.specs.Told.{Files, Holds}
use Rattle.table_keep.specs.declared.source.Source.{Source as HandedIn}
use Rattle.table_keep.specs.Model.{Source, source_so, sources_so}
use Rattle.analysis_sources.specs.declared.reading.ReadFault.{ReadFault}
use Rattle.analysis_sources.specs.declared.reading.ReadFault.TheVariants.{Refused, Failed, Memory}
use Rattle.analysis_sources.specs.Reading.{AreHeld, AreRead, RefusedAt, at_fault, TextFails}
use Rattle.analysis_sources.specs.Sources.{room, IsTextOf}
use Rattle.analysis_sources.specs.steps.ReadingSteps.{FailsBytes}
use Rattle.analysis_sources.proofs.Readings.{read_more, take_more, take_whole, sources_more}

-- the file that holds the text at a place
held_at : (told : Option Files) (files texts : List (List ℕ)) (i : ℕ) (d : List ℕ) → AreHeld told files texts → i < length texts → (file : List ℕ) × (slice_get files i ≡ Some file) × Holds told file (get_or texts i d)
held_at told [] [] i d h k = absurd (omega (arith, k))
held_at told [] (t ∷ ts) i d h k = absurd h
held_at told (f ∷ fs) [] i d h k = absurd h
held_at told (f ∷ fs) (t ∷ ts) zero d h k = (f, refl, h.0)
held_at told (f ∷ fs) (t ∷ ts) (suc i) d h k = held_at told fs ts i d h.1 (omega (arith, k))

as_many : (told : Option Files) (files texts : List (List ℕ)) → AreHeld told files texts → length files ≡ length texts
as_many told [] [] h = refl
as_many told [] (t ∷ ts) h = absurd h
as_many told (f ∷ fs) [] h = absurd h
as_many told (f ∷ fs) (t ∷ ts) h = ap suc (as_many told fs ts h.1)

-- the text at this place is that of a source, after those before it
pub text_read : (texts : List (List ℕ)) (i : ℕ) (t d bytes : List ℕ) (ss : List HandedIn) (s : HandedIn) (before after : ℕ) → i < length texts → t ≡ get_or texts i d → bytes ≡ t
    → ((told : Option Files) (files : List (List ℕ)) → AreHeld told files texts → AreRead told 0 (take i files) (sources_so ss) before)
    → IsTextOf (room before) bytes (source_so s) → s.length ≡ length bytes → after ≡ before + s.length
    → (told : Option Files) (files : List (List ℕ)) → AreHeld told files texts → AreRead told 0 (take (i + 1) files) (sources_so (ss ++ s ∷ [])) after
text_read texts i t d bytes ss s before after h e same front one long count told files held =
    let f = held_at told files texts i d held h in
    let is : bytes ≡ get_or texts i d = same ∙ e in
    subst (λ fs. AreRead told 0 fs (sources_so (ss ++ s ∷ [])) after) (sym (take_more files i f.0 f.1))
    (subst (λ xs. AreRead told 0 (take i files ++ f.0 ∷ []) xs after) (sym (sources_more ss s))
    (subst (λ k. AreRead told 0 (take i files ++ f.0 ∷ []) (sources_so ss ++ source_so s ∷ []) k)
    (ap (λ k. before + k) (sym long) ∙ sym count)
    (read_more told 0 (take i files) (sources_so ss) before f.0 bytes (source_so s) (front told files held) (subst (Holds told f.0) (sym is) f.2) one)))

-- all texts are read
pub all_texts_read : (texts : List (List ℕ)) (i : ℕ) (xs : List Source) (before : ℕ) → length texts ≤ i
    → ((told : Option Files) (files : List (List ℕ)) → AreHeld told files texts → AreRead told 0 (take i files) xs before)
    → (told : Option Files) (files : List (List ℕ)) → AreHeld told files texts → (after : ℕ) × AreRead told 0 files xs after
all_texts_read texts i xs before h front told files held =
    (before, subst (λ fs. AreRead told 0 fs xs before) (take_whole files i (omega (arith, h, as_many told files texts held))) (front told files held))

-- the text at this place is the source of no module
pub text_fails : (texts : List (List ℕ)) (i : ℕ) (t d bytes : List ℕ) (xs : List Source) (before : ℕ) (fault : ReadFault) → i < length texts → t ≡ get_or texts i d → bytes ≡ t
    → ((told : Option Files) (files : List (List ℕ)) → AreHeld told files texts → AreRead told 0 (take i files) xs before)
    → FailsBytes bytes i before fault → (told : Option Files) (files : List (List ℕ)) → AreHeld told files texts → TextFails told files fault
text_fails texts i t d bytes xs before (Refused at fault) h e same front fails told files held =
    let f = held_at told files texts i d held h in
    let is : bytes ≡ get_or texts i d = same ∙ e in
    subst (λ n. RefusedAt told files n fault) (sym fails.0)
    (at_fault (record {
      file = f.0;
      bytes = bytes;
      before = before;
      reached = record { there = f.1; sources = xs; read = front told files held };
      held_so = subst (Holds told f.0) (sym is) f.2;
      is = fails.1;
    }))
text_fails texts i t d bytes xs before (Failed at) h e same front fails told files held = absurd fails
text_fails texts i t d bytes xs before Memory h e same front fails told files held = tt

pub ruleset texts_read = (text_read, all_texts_read, text_fails)
