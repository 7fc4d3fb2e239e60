-- What the walk gives for a call or an application has the value that it gave.
use Rattle.std.proofs.Common.{◌≡◌, ℕ, zero, suc, ◌+◌, not, ◌&&◌, Bool, true, false, cond, if◌then◌else◌, List, [], ◌∷◌, length, Option, Some, None, refl, sym, ap, ap₂, ◌∙◌, subst, arith}
use Rattle.type_kinds.specs.declared.atom.Atom.{Atom}
use Rattle.core_ast.specs.Model as m
use Rattle.core_ast.specs.declared.syntax.FunName.{FunName}
use Rattle.core_scope.specs.Asks.{erlang, function_name}
use Rattle.core_scope.specs.Names.{same_atom}
use Rattle.type_lattice_model.specs.Values.{Value, nil, Values, no_value, and_value, Env, count}
use Rattle.type_lattice.specs.Types.{Type4, HasType, HasTypes, any, meet}
use Rattle.bif_types.specs.declared.bif.Bif.{Bif}
use Rattle.bif_types.specs.Parts.{part_of_row}
use Rattle.bif_types.specs.Results.{BifMay}
use Rattle.bif_types.specs.Table.{looked_up}
use Rattle.cons_tree.specs.Constraints.{only}
use Rattle.cons_tree.specs.Environments.{Assignment, type_at, LiesIn}
use Rattle.cons_tree.specs.Facts.{TypeFacts}
use Rattle.cons_tree.specs.Satisfied.{SatPart, values_of}
use Rattle.cons_tree.specs.declared.parts.Callee.{Callee}
use Rattle.cons_tree.specs.declared.parts.Callee.TheVariants.{Known, Local, Undefined, Unknown}
use Rattle.cons_tree.specs.declared.parts.Part.{Part}
use Rattle.cons_tree.specs.declared.parts.Part.TheVariants.{Call}
use Rattle.cons_tree.specs.declared.parts.Sig.{Sig}
use Rattle.cons_tree.specs.declared.parts.Summary.{Summary}
use Rattle.core_meaning.specs.Meaning.{Outcome, gives, Trace, Called, call_built_in, call_enters, call_outside}
use Rattle.core_meaning.specs.Programs.{Program, module_named, exported, outside, found_in}
use Rattle.cons_gen_rows.specs.Passes.{Knowledge, signature}
use Rattle.cons_gen_rows.specs.Slots.{slots_from}
use Rattle.module_flow_calls.specs.TypeLists.{Given, one}
use Rattle.module_flow_calls.specs.Calls.{result_in, by_part, by_signature, by_row, by_callee, called, fits, by_both, by_state, may_return}
use Rattle.sound_laws.specs.Facts.{Facts, SolutionFacts}
use Rattle.sound_laws.specs.Knowledge.{Allows, IsHonest, summary_of, Within, AllBearOut}
use Rattle.sound_laws.proofs.Calls.{within, is_erlang, not_erlang}
use Rattle.sound_laws.proofs.Extensions.{and_next, set_one, set_all}
use Rattle.sound_laws_flow.proofs.Heads.{solved_some}
use Rattle.sound_laws_flow.proofs.Results.{both_have, one_is}
use Rattle.sound_laws_flow.proofs.WalkScopes.{has_length, each_lies}

-- a value of a type, which the walk gives
abbrev pub GivesOne : Given → Value → Type 0
GivesOne g v = (t : Type4) × ((g ≡ Some (t ∷ [])) × HasType v t)

slots_length : (s n : ℕ) → length (slots_from s n) ≡ n
slots_length s zero = refl
slots_length s (suc n) = ap suc (slots_length (s + 1) n)

module _ (F : Facts) (T : TypeFacts) (R : SolutionFacts) where
  -- values of the slots of a part by itself
  record IsAlone (v : Value) (vs : Values) (ts : List Type4) : Type 0 where
    at : Assignment
    result : at 0 ≡ v
    args : values_of at (slots_from 1 (length ts)) ≡ vs
    inside : LiesIn at (any ∷ ts)

  inside_alone : (a : Assignment) (vs : Values) (ts : List Type4) → values_of a (slots_from 1 (count vs)) ≡ vs → HasTypes vs ts → LiesIn a (any ∷ ts)
  inside_alone a vs ts e h zero = T.every (a 0)
  inside_alone a vs ts e h (suc i) = let same : 1 + i ≡ suc i = omega arith in subst (λ j. HasType (a j) (type_at ts i)) same (each_lies T a vs ts 1 e h i)

  alone : (v : Value) (vs : Values) (ts : List Type4) → HasTypes vs ts → IsAlone v vs ts
  alone v vs ts h =
      let x = and_next {a = λ i. nil} {m = 0} {n = 1 + count vs} 1 (omega arith) (omega arith) (set_one (λ i. nil) 0 v) (λ b g e. set_all vs 1 b) in
      let k = x.holds x.to (λ i g. refl) in
      record { at = x.to; result = k.0; args = subst (λ n. values_of x.to (slots_from 1 n) ≡ vs) (has_length vs ts h) k.1; inside = inside_alone x.to vs ts k.1 h }

  part_gives : (p : Part) (v : Value) (vs : Values) (ts : List Type4) (x : IsAlone v vs ts) → SatPart p x.at → GivesOne (by_part p ts) v
  part_gives p v vs ts x h =
      let s = solved_some F T R (only p) (any ∷ ts) x.at x.inside h in
      let has : HasType v (type_at s.types 0) = subst (λ z. HasType z (type_at s.types 0)) x.result (s.lies 0) in
      (type_at s.types 0, (ap result_in s.is ∙ one_is T v (type_at s.types 0) has, has))

  signature_gives : (sig : Sig) (v : Value) (vs : Values) (ts : List Type4) → HasTypes vs ts → Within sig vs v → GivesOne (by_signature sig ts) v
  signature_gives sig v vs ts h k =
      let x = alone v vs ts h in
      part_gives (Call 0 (slots_from 1 (length ts)) sig) v vs ts x (subst (λ z. HasTypes z sig.args) (sym x.args) k.0, subst (λ z. HasType z sig.result) (sym x.result) k.1)

  row_gives : (quiet : Bool) (name : Atom) (o : Option Bif) (v : Value) (vs : Values) (ts : List Type4) → looked_up name (count vs) ≡ o → BifMay name vs v → HasTypes vs ts → GivesOne (by_row quiet o ts) v
  row_gives quiet name None v vs ts known may h = (any, (one_is T v any (T.every v), T.every v))
  row_gives quiet name (Some bif) v vs ts known may h =
      let x = alone v vs ts h in
      let many : length (slots_from 1 (length ts)) ≡ count vs = slots_length 1 (length ts) ∙ sym (has_length vs ts h) in
      let given : BifMay name (values_of x.at (slots_from 1 (length ts))) (x.at 0) = subst (λ z. BifMay name z (x.at 0)) (sym x.args) (subst (λ z. BifMay name vs z) (sym x.result) may) in
      part_gives (part_of_row bif 0 (slots_from 1 (length ts)) quiet) v vs ts x (F.built_in name bif 0 (slots_from 1 (length ts)) quiet x.at (ap (looked_up name) many ∙ known) given)

  callee_gives : (P : Knowledge) (c : Callee) (v : Value) (vs : Values) (ts : List Type4) → Allows exported c → HasTypes vs ts → ((s : Summary) → summary_of c ≡ Some s → Within (signature P s) vs v)
      → GivesOne (by_callee P c ts) v
  callee_gives P (Known s) v vs ts a h k = signature_gives (signature P s) v vs ts h (k s refl)
  callee_gives P (Local s) v vs ts a h k = absurd a
  callee_gives P Undefined v vs ts a h k = absurd a
  callee_gives P Unknown v vs ts a h k = (any, (one_is T v any (T.every v), T.every v))

  outside_gives : (P : Knowledge) (c : Callee) (v : Value) (ts : List Type4) → Allows outside c → GivesOne (by_callee P c ts) v
  outside_gives P (Known s) v ts a = absurd a
  outside_gives P (Local s) v ts a = absurd a
  outside_gives P Undefined v ts a = absurd a
  outside_gives P Unknown v ts a = (any, (one_is T v any (T.every v), T.every v))

  module _ (U : Program) (W : Value → Type 0) (E : Atom → Env → m.Tree → Outcome → Trace → Type 0) where
    -- a call by a module and a name
    pub called_gives : {home name : Atom} {vs : Values} {v : Value} {tr : Trace} (P : Knowledge) (ts : List Type4) → IsHonest P U → ((h : Atom) (f : FunName) → P.own h f ≡ false)
        → Called U W E home name vs (gives (and_value v no_value)) tr → AllBearOut P U tr → HasTypes vs ts → GivesOne (called P home name ts) v
    called_gives {home} {name} {vs} {v} P ts honest asks x g h =
        subst (λ n. GivesOne (if same_atom home erlang then by_row P.lenient (looked_up name n) ts else by_callee P (P.callee home (function_name name n)) ts) v) (has_length vs ts h) (by x g)
      where
        by : {tr : Trace} → Called U W E home name vs (gives (and_value v no_value)) tr → AllBearOut P U tr
            → GivesOne (if same_atom home erlang then by_row P.lenient (looked_up name (count vs)) ts else by_callee P (P.callee home (function_name name (count vs))) ts) v
        by (call_built_in found_is may w) g =
            subst (λ c. GivesOne (if c then by_row P.lenient (looked_up name (count vs)) ts else by_callee P (P.callee home (function_name name (count vs))) ts) v)
            (sym (is_erlang F P U W honest E (module_named U home) (function_name name (count vs)) (same_atom home erlang) found_is))
            (row_gives P.lenient name (looked_up name (count vs)) v vs ts refl may h)
        by (call_enters found_is top y) g =
            subst (λ c. GivesOne (if c then by_row P.lenient (looked_up name (count vs)) ts else by_callee P (P.callee home (function_name name (count vs))) ts) v)
            (sym (not_erlang F P U W honest E exported (same_atom home erlang) (λ q. cc) (found_in (module_named U home) (function_name name (count vs))) found_is))
            (callee_gives P (P.callee home (function_name name (count vs))) v vs ts (subst (λ z. Allows z (P.callee home (function_name name (count vs)))) found_is (honest home (function_name name (count vs)))) h
            (λ s known. within F P U W honest E home (function_name name (count vs)) top y g s (asks home (function_name name (count vs))) known))
        by (call_outside found_is w) g =
            subst (λ c. GivesOne (if c then by_row P.lenient (looked_up name (count vs)) ts else by_callee P (P.callee home (function_name name (count vs))) ts) v)
            (sym (not_erlang F P U W honest E outside (same_atom home erlang) (λ q. cc) (found_in (module_named U home) (function_name name (count vs))) found_is))
            (outside_gives P (P.callee home (function_name name (count vs))) v ts (subst (λ z. Allows z (P.callee home (function_name name (count vs)))) found_is (honest home (function_name name (count vs)))))

  -- ---- applications of names

  fits_is : (vs : Values) (ts us : List Type4) → HasTypes vs ts → HasTypes vs us → fits ts us ≡ true
  fits_is no_value [] us h k = refl
  fits_is no_value (t ∷ ts) us h k = absurd h
  fits_is (and_value v vs) [] us h k = absurd h
  fits_is (and_value v vs) (t ∷ ts) [] h k = absurd k
  fits_is (and_value v vs) (t ∷ ts) (u ∷ us) h k = ap₂ (λ b c. not b && c) (both_have T v t u h.0 k.0) (fits_is vs ts us h.1 k.1)

  both_gives : (t : Type4) (sig : Sig) (v : Value) (vs : Values) (ts : List Type4) → HasType v t → HasTypes vs ts → Within sig vs v → GivesOne (by_both t sig ts) v
  both_gives t sig v vs ts h k w =
      let has : HasType v (meet t sig.result) = (T.both t sig.result v).1 (h, w.1) in
      (meet t sig.result, (ap (λ b. cond b (one (meet t sig.result)) None) (fits_is vs ts sig.args k w.0) ∙ one_is T v (meet t sig.result) has, has))

  pub state_gives : (t : Type4) (c : Callee) (v : Value) (vs : Values) (ts : List Type4) → HasType v t → HasTypes vs ts → ((s : Summary) → summary_of c ≡ Some s → Within s.strict vs v) → GivesOne (by_state t c ts) v
  state_gives t (Known s) v vs ts h k w = both_gives t s.strict v vs ts h k (w s refl)
  state_gives t (Local s) v vs ts h k w = both_gives t s.strict v vs ts h k (w s refl)
  state_gives t Undefined v vs ts h k w = (t, (one_is T v t h, h))
  state_gives t Unknown v vs ts h k w = (t, (one_is T v t h, h))

  -- one that gave a value may return
  pub may_give : (c : Callee) (v : Value) (vs : Values) (ts : List Type4) → HasTypes vs ts → ((s : Summary) → summary_of c ≡ Some s → Within s.lenient vs v) → GivesOne (may_return c ts) v
  may_give (Known s) v vs ts k w = signature_gives s.lenient v vs ts k (w s refl)
  may_give (Local s) v vs ts k w = signature_gives s.lenient v vs ts k (w s refl)
  may_give Undefined v vs ts k w = (any, (one_is T v any (T.every v), T.every v))
  may_give Unknown v vs ts k w = (any, (one_is T v any (T.every v), T.every v))
