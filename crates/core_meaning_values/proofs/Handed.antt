-- Why a value that a built-in function may give by an exact row holds no function that no argument holds.
use Rattle.std.proofs.Common.{◌≡◌, ℕ, zero, suc, true, ◌||◌, Option, Some, None, inl, inr, sym, subst}
use Rattle.std.proofs.lemmas.Option.{same_Some}
use Rattle.type_kinds.specs.declared.atom.Atom.{Atom}
use Rattle.type_lattice_model.specs.Parts.{value_at}
use Rattle.type_lattice_model.specs.Values.{Value, Values, no_value, and_value, count}
use Rattle.type_lattice.specs.Kinds.{HasArity}
use Rattle.type_lattice.specs.Types.{HasType}
use Rattle.cons_tree.specs.Satisfied.{Tells, Denies}
use Rattle.bif_types.specs.declared.bif.Rule.{Rule}
use Rattle.bif_types.specs.declared.bif.Rule.TheVariants as r
use Rattle.bif_types.specs.declared.bif.Bif.{Bif}
use Rattle.bif_types.specs.ArgTypes.{type_of}
use Rattle.bif_types.specs.Results.{is_division, Gives, MayByRow, BifMay, is_exact_rule, is_exact_row, is_exact}
use Rattle.bif_types.specs.Table.{looked_up}
use Rattle.core_meaning_values.specs.Functions.{HoldsFunction, HoldFunction}

at_position : (es : Values) (n : ℕ) (v c : Value) → value_at es n ≡ Some v → HoldsFunction c v → HoldFunction c es
at_position no_value n v c e i = absurd cc
at_position (and_value w ws) zero v c e i = inl (subst (HoldsFunction c) (sym (same_Some w v e)) i)
at_position (and_value w ws) (suc n) v c e i = inr (at_position ws n v c e i)

told : (v c : Value) (P : Type 0) → Tells v P → HoldsFunction c v → ⊥
told v c P (inl h) i = subst (HoldsFunction c) h.1 i
told v c P (inr h) i = subst (HoldsFunction c) h.1 i

denied : (v c : Value) (P : Type 0) → Denies v P → HoldsFunction c v → ⊥
denied v c P (inl h) i = subst (HoldsFunction c) h.1 i
denied v c P (inr h) i = subst (HoldsFunction c) h.1 i

held_by : (k : Rule) (f : Atom) (vs : Values) (v c : Value) → (is_exact_rule k || is_division f) ≡ true → Gives k f vs v → HoldsFunction c v → HoldFunction c vs
held_by (r.Plain t) f vs v c e h i = absurd (subst (HoldsFunction c) (h.1 e).1.1.1.1 i)
held_by r.Arith f vs v c e (inl h) i = absurd (subst (HoldsFunction c) h.1.1.1.1 i)
held_by r.Arith f vs v c e (inr h) i = absurd (subst (HoldsFunction c) h.1.1 i)
held_by r.Abs f vs v c e (inl h) i = absurd (subst (HoldsFunction c) h.1.1 i)
held_by r.Abs f vs v c e (inr h) i = absurd (subst (HoldsFunction c) h.1.1.1 i)
held_by r.Head f vs v c e h i = subst (HoldFunction c) (sym h.1) (inl (inl i))
held_by r.Tail f vs v c e h i = subst (HoldFunction c) (sym h.1) (inl (inr i))
held_by r.Element f vs v c e h i = subst (HoldFunction c) (sym h.1.1.0) (inr (inl (at_position h.1.0 h.0 v c h.1.1.1 i)))
held_by (r.Test t) f vs v c e h i = absurd (told v c (HasType h.0 (type_of t)) h.1.1 i)
held_by (r.TestSome t) f vs v c e h i = absurd (told v c (HasType h.0 (type_of t) × HasArity h.0 h.1.0) h.1.1.1 i)
held_by r.Same f vs v c e h i = absurd (told v c (h.0 ≡ h.1.0) h.1.1.1 i)
held_by r.Differ f vs v c e h i = absurd (denied v c (h.0 ≡ h.1.0) h.1.1.1 i)
held_by r.Never f vs v c e h i = absurd h

held_by_row : (o : Option Bif) (f : Atom) (vs : Values) (v c : Value) → is_exact_row o f ≡ true → MayByRow o f vs v → HoldsFunction c v → HoldFunction c vs
held_by_row None f vs v c e h i = absurd cc
held_by_row (Some b) f vs v c e h i = held_by b.rule f vs v c e h.1 i

pub held : (f : Atom) (vs : Values) (v c : Value) → is_exact f (count vs) ≡ true → BifMay f vs v → HoldsFunction c v → HoldFunction c vs
held f vs v c = held_by_row (looked_up f (count vs)) f vs v c
