-- Why a value that a built-in function may give satisfies the part of its row, and why a value of an exact row holds no
-- closure that no argument holds.
use Rattle.std.proofs.Common.{◌≡◌, ℕ, zero, suc, ℤ, pos, Bool, true, ◌||◌, List, [], ◌∷◌, Option, Some, None, length, inl, inr, refl, sym, ap, ◌∙◌, subst}
use Rattle.std.specs.Prelude.{nat_abs}
use Rattle.std.proofs.lemmas.Option.{same_Some}
use Rattle.type_kinds.specs.declared.atom.Atom.{Atom}
use Rattle.type_lattice_model.specs.Parts.{value_at}
use Rattle.type_lattice_model.specs.Values.{Value, int, Values, no_value, and_value, count}
use Rattle.type_lattice.specs.Kinds.{HasArity}
use Rattle.type_lattice.specs.Types.{HasType}
use Rattle.cons_tree.specs.Environments.{Assignment}
use Rattle.cons_tree.specs.Satisfied.{AreIntegers, Tells, Denies, values_of, SatTransfer, SatPart}
use Rattle.cons_tree.specs.declared.parts.Transfer.TheVariants as transfer
use Rattle.bif_types.specs.declared.bif.Rule.{Rule}
use Rattle.bif_types.specs.declared.bif.Rule.TheVariants as r
use Rattle.bif_types.specs.declared.bif.Bif.{Bif}
use Rattle.bif_types.specs.ArgTypes.{type_of}
use Rattle.bif_types.specs.Closures.{HoldsClosure, HoldClosure}
use Rattle.bif_types.specs.Parts.{transfer_of, part_of_row}
use Rattle.bif_types.specs.Results.{two_values, integer_values, is_division, Gives, MayByRow, BifMay, is_exact_rule, is_exact_row, is_exact}
use Rattle.bif_types.specs.Table.{looked_up}

-- ---- what is given satisfies the part

count_of : (a : Assignment) (args : List ℕ) → count (values_of a args) ≡ length args
count_of a [] = refl
count_of a (s ∷ ss) = ap suc (count_of a ss)

are_integers : (ns : List ℤ) → AreIntegers (integer_values ns)
are_integers [] = tt
are_integers (n ∷ ns) = ((n, refl), are_integers ns)

transferred : (k : Rule) (quiet : Bool) (f : Atom) (vs : Values) (v : Value) → Gives k f vs v → SatTransfer (transfer_of k quiet) vs v
transferred (r.Plain t) quiet f vs v h = h.0
transferred r.Arith quiet f vs v (inl h) = inl (subst AreIntegers (sym h.1.1.0) (are_integers h.0), (h.1.0, h.1.1.1.1))
transferred r.Arith quiet f vs v (inr h) = inr h
transferred r.Abs quiet f vs v (inl h) = subst (λ ws. SatTransfer transfer.Abs ws v) (sym h.1.0) (inl ((h.0, refl), (nat_abs h.0, h.1.1)))
transferred r.Abs quiet f vs v (inr h) = subst (λ ws. SatTransfer transfer.Abs ws v) (sym h.1.0) (inr ((h.0, refl), h.1.1))
transferred r.Head quiet f vs v h = subst (λ ws. SatTransfer transfer.Head ws v) (sym h.1) (h.0, refl)
transferred r.Tail quiet f vs v h = subst (λ ws. SatTransfer transfer.Tail ws v) (sym h.1) (h.0, refl)
transferred r.Element quiet f vs v h = subst (λ ws. SatTransfer transfer.Element ws v) (sym h.1.1.0) (h.0, refl, (h.1.0, refl, h.1.1.1))
transferred (r.Test t) quiet f vs v h = subst (λ ws. SatTransfer (transfer.Test (type_of t)) ws v) (sym h.1.0) h.1.1
transferred (r.TestSome t) quiet f vs v h = subst (λ ws. SatTransfer (transfer.TestSome (type_of t)) ws v) (sym h.1.1.0) (by h.1.1.1)
  where
    by : Tells v (HasType h.0 (type_of t) × HasArity h.0 h.1.0) → SatTransfer (transfer.TestSome (type_of t)) (two_values h.0 (int (pos h.1.0))) v
    by (inl k) = inl (k.0.0, k.1)
    by (inr k) = inr k.1
transferred r.Same quiet f vs v h = subst (λ ws. SatTransfer transfer.Same ws v) (sym h.1.1.0) h.1.1.1
transferred r.Differ quiet f vs v h = subst (λ ws. SatTransfer transfer.Differ ws v) (sym h.1.1.0) h.1.1.1
transferred r.Never quiet f vs v h = absurd h

pub satisfied : (f : Atom) (b : Bif) (value : ℕ) (args : List ℕ) (quiet : Bool) (a : Assignment) → looked_up f (length args) ≡ Some b → BifMay f (values_of a args) (a value) → SatPart (part_of_row b value args quiet) a
satisfied f b value args quiet a e h =
    let row : looked_up f (count (values_of a args)) ≡ Some b = ap (looked_up f) (count_of a args) ∙ e in
    let k = subst (λ o. MayByRow o f (values_of a args) (a value)) row h in
    (k.0, transferred b.rule quiet f (values_of a args) (a value) k.1)

-- ---- closures of what is given

at_position : (es : Values) (n : ℕ) (v c : Value) → value_at es n ≡ Some v → HoldsClosure c v → HoldClosure c es
at_position no_value n v c e i = absurd cc
at_position (and_value w ws) zero v c e i = inl (subst (HoldsClosure c) (sym (same_Some w v e)) i)
at_position (and_value w ws) (suc n) v c e i = inr (at_position ws n v c e i)

told : (v c : Value) (P : Type 0) → Tells v P → HoldsClosure c v → ⊥
told v c P (inl h) i = subst (HoldsClosure c) h.1 i
told v c P (inr h) i = subst (HoldsClosure c) h.1 i

denied : (v c : Value) (P : Type 0) → Denies v P → HoldsClosure c v → ⊥
denied v c P (inl h) i = subst (HoldsClosure c) h.1 i
denied v c P (inr h) i = subst (HoldsClosure c) h.1 i

held_by : (k : Rule) (f : Atom) (vs : Values) (v c : Value) → (is_exact_rule k || is_division f) ≡ true → Gives k f vs v → HoldsClosure c v → HoldClosure c vs
held_by (r.Plain t) f vs v c e h i = absurd (subst (HoldsClosure c) (h.1 e).1.1.1.1 i)
held_by r.Arith f vs v c e (inl h) i = absurd (subst (HoldsClosure c) h.1.1.1.1 i)
held_by r.Arith f vs v c e (inr h) i = absurd (subst (HoldsClosure c) h.1.1 i)
held_by r.Abs f vs v c e (inl h) i = absurd (subst (HoldsClosure c) h.1.1 i)
held_by r.Abs f vs v c e (inr h) i = absurd (subst (HoldsClosure c) h.1.1.1 i)
held_by r.Head f vs v c e h i = subst (HoldClosure c) (sym h.1) (inl (inl i))
held_by r.Tail f vs v c e h i = subst (HoldClosure c) (sym h.1) (inl (inr i))
held_by r.Element f vs v c e h i = subst (HoldClosure c) (sym h.1.1.0) (inr (inl (at_position h.1.0 h.0 v c h.1.1.1 i)))
held_by (r.Test t) f vs v c e h i = absurd (told v c (HasType h.0 (type_of t)) h.1.1 i)
held_by (r.TestSome t) f vs v c e h i = absurd (told v c (HasType h.0 (type_of t) × HasArity h.0 h.1.0) h.1.1.1 i)
held_by r.Same f vs v c e h i = absurd (told v c (h.0 ≡ h.1.0) h.1.1.1 i)
held_by r.Differ f vs v c e h i = absurd (denied v c (h.0 ≡ h.1.0) h.1.1.1 i)
held_by r.Never f vs v c e h i = absurd h

held_by_row : (o : Option Bif) (f : Atom) (vs : Values) (v c : Value) → is_exact_row o f ≡ true → MayByRow o f vs v → HoldsClosure c v → HoldClosure c vs
held_by_row None f vs v c e h i = absurd cc
held_by_row (Some b) f vs v c e h i = held_by b.rule f vs v c e h.1 i

pub held : (f : Atom) (vs : Values) (v c : Value) → is_exact f (count vs) ≡ true → BifMay f vs v → HoldsClosure c v → HoldClosure c vs
held f vs v c = held_by_row (looked_up f (count vs)) f vs v c
