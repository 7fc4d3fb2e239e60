-- For each part and each transfer an assignment that satisfies it, and one that doesn't, by hand.
use Rattle.std.proofs.Common.{◌≡◌, zero, suc, pos, List, [], ◌∷◌, inl, inr, refl, subst, sym}
use Rattle.type_lattice_model.specs.Values.{Value, int, float, nil, cons, tuple, Values, no_value, and_value}
use Rattle.type_lattice.specs.Types.{HasType, HasTypes, none, any}
use Rattle.cons_tree.specs.Environments.{Assignment}
use Rattle.cons_tree.specs.Facts.{TypeFacts}
use Rattle.cons_tree.specs.Satisfied.{true_value, false_value, SatPart}
use Rattle.cons_tree.specs.declared.parts.Sig.{Sig}
use Rattle.cons_tree.specs.declared.parts.Part.TheVariants.{Bound, Equal, Tuple, Cons, Builtin, Call}
use Rattle.cons_tree.specs.declared.parts.Transfer.{Transfer}
use Rattle.cons_tree.specs.declared.parts.Transfer.TheVariants.{Plain, Arith, Abs, Head, Tail, Element, Test, TestSome, Same, Differ, Never}

-- the values of the slots from 0 on, and nil behind them
abbrev assigned : List Value → Assignment
assigned [] s = nil
assigned (v ∷ vs) zero = v
assigned (v ∷ vs) (suc s) = assigned vs s

abbrev one : Value
one = int (pos 1)

abbrev two : Value
two = int (pos 2)

abbrev some_float : Value
some_float = float []

abbrev just : Value → Values
just v = and_value v no_value

module _ (F : TypeFacts) where
  bound : SatPart (Bound 0 any) (assigned (one ∷ []))
  bound = F.every one

  not_bound : SatPart (Bound 0 none) (assigned (one ∷ [])) → ⊥
  not_bound h = F.empty one h

  equal : SatPart (Equal 0 1) (assigned (one ∷ one ∷ []))
  equal = refl

  not_equal : SatPart (Equal 0 1) (assigned (one ∷ two ∷ [])) → ⊥
  not_equal h = absurd cc

  a_tuple : SatPart (Tuple 0 (1 ∷ [])) (assigned (tuple (just one) ∷ one ∷ []))
  a_tuple = refl

  no_tuple : SatPart (Tuple 0 (1 ∷ [])) (assigned (tuple (just one) ∷ two ∷ [])) → ⊥
  no_tuple h = absurd cc

  a_cons : SatPart (Cons 0 1 2) (assigned (cons one nil ∷ one ∷ nil ∷ []))
  a_cons = refl

  no_cons : SatPart (Cons 0 1 2) (assigned (nil ∷ one ∷ nil ∷ [])) → ⊥
  no_cons h = absurd cc

  called : (sig : Sig) → sig.args ≡ any ∷ [] → sig.result ≡ any → SatPart (Call 0 (1 ∷ []) sig) (assigned (one ∷ two ∷ []))
  called sig args result = (subst (HasTypes (just two)) (sym args) (F.every two, tt), subst (HasType one) (sym result) (F.every one))

  not_called : (sig : Sig) → sig.result ≡ none → SatPart (Call 0 (1 ∷ []) sig) (assigned (one ∷ two ∷ [])) → ⊥
  not_called sig result h = F.empty one (subst (HasType one) result h.1)

  -- a transfer of one argument in slot 1, and of two in slots 1 and 2
  abbrev Of_one : Transfer → (v x : Value) → Type 0
  Of_one f v x = SatPart (Builtin 0 (1 ∷ []) (any ∷ []) f) (assigned (v ∷ x ∷ []))

  abbrev Of_two : Transfer → (v x y : Value) → Type 0
  Of_two f v x y = SatPart (Builtin 0 (1 ∷ 2 ∷ []) (any ∷ any ∷ []) f) (assigned (v ∷ x ∷ y ∷ []))

  plain : Of_one (Plain any) one two
  plain = ((F.every two, tt), F.every one)

  not_plain : Of_one (Plain none) one two → ⊥
  not_plain h = F.empty one h.1

  arithmetic : Of_two Arith one one two
  arithmetic = ((F.every one, (F.every two, tt)), inl (((pos 1, refl), ((pos 2, refl), tt)), (pos 1, refl)))

  no_float_of_integers : Of_two Arith some_float one two → ⊥
  no_float_of_integers (types, inl h) = let is = h.1.1 in absurd cc
  no_float_of_integers (types, inr (inl h, v)) = let is = h.1 in absurd cc
  no_float_of_integers (types, inr (inr (inl h), v)) = let is = h.1 in absurd cc
  no_float_of_integers (types, inr (inr (inr h), v)) = elim h [ ]

  absolute : Of_one Abs one one
  absolute = ((F.every one, tt), inl ((pos 1, refl), (1, refl)))

  no_absolute : Of_one Abs nil one → ⊥
  no_absolute (types, inl h) = let is = h.1.1 in absurd cc
  no_absolute (types, inr h) = let is = h.1.1 in absurd cc

  head : Of_one Head one (cons one nil)
  head = ((F.every (cons one nil), tt), (nil, refl))

  no_head : Of_one Head one nil → ⊥
  no_head (types, h) = let is = h.1 in absurd cc

  tail : Of_one Tail nil (cons one nil)
  tail = ((F.every (cons one nil), tt), (one, refl))

  no_tail : Of_one Tail one nil → ⊥
  no_tail (types, h) = let is = h.1 in absurd cc

  element : Of_two Element two one (tuple (just two))
  element = ((F.every one, (F.every (tuple (just two)), tt)), (0, refl, (just two, refl, refl)))

  no_element : Of_two Element two one nil → ⊥
  no_element (types, h) = let is = h.2.1 in absurd cc

  tested : Of_one (Test any) true_value one
  tested = ((F.every one, tt), inl (F.every one, refl))

  not_tested : Of_one (Test any) false_value one → ⊥
  not_tested (types, inl h) = let is = h.1 in absurd cc
  not_tested (types, inr h) = h.0 (F.every one)

  tested_some : Of_one (TestSome any) false_value one
  tested_some = ((F.every one, tt), inr refl)

  not_tested_some : Of_one (TestSome none) true_value one → ⊥
  not_tested_some (types, inl h) = F.empty one h.0
  not_tested_some (types, inr h) = absurd cc

  same : Of_two Same true_value one one
  same = ((F.every one, (F.every one, tt)), inl (refl, refl))

  not_same : Of_two Same false_value one one → ⊥
  not_same (types, inl h) = let is = h.1 in absurd cc
  not_same (types, inr h) = h.0 refl

  differ : Of_two Differ false_value one one
  differ = ((F.every one, (F.every one, tt)), inl (refl, refl))

  not_differ : Of_two Differ true_value one one → ⊥
  not_differ (types, inl h) = let is = h.1 in absurd cc
  not_differ (types, inr h) = h.0 refl

  never : Of_one Never one one → ⊥
  never h = h.1
