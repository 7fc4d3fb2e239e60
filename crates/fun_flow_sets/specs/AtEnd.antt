-- What who computes the sets step by step has to know at the end: the pairs of a place and an item that were recorded, and the edges
-- between places that applications added.
use Rattle.std.specs.Prelude.{◌≡◌, ℕ, Bool, true, Some}
use Rattle.type_kinds.specs.declared.atom.Atom.{Atom}
use Rattle.core_meaning.specs.Programs.{Program}
use Rattle.fun_flow_sets.specs.Items.{Item, anything, Place, anywhere, part, holds, flows, applies, entered, is_unknown}
use Rattle.fun_flow_sets.specs.Rules.{IsRule}
use Rattle.fun_flow_sets.specs.Sets.{Holds}

-- Nothing is left to do.
pub record IsAtEnd (U : Program) (pair : Place → Item → Bool) (edge : Place → Place → Bool) : Type 0 where
  pub begun : pair anywhere anything ≡ true
  pub held : (p : Place) (x : Item) → IsRule U (holds p x) → pair p x ≡ true
  pub flowed : (p q : Place) (x : Item) → IsRule U (flows p q) → pair p x ≡ true → pair q x ≡ true
  -- an application that may enter a function has an edge from what the function gives
  pub linked : (p q : Place) (n : ℕ) (home : Atom) (label : ℕ) (x : Item) → IsRule U (applies p n home label) → pair p x ≡ true → entered U n x ≡ Some q → edge q (part home label 0) ≡ true
  pub followed : (p q : Place) (x : Item) → edge p q ≡ true → pair p x ≡ true → pair q x ≡ true
  pub given : (p : Place) (n : ℕ) (home : Atom) (label : ℕ) (x : Item) → IsRule U (applies p n home label) → pair p x ≡ true → is_unknown U n x ≡ true → pair (part home label 0) anything ≡ true

-- Nothing was recorded without a reason.
pub record IsJustified (U : Program) (pair : Place → Item → Bool) (edge : Place → Place → Bool) : Type 0 where
  pub pairs : (p : Place) (x : Item) → pair p x ≡ true → Holds U p x
  pub edges : (p q : Place) (x : Item) → edge p q ≡ true → Holds U p x → Holds U q x
