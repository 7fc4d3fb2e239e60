-- The least sets under the rules of a program, and what an application may enter.
use Rattle.std.specs.Prelude.{◌≡◌, ℕ, Bool, true, Some}
use Rattle.type_kinds.specs.declared.atom.Atom.{Atom}
use Rattle.core_meaning.specs.Programs.{Program}
use Rattle.fun_flow_sets.specs.Items.{Item, anything, Place, anywhere, part, Rule, holds, flows, applies, entered, is_unknown}
use Rattle.fun_flow_sets.specs.Rules.{IsRule}

-- The item is in the set of the place, by some rules of a program: by a rule itself; since it flows there; since a function that is
-- applied gives it; or since nothing is known of what is applied.
pub data May (U : Program) (R : Rule → Type 0) : Place → Item → Type 0 where
  may_any : May U R anywhere anything
  may_hold : {p : Place} {x : Item} → R (holds p x) → May U R p x
  may_flow : {p q : Place} {x : Item} → R (flows p q) → May U R p x → May U R q x
  may_enter :
      {p q : Place} {n : ℕ} {home : Atom} {label : ℕ} {x y : Item} →
      R (applies p n home label) →
      May U R p x →
      entered U n x ≡ Some q →
      May U R q y →
      May U R (part home label 0) y
  may_give :
      {p : Place} {n : ℕ} {home : Atom} {label : ℕ} {x : Item} →
      R (applies p n home label) →
      May U R p x →
      is_unknown U n x ≡ true →
      May U R (part home label 0) anything

-- the item is in the set of a place of the program
abbrev pub Holds : Program → Place → Item → Type 0
Holds U p x = May U (IsRule U) p x

-- The application at a label of a module may enter the function: its operator's set holds it. Where the set holds `anything`, the
-- application may enter anything.
abbrev pub MayEnter : Program → Atom → ℕ → Item → Type 0
MayEnter U home label x = (p : Place) × ((n : ℕ) × (IsRule U (applies p n home label) × Holds U p x))

-- ---- sets that meet rules

-- these sets, of which it is said what they hold, meet a rule
abbrev pub IsMet : Program → (Place → Item → Bool) → Rule → Type 0
IsMet U has (holds p x) = has p x ≡ true
IsMet U has (flows p q) = (x : Item) → has p x ≡ true → has q x ≡ true
IsMet U has (applies p n home label) =
    (x : Item) →
    has p x ≡ true →
    ((q : Place) (y : Item) → entered U n x ≡ Some q → has q y ≡ true → has (part home label 0) y ≡ true)
    × (is_unknown U n x ≡ true → has (part home label 0) anything ≡ true)

-- they meet all rules of the program, and any value may be anywhere
pub record Meets (U : Program) (has : Place → Item → Bool) : Type 0 where
  pub all_anywhere : has anywhere anything ≡ true
  pub met : (r : Rule) → IsRule U r → IsMet U has r
