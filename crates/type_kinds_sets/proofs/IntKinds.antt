-- What the code's set of integers stands for, by its kinds, and the laws that its functions take.
use Rattle.std.proofs.Common.{◌≡◌, Bool, not, ℕ, ℤ, pos, ◌<◌, ◌+◌, List, [], ◌∷◌, ◌++◌, length, take, get_or, refl, ap, ◌∙◌, arith}
use Rattle.std.specs.Prelude.{int_le}
use Rattle.std.specs.Ordering.{int_cmp, is_lt}
use Rattle.std.specs.Cmp.{int_cmp_total}
use Rattle.std.specs.FinSet.{int_cmp-IsAntisymmetric}
use Rattle.std.proofs.lemmas.Grind.{common_steps}
use Rattle.std.proofs.lemmas.Int.{ints, to_z-of_z}
use Rattle.std.proofs.lemmas.List.{take_more, take_all}
use Rattle.type_kinds_sets.specs.Ends.{lower, higher, low_of, high_of}
use Rattle.type_kinds_sets.specs.Numbers.{none, listed, outermost, lowest, highest, or_else-yes}
use Rattle.type_kinds_sets.proofs.AscendingLaws.{merged-more, merged-longer}
use Rattle.type_kinds_sets.proofs.EndLaws.{Side, lows, highs}
use Rattle.type_kinds_sets.proofs.NumberLaws.{as_listed, as_range, or_else-any, or_else-no, has-narrower, has-one, listed-filter, listed-merged, join-left, join-right}

pub as_none : (xs : List ℤ) → length xs ≡ 0 → listed xs ≡ none
as_none [] h = or_else-yes [] none refl
as_none (x ∷ xs) h = absurd (omega arith)

-- the end over one number more
module _ {End : Type 0} {admits : End → ℤ → Bool} {wider narrower : End → End → End} {nearest : ℤ → End} {last : End → ℤ} {narrowest : End} (s : Side admits wider narrower nearest last narrowest) where
  outermost-append : (xs : List ℤ) (n : ℤ) → outermost wider nearest narrowest (xs ++ n ∷ []) ≡ wider (outermost wider nearest narrowest xs) (nearest n)
  outermost-append [] n = grind (arith, s.wider-narrowest)
  outermost-append (x ∷ xs) n = grind (arith, outermost-append xs n, s.wider-turn)

  outermost-more : (xs : List ℤ) (i : ℕ) → i < length xs → outermost wider nearest narrowest (take (i + 1) xs) ≡ wider (outermost wider nearest narrowest (take i xs)) (nearest (get_or xs i (pos 0)))
  outermost-more xs i h = ap (outermost wider nearest narrowest) (take_more xs i (pos 0) h) ∙ outermost-append (take i xs) (get_or xs i (pos 0))

pub lowest-more : (xs : List ℤ) (i : ℕ) → i < length xs → lowest (take (i + 1) xs) ≡ lower (lowest (take i xs)) (low_of (get_or xs i (pos 0)))
lowest-more = outermost-more lows

pub highest-more : (xs : List ℤ) (i : ℕ) → i < length xs → highest (take (i + 1) xs) ≡ higher (highest (take i xs)) (high_of (get_or xs i (pos 0)))
highest-more = outermost-more highs

-- how the code's comparison orders
pub int_under : (m n : ℤ) → is_lt (int_cmp m n) ≡ not (int_le n m)
int_under m n = grind (arith, ints)

-- the lemmas that the functions name
pub ruleset kinds = (as_listed, as_range, as_none, to_z-of_z)

pub ruleset ones = (to_z-of_z, has-one)

pub ruleset meets = (as_listed, as_range, has-narrower)

pub ruleset joins = (join-left, join-right)

pub ruleset lists = (as_listed, as_range, or_else-any, or_else-no, listed-merged)

pub ruleset keeps = (listed-filter, take_all)

-- the steps of loops over numbers
pub ruleset steps = (common_steps, to_z-of_z, lowest-more, highest-more, merged-more, merged-longer, int_cmp_total, int_cmp-IsAntisymmetric)
