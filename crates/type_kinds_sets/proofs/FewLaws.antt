-- A part of a list that is short enough to be listed is short enough.
use Rattle.std.proofs.Common.{◌≡◌, true, List, arith}
use Rattle.std.specs.declared.cmp.Ordering.{Ordering}
use Rattle.std.specs.Cmp.{IsTotalOrder}
use Rattle.std.specs.FinSet.{IsAntisymmetric}
use Rattle.type_kinds_sets.specs.Ascending.{is_ascending, has_item, merged}
use Rattle.type_kinds_sets.specs.Few.{are_few}
use Rattle.type_kinds_sets.proofs.AscendingLaws.{length-part, ascending-merged, merged-part}

module _ {K : Type 0} {R : K → K → Ordering} (o : IsTotalOrder R) (same : IsAntisymmetric R) where
  pub few-part : (ys xs : List K) → is_ascending R xs ≡ true → is_ascending R ys ≡ true → are_few ys ≡ true → ((q : K) → has_item R xs q ≡ true → has_item R ys q ≡ true) → are_few xs ≡ true
  few-part ys xs a b few f = grind (arith, length-part o same ys xs a b f)

  -- two parts together are one
  pub few-merged : (us xs ys : List K) → is_ascending R xs ≡ true → is_ascending R us ≡ true → are_few us ≡ true → ((q : K) → has_item R xs q ≡ true → has_item R us q ≡ true)
      → ((q : K) → has_item R ys q ≡ true → has_item R us q ≡ true) → are_few (merged R xs ys) ≡ true
  few-merged us xs ys a b few f g = few-part us (merged R xs ys) (ascending-merged o same xs ys a) b few (merged-part o same xs ys (has_item R us) f g)
