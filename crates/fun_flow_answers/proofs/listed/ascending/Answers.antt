use Rattle.std.proofs.Common.{refl}
use Rattle.std.proofs.lemmas.List.Filters.{dedup_is}
use Rattle.std.proofs.lemmas.List.Kept.{Contains-dedup, Contains-from_dedup, IsStrictlySortedBy-dedup}
use Rattle.std.proofs.lemmas.List.Sorted.{Contains-permutation, IsPermutation-sym}
use Rattle.std.specs.Cmp.{eq_by_cmp_equiv}
use Rattle.fun_flow_answers.specs.Order.{target_total}
use Rattle.fun_flow_answers.proofs.Same.{same_target}
use Rattle.fun_flow_answers.proofs.listed.ascending.Goals as goal

pub returns-clause-ascending : goal.returns-clause-ascending
returns-clause-ascending c =
    let is = dedup_is _ _ _ c.dedup.ensures.filtered in
    rw c.from_vec.ensures (rw is (IsStrictlySortedBy-dedup target_total (λ x y. refl) _ c.sort_unstable.ensures.sorted))

pub returns-clause-same : goal.returns-clause-same
returns-clause-same c t =
    let is = dedup_is _ _ _ c.dedup.ensures.filtered in
    let moved = c.sort_unstable.ensures.permutation in
    rw c.from_vec.ensures (rw is (λ h. Contains-permutation _ _ t (IsPermutation-sym _ _ moved) (Contains-from_dedup _ _ t h), λ h. Contains-dedup (eq_by_cmp_equiv target_total) same_target _ t (Contains-permutation _ _ t moved h)))
