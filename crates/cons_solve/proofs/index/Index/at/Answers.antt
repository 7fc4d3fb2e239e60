use Rattle.std.proofs.Common.{leb, ltb, ap, sym, ◌∙◌, subst, rules}
use Rattle.std.proofs.lemmas.List.{take_rest}
use Rattle.std.proofs.lemmas.List.Sorted.{IsNonDecreasingBy-drop, IsPartitionPoint-from_clause, IsPartitionedBy-leb, IsPartitionedBy-ltb}
use Rattle.std.specs.List.Sorted.{IsNonDecreasingBy}
use Rattle.cons_solve.specs.steps.Positions.{named}
use Rattle.cons_solve.proofs.IndexLaws.{named_at}
use Rattle.cons_solve.proofs.index.Index.at.Goals as goal

pub returns : goal.returns
returns c =
    let all = c.as_slice-all.result.now in
    let first = c.partition_point-first.result in
    let tail = take_rest all first in
    let rising = subst (IsNonDecreasingBy (λ n. n.slot)) (sym c.as_slice-all.ensures) c.args.self.now.rising in
    let rising_rest = subst (IsNonDecreasingBy (λ n. n.slot)) (sym tail) (IsNonDecreasingBy-drop (λ n. n.slot) first all rising) in
    let lower = IsPartitionPoint-from_clause (λ n. ltb n.slot c.args.slot) _ _ c.partition_point-first.ensures.partitioned (IsPartitionedBy-ltb (λ n. n.slot) all c.args.slot rising) (λ a r q k. search rules) in
    let upper = IsPartitionPoint-from_clause (λ n. leb n.slot c.args.slot) _ _ c.partition_point-count.ensures.partitioned (IsPartitionedBy-leb (λ n. n.slot) _ c.args.slot rising_rest) (λ a r q k. search rules) in
    named_at all _ c.args.slot first c.partition_point-count.result tail lower upper ∙ ap (λ l. named l c.args.slot) c.as_slice-all.ensures
