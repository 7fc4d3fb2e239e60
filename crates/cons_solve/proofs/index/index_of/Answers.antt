use Rattle.std.proofs.Common.{subst, sym, rules}
use Rattle.std.proofs.lemmas.List.Sorted.{IsNonDecreasingBy-from_sort_by_key}
use Rattle.std.specs.List.Sorted.{IsNonDecreasingBy}
use Rattle.cons_solve.proofs.IndexLaws.{covers_sorted}
use Rattle.cons_solve.proofs.index.index_of.Goals as goal

pub invariant_of-result : goal.invariant_of-result
invariant_of-result c = record {
  rising = subst (IsNonDecreasingBy (λ n. n.slot)) (sym c.from_vec.ensures) (IsNonDecreasingBy-from_sort_by_key (λ n. n.slot) _ c.in-Ok.ensures.sorted (λ a r q k. search rules));
}

pub returns-in-Ok : goal.returns-in-Ok
returns-in-Ok c = covers_sorted c.args.members.now c.in_ok-namings_of.field-0 c.into_vec-namings.result.items c.sort_by_key.new.self.items c.from_vec.result c.in_ok-namings_of.ensures c.into_vec-namings.ensures c.in-Ok.ensures.permutation
    c.from_vec.ensures
