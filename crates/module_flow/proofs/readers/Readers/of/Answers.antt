use Rattle.std.proofs.Common.{get_or, refl, sym, subst}
use Rattle.std.specs.List.{Contains}
use Rattle.std.specs.List.Sorted.{IsNonDecreasing}
use Rattle.std.proofs.lemmas.List.{take_all}
use Rattle.std.proofs.lemmas.List.Sorted.{Contains-permutation, IsNonDecreasingBy-from_sort}
use Rattle.module_flow.proofs.NotedReaders.{positions_more}
use Rattle.module_flow.proofs.readers.Readers.of.Goals as goal

pub loop-label-preserved : goal.loop-label-preserved
loop-label-preserved c =
    positions_more c.args.self.now.table c.args.labels.now c.loop-label.label-index
    (get_or c.args.labels.now c.loop-label.label-index 0) c.loop-label.positions c.add_readers.new.positions c.loop-label-test.true refl c.in_ok-add_readers.ensures c.loop-label.invariant

pub returns-clause-ascending : goal.returns-clause-ascending
returns-clause-ascending c =
    subst (λ xs. IsNonDecreasing xs) (sym c.from_vec.ensures) (IsNonDecreasingBy-from_sort (λ x. x) c.sort_unstable.new.self.items c.sort_unstable.ensures.sorted)

pub returns-clause-all : goal.returns-clause-all
returns-clause-all c = λ l q among reads.
    subst (λ xs. Contains xs q) (sym c.from_vec.ensures)
    (Contains-permutation c.into_vec-positions.result.items c.sort_unstable.new.self.items q c.sort_unstable.ensures.permutation
    (subst (λ xs. Contains xs q) (sym c.into_vec-positions.ensures)
    (c.loop-label.invariant l q (subst (λ xs. Contains xs l) (sym (take_all c.loop-label.label-index c.args.labels.now c.loop-label-test.false)) among) reads)))
