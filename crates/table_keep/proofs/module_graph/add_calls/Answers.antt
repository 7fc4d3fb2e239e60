use Rattle.std.proofs.Common.{◌∙◌, ◌+◌, drop, arith}
use Rattle.std.proofs.lemmas.List.{drop_all}
use Rattle.indexmap.specs.IndexMap.{keys}
use Rattle.type_kinds.proofs.Lists.{drop_next}
use Rattle.type_kinds.proofs.Truths.{both_ways}
use Rattle.table_keep.proofs.CallPairs.{named_round, named_exit}
use Rattle.table_keep.proofs.module_graph.add_calls.Goals as goal

pub loop-name-preserved : goal.loop-name-preserved
loop-name-preserved c = record {
  pairs = λ i j.
      both_ways
      (named_round (keys c.args.found.now) c.add_call.new.graph c.loop-name.graph c.args.from (drop c.loop-name.name-index c.args.names.now) (drop (c.loop-name.name-index + 1) c.args.names.now) c.name-item.result
      (drop_next c.args.names.now c.loop-name.name-index c.name-item.result c.loop-name-test.true c.name-item.is) c.in_ok-add_call.ensures.pairs i j)
      (c.loop-name.invariant.pairs i j);
  size = c.in_ok-add_call.ensures.size ∙ c.loop-name.invariant.size;
}

pub returns-clause-pairs : goal.returns-clause-pairs
returns-clause-pairs c =
    named_exit (keys c.args.found.now) c.loop-name.graph c.args.graph.now c.args.from (drop c.loop-name.name-index c.args.names.now) c.args.names.now
    (drop_all c.loop-name.name-index c.args.names.now (let t = c.loop-name-test.false in omega arith)) c.loop-name.invariant.pairs
