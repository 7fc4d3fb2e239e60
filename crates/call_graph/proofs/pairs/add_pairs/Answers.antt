use Rattle.std.proofs.Common.{◌∙◌, ◌+◌, drop, arith}
use Rattle.std.specs.Prelude.{slice_index}
use Rattle.std.proofs.lemmas.List.Elements.{Contains-get_or}
use Rattle.std.proofs.lemmas.List.{drop_all, drop_more}
use Rattle.type_kinds.proofs.Truths.{both_ways}
use Rattle.call_graph.proofs.GraphRounds.{pairs_round, pairs_exit}
use Rattle.call_graph.proofs.pairs.add_pairs.Goals as goal

pub add-requires-clause-from : goal.add-requires-clause-from
add-requires-clause-from c = let s = c.loop-to.invariant.size in let r = c.requires.from in omega (arith, s, r)

pub add-requires-clause-to : goal.add-requires-clause-to
add-requires-clause-to c =
    let s = c.loop-to.invariant.size in
    let r = c.requires.within (slice_index c.args.callees.now c.loop-to.to-index) (Contains-get_or c.args.callees.now c.loop-to.to-index 0 c.loop-to-test.true) in
    omega (arith, s, r)

pub loop-to-preserved : goal.loop-to-preserved
loop-to-preserved c = record {
  pairs = λ i j.
      both_ways
      (pairs_round c.loop-to.graph c.add.new.self c.args.from (drop c.loop-to.to-index c.args.callees.now) (drop (c.loop-to.to-index + 1) c.args.callees.now) (slice_index c.args.callees.now c.loop-to.to-index)
      (drop_more c.args.callees.now c.loop-to.to-index 0 c.loop-to-test.true) c.in_ok-add.ensures.pairs i j)
      (c.loop-to.invariant.pairs i j);
  size = c.in_ok-add.ensures.count ∙ c.loop-to.invariant.size;
}

pub returns-clause-pairs : goal.returns-clause-pairs
returns-clause-pairs c =
    pairs_exit c.loop-to.graph c.args.graph.now c.args.from c.args.callees.now (drop c.loop-to.to-index c.args.callees.now)
    (drop_all c.loop-to.to-index c.args.callees.now (let t = c.loop-to-test.false in omega arith)) c.loop-to.invariant.pairs
