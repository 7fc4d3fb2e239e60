use Rattle.std.proofs.Common.{◌∙◌, arith}
use Rattle.std.proofs.lemmas.List.{length-map}
use Rattle.indexmap.specs.IndexMap.{keys}
use Rattle.table_keep.specs.Kept.{calls_of}
use Rattle.table_keep.specs.Model.{entries_so, sources_so}
use Rattle.table_keep.proofs.GraphLaws.{graph_ends, graph_round}
use Rattle.table_keep.proofs.module_graph.module_graph.Goals as goal

pub loop-place-preserved : goal.loop-place-preserved
loop-place-preserved c = record {
  size = c.in_ok-add_calls_of.ensures.size ∙ c.loop-place.invariant.size;
  pairs =
      graph_round (keys c.args.found.now) (calls_of (entries_so c.args.table.now) (sources_so c.args.sources.now)) c.add_calls_of.new.graph c.loop-place.graph c.loop-place.place
      c.in_ok-add_calls_of.ensures.pairs c.loop-place.invariant.pairs;
}

pub returns : goal.returns
returns c =
    let n = length-map c.args.found.now.entries (λ e. e.0) in
    let s = c.loop-place.invariant.size in
    let t = c.loop-place-test.false in
    graph_ends (keys c.args.found.now) (calls_of (entries_so c.args.table.now) (sources_so c.args.sources.now)) c.loop-place.graph c.loop-place.place c.loop-place.invariant.size
    (let k = c.len-count.ensures.len in omega (arith, n, t, k)) c.loop-place.invariant.pairs
