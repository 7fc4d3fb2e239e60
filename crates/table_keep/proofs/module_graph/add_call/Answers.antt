use Rattle.std.proofs.Common.{◌≡◌, Some, slice_get}
use Rattle.std.proofs.lemmas.Result.{on_ok_weaker}
use Rattle.indexmap.specs.IndexMap.{keys}
use Rattle.table_keep.proofs.CallPairs.{place_found, no_place, same_pairs, no_pair}
use Rattle.table_keep.proofs.module_graph.add_call.Goals as goal

pub returns-in-Some-clause-pairs : goal.returns-in-Some-clause-pairs
returns-in-Some-clause-pairs c =
    on_ok_weaker c.add.result (λ pairs. same_pairs c.add.new.self c.args.graph.now c.args.from (λ j. j ≡ c.in-Some.to) (λ j. slice_get (keys c.args.found.now) j ≡ Some c.args.name.now)
    (place_found (keys c.args.found.now) c.in-Some.ensures.unique c.args.name.now c.in-Some.to c.in-Some.ensures.index) pairs) c.add.ensures.pairs

pub returns-in-None-clause-pairs : goal.returns-in-None-clause-pairs
returns-in-None-clause-pairs c = no_pair c.args.graph.now c.args.from (λ j. slice_get (keys c.args.found.now) j ≡ Some c.args.name.now) (no_place c.args.found.now.entries c.args.name.now c.in-None.ensures.found)
