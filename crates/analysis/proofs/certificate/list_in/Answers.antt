use Rattle.cons_tree.specs.Callees.{found}
use Rattle.analysis.proofs.Certifying.{functions_rise, known_at, lists_at}
use Rattle.analysis.proofs.certificate.list_in.Goals as goal

pub functions_of-requires : goal.functions_of-requires
functions_of-requires c =
    known_at (found c.args.known.now) c.args.sources.now c.place_in.result c.index-sources-place_in.result c.args.entry.name c.place_in.ensures.within c.index-sources-place_in.is c.place_in.ensures.there c.requires.known

pub with_functions-requires-clause-rising : goal.with_functions-requires-clause-rising
with_functions-requires-clause-rising c = functions_rise (found c.args.known.now) _ _ c.in_ok-functions.functions c.in_ok-functions.ensures.listed

pub returns : goal.returns
returns c =
    lists_at (found c.args.known.now) c.args.sources.now c.args.entry c.with_functions.result c.place_in.result c.index-sources-place_in.result c.in_ok-functions.functions c.place_in.ensures.within
    c.index-sources-place_in.is c.place_in.ensures.there c.in_ok-functions.ensures.listed c.with_functions.ensures
