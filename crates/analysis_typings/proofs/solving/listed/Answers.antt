use Rattle.std.proofs.Common.{map}
use Rattle.core_scope.specs.Checked.{tree_of}
use Rattle.cons_tree.specs.Callees.{found}
use Rattle.analysis_typings.proofs.Known.{all_have, all_typings}
use Rattle.analysis_typings.proofs.solving.listed.Goals as goal

pub all_summaries-requires : goal.all_summaries-requires
all_summaries-requires g c =
    all_have g.S.AsChecked.stands_for c.args.mods.now (found c.args.known.now) (found c.solve_modules_parallel.new.known) c.requires.distinct c.in_ok-solve_modules_parallel.ensures.known

pub returns : goal.returns
returns g c =
    all_typings (map (λ s. tree_of (g.S.AsChecked.stands_for s)) c.args.mods.now) (found c.args.known.now) (found c.solve_modules_parallel.new.known) c.all_summaries.result
    c.requires.nothing c.in_ok-solve_modules_parallel.ensures.known c.all_summaries.ensures
