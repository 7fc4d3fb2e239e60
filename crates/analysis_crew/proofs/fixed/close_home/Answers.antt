use Rattle.cons_tree.specs.Callees.{found}
use Rattle.analysis_crew.proofs.Fixing.{home_closed}
use Rattle.type_kinds.proofs.Results.{on_both}
use Rattle.analysis_crew.proofs.fixed.close_home.Goals as goal

pub returns : goal.returns
returns c =
    on_both c.close.result c.close.ensures.closed c.close.ensures.others
    (home_closed (found c.args.fixed.now) (found c.close.new.self) c.args.home.now)
