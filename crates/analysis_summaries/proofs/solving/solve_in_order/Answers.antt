use Rattle.std.proofs.lemmas.Result.{on_ok_weaker}
use Rattle.cons_tree.specs.Callees.{found}
use Rattle.analysis_summaries.proofs.Closing.{known_all}
use Rattle.analysis_summaries.proofs.solving.solve_in_order.Goals as goal

pub returns : goal.returns
returns g c =
    on_ok_weaker c.solve_all-done.result
    (λ solved.
    known_all g.S.AsChecked.stands_for c.args.mods.now (found c.args.known.now) (found c.solve_all-done.new.known) (found c.close_modules.new.known) _ c.args.comps.now solved
    c.in_ok-close_modules.ensures c.in_ok-members.ensures)
    c.solve_all-done.ensures
