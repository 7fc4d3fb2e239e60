use Rattle.std.proofs.Common.{◌∙◌, map, ap}
use Rattle.std.proofs.lemmas.Result.{on_ok_weaker}
use Rattle.core_scope.specs.Checked.{tree_of}
use Rattle.cons_tree.specs.Callees.{found}
use Rattle.comp_rounds.specs.Members.{function_of}
use Rattle.analysis_summaries.specs.Known.{closed_over}
use Rattle.analysis_crew.proofs.Passed.{accepted_all, names_of, apart_all}
use Rattle.analysis_crew.proofs.Works.{outputs_known, known_by_outputs}
use Rattle.analysis_crew.proofs.solving.solve_by.Goals as goal

pub solve_members-done-requires-clause-numbering : goal.solve_members-done-requires-clause-numbering
solve_members-done-requires-clause-numbering g c κs within = c.requires.numbering.2.kept

pub solve_members-done-requires-clause-summaries : goal.solve_members-done-requires-clause-summaries
solve_members-done-requires-clause-summaries g c κs within = λ outputs are.
    outputs_known c.outputs_are_summaries.ensures c.outside_laws.ensures.either (map (λ s. tree_of (g.S.AsChecked.stands_for s)) c.args.mods.now)
    (accepted_all g.S.AsChecked.stands_for c.args.mods.now) (apart_all g.S.AsChecked.stands_for c.args.mods.now c.requires.distinct) c.args.comps.now c.requires.numbering
    (found c.args.known.now) (found c.close_modules.new.known) (c.in_ok-close_modules.ensures ∙ ap (closed_over (found c.args.known.now)) (names_of g.S.AsChecked.stands_for c.args.mods.now))
    (map function_of c.in_ok-members.members) c.in_ok-members.ensures c.args.outside.now c.requires.outside outputs are

pub returns : goal.returns
returns g c =
    on_ok_weaker c.solve_members-done.result
    (known_by_outputs (map (λ s. tree_of (g.S.AsChecked.stands_for s)) c.args.mods.now) c.args.comps.now (found c.args.known.now) (found c.close_modules.new.known) (found c.solve_members-done.new.known)
    (map function_of c.in_ok-members.members) (c.in_ok-close_modules.ensures ∙ ap (closed_over (found c.args.known.now)) (names_of g.S.AsChecked.stands_for c.args.mods.now)) c.in_ok-members.ensures)
    c.solve_members-done.ensures
