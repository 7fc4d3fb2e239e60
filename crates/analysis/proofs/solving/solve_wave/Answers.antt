use Rattle.std.proofs.Common.{◌≡◌, map, ap, ◌∙◌, subst}
use Rattle.type_kinds.proofs.Lists.{contains_at}
use Rattle.type_kinds.proofs.Results.{always}
use Rattle.cons_tree.specs.Callees.{found}
use Rattle.analysis_summaries.specs.Whole.{IsWholeOver}
use Rattle.table_keep.specs.Groups.{has}
use Rattle.table_keep.specs.Model.{picked, source_so, sources_so, trees}
use Rattle.sound_laws_kept.proofs.Names.{are_picked}
use Rattle.sound_laws_kept.proofs.Trees.{tree_stands, stands_picked}
use Rattle.analysis.specs.declared.solving.Chosen.{Chosen}
use Rattle.analysis.proofs.Handed.{are_sources, chosen_apart, chosen_trees}
use Rattle.analysis.proofs.KeptReports.{closed_on}
use Rattle.analysis.proofs.solving.solve_wave.Goals as goal

pub solve_modules_with-requires-clause-distinct : goal.solve_modules_with-requires-clause-distinct
solve_modules_with-requires-clause-distinct g c κs within =
    chosen_apart (λ (k : Chosen). k.source.now) c.as_slice.result.now (picked (has c.args.todo.now) (sources_so c.args.sources.now))
    (ap (map (λ (k : Chosen). source_so k.source.now)) c.as_slice.ensures ∙ c.in_ok-list.ensures)
    (are_picked (has c.args.todo.now) (sources_so c.args.sources.now) (are_sources c.args.sources.now c.requires.distinct)).distinct

pub report_wave-requires-clause-closed : goal.report_wave-requires-clause-closed
report_wave-requires-clause-closed g c κs within =
    let M = sources_so c.args.sources.now in
    let xs = picked (has c.args.todo.now) M in
    let list : map (λ (k : Chosen). source_so k.source.now) c.as_slice.result.now ≡ xs = ap (map (λ (k : Chosen). source_so k.source.now)) c.as_slice.ensures ∙ c.in_ok-list.ensures in
    let some = are_picked (has c.args.todo.now) M (are_sources c.args.sources.now c.requires.distinct) in
    let whole = subst (λ ys. IsWholeOver (found c.args.known.now) ys (found c.solve_modules_with.new.known))
    (chosen_trees (λ (k : Chosen). k.source.now) c.as_slice.result.now ∙ ap trees list)
    c.in_ok-solve_modules_with.ensures.known in
    λ i s at e. closed_on (trees xs) some.distinct (found c.args.known.now) (found c.solve_modules_with.new.known)
    (c.solved_is_known.ensures (trees xs) (found c.args.known.now) (found c.solve_modules_with.new.known) some.accepted some.distinct whole) s.tree
    (tree_stands xs s (stands_picked (has c.args.todo.now) M s (contains_at M i s at) e))

pub returns-clause-known : goal.returns-clause-known
returns-clause-known g c =
    let list : map (λ (k : Chosen). source_so k.source.now) c.as_slice.result.now ≡ picked (has c.args.todo.now) (sources_so c.args.sources.now) =
    ap (map (λ (k : Chosen). source_so k.source.now)) c.as_slice.ensures ∙ c.in_ok-list.ensures in
    always c.report_wave.result
    (subst (λ xs. IsWholeOver (found c.args.known.now) xs (found c.solve_modules_with.new.known))
    (chosen_trees (λ (k : Chosen). k.source.now) c.as_slice.result.now ∙ ap trees list)
    c.in_ok-solve_modules_with.ensures.known)
