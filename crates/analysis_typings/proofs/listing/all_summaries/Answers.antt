use Rattle.std.proofs.Common.{map, take, sym, ap, ◌∙◌, subst, Contains}
use Rattle.type_kinds.proofs.Lists.{map_next}
use Rattle.core_ast.specs.Tree.{module_tree}
use Rattle.core_ast.specs.declared.syntax.FunName.{FunName}
use Rattle.core_scope.specs.Checked.{module_of, tree_of}
use Rattle.core_scope.specs.Names.{defined_names}
use Rattle.cons_tree.specs.Callees.{found}
use Rattle.analysis_typings.specs.Typings.{AreKnownIn, AreKnownOf, HasSummary}
use Rattle.analysis_typings.proofs.Listed.{image_among, module_more}
use Rattle.analysis_typings.proofs.listing.all_summaries.Goals as goal

pub module_summaries-requires : goal.module_summaries-requires
module_summaries-requires g c =
    let item = image_among (λ s. tree_of (g.S.AsChecked.stands_for s)) c.args.mods.now c.loop-source.source-index c.source-item.result c.loop-source-test.true in
    let tree = ap module_tree (c.module.ensures ∙ ap module_of (c.checked.ensures ∙ ap g.S.AsChecked.stands_for c.source-item.is)) in
    subst (λ x. (f : FunName) → Contains (defined_names x.defs) f → HasSummary (found c.args.known.now x.name f)) (sym tree) (c.requires _ item)

pub loop-source-preserved : goal.loop-source-preserved
loop-source-preserved g c =
    let trees = map_next (λ s. tree_of (g.S.AsChecked.stands_for s)) c.args.mods.now c.loop-source.source-index c.source-item.result c.loop-source-test.true c.source-item.is in
    let tree = ap module_tree (c.module.ensures ∙ ap module_of c.checked.ensures) in
    subst (λ xs. AreKnownOf (found c.args.known.now) xs c.add.new.self) (sym trees)
    (subst (AreKnownOf (found c.args.known.now) _) (sym c.in_ok-add.ensures.ok)
    (module_more (found c.args.known.now) (map (λ s. tree_of (g.S.AsChecked.stands_for s)) (take c.loop-source.source-index c.args.mods.now)) c.loop-source.all
    (tree_of (g.S.AsChecked.stands_for c.source-item.result)) c.in_ok-summaries.summaries c.loop-source.invariant
    (subst (λ x. AreKnownIn (found c.args.known.now) x.name (defined_names x.defs) c.in_ok-summaries.summaries) tree c.in_ok-summaries.ensures)))
