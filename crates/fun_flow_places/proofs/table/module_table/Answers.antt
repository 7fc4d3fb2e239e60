use Rattle.std.proofs.Common.{◌∙◌, ◌++◌, ◌∷◌, [], ap, arith}
use Rattle.core_ast.specs.Tree.{module_tree}
use Rattle.core_scope.specs.Checked.{module_of, tree_of}
use Rattle.fun_flow_places.specs.Tables.{exports_of}
use Rattle.fun_flow_places.proofs.TableLaws.{listed_all, listed_round, map_both}
use Rattle.fun_flow_places.proofs.table.module_table.Goals as goal

pub loop-source-preserved : goal.loop-source-preserved
loop-source-preserved g c = (
  listed_round (λ s. (tree_of (g.S.AsChecked.stands_for s)).name) c.loop-source.table.names c.add.new.self.names _ c.args.mods.now c.loop-source.source-index c.source-item.result c.loop-source-test.true c.source-item.is
      (c.in_ok-add.ensures.names ∙ ap (λ x. c.loop-source.table.names ++ (module_tree x).name ∷ []) (c.module.ensures ∙ ap module_of c.checked.ensures)) c.loop-source.invariant.0,
  listed_round (λ s. exports_of (tree_of (g.S.AsChecked.stands_for s))) c.loop-source.table.exports c.add.new.self.exports _ c.args.mods.now c.loop-source.source-index c.source-item.result c.loop-source-test.true c.source-item.is
      (c.in_ok-add.ensures.exports ∙ ap (λ x. c.loop-source.table.exports ++ exports_of (module_tree x) ∷ []) (c.module.ensures ∙ ap module_of c.checked.ensures)) c.loop-source.invariant.1,
)

pub returns : goal.returns
returns g c = record {
  names = listed_all (λ s. (tree_of (g.S.AsChecked.stands_for s)).name) c.loop-source.table.names _ c.args.mods.now c.loop-source.source-index (let t = c.loop-source-test.false in
      omega arith) c.loop-source.invariant.0 ∙ map_both (λ s. tree_of (g.S.AsChecked.stands_for s)) (λ p. p.name) c.args.mods.now;
  exports = listed_all (λ s. exports_of (tree_of (g.S.AsChecked.stands_for s))) c.loop-source.table.exports _ c.args.mods.now c.loop-source.source-index (let t = c.loop-source-test.false in
      omega arith) c.loop-source.invariant.1 ∙ map_both (λ s. tree_of (g.S.AsChecked.stands_for s)) exports_of c.args.mods.now;
}
