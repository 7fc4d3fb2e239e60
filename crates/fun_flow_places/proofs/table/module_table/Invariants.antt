use Rattle.std.proofs.Common.{◌≡◌, ◌++◌, map, drop}
use Rattle.core_scope.specs.Checked.{tree_of}
use Rattle.fun_flow_places.specs.Tables.{exports_of}
use Rattle.fun_flow_places.proofs.table.module_table.Given as goal

abbrev pub invariant-loop-source : goal.invariant-loop-source
invariant-loop-source g l =
    (l.table.names ++ map (λ s. (tree_of (g.S.AsChecked.stands_for s)).name) (drop l.source-index l.mods) ≡ map (λ s. (tree_of (g.S.AsChecked.stands_for s)).name) l.mods)
    × (l.table.exports ++ map (λ s. exports_of (tree_of (g.S.AsChecked.stands_for s))) (drop l.source-index l.mods) ≡ map (λ s. exports_of (tree_of (g.S.AsChecked.stands_for s))) l.mods)
