use Rattle.std.proofs.Common.{◌≡◌, ◌+◌, ◌||◌, [], length, drop}
use Rattle.std.specs.List.{list_any}
use Rattle.type_kinds.specs.declared.atom.Atom.{Atom}
use Rattle.core_scope.specs.Names.{same_atom}
use Rattle.call_graph.specs.Calls.{functions_of}
use Rattle.call_graph.specs.steps.Building.{inserted}
use Rattle.call_graph.proofs.DistinctKeys.{modules, names}
use Rattle.call_graph.proofs.table.function_table.Given as goal

abbrev pub invariant-loop-source : goal.invariant-loop-source
invariant-loop-source g l = record {
  entries : inserted l.table.functions.entries l.table.count (functions_of (modules g.S.AsChecked.stands_for (drop l.source-index l.mods))) ≡ inserted [] 0 (functions_of (modules g.S.AsChecked.stands_for l.mods));
  count : l.table.count + length (functions_of (modules g.S.AsChecked.stands_for (drop l.source-index l.mods))) ≡ length (functions_of (modules g.S.AsChecked.stands_for l.mods));
  modules : (h : Atom) → (list_any (same_atom h) l.table.modules.keys || list_any (same_atom h) (names (modules g.S.AsChecked.stands_for (drop l.source-index l.mods))))
      ≡ list_any (same_atom h) (names (modules g.S.AsChecked.stands_for l.mods));
}
