use Rattle.std.proofs.Common.{drop, map}
use Rattle.core_scope.specs.Checked.{tree_of}
use Rattle.fun_flow_rules.proofs.ModuleWalks.{Passing}
use Rattle.fun_flow_rules.proofs.program.program_rules.Given as goal

abbrev pub invariant-loop-position : goal.invariant-loop-position
invariant-loop-position g l = Passing (map (λ s. tree_of (g.S.AsChecked.stands_for s)) l.mods) l.walk (map (λ s. tree_of (g.S.AsChecked.stands_for s)) (drop l.position l.mods))
