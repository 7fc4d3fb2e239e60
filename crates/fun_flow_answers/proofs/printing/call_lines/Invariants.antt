use Rattle.std.proofs.Common.{◌≡◌, ◌++◌, drop, map}
use Rattle.std.specs.List.{flat_map}
use Rattle.core_scope.specs.Checked.{module_of}
use Rattle.fun_flow_answers.specs.Lines.{call_line}
use Rattle.fun_flow_answers.proofs.printing.call_lines.Given as goal

abbrev pub invariant-loop-call : goal.invariant-loop-call
invariant-loop-call g l = let line = call_line (map (λ s. (module_of (g.S.AsChecked.stands_for s)).name) l.mods) in l.out ++ flat_map line (drop l.call-index l.calls) ≡ flat_map line l.calls
