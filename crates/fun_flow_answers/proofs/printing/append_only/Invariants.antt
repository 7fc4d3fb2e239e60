use Rattle.std.proofs.Common.{◌≡◌, ℕ, List, ◌++◌, drop, map}
use Rattle.std.specs.Prelude.{codes}
use Rattle.std.specs.List.{flat_map}
use Rattle.core_scope.specs.Checked.{module_of}
use Rattle.fun_flow_answers.specs.declared.target.Target.{Target}
use Rattle.fun_flow_answers.specs.Lines.{target_text}
use Rattle.fun_flow_answers.proofs.printing.append_only.Given as goal

abbrev pub invariant-loop-target : goal.invariant-loop-target
invariant-loop-target g l = let text : Target → List ℕ = λ u. codes ", " ++ target_text (map (λ s. (module_of (g.S.AsChecked.stands_for s)).name) l.mods) u in l.out ++ flat_map text (drop l.target-index l.later)
    ≡ l.initial.out ++ flat_map text l.later
