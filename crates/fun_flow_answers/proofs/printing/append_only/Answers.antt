use Rattle.std.proofs.Common.{length, sym, subst}
use Rattle.std.specs.List.{All}
use Rattle.std.proofs.lemmas.List.Elements.{All-get_or, All-rest}
use Rattle.fun_flow_answers.specs.declared.target.Target.{Target}
use Rattle.fun_flow_answers.specs.Lines.{IsTargetWithin}
use Rattle.fun_flow_answers.proofs.printing.append_only.Goals as goal

pub append_target-requires-in-loop-target : goal.append_target-requires-in-loop-target
append_target-requires-in-loop-target g c =
    let P : Target → Type 0 = IsTargetWithin (length c.args.mods.now) in
    let later : All P c.in-Some.later.now = All-rest P c.in-Some.first.now c.in-Some.later.now c.args.targets.now c.in-Some.ensures.cases.0 c.requires.within in
    record { within = subst P (sym c.target-item.is) (All-get_or P c.in-Some.later.now c.loop-target.target-index c.target-item.result c.loop-target-test.true later) }
