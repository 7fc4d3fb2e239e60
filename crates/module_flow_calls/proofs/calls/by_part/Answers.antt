use Rattle.std.proofs.Common.{◌∙◌}
use Rattle.module_flow_calls.proofs.Solved.{part_alive, part_dead}
use Rattle.module_flow_calls.proofs.calls.by_part.Goals as goal

pub returns-then-not-alive : goal.returns-then-not-alive
returns-then-not-alive c =
    part_dead c.args.part c.args.args.now c.new-slots.result.types c.solve_slots-answer.new.slots.types c.in_ok-alive.alive (c.new-slots.ensures.types ∙ c.in_ok-beginning.ensures) c.in_ok-alive.ensures.value c.if-not-alive.true

pub returns : goal.returns
returns c =
    part_alive c.one.result c.args.part c.args.args.now c.new-slots.result.types c.solve_slots-answer.new.slots.types c.in_ok-alive.alive c.in_ok-value.value
    (c.new-slots.ensures.types ∙ c.in_ok-beginning.ensures) c.in_ok-alive.ensures.value c.if-not-alive.false (c.in_ok-value.ensures ∙ c.at.ensures) c.one.ensures
