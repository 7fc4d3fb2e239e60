use Rattle.std.proofs.Common.{◌≡◌}
use Rattle.cons_gen_rows.specs.Slots.{slots_from}
use Rattle.module_flow_calls.proofs.calls.argument_slots.Given as goal

abbrev pub invariant-loop-position : goal.invariant-loop-position
invariant-loop-position l = l.slots ≡ slots_from 1 l.position
