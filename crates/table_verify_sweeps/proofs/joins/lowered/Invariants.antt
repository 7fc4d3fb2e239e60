use Rattle.std.proofs.Common.{◌≡◌, take, map}
use Rattle.cons_solve.specs.steps.Alternatives.{now_of}
use Rattle.table_verify_sweeps.proofs.joins.lowered.Given as goal

abbrev pub invariant-loop-former : goal.invariant-loop-former
invariant-loop-former l = l.lows ≡ map (now_of l.slots.types) (take l.former-index l.told)
