use Rattle.std.proofs.Common.{◌≡◌, drop}
use Rattle.module_flow_calls.specs.Calls.{fits}
use Rattle.module_flow_calls.proofs.calls.fits.Given as goal

abbrev pub invariant-loop-at : goal.invariant-loop-at
invariant-loop-at l = fits (drop l.at l.types) (drop l.at l.others) ≡ fits l.types l.others
