use Rattle.std.proofs.Common.{arith, sym, ◌∙◌}
use Rattle.module_flow_calls.proofs.TypeLists.{fits_done}
use Rattle.module_flow_calls.proofs.calls.fits.Goals as goal

pub returns : goal.returns
returns c =
    sym (fits_done c.args.types.now c.args.others.now c.loop-at.at c.min-at-end.result c.min-at-end.ensures (omega (arith, c.loop-at-test.false))) ∙ c.loop-at.invariant
