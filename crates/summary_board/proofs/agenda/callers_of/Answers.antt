use Rattle.std.proofs.Common.{arith, ◌∙◌}
use Rattle.summary_board.proofs.Lowering.{below_all}
use Rattle.summary_board.proofs.agenda.callers_of.Goals as goal

pub add_caller-requires : goal.add_caller-requires
add_caller-requires c =
    below_all c.as_slice.result.now c.args.callees.now c.loop-c.c _ (c.as_slice.ensures ∙ c.called_at.ensures) (c.requires.below c.loop-c.c (omega (arith, c.loop-c-test.true, c.len-c-end.ensures)))
    (omega (arith, c.loop-c-test.true, c.len-c-end.ensures, c.loop-c.invariant.as_many))
