use Rattle.typer_lines.proofs.Printed.{one_more}
use Rattle.typer_lines.proofs.printing.append_later.Goals as goal

pub loop-ty-preserved : goal.loop-ty-preserved
loop-ty-preserved c =
    one_more c.args.types.now c.loop-ty.ty-index c.ty-item.result c.ty-item.result c.loop-ty-test.true c.ty-item.is _ _ _ _ c.loop-ty.invariant c.in_ok-append.ensures.ok c.in_ok-print.ensures.ok
