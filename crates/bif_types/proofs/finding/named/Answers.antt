use Rattle.std.proofs.Common.{sym, ◌∙◌}
use Rattle.bif_types.proofs.Walks.{found_at, passed_at}
use Rattle.bif_types.proofs.finding.named.Goals as goal

pub returns-then-eq : goal.returns-then-eq
returns-then-eq c = found_at c.args.rows.now c.args.name.now c.loop-row.row-index _ c.loop-row.invariant c.loop-row-test.true (sym c.eq.ensures ∙ c.if-eq.true)

pub loop-row-preserved : goal.loop-row-preserved
loop-row-preserved c = passed_at c.args.rows.now c.args.name.now c.loop-row.row-index _ c.loop-row.invariant c.loop-row-test.true (sym c.eq.ensures ∙ c.if-eq.false)
