use Rattle.std.proofs.Common.{arith, sym, ◌∙◌}
use Rattle.cons_tree.proofs.TrailLaws.{no_answer, an_answer, trailed_then}
use Rattle.cons_solve.proofs.TurnTrails.{trailed_same, trailed_falls}
use Rattle.cons_solve.proofs.TurnLaws.{part_dies, part_moves, part_ends}
use Rattle.table_verify_sweeps.proofs.sweeps.settle_part.Goals as goal

pub returns-then-not-alive-clause-value : goal.returns-then-not-alive-clause-value
returns-then-not-alive-clause-value c =
    sym c.turns.invariant.same ∙ part_dies c.environment_laws.ensures.laws c.args.part.now c.turns.slots.types (no_answer c.in_ok-alive.alive _ c.narrow.new.self.types c.if-not-alive.true c.in_ok-alive.ensures.value)

pub returns-then-len-checkpoint-clause-value : goal.returns-then-len-checkpoint-clause-value
returns-then-len-checkpoint-clause-value c =
    sym c.turns.invariant.same ∙ part_ends c.environment_laws.ensures.laws c.args.part.now c.turns.slots.types c.narrow.new.self.types
    (an_answer c.in_ok-alive.alive _ c.narrow.new.self.types c.if-not-alive.false c.in_ok-alive.ensures.value)
    (trailed_same c.turns.slots c.narrow.new.self c.in_ok-alive.ensures.trailed (omega (arith, c.len.ensures, c.len-checkpoint.ensures, c.if-len-checkpoint.true)))

pub turns-preserved : goal.turns-preserved
turns-preserved c = record {
  same = part_moves c.environment_laws.ensures.laws c.args.part.now c.turns.slots.types c.narrow.new.self.types (an_answer c.in_ok-alive.alive _ c.narrow.new.self.types c.if-not-alive.false c.in_ok-alive.ensures.value)
      ∙ c.turns.invariant.same;
  trailed = trailed_then c.args.slots.now c.turns.slots c.narrow.new.self c.turns.invariant.trailed c.in_ok-alive.ensures.trailed;
}

pub turns-smaller : goal.turns-smaller
turns-smaller c = trailed_falls c.turns.slots c.narrow.new.self c.environment_laws.ensures.rank c.in_ok-alive.ensures.trailed (λ e. c.if-len-checkpoint.false (omega (arith, e, c.len.ensures, c.len-checkpoint.ensures)))

pub returns-then-not-alive-clause-trailed : goal.returns-then-not-alive-clause-trailed
returns-then-not-alive-clause-trailed c =
    trailed_then c.args.slots.now c.turns.slots c.narrow.new.self c.turns.invariant.trailed c.in_ok-alive.ensures.trailed
