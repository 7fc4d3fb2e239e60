use Rattle.std.proofs.Common.{◌<◌, inl, inr, below_more, subst, sym, arith}
use Rattle.std.specs.Prelude.{Contains, slice_index}
use Rattle.components.specs.Graph.{Leads}
use Rattle.fun_flow_solver.proofs.Working.{moves_then, at_place, of_each}
use Rattle.fun_flow_solver.proofs.work.spread.Goals as goal

pub put-requires-clause-place : goal.put-requires-clause-place
put-requires-clause-place c =
    subst (λ n. slice_index c.targets-to-items.result.now c.loop-to.to-index < n) (sym c.loop-to.invariant.0.count)
    (c.requires.inside (slice_index c.targets-to-items.result.now c.loop-to.to-index)
    (subst (λ xs. Contains xs (slice_index c.targets-to-items.result.now c.loop-to.to-index)) c.targets-to-items.ensures (at_place c.targets-to-items.result.now c.loop-to.to-index (omega (arith, c.loop-to-test.true)))))

pub loop-to-preserved : goal.loop-to-preserved
loop-to-preserved c = (
  moves_then c.args.sets.now c.args.queue.now.items c.loop-to.sets c.loop-to.queue.items c.put.new.sets c.put.new.queue.items c.loop-to.invariant.0 c.in_ok-put.ensures.moves,
  (
    λ p x h. elim (c.in_ok-put.ensures.only p x h) [
      | inl old ↦ c.loop-to.invariant.1.0 p x old
      | inr is ↦ inr (
        subst (λ z. Leads c.args.out.now c.args.place z) (sym is.0)
            (subst (λ xs. Contains xs (slice_index c.targets-to-items.result.now c.loop-to.to-index)) c.targets-to-items.ensures (at_place c.targets-to-items.result.now c.loop-to.to-index (omega (arith, c.loop-to-test.true)))),
        is.1,
      )
    ],
    below_more _ _ (λ k h. c.in_ok-put.ensures.moves.grown (slice_index c.targets-to-items.result.now k) c.args.item (c.loop-to.invariant.1.1 k h)) c.in_ok-put.ensures.there,
  ),
)

pub returns-clause-there : goal.returns-clause-there
returns-clause-there c = λ q h.
    of_each (λ z. Leads c.loop-to.sets z c.args.item) c.targets-to-items.result.now (λ k l. c.loop-to.invariant.1.1 k (omega (arith, l, c.loop-to-test.false)))
    q (subst (λ xs. Contains xs q) (sym c.targets-to-items.ensures) h)
