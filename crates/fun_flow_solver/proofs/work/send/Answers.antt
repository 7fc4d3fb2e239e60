use Rattle.std.proofs.Common.{◌≡◌, ◌<◌, inl, inr, below_more, subst, sym, ◌∙◌, arith}
use Rattle.std.specs.Prelude.{Contains, slice_index}
use Rattle.components.specs.Graph.{Leads, targets}
use Rattle.fun_flow_solver.proofs.Working.{moves_then, at_place, of_each}
use Rattle.fun_flow_solver.proofs.work.send.Goals as goal

pub put-requires-clause-item : goal.put-requires-clause-item
put-requires-clause-item c =
    let is : c.as_slice-item-items.result.now ≡ targets c.args.sets.now c.args.from = c.as_slice-item-items.ensures.value ∙ c.in_ok-items.ensures in
    subst (λ n. slice_index c.as_slice-item-items.result.now c.loop-item.item-index < n) (sym c.loop-item.invariant.0.count)
    (c.requires.inside (slice_index c.as_slice-item-items.result.now c.loop-item.item-index)
    (subst (λ xs. Contains xs (slice_index c.as_slice-item-items.result.now c.loop-item.item-index)) is (at_place c.as_slice-item-items.result.now c.loop-item.item-index (omega (arith, c.loop-item-test.true)))))

pub loop-item-preserved : goal.loop-item-preserved
loop-item-preserved c =
    let is : c.as_slice-item-items.result.now ≡ targets c.args.sets.now c.args.from = c.as_slice-item-items.ensures.value ∙ c.in_ok-items.ensures in (
      moves_then c.args.sets.now c.args.queue.now.items c.loop-item.sets c.loop-item.queue.items c.put.new.sets c.put.new.queue.items c.loop-item.invariant.0 c.in_ok-put.ensures.moves,
      (
        λ p x h. elim (c.in_ok-put.ensures.only p x h) [
          | inl old ↦ c.loop-item.invariant.1.0 p x old
          | inr both ↦ inr (
            both.0,
            subst (λ z. Leads c.args.sets.now c.args.from z) (sym both.1)
                (subst (λ xs. Contains xs (slice_index c.as_slice-item-items.result.now c.loop-item.item-index)) is (at_place c.as_slice-item-items.result.now c.loop-item.item-index (omega (arith, c.loop-item-test.true)))),
          )
        ],
        below_more _ _ (λ k h. c.in_ok-put.ensures.moves.grown c.args.to (slice_index c.as_slice-item-items.result.now k) (c.loop-item.invariant.1.1 k h)) c.in_ok-put.ensures.there,
      ),
    )

pub returns-clause-there : goal.returns-clause-there
returns-clause-there c =
    let is : c.as_slice-item-items.result.now ≡ targets c.args.sets.now c.args.from = c.as_slice-item-items.ensures.value ∙ c.in_ok-items.ensures in
    λ x h. of_each (λ z. Leads c.loop-item.sets c.args.to z) c.as_slice-item-items.result.now (λ k l. c.loop-item.invariant.1.1 k (omega (arith, l, c.loop-item-test.false)))
    x (subst (λ xs. Contains xs x) (sym is) h)
