use Rattle.std.proofs.Common.{◌<◌, length, ◌∙◌, sym, subst, arith}
use Rattle.components.specs.steps.Order.{Ordered}
use Rattle.components.proofs.Orders.{rank_at, first_low}
use Rattle.components.proofs.Positioned.{skipped}
use Rattle.components.proofs.ready.Order.take_ready.Goals as goal

pub index-requires : goal.index-requires
index-requires c = omega (arith, c.loop-component.invariant.0.sizes, first_low _ _ _ _ _ _ _ _ c.loop-component.invariant.0 c.in-Some.ensures.least)

pub returns-in-None-clause-some : goal.returns-in-None-clause-some
returns-in-None-clause-some c =
    let low : c.in-Some.component < length c.loop-component.self.ranks.items = omega (arith, c.loop-component.invariant.0.sizes, first_low _ _ _ _ _ _ _ _ c.loop-component.invariant.0 c.in-Some.ensures.least) in
    (c.loop-component.self.ready, c.loop-component.invariant.0, c.in-Some.ensures.least, c.in-Some.ensures.sorted, rank_at _ _ _ _ c.index.ensures low c.in-None.is)

pub loop-component-preserved : goal.loop-component-preserved
loop-component-preserved c =
    let low : c.in-Some.component < length c.loop-component.self.ranks.items = omega (arith, c.loop-component.invariant.0.sizes, first_low _ _ _ _ _ _ _ _ c.loop-component.invariant.0 c.in-Some.ensures.least) in
    (skipped _ _ _ _ _ _ _ _ c.loop-component.invariant.0 c.in-Some.ensures.least c.in_default-index.field-0 (rank_at _ _ _ _ c.index.ensures low c.in_default-index.is), c.loop-component.invariant.1, c.loop-component.invariant.2)

pub returns-clause-none : goal.returns-clause-none
returns-clause-none c =
    let both = c.in_default.ensures.least in
    (subst (λ xs. Ordered c.args.callees.now c.loop-component.self.ranks.items xs c.loop-component.self.watchers c.loop-component.self.again c.loop-component.self.count) (both.0 ∙ sym both.1) c.loop-component.invariant.0, both.1)
