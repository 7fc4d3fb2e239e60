use Rattle.std.proofs.Common.{◌∙◌, subst, sym}
use Rattle.components.specs.steps.Order.{AllRanked, RanksAre}
use Rattle.components.proofs.Orders.{ranked_at_end, in_order}
use Rattle.components.proofs.ready.ready_order.Goals as goal

pub numbers-requires : goal.numbers-requires
numbers-requires c =
    subst AllRanked (sym c.as_slice.ensures.value)
    (ranked_at_end _ _ _ _ _ _ c.in_default.ensures.none.0 c.in_default.ensures.none.1 (c.in_default.ensures.again ∙ c.loop-component.invariant.1) c.requires.acyclic c.requires.inside)

pub returns : goal.returns
returns c =
    in_order _ _ _ _ _ _ _ c.in_default.ensures.none.0 c.requires.inside (subst (λ ranks. RanksAre ranks c.in_ok-numbers.numbers) c.as_slice.ensures.value c.in_ok-numbers.ensures)
