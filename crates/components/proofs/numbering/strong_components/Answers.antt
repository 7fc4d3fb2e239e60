use Rattle.std.proofs.Common.{subst, sym}
use Rattle.components.specs.steps.State.{AllClosed, ComponentsAre}
use Rattle.components.proofs.Numbered.{closed, strong}
use Rattle.components.proofs.numbering.strong_components.Goals as goal

pub closed_components-requires : goal.closed_components-requires
closed_components-requires c =
    subst AllClosed (sym c.as_slice.ensures.value)
    (closed _ _ _ _ _ _ _ c.in_ok-search.ensures.0 c.in_ok-search.ensures.1.0 c.in_ok-search.ensures.1.1)

pub returns : goal.returns
returns c =
    strong _ _ _ _ _ _ _ _ c.requires c.in_ok-search.ensures.0
    (subst (λ states. ComponentsAre states c.in_ok-component_of.component_of) c.as_slice.ensures.value c.in_ok-component_of.ensures)
