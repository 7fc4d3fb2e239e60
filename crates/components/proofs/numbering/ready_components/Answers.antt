use Rattle.std.proofs.Common.{◌≡◌, ℕ, ◌<◌, ◌∙◌, ap, length, subst, sym}
use Rattle.std.specs.Prelude.{slice_index}
use Rattle.components.specs.steps.ComponentLists.{CalleesTo}
use Rattle.components.specs.steps.Order.{IsAcyclic, IsInside, InReadyOrder}
use Rattle.components.proofs.Finished.{inside, acyclic, ready_order_components}
use Rattle.components.proofs.numbering.ready_components.Goals as goal

pub ready_order-requires-clause-inside : goal.ready_order-requires-clause-inside
ready_order-requires-clause-inside c =
    let size : length c.as_slice-3.result.now ≡ c.in_ok-ordinals.ordinal_count = ap length c.as_slice-3.ensures ∙ c.in_ok-members.ensures.sizes in
    let cs : CalleesTo c.args.graph.now c.in_ok-ordinals.ordinals c.in_ok-callees.callees c.in_ok-ordinals.ordinal_count =
    subst (λ n. CalleesTo c.args.graph.now c.in_ok-ordinals.ordinals c.in_ok-callees.callees n) size
    (subst (λ xs. CalleesTo c.args.graph.now xs c.in_ok-callees.callees (length c.as_slice-3.result.now)) c.as_slice-2.ensures c.in_ok-callees.ensures) in
    subst IsInside (sym c.as_slice-4.ensures)
    (inside c.args.graph.now c.args.found.now c.in_ok-ordinals.ordinals c.args.found_count c.in_ok-ordinals.ordinal_count _ c.requires.graph c.requires.strong c.in_ok-ordinals.ensures cs)

pub ready_order-requires-clause-acyclic : goal.ready_order-requires-clause-acyclic
ready_order-requires-clause-acyclic c =
    let size : length c.as_slice-3.result.now ≡ c.in_ok-ordinals.ordinal_count = ap length c.as_slice-3.ensures ∙ c.in_ok-members.ensures.sizes in
    let cs : CalleesTo c.args.graph.now c.in_ok-ordinals.ordinals c.in_ok-callees.callees c.in_ok-ordinals.ordinal_count =
    subst (λ n. CalleesTo c.args.graph.now c.in_ok-ordinals.ordinals c.in_ok-callees.callees n) size
    (subst (λ xs. CalleesTo c.args.graph.now xs c.in_ok-callees.callees (length c.as_slice-3.result.now)) c.as_slice-2.ensures c.in_ok-callees.ensures) in
    subst IsAcyclic (sym c.as_slice-4.ensures)
    (acyclic c.args.graph.now c.args.found.now c.in_ok-ordinals.ordinals c.args.found_count c.in_ok-ordinals.ordinal_count _ c.requires.graph c.requires.strong c.in_ok-ordinals.ensures cs)

pub returns : goal.returns
returns c =
    let size : length c.as_slice-3.result.now ≡ c.in_ok-ordinals.ordinal_count = ap length c.as_slice-3.ensures ∙ c.in_ok-members.ensures.sizes in
    let cs : CalleesTo c.args.graph.now c.in_ok-ordinals.ordinals c.in_ok-callees.callees c.in_ok-ordinals.ordinal_count =
    subst (λ n. CalleesTo c.args.graph.now c.in_ok-ordinals.ordinals c.in_ok-callees.callees n) size
    (subst (λ xs. CalleesTo c.args.graph.now xs c.in_ok-callees.callees (length c.as_slice-3.result.now)) c.as_slice-2.ensures c.in_ok-callees.ensures) in
    let order : InReadyOrder c.in_ok-callees.callees c.in_ok-numbers.numbers c.in_ok-numbers.count =
    subst (λ xs. InReadyOrder xs c.in_ok-numbers.numbers c.in_ok-numbers.count) c.as_slice-4.ensures c.in_ok-numbers.ensures in
    ready_order_components c.args.graph.now c.args.found.now c.in_ok-ordinals.ordinals c.args.found_count c.in_ok-ordinals.ordinal_count _ c.requires.graph c.requires.strong c.in_ok-ordinals.ensures cs
    c.in_ok-numbers.numbers c.in_ok-component_of.component_of c.in_ok-numbers.count order
    (c.in_ok-component_of.ensures.sizes ∙ ap length c.as_slice-5.ensures)
    (subst (λ xs. (f : ℕ) → f < length c.in_ok-ordinals.ordinals → slice_index c.in_ok-component_of.component_of f ≡ slice_index xs (slice_index c.in_ok-ordinals.ordinals f)) c.as_slice-6.ensures
    (subst (λ xs. (f : ℕ) → f < length xs → slice_index c.in_ok-component_of.component_of f ≡ slice_index c.as_slice-6.result.now (slice_index xs f)) c.as_slice-5.ensures c.in_ok-component_of.ensures.numbers))
