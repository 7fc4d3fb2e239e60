use Rattle.std.proofs.Common.{◌≡◌, ℕ, ◌<◌, ◌↔◌, ◌∙◌, ap, length, subst}
use Rattle.std.specs.Prelude.{Contains, slice_index}
use Rattle.components.specs.steps.ComponentLists.{list_of, IsMembers, CalleesTo}
use Rattle.components.proofs.Finished.{kept_numbering}
use Rattle.components.proofs.numbering.components.Goals as goal

pub invariant_of-result : goal.invariant_of-result
invariant_of-result c =
    let ms : IsMembers c.in_ok-component_of.component_of c.in_ok-members.members c.in_ok-component_of.count =
    subst (λ xs. IsMembers xs c.in_ok-members.members c.in_ok-component_of.count) c.as_slice-2.ensures c.in_ok-members.ensures in
    let size : length c.as_slice-4.result.now ≡ c.in_ok-component_of.count = ap length c.as_slice-4.ensures ∙ ms.sizes in
    let cs : CalleesTo c.args.graph.now c.in_ok-component_of.component_of c.in_ok-callees.callees c.in_ok-component_of.count =
    subst (λ n. CalleesTo c.args.graph.now c.in_ok-component_of.component_of c.in_ok-callees.callees n) size
    (subst (λ xs. CalleesTo c.args.graph.now xs c.in_ok-callees.callees (length c.as_slice-4.result.now)) c.as_slice-3.ensures c.in_ok-callees.ensures) in
    kept_numbering _ _ _ _ _ c.in_ok-component_of.ensures ms cs

pub returns-clause-members : goal.returns-clause-members
returns-clause-members c =
    let ms : IsMembers c.in_ok-component_of.component_of c.in_ok-members.members c.in_ok-component_of.count =
    subst (λ xs. IsMembers xs c.in_ok-members.members c.in_ok-component_of.count) c.as_slice-2.ensures c.in_ok-members.ensures in
    subst (λ size. (n f : ℕ) → Contains (list_of c.in_ok-members.members n) f ↔ ((f < size) × (slice_index c.in_ok-component_of.component_of f ≡ n))) c.in_ok-component_of.ensures.strong.sizes ms.exact

pub returns-clause-callees : goal.returns-clause-callees
returns-clause-callees c =
    let ms : IsMembers c.in_ok-component_of.component_of c.in_ok-members.members c.in_ok-component_of.count =
    subst (λ xs. IsMembers xs c.in_ok-members.members c.in_ok-component_of.count) c.as_slice-2.ensures c.in_ok-members.ensures in
    let size : length c.as_slice-4.result.now ≡ c.in_ok-component_of.count = ap length c.as_slice-4.ensures ∙ ms.sizes in
    let cs : CalleesTo c.args.graph.now c.in_ok-component_of.component_of c.in_ok-callees.callees c.in_ok-component_of.count =
    subst (λ n. CalleesTo c.args.graph.now c.in_ok-component_of.component_of c.in_ok-callees.callees n) size
    (subst (λ xs. CalleesTo c.args.graph.now xs c.in_ok-callees.callees (length c.as_slice-4.result.now)) c.as_slice-3.ensures c.in_ok-callees.ensures) in
    cs.exact

pub returns-clause-kept : goal.returns-clause-kept
returns-clause-kept c =
    let ms : IsMembers c.in_ok-component_of.component_of c.in_ok-members.members c.in_ok-component_of.count =
    subst (λ xs. IsMembers xs c.in_ok-members.members c.in_ok-component_of.count) c.as_slice-2.ensures c.in_ok-members.ensures in
    let size : length c.as_slice-4.result.now ≡ c.in_ok-component_of.count = ap length c.as_slice-4.ensures ∙ ms.sizes in
    let cs : CalleesTo c.args.graph.now c.in_ok-component_of.component_of c.in_ok-callees.callees c.in_ok-component_of.count =
    subst (λ n. CalleesTo c.args.graph.now c.in_ok-component_of.component_of c.in_ok-callees.callees n) size
    (subst (λ xs. CalleesTo c.args.graph.now xs c.in_ok-callees.callees (length c.as_slice-4.result.now)) c.as_slice-3.ensures c.in_ok-callees.ensures) in
    kept_numbering _ _ _ _ _ c.in_ok-component_of.ensures ms cs
