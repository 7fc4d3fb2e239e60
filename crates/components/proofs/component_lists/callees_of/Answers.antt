use Rattle.std.proofs.Common.{◌≡◌, [], ◌∙◌, subst, arith}
use Rattle.std.specs.Prelude.{Contains, slice_index}
use Rattle.std.proofs.lemmas.List.{get_or_default}
use Rattle.std.proofs.lemmas.List.Elements.{Contains-get_or}
use Rattle.components.specs.steps.ComponentLists.{list_of}
use Rattle.components.proofs.ComponentLists.{callees_more}
use Rattle.components.proofs.component_lists.callees_of.Goals as goal

pub component_callees-requires-clause-nodes : goal.component_callees-requires-clause-nodes
component_callees-requires-clause-nodes c = λ k under.
    let is : c.as_slice.result.now ≡ list_of c.args.members.now c.loop-own.own =
    c.as_slice.ensures ∙ c.index-members-own.is ∙ get_or_default c.args.members.now c.loop-own.own c.index-members-own.result [] c.loop-own-test.true in
    let has : Contains (list_of c.args.members.now c.loop-own.own) (slice_index c.as_slice.result.now k) =
    subst (λ xs. Contains xs (slice_index c.as_slice.result.now k)) is (Contains-get_or c.as_slice.result.now k 0 under) in
    omega (arith, c.requires.sizes, ((c.requires.members.exact c.loop-own.own (slice_index c.as_slice.result.now k)).0 has).0)

pub loop-own-preserved : goal.loop-own-preserved
loop-own-preserved c =
    let is : c.as_slice.result.now ≡ list_of c.args.members.now c.loop-own.own =
    c.as_slice.ensures ∙ c.index-members-own.is ∙ get_or_default c.args.members.now c.loop-own.own c.index-members-own.result [] c.loop-own-test.true in
    callees_more _ _ c.args.members.now _ _ _ _ _ _ c.loop-own.invariant c.requires.members c.requires.sizes is c.in_ok-found.ensures.sorted c.in_ok-found.ensures.exact c.in_ok-add.ensures.ok
