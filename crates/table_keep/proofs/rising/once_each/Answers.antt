use Rattle.std.proofs.Common.{[], ◌∷◌, length, refl, sym, ap, ◌∙◌, rules}
use Rattle.std.proofs.lemmas.Iterator.Adapters.{YieldsList-from_vec}
use Rattle.std.proofs.lemmas.Iterator.Consumers.{YieldsList-so_far, YieldsList-turn, YieldsList-end}
use Rattle.std.proofs.lemmas.List.{map-id}
use Rattle.std.proofs.lemmas.List.Sorted.{ranks_by, answers_always}
use Rattle.std.specs.Ordering.{is_lt}
use Rattle.type_kinds_sets.proofs.AscendingLaws.{ascending-merged, merged-append}
use Rattle.type_kinds_sets.specs.Ascending.{is_ascending, merged, placed}
use Rattle.table_keep.proofs.RisingLaws.{none_above, merged_none_above, merged_permutation}
use Rattle.table_keep.proofs.rising.once_each.Goals as goal

pub add_higher-requires-clause-rising : goal.add_higher-requires-clause-rising
add_higher-requires-clause-rising g c = ap (is_ascending g.T.InOrder.order) c.loop-item.invariant ∙ ascending-merged g.met.T.InOrder.total g.met.T.InOrder.same [] c.loop-item.yielded refl

pub add_higher-requires-clause-above : goal.add_higher-requires-clause-above
add_higher-requires-clause-above g c =
    let into = c.into_iter-item-iterator.ensures.into_iter_gives in
    let runs = YieldsList-from_vec {s = c.into_iter-item-iterator.result} c.sort_unstable_by.new.self.items into.0 (into.1 ∙ c.sort_unstable_by.new.self.ok.0) in
    let turn = YieldsList-turn runs c.loop-item.yielded c.loop-item.item-iterator c.loop-item.yielded_by c.next.result c.next.new.self c.in-Some.item c.in-Some.is c.next.ensures.steps in
    let so_far = YieldsList-so_far runs c.loop-item.yielded c.loop-item.item-iterator c.loop-item.yielded_by in
    let up = c.sort_unstable_by.ensures.sorted (λ x y. is_lt (g.T.InOrder.order x y)) (ranks_by g.met.T.InOrder.total (λ x. x)) (answers_always _ _ _ (λ f a r k h. search rules)) in
    let order = g.T.InOrder.order in
    ap (none_above order c.in-Some.item) (c.loop-item.invariant ∙ ap (merged order []) (sym (map-id c.loop-item.yielded) ∙ so_far))
    ∙ merged_none_above g.met.T.InOrder.total g.met.T.InOrder.same c.sort_unstable_by.new.self.items (length c.loop-item.yielded) c.in-Some.item up turn.0 turn.1

pub loop-item-preserved : goal.loop-item-preserved
loop-item-preserved g c = c.in_ok-add_higher.ensures ∙ ap (placed g.T.InOrder.order c.in-Some.item) c.loop-item.invariant ∙ sym (merged-append g.T.InOrder.order [] c.loop-item.yielded (c.in-Some.item ∷ []))

pub returns : goal.returns
returns g c =
    let into = c.into_iter-item-iterator.ensures.into_iter_gives in
    let runs = YieldsList-from_vec {s = c.into_iter-item-iterator.result} c.sort_unstable_by.new.self.items into.0 (into.1 ∙ c.sort_unstable_by.new.self.ok.0) in
    let end = YieldsList-end runs c.loop-item.yielded c.loop-item.item-iterator c.loop-item.yielded_by c.next.result c.next.new.self c.in-None.is c.next.ensures.steps in
    let order = g.T.InOrder.order in
    c.loop-item.invariant ∙ ap (merged order []) (sym (map-id c.loop-item.yielded) ∙ end.0)
    ∙ merged_permutation g.met.T.InOrder.total g.met.T.InOrder.same c.into_vec-items.result.items c.sort_unstable_by.new.self.items c.sort_unstable_by.ensures.permutation
    ∙ ap (merged order []) c.into_vec-items.ensures
