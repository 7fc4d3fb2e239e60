use Rattle.std.proofs.Common.{map, sym, ap, ◌∙◌}
use Rattle.std.proofs.lemmas.Iterator.Adapters.{YieldsList-from_vec}
use Rattle.std.proofs.lemmas.Iterator.Consumers.{YieldsList-end}
use Rattle.std.proofs.lemmas.List.{map-id}
use Rattle.std.specs.List.{flat_map}
use Rattle.call_graph.specs.Calls.{functions_of}
use Rattle.call_graph.specs.Outside.{outside_of}
use Rattle.core_ast.specs.declared.syntax.Module.{Module}
use Rattle.core_scope.specs.Checked.{tree_of}
use Rattle.core_scope.specs.declared.checked.Checked.{Checked}
use Rattle.table_keep.proofs.Leaving.{others, called_from}
use Rattle.table_keep.proofs.calls.called_functions.Goals as goal

pub returns : goal.returns
returns c =
    let tree = tree_of c.args.module.now in
    let into = c.into_iter-calls-iterator.ensures.into_iter_gives in
    let runs = YieldsList-from_vec {s = c.into_iter-calls-iterator.result} c.into_vec-calls-items.result.items into.0 (into.1 ∙ c.into_vec-calls-items.result.ok.0) in
    let end = YieldsList-end runs c.loop-calls.yielded c.loop-calls.calls-iterator c.loop-calls.yielded_by c.next.result c.next.new.self c.in-None.is c.next.ensures.steps in
    let found = c.in_ok-outside.ensures.outside
    ∙ ap (λ ms. map (outside_of (map (λ (s : Checked). tree_of s) ms)) (functions_of (map (λ (s : Checked). tree_of s) ms))) c.from_ref.ensures.value in
    let own = ap (λ (x : Module). x.name) c.module.ensures in
    let all = sym (map-id c.loop-calls.yielded) ∙ end.0 ∙ c.into_vec-calls-items.ensures in
    called_from tree c.in_ok-outside.field-0.outside c.loop-calls.leaving c.once_each.result found
    (c.loop-calls.invariant ∙ ap (λ h. flat_map (others h) c.loop-calls.yielded) own ∙ ap (flat_map (others tree.name)) all) c.once_each.ensures
