use Rattle.std.proofs.Common.{◌≡◌, ◌↔◌, ◌⊎◌, Contains, ap, ◌∙◌, subst}
use Rattle.std.proofs.lemmas.Result.{on_ok_weaker}
use Rattle.components.specs.Graph.{Leads}
use Rattle.call_graph.specs.Among.{body_targets}
use Rattle.call_graph.specs.steps.Walking.{callees}
use Rattle.call_graph.proofs.Lasts.{walked}
use Rattle.call_graph.proofs.among.add_calls.Goals as goal

pub add_caller-requires-clause-within : goal.add_caller-requires-clause-within
add_caller-requires-clause-within g c = λ j has.
    let f = g.S.AsFunction.stands_for c.args.function.now in
    let w = c.args.walk.now in
    let found : c.as_slice.result.now ≡ callees w.table f.0 (body_targets f) =
    walked w.table c.as_slice.result.now c.in_ok-walk.field-0 c.module_name.result.now w.locals c.get.result.now c.definition-def.result.now f (c.as_slice.ensures ∙ ap (λ v. v.callees) c.in_ok-walk_body.ensures)
    c.in_ok-walk.ensures c.module_name.ensures c.requires.locals c.get.ensures c.definition-def.ensures in
    c.requires.within f.0 (body_targets f) j (subst (λ l. Contains l j) found has)

pub returns-clause-added : goal.returns-clause-added
returns-clause-added g c =
    let f = g.S.AsFunction.stands_for c.args.function.now in
    let w = c.args.walk.now in
    let found : c.as_slice.result.now ≡ callees w.table f.0 (body_targets f) =
    walked w.table c.as_slice.result.now c.in_ok-walk.field-0 c.module_name.result.now w.locals c.get.result.now c.definition-def.result.now f (c.as_slice.ensures ∙ ap (λ v. v.callees) c.in_ok-walk_body.ensures)
    c.in_ok-walk.ensures c.module_name.ensures c.requires.locals c.get.ensures c.definition-def.ensures in
    on_ok_weaker c.add.result
    (λ is i j. subst (λ l. Leads c.add_caller.new.callers j i ↔ (Leads c.args.calls.now.callers j i ⊎ ((i ≡ c.args.at) × Contains l j))) found (c.in_ok-add_caller.ensures.added i j)) c.add.ensures.ok
