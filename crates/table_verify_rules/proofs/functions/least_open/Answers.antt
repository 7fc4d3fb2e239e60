use Rattle.std.proofs.Common.{◌≡◌, ◌<◌, ◌++◌, map, sym, ◌∙◌, subst, add-one, arith}
use Rattle.type_kinds.proofs.Lists.{contains_none}
use Rattle.cons_tree.specs.Callees.{found}
use Rattle.comp_rounds.specs.Members.{function_of}
use Rattle.analysis_summaries.specs.Functions.{picked}
use Rattle.table_verify_laws.specs.Closed.{IsClosedAt}
use Rattle.table_verify_rules.specs.steps.Components.{first_components, AreComponent}
use Rattle.table_verify_rules.specs.steps.Leasts.{IsLeastOpen}
use Rattle.table_verify_rules.proofs.Components.{first_in}
use Rattle.table_verify_rules.proofs.Leasts.{same_least}
use Rattle.table_verify_rules.proofs.functions.least_open.Goals as goal

pub loop-component-init : goal.loop-component-init
loop-component-init c = λ g has. absurd (contains_none g has)

pub with_component-requires : goal.with_component-requires
with_component-requires c =
    let n = c.loop-component.component in
    subst (AreComponent (map function_of c.args.members.now)) (sym (c.as_slice-numbers.ensures ∙ c.members.ensures.members))
    (c.requires.each n (subst (λ k. n < k) c.count-component-end.ensures c.loop-component-test.true))

pub loop-component-preserved : goal.loop-component-preserved
loop-component-preserved c =
    let fs = map function_of c.args.members.now in let K = found c.args.known.now in let n = c.loop-component.component in let comps = c.args.comps.now in
    let numbers = c.as_slice-numbers.ensures ∙ c.members.ensures.members in
    subst (λ k. IsLeastOpen fs K (first_components fs comps k) c.in_ok-least.least) (sym (add-one n))
    (subst (λ js. IsLeastOpen fs K (first_components fs comps n ++ picked fs js) c.in_ok-least.least) numbers (c.in_ok-least.ensures (first_components fs comps n) c.loop-component.invariant))

pub returns : goal.returns
returns c =
    let fs = map function_of c.args.members.now in let K = found c.args.known.now in let comps = c.args.comps.now in
    let end : c.loop-component.component ≡ comps.count = omega arith in
    same_least (λ g. g.home) (IsClosedAt fs K) (first_components fs comps comps.count) fs (first_in fs comps comps.count) c.requires.all c.loop-component.least
    (subst (λ n. IsLeastOpen fs K (first_components fs comps n) c.loop-component.least) end c.loop-component.invariant)
