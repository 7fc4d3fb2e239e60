use Rattle.std.proofs.Common.{◌≡◌, ℕ, ◌++◌, ap, ap₂, ◌∙◌}
use Rattle.std.proofs.lemmas.Result.{IfOk-weaker}
use Rattle.core_ast.specs.Tree.{all_defs, module_tree}
use Rattle.core_scope.specs.Functions.{functions_of, functions_of_defs}
use Rattle.module_flow_calls.specs.Escapes.{escaping}
use Rattle.module_flow.specs.Flow.{exported_labels, first_state, has_label, open_labels}
use Rattle.module_flow_calls.specs.NamedFunctions.{named_functions}
use Rattle.module_flow.proofs.Beginnings.{initial_first}
use Rattle.module_flow.proofs.rounds.first_state.Goals as goal

pub returns : goal.returns
returns c =
    let x = module_tree c.args.source.now in
    let defs : all_defs c.as_slice-defs.result.now ≡ x.defs = ap all_defs c.as_slice-defs.ensures in
    let functions : c.as_slice-3.result.now ≡ named_functions (functions_of x) =
    c.as_slice-3.ensures ∙ c.in_ok-names.ensures.functions ∙ ap (λ ds. named_functions (functions_of_defs ds)) defs
    in
    let values : c.as_slice.result.now ≡ escaping x.defs = c.as_slice.ensures ∙ c.in_ok-names.ensures.labels ∙ ap escaping defs in
    let labels : c.in_ok-labels.labels ≡ open_labels x =
    c.in_ok-labels.ensures
    ∙ ap₂ (λ es ds. exported_labels es ds ++ c.as_slice.result.now) c.as_slice-exports.ensures defs
    ∙ ap (λ vs. exported_labels x.exports x.defs ++ vs) values
    in
    let found : (l : ℕ) → has_label c.in_ok-escaping_labels.escaping_labels l ≡ has_label c.in_ok-labels.labels l =
    λ l. c.in_ok-escaping_labels.ensures l ∙ ap (λ ls. has_label ls l) c.as_slice-2.ensures
    in
    IfOk-weaker c.initial_functions.result (λ state. state ≡ _) (λ state. state ≡ first_state x)
    (λ state is. initial_first x c.in_ok-labels.labels c.in_ok-escaping_labels.escaping_labels c.as_slice-3.result.now state functions labels found is)
    c.initial_functions.ensures
