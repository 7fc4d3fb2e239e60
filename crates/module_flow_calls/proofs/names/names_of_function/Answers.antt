use Rattle.std.proofs.Common.{◌≡◌, [], ◌∷◌, ◌++◌, length, sym, ap, ◌∙◌, append-nil}
use Rattle.core_ast.specs.declared.syntax.Expr.{Expr}
use Rattle.core_ast.specs.declared.syntax.FunDefOf.{FunDefOf}
use Rattle.core_ast.specs.Tree.{all_defs, tree}
use Rattle.core_scope.specs.Functions.{functions, functions_of_defs}
use Rattle.module_flow_calls.specs.declared.names.NameWalk.{NameWalk}
use Rattle.module_flow_calls.specs.NamedFunctions.{named_function, named_functions}
use Rattle.module_flow_calls.specs.steps.Gathering.{defined_around, in_tree, noting, with_function}
use Rattle.module_flow_calls.proofs.names.names_of_function.Goals as goal

of_one : (w w1 w2 : NameWalk) (d : FunDefOf Expr) (body : Expr) → w.functions ≡ [] → w1 ≡ with_function w (named_function d.mark.label d.name (length d.fun.params)) → body ≡ d.fun.body
    → w2 ≡ noting w1 (in_tree (defined_around w1) (tree body))
    → w2.functions ≡ named_functions (functions_of_defs (all_defs (d ∷ [])))
of_one w w1 w2 d body none one body_is two =
    let f = named_function d.mark.label d.name (length d.fun.params) in
    ap (λ v. v.functions) two
    ∙ ap (λ v. v.functions ++ named_functions (functions (tree body))) one
    ∙ ap (λ fs. (fs ++ f ∷ []) ++ named_functions (functions (tree body))) none
    ∙ ap (λ b. f ∷ named_functions (functions (tree b))) body_is
    ∙ ap (λ fs. f ∷ named_functions fs) (sym (append-nil (functions (tree d.fun.body))))

pub returns : goal.returns
returns c =
    of_one (record { alloc = c.args.alloc; defined = c.new.result; labels = c.new-2.result; functions = c.new-3.result }) c.define.new.self c.note_names.new.walk c.args.def.now c.get.result.now
    c.new-3.ensures c.in_ok-define.ensures c.get.ensures c.in_ok-note_names.ensures
