use Rattle.std.proofs.Common.{◌≡◌, ◌+◌, ◌++◌, drop, map, sym, ap, ◌∙◌, subst}
use Rattle.core_ast.specs.Tree.{all_defs}
use Rattle.core_scope.specs.Checked.{module_of, tree_of}
use Rattle.core_scope.specs.Names.{has_function}
use Rattle.call_graph.specs.Calls.{module_functions}
use Rattle.comp_rounds.specs.Members.{function_of}
use Rattle.analysis_summaries.specs.Functions.{summarized}
use Rattle.analysis_summaries.proofs.Members.{summarized_in, member_made}
use Rattle.analysis_summaries.proofs.functions.add_members.Goals as goal

pub loop-at-preserved : goal.loop-at-preserved
loop-at-preserved c =
    let source = module_of c.args.checked.now in
    let exports : c.in_ok-exports.exports ≡ (module_of c.args.checked.now).exports =
    c.in_ok-exports.ensures ∙ c.as_slice.ensures ∙ ap (λ x. x.exports) c.module-source.ensures in
    subst
    (λ ms.
    map function_of ms ++ summarized_in source.name source.exports (all_defs (drop (c.loop-at.at + 1) source.defs))
    ≡ map function_of c.args.members.now ++ map summarized (module_functions (tree_of c.args.checked.now)))
    (sym c.in_ok-add.ensures.ok)
    (member_made c.loop-at.members c.in_ok-member.member source.name source.exports source.defs c.loop-at.at c.in_ok-member.ensures.def c.in_ok-member.ensures.home
    (c.in_ok-member.ensures.exported ∙ ap (λ names. has_function names c.in_ok-member.member.def.name) exports) _ c.loop-at.invariant)
