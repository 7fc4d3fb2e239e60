use Rattle.std.proofs.Common.{Contains, sym, subst}
use Rattle.core_ast.specs.Tree.{all_defs}
use Rattle.core_ast.specs.declared.syntax.Module.{Module}
use Rattle.core_scope.specs.Checked.{tree_of}
use Rattle.core_scope.specs.Names.{defined_names}
use Rattle.cons_tree.specs.Callees.{found}
use Rattle.analysis_typings.specs.Typings.{HasSummary}
use Rattle.analysis.proofs.certificate.functions_of.Goals as goal

pub defined_in-requires-clause-small : goal.defined_in-requires-clause-small
defined_in-requires-clause-small c = λ f among.
    c.small_definitions.ensures (tree_of c.args.source.now.checked) f (c.checked_laws.ensures.accepted c.args.source.now.checked).spelled
    (subst (λ (x : Module). Contains (defined_names (all_defs x.defs)) f) c.module.ensures among)

pub defined_in-requires-clause-known : goal.defined_in-requires-clause-known
defined_in-requires-clause-known c = λ f among.
    subst (λ (x : Module). HasSummary (found c.args.known.now x.name f)) (sym c.module.ensures)
    (c.requires f (subst (λ (x : Module). Contains (defined_names (all_defs x.defs)) f) c.module.ensures among))
