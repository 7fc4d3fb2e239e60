use Rattle.core_ast.specs.Tree.{all_defs, module_tree}
use Rattle.core_ast.specs.Same.{bare_defs}
use Rattle.core_ast.proofs.SameForms.{along, last, ends, stops, module_same}
use Rattle.core_ast.proofs.comparing.same.Goals as goal

pub returns-then-not-is : goal.returns-then-not-is
returns-then-not-is c = module_same (module_tree c.args.a.now) (module_tree c.args.b.now) _ (stops _ c.is.ensures c.if-not-is.true (λ w. w.0))

pub returns-then-not-same_note : goal.returns-then-not-same_note
returns-then-not-same_note c = module_same (module_tree c.args.a.now) (module_tree c.args.b.now) _ (stops _ c.same_note.ensures c.if-not-same_note.true (λ w. w.1))

pub returns-else-same_names : goal.returns-else-same_names
returns-else-same_names c = module_same (module_tree c.args.a.now) (module_tree c.args.b.now) _ (ends _ (along (λ n. n) _ _ _ _ _ c.as_slice.ensures c.as_slice-2.ensures c.same_names.ensures) c.if-same_names.false (λ w. w.2))

pub returns-then-same_names : goal.returns-then-same_names
returns-then-same_names c =
    module_same (module_tree c.args.a.now) (module_tree c.args.b.now) _
    (last _ (along (λ ds. bare_defs (all_defs ds)) _ _ _ _ _ c.as_slice-then-same_names.ensures c.as_slice-then-same_names-2.ensures c.same_definitions.ensures)
    (λ q. (c.is.ensures.0 c.if-not-is.false, c.same_note.ensures.0 c.if-not-same_note.false, (along (λ n. n) _ _ _ _ _ c.as_slice.ensures c.as_slice-2.ensures c.same_names.ensures).0 c.if-same_names.true, q)) (λ w. w.3))
