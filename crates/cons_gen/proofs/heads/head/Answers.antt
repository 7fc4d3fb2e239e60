use Rattle.std.proofs.Common.{◌≡◌, map, ap, ◌∙◌}
use Rattle.core_ast.specs.Tree.{clause_parts}
use Rattle.cons_tree.specs.Constraints.{constraint}
use Rattle.cons_gen_rows.specs.Knowing.{knowledge}
use Rattle.cons_gen_rows.specs.Scopes.{Scope}
use Rattle.cons_gen_rows.specs.Walking.{scope_of}
use Rattle.cons_gen_rows.specs.declared.passes.Pass.TheVariants.{Strict}
use Rattle.cons_gen.proofs.MadeExits.{told_end, told_functions, told_rows, told_variables}
use Rattle.cons_gen.proofs.heads.head.Goals as goal

pub returns-clause-rows : goal.returns-clause-rows
returns-clause-rows c =
    let sc : Scope = record { variables = c.args.scope.now.variables; functions = c.args.scope.now.functions } in
    let scoped : scope_of c.entered-made.result ≡ sc = λ i. record { variables = c.entered-made.ensures.variables i; functions = c.entered-made.ensures.functions i } in
    ap (map constraint) c.finished.ensures.rows
    ∙ told_rows (knowledge Strict c.args.known.now) c.args.home.now c.entered-made.result c.walk_head.new.made sc c.args.args.now c.args.first (clause_parts c.args.clause.now).patterns
    (clause_parts c.args.clause.now).guard scoped c.entered-made.ensures.next c.in_ok-walk_head.ensures

pub returns-clause-slots : goal.returns-clause-slots
returns-clause-slots c =
    let sc : Scope = record { variables = c.args.scope.now.variables; functions = c.args.scope.now.functions } in
    let scoped : scope_of c.entered-made.result ≡ sc = λ i. record { variables = c.entered-made.ensures.variables i; functions = c.entered-made.ensures.functions i } in
    c.finished.ensures.slots
    ∙ told_end (knowledge Strict c.args.known.now) c.args.home.now c.entered-made.result c.walk_head.new.made sc c.args.args.now c.args.first (clause_parts c.args.clause.now).patterns
    (clause_parts c.args.clause.now).guard scoped c.entered-made.ensures.next c.in_ok-walk_head.ensures

pub returns-clause-variables : goal.returns-clause-variables
returns-clause-variables c =
    let sc : Scope = record { variables = c.args.scope.now.variables; functions = c.args.scope.now.functions } in
    let scoped : scope_of c.entered-made.result ≡ sc = λ i. record { variables = c.entered-made.ensures.variables i; functions = c.entered-made.ensures.functions i } in
    c.finished.ensures.variables
    ∙ told_variables (knowledge Strict c.args.known.now) c.args.home.now c.entered-made.result c.walk_head.new.made sc c.args.args.now c.args.first (clause_parts c.args.clause.now).patterns
    (clause_parts c.args.clause.now).guard scoped c.entered-made.ensures.next c.in_ok-walk_head.ensures

pub returns-clause-functions : goal.returns-clause-functions
returns-clause-functions c =
    let sc : Scope = record { variables = c.args.scope.now.variables; functions = c.args.scope.now.functions } in
    let scoped : scope_of c.entered-made.result ≡ sc = λ i. record { variables = c.entered-made.ensures.variables i; functions = c.entered-made.ensures.functions i } in
    c.finished.ensures.functions
    ∙ told_functions (knowledge Strict c.args.known.now) c.args.home.now c.entered-made.result c.walk_head.new.made sc c.args.args.now c.args.first (clause_parts c.args.clause.now).patterns
    (clause_parts c.args.clause.now).guard scoped c.entered-made.ensures.next c.in_ok-walk_head.ensures
