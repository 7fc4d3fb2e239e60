use Rattle.std.proofs.Common.{ap, ◌∙◌}
use Rattle.core_ast.specs.Tree.{clause_parts}
use Rattle.cons_gen_rows.specs.Knowing.{knowledge}
use Rattle.cons_gen_rows.specs.declared.passes.Pass.TheVariants.{Strict}
use Rattle.cons_gen.specs.Made.{clause_constraint, seen}
use Rattle.cons_gen.proofs.MadeExits.{clause_end, clause_rows_are, clause_slot, clause_variables}
use Rattle.cons_gen.proofs.making.clause.Goals as goal

pub returns-clause-constraint : goal.returns-clause-constraint
returns-clause-constraint c =
    c.finished.ensures.constraint
    ∙ clause_rows_are (record { home = c.args.home; known = c.args.known; pass = record { ref_ptr = c.args.home.ref_ptr; now = Strict } }) c.in_ok-made.made c.walk_outer.new.made c.all_since.new.self c.walk_expression.new.made
    c.all_since-2.new.self (seen c.args.scope.now) c.as_slice.result.now c.args.scope.now.slots c.args.clause.now c.as_slice-2.result.now c.in_ok-made.ensures.scope c.in_ok-made.ensures.next c.in_ok-made.ensures.members
    c.as_slice-2.ensures
    c.in_ok-walk_outer.ensures c.in_ok-all_since.ensures c.in_ok-walk_expression.ensures c.in_ok-all_since-2.ensures
    ∙ ap (λ qs. clause_constraint (knowledge Strict c.args.known.now) c.args.home.now (seen c.args.scope.now) qs c.args.scope.now.slots (clause_parts c.args.clause.now).patterns (clause_parts c.args.clause.now).guard) c.as_slice.ensures

pub returns-clause-params : goal.returns-clause-params
returns-clause-params c =
    c.finished.ensures.params
    ∙ clause_variables (record { home = c.args.home; known = c.args.known; pass = record { ref_ptr = c.args.home.ref_ptr; now = Strict } }) c.in_ok-made.made c.walk_outer.new.made c.all_since.new.self c.walk_expression.new.made
    c.all_since-2.new.self (seen c.args.scope.now) c.as_slice.result.now c.args.scope.now.slots c.args.clause.now c.as_slice-2.result.now c.in_ok-made.ensures.scope c.in_ok-made.ensures.next c.in_ok-made.ensures.members
    c.as_slice-2.ensures
    c.in_ok-walk_outer.ensures c.in_ok-all_since.ensures c.len-around.result c.in_ok-params.params c.len-around.ensures c.in_ok-params.ensures

pub returns-clause-value : goal.returns-clause-value
returns-clause-value c =
    c.finished.ensures.value
    ∙ clause_slot (record { home = c.args.home; known = c.args.known; pass = record { ref_ptr = c.args.home.ref_ptr; now = Strict } }) c.in_ok-made.made c.walk_outer.new.made c.all_since.new.self c.walk_expression.new.made
    c.all_since-2.new.self (seen c.args.scope.now) c.as_slice.result.now c.args.scope.now.slots c.args.clause.now c.as_slice-2.result.now c.in_ok-made.ensures.scope c.in_ok-made.ensures.next c.in_ok-made.ensures.members
    c.as_slice-2.ensures
    c.in_ok-walk_outer.ensures c.in_ok-all_since.ensures

pub returns-clause-slots : goal.returns-clause-slots
returns-clause-slots c =
    c.finished.ensures.slots ∙ c.in_ok-all_since-2.ensures.next
    ∙ clause_end (record { home = c.args.home; known = c.args.known; pass = record { ref_ptr = c.args.home.ref_ptr; now = Strict } }) c.in_ok-made.made c.walk_outer.new.made c.all_since.new.self c.walk_expression.new.made
    c.all_since-2.new.self (seen c.args.scope.now) c.as_slice.result.now c.args.scope.now.slots c.args.clause.now c.as_slice-2.result.now c.in_ok-made.ensures.scope c.in_ok-made.ensures.next c.in_ok-made.ensures.members
    c.as_slice-2.ensures
    c.in_ok-walk_outer.ensures c.in_ok-all_since.ensures c.in_ok-walk_expression.ensures
