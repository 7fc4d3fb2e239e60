use Rattle.std.proofs.Common.{◌∙◌, ap, arith, subst, sym}
use Rattle.core_ast.specs.Tree.{module_tree}
use Rattle.core_scope.specs.Checked.{module_of}
use Rattle.fun_flow_places.specs.Tables.{IsTableOf}
use Rattle.fun_flow_rules.proofs.ModuleWalks.{distinct_names, passing_all, passing_begins, passing_round}
use Rattle.fun_flow_rules.proofs.program.program_rules.Goals as goal

pub loop-position-init : goal.loop-position-init
loop-position-init g c = passing_begins _ c.new-walk.result (subst (IsTableOf _) (sym c.new-walk.ensures.table) c.in_ok-table.ensures) c.new-walk.ensures.variables c.new-walk.ensures.functions c.new-walk.ensures.rules

pub loop-position-preserved : goal.loop-position-preserved
loop-position-preserved g c =
    passing_round g.S.AsChecked.stands_for c.args.mods.now c.loop-position.walk c.walk_module.new.walk c.loop-position.position c.index-mods-position.result (module_tree c.module.result.now)
    (distinct_names g.S.AsChecked.stands_for c.args.mods.now c.requires.distinct) (omega (arith, c.loop-position-test.true)) c.index-mods-position.is
    (ap module_tree (c.module.ensures ∙ ap module_of c.checked.ensures)) c.in_ok-walk_module.ensures c.loop-position.invariant

pub returns : goal.returns
returns g c = passing_all g.S.AsChecked.stands_for c.args.mods.now c.loop-position.walk c.loop-position.position c.take_rules.result (let t = c.loop-position-test.false in omega arith) c.take_rules.ensures.rules c.loop-position.invariant
