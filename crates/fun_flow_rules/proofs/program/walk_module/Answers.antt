use Rattle.std.proofs.Common.{◌∙◌, ◌++◌, ap, subst}
use Rattle.core_ast.specs.Tree.{all_defs, module_tree}
use Rattle.core_meaning.specs.Programs.{locals_of}
use Rattle.fun_flow_places.specs.Tables.{frame}
use Rattle.fun_flow_rules.specs.steps.Walking.{Makes, opened_rules}
use Rattle.fun_flow_sets.specs.Rules.{rules_of_definitions}
use Rattle.fun_flow_rules.proofs.ModuleWalks.{begun, module_walked, without_functions}
use Rattle.fun_flow_rules.proofs.program.walk_module.Goals as goal

pub returns : goal.returns
returns c =
    module_walked c.args.walk.now (begun c.args.walk.now c.args.position c.define_module.new.functions) c.walk_exports.new.walk c.walk_definitions.new.walk _ c.args.position (module_tree c.args.source.now)
    (ap (begun c.args.walk.now c.args.position) (c.in_ok-define_module.ensures ∙ ap (λ ds. c.args.walk.now.functions ++ frame (locals_of (all_defs ds))) c.as_slice.ensures))
    (subst (λ fs. Makes (begun c.args.walk.now c.args.position c.define_module.new.functions) c.walk_exports.new.walk (λ U home sc. opened_rules U home sc fs)) c.as_slice-2.ensures c.in_ok-walk_exports.ensures)
    (subst (λ ds. Makes c.walk_exports.new.walk c.walk_definitions.new.walk (λ U home sc. rules_of_definitions U home sc (all_defs ds))) c.as_slice-3.ensures c.in_ok-walk_definitions.ensures)
    (ap (without_functions c.walk_definitions.new.walk) c.leave.ensures)
