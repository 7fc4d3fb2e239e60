use Rattle.core_scope.proofs.CheckExits.{module_walked}
use Rattle.core_scope.proofs.checking.walk_module.Goals as goal

pub returns : goal.returns
returns c =
    module_walked c.walk_definitions.result c.args.walk.now c.define_all.new.walk c.walk_exports.new.walk c.walk_definitions.new.walk c.args.source.now c.as_slice-defs.result.now c.as_slice.result.now c.as_slice-2.result.now
    c.as_slice-defs.ensures c.as_slice.ensures c.as_slice-2.ensures c.requires.variables
    c.requires.functions c.requires.first c.in_ok-define_all.ensures c.walk_exports.ensures c.walk_definitions.ensures
