use Rattle.std.proofs.Common.{◌≡◌, drop}
use Rattle.core_scope.specs.Breaks.{export_breaks}
use Rattle.core_scope.specs.steps.State.{noting}
use Rattle.core_scope.proofs.checking.walk_exports.Given as goal

abbrev pub invariant-loop-name : goal.invariant-loop-name
invariant-loop-name l = noting l.walk (export_breaks l.walk.functions (drop l.name-index l.exports) l.left) ≡ noting l.fn.walk (export_breaks l.fn.walk.functions l.exports l.places)
