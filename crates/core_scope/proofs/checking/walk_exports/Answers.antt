use Rattle.core_scope.proofs.CheckExits.{exports_round}
use Rattle.core_scope.proofs.checking.walk_exports.Goals as goal

pub loop-name-preserved : goal.loop-name-preserved
loop-name-preserved c =
    exports_round c.loop-name.walk c.test.new.self _ c.args.exports.now c.loop-name.name-index c.name-item.result c.loop-name.left.now c.next_place.result.1.now c.next_place.result.0 c.has-holds.result c.loop-name-test.true c.name-item.is
    c.has-holds.ensures c.next_place.ensures.place c.next_place.ensures.rest c.test.ensures c.loop-name.invariant
