use Rattle.std.proofs.Common.{arith, map}
use Rattle.core_scope.specs.Checked.{module_of}
use Rattle.core_scope.proofs.CheckExits.{still_none}
use Rattle.core_scope.proofs.sets.check_set.Goals as goal

pub loop-second-preserved : goal.loop-second-preserved
loop-second-preserved g c = record {
  within = let t = c.loop-second-test.true in omega arith;
  none = still_none (map (λ s. (module_of (g.S.AsChecked.stands_for s)).name) c.args.sources.now) c.first_of_name-first.result c.loop-second.second c.first_of_name-first.ensures.within c.if-first-second.false
      c.first_of_name-first.ensures.earliest c.loop-second.invariant.none;
}

pub returns-clause-distinct : goal.returns-clause-distinct
returns-clause-distinct g c = λ j within. c.loop-second.invariant.none j (let t = c.loop-second-test.false in omega arith)
