use Rattle.std.proofs.Common.{arith, subst}
use Rattle.std.specs.List.{AllZip}
use Rattle.std.proofs.lemmas.List.{get_or_default, take_all}
use Rattle.std.proofs.lemmas.List.Elements.{Contains-get_or}
use Rattle.fun_flow_applied.specs.steps.Calls.{IsCallOf}
use Rattle.fun_flow_applied.proofs.Zipped.{zip_round}
use Rattle.fun_flow_applied.proofs.calls.calls_of.Goals as goal

pub call_of-requires : goal.call_of-requires
call_of-requires c = record { there = c.requires.there _ (Contains-get_or c.args.found.now c.loop-application.application-index _ c.loop-application-test.true) }

pub loop-application-preserved : goal.loop-application-preserved
loop-application-preserved c =
    zip_round (IsCallOf c.args.texts.now c.args.sets.now) c.args.found.now c.loop-application.application-index _ c.loop-application.calls c.add.new.self c.in_ok-call.call
    c.loop-application-test.true (get_or_default c.args.found.now c.loop-application.application-index _ _ c.loop-application-test.true)
    c.loop-application.invariant c.in_ok-add.ensures.ok c.in_ok-call.ensures

pub returns : goal.returns
returns c =
    subst (λ found. AllZip (IsCallOf c.args.texts.now c.args.sets.now) found c.loop-application.calls)
    (take_all c.loop-application.application-index c.args.found.now (let t = c.loop-application-test.false in omega arith)) c.loop-application.invariant
