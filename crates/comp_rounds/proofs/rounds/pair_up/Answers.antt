use Rattle.std.proofs.Common.{refl, arith}
use Rattle.comp_rounds.specs.Rounds.{paired}
use Rattle.comp_rounds.proofs.Nexts.{paired_nothing}
use Rattle.comp_rounds.proofs.Steps.{made_all}
use Rattle.comp_rounds.proofs.rounds.pair_up.Goals as goal

pub returns : goal.returns
returns c =
    made_all paired (λ ts. refl) paired_nothing c.args.strict.now c.args.lenient.now c.loop-at.at (omega arith) c.loop-at.list
    (paired c.args.strict.now c.args.lenient.now) c.loop-at.invariant
