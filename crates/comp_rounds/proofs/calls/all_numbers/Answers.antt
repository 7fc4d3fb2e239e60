use Rattle.std.proofs.Common.{arith}
use Rattle.comp_rounds.proofs.Gathering.{number_more, number_within}
use Rattle.comp_rounds.proofs.calls.all_numbers.Goals as goal

pub loop-number-preserved : goal.loop-number-preserved
loop-number-preserved c = record {
  all = number_more c.loop-number.list c.add.new.self c.loop-number.number c.in_ok-add.ensures.ok c.loop-number.invariant.all;
  within = number_within c.loop-number.list c.add.new.self c.loop-number.number c.in_ok-add.ensures.ok c.loop-number.invariant.within;
}

pub returns-clause-within : goal.returns-clause-within
returns-clause-within c = λ i has. let low = c.loop-number.invariant.within i has in omega (arith, low, c.loop-number.auto.number-end)
