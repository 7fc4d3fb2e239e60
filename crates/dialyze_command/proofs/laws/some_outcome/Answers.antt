use Rattle.dialyze_command.proofs.SomeOutcome.{outcome_of}
use Rattle.dialyze_command.proofs.laws.some_outcome.Goals as goal

pub returns : goal.returns
returns c = λ words held are_bytes.
    outcome_of c.every_accepted.ensures c.an_analysis.ensures c.a_written_table.ensures words held (c.some_answer.ensures words held are_bytes)
