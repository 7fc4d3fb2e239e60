use Rattle.analysis_crew.proofs.Outputs.{outputs_are}
use Rattle.analysis_crew.proofs.laws.outputs_are_summaries.Goals as goal

pub returns : goal.returns
returns c = λ around xs graph k part callees accepted apart is r parts called n low.
    outputs_are c.rounds_laws.ensures.take xs accepted apart graph is k r around part callees parts called n low
