use Rattle.analysis_summaries.specs.Known.{all_unknown}
use Rattle.sound_laws_outside.specs.Over.{IsKnownOver}
use Rattle.table_keep.specs.Model.{trees}
use Rattle.table_verify_laws.proofs.Complete.{keeps_rules}
use Rattle.table_verify_laws.proofs.Solved.{closed_at}
use Rattle.table_verify_laws.proofs.laws.rules_are_complete.Goals as goal

pub returns : goal.returns
returns c = λ T C M reports are w is.
    let known_so : IsKnownOver all_unknown (trees M) is.known = c.solved_is_known.ensures (trees M) all_unknown is.known are.accepted are.distinct is.whole in
    keeps_rules c.call_laws.ensures.exports T C M are reports w is known_so (c.results_are_of_whole.ensures M reports T is.known are w is.whole)
    (closed_at c.type_facts.ensures c.solution_laws.ensures.alive c.rounds_laws.ensures.settles (trees M) all_unknown is.known known_so)
