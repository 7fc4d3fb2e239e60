use Rattle.std.proofs.Common.{ap}
use Rattle.sound_laws.specs.Knowledge.{summary_of}
use Rattle.sound_laws.specs.Summaries.{strict_of, lenient_of}
use Rattle.sound_laws.proofs.Accepted.{labels_stand}
use Rattle.sound_laws.proofs.Summaries.{gave_in_signature}
use Rattle.sound_laws.proofs.laws.success_typings.Goals as goal

pub returns-clause-strict : goal.returns-clause-strict
returns-clause-strict c U S accepted closed stage tr r home f s w vs v known top i =
    gave_in_signature c.facts.ensures c.solution_facts.ensures U (labels_stand c.label_laws.ensures.definitions U accepted) (λ home f. strict_of (summary_of (S home f))) closed.strict stage tr home f w s.strict vs v r top
    (ap strict_of known) i

pub returns-clause-lenient : goal.returns-clause-lenient
returns-clause-lenient c U S accepted closed stage tr r home f s w vs v known top i =
    gave_in_signature c.facts.ensures c.solution_facts.ensures U (labels_stand c.label_laws.ensures.definitions U accepted) (λ home f. lenient_of (summary_of (S home f))) closed.lenient stage tr home f w s.lenient vs v r top
    (ap lenient_of known) i
