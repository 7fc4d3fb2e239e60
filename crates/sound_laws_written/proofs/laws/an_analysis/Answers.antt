use Rattle.sound_laws_written.proofs.Solved.{solved}
use Rattle.sound_laws_written.proofs.Written.{an_analysis}
use Rattle.sound_laws_written.proofs.laws.an_analysis.Goals as goal

pub returns : goal.returns
returns c = an_analysis c.some_groups.ensures c.stands_rests.ensures (λ xs K are. solved c.a_text.ensures c.some_is_known.ensures.known xs are K)
