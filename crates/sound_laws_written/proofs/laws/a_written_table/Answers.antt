use Rattle.sound_laws_written.proofs.Solved.{solved}
use Rattle.sound_laws_written.proofs.Written.{a_written_table}
use Rattle.sound_laws_written.proofs.laws.a_written_table.Goals as goal

pub returns : goal.returns
returns c = a_written_table c.some_groups.ensures c.stands_rests.ensures (λ xs K are. solved c.a_text.ensures c.some_is_known.ensures.known xs are K) c.rounds_laws.ensures.take
