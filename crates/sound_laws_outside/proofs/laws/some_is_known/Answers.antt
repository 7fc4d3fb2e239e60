use Rattle.sound_laws_outside.proofs.Something.{some_whole, some}
use Rattle.sound_laws_outside.proofs.laws.some_is_known.Goals as goal

pub returns-clause-whole : goal.returns-clause-whole
returns-clause-whole c = some_whole c.a_numbering.ensures

pub returns-clause-known : goal.returns-clause-known
returns-clause-known c = some c.a_numbering.ensures c.solved_is_known.ensures
