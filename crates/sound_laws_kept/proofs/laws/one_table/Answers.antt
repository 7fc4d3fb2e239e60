use Rattle.sound_laws_kept.proofs.Tables as tables
use Rattle.sound_laws_kept.proofs.laws.one_table.Goals as goal

pub returns : goal.returns
returns c = tables.one_table
