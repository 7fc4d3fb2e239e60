use Rattle.sound_laws_kept.proofs.Entries as entries
use Rattle.sound_laws_kept.proofs.laws.entries_use_called.Goals as goal

pub returns : goal.returns
returns c = entries.entries_use_called
