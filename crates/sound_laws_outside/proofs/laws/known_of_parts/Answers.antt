use Rattle.sound_laws_outside.proofs.Parts.{parts}
use Rattle.sound_laws_outside.proofs.laws.known_of_parts.Goals as goal

pub returns : goal.returns
returns c = parts
