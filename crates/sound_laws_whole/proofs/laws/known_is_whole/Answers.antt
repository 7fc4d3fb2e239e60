use Rattle.std.proofs.Common.{subst, sym}
use Rattle.sound_laws_rounds.specs.Whole.{IsWhole}
use Rattle.sound_laws_whole.proofs.Wholes.{is_whole}
use Rattle.sound_laws_whole.proofs.laws.known_is_whole.Goals as goal

pub returns : goal.returns
returns c = λ xs known accepted apart is. subst (IsWhole xs) (sym is.known_so) (is_whole xs accepted apart is.graph is.is_graph is.numbering is.is_numbering)
