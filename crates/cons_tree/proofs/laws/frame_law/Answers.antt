use Rattle.cons_tree.proofs.FrameLaws.{free_part}
use Rattle.cons_tree.proofs.laws.frame_law.Goals as goal

pub returns : goal.returns
returns c = λ p s t xs d. free_part s p d t xs
