use Rattle.type_lattice.proofs.ChainLaws.{falls_rank, falls_above, falls_more, height_lower}
use Rattle.type_lattice.proofs.laws.chain_laws.Goals as goal

pub returns : goal.returns
returns c = assumption (falls_rank, falls_above, falls_more, height_lower)
