use Rattle.std.proofs.Common.{arith}
use Rattle.std.proofs.lemmas.List.{drop_more, drop_all}
use Rattle.type_lattice.specs.Types.{is_none}
use Rattle.type_lattice.proofs.makers.any_none.Goals as goal

pub returns-then-is_none : goal.returns-then-is_none
unfolding is_none
returns-then-is_none c = grind (arith, drop_more)

pub loop-t-preserved : goal.loop-t-preserved
unfolding is_none
loop-t-preserved c = grind (arith, drop_more)

pub returns : goal.returns
returns c = grind (arith, drop_all)
