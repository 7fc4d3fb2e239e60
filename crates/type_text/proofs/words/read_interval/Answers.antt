use Rattle.std.proofs.Common.{arith}
use Rattle.type_text.proofs.WordStarts.{at_range}
use Rattle.type_text.proofs.words.read_interval.Goals as goal

pub returns-in_err-low-clause-complete : goal.returns-in_err-low-clause-complete
returns-in_err-low-clause-complete c d w rest u i e = grind (arith, at_range w u i c.args.text.now rest c.in_ok-inside.inside.now e c.in_ok-inside.ensures.exact c.in_default.ensures.complete)

pub returns-then-is_range-clause-complete : goal.returns-then-is_range-clause-complete
returns-then-is_range-clause-complete c d w rest u i e = grind (arith, at_range w u i c.args.text.now rest c.in_ok-inside.inside.now e c.in_ok-inside.ensures.exact c.in_default.ensures.complete)

pub returns-else-is_range-clause-complete : goal.returns-else-is_range-clause-complete
returns-else-is_range-clause-complete c d w rest u i e = grind (arith, at_range w u i c.args.text.now rest c.in_ok-inside.inside.now e c.in_ok-inside.ensures.exact c.in_default.ensures.complete)
