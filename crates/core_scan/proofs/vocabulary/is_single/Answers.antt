use Rattle.std.proofs.Common.{ap, ◌∙◌}
use Rattle.core_scan.specs.steps.Fronts.{is_known, is_symbol}
use Rattle.core_scan.proofs.vocabulary.is_single.Goals as goal

pub returns : goal.returns
unfolding is_symbol
returns c = c.is_known.ensures ∙ ap is_known c.single_sort.ensures
