use Rattle.std.proofs.Common.{map, take}
use Rattle.core_scope.specs.Checked.{tree_of}
use Rattle.cons_tree.specs.Callees.{found}
use Rattle.analysis_typings.specs.Typings.{AreKnownOf}
use Rattle.analysis_typings.proofs.listing.all_summaries.Given as goal

abbrev pub invariant-loop-source : goal.invariant-loop-source
invariant-loop-source g l = AreKnownOf (found l.known) (map (λ s. tree_of (g.S.AsChecked.stands_for s)) (take l.source-index l.mods)) l.all
