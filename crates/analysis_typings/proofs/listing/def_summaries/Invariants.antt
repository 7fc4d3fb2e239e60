use Rattle.std.proofs.Common.{map, take}
use Rattle.cons_tree.specs.Callees.{found}
use Rattle.analysis_typings.specs.Typings.{AreKnownIn}
use Rattle.analysis_typings.proofs.listing.def_summaries.Given as goal

abbrev pub invariant-loop-def : goal.invariant-loop-def
invariant-loop-def l = AreKnownIn (found l.known) l.home (map (λ d. d.name) (take l.def-index l.defs)) l.summaries
