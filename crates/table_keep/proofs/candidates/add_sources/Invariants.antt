use Rattle.std.proofs.Common.{◌≡◌, [], take}
use Rattle.indexmap.specs.IndexMap.{get}
use Rattle.type_kinds.specs.declared.atom.Atom.{Atom}
use Rattle.core_scope.specs.Names.{same_atom}
use Rattle.table_keep.specs.steps.Candidates.{source_names, standing}
use Rattle.table_keep.proofs.candidates.add_sources.Given as goal

abbrev pub invariant-loop-at : goal.invariant-loop-at
invariant-loop-at l = (q : Atom) → get same_atom l.found q ≡ standing (take l.at (source_names l.sources)) [] q
