use Rattle.std.proofs.Common.{◌≡◌, List, [], take}
use Rattle.indexmap.specs.IndexMap.{get}
use Rattle.type_kinds.specs.declared.atom.Atom.{Atom}
use Rattle.core_scope.specs.Names.{same_atom}
use Rattle.table_keep.specs.steps.Candidates.{entry_names, standing}
use Rattle.table_keep.proofs.candidates.add_entries.Given as goal

abbrev pub invariant-loop-at : goal.invariant-loop-at
invariant-loop-at l = (sources : List Atom) → ((q : Atom) → get same_atom l.fn.found q ≡ standing sources [] q) → (q : Atom) → get same_atom l.found q ≡ standing sources (take l.at (entry_names l.entries)) q
