use Rattle.std.proofs.Common.{◌≡◌, ◌++◌, [], drop, map}
use Rattle.std.specs.Prelude.{slice_index_or}
use Rattle.analysis_crew.proofs.lists.lists_at.Given as goal

abbrev pub invariant-loop-component : goal.invariant-loop-component
invariant-loop-component l =
    l.found ++ map (λ n. slice_index_or l.lists n []) (drop l.component-index l.components) ≡ map (λ n. slice_index_or l.lists n []) l.components
