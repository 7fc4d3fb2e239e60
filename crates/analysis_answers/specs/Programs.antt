-- What a fault of a program's output says of the names of the sources' modules.
use Rattle.std.specs.Prelude.{◌≡◌, ℕ, List}
use Rattle.type_kinds.specs.declared.atom.Atom.{Atom}
use Rattle.core_scope.specs.Sets.{FirstDuplicate}
use Rattle.core_scope.specs.declared.fault.SetFault.TheVariants.{DuplicateModule}
use Rattle.analysis_answers.specs.declared.program.OutputFault.{OutputFault}
use Rattle.analysis_answers.specs.declared.program.OutputFault.TheVariants.{Set, Memory}

abbrev pub IsOutputFault : (names : List Atom) → OutputFault → Type 0
IsOutputFault names (Set fault) =
    (first : ℕ) × (second : ℕ) × (fault ≡ DuplicateModule first second) × FirstDuplicate names first second
IsOutputFault names Memory = Unit {0}
