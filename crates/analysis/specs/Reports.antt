-- Why modules aren't analysed together.
use Rattle.std.specs.Prelude.{◌≡◌, ℕ, List}
use Rattle.type_kinds.specs.declared.atom.Atom.{Atom}
use Rattle.core_scope.specs.Sets.{FirstDuplicate}
use Rattle.core_scope.specs.declared.fault.SetFault.TheVariants.{DuplicateModule}
use Rattle.analysis.specs.declared.analysing.Fault.{Fault}
use Rattle.analysis.specs.declared.analysing.Fault.TheVariants.{Set, Memory}

-- What a fault says of the names of modules.
abbrev pub IsSetFault : List Atom → Fault → Type 0
IsSetFault names (Set fault) =
    (first : ℕ) × (second : ℕ) × (fault ≡ DuplicateModule first second) × FirstDuplicate names first second
IsSetFault names Memory = Unit {0}
