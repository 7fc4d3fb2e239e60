-- What the code answers where a source isn't accepted.
use Rattle.std.specs.Prelude.{ℕ, List, Option, None, Some}
use Rattle.core_scope.specs.declared.fault.ScopeFault.{ScopeFault}
use Rattle.core_scope.specs.declared.fault.ScopeFault.TheVariants as s
use Rattle.analysis_sources.specs.declared.refusals.RefusalName.TheVariants as r
use Rattle.analysis_sources.specs.declared.refusals.SourceFault.{SourceFault}
use Rattle.analysis_sources.specs.declared.source.SourceError.{SourceError}
use Rattle.analysis_sources.specs.declared.source.SourceError.TheVariants.{AtFault, Memory}
use Rattle.analysis_sources.specs.Sources.{at, IsAtFault}

-- the refusal that names a fault of scopes and degrees
abbrev pub scope_refusal : ScopeFault → Option SourceFault
scope_refusal (s.Unbound place) = Some (at r.Unbound place)
scope_refusal (s.RepeatedVariable place) = Some (at r.RepeatedVariable place)
scope_refusal (s.UndefinedFunction place) = Some (at r.UndefinedFunction place)
scope_refusal (s.RepeatedFunction place) = Some (at r.RepeatedFunction place)
scope_refusal (s.BadExport place) = Some (at r.BadExport place)
scope_refusal (s.Degree place) = Some (at r.Degree place)
scope_refusal s.Memory = None

-- the error that tells a refusal, or that there is none because allocation failed
abbrev pub told : Option SourceFault → SourceError
told None = Memory
told (Some fault) = AtFault fault

-- What an error says of the bytes.
abbrev pub Refuses : (most : ℕ) → List ℕ → SourceError → Type 0
Refuses most bytes (AtFault fault) = IsAtFault most bytes fault
Refuses most bytes Memory = Unit {0}
