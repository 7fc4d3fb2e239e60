use Rattle.std.proofs.Common.{◌≡◌, map, take}
use Rattle.core_scope.specs.Checked.{module_of}
use Rattle.analysis.proofs.certificate.names_of.Given as goal

abbrev pub invariant-loop-source : goal.invariant-loop-source
invariant-loop-source l = l.names ≡ map (λ s. (module_of s.checked).name) (take l.source-index l.sources)
