use Rattle.std.proofs.Common.{◌≡◌, map, take}
use Rattle.analysis.proofs.certificate.function_names.Given as goal

abbrev pub invariant-loop-def : goal.invariant-loop-def
invariant-loop-def l = l.names ≡ map (λ d. d.name) (take l.def-index l.defs)
