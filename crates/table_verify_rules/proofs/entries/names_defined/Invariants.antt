use Rattle.std.proofs.Common.{◌≡◌, ◌++◌, drop, map}
use Rattle.table_verify_rules.proofs.entries.names_defined.Given as goal

abbrev pub invariant-loop-def : goal.invariant-loop-def
invariant-loop-def l = l.names ++ map (λ d. d.name) (drop l.def-index l.defs) ≡ map (λ d. d.name) l.defs
