use Rattle.std.proofs.Common.{◌≡◌, drop}
use Rattle.core_parse_grammar.specs.Build.{has_generated}
use Rattle.core_parse_grammar.proofs.notes.has_generated.Given as goal

abbrev pub invariant-loop-constant : goal.invariant-loop-constant
invariant-loop-constant l = has_generated l.constants ≡ has_generated (drop l.constant-index l.constants)
