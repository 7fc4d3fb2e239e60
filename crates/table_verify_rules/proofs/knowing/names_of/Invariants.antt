use Rattle.std.proofs.Common.{◌≡◌, ◌++◌, drop}
use Rattle.table_verify_rules.proofs.knowing.names_of.Given as goal

abbrev pub invariant-loop-name : goal.invariant-loop-name
invariant-loop-name l = l.names ++ drop l.name-index l.functions ≡ l.functions
