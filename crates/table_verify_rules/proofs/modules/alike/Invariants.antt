use Rattle.std.proofs.Common.{◌≡◌, take}
use Rattle.table_verify_rules.specs.steps.Lesser.{names_in}
use Rattle.table_verify_rules.proofs.modules.alike.Given as goal

abbrev pub invariant-loop-at : goal.invariant-loop-at
invariant-loop-at l = (take l.at (names_in l.entries) ≡ take l.at l.names) × (take l.at (names_in l.certified) ≡ take l.at l.names)
