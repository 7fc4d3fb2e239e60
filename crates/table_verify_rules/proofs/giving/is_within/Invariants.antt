use Rattle.std.proofs.Common.{ℕ, ◌<◌}
use Rattle.type_lattice.specs.Types.{Below}
use Rattle.cons_tree.specs.Environments.{type_at}
use Rattle.table_verify_rules.proofs.giving.is_within.Given as goal

abbrev pub invariant-loop-at : goal.invariant-loop-at
invariant-loop-at l = (i : ℕ) → i < l.at → Below (type_at l.slots.types i) (type_at l.sig.args i)
