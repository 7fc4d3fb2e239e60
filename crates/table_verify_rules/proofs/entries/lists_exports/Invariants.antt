use Rattle.std.proofs.Common.{◌≡◌, ◌≤◌, ◌↔◌, drop, filter, length}
use Rattle.core_scope.specs.Names.{has_function}
use Rattle.table_verify_rules.proofs.entries.lists_exports.Given as goal

abbrev pub invariant-loop-listed : goal.invariant-loop-listed
invariant-loop-listed l =
    (l.next ≤ length l.entry.exports)
    × ((l.entry.exports ≡ filter (λ x. has_function l.exports x.0) l.certified.exports)
    ↔ (drop l.next l.entry.exports ≡ filter (λ x. has_function l.exports x.0) (drop l.listed-index l.certified.exports)))
