use Rattle.std.proofs.Common.{◌≡◌, true, take, map}
use Rattle.std.specs.List.{list_all}
use Rattle.core_scope.specs.Names.{has_function}
use Rattle.table_verify_rules.proofs.entries.lists_all.Given as goal

abbrev pub invariant-loop-listed : goal.invariant-loop-listed
invariant-loop-listed l = list_all (λ x. has_function (map (λ d. d.name) l.defs) x.0) (take l.listed-index l.certified.exports) ≡ true
