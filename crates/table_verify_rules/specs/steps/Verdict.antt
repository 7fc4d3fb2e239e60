-- What holding a table against its rules comes to.
use Rattle.std.specs.Prelude.{◌≡◌, ℕ, List, Option, Some, None}
use Rattle.type_kinds.specs.declared.atom.Atom.{Atom}
use Rattle.table_keep.specs.Model.{Source, Entry}
use Rattle.table_verify_laws.specs.Rules.{IsFirstBroken, KeepsRules, TableRule, rule_number}

-- None where each module keeps each rule; or else the number of the first rule that is broken, with the least name of a module that breaks it.
unfoldable pub IsVerdict : (T C : List Entry) (M : List Source) → Option (ℕ × Atom) → Type 0
IsVerdict T C M None = KeepsRules T C M
IsVerdict T C M (Some b) = (r : TableRule) × (b.0 ≡ rule_number r) × IsFirstBroken T C M r b.1
