-- Why a table isn't accepted.
use Rattle.std.specs.Prelude.{◌≡◌, List}
use Rattle.table_keep.specs.Model.{Source, Entry}
use Rattle.table_verify_laws.specs.Rules.{IsFirstBroken, TableRule, rule_number}
use Rattle.table_verify_rules.specs.declared.fault.VerifyFault.{VerifyFault}
use Rattle.table_verify_rules.specs.declared.fault.VerifyFault.TheVariants.{Rejected, Memory}

-- The fault has the number of the first rule that is broken, and the module that breaks it with the least name. Nothing is said of a
-- failed allocation.
abbrev pub IsRejected : (T C : List Entry) (M : List Source) → VerifyFault → Type 0
IsRejected T C M (Rejected number home) = (r : TableRule) × (number ≡ rule_number r) × IsFirstBroken T C M r home
IsRejected T C M Memory = Unit {0}

abbrev pub IsWantOfMemory : VerifyFault → Type 0
IsWantOfMemory (Rejected number home) = ⊥
IsWantOfMemory Memory = Unit {0}
