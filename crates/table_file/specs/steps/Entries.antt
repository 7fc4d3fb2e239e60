-- What stands behind an entry's name, and what is wrong where an entry is to stand.
use Rattle.std.specs.Prelude.{ℕ, Bool, ◌&&◌, nat_eq, List, ◌++◌, length}
use Rattle.std.specs.List.{list_all}
use Rattle.type_kinds_sets.specs.Names.{Name}
use Rattle.table_file.specs.declared.entries.Entry.{Entry}
use Rattle.table_file.specs.declared.faults.TableFault.{TableFault}
use Rattle.table_file.specs.declared.faults.TableFault.TheVariants as faults
use Rattle.table_file.specs.declared.reading.entries.Parts.{Parts}
use Rattle.table_file.specs.Faults.{IsOutOfOrder, IsNoEntry}
use Rattle.table_file.specs.Order.{rises, is_name_before, has_name}
use Rattle.table_file.specs.Rules.{is_used_before, is_outside, is_export_before}
use Rattle.table_file.specs.steps.Tests.{has_short_callee, is_short_export}
use Rattle.table_file.specs.Spelling.{counted, text_bytes, used_bytes, export_bytes}

abbrev pub parts_of : Entry → Parts
parts_of e = record {
  digest = e.digest;
  group = e.group;
  calls = e.calls;
  used = e.used;
  exports =
      e.exports;
  lines = e.lines;
}

unfoldable pub parts_spelled : Parts → List ℕ
parts_spelled p =
    p.digest.0 ++ counted text_bytes p.group ++ counted text_bytes p.calls
    ++ counted used_bytes p.used ++ counted export_bytes p.exports ++ text_bytes p.lines

-- what reading sees to: a whole digest, exports that may be, and short atoms in types
unfoldable pub parts_fit : Parts → Bool
parts_fit p =
    nat_eq (length p.digest.0) 32 && (list_all has_short_callee p.used && list_all is_short_export p.exports)

-- the rules that are tested then
unfoldable pub keeps : Name → Parts → Bool
keeps name p =
    rises is_name_before p.group && rises is_name_before p.calls && has_name p.group name
    && rises is_used_before p.used && list_all (is_outside p.group p.calls) p.used && rises is_export_before p.exports

-- what a fault says of the bytes where the entry behind some entries is to stand
abbrev pub FaultIn : TableFault → List Entry → List ℕ → Type 0
FaultIn faults.NotATable entries bytes = ⊥
FaultIn faults.Version entries bytes = ⊥
FaultIn faults.Torn entries bytes = ⊥
FaultIn faults.Order entries bytes = IsOutOfOrder entries bytes
FaultIn faults.BadEntry entries bytes = (IsOutOfOrder entries bytes → ⊥) × IsNoEntry bytes
FaultIn faults.Rest entries bytes = ⊥
FaultIn faults.Memory entries bytes = Unit {0}
