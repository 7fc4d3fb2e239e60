-- Tables that a run reads: the one that bytes spell, or their first fault.
use Rattle.std.specs.Prelude.{◌≡◌, ◌≢◌, ℕ, List, Option, IsTrue}
use Rattle.std.specs.List.{list_all}
use Rattle.da_shelf.specs.Told.{Files, Holds}
use Rattle.table_file.specs.declared.tables.Table.{Table}
use Rattle.table_file.specs.declared.faults.TableFault.{TableFault as FaultOfTable}
use Rattle.table_file.specs.declared.faults.TableFault.TheVariants as t
use Rattle.table_file.specs.Faults.{IsFirst}
use Rattle.table_file.specs.Lengths.{has_short_types}
use Rattle.table_file.specs.Spelling.{table_bytes}
use Rattle.analysis_answers.specs.declared.run_status.RunStatus.{RunStatus}
use Rattle.analysis_answers.specs.declared.run_status.RunStatus.TheVariants.{TableFault}
use Rattle.analysis_answers.specs.Lines.{table_fault_number}

-- The bytes are those of the table, whose types can be written.
pub record Spells (table : Table) (bytes : List ℕ) : Type 0 where
  pub bytes_so : bytes ≡ table_bytes table
  pub short : IsTrue (list_all has_short_types table.entries)

-- The first fault of bytes that spell no table. A failed allocation is none.
pub record IsFaultOf (bytes : List ℕ) (fault : FaultOfTable) : Type 0 where
  pub first : IsFirst fault bytes
  pub some : fault ≢ t.Memory

-- The bytes that are held under the name spell the table.
pub record IsTableRead (told : Option Files) (name : List ℕ) (table : Table) : Type 0 where
  pub bytes : List ℕ
  pub held_so : Holds told name bytes
  pub spells : Spells table bytes

-- the bytes that are read as a table have this fault
abbrev pub faulty_table : FaultOfTable → RunStatus
faulty_table fault = TableFault (table_fault_number fault)
