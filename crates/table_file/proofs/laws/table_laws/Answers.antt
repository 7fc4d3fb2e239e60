use Rattle.table_file.proofs.TableLaws.{table_once, first_once, spelled_without_fault, short_table}
use Rattle.table_file.proofs.laws.table_laws.Goals as goal

pub returns : goal.returns
returns c = record {
  once = table_once c.spelling_laws.ensures.entries;
  fault_once = first_once c.spelling_laws.ensures.entries;
  no_fault = spelled_without_fault c.spelling_laws.ensures.entries;
  short = short_table;
}
