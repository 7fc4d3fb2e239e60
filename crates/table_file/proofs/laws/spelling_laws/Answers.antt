use Rattle.type_bytes.specs.ShortNames.{has_short_names}
use Rattle.type_bytes.specs.Spelling.{bytes_of}
use Rattle.table_file.specs.steps.Reads.{Once}
use Rattle.table_file.proofs.EntryLaws.{parts_once, entry_once}
use Rattle.table_file.proofs.FunctionLaws.{sig_once, summary_once, callee_once, used_once, export_once}
use Rattle.table_file.proofs.laws.spelling_laws.Goals as goal

pub returns : goal.returns
returns c =
    let types : Once has_short_names bytes_of = record { only = c.bytes_laws.ensures.once } in
    record {
      types = types;
      sigs = sig_once types;
      summaries = summary_once types;
      callees = callee_once types;
      used = used_once types;
      exports = export_once types;
      parts = parts_once types;
      entries = entry_once types;
    }
