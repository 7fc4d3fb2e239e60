use Rattle.std.proofs.Common.{◌&&◌}
use Rattle.type_kinds.proofs.Truths.{first, second}
use Rattle.table_file.specs.Lengths.{is_short, are_short, is_short_used, is_short_export, is_short_entry}
use Rattle.table_file.proofs.writing.put_entry.Goals as goal

pub put_exports-requires-clause-short : goal.put_exports-requires-clause-short
unfolding is_short_entry
put_exports-requires-clause-short c =
    let e = c.args.entry.now in
    let before = is_short e.name && are_short is_short e.group && are_short is_short e.calls && are_short is_short_used e.used in
    rw c.as_slice-4.ensures
    (second before (are_short is_short_export e.exports) (first (before && are_short is_short_export e.exports) (is_short e.lines) c.requires))
