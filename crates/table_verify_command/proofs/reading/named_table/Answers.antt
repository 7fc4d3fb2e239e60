use Rattle.table_verify_command.proofs.ReadExits.{bytes_read}
use Rattle.table_verify_command.proofs.reading.named_table.Goals as goal

pub returns-in-Ok-clause-read : goal.returns-in-Ok-clause-read
returns-in-Ok-clause-read g c =
    bytes_read (g.F.Shelf.held c.args.shelf.now) c.args.word c.args.name.now c.in-Ok.bytes.items c.as_slice.result.now (g.F.Shelf.read_faults c.args.shelf.now) (g.F.Shelf.read_faults c.read.new.self)
    c.table_of.result c.as_slice.ensures.value c.in-Ok.ensures.read c.table_of.ensures
