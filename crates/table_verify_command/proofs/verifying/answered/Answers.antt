use Rattle.std.proofs.Common.{arith}
use Rattle.table_verify_command.proofs.AskedExits.{asks_much}
use Rattle.table_verify_command.proofs.verifying.answered.Goals as goal

pub returns-then-words-first_file-gt-MOST_FILES-clause-intended : goal.returns-then-words-first_file-gt-MOST_FILES-clause-intended
returns-then-words-first_file-gt-MOST_FILES-clause-intended g c =
    asks_much c.args.words.now (g.F.Shelf.held c.args.shelf.now) (g.F.Shelf.read_faults c.args.shelf.now) (g.F.Shelf.replace_faults c.args.shelf.now) c.in-Some.task c.first_file.result c.refuse_many.result c.in-Some.ensures
    c.first_file.ensures (let over = c.if-words-first_file-gt-MOST_FILES.true in omega arith) c.refuse_many.ensures.status c.refuse_many.ensures.output
