use Rattle.table_file.proofs.CalleeReading.{known_none, known_found}
use Rattle.table_file.proofs.reading.functions.read_known.Goals as goal

pub returns-in_default-clause-none : goal.returns-in_default-clause-none
returns-in_default-clause-none c =
    known_none c.args.count c.args.bytes.now (rw c.in_default.is at c.in_ok-summary.ensures.none)

pub returns-clause-found : goal.returns-clause-found
returns-clause-found c = known_found c.args.count c.args.bytes.now (rw c.in-Some.is at c.in_ok-summary.ensures.found)
