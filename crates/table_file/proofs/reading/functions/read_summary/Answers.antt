use Rattle.table_file.proofs.SigReading.{summary_no_strict, summary_no_lenient, summary_found}
use Rattle.table_file.proofs.reading.functions.read_summary.Goals as goal

pub returns-in_default-clause-none : goal.returns-in_default-clause-none
returns-in_default-clause-none c = summary_no_strict c.args.count (rw c.in_default.is at c.in_ok-strict.ensures.none)

pub returns-in_default-2-clause-none : goal.returns-in_default-2-clause-none
returns-in_default-2-clause-none c =
    summary_no_lenient c.args.count (c.spelling_laws.ensures.sigs c.args.count)
    (rw c.in-Some.is at c.in_ok-strict.ensures.found) (rw c.in_default-2.is at c.in_ok-lenient.ensures.none)

pub returns-clause-found : goal.returns-clause-found
returns-clause-found c =
    rw (c.in_ok-strict-2.ensures, c.in_ok-lenient-2.ensures)
    (summary_found c.args.count _ (rw c.in-Some.is at c.in_ok-strict.ensures.found)
    (rw c.in-Some-2.is at c.in_ok-lenient.ensures.found))
