use Rattle.std.proofs.Common.{arith}
use Rattle.table_file.proofs.CalleeReading.{export_no_name, export_no_arity, export_no_summary, export_found}
use Rattle.table_file.proofs.reading.lists.read_export.Goals as goal

pub returns-in_default-clause-none : goal.returns-in_default-clause-none
returns-in_default-clause-none c = export_no_name (rw c.in_default.is at c.in_ok-name.ensures.none)

pub returns-in_default-split_first-clause-none : goal.returns-in_default-split_first-clause-none
returns-in_default-split_first-clause-none c =
    export_no_arity (rw c.in-Some.is at c.in_ok-name.ensures.found) c.in_default-split_first.ensures.cases

pub returns-in_default-2-clause-none : goal.returns-in_default-2-clause-none
returns-in_default-2-clause-none c =
    export_no_summary c.from-arity.result c.in-Some-split_first.arity.now
    (rw c.in-Some.is at c.in_ok-name.ensures.found) c.in-Some-split_first.ensures.cases.0 c.from-arity.ensures
    (rw c.in_default-2.is at c.in_ok-summary.ensures.none)

pub returns-clause-found : goal.returns-clause-found
returns-clause-found c =
    export_found c.in-Some-split_first.arity.now _
    (rw c.in-Some.is at c.in_ok-name.ensures.found) c.in-Some-split_first.ensures.cases.0 c.from-arity.ensures
    (omega arith)
    (rw c.in-Some-2.is at c.in_ok-summary.ensures.found)
