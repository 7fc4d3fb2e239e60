use Rattle.table_file.proofs.CalleeReading.{used_no_home, used_no_name, used_no_arity, used_no_callee, used_found}
use Rattle.table_file.proofs.reading.lists.read_used.Goals as goal

pub returns-in_default-clause-none : goal.returns-in_default-clause-none
returns-in_default-clause-none c = used_no_home (rw c.in_default.is at c.in_ok-home.ensures.none)

pub returns-in_default-2-clause-none : goal.returns-in_default-2-clause-none
returns-in_default-2-clause-none c =
    used_no_name (rw c.in-Some.is at c.in_ok-home.ensures.found) (rw c.in_default-2.is at c.in_ok-name.ensures.none)

pub returns-in_default-read_number-clause-none : goal.returns-in_default-read_number-clause-none
returns-in_default-read_number-clause-none c =
    used_no_arity (rw c.in-Some.is at c.in_ok-home.ensures.found)
    (rw c.in-Some-2.is at c.in_ok-name.ensures.found) c.in_default-read_number.ensures.none

pub returns-in_default-3-clause-none : goal.returns-in_default-3-clause-none
returns-in_default-3-clause-none c =
    used_no_callee (rw c.in-Some.is at c.in_ok-home.ensures.found)
    (rw c.in-Some-2.is at c.in_ok-name.ensures.found) c.in-Some-read_number.ensures.found
    (rw c.in_default-3.is at c.in_ok-callee.ensures.none)

pub returns-clause-found : goal.returns-clause-found
returns-clause-found c =
    used_found _ (rw c.in-Some.is at c.in_ok-home.ensures.found)
    (rw c.in-Some-2.is at c.in_ok-name.ensures.found) c.in-Some-read_number.ensures.found
    (rw c.in-Some-3.is at c.in_ok-callee.ensures.found)
