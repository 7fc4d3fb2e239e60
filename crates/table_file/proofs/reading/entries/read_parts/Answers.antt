use Rattle.table_file.proofs.EntryReading.{no_digest, behind_digest, no_group, behind_group, no_calls, behind_calls, no_used, behind_used, no_exports, behind_exports, no_lines, parts_found}
use Rattle.table_file.proofs.reading.entries.read_parts.Goals as goal

pub returns-in_default-clause-none : goal.returns-in_default-clause-none
returns-in_default-clause-none c = no_digest c.args.bytes.now c.in_default.ensures.none

pub returns-in_default-2-clause-none : goal.returns-in_default-2-clause-none
returns-in_default-2-clause-none c =
    behind_digest c.in-Some.digest.0 c.in-Some.ensures.found c.in-Some.ensures.whole
    (no_group (rw c.in_default-2.is at c.in_ok-group.ensures.none))

pub returns-in_default-3-clause-none : goal.returns-in_default-3-clause-none
returns-in_default-3-clause-none c =
    behind_digest c.in-Some.digest.0 c.in-Some.ensures.found c.in-Some.ensures.whole
    (behind_group (rw c.in-Some-2.is at c.in_ok-group.ensures.found)
    (no_calls (rw c.in_default-3.is at c.in_ok-calls.ensures.none)))

pub returns-in_default-4-clause-none : goal.returns-in_default-4-clause-none
returns-in_default-4-clause-none c =
    behind_digest c.in-Some.digest.0 c.in-Some.ensures.found c.in-Some.ensures.whole
    (behind_group (rw c.in-Some-2.is at c.in_ok-group.ensures.found)
    (behind_calls (rw c.in-Some-3.is at c.in_ok-calls.ensures.found)
    (no_used (rw c.in_default-4.is at c.in_ok-used.ensures.none))))

pub returns-in_default-5-clause-none : goal.returns-in_default-5-clause-none
returns-in_default-5-clause-none c =
    behind_digest c.in-Some.digest.0 c.in-Some.ensures.found c.in-Some.ensures.whole
    (behind_group (rw c.in-Some-2.is at c.in_ok-group.ensures.found)
    (behind_calls (rw c.in-Some-3.is at c.in_ok-calls.ensures.found)
    (behind_used c.spelling_laws.ensures.used (rw c.in-Some-4.is at c.in_ok-used.ensures.found)
    (no_exports (rw c.in_default-5.is at c.in_ok-exports.ensures.none)))))

pub returns-in_default-read_text-clause-none : goal.returns-in_default-read_text-clause-none
returns-in_default-read_text-clause-none c =
    behind_digest c.in-Some.digest.0 c.in-Some.ensures.found c.in-Some.ensures.whole
    (behind_group (rw c.in-Some-2.is at c.in_ok-group.ensures.found)
    (behind_calls (rw c.in-Some-3.is at c.in_ok-calls.ensures.found)
    (behind_used c.spelling_laws.ensures.used (rw c.in-Some-4.is at c.in_ok-used.ensures.found)
    (behind_exports c.spelling_laws.ensures.exports (rw c.in-Some-5.is at c.in_ok-exports.ensures.found)
    (no_lines c.in_default-read_text.ensures.none)))))

pub returns-clause-found : goal.returns-clause-found
returns-clause-found c =
    parts_found _ c.group.view_is c.calls.view_is c.used.view_is c.exports.view_is c.in_ok-from_slice.ensures
    c.in-Some.ensures.found c.in-Some.ensures.whole
    (rw c.in-Some-2.is at c.in_ok-group.ensures.found)
    (rw c.in-Some-3.is at c.in_ok-calls.ensures.found)
    (rw c.in-Some-4.is at c.in_ok-used.ensures.found)
    (rw c.in-Some-5.is at c.in_ok-exports.ensures.found)
    c.in-Some-read_text.ensures.found
