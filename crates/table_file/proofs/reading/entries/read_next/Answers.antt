use Rattle.std.proofs.Common.{sym, ◌∙◌}
use Rattle.table_file.proofs.EntryRules.{no_name, no_name_in_order, in_order, no_parts, no_rules, entry_found}
use Rattle.table_file.proofs.reading.entries.read_next.Goals as goal

pub returns-in_default-clause-fault : goal.returns-in_default-clause-fault
returns-in_default-clause-fault c = (
  no_name_in_order c.args.before.now (rw c.in_default.is at c.in_ok-name.ensures.none),
  no_name
      (rw c.in_default.is at c.in_ok-name.ensures.none),
)

pub returns-in_default-2-clause-fault : goal.returns-in_default-2-clause-fault
returns-in_default-2-clause-fault c = (
  in_order c.args.before.now (rw c.in-Some.is at c.in_ok-name.ensures.found)
      (sym c.follows.ensures ∙ c.if-not-follows.false),
  no_parts (rw c.in-Some.is at c.in_ok-name.ensures.found) (rw c.in_default-2.is at c.in_ok-parts.ensures.none),
)

pub returns-in-Some-entry_of-clause-found : goal.returns-in-Some-entry_of-clause-found
returns-in-Some-entry_of-clause-found c =
    entry_found c.in-Some-entry_of.entry (rw c.in-Some.is at c.in_ok-name.ensures.found)
    (rw c.in-Some-2.is at c.in_ok-parts.ensures.found)
    c.in-Some-entry_of.ensures.some.0 c.in-Some-entry_of.ensures.some.1

pub returns-in-None-clause-fault : goal.returns-in-None-clause-fault
returns-in-None-clause-fault c = (
  in_order c.args.before.now (rw c.in-Some.is at c.in_ok-name.ensures.found)
      (sym c.follows.ensures ∙ c.if-not-follows.false),
  no_rules c.spelling_laws.ensures.parts (rw c.in-Some.is at c.in_ok-name.ensures.found)
      (rw c.in-Some-2.is at c.in_ok-parts.ensures.found) c.in-None.ensures.none,
)
