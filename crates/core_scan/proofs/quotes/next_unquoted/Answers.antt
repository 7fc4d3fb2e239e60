use Rattle.std.proofs.Common.{sym}
use Rattle.core_scan.proofs.InsideLemmas.{plain_step, escape_step, stuck_backslash}
use Rattle.core_scan.proofs.quotes.next_unquoted.Goals as goal

pub returns-then-first-ne92-clause-inside : goal.returns-then-first-ne92-clause-inside
returns-then-first-ne92-clause-inside c = plain_step c.args.quote c.in-Some.first.now c.args.rest.now c.in-Some.after.now c.in-Some.ensures.cases.0 c.if-first-quote.false c.if-first-ne92.true

pub returns-in-Some-escape-clause-inside : goal.returns-in-Some-escape-clause-inside
returns-in-Some-escape-clause-inside c = escape_step c.args.quote c.in-Some.first.now c.args.rest.now c.in-Some.after.now c.in-Some-escape.found c.in-Some.ensures.cases.0 c.if-first-ne92.false (sym c.in-Some-escape.ensures)

pub returns-in-None-clause-stuck : goal.returns-in-None-clause-stuck
returns-in-None-clause-stuck c = stuck_backslash c.args.quote c.in-Some.first.now c.args.rest.now c.in-Some.after.now c.in-Some.ensures.cases.0 c.if-first-ne92.false (sym c.in-None.ensures)
