use Rattle.std.proofs.Common.{arith}
use Rattle.table_file.proofs.CalleeReading.{undefined_found, unknown_found, no_tag, other_tag}
use Rattle.table_file.proofs.reading.functions.read_callee.Goals as goal

pub returns-in_default-clause-none : goal.returns-in_default-clause-none
returns-in_default-clause-none c = no_tag c.args.count c.args.bytes.now c.in_default.ensures.cases

pub returns-in-0-clause-found : goal.returns-in-0-clause-found
returns-in-0-clause-found c = undefined_found c.args.count c.in-Some.tag.now c.in-Some.ensures.cases.0 c.in-0.is

pub returns-in-1-clause-found : goal.returns-in-1-clause-found
returns-in-1-clause-found c = unknown_found c.args.count c.in-Some.tag.now c.in-Some.ensures.cases.0 c.in-1.is

pub returns-in_default-tag-clause-none : goal.returns-in_default-tag-clause-none
returns-in_default-tag-clause-none c = other_tag c.args.count c.in-Some.tag.now c.in-Some.ensures.cases.0 (omega arith)
