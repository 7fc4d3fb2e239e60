use Rattle.std.proofs.Common.{rules}
use Rattle.type_bytes.proofs.ReadTrees.{none_first}
use Rattle.type_bytes.proofs.reading.read_type.Goals as goal

pub returns-then-first-eq0-clause-read : goal.returns-then-first-eq0-clause-read
returns-then-first-eq0-clause-read c = none_first c.args.bytes.now c.in-Some.rest.now c.in-Some.first.now c.plain_alone.result c.none.result (search rules) c.if-first-eq0.true (c.plain_alone.ensures.value 3) c.none.ensures
