use Rattle.std.proofs.Common.{arith}
use Rattle.table_file.proofs.FieldLaws.{so_far_none, so_far_more, listed_none, listed_found}
use Rattle.table_file.proofs.reading.functions.read_types.Goals as goal

pub loop-init : goal.loop-init
loop-init c = so_far_none c.args.bytes.now c.new-types.result c.new-types.ensures

pub returns-in_default-clause-none : goal.returns-in_default-clause-none
returns-in_default-clause-none c =
    listed_none c.args.count c.spelling_laws.ensures.types c.loop.invariant c.loop-test.true
    (rw c.in_default.is at c.in_ok-ty.ensures.none)

pub loop-preserved : goal.loop-preserved
loop-preserved c = so_far_more c.add.new.self c.in_ok-add.ensures.ok c.loop.invariant
    (rw c.in-Some.is at c.in_ok-ty.ensures.found)

pub returns-clause-found : goal.returns-clause-found
returns-clause-found c = listed_found c.args.count c.loop.invariant (omega arith)
