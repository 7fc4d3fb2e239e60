use Rattle.std.proofs.Common.{arith}
use Rattle.table_file.specs.Spelling.{used_bytes}
use Rattle.table_file.proofs.FieldLaws.{uncounted, so_far_none, so_far_more, counted_none, counted_found}
use Rattle.table_file.proofs.reading.lists.read_all_used.Goals as goal

pub returns-in_default-clause-none : goal.returns-in_default-clause-none
returns-in_default-clause-none c = uncounted used_bytes c.in_default.ensures.none

pub loop-init : goal.loop-init
loop-init c = so_far_none c.in-Some.after.now c.new-used.result c.new-used.ensures

pub returns-in_default-2-clause-none : goal.returns-in_default-2-clause-none
returns-in_default-2-clause-none c =
    counted_none c.spelling_laws.ensures.used c.in-Some.ensures.found c.loop.invariant c.loop-test.true
    (rw c.in_default-2.is at c.in_ok-one.ensures.none)

pub loop-preserved : goal.loop-preserved
loop-preserved c = so_far_more c.add.new.self c.in_ok-add.ensures.ok c.loop.invariant
    (rw c.in-Some-2.is at c.in_ok-one.ensures.found)

pub returns-clause-found : goal.returns-clause-found
returns-clause-found c = counted_found c.in-Some.ensures.found c.loop.invariant (omega arith)
