use Rattle.std.proofs.Common.{rules}
use Rattle.std.proofs.lemmas.Int.{to_z-of_z}
use mir.Val.{SFits}
use mir.Syntax.{w128}
use Rattle.type_bytes.specs.steps.Reading.{int_at}
use Rattle.type_bytes.proofs.Loops.{read_more}
use Rattle.type_bytes.proofs.leaves.list_numbers.Goals as goal

pub loop-preserved : goal.loop-preserved
loop-preserved c =
    let fits : SFits w128 c.in_ok-n.n = search rules in
    read_more int_at c.args.count c.loop.counter c.loop.rest.now c.loop.ints _ c.add.new.self c.in_ok-n.n c.in_ok-n.after.now c.loop-test.true (simp to_z-of_z at c.in_ok-add.ensures.ok) c.in_ok-n.ensures c.loop.invariant
