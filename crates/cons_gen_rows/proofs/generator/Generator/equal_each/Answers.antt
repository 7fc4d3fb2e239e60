use Rattle.std.proofs.Common.{◌≤◌, min, length, refl, arith}
use Rattle.cons_gen_rows.specs.Words.{equals}
use Rattle.cons_gen_rows.proofs.Adding.{rest_ends}
use Rattle.cons_gen_rows.proofs.Runs.{equals_end}
use Rattle.cons_gen_rows.proofs.generator.Generator.equal_each.Goals as goal

pub returns : goal.returns
returns c =
    let past : min (length c.args.left.now) (length c.args.right.now) ≤ c.loop-position.position = omega arith in
    rest_ends c.args.self.now c.loop-position.self 0 0 _ (equals c.args.left.now c.args.right.now) refl (equals_end c.args.left.now c.args.right.now c.loop-position.position past) c.loop-position.invariant
