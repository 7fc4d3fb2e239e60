use Rattle.std.proofs.Common.{◌≤◌, min, length, [], refl, arith}
use Rattle.cons_gen_rows.specs.Walking.{bindings_at}
use Rattle.cons_gen_rows.proofs.Adding.{bind_ends}
use Rattle.cons_gen_rows.proofs.Runs.{bindings_end}
use Rattle.cons_gen_rows.proofs.generator.Generator.bind_all.Goals as goal

pub returns : goal.returns
returns c =
    let past : min (length c.args.vars.now) (length c.args.slots.now) ≤ c.loop-position.position = omega arith in
    bind_ends c.args.self.now c.loop-position.self 0 0 [] [] _ (bindings_at c.args.vars.now c.args.slots.now) refl refl (bindings_end c.args.vars.now c.args.slots.now c.loop-position.position past) c.loop-position.invariant
