use Rattle.std.proofs.Common.{◌<◌, length, get_or, arith, sym, ◌∙◌}
use Rattle.cons_tree.specs.Environments.{lowered}
use Rattle.cons_tree.proofs.TrailLaws.{no_answer, an_answer, trailed_then}
use Rattle.cons_tree.proofs.LoopLaws.{got, typed_stops, typed_goes_on, typed_end}
use Rattle.type_lattice.specs.Types.{any}
use Rattle.cons_tree.proofs.slots.Slots.lower_each.Goals as goal

pub returns-then-not-alive-clause-value : goal.returns-then-not-alive-clause-value
returns-then-not-alive-clause-value c =
    let vs = c.args.slots.now in
    let ts = c.args.types.now in
    let xs = c.loop-at.self.types in
    let i = c.loop-at.at in
    let t = c.index-types-at.result in
    let one : i < length vs = omega (arith, c.loop-at-test.true) in
    let two : i < length ts = omega (arith, c.loop-at-test.true) in
    sym c.loop-at.invariant.rest ∙ typed_stops vs ts i t xs one two (got ts i t any two c.index-types-at.is)
    (no_answer c.in_ok-alive.alive (lowered xs (get_or vs i 0) t) c.lower.new.self.types c.if-not-alive.true c.in_ok-alive.ensures.value)

pub returns-then-not-alive-clause-trailed : goal.returns-then-not-alive-clause-trailed
returns-then-not-alive-clause-trailed c = trailed_then c.args.self.now c.loop-at.self c.lower.new.self c.loop-at.invariant.trailed c.in_ok-alive.ensures.trailed

pub loop-at-preserved : goal.loop-at-preserved
loop-at-preserved c =
    let vs = c.args.slots.now in
    let ts = c.args.types.now in
    let xs = c.loop-at.self.types in
    let ys = c.lower.new.self.types in
    let i = c.loop-at.at in
    let t = c.index-types-at.result in
    let one : i < length vs = omega (arith, c.loop-at-test.true) in
    let two : i < length ts = omega (arith, c.loop-at-test.true) in
    record {
      rest =
          sym (typed_goes_on vs ts i t xs ys one two (got ts i t any two c.index-types-at.is) (an_answer c.in_ok-alive.alive (lowered xs (get_or vs i 0) t) ys c.if-not-alive.false c.in_ok-alive.ensures.value))
          ∙ c.loop-at.invariant.rest;
      trailed = trailed_then c.args.self.now c.loop-at.self c.lower.new.self c.loop-at.invariant.trailed c.in_ok-alive.ensures.trailed;
    }

pub returns-clause-value : goal.returns-clause-value
returns-clause-value c = sym c.loop-at.invariant.rest ∙ typed_end c.args.slots.now c.args.types.now c.loop-at.at c.loop-at.self.types (omega (arith, c.loop-at-test.false))
