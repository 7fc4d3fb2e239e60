use Rattle.std.proofs.Common.{◌<◌, ◌+◌, length, get_or, arith, sym, ap, ◌∙◌}
use Rattle.type_lattice.specs.Types.{project}
use Rattle.cons_tree.specs.Environments.{lowered}
use Rattle.cons_tree.proofs.TrailLaws.{no_answer, an_answer, trailed_then}
use Rattle.cons_tree.proofs.LoopLaws.{projected_stops, projected_goes_on, projected_end}
use Rattle.cons_tree.proofs.slots.Slots.lower_elements.Goals as goal

pub returns-then-not-alive-clause-value : goal.returns-then-not-alive-clause-value
returns-then-not-alive-clause-value c =
    let ws = c.args.slots.now in
    let xs = c.loop-at.self.types in
    let i = c.loop-at.at in
    let n = length ws in
    let one : i < length ws = omega (arith, c.loop-at-test.true) in
    sym c.loop-at.invariant.rest
    ∙ projected_stops c.args.tuple n ws i c.in_ok-there.there xs one (c.in_ok-there.ensures.value ∙ ap (λ t. project t n (i + 1)) c.at.ensures)
    (no_answer c.in_ok-alive.alive (lowered xs (get_or ws i 0) c.in_ok-there.there) c.lower_to.new.self.types c.if-not-alive.true c.in_ok-alive.ensures.value)

pub returns-then-not-alive-clause-trailed : goal.returns-then-not-alive-clause-trailed
returns-then-not-alive-clause-trailed c = trailed_then c.args.self.now c.loop-at.self c.lower_to.new.self c.loop-at.invariant.trailed c.in_ok-alive.ensures.trailed

pub loop-at-preserved : goal.loop-at-preserved
loop-at-preserved c =
    let ws = c.args.slots.now in
    let xs = c.loop-at.self.types in
    let ys = c.lower_to.new.self.types in
    let i = c.loop-at.at in
    let n = length ws in
    let one : i < length ws = omega (arith, c.loop-at-test.true) in
    record {
      rest =
          sym (projected_goes_on c.args.tuple n ws i c.in_ok-there.there xs ys one (c.in_ok-there.ensures.value ∙ ap (λ t. project t n (i + 1)) c.at.ensures)
          (an_answer c.in_ok-alive.alive (lowered xs (get_or ws i 0) c.in_ok-there.there) ys c.if-not-alive.false c.in_ok-alive.ensures.value))
          ∙ c.loop-at.invariant.rest;
      trailed = trailed_then c.args.self.now c.loop-at.self c.lower_to.new.self c.loop-at.invariant.trailed c.in_ok-alive.ensures.trailed;
    }

pub returns-clause-value : goal.returns-clause-value
returns-clause-value c =
    sym c.loop-at.invariant.rest ∙ projected_end c.args.tuple (length c.args.slots.now) c.args.slots.now c.loop-at.at (c.loop-at.at + 1) c.loop-at.self.types (omega (arith, c.loop-at-test.false))
