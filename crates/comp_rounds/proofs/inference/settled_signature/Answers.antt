use Rattle.std.proofs.Common.{sym, ap, ◌∙◌}
use Rattle.cons_tree.specs.Constraints.{constraint}
use Rattle.cons_tree.proofs.TrailLaws.{no_answer, an_answer}
use Rattle.cons_solve.specs.Environments.{solution}
use Rattle.comp_rounds.specs.Rounds.{signature_in}
use Rattle.comp_rounds.proofs.inference.settled_signature.Goals as goal

pub returns-then-not-alive : goal.returns-then-not-alive
returns-then-not-alive c =
    let found = solution (constraint c.args.made.now.constraint) c.args.slots.now.types in
    c.in_ok-without.ensures
    ∙ sym (ap (signature_in c.args.count) (no_answer c.in_ok-alive.alive found c.solve_slots.new.slots.types c.if-not-alive.true c.in_ok-alive.ensures.value))

pub returns : goal.returns
returns c =
    let found = solution (constraint c.args.made.now.constraint) c.args.slots.now.types in
    c.in_ok-sig.ensures
    ∙ sym (ap (signature_in c.args.count) (an_answer c.in_ok-alive.alive found c.solve_slots.new.slots.types c.if-not-alive.false c.in_ok-alive.ensures.value))
