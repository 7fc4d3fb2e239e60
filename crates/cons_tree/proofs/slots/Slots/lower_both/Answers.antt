use Rattle.cons_tree.specs.Environments.{type_at}
use Rattle.cons_tree.specs.Narrowing.{alike, meets}
use Rattle.cons_tree.proofs.TrailLaws.{dead_value, tail_value, tail_trailed}
use Rattle.cons_tree.proofs.slots.Slots.lower_both.Goals as goal

pub returns-then-not-alive-clause-value : goal.returns-then-not-alive-clause-value
unfolding alike
returns-then-not-alive-clause-value c =
    dead_value (meets c.args.slot (λ xs. type_at xs c.args.other)) (meets c.args.other (λ xs. type_at xs c.args.slot)) c.args.self.now.types c.lower_by.new.self.types c.lower_by.new.self.types c.in_ok-alive.alive c.if-not-alive.true
    c.in_ok-alive.ensures.value

pub returns-clause-value : goal.returns-clause-value
unfolding alike
returns-clause-value c =
    tail_value c.lower_by-2.result (meets c.args.slot (λ xs. type_at xs c.args.other))
    (meets c.args.other (λ xs. type_at xs c.args.slot)) c.args.self.now.types c.lower_by.new.self.types c.lower_by-2.new.self.types c.in_ok-alive.alive c.if-not-alive.false c.in_ok-alive.ensures.value c.lower_by-2.ensures.value

pub returns-clause-trailed : goal.returns-clause-trailed
returns-clause-trailed c = tail_trailed c.lower_by-2.result c.args.self.now c.lower_by.new.self c.lower_by-2.new.self c.in_ok-alive.ensures.trailed c.lower_by-2.ensures.trailed
