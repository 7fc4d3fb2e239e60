use Rattle.std.proofs.Common.{true, None, sym, ap, ◌∙◌}
use Rattle.type_lattice.specs.Types.{cons, elem, tail}
use Rattle.cons_tree.specs.Environments.{type_at, lowered}
use Rattle.cons_tree.specs.Narrowing.{and_then, meets, narrowed}
use Rattle.cons_tree.proofs.TrailLaws.{dead_value, tail_value, tail_trailed, trailed_then, goes_on, an_answer}
use Rattle.cons_tree.proofs.RowLaws.{of_row}
use Rattle.cons_tree.proofs.slots.Slots.cons.Goals as goal

pub returns-then-not-alive-clause-value : goal.returns-then-not-alive-clause-value
unfolding narrowed
returns-then-not-alive-clause-value c =
    let xs = c.args.self.now.types in
    let v = c.args.list in
    let h = c.args.head in
    let t = c.args.tail in
    let ys = c.lower_to.new.self.types in
    dead_value (meets v (λ us. cons (type_at us h) (type_at us t) true)) (and_then (meets h (λ us. elem (type_at us v))) (meets t (λ us. tail (type_at us v)))) xs ys ys c.in_ok-alive.alive c.if-not-alive.true
    (ap (lowered xs v) (sym (c.in_ok-made.ensures.value ∙ (λ i. cons (c.at.ensures i) (c.at-2.ensures i) true))) ∙ c.in_ok-alive.ensures.value)

pub returns-then-not-alive-2-clause-value : goal.returns-then-not-alive-2-clause-value
unfolding narrowed
returns-then-not-alive-2-clause-value c =
    let xs = c.args.self.now.types in
    let v = c.args.list in
    let h = c.args.head in
    let t = c.args.tail in
    let ys = c.lower_to.new.self.types in
    let zs = c.lower_to-2.new.self.types in
    let given = lowered xs v (cons (type_at xs h) (type_at xs t) true) in
    goes_on given None (and_then (meets h (λ us. elem (type_at us v))) (meets t (λ us. tail (type_at us v)))) ys
    (an_answer c.in_ok-alive.alive given ys c.if-not-alive.false (ap (lowered xs v) (sym (c.in_ok-made.ensures.value ∙ (λ i. cons (c.at.ensures i) (c.at-2.ensures i) true))) ∙ c.in_ok-alive.ensures.value))
    (dead_value (meets h (λ us. elem (type_at us v))) (meets t (λ us. tail (type_at us v))) ys zs zs c.in_ok-alive-2.alive c.if-not-alive-2.true
    (ap (lowered ys h) (sym (c.in_ok-heads.ensures.value ∙ ap elem c.at-3.ensures)) ∙ c.in_ok-alive-2.ensures.value))

pub returns-then-not-alive-2-clause-trailed : goal.returns-then-not-alive-2-clause-trailed
returns-then-not-alive-2-clause-trailed c = trailed_then c.args.self.now c.lower_to.new.self c.lower_to-2.new.self c.in_ok-alive.ensures.trailed c.in_ok-alive-2.ensures.trailed

pub returns-clause-value : goal.returns-clause-value
unfolding narrowed
returns-clause-value c =
    let xs = c.args.self.now.types in
    let v = c.args.list in
    let h = c.args.head in
    let t = c.args.tail in
    let ys = c.lower_to.new.self.types in
    let zs = c.lower_to-2.new.self.types in
    let us = c.lower_to-3.new.self.types in
    tail_value c.lower_to-3.result (meets v (λ ls. cons (type_at ls h) (type_at ls t) true)) (and_then (meets h (λ ls. elem (type_at ls v))) (meets t (λ ls. tail (type_at ls v)))) xs ys us c.in_ok-alive.alive c.if-not-alive.false
    (ap (lowered xs v) (sym (c.in_ok-made.ensures.value ∙ (λ i. cons (c.at.ensures i) (c.at-2.ensures i) true))) ∙ c.in_ok-alive.ensures.value)
    (tail_value c.lower_to-3.result (meets h (λ ls. elem (type_at ls v))) (meets t (λ ls. tail (type_at ls v))) ys zs us c.in_ok-alive-2.alive c.if-not-alive-2.false
    (ap (lowered ys h) (sym (c.in_ok-heads.ensures.value ∙ ap elem c.at-3.ensures)) ∙ c.in_ok-alive-2.ensures.value)
    (of_row c.lower_to-3.result (lowered zs t c.in_ok-rest.rest) (lowered zs t (tail (type_at zs v))) us (ap (lowered zs t) (sym (c.in_ok-rest.ensures.value ∙ ap tail c.at-4.ensures))) c.lower_to-3.ensures.value))

pub returns-clause-trailed : goal.returns-clause-trailed
returns-clause-trailed c =
    tail_trailed c.lower_to-3.result c.args.self.now c.lower_to-2.new.self c.lower_to-3.new.self
    (trailed_then c.args.self.now c.lower_to.new.self c.lower_to-2.new.self c.in_ok-alive.ensures.trailed c.in_ok-alive-2.ensures.trailed) c.lower_to-3.ensures.trailed
