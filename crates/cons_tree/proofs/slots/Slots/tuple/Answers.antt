use Rattle.std.proofs.Common.{length, map, sym, ap, ◌∙◌}
use Rattle.type_lattice.specs.Types.{tuple}
use Rattle.cons_tree.specs.Environments.{type_at, lowered}
use Rattle.cons_tree.specs.Narrowing.{meets, each_projected, narrowed}
use Rattle.cons_tree.proofs.TrailLaws.{dead_value, tail_value, tail_trailed}
use Rattle.cons_tree.proofs.RowLaws.{of_row}
use Rattle.cons_tree.proofs.slots.Slots.tuple.Goals as goal

pub returns-then-not-alive-clause-value : goal.returns-then-not-alive-clause-value
unfolding narrowed
returns-then-not-alive-clause-value c =
    let xs = c.args.self.now.types in
    let v = c.args.tuple in
    let ws = c.args.slots.now in
    let ys = c.lower_to.new.self.types in
    dead_value (meets v (λ us. tuple (map (type_at us) ws))) (each_projected v (length ws) 1 ws) xs ys ys c.in_ok-alive.alive c.if-not-alive.true
    (ap (lowered xs v) (sym (c.in_ok-made.ensures.value ∙ ap tuple (c.as_slice-2.ensures ∙ c.in_ok-elements.ensures ∙ ap (map (type_at xs)) c.as_slice.ensures))) ∙ c.in_ok-alive.ensures.value)

pub returns-clause-value : goal.returns-clause-value
unfolding narrowed
returns-clause-value c =
    let xs = c.args.self.now.types in
    let v = c.args.tuple in
    let ws = c.args.slots.now in
    let ys = c.lower_to.new.self.types in
    let zs = c.lower_elements.new.self.types in
    let ls = c.as_slice-3.result.now in
    tail_value c.lower_elements.result (meets v (λ us. tuple (map (type_at us) ws))) (each_projected v (length ws) 1 ws) xs ys zs c.in_ok-alive.alive c.if-not-alive.false
    (ap (lowered xs v) (sym (c.in_ok-made.ensures.value ∙ ap tuple (c.as_slice-2.ensures ∙ c.in_ok-elements.ensures ∙ ap (map (type_at xs)) c.as_slice.ensures))) ∙ c.in_ok-alive.ensures.value)
    (of_row c.lower_elements.result (each_projected v (length ls) 1 ls ys) (each_projected v (length ws) 1 ws ys) zs (sym (ap (λ l. each_projected v (length l) 1 l ys) c.as_slice-3.ensures)) c.lower_elements.ensures.value)

pub returns-clause-trailed : goal.returns-clause-trailed
returns-clause-trailed c = tail_trailed c.lower_elements.result c.args.self.now c.lower_to.new.self c.lower_elements.new.self c.in_ok-alive.ensures.trailed c.lower_elements.ensures.trailed
