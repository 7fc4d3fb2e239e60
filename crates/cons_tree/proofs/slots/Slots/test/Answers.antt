use Rattle.std.proofs.Common.{sym, ap, ◌∙◌, get_or}
use Rattle.cons_tree.specs.declared.parts.Transfer.TheVariants.{Test}
use Rattle.cons_tree.specs.Environments.{type_at, on_types, lowered}
use Rattle.cons_tree.specs.Named.{tested}
use Rattle.cons_tree.specs.Narrowing.{meets, only_where, is_true, transferred}
use Rattle.cons_tree.proofs.TrailLaws.{dead_value, tail_value, tail_trailed}
use Rattle.cons_tree.proofs.RowLaws.{of_row, test_short, test_row}
use Rattle.cons_tree.proofs.slots.Slots.test.Goals as goal

pub returns-in_default-clause-value : goal.returns-in_default-clause-value
returns-in_default-clause-value c = test_short c.args.ty.now c.args.value c.args.args.now c.args.self.now.types c.in_default.len_below

pub returns-then-not-alive-clause-value : goal.returns-then-not-alive-clause-value
returns-then-not-alive-clause-value c =
    let xs = c.args.self.now.types in
    let v = c.args.value in
    let t = c.args.ty.now in
    let a = get_or c.args.args.now 0 0 in
    let ys = c.lower_to.new.self.types in
    test_row t v c.args.args.now xs c.in-len1-up.len_at_least
    ∙ dead_value (meets v (λ us. tested t (type_at us a))) (only_where (is_true v) (meets a (λ us. t))) xs ys ys c.in_ok-alive.alive c.if-not-alive.true
    (ap (lowered xs v) (sym (c.in_ok-gives.ensures ∙ ap (tested t) c.at.ensures)) ∙ c.in_ok-alive.ensures.value)

pub returns-clause-value : goal.returns-clause-value
returns-clause-value c =
    let xs = c.args.self.now.types in
    let v = c.args.value in
    let t = c.args.ty.now in
    let a = get_or c.args.args.now 0 0 in
    let ys = c.lower_to.new.self.types in
    let zs = c.lower_where_true.new.self.types in
    of_row c.lower_where_true.result (on_types (lowered xs v (tested t (type_at xs a))) (only_where (is_true v) (meets a (λ us. t)))) (transferred (Test t) v c.args.args.now xs) zs
    (test_row t v c.args.args.now xs c.in-len1-up.len_at_least)
    (tail_value c.lower_where_true.result (meets v (λ us. tested t (type_at us a))) (only_where (is_true v) (meets a (λ us. t))) xs ys zs c.in_ok-alive.alive c.if-not-alive.false
    (ap (lowered xs v) (sym (c.in_ok-gives.ensures ∙ ap (tested t) c.at.ensures)) ∙ c.in_ok-alive.ensures.value)
    c.lower_where_true.ensures.value)

pub returns-clause-trailed : goal.returns-clause-trailed
returns-clause-trailed c = tail_trailed c.lower_where_true.result c.args.self.now c.lower_to.new.self c.lower_where_true.new.self c.in_ok-alive.ensures.trailed c.lower_where_true.ensures.trailed
