use Rattle.std.proofs.Common.{Some, sym, ap, ◌∙◌, get_or}
use Rattle.cons_tree.specs.declared.parts.Transfer.TheVariants.{Same}
use Rattle.cons_tree.specs.Environments.{type_at, on_types, lowered}
use Rattle.cons_tree.specs.Named.{same_values}
use Rattle.cons_tree.specs.Narrowing.{meets, alike, only_where, is_true, transferred}
use Rattle.cons_tree.proofs.TrailLaws.{dead_value, tail_value, tail_trailed, goes_on, an_answer}
use Rattle.cons_tree.proofs.RowLaws.{of_row, where_not, where_yes, same_short, same_row}
use Rattle.cons_tree.proofs.slots.Slots.same.Goals as goal

pub returns-in_default-clause-value : goal.returns-in_default-clause-value
returns-in_default-clause-value c = same_short c.args.value c.args.args.now c.args.self.now.types c.in_default.len_below

pub returns-then-not-alive-clause-value : goal.returns-then-not-alive-clause-value
returns-then-not-alive-clause-value c =
    let xs = c.args.self.now.types in
    let v = c.args.value in
    let a = get_or c.args.args.now 0 0 in
    let b = get_or c.args.args.now 1 0 in
    let ys = c.lower_to.new.self.types in
    same_row v c.args.args.now xs c.in-len2-up.len_at_least
    ∙ dead_value (meets v (λ us. same_values (type_at us a) (type_at us b))) (only_where (is_true v) (alike a b)) xs ys ys c.in_ok-alive.alive c.if-not-alive.true
    (ap (lowered xs v) (sym (c.in_ok-gives.ensures ∙ (λ i. same_values (c.at.ensures i) (c.at-2.ensures i)))) ∙ c.in_ok-alive.ensures.value)

pub returns-then-not-yes-clause-value : goal.returns-then-not-yes-clause-value
returns-then-not-yes-clause-value c =
    let xs = c.args.self.now.types in
    let v = c.args.value in
    let a = get_or c.args.args.now 0 0 in
    let b = get_or c.args.args.now 1 0 in
    let ys = c.lower_to.new.self.types in
    let given = lowered xs v (same_values (type_at xs a) (type_at xs b)) in
    same_row v c.args.args.now xs c.in-len2-up.len_at_least
    ∙ goes_on given (Some ys) (only_where (is_true v) (alike a b)) ys
    (an_answer c.in_ok-alive.alive given ys c.if-not-alive.false (ap (lowered xs v) (sym (c.in_ok-gives.ensures ∙ (λ i. same_values (c.at.ensures i) (c.at-2.ensures i)))) ∙ c.in_ok-alive.ensures.value))
    (where_not (is_true v) (alike a b) ys (sym c.in_ok-yes.ensures ∙ c.if-not-yes.true))

pub returns-clause-value : goal.returns-clause-value
returns-clause-value c =
    let xs = c.args.self.now.types in
    let v = c.args.value in
    let a = get_or c.args.args.now 0 0 in
    let b = get_or c.args.args.now 1 0 in
    let ys = c.lower_to.new.self.types in
    let zs = c.lower_both.new.self.types in
    of_row c.lower_both.result (on_types (lowered xs v (same_values (type_at xs a) (type_at xs b))) (only_where (is_true v) (alike a b))) (transferred Same v c.args.args.now xs) zs
    (same_row v c.args.args.now xs c.in-len2-up.len_at_least)
    (tail_value c.lower_both.result (meets v (λ us. same_values (type_at us a) (type_at us b))) (only_where (is_true v) (alike a b)) xs ys zs c.in_ok-alive.alive c.if-not-alive.false
    (ap (lowered xs v) (sym (c.in_ok-gives.ensures ∙ (λ i. same_values (c.at.ensures i) (c.at-2.ensures i)))) ∙ c.in_ok-alive.ensures.value)
    (of_row c.lower_both.result (alike a b ys) (only_where (is_true v) (alike a b) ys) zs (where_yes (is_true v) (alike a b) ys (sym c.in_ok-yes.ensures ∙ c.if-not-yes.false)) c.lower_both.ensures.value))

pub returns-clause-trailed : goal.returns-clause-trailed
returns-clause-trailed c = tail_trailed c.lower_both.result c.args.self.now c.lower_to.new.self c.lower_both.new.self c.in_ok-alive.ensures.trailed c.lower_both.ensures.trailed
