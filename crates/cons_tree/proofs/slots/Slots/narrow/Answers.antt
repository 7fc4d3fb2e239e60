use Rattle.std.proofs.Common.{sym, ap, ◌∙◌}
use Rattle.cons_tree.specs.Environments.{on_types, lowered}
use Rattle.cons_tree.specs.Narrowing.{alike, meets, each_typed, transferred, narrowed}
use Rattle.cons_tree.specs.Trails.{answer}
use Rattle.cons_tree.proofs.TrailLaws.{dead_value, tail_value, tail_trailed}
use Rattle.cons_tree.proofs.RowLaws.{of_row, typed_as}
use Rattle.cons_tree.proofs.slots.Slots.narrow.Goals as goal

pub returns-in-Bound-clause-value : goal.returns-in-Bound-clause-value
unfolding narrowed
returns-in-Bound-clause-value c =
    let xs = c.args.self.now.types in
    of_row c.lower_shared.result (lowered xs c.in-Bound.slot c.in-Bound.ty) (narrowed c.args.part.now xs) c.lower_shared.new.self.types (ap (λ p. narrowed p xs) c.in-Bound.is) c.lower_shared.ensures.value

pub returns-in-Equal-clause-value : goal.returns-in-Equal-clause-value
unfolding narrowed
returns-in-Equal-clause-value c =
    let xs = c.args.self.now.types in
    of_row c.lower_both.result (alike c.in-Equal.slot c.in-Equal.other xs) (narrowed c.args.part.now xs) c.lower_both.new.self.types (ap (λ p. narrowed p xs) c.in-Equal.is) c.lower_both.ensures.value

pub returns-then-not-alive-clause-value : goal.returns-then-not-alive-clause-value
unfolding narrowed
returns-then-not-alive-clause-value c =
    let xs = c.args.self.now.types in
    let it = c.in-Call in
    let ys = c.lower_each.new.self.types in
    let alive = c.in_ok-alive-in-Call.alive in
    ap (λ p. narrowed p xs) it.is
    ∙ dead_value (each_typed it.args it.sig.args) (meets it.value (λ us. it.sig.result)) xs ys ys alive c.if-not-alive.true
    (typed_as c.as_slice.result.now it.args c.as_slice-in-Call.result.now it.sig.args xs (answer alive ys) c.as_slice.ensures (c.as_slice-in-Call.ensures ∙ ap (λ s. s.args) c.get-sig.ensures) c.in_ok-alive-in-Call.ensures.value)

pub returns-else-not-alive-clause-value : goal.returns-else-not-alive-clause-value
unfolding narrowed
returns-else-not-alive-clause-value c =
    let xs = c.args.self.now.types in
    let it = c.in-Call in
    let ys = c.lower_each.new.self.types in
    let zs = c.lower.new.self.types in
    let alive = c.in_ok-alive-in-Call.alive in
    of_row c.lower.result (on_types (each_typed it.args it.sig.args xs) (meets it.value (λ us. it.sig.result))) (narrowed c.args.part.now xs) zs (ap (λ p. narrowed p xs) it.is)
    (tail_value c.lower.result (each_typed it.args it.sig.args) (meets it.value (λ us. it.sig.result)) xs ys zs alive c.if-not-alive.false
    (typed_as c.as_slice.result.now it.args c.as_slice-in-Call.result.now it.sig.args xs (answer alive ys) c.as_slice.ensures (c.as_slice-in-Call.ensures ∙ ap (λ s. s.args) c.get-sig.ensures) c.in_ok-alive-in-Call.ensures.value)
    (of_row c.lower.result (lowered ys it.value c.get-sig.result.now.result) (lowered ys it.value it.sig.result) zs (sym (ap (λ s. lowered ys it.value s.result) c.get-sig.ensures)) c.lower.ensures.value))

pub returns-else-not-alive-clause-trailed : goal.returns-else-not-alive-clause-trailed
returns-else-not-alive-clause-trailed c = tail_trailed c.lower.result c.args.self.now c.lower_each.new.self c.lower.new.self c.in_ok-alive-in-Call.ensures.trailed c.lower.ensures.trailed

pub returns-then-not-alive-2-clause-value : goal.returns-then-not-alive-2-clause-value
unfolding narrowed
returns-then-not-alive-2-clause-value c =
    let xs = c.args.self.now.types in
    let it = c.in-Builtin in
    let ys = c.lower_each-in-Builtin.new.self.types in
    let alive = c.in_ok-alive-in-Builtin.alive in
    ap (λ p. narrowed p xs) it.is
    ∙ dead_value (each_typed it.args it.types) (transferred it.transfer it.value it.args) xs ys ys alive c.if-not-alive-2.true
    (typed_as c.as_slice-in-Builtin.result.now it.args c.as_slice-in-Builtin-2.result.now it.types xs (answer alive ys) c.as_slice-in-Builtin.ensures c.as_slice-in-Builtin-2.ensures c.in_ok-alive-in-Builtin.ensures.value)

pub returns-else-not-alive-2-clause-value : goal.returns-else-not-alive-2-clause-value
unfolding narrowed
returns-else-not-alive-2-clause-value c =
    let xs = c.args.self.now.types in
    let it = c.in-Builtin in
    let ys = c.lower_each-in-Builtin.new.self.types in
    let zs = c.transfer.new.self.types in
    let alive = c.in_ok-alive-in-Builtin.alive in
    of_row c.transfer.result (on_types (each_typed it.args it.types xs) (transferred it.transfer it.value it.args)) (narrowed c.args.part.now xs) zs (ap (λ p. narrowed p xs) it.is)
    (tail_value c.transfer.result (each_typed it.args it.types) (transferred it.transfer it.value it.args) xs ys zs alive c.if-not-alive-2.false
    (typed_as c.as_slice-in-Builtin.result.now it.args c.as_slice-in-Builtin-2.result.now it.types xs (answer alive ys) c.as_slice-in-Builtin.ensures c.as_slice-in-Builtin-2.ensures c.in_ok-alive-in-Builtin.ensures.value)
    (of_row c.transfer.result (transferred it.transfer it.value c.as_slice-in-Builtin-3.result.now ys) (transferred it.transfer it.value it.args ys) zs
    (sym (ap (λ l. transferred it.transfer it.value l ys) c.as_slice-in-Builtin-3.ensures)) c.transfer.ensures.value))

pub returns-else-not-alive-2-clause-trailed : goal.returns-else-not-alive-2-clause-trailed
returns-else-not-alive-2-clause-trailed c = tail_trailed c.transfer.result c.args.self.now c.lower_each-in-Builtin.new.self c.transfer.new.self c.in_ok-alive-in-Builtin.ensures.trailed c.transfer.ensures.trailed
