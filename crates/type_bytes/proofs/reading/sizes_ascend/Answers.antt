use Rattle.std.proofs.Common.{◌-◌, ◌+◌, sym, ap, ◌∙◌, arith}
use Rattle.std.specs.Cmp.{nat_cmp_total}
use Rattle.std.specs.FinMap.{nat_cmp-IsAntisymmetric}
use Rattle.std.specs.Ordering.{nat_cmp}
use Rattle.type_kinds_sets.specs.Ascending.{is_ascending}
use Rattle.type_bytes.proofs.ReadTrees.{first_key, below, not_below, keys_more, keys_fall, all_keys, size_keys}
use Rattle.type_bytes.proofs.reading.sizes_ascend.Goals as goal

pub returns-then-list-at : goal.returns-then-list-at
returns-then-list-at c d =
    let x = c.index-list-at.result in
    let y = c.index-list-at-in-loop-at.result in
    let falls = not_below x.size y.size (omega (arith, ap (λ s. s.size) c.index-list-at.is, ap (λ s. s.size) c.index-list-at-in-loop-at.is, c.if-list-at.true)) in
    sym (ap (is_ascending nat_cmp) (size_keys d c.args.list.now) ∙ keys_fall nat_cmp nat_cmp_total nat_cmp-IsAntisymmetric (λ s. s.size) c.args.list.now (c.loop-at.at - 1) c.loop-at.at (c.loop-at.at + 1) x y
    (omega (arith, c.loop-at.auto.at)) (omega arith) c.loop-at-test.true c.index-list-at.is c.index-list-at-in-loop-at.is falls)

pub loop-at-init : goal.loop-at-init
loop-at-init c = first_key nat_cmp (λ s. s.size) c.args.list.now

pub loop-at-preserved : goal.loop-at-preserved
loop-at-preserved c =
    let x = c.index-list-at.result in
    let y = c.index-list-at-in-loop-at.result in
    let up = below x.size y.size (omega (arith, ap (λ s. s.size) c.index-list-at.is, ap (λ s. s.size) c.index-list-at-in-loop-at.is, c.if-list-at.false)) in
    keys_more nat_cmp nat_cmp_total nat_cmp-IsAntisymmetric (λ s. s.size) c.args.list.now (c.loop-at.at - 1) c.loop-at.at (c.loop-at.at + 1) x y (omega (arith, c.loop-at.auto.at))
    (omega arith) c.loop-at-test.true c.index-list-at.is c.index-list-at-in-loop-at.is c.loop-at.invariant up

pub returns : goal.returns
returns c d = sym (ap (is_ascending nat_cmp) (size_keys d c.args.list.now) ∙ all_keys nat_cmp (λ s. s.size) c.args.list.now c.loop-at.at c.loop-at-test.false c.loop-at.invariant)
