use Rattle.std.proofs.Common.{◌-◌, ◌+◌, true, false, sym, ap, ◌∙◌, arith}
use Rattle.std.specs.Ordering.{is_lt}
use Rattle.type_kinds.proofs.Truths.{not_under}
use Rattle.type_kinds_sets.specs.Ascending.{is_ascending}
use Rattle.type_kinds_sets.specs.Names.{name_cmp}
use Rattle.type_kinds_sets.proofs.NameLaws.{name_total, name_same}
use Rattle.type_bytes.proofs.ReadTrees.{first_key, keys_more, keys_fall, all_keys, tag_keys}
use Rattle.type_bytes.proofs.reading.tags_ascend.Goals as goal

pub returns-then-ge : goal.returns-then-ge
returns-then-ge c d =
    let x = c.index-list-at.result in
    let y = c.index-list-at-in-loop-at.result in
    let a = c.get.ensures ∙ ap (λ t. t.atom) (sym c.index-list-at.is) in
    let b = c.get-in-loop-at.ensures ∙ ap (λ t. t.atom) (sym c.index-list-at-in-loop-at.is) in
    let falls = sym (λ i. is_lt (name_cmp (a i) (b i))) ∙ not_under _ true (sym c.ge.ensures ∙ c.if-ge.true) in
    sym (ap (is_ascending name_cmp) (tag_keys d c.args.list.now) ∙ keys_fall name_cmp name_total name_same (λ t. t.atom) c.args.list.now (c.loop-at.at - 1) c.loop-at.at (c.loop-at.at + 1) x y (omega (arith, c.loop-at.auto.at))
    (omega arith) c.loop-at-test.true c.index-list-at.is c.index-list-at-in-loop-at.is falls)

pub loop-at-init : goal.loop-at-init
loop-at-init c = first_key name_cmp (λ t. t.atom) c.args.list.now

pub loop-at-preserved : goal.loop-at-preserved
loop-at-preserved c =
    let x = c.index-list-at.result in
    let y = c.index-list-at-in-loop-at.result in
    let a = c.get.ensures ∙ ap (λ t. t.atom) (sym c.index-list-at.is) in
    let b = c.get-in-loop-at.ensures ∙ ap (λ t. t.atom) (sym c.index-list-at-in-loop-at.is) in
    let up = sym (λ i. is_lt (name_cmp (a i) (b i))) ∙ not_under _ false (sym c.ge.ensures ∙ c.if-ge.false) in
    keys_more name_cmp name_total name_same (λ t. t.atom) c.args.list.now (c.loop-at.at - 1) c.loop-at.at (c.loop-at.at + 1) x y (omega (arith, c.loop-at.auto.at))
    (omega arith) c.loop-at-test.true c.index-list-at.is c.index-list-at-in-loop-at.is c.loop-at.invariant up

pub returns : goal.returns
returns c d = sym (ap (is_ascending name_cmp) (tag_keys d c.args.list.now) ∙ all_keys name_cmp (λ t. t.atom) c.args.list.now c.loop-at.at c.loop-at-test.false c.loop-at.invariant)
