use Rattle.std.proofs.Common.{◌≡◌, ◌<◌, length, sym, ap, ◌∙◌, subst, true≢false, arith}
use Rattle.std.proofs.lemmas.Option.{get_or_from_slice_get}
use Rattle.type_lattice.specs.Types.{any, Below}
use Rattle.cons_tree.specs.Environments.{type_at}
use Rattle.table_verify_rules.proofs.SlotsBelow.{each_below, at_each, up_to_next}
use Rattle.table_verify_rules.proofs.giving.is_within.Goals as goal

pub returns-then-not-below : goal.returns-then-not-below
returns-then-not-below c =
    let ts = c.args.slots.now.types in let args = c.args.sig.now.args in let at = c.loop-at.at in
    let there = get_or_from_slice_get args at c.at-in-loop-at.result.now any c.at-in-loop-at.ensures in
    let low : at < length args = subst (λ n. at < n) c.len-count.ensures c.loop-at-test.true in (
      λ t. absurd (true≢false (sym t)),
      λ w. absurd (true≢false (sym (c.leq-below.ensures.below.1
          (subst (λ t. Below t c.at-in-loop-at.result.now) (sym c.at.ensures) (subst (λ t. Below (type_at ts at) t) there (at_each ts args at low w.0))))
          ∙ c.if-not-below.true)),
    )

pub loop-at-preserved : goal.loop-at-preserved
loop-at-preserved c =
    let ts = c.args.slots.now.types in let args = c.args.sig.now.args in let at = c.loop-at.at in
    let there = get_or_from_slice_get args at c.at-in-loop-at.result.now any c.at-in-loop-at.ensures in
    up_to_next (λ i. Below (type_at ts i) (type_at args i)) at c.loop-at.invariant
    (subst (λ t. Below t (type_at args at)) c.at.ensures (subst (λ t. Below c.at.result.now t) (sym there) (c.leq-below.ensures.below.0 c.if-not-below.false)))

pub returns : goal.returns
returns c =
    let ts = c.args.slots.now.types in let args = c.args.sig.now.args in
    let last : c.at-2.result.now ≡ type_at ts (length args) = c.at-2.ensures ∙ ap (type_at ts) c.len-count.ensures in (
      λ t. (
        each_below ts args c.requires (λ i l. c.loop-at.invariant i (omega (arith, l, c.loop-at-test.false, c.len-count.ensures))),
        subst (λ x. Below x c.args.sig.now.result) last (c.leq.ensures.below.0 t),
      ),
      λ w. c.leq.ensures.below.1 (subst (λ x. Below x c.args.sig.now.result) (sym last) w.1),
    )
