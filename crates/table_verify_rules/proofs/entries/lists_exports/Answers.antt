use Rattle.std.proofs.Common.{◌≡◌, ◌<◌, ◌≤◌, length, get_or, sym, ◌∙◌, subst, true≢false, eqb-true}
use borrow.Author.Tests.{eq-eqb}
use Rattle.core_scope.specs.Names.{has_function}
use Rattle.table_verify_rules.proofs.Listing.{kept_taken, kept_skipped, rest_other, rest_ended}
use Rattle.table_verify_rules.proofs.entries.lists_exports.Goals as goal
use Rattle.table_verify_rules.proofs.entries.lists_exports.Goals.{then-has+else-not-stands_at, else-has}

pub returns-then-not-stands_at : goal.returns-then-not-stands_at
returns-then-not-stands_at c =
    let xs = c.args.certified.now.exports in let i = c.loop-listed.listed-index in let x = c.listed-item.result in
    let low : i < length xs = subst (λ ys. i < length ys) c.as_slice-listed-items.ensures c.loop-listed-test.true in
    let is : x ≡ get_or xs i x = subst (λ ys. x ≡ get_or ys i x) c.as_slice-listed-items.ensures c.listed-item.is in (
      λ t. absurd (true≢false (sym t)),
      λ s. absurd (rest_other (λ y. has_function c.args.exports.now y.0) c.args.entry.now.exports xs c.loop-listed.next i x low is (sym c.has.ensures ∙ c.if-has.true)
          (λ st. true≢false (sym (c.stands_at.ensures.1 st) ∙ c.if-not-stands_at.true)) (c.loop-listed.invariant.1.0 s)),
    )

pub loop-listed-preserved : goal.loop-listed-preserved
loop-listed-preserved c =
    let es = c.args.entry.now.exports in let xs = c.args.certified.now.exports in let i = c.loop-listed.listed-index in let x = c.listed-item.result in
    let low : i < length xs = subst (λ ys. i < length ys) c.as_slice-listed-items.ensures c.loop-listed-test.true in
    let is : x ≡ get_or xs i x = subst (λ ys. x ≡ get_or ys i x) c.as_slice-listed-items.ensures c.listed-item.is in
    elim c.if-has.branch [
      | then-has+else-not-stands_at w ↦ kept_taken (λ y. has_function c.args.exports.now y.0) es xs _ c.loop-listed.next i c.if-has.next x low is (sym c.has.ensures ∙ w.if-has.true)
          (w.stands_at.ensures.0 w.if-not-stands_at.false) w.next-is c.loop-listed.invariant
      | else-has w ↦ kept_skipped (λ y. has_function c.args.exports.now y.0) es xs _ c.loop-listed.next i c.if-has.next x low is (sym c.has.ensures ∙ w.if-has.false) w.next-is c.loop-listed.invariant
    ]

pub returns : goal.returns
returns c =
    let es = c.args.entry.now.exports in let xs = c.args.certified.now.exports in let i = c.loop-listed.listed-index in let next = c.loop-listed.next in
    let end : length xs ≤ i = subst (λ ys. length ys ≤ i) c.as_slice-listed-items.ensures c.loop-listed-test.false in
    let r = rest_ended (λ y. has_function c.args.exports.now y.0) es xs next i c.loop-listed.invariant.0 end in (
      λ t. c.loop-listed.invariant.1.1 (r.1 (eqb-true next c.len-count.result t ∙ c.len-count.ensures)),
      λ a. eq-eqb next c.len-count.result (r.0 (c.loop-listed.invariant.1.0 a) ∙ sym c.len-count.ensures),
    )
