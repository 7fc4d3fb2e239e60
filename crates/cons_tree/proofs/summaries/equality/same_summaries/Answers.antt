use Rattle.std.proofs.Common.{◌≡◌, ◌≤◌, length, refl, ap, ◌∙◌, arith}
use Rattle.cons_tree.proofs.SameEntries.{same_everywhere}
use Rattle.cons_tree.proofs.summaries.equality.same_summaries.Goals as goal

pub returns : goal.returns
returns c =
    let es = c.args.a.now in
    let gs = c.args.b.now in
    let count : c.len.result ≡ length es = c.len.ensures.len ∙ ap length c.a.view_is in
    let other_count : c.len-2.result ≡ length gs = c.len-2.ensures.len ∙ ap length c.b.view_is in
    let all : length es ≤ c.loop-at.at = omega (arith, count, other_count) in
    let others : length gs ≤ c.loop-at.at = omega (arith, count, other_count) in
    (λ h. same_everywhere es gs c.loop-at.at all others c.loop-at.invariant, λ same. refl)
