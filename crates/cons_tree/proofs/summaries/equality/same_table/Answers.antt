use Rattle.std.proofs.Common.{◌≡◌, ◌≤◌, length, sym, ap, ◌∙◌, arith}
use Rattle.cons_tree.proofs.SameEntries.{same_everywhere}
use Rattle.cons_tree.proofs.summaries.equality.same_table.Goals as goal

pub returns : goal.returns
returns c =
    let es = c.args.a.now in
    let gs = c.args.b.now in
    let count : c.len.result ≡ length es.0 = c.len.ensures.len ∙ ap (λ t. length t.0) c.a.view_is in
    let other_count : c.len-2.result ≡ length gs.0 = c.len-2.ensures.len ∙ ap (λ t. length t.0) c.b.view_is in
    let all : length es.0 ≤ c.loop-at.at = omega (arith, count, other_count) in
    let others : length gs.0 ≤ c.loop-at.at = omega (arith, count, other_count) in
    let entries = same_everywhere es.0 gs.0 c.loop-at.at all others c.loop-at.invariant in
    let rest = ap (λ t. t.1) c.a.view_is in
    let other_rest = ap (λ t. t.1) c.b.view_is in
    (λ h i. (entries i, (sym rest ∙ c.same_callee.ensures.0 h ∙ other_rest) i), λ same. c.same_callee.ensures.1 (rest ∙ ap (λ t. t.1) same ∙ sym other_rest))
