use Rattle.std.proofs.Common.{sym, ap, ◌∙◌, slice_get}
use Rattle.cons_tree.proofs.SameEntries.{names_tell, values_tell}
use Rattle.cons_tree.proofs.summaries.equality.same_entry.Goals as goal

pub returns-then-same_name : goal.returns-then-same_name
returns-then-same_name c =
    let is = sym (c.in-Some-Some.ensures.entry ∙ ap (λ t. slice_get t.0 c.args.at) c.a.view_is) in
    let js = sym (c.in-Some-Some.ensures'.entry ∙ ap (λ t. slice_get t.0 c.args.at) c.b.view_is) in
    values_tell c.args.a.now.0 c.args.b.now.0 c.args.at _ _ _ _ c.same_callee.result is js (c.same_name.ensures.0 c.if-same_name.true) c.same_callee.ensures

pub returns-else-same_name : goal.returns-else-same_name
returns-else-same_name c =
    let is = sym (c.in-Some-Some.ensures.entry ∙ ap (λ t. slice_get t.0 c.args.at) c.a.view_is) in
    let js = sym (c.in-Some-Some.ensures'.entry ∙ ap (λ t. slice_get t.0 c.args.at) c.b.view_is) in
    names_tell c.args.a.now.0 c.args.b.now.0 c.args.at _ _ _ _ c.same_name.result is js c.if-same_name.false c.same_name.ensures
