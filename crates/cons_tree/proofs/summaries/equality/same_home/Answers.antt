use Rattle.std.proofs.Common.{sym, ap, ◌∙◌, slice_get}
use Rattle.cons_tree.proofs.SameEntries.{names_tell, values_tell}
use Rattle.cons_tree.proofs.summaries.equality.same_home.Goals as goal

pub returns-then-is : goal.returns-then-is
returns-then-is c =
    let is = sym (c.in-Some-Some.ensures.entry ∙ ap (λ t. slice_get t c.args.at) c.a.view_is) in
    let js = sym (c.in-Some-Some.ensures'.entry ∙ ap (λ t. slice_get t c.args.at) c.b.view_is) in
    values_tell c.args.a.now c.args.b.now c.args.at _ _ _ _ c.same_table.result is js (c.is.ensures.0 c.if-is.true) c.same_table.ensures

pub returns-else-is : goal.returns-else-is
returns-else-is c =
    let is = sym (c.in-Some-Some.ensures.entry ∙ ap (λ t. slice_get t c.args.at) c.a.view_is) in
    let js = sym (c.in-Some-Some.ensures'.entry ∙ ap (λ t. slice_get t c.args.at) c.b.view_is) in
    names_tell c.args.a.now c.args.b.now c.args.at _ _ _ _ c.is.result is js c.if-is.false c.is.ensures
