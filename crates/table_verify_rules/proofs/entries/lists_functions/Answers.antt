use Rattle.std.proofs.Common.{ap, ◌∙◌}
use Rattle.table_verify_rules.proofs.Listing.{not_all, told_by}
use Rattle.table_verify_rules.proofs.entries.lists_functions.Goals as goal

pub returns-then-not-branch : goal.returns-then-not-branch
returns-then-not-branch c =
    not_all c.args.entry.now c.args.certified.now c.args.source.now c.as_slice.result.now c.counting_tells.ensures (c.as_slice.ensures ∙ ap (λ x. x.defs) c.module-module.ensures)
    c.in_ok-lists_all.field-0 c.in_ok-lists_all.ensures c.if-not-branch.true

pub returns : goal.returns
returns c =
    told_by c.args.entry.now c.args.certified.now c.args.source.now c.as_slice.result.now c.counting_tells.ensures (c.as_slice.ensures ∙ ap (λ x. x.defs) c.module-module.ensures)
    c.in_ok-lists_all.field-0 c.lists_exports.result c.in_ok-exports.exports c.in_ok-lists_all.ensures c.if-not-branch.false
    (c.in_ok-exports.ensures ∙ c.as_slice-2.ensures ∙ ap (λ x. x.exports) c.module-module.ensures) c.lists_exports.ensures
