use Rattle.std.proofs.Common.{sym, ap, ◌∙◌, length, slice_get, ◌-◌}
use Rattle.type_kinds.proofs.Results.{on_both, always}
use Rattle.table_keep.proofs.RisingLaws.{placed_tie, placed_higher}
use Rattle.table_keep.proofs.rising.add_higher.Goals as goal

pub returns-in-Equal : goal.returns-in-Equal
returns-in-Equal g c =
    sym (placed_tie g.met.T.InOrder.total g.met.T.InOrder.same c.args.item c.in-Some.last.now c.args.list.now c.requires.above
    (ap (λ xs. slice_get xs (length xs - 1)) (sym c.as_slice.ensures) ∙ sym c.in-Some.ensures.value) (sym c.in-Equal.ensures))

pub returns-in_default : goal.returns-in_default
returns-in_default g c =
    let higher = placed_higher g.met.T.InOrder.total g.met.T.InOrder.same c.args.item c.in-Some.last.now c.args.list.now c.requires.rising c.requires.above
    (ap (λ xs. slice_get xs (length xs - 1)) (sym c.as_slice.ensures) ∙ sym c.in-Some.ensures.value) (λ e. c.in_default.not-Equal (c.compare.ensures ∙ e)) in
    on_both c.add.result c.add.ensures.ok (always c.add.result higher) (λ new here. new ∙ sym here)
