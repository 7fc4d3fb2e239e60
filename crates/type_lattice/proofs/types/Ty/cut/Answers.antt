use Rattle.std.proofs.Common.{refl, sym, ap, ◌∙◌}
use Rattle.type_lattice_trees.proofs.Lifts.{lift}
use Rattle.type_lattice.specs.Types.{same_type, cut}
use Rattle.type_lattice.proofs.TypeLaws.{laws}
use Rattle.type_lattice.proofs.TypeModels.{cut_filled, cut_none}
use Rattle.type_lattice.proofs.types.Ty.cut.Goals as goal
use Rattle.type_lattice.proofs.types.Ty.cut.Goals.{else-level-eq0-via-then-level-eq0+else-is_none, else-level-eq0-via-else-level-eq0}

pub returns-then-is_none : goal.returns-then-is_none
returns-then-is_none c =
    let e = cut_none c.args.level c.args.self.now c.none.result c.if-level-eq0.true (sym c.is_none.ensures.value ∙ c.if-is_none.true) c.none.ensures.value in
    rw e (record { value = refl; level = laws.cut-level _ c.args.self.now; above = laws.cut-above _ _; least = laws.cut-least _ c.requires _ })

pub cut-requires-clause-filled : goal.cut-requires-clause-filled
cut-requires-clause-filled c =
    cut_filled c.args.level c.args.self.now c.self.inside.kept.node (ap (λ t. t.ty) c.self.view_is) (λ e.
    elim c.else-level-eq0.branch [
      | else-level-eq0-via-then-level-eq0+else-is_none w ↦ sym w.is_none.ensures.value ∙ w.if-is_none.false
      | else-level-eq0-via-else-level-eq0 w ↦ absurd (w.if-level-eq0.false e)
    ])

pub of_node-requires : goal.of_node-requires
of_node-requires c = (lift c.args.level 4 c.requires c.in_ok-cut.field-0 c.in_ok-cut.ensures.fits).0

pub returns : goal.returns
unfolding cut
returns c =
    let up = (lift c.args.level 4 c.requires c.in_ok-cut.field-0 c.in_ok-cut.ensures.fits).1 in
    let e = same_type c.of_node.result (cut c.args.level c.args.self.now) (rw (← c.self.view_is, ← c.in_ok-cut.ensures.value) (c.of_node.ensures ∙ up)) in
    rw e (record { value = refl; level = laws.cut-level _ c.args.self.now; above = laws.cut-above _ _; least = laws.cut-least _ c.requires _ })
