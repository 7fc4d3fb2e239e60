use Rattle.std.proofs.Common.{◌≡◌, ◌+◌, suc, pos, sym, ap, ◌∙◌, add-one, arith, drop-cons}
use mir.Syntax.{w128}
use Rattle.std.proofs.lemmas.List.{drop_all}
use Rattle.std.proofs.lemmas.Int.{to_z_pos}
use Rattle.type_kinds_sets.specs.Numbers.{has}
use Rattle.type_lattice_trees.specs.View.{Fits}
use Rattle.type_lattice_trees.proofs.Views.{each_at}
use Rattle.type_lattice.proofs.elements.with_row.Goals as goal
use Rattle.type_lattice.proofs.elements.with_row.Goals.{then-contains+in_ok-joined, else-contains}

pub with_element-requires-clause-element : goal.with_element-requires-clause-element
with_element-requires-clause-element c =
    rw (c.get.ensures, c.index-row-at.is) (each_at (Fits 3) c.args.row.now c.requires.row c.loop-at.at c.index-row-at.result c.loop-at-test.true)

pub loop-at-preserved : goal.loop-at-preserved
loop-at-preserved c =
    let i = c.loop-at.at in
    let row = c.args.row.now in
    let below = c.loop-at-test.true in
    let position : has c.args.positions.now (pos (suc i)) ≡ c.contains.result = sym (c.contains.ensures ∙ ap (has c.args.positions.now) (to_z_pos w128 (i + 1) (omega arith) ∙ ap pos (add-one i))) in
    elim c.if-contains.branch [
      | then-contains+in_ok-joined w ↦ rw (w.joined-is, add-one) (record {
        fits = w.in_ok-joined.ensures.fits;
        value = rw (w.in_ok-joined.ensures.value, w.get.ensures) (rw (drop-cons row i w.index-row-at.result below, ← w.index-row-at.is, position ∙ w.if-contains.true) at c.loop-at.invariant.value);
      })
      | else-contains w ↦ rw (w.joined-is, add-one) (record {
        fits = c.loop-at.invariant.fits;
        value = rw (drop-cons row i c.loop-at.joined below, position ∙ w.if-contains.false) at c.loop-at.invariant.value;
      })
    ]

pub returns-clause-value : goal.returns-clause-value
returns-clause-value c = rw (drop_all c.loop-at.at c.args.row.now c.loop-at-test.false) at c.loop-at.invariant.value
