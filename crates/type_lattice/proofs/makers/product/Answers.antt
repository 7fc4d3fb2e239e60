use Rattle.std.proofs.Common.{◌≡◌, ap, arith, map, length, refl, sym, ◌∙◌}
use Rattle.std.proofs.lemmas.Bool.{lt-ltb}
use Rattle.std.proofs.lemmas.List.{length-map, take_all, map_more, map-append}
use Rattle.std.proofs.lemmas.Result.{IfOk-weaker}
use Rattle.type_lattice_model.proofs.LevelLaws.{level_laws}
use Rattle.type_lattice_model.proofs.MadeLaws.{are_elements}
use Rattle.type_lattice.specs.Types.{are_normal}
use Rattle.type_lattice_trees.specs.View.{Fits, view, row_view}
use Rattle.type_lattice_trees.proofs.Views.{each_more}
use Rattle.type_lattice_trees.proofs.MadeTrees.{row_body}
use Rattle.type_lattice.proofs.makers.product.Goals as goal

pub loop-t-preserved : goal.loop-t-preserved
loop-t-preserved c =
    let more = map_more (λ t. t.ty) c.args.types.now c.loop-t.t-index c.t-item.result c.loop-t-test.true in
    record {
      rows = rw (c.in_ok-add.ensures.ok, map-append, c.loop-t.invariant.rows, c.in_ok-shared_tree.ensures.value, more, ← c.t-item.is) refl;
      each = each_more (Fits 4) _ _ _ c.in_ok-add.ensures.ok c.loop-t.invariant.each c.in_ok-shared_tree.ensures.fits;
    }

pub product_body-requires : goal.product_body-requires
product_body-requires c = rw c.in_ok-new.ensures c.loop-t.invariant.each

pub returns : goal.returns
returns c =
    let ts = c.args.types.now in
    let r : row_view 4 c.in_ok-new.field-0 ≡ map (λ t. t.ty) ts = rw (c.in_ok-new.ensures, c.loop-t.invariant.rows, take_all c.loop-t.t-index ts c.loop-t-test.false) refl in
    let new = c.in_ok-new.field-0 in
    let body = c.in_ok-body.ensures in
    let count = length-map ts (λ t. t.ty) in
    let long = sym count ∙ sym (ap length r) ∙ length-map new (view 4) in
    let elements = are_elements (level_laws 4) (map (λ t. t.ty) ts) (are_normal ts) c.requires.filled in
    let fit = row_body 4 new (length ts) c.in_ok-body.body long (rw r elements) body.value body.each in
    let few = lt-ltb (length ts) 65 (omega (arith, c.requires.few)) in
    record {
      fits = IfOk-weaker c.tuples_of.result _ _ (λ t f. f 4 (omega (arith, c.requires.few)) fit) c.tuples_of.ensures.fits;
      value = IfOk-weaker c.tuples_of.result _ _ (λ t f. rw (c.requires.filled, count, few, ← r, ← body.value) (f 4)) c.tuples_of.ensures.value;
    }
