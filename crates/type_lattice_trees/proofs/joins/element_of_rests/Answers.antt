use Rattle.std.proofs.Common.{◌≡◌, ◌∙◌, ap, arith}
use Rattle.type_lattice_model.specs.Operations.{ops}
use Rattle.type_lattice_trees.specs.View.{view}
use Rattle.type_lattice_trees.proofs.Projections.{tags_filled, rest_within, rest_element, first_rest, next_rest}
use Rattle.type_lattice_trees.proofs.joins.element_of_rests.Goals as goal

pub loop-i-init : goal.loop-i-init
loop-i-init c =
    let k = c.requires.1.0 in
    let within = tags_filled _ _ _ k in
    let same : c.as_slice.result.now ≡ c.index-tags-0.result.rest = grind (arith, c.as_slice.ensures, c.index-tags-0.is) in
    first_rest _ _ _ _ _ _ _ within c.index-tags-0.is same (rest_within _ _ _ k _ _ within c.index-tags-0.is _ same _ c.requires.1.1) c.index-as_slice-at.is (c.in_ok-out.ensures ∙ c.get.ensures)
    (rest_element _ _ _ k _ _ within c.index-tags-0.is _ same _ c.requires.1.1 _ c.index-as_slice-at.is)

pub bounds-as_slice-at-in-loop-i : goal.bounds-as_slice-at-in-loop-i
bounds-as_slice-at-in-loop-i c =
    let same : c.as_slice-in-loop-i.result.now ≡ c.index-tags-i.result.rest = grind (arith, c.as_slice-in-loop-i.ensures, c.index-tags-i.is) in
    rest_within _ _ _ c.requires.1.0 _ _ (omega arith) c.index-tags-i.is _ same _ c.requires.1.1

pub join-requires-clause-b : goal.join-requires-clause-b
join-requires-clause-b c =
    let same : c.as_slice-in-loop-i.result.now ≡ c.index-tags-i.result.rest = grind (arith, c.as_slice-in-loop-i.ensures, c.index-tags-i.is) in
    rw c.get-in-loop-i.ensures (rest_element _ _ _ c.requires.1.0 _ _ (omega arith) c.index-tags-i.is _ same _ c.requires.1.1 _ c.index-as_slice-at-in-loop-i.is)

pub loop-i-preserved : goal.loop-i-preserved
loop-i-preserved c =
    let d = c.args.level in
    let same : c.as_slice-in-loop-i.result.now ≡ c.index-tags-i.result.rest = grind (arith, c.as_slice-in-loop-i.ensures, c.index-tags-i.is) in
    let within = rest_within _ _ _ c.requires.1.0 _ _ (omega arith) c.index-tags-i.is _ same _ c.requires.1.1 in
    next_rest _ _ _ _ _ _ _ _ _ c.loop-i.invariant (omega arith) c.index-tags-i.is same within c.index-as_slice-at-in-loop-i.is
    (c.in_ok-out-2.ensures.value ∙ ap (λ m. (ops d).join (view d c.loop-i.out) (view d m)) c.get-in-loop-i.ensures) c.in_ok-out-2.ensures.fits
