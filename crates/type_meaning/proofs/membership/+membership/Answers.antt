use Rattle.std.proofs.Common.{◌-◌, ◌↔◌, IsTrue, false, Some, None, arith, sym, ap, ◌∙◌, subst, subst₂}
use Rattle.type_kinds.proofs.Truths.{refuted, granted}
use Rattle.type_lattice_model.specs.HasType.{HasAt}
use Rattle.type_lattice_trees.specs.declared.node.TuplesOf.TheVariants as of_tuples
use Rattle.type_lattice_trees.specs.View.{view, Fits}
use Rattle.type_lattice_trees.proofs.Views.{of_above, below_fits, each_at}
use Rattle.type_lattice_trees.proofs.Inclusions.{found_fits, sizes_fit}
use Rattle.type_meaning.specs.Values.{value_of}
use Rattle.type_meaning.proofs.Memberships.{any_has_it, cell_fits, tuples_fit, no_cell_tells, cell_tells, tuples_tell, plain_tells, head_tells, head_fails}
use Rattle.type_meaning.proofs.Memberships.{Follows, cons_follows, nil_follows, end_follows, too_long, size_tells, tag_tells, not_tagged, each_tag_fits, as_long}
use Rattle.type_meaning.proofs.Weights.{lighter_head, lighter_tail, lighter_elements, lighter_rest, lighter_item}
use Rattle.type_meaning.proofs.membership.+membership.Goals as goal

-- ---- types

pub is_in-returns-in_default : goal.is_in-returns-in_default
is_in-returns-in_default t c = granted (any_has_it c.args.level c.args.t.now c.args.v.now c.in_default.is)

pub is_in-overflow_sub-level : goal.is_in-overflow_sub-level
is_in-overflow_sub-level t c = of_above c.args.t.now c.in-Of.parts c.in-Of.is c.args.level c.requires

pub is_in-overflow_sub-level-in-Tuple : goal.is_in-overflow_sub-level-in-Tuple
is_in-overflow_sub-level-in-Tuple t c = of_above c.args.t.now c.in-Of.parts c.in-Of.is c.args.level c.requires

pub is_in-follows-requires : goal.is_in-follows-requires
is_in-follows-requires t c =
    (omega (arith, c.decreases), cell_fits (c.args.level - 1) c.in-Of.parts c.in-Some.cell c.in-Some.is (below_fits c.args.t.now c.in-Of.parts c.in-Of.is c.args.level c.requires))

pub is_in-tuple_in-requires : goal.is_in-tuple_in-requires
is_in-tuple_in-requires t c = (
  omega (arith, c.decreases, lighter_elements c.args.v.now c.in-Tuple.elements c.as_slice.result.now c.in-Tuple.is c.as_slice.ensures),
  tuples_fit (c.args.level - 1) c.in-Of.parts (below_fits c.args.t.now c.in-Of.parts c.in-Of.is c.args.level c.requires),
)

pub is_in-returns-in-None : goal.is_in-returns-in-None
is_in-returns-in-None t c = no_cell_tells c.args.level c.args.t.now c.in-Of.parts c.args.v.now c.in-Cons.field-0 c.in-Cons.field-1 c.in-Of.is c.requires c.in-Cons.is c.in-None.is

pub is_in-returns-in-Some : goal.is_in-returns-in-Some
is_in-returns-in-Some t c = cell_tells c.args.level c.args.t.now c.in-Of.parts c.args.v.now c.in-Cons.field-0 c.in-Cons.field-1 c.in-Some.cell c.follows.result c.in-Of.is c.requires c.in-Cons.is c.in-Some.is c.follows.ensures

pub is_in-returns-in-Tuple : goal.is_in-returns-in-Tuple
is_in-returns-in-Tuple t c = tuples_tell c.args.level c.args.t.now c.in-Of.parts c.args.v.now c.in-Tuple.elements c.as_slice.result.now c.tuple_in.result c.in-Of.is c.requires c.in-Tuple.is c.as_slice.ensures c.tuple_in.ensures

pub is_in-returns-in_default-v : goal.is_in-returns-in_default-v
is_in-returns-in_default-v t c = plain_tells c.args.level c.args.t.now c.in-Of.parts c.args.v.now c.plain_in.result c.in-Of.is c.requires c.in_default-v.not-Cons c.in_default-v.not-Tuple c.plain_in.ensures

-- ---- lists that aren't empty

pub follows-is_in-requires : goal.follows-is_in-requires
follows-is_in-requires t c = (omega (arith, c.decreases, lighter_head c.args.v.now c.in-Cons.head c.in-Cons.tail c.get.result.now c.in-Cons.is c.get.ensures), subst (Fits c.args.level) (sym c.get-in-Cons.ensures) c.requires)

pub follows-follows-requires : goal.follows-follows-requires
follows-follows-requires t c = (omega (arith, c.decreases, lighter_tail c.args.v.now c.in-Cons.head c.in-Cons.tail c.get-then-is_in.result.now c.in-Cons.is c.get-then-is_in.ensures), c.requires)

pub follows-returns-then-is_in : goal.follows-returns-then-is_in
follows-returns-then-is_in t c =
    let head = subst₂ (λ x n. IsTrue c.is_in.result ↔ HasAt c.args.level (value_of x) (view c.args.level n)) c.get.ensures c.get-in-Cons.ensures c.is_in.ensures in
    let tail = subst (λ x. IsTrue c.follows.result ↔ Follows c.args.level (value_of x) c.args.cell.now) c.get-then-is_in.ensures c.follows.ensures in
    cons_follows c.args.level c.args.v.now c.in-Cons.head c.in-Cons.tail c.args.cell.now c.follows.result c.in-Cons.is (head_tells c.is_in.result c.follows.result head c.if-is_in.true tail)

pub follows-returns-else-is_in : goal.follows-returns-else-is_in
follows-returns-else-is_in t c =
    let head = subst₂ (λ x n. IsTrue c.is_in.result ↔ HasAt c.args.level (value_of x) (view c.args.level n)) c.get.ensures c.get-in-Cons.ensures c.is_in.ensures in
    cons_follows c.args.level c.args.v.now c.in-Cons.head c.in-Cons.tail c.args.cell.now c.is_in.result c.in-Cons.is (head_fails c.is_in.result head c.if-is_in.false)

pub follows-returns-in-Nil : goal.follows-returns-in-Nil
follows-returns-in-Nil t c = granted (nil_follows c.args.level c.args.v.now c.args.cell.now c.in-Nil.is)

pub follows-returns-in_default : goal.follows-returns-in_default
follows-returns-in_default t c = end_follows c.args.level c.args.v.now c.args.cell.now c.in_default.not-Nil c.in_default.not-Cons

-- ---- tuples

pub tuple_in-returns-then-elements-gt-MAX_ELEMENTS : goal.tuple_in-returns-then-elements-gt-MAX_ELEMENTS
tuple_in-returns-then-elements-gt-MAX_ELEMENTS t c = refuted (too_long c.args.level c.args.elements.now c.args.tuples.now c.in-Sizes.sizes c.in-Sizes.is c.requires c.if-elements-gt-MAX_ELEMENTS.true)

pub tuple_in-body_in-requires : goal.tuple_in-body_in-requires
tuple_in-body_in-requires t c =
    let fit = sizes_fit c.args.level c.args.tuples.now c.as_slice.result.now (c.in-Sizes.is ∙ ap of_tuples.Sizes (sym c.as_slice.ensures)) c.requires in
    (omega (arith, c.decreases), found_fits c.args.level c.as_slice.result.now _ c.in-Some.body.now fit (c.in-Some.ensures.value c.args.level) (c.in-Some.ensures.each c.args.level fit.each))

pub tuple_in-returns-in-None : goal.tuple_in-returns-in-None
tuple_in-returns-in-None t c =
    size_tells c.args.level c.args.elements.now c.args.tuples.now c.in-Sizes.sizes c.as_slice.result.now None false c.in-Sizes.is c.as_slice.ensures (c.in-None.ensures.value c.args.level) (refuted (λ h. h))

pub tuple_in-returns-in-Some : goal.tuple_in-returns-in-Some
tuple_in-returns-in-Some t c =
    size_tells c.args.level c.args.elements.now c.args.tuples.now c.in-Sizes.sizes c.as_slice.result.now (Some c.in-Some.body.now) c.body_in.result c.in-Sizes.is c.as_slice.ensures (c.in-Some.ensures.value c.args.level) c.body_in.ensures

-- ---- the tuples of one size

pub body_in-returns-in_default-first : goal.body_in-returns-in_default-first
body_in-returns-in_default-first t c =
    refuted (not_tagged c.args.level c.args.elements.now c.in-Some.first.now c.in-Some.rest.now c.args.body.now c.in-Tags.tags c.in-Tags.is c.in-Some.ensures.cases.0 c.in_default-first.not-Atom)

pub body_in-each_in-requires-in-Some-find_tag : goal.body_in-each_in-requires-in-Some-find_tag
body_in-each_in-requires-in-Some-find_tag t c =
    let each = c.in-Some-find_tag.ensures.each c.args.level (each_tag_fits c.args.level _ c.args.body.now c.in-Tags.tags c.as_slice-in-Tags.result.now c.in-Tags.is c.as_slice-in-Tags.ensures c.requires) in (
      omega (arith, c.decreases, lighter_rest c.args.elements.now c.in-Some.first.now c.in-Some.rest.now c.in-Some.ensures.cases.0),
      (
        each,
        as_long c.args.level c.args.elements.now c.in-Some.first.now c.in-Some.rest.now c.in-Atom.atom c.args.body.now c.in-Tags.tags c.as_slice-in-Tags.result.now c.in-Some-find_tag.row.now c.in-Tags.is c.as_slice-in-Tags.ensures
            c.in-Some.ensures.cases.0 c.requires (c.in-Some-find_tag.ensures.value c.args.level) each,
      ),
    )

pub body_in-returns-in-None : goal.body_in-returns-in-None
body_in-returns-in-None t c =
    tag_tells c.args.level c.args.elements.now c.in-Some.first.now c.in-Some.rest.now c.in-Atom.atom c.args.body.now c.in-Tags.tags c.as_slice-in-Tags.result.now None false c.in-Tags.is c.as_slice-in-Tags.ensures c.in-Some.ensures.cases.0
    c.in-Atom.is (c.in-None.ensures.value c.args.level) (refuted (λ h. h))

pub body_in-returns-in-Some-find_tag : goal.body_in-returns-in-Some-find_tag
body_in-returns-in-Some-find_tag t c =
    tag_tells c.args.level c.args.elements.now c.in-Some.first.now c.in-Some.rest.now c.in-Atom.atom c.args.body.now c.in-Tags.tags c.as_slice-in-Tags.result.now
    (Some c.in-Some-find_tag.row.now) c.each_in-in-Some-find_tag.result c.in-Tags.is c.as_slice-in-Tags.ensures c.in-Some.ensures.cases.0 c.in-Atom.is (c.in-Some-find_tag.ensures.value c.args.level) c.each_in-in-Some-find_tag.ensures

-- ---- elements in the types at their positions

pub each_in-is_in-requires : goal.each_in-is_in-requires
each_in-is_in-requires t c = (
  omega (arith, c.decreases, lighter_item c.args.elements.now c.loop-i.i c.index-elements-i.result c.loop-i-test.true c.index-elements-i.is),
  subst (Fits c.args.level) (sym (c.get.ensures ∙ c.index-row-i.is)) (each_at (Fits c.args.level) c.args.row.now c.requires.fits c.loop-i.i c.index-row-i.result (omega (arith, c.loop-i-test.true, c.requires.same))),
)
