use Rattle.type_lattice.specs.declared.kinds.Kind.TheVariants.{Float}
use Rattle.cons_tree.proofs.laws.type_facts.Goals as goal

pub returns : goal.returns
returns c = record {
  same = c.type_laws.ensures.same;
  empty = c.type_laws.ensures.empty;
  every = c.type_laws.ensures.every;
  both = c.type_laws.ensures.both;
  left = c.type_laws.ensures.left;
  right = c.type_laws.ensures.right;
  least = c.type_laws.ensures.least;
  meet_grows = c.monotone_laws.ensures.meet;
  join_grows = c.monotone_laws.ensures.join;
  tuple_grows = c.monotone_laws.ensures.tuple;
  cons_grows = c.monotone_laws.ensures.cons;
  project_grows = c.monotone_laws.ensures.project;
  elem_grows = c.monotone_laws.ensures.elem;
  tail_grows = c.monotone_laws.ensures.tail;
  tells_none = c.decision_laws.ensures.none;
  tells_below = c.decision_laws.ensures.below;
  atoms = c.maker_laws.ensures.atoms;
  ints = c.maker_laws.ensures.ints;
  floats = c.maker_laws.ensures.kind Float (λ n e. absurd cc);
  tuple_has = c.tuple_laws.ensures.above;
  cons_has = c.cons_laws.ensures.above;
  cons_parts = c.list_laws.ensures.parts;
  project_has = c.project_laws.ensures.holds;
  ints_are = c.element_laws.ensures.ints;
  elements_have = c.element_laws.ensures.holds;
  elements_grow = c.element_laws.ensures.monotone;
  no_number = c.int_set_laws.ensures.empty;
  some_number = c.int_set_laws.ensures.filled;
}
