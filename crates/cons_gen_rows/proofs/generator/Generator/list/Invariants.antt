use Rattle.std.proofs.Common.{◌≡◌, ◌+◌, ◌++◌, ◌∷◌, [], drop}
use Rattle.cons_gen_rows.specs.Walking.{AddsRest}
use Rattle.cons_gen_rows.specs.Words.{list_rows}
use Rattle.cons_gen_rows.proofs.generator.Generator.list.Given as goal

abbrev pub invariant-loop-element : goal.invariant-loop-element
invariant-loop-element l = record {
  inner : l.inner ≡ l.elements.cells + l.element-index;
  rest : AddsRest l.fn.self l.self 0 0 (list_rows l.cell l.inner (drop l.element-index l.front ++ l.last ∷ []) l.tail) (list_rows l.value l.elements.cells (l.front ++ l.last ∷ []) l.tail);
}
