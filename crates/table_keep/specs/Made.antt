-- The entry that is made of a module that was solved.
use Rattle.std.specs.Prelude.{◌≡◌, cond, List, [], ◌∷◌}
use Rattle.std.specs.declared.cmp.Ordering.{Ordering}
use Rattle.std.specs.Ordering.{nat_cmp, ordering_then}
use Rattle.type_kinds.specs.declared.atom.Atom.{Atom}
use Rattle.type_kinds_sets.specs.Ascending.{merged}
use Rattle.type_kinds_sets.specs.Names.{name_cmp}
use Rattle.core_ast.specs.declared.syntax.FunName.{FunName}
use Rattle.core_ast.specs.Model as m
use Rattle.call_graph.specs.Outside.{Called}
use Rattle.cons_tree.specs.declared.parts.Summary.{Summary}
use Rattle.cons_tree.specs.declared.parts.Callee.{Callee}
use Rattle.cons_tree.specs.declared.parts.Callee.TheVariants.{Known}
use Rattle.table_keep.specs.Model.{Source, Entry, Result}
use Rattle.table_keep.specs.Calls.{called_functions, called_modules}
use Rattle.table_keep.specs.Groups.{has}
use Rattle.table_keep.specs.Kept.{Standing}

-- functions go by name, and then by their number of arguments
abbrev pub function_cmp : FunName → FunName → Ordering
function_cmp f g = ordering_then (name_cmp f.name g.name) (nat_cmp f.arity g.arity)

-- the functions that a module exports: each once, rising
unfoldable pub exported : m.Module → List FunName
exported x = merged function_cmp [] x.exports

-- a function with a summary that other modules may see
abbrev pub IsKnown : Callee → Type 0
IsKnown c = (s : Summary) × (c ≡ Known s)

-- These are the functions of a module with their summaries.
abbrev pub AreSummarized : (known : Atom → FunName → Callee) → (home : Atom) → List FunName → List (FunName × Summary) → Type 0
AreSummarized known home [] [] = Unit {0}
AreSummarized known home [] (x ∷ xs) = ⊥
AreSummarized known home (f ∷ fs) [] = ⊥
AreSummarized known home (f ∷ fs) (x ∷ xs) = (x.0 ≡ f) × (known home f ≡ Known x.1) × AreSummarized known home fs xs

-- the functions that a module calls outside of its group, with what stands of them
abbrev pub used_of : (group : List Atom) → Standing → List Called → List (Called × Callee)
used_of group K [] = []
used_of group K (c ∷ cs) = cond (has group c.0) (used_of group K cs) ((c, K c.0 c.1) ∷ used_of group K cs)

-- the entry of a module that was solved
abbrev pub made : Source → (group : List Atom) → Standing → Result → Entry
made s group K r = record {
  name = s.tree.name;
  digest = s.digest;
  group = group;
  calls = called_modules s.tree;
  used = used_of group K (called_functions s.tree);
  result = r;
}
