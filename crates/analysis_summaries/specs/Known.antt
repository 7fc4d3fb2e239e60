-- What is known of the functions of modules that are analysed together, over what stands of all others.
use Rattle.std.specs.Prelude.{ℕ, zero, suc, List, map, if◌then◌else◌}
use Rattle.std.specs.List.{list_any}
use Rattle.type_kinds.specs.declared.atom.Atom.{Atom}
use Rattle.core_ast.specs.Model as m
use Rattle.cons_tree.specs.Callees.{same_home}
use Rattle.cons_tree.specs.declared.parts.Callee.TheVariants.{Undefined, Unknown}
use Rattle.components.specs.Numbering.{Numbering, members_of}
use Rattle.comp_rounds.specs.Rounds.{Callees, Function, with_summaries, summaries}
use Rattle.analysis_summaries.specs.Functions.{all_functions, picked}

-- the names of modules
abbrev pub module_names : List m.Module → List Atom
module_names xs = map (λ x. x.name) xs

-- of no function anything is known
abbrev pub all_unknown : Callees
all_unknown home f = Unknown

-- What is known before any component is solved, where this stands of functions outside: each name of one of the modules is
-- undefined, and under every other name there is what stands.
abbrev pub closed_over : (outside : Callees) → (homes : List Atom) → Callees
closed_over outside homes h f = if list_any (same_home h) homes then Undefined else outside h f

-- what is known of functions, with the summaries of these, which rest on it
abbrev pub with_component : Callees → List Function → Callees
with_component known gs = with_summaries known gs (summaries known gs)

-- What is known when the first n components of a numbering are solved, each with what is known then. The numbers are
-- such that a component calls only those before it.
abbrev pub after_components : Callees → List Function → Numbering → ℕ → Callees
after_components first fs c zero = first
after_components first fs c (suc n) = with_component (after_components first fs c n) (picked fs (members_of c n))

-- What is known of all functions in the end, where this stands of functions outside, and the components of the modules' functions
-- have these numbers.
abbrev pub known_over : (outside : Callees) → List m.Module → Numbering → Callees
known_over outside xs c = after_components (closed_over outside (module_names xs)) (all_functions xs) c c.count
