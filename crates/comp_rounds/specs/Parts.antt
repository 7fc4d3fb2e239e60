-- What a component is solved from: its part, and the outputs of the components that it calls.
use Rattle.std.specs.Prelude.{ℕ, Bool, ◌&&◌, List, [], ◌∷◌, Option, None, Some, cond, length, map, nat_eq}
use Rattle.type_kinds.specs.declared.atom.Atom.{Atom}
use Rattle.core_ast.specs.declared.syntax.FunName.{FunName}
use Rattle.cons_tree.specs.Callees.{found}
use Rattle.cons_tree.specs.declared.parts.Callee.{Callee}
use Rattle.cons_tree.specs.declared.parts.Callee.TheVariants.{Unknown}
use Rattle.cons_tree.specs.declared.parts.Summary.{Summary}
use Rattle.comp_rounds.specs.declared.parts.CompOut.{CompOut}
use Rattle.comp_rounds.specs.declared.parts.CompPart.{CompPart}
use Rattle.comp_rounds.specs.Members.{function_of}
use Rattle.comp_rounds.specs.Rounds.{Callees, standing, summaries, with_callee}

-- a function that is called: its module, its name, and whether its module exports it
abbrev pub Listed : Type 0
Listed = Atom × FunName × Bool

-- whether both signatures of a summary have n arguments
abbrev pub takes : Summary → ℕ → Bool
takes s n = nat_eq (length s.strict.args) n && nat_eq (length s.lenient.args) n

-- what is known of a listed function: nothing where its summary isn't there, or where it has another number of arguments
abbrev pub listed_callee : Listed → Option Summary → Callee
listed_callee x None = Unknown
listed_callee x (Some s) = cond (takes s x.1.arity) (standing x.2 s) Unknown

-- what is known with the functions of one list, whose summaries stand in the order of the list
abbrev pub with_listed : Callees → List Listed → List Summary → Callees
with_listed outside [] ss = outside
with_listed outside (x ∷ xs) [] = with_listed (with_callee outside x.0 x.1 (listed_callee x None)) xs []
with_listed outside (x ∷ xs) (s ∷ ss) = with_listed (with_callee outside x.0 x.1 (listed_callee x (Some s))) xs ss

-- What is known with the functions of all lists, one list after the other, each with the output that stands at its position. The
-- last callee of a name stands.
abbrev pub with_inputs : Callees → List (List Listed) → List CompOut → Callees
with_inputs outside [] os = outside
with_inputs outside (xs ∷ xss) [] = with_inputs (with_listed outside xs []) xss []
with_inputs outside (xs ∷ xss) (o ∷ os) = with_inputs (with_listed outside xs o.summaries) xss os

-- The output of a component: the summaries of its members, by what is fixed and then by the outputs of those that it calls.
abbrev pub written : CompPart → List CompOut → CompOut
written part inputs = record { summaries = summaries (with_inputs (found part.fixed) part.callees inputs) (map function_of part.members) }
