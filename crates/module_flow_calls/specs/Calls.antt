-- What calls and applications give for arguments of these types.
use Rattle.std.specs.Prelude.{Bool, true, not, ◌&&◌, cond, List, [], ◌∷◌, length, Option, Some, None, if◌then◌else◌}
use Rattle.type_kinds.specs.declared.atom.Atom.{Atom}
use Rattle.core_scope.specs.Asks.{erlang, function_name}
use Rattle.core_scope.specs.Names.{same_atom}
use Rattle.type_lattice.specs.Types.{Type4, any, is_none, meet}
use Rattle.cons_tree.specs.Constraints.{only}
use Rattle.cons_tree.specs.Environments.{State, type_at}
use Rattle.cons_tree.specs.declared.parts.Part.{Part}
use Rattle.cons_tree.specs.declared.parts.Part.TheVariants.{Call}
use Rattle.cons_tree.specs.declared.parts.Sig.{Sig}
use Rattle.cons_tree.specs.declared.parts.Callee.{Callee}
use Rattle.cons_tree.specs.declared.parts.Callee.TheVariants.{Known, Local, Undefined, Unknown}
use Rattle.cons_solve.specs.Environments.{solution}
use Rattle.bif_types.specs.declared.bif.Bif.{Bif}
use Rattle.bif_types.specs.Parts.{part_of_row}
use Rattle.bif_types.specs.Table.{looked_up}
use Rattle.cons_gen_rows.specs.Slots.{slots_from}
use Rattle.cons_gen_rows.specs.Passes.{Knowledge, signature}
use Rattle.module_flow_calls.specs.TypeLists.{Given, one}

-- ---- a part by itself: the value at slot 0, and the arguments from slot 1 on

abbrev pub result_in : State → Given
result_in None = None
result_in (Some ts) = one (type_at ts 0)

-- what a part alone says of the value of arguments of these types: that there is none where it is Bottom
abbrev pub by_part : Part → List Type4 → Given
by_part p ts = result_in (solution (only p) (any ∷ ts))

abbrev pub by_signature : Sig → List Type4 → Given
by_signature sig ts = by_part (Call 0 (slots_from 1 (length ts)) sig) ts

abbrev pub by_row : (quiet : Bool) → Option Bif → List Type4 → Given
by_row quiet None ts = one any
by_row quiet (Some bif) ts = by_part (part_of_row bif 0 (slots_from 1 (length ts)) quiet) ts

-- ---- calls by a module and a name

abbrev pub by_callee : Knowledge → Callee → List Type4 → Given
by_callee P (Known summary) ts = by_signature (signature P summary) ts
by_callee P (Local summary) ts = None
by_callee P Undefined ts = None
by_callee P Unknown ts = one any

abbrev pub called : Knowledge → (home name : Atom) → List Type4 → Given
called P home name ts =
    if same_atom home erlang then by_row P.lenient (looked_up name (length ts)) ts
    else by_callee P (P.callee home (function_name name (length ts))) ts

-- ---- applications of functions of the module

-- each argument has a value of the type
abbrev pub fits : List Type4 → List Type4 → Bool
fits [] us = true
fits (t ∷ ts) [] = true
fits (t ∷ ts) (u ∷ us) = not (is_none (meet t u)) && fits ts us

-- what both the state's result and the strict signature have
abbrev pub by_both : Type4 → Sig → List Type4 → Given
by_both t sig ts = cond (fits ts sig.args) (one (meet t sig.result)) None

abbrev pub by_state : Type4 → Callee → List Type4 → Given
by_state t (Known summary) ts = by_both t summary.strict ts
by_state t (Local summary) ts = by_both t summary.strict ts
by_state t Undefined ts = one t
by_state t Unknown ts = one t

-- ---- whether an application may return, by which it is reported

abbrev pub may_return : Callee → List Type4 → Given
may_return (Known summary) ts = by_signature summary.lenient ts
may_return (Local summary) ts = by_signature summary.lenient ts
may_return Undefined ts = one any
may_return Unknown ts = one any
