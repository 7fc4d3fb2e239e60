-- A run worked by hand, over the tree of this module:
--
--     module 'r8' ['f'/0] attributes []
--     'f'/0 = fun () -> apply 'h'/1(1)
--     'h'/1 = fun (X) ->
--       case X of
--         <'a'> when 'true' -> 'p'
--         <1> when 'true' -> 'q'
--       end
--     end
use Rattle.std.specs.Prelude.{ℕ, pos, false, [], ◌∷◌, ◌++◌, None, codes}
use Rattle.type_kinds.specs.declared.place.Place.{Place}
use Rattle.type_kinds.specs.declared.atom.Atom.{Atom}
use Rattle.core_ast.specs.declared.syntax.Mark.{Mark}
use Rattle.core_ast.specs.declared.syntax.Note.{Note}
use Rattle.core_ast.specs.declared.syntax.VarName.{VarName}
use Rattle.core_ast.specs.declared.syntax.FunName.{FunName}
use Rattle.core_ast.specs.declared.syntax.Literal.TheVariants as l
use Rattle.core_ast.specs.Model as m
use Rattle.type_lattice_model.specs.Values.{Value, int, atom, closure, no_value, no_variable}
use Rattle.bif_types.specs.Results.{one_value}
use Rattle.core_meaning.specs.Programs.{Program}
use Rattle.core_meaning.specs.Meaning.{Event, chosen, entered, gave, back, Trace}

abbrev no_note : Note
no_note = record { line = None; generated = false }

abbrev place_at : (byte line : ℕ) → Place
place_at b n = record { byte = b; line = n }

-- the mark of a node: its label, and where it begins
abbrev pub mark : (label byte line : ℕ) → Mark
mark k b n = record { label = k; place = place_at b n; note = no_note }

abbrev pub name_of : Atom → ℕ → FunName
name_of x n = record { name = x; arity = n }

abbrev atom_at : Mark → Atom → m.Tree
atom_at k x = m.literal k (l.Atom x)

-- a clause of one pattern, a literal, under the guard `'true'`
abbrev clause : Mark → m.Pattern → m.Tree → m.Tree → m.Clauses → m.Clauses
clause k p g t cs = m.and_clause k (m.and_pattern p m.no_pattern) g t cs

abbrev pub f_name : FunName
f_name = name_of (codes "f") 0

abbrev h_name : FunName
h_name = name_of (codes "h") 1

abbrev f_body : m.Tree
f_body = m.apply (mark 1 52 2) (m.local (mark 2 58 2) h_name) (m.and_tree (m.literal (mark 3 64 2) (l.Int (pos 1))) m.no_tree)

abbrev h_body : m.Tree
h_body =
    m.case (mark 5 88 4) (m.variable (mark 6 93 4) (codes "X")) (
    clause (mark 7 102 5) (m.equals (mark 8 103 5) (l.Atom (codes "a"))) (atom_at (mark 9 113 5) (codes "true")) (atom_at (mark 10 123 5) (codes "p")) (
    clause (mark 11 131 6) (m.equals (mark 12 132 6) (l.Int (pos 1))) (atom_at (mark 13 140 6) (codes "true")) (atom_at (mark 14 150 6) (codes "q"))
    m.no_clause))

abbrev x_name : VarName
x_name = record { name = codes "X"; place = place_at 80 3; note = no_note }

abbrev pub r8_name : Atom
r8_name = codes "r8"

abbrev pub r8 : m.Module
r8 = record {
  name = r8_name;
  exports = f_name ∷ [];
  export_places = place_at 13 1 ∷ [];
  defs = m.and_def f_name (mark 0 42 2) [] f_body (m.and_def h_name (mark 4 75 3) (x_name ∷ []) h_body m.no_def);
  note = no_note;
}

-- the program of this module alone
abbrev pub r8_alone : Program
r8_alone = r8 ∷ []

-- what the functions `'f'/0` and `'h'/1` are entered as
abbrev pub f_closure : Value
f_closure = closure r8_name 0 0 no_variable

abbrev pub h_closure : Value
h_closure = closure r8_name 4 1 no_variable

abbrev pub q_value : Value
q_value = atom (codes "q")

-- what happens: `'h'/1` is entered with 1, takes its second clause and gives `'q'`, and the application gives it back
abbrev pub h_trace : Trace
h_trace = entered h_closure (one_value (int (pos 1))) ∷ chosen r8_name 11 ∷ gave h_closure (one_value (int (pos 1))) q_value ∷ []

abbrev pub apply_gave : Event
apply_gave = back r8_name 1 q_value

abbrev pub f_trace : Trace
f_trace = entered f_closure no_value ∷ ((h_trace ++ (apply_gave ∷ [])) ++ (gave f_closure no_value q_value ∷ []))
