-- Two modules worked by hand. The first is
--
--     module 'q' ['f'/1] attributes []
--     'f'/1 = fun (X) -> let <G> = fun (Y) -> Y in
--       {apply G(X),apply X(1)}
--     end
--
-- and the second has `apply 'a'(X)` in place of `apply G(X)`.
use Rattle.std.specs.Prelude.{ℕ, pos, false, [], ◌∷◌, None, codes}
use Rattle.type_kinds.specs.declared.place.Place.{Place}
use Rattle.type_kinds.specs.declared.atom.Atom.{Atom}
use Rattle.core_ast.specs.declared.syntax.Mark.{Mark}
use Rattle.core_ast.specs.declared.syntax.Note.{Note}
use Rattle.core_ast.specs.declared.syntax.VarName.{VarName}
use Rattle.core_ast.specs.declared.syntax.FunName.{FunName}
use Rattle.core_ast.specs.declared.syntax.Literal.TheVariants as l
use Rattle.core_ast.specs.Model as m
use Rattle.core_meaning.specs.Programs.{Program}
use Rattle.fun_flow_sets.specs.Items.{Item, closure_at}

abbrev no_note : Note
no_note = record { line = None; generated = false }

abbrev place_at : (byte line : ℕ) → Place
place_at b n = record { byte = b; line = n }

-- the mark of a node: its label, and where it begins
abbrev mark : (label byte line : ℕ) → Mark
mark k b n = record { label = k; place = place_at b n; note = no_note }

abbrev variable_at : Mark → Atom → m.Tree
variable_at k x = m.variable k x

abbrev parameter_at : Atom → (byte line : ℕ) → VarName
parameter_at x b n = record { name = x; place = place_at b n; note = no_note }

abbrev pub q_name : Atom
q_name = codes "q"

abbrev f_name : FunName
f_name = record { name = codes "f"; arity = 1 }

-- `fun (Y) -> Y`
abbrev identity : m.Tree
identity = m.function (mark 3 64 2) (parameter_at (codes "Y") 69 2 ∷ []) (variable_at (mark 4 75 2) (codes "Y"))

-- the first application has this operator
abbrev body : m.Tree → m.Tree
body operator =
    m.chain (mark 1 52 2) (m.and_let (mark 2 52 2) (parameter_at (codes "G") 57 2 ∷ []) identity m.no_step) (
    m.tuple (mark 5 82 3) (
    m.and_tree (m.apply (mark 6 83 3) operator (m.and_tree (variable_at (mark 8 91 3) (codes "X")) m.no_tree)) (
    m.and_tree (m.apply (mark 9 94 3) (variable_at (mark 10 100 3) (codes "X")) (m.and_tree (m.literal (mark 11 102 3) (l.Int (pos 1))) m.no_tree)) m.no_tree)))

abbrev module_with : m.Tree → m.Module
module_with operator = record {
  name = q_name;
  exports = f_name ∷ [];
  export_places = place_at 13 1 ∷ [];
  defs = m.and_def f_name (mark 0 42 2) (parameter_at (codes "X") 47 2 ∷ []) (body operator) m.no_def;
  note = no_note;
}

abbrev pub applies_identity : m.Module
applies_identity = module_with (variable_at (mark 7 89 3) (codes "G"))

abbrev pub applies_atom : m.Module
applies_atom = module_with (m.literal (mark 7 89 3) (l.Atom (codes "a")))

-- the programs of each module alone
abbrev pub with_identity : Program
with_identity = applies_identity ∷ []

abbrev pub with_atom : Program
with_atom = applies_atom ∷ []

-- the fun at line 2
abbrev pub identity_item : Item
identity_item = closure_at q_name 3 1
