-- The state of the walk through a module: what is bound and defined now, and the first break so far.
use Rattle.std.specs.Prelude.{ℕ, Bool, ◌&&◌, ◌||◌, if◌then◌else◌, List, [], ◌∷◌, ◌++◌, take, Option, Some, None, eqb, ltb}
use Rattle.type_kinds.specs.declared.atom.Atom.{Atom}
use Rattle.core_ast.specs.declared.syntax.FunName.{FunName}
use Rattle.core_scope.specs.declared.fault.Break.{Break}
use Rattle.core_scope.specs.declared.walk.Walk.{Walk}
use Rattle.core_scope.specs.Names.{Scope}
use Rattle.core_scope.specs.Accepted.{rule_number}

-- One break comes before another, as a test.
abbrev pub is_before : Break → Break → Bool
is_before a b =
    ltb a.place.byte b.place.byte
    || (eqb a.place.byte b.place.byte && (ltb a.place.line b.place.line || (eqb a.place.line b.place.line && ltb (rule_number a.rule) (rule_number b.rule))))

-- The first of what was found before and one break more.
abbrev pub earlier : Option Break → Break → Option Break
earlier None b = Some b
earlier (Some a) b = if is_before b a then Some b else Some a

-- The first of what was found before and these breaks.
abbrev pub first_of : Option Break → List Break → Option Break
first_of found [] = found
first_of found (b ∷ bs) = first_of (earlier found b) bs

-- What an expression sees now.
abbrev pub scope_of : Walk → Scope
scope_of w = record { variables = w.variables; functions = w.functions }

-- What a clause sees in which variables were bound from this number on.
abbrev pub scope_around : ℕ → Walk → Scope
scope_around from w = record { variables = take from w.variables; functions = w.functions }

-- The state after these breaks were met.
abbrev pub noting : Walk → List Break → Walk
noting w bs = record { variables = w.variables; functions = w.functions; first = first_of w.first bs }

-- The state after these variables were bound and these breaks were met.
abbrev pub binding : Walk → List Atom → List Break → Walk
binding w xs bs = record { variables = w.variables ++ xs; functions = w.functions; first = first_of w.first bs }

-- The state after these functions were defined and these breaks were met.
abbrev pub defining : Walk → List FunName → List Break → Walk
defining w fs bs = record { variables = w.variables; functions = w.functions ++ fs; first = first_of w.first bs }
