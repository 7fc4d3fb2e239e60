-- What constraints rest on: of all that a pass knows, only on what is known of the functions that the text calls.
use Rattle.std.specs.Prelude.{◌≡◌, ℕ, Bool, List}
use Rattle.type_kinds.specs.declared.atom.Atom.{Atom}
use Rattle.core_ast.specs.declared.syntax.FunName.{FunName}
use Rattle.core_ast.specs.Model as m
use Rattle.core_scope.specs.declared.ask.Ask.{Ask}
use Rattle.call_graph.specs.Targets.{targets}
use Rattle.cons_tree.specs.declared.parts.Callee.{Callee}
use Rattle.cons_gen_rows.specs.Passes.{Knowledge}
use Rattle.cons_gen_rows.specs.Scopes.{Scope}
use Rattle.cons_gen.specs.Made.{head_rows}
use Rattle.cons_gen.specs.Rows.{rows}
use Rattle.cons_gen_frame.specs.Agreement.{Agree}

-- what a pass knows, where this is known of functions
abbrev pub knowing : (lenient : Bool) → (own : Atom → FunName → Bool) → (Atom → FunName → Callee) → Knowledge
knowing lenient own c = record { lenient = lenient; own = own; callee = c }

-- Two passes that know the same of the functions that an expression calls, up to what a call from another module can tell, make the
-- same rows of it.
abbrev pub RowsFrame : Type 0
RowsFrame = (lenient : Bool) (own : Atom → FunName → Bool) (c d : Atom → FunName → Callee) (home : Atom) (sc : Scope) (t : m.Tree) → Agree c d home (targets sc.functions t)
    → (s : ℕ) (k : Ask) → rows (knowing lenient own c) home sc s k t ≡ rows (knowing lenient own d) home sc s k t

-- So they do of the head of a clause: only its guard may call.
abbrev pub HeadFrame : Type 0
HeadFrame = (lenient : Bool) (own : Atom → FunName → Bool) (c d : Atom → FunName → Callee) (home : Atom) (sc : Scope) (ps : m.Patterns) (g : m.Tree) → Agree c d home (targets sc.functions g)
    → (qs : List ℕ) (s : ℕ) → head_rows (knowing lenient own c) home sc qs s ps g ≡ head_rows (knowing lenient own d) home sc qs s ps g
