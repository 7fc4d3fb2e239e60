-- The walk through a text: what each step of it adds to what was made.
use Rattle.std.specs.Prelude.{◌≡◌, ℕ, ◌+◌, List, [], ◌∷◌, ◌++◌, map, take, drop}
use Rattle.core_ast.specs.declared.syntax.FunName.{FunName}
use Rattle.core_ast.specs.declared.syntax.VarName.{VarName}
use Rattle.cons_tree.specs.Constraints.{constraint}
use Rattle.cons_gen_rows.specs.Knowing.{knowledge}
use Rattle.cons_gen_rows.specs.Passes.{Knowledge}
use Rattle.cons_gen_rows.specs.Scopes.{Binding, Scope, binding}
use Rattle.cons_gen_rows.specs.Words.{Rows}
use Rattle.cons_gen_rows.specs.declared.generator.Generator.{Generator}
use Rattle.cons_gen_rows.specs.declared.passes.Surroundings.{Surroundings}

-- the scope at the position where a walk stands, and the rows so far
abbrev pub scope_of : Generator → Scope
scope_of g = record { variables = g.variables; functions = g.functions }

abbrev pub rows_of : Generator → Rows
rows_of g = map constraint g.members.items

-- what the pass of a walk knows
abbrev pub knowing : Surroundings → Knowledge
knowing context = knowledge context.pass.now context.known.now

-- variables, each bound to the slot at its position
abbrev pub bindings_at : List VarName → List ℕ → List Binding
bindings_at [] ss = []
bindings_at (x ∷ xs) [] = []
bindings_at (x ∷ xs) (s ∷ ss) = binding x.name s ++ bindings_at xs ss

-- `width` slots and these rows were added
pub record Adds (old new : Generator) (width : ℕ) (added : Rows) : Type 0 where
  pub next : new.next ≡ old.next + width
  pub rows : rows_of new ≡ rows_of old ++ added
  pub variables : new.variables ≡ old.variables
  pub functions : new.functions ≡ old.functions

-- and these variables were bound
pub record Binds (old new : Generator) (width : ℕ) (added : Rows) (bs : List Binding) : Type 0 where
  pub next : new.next ≡ old.next + width
  pub rows : rows_of new ≡ rows_of old ++ added
  pub variables : new.variables ≡ old.variables ++ bs
  pub functions : new.functions ≡ old.functions

-- these functions were named, and nothing else changed
pub record Defines (old new : Generator) (fs : List FunName) : Type 0 where
  pub next : new.next ≡ old.next
  pub rows : rows_of new ≡ rows_of old
  pub variables : new.variables ≡ old.variables
  pub functions : new.functions ≡ old.functions ++ fs

-- the rows from a position on became others
pub record Gathers (f : Rows → Rows) (start : ℕ) (old new : Generator) : Type 0 where
  pub next : new.next ≡ old.next
  pub rows : rows_of new ≡ take start (rows_of old) ++ f (drop start (rows_of old))
  pub variables : new.variables ≡ old.variables
  pub functions : new.functions ≡ old.functions

-- the rows from the middle on stand before those from the start to the middle
pub record Rotates (start middle : ℕ) (old new : Generator) : Type 0 where
  pub next : new.next ≡ old.next
  pub rows : rows_of new ≡ take start (rows_of old) ++ drop middle (rows_of old) ++ drop start (take middle (rows_of old))
  pub variables : new.variables ≡ old.variables
  pub functions : new.functions ≡ old.functions

-- Of what a loop adds, this is left: `all` and `rows` are what the whole loop adds.
pub record AddsRest (first now : Generator) (left all : ℕ) (rest rows : Rows) : Type 0 where
  pub next : now.next + left ≡ first.next + all
  pub added : rows_of now ++ rest ≡ rows_of first ++ rows
  pub variables : now.variables ≡ first.variables
  pub functions : now.functions ≡ first.functions

-- and of the variables that it binds these
pub record BindsRest (first now : Generator) (left all : ℕ) (rest rows : Rows) (bs bound : List Binding) : Type 0 where
  pub next : now.next + left ≡ first.next + all
  pub added : rows_of now ++ rest ≡ rows_of first ++ rows
  pub variables : now.variables ++ bs ≡ first.variables ++ bound
  pub functions : now.functions ≡ first.functions
