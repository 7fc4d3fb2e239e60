-- The head of a clause: what its steps add to what was made.
use Rattle.std.specs.Prelude.{◌≡◌, ℕ, List, ◌++◌}
use Rattle.type_kinds.specs.declared.atom.Atom.{Atom}
use Rattle.core_ast.specs.declared.syntax.Clause.{Clause}
use Rattle.core_ast.specs.Model as m
use Rattle.core_ast.specs.Tree.{clause_parts}
use Rattle.cons_gen_rows.specs.Passes.{Knowledge}
use Rattle.cons_gen_rows.specs.Patterns.{outer_bindings}
use Rattle.cons_gen_rows.specs.Walking.{knowing, rows_of, scope_of}
use Rattle.cons_gen_rows.specs.declared.generator.Generator.{Generator}
use Rattle.cons_gen_rows.specs.declared.passes.Surroundings.{Surroundings}
use Rattle.cons_gen.specs.Made.{clause_slots, head_rows}

-- where nothing was made before, there is the head of a clause with these patterns, at these slots, and this guard
pub record Heads (P : Knowledge) (home : Atom) (old new : Generator) (qs : List ℕ) (ps : m.Patterns) (g : m.Tree) : Type 0 where
  pub next : new.next ≡ clause_slots old.next ps g
  pub rows : rows_of new ≡ head_rows P home (scope_of old) qs old.next ps g
  pub variables : new.variables ≡ old.variables ++ outer_bindings old.next ps
  pub functions : new.functions ≡ old.functions

-- of this clause
abbrev pub HeadsClause : Surroundings → (old new : Generator) → List ℕ → Clause → Type 0
HeadsClause context old new qs c =
    Heads (knowing context) context.home.now old new qs (clause_parts c).patterns (clause_parts c).guard
