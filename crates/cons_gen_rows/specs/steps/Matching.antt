-- What patterns add and bind.
use Rattle.std.specs.Prelude.{ℕ, Option, Some, None, []}
use Rattle.type_lattice.specs.Types.{Type4}
use Rattle.core_ast.specs.Model as m
use Rattle.cons_gen_rows.specs.Patterns.{pattern_bindings, pattern_rows, pattern_span}
use Rattle.cons_gen_rows.specs.Walking.{Binds}
use Rattle.cons_gen_rows.specs.Words.{Rows, bound}
use Rattle.cons_gen_rows.specs.declared.generator.Generator.{Generator}

-- the rows that say of a slot that it has a type, where there is one
abbrev pub typed : Option Type4 → ℕ → Rows
typed None s = []
typed (Some t) s = bound s t

-- what a pattern adds and binds that is matched with the value of a slot
abbrev pub Matches : (old new : Generator) → (matched : ℕ) → m.Pattern → Type 0
Matches old new r p = Binds old new (pattern_span p) (pattern_rows r old.next p) (pattern_bindings old.next p)
