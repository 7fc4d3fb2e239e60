-- One constraint more.
use Rattle.std.specs.Prelude.{◌≡◌, [], ◌∷◌, ◌++◌}
use Rattle.cons_tree.specs.declared.parts.Constraint.{Constraint}
use Rattle.cons_gen_rows.specs.declared.generator.Generator.{Generator}

-- a constraint was added
pub record Pushes (old new : Generator) (c : Constraint) : Type 0 where
  pub next : new.next ≡ old.next
  pub members : new.members.items ≡ old.members.items ++ c ∷ []
  pub variables : new.variables ≡ old.variables
  pub functions : new.functions ≡ old.functions
