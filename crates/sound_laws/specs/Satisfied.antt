-- What the law of constraints says of an expression that gave values.
use Rattle.std.specs.Prelude.{◌≡◌, ℕ, ◌+◌, List}
use Rattle.type_kinds.specs.declared.atom.Atom.{Atom}
use Rattle.core_ast.specs.Model as m
use Rattle.type_lattice_model.specs.Values.{Values, count}
use Rattle.cons_tree.specs.Environments.{Assignment}
use Rattle.cons_tree.specs.Satisfied.{Sat, values_of}
use Rattle.core_scope.specs.declared.ask.Ask.{Ask}
use Rattle.core_scope.specs.declared.ask.Ask.TheVariants.{AnyNumber, Exactly}
use Rattle.cons_gen_rows.specs.Scopes.{Scope}
use Rattle.cons_gen_rows.specs.Passes.{Knowledge}
use Rattle.cons_gen.specs.Spans.{span}
use Rattle.cons_gen_rows.specs.Counts.{results}
use Rattle.cons_gen.specs.Rows.{rows}
use Rattle.cons_gen_rows.specs.Words.{Rows, together}
use Rattle.sound_laws.specs.Assignments.{Extension}

-- as many values as are asked
abbrev pub AreAsked : Ask → Values → Type 0
AreAsked AnyNumber vs = Unit {0}
AreAsked (Exactly n) vs = count vs ≡ n

-- these slots hold the values, where a number of them is asked
abbrev pub Hold : Ask → Assignment → List ℕ → Values → Type 0
Hold AnyNumber a ss vs = Unit {0}
Hold (Exactly n) a ss vs = values_of a ss ≡ vs

-- the assignment satisfies each of the rows
abbrev pub SatRows : Rows → Assignment → Type 0
SatRows rows a = Sat (together rows) a

-- The slots of an expression, from s on, can be given values so that its rows are satisfied and the slots of its results hold
-- these values.
abbrev pub Meets : Knowledge → Atom → Scope → ℕ → Assignment → Ask → m.Tree → Values → Type 0
Meets P home sc s a k t vs = Extension a s (s + span k t) (λ b. SatRows (rows P home sc s k t) b × Hold k b (results k s t) vs)
