-- What the laws rest on: facts of types, of built-in functions and of solutions, each the clause of a law of a crate below.
use Rattle.std.specs.Prelude.{◌≡◌, ◌↔◌, ◌<◌, ◌^◌, ℕ, Bool, List, Some, length}
use Rattle.type_kinds.specs.declared.atom.Atom.{Atom}
use Rattle.type_kinds_sets.specs.Names.{Names}
use Rattle.type_kinds_sets.specs.Numbers.{Numbers}
use Rattle.type_lattice_model.specs.Values.{Value}
use Rattle.type_lattice.specs.Kinds.{HasAtom, HasInt, IsKind, of_kind}
use Rattle.type_lattice.specs.Types.{HasType, AreBelow, any, of_atoms, of_ints}
use Rattle.type_lattice.specs.declared.kinds.Kind.{Kind}
use Rattle.type_lattice.specs.declared.kinds.Kind.TheVariants.{FunOf}
use Rattle.cons_tree.specs.Constraints.{Cons}
use Rattle.cons_tree.specs.Environments.{Types, Assignment, LiesIn, LiesInState}
use Rattle.cons_tree.specs.Satisfied.{Sat, SatPart, values_of}
use Rattle.cons_tree.specs.declared.parts.Part.{Part}
use Rattle.cons_solve.specs.Environments.{solution}
use Rattle.bif_types.specs.declared.bif.Bif.{Bif}
use Rattle.bif_types.specs.Parts.{part_of_row}
use Rattle.bif_types.specs.Results.{BifMay}
use Rattle.bif_types.specs.Table.{looked_up}

pub record Facts : Type 0 where
  pub atoms : (s : Names) (v : Value) → HasType v (of_atoms s) ↔ HasAtom v s
  pub ints : (s : Numbers) (v : Value) → HasType v (of_ints s) ↔ HasInt v s
  pub kind : (k : Kind) → ((n : ℕ) → k ≡ FunOf n → n < 2 ^ 32) → (v : Value) → HasType v (of_kind k) ↔ IsKind k v
  pub built_in : (f : Atom) (bif : Bif) (value : ℕ) (args : List ℕ) (quiet : Bool) (a : Assignment) → looked_up f (length args) ≡ Some bif → BifMay f (values_of a args) (a value) → SatPart (part_of_row bif value args quiet) a

pub record SolutionFacts : Type 0 where
  pub every : (v : Value) → HasType v any
  pub below : (c : Cons Part) (xs ys : Types) → solution c xs ≡ Some ys → AreBelow ys xs
  pub keeps : (c : Cons Part) (a : Assignment) (xs : Types) → LiesIn a xs → Sat c a → LiesInState a (solution c xs)
