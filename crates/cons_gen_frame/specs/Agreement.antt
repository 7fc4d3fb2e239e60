-- When two things that are known of functions agree on what a text calls.
use Rattle.std.specs.Prelude.{◌≡◌, ◌⊎◌, true, List, [], ◌∷◌}
use Rattle.type_kinds.specs.declared.atom.Atom.{Atom}
use Rattle.core_ast.specs.declared.syntax.FunName.{FunName}
use Rattle.core_scope.specs.Asks.{erlang}
use Rattle.core_scope.specs.Names.{same_atom}
use Rattle.call_graph.specs.Targets.CallTarget.{defined, inner, remote}
use Rattle.call_graph.specs.Targets.{CallTarget}
use Rattle.cons_tree.specs.declared.parts.Callee.{Callee}
use Rattle.cons_tree.specs.declared.parts.Callee.TheVariants.{Known, Local, Undefined, Unknown}

-- what a call by a module and a name gets no value from
abbrev pub GivesNothing : Callee → Type 0
GivesNothing (Known s) = ⊥
GivesNothing (Local s) = Unit {0}
GivesNothing Undefined = Unit {0}
GivesNothing Unknown = ⊥

-- a call by a module and a name is the same of both
abbrev pub AreAlike : Callee → Callee → Type 0
AreAlike x y = (x ≡ y) ⊎ (GivesNothing x × GivesNothing y)

-- Two things that are known agree on what a call in a module goes to. Nothing of a call into `erlang` is looked up, and nothing of
-- a function of a `letrec`.
abbrev pub Agrees : (c d : Atom → FunName → Callee) → (home : Atom) → CallTarget → Type 0
Agrees c d home (defined f n) = c home f ≡ d home f
Agrees c d home (inner f n) = Unit {0}
Agrees c d home (remote h f) = (same_atom h erlang ≡ true) ⊎ AreAlike (c h f) (d h f)

abbrev pub EachAgrees : (c d : Atom → FunName → Callee) → (home : Atom) → List CallTarget → Type 0
EachAgrees c d home [] = Unit {0}
EachAgrees c d home (x ∷ xs) = Agrees c d home x × EachAgrees c d home xs

-- They agree on each of these targets.
pub record Agree (c d : Atom → FunName → Callee) (home : Atom) (xs : List CallTarget) : Type 0 where
  pub each : EachAgrees c d home xs
