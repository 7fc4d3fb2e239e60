-- What is known of all functions of a program, where each function's summary is that of its component, by what is known of all.
use Rattle.std.specs.Prelude.{◌≡◌, true, List, [], ◌∷◌, Some}
use Rattle.type_kinds.specs.declared.atom.Atom.{Atom}
use Rattle.core_ast.specs.declared.syntax.FunName.{FunName}
use Rattle.cons_tree.specs.declared.parts.Summary.{Summary}
use Rattle.comp_rounds.specs.Rounds.{Callees, Function, callee_of, is_member, summaries}
use Rattle.core_meaning.specs.Programs.{Program, is_exported, found}
use Rattle.sound_laws.specs.Knowledge.{Allows, summary_of}
use Rattle.sound_laws.specs.Summaries.{definition_of}

-- a function is what a module of the program defines under its name, exported or not as the module says
pub record IsFunctionOf (U : Program) (g : Function) : Type 0 where
  pub defined : definition_of U g.home g.name ≡ Some (record { parameters = g.parameters; body = g.body })
  pub exported : g.exported ≡ is_exported U g.home g.name

abbrev pub AreFunctionsOf : Program → List Function → Type 0
AreFunctionsOf U [] = Unit {0}
AreFunctionsOf U (g ∷ gs) = IsFunctionOf U g × AreFunctionsOf U gs

-- each of the functions is known with its summary
abbrev pub AreKnown : Callees → List Function → List Summary → Type 0
AreKnown K [] ss = Unit {0}
AreKnown K (g ∷ gs) [] = ⊥
AreKnown K (g ∷ gs) (s ∷ ss) = (K g.home g.name ≡ callee_of g s) × AreKnown K gs ss

-- Each function of which a summary is known stands in a component of functions of the program, which are known with the summaries
-- that rounds give by all that is known; and of each function what a call of it finds.
pub record IsWhole (U : Program) (K : Callees) : Type 0 where
  pub honest : (home : Atom) (f : FunName) → Allows (found U home f) (K home f)
  pub component : Atom → FunName → List Function
  pub functions : (home : Atom) (f : FunName) → AreFunctionsOf U (component home f)
  pub known : (home : Atom) (f : FunName) → AreKnown K (component home f) (summaries K (component home f))
  pub member : (home : Atom) (f : FunName) (s : Summary) → summary_of (K home f) ≡ Some s → is_member (component home f) home f ≡ true
