-- The summaries of the functions of modules that are analysed together, in the order of the text.
use Rattle.std.specs.Prelude.{◌≡◌, ℕ, List, [], ◌∷◌, Some}
use Rattle.type_kinds.specs.declared.atom.Atom.{Atom}
use Rattle.core_ast.specs.Model as m
use Rattle.core_ast.specs.declared.syntax.FunName.{FunName}
use Rattle.core_scope.specs.Names.{defined_names}
use Rattle.core_scope.specs.Sets.{FirstDuplicate}
use Rattle.core_scope.specs.declared.fault.SetFault.TheVariants.{DuplicateModule}
use Rattle.cons_tree.specs.Callees.{Takes}
use Rattle.cons_tree.specs.declared.parts.Callee.{Callee}
use Rattle.cons_tree.specs.declared.parts.Summary.{Summary}
use Rattle.comp_rounds.specs.Rounds.{Callees}
use Rattle.sound_laws.specs.Knowledge.{summary_of}
use Rattle.analysis_summaries.specs.Whole.{IsWholeOf}
use Rattle.analysis_typings.specs.declared.solving.SummariesFault.{SummariesFault}
use Rattle.analysis_typings.specs.declared.solving.SummariesFault.TheVariants.{Set, Memory}

-- of a function a summary is known
abbrev pub HasSummary : Callee → Type 0
HasSummary c = (s : Summary) × (summary_of c ≡ Some s)

-- These are the summaries that are known of these functions of a module, each with as many arguments as the function.
abbrev pub AreKnownIn : Callees → (home : Atom) → List FunName → List Summary → Type 0
AreKnownIn known home [] [] = Unit {0}
AreKnownIn known home [] (s ∷ ss) = ⊥
AreKnownIn known home (f ∷ fs) [] = ⊥
AreKnownIn known home (f ∷ fs) (s ∷ ss) = (summary_of (known home f) ≡ Some s) × Takes s f.arity × AreKnownIn known home fs ss

-- the same of the functions that modules define, module by module and in the order of the text
abbrev pub AreKnownOf : Callees → List m.Module → List (List Summary) → Type 0
AreKnownOf known [] [] = Unit {0}
AreKnownOf known [] (ss ∷ found) = ⊥
AreKnownOf known (x ∷ xs) [] = ⊥
AreKnownOf known (x ∷ xs) (ss ∷ found) = AreKnownIn known x.name (defined_names x.defs) ss × AreKnownOf known xs found

-- These are the summaries of all functions of the modules, module by module and definition by definition, where the modules are
-- analysed together and nothing is known of others.
pub record AreTypings (xs : List m.Module) (found : List (List Summary)) : Type 0 where
  pub known : Callees
  pub whole : IsWholeOf xs known
  pub listed : AreKnownOf known xs found

-- What a fault says of the names of modules.
abbrev pub IsNoSet : List Atom → SummariesFault → Type 0
IsNoSet names (Set fault) =
    (first : ℕ) × (second : ℕ) × (fault ≡ DuplicateModule first second) × FirstDuplicate names first second
IsNoSet names Memory = Unit {0}
