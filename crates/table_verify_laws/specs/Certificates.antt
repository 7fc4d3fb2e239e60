-- The certificate that the analysis gives: its table with all functions of each module.
use Rattle.std.specs.Prelude.{◌≡◌, ℕ, List, [], ◌∷◌, Some}
use Rattle.type_kinds.specs.declared.atom.Atom.{Atom}
use Rattle.core_ast.specs.declared.syntax.FunName.{FunName}
use Rattle.cons_tree.specs.declared.parts.Summary.{Summary}
use Rattle.comp_rounds.specs.Rounds.{Callees}
use Rattle.sound_laws.specs.Knowledge.{summary_of}
use Rattle.sound_laws_kept.specs.Solving.{IsWritten}
use Rattle.analysis_summaries.specs.Whole.{IsWholeOf}
use Rattle.table_keep.specs.Model.{Source, Entry, trees, source_of}
use Rattle.table_verify_laws.specs.Listed.{defined}

-- These are functions of a module with the summaries that are known of them, whether other modules see them or not.
abbrev pub AreListed : (known : Callees) → (home : Atom) → List FunName → List (FunName × Summary) → Type 0
AreListed known home [] [] = Unit {0}
AreListed known home [] (x ∷ xs) = ⊥
AreListed known home (f ∷ fs) [] = ⊥
AreListed known home (f ∷ fs) (x ∷ xs) = (x.0 ≡ f) × (summary_of (known home f) ≡ Some x.1) × AreListed known home fs xs

-- The entry of a module with all functions that it defines in place of those that it exports, and everything else as it was.
pub record ListsAll (known : Callees) (M : List Source) (before now : Entry) : Type 0 where
  pub source : Source
  pub there : source_of M before.name ≡ Some source
  pub functions : AreListed known before.name (defined source.tree) now.result.exports
  pub others : now ≡ record before { result = record { exports = now.result.exports; lines = before.result.lines } }

-- entry by entry
abbrev pub EachListsAll : (known : Callees) → List Source → (before now : List Entry) → Type 0
EachListsAll known M [] [] = Unit {0}
EachListsAll known M [] (c ∷ cs) = ⊥
EachListsAll known M (e ∷ es) [] = ⊥
EachListsAll known M (e ∷ es) (c ∷ cs) = ListsAll known M e c × EachListsAll known M es cs

-- The certificate of sources: the table that their analysis from the empty table writes, in which each entry lists all functions that
-- its module defines, with the summaries that this analysis finds.
pub record IsCertificate (M : List Source) (C : List Entry) : Type 0 where
  pub known : Callees
  pub whole : IsWholeOf (trees M) known
  pub reports : List (List ℕ)
  pub table : List Entry
  pub written : IsWritten [] M reports table
  pub lists : EachListsAll known M table C
