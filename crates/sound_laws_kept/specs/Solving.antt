-- How modules are solved together: component by component of their functions, and then the report on each.
use Rattle.std.specs.Prelude.{◌≡◌, ℕ, List, Contains, map, IsTrue}
use Rattle.core_ast.specs.Model as m
use Rattle.core_scope.specs.Names.{Distinct}
use Rattle.type_kinds.specs.declared.atom.Atom.{Atom}
use Rattle.comp_rounds.specs.Rounds.{Callees}
use Rattle.sound_laws.specs.Accepted.{AreAccepted}
use Rattle.sound_laws_outside.specs.Over.{IsKnownOver}
use Rattle.analysis_summaries.specs.Known.{module_names}
use Rattle.module_flow.specs.Flow.{findings}
use Rattle.warn_list.specs.Lines.{AreLines}
use Rattle.table_file.specs.Order.{rises, is_name_before}
use Rattle.table_keep.specs.Model.{Source, Entry, Result, trees, entry_of}
use Rattle.table_keep.specs.Groups.{Groups}
use Rattle.table_keep.specs.Kept.{Standing, Results}
use Rattle.table_keep.specs.Made.{exported, AreSummarized}
use Rattle.sound_laws_kept.specs.Written.{IsAnalysisBy, new_entry}

-- What the analysis gives for a module, by what is known of functions: its exports, and the lines of what is found in it.
pub record IsResult (known : Callees) (x : m.Module) (r : Result) : Type 0 where
  pub exports : AreSummarized known x.name (exported x) r.exports
  pub lines : AreLines x.name (findings known x) r.lines

-- What is known of sources that are solved together, over what stands outside of them.
pub record IsSolved (xs : List Source) (outside : Standing) (R : Results) : Type 0 where
  pub known : Callees
  pub known_so : IsKnownOver outside (trees xs) known
  pub results : (s : Source) → Contains xs s → IsResult known s.tree (R s.tree.name)

-- sources of accepted modules with distinct names
pub record AreSources (M : List Source) : Type 0 where
  pub accepted : AreAccepted (trees M)
  pub distinct : Distinct (module_names (trees M))

-- The written analysis: what is known of each module by groups, the report on each module that is passed, in this order, and a new
-- table, which rises by name.
pub record IsWritten (T : List Entry) (M : List Source) (reports : List (List ℕ)) (new : List Entry) : Type 0 where
  pub groups : Groups
  pub new_groups : Groups
  pub known : Results
  pub analysis : IsAnalysisBy IsSolved T M groups new_groups known
  pub reports_so : reports ≡ map (λ s. (known s.tree.name).lines) M
  pub entries : (h : Atom) → entry_of new h ≡ new_entry known T M groups new_groups h
  pub rising : IsTrue (rises is_name_before (map (λ e. e.name) new))
