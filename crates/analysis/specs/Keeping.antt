-- Reports that are kept from one analysis to the next: what each rests on, and when it still is the report.
use Rattle.std.specs.Prelude.{◌≡◌, ℕ, false, Option, Some, List, ◌++◌, map, slice_get}
use Rattle.type_kinds.specs.declared.atom.Atom.{Atom}
use Rattle.core_ast.specs.declared.syntax.FunName.{FunName}
use Rattle.core_ast.specs.Model as m
use Rattle.core_scope.specs.Names.{defined_names, has_function}
use Rattle.call_graph.specs.Outside.{Called}
use Rattle.cons_tree.specs.declared.parts.Callee.TheVariants.{Undefined}
use Rattle.comp_rounds.specs.Rounds.{Callees}
use Rattle.module_flow.specs.Flow.{findings}
use Rattle.warn_list.specs.Lines.{AreLines}
use Rattle.table_keep.specs.Calls.{called_functions}
use Rattle.table_keep.specs.Model.{Source}
use Rattle.analysis.specs.declared.kept.Rest.{Rest}
use Rattle.analysis.specs.declared.kept.KeptReport.{KeptReport}

-- what is known of a function
abbrev pub rest_of : Callees → Atom → FunName → Rest
rest_of known h f = record { home = h; name = f; callee = known h f }

-- what is known of the functions that a module defines, and of those that it calls in other modules
abbrev pub rests_of : Callees → m.Module → List Rest
rests_of known x = map (rest_of known x.name) (defined_names x.defs) ++ map (λ (c : Called). rest_of known c.0 c.1) (called_functions x)

-- the same is known of the function still
abbrev pub IsStill : Callees → Rest → Type 0
IsStill known r = r.callee ≡ known r.home r.name

-- No function is known of a module but those that it defines.
abbrev pub IsClosedOn : Callees → m.Module → Type 0
IsClosedOn known x = (f : FunName) → has_function (defined_names x.defs) f ≡ false → known x.name f ≡ Undefined

-- The lines are those of the report on the module where this was known of functions, and it is noted what was known of those that the
-- report rests on.
pub record IsKeptOf (x : m.Module) (kept : KeptReport) : Type 0 where
  pub known : Callees
  pub closed : IsClosedOn known x
  pub rests : kept.rests ≡ rests_of known x
  pub lines : AreLines x.name (findings known x) kept.lines

-- What is kept at a module's position, if there is something, is of the module.
abbrev pub IsKeptAt : m.Module → Option (Option KeptReport) → Type 0
IsKeptAt x slot = (k : KeptReport) → slot ≡ Some (Some k) → IsKeptOf x k

-- What is kept at each position is of the module there.
abbrev pub AreKeptOf : List Source → List (Option KeptReport) → Type 0
AreKeptOf M kept = (i : ℕ) (s : Source) → slice_get M i ≡ Some s → IsKeptAt s.tree (slice_get kept i)
