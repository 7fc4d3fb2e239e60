-- What is known of the functions of modules that are analysed together.
use Rattle.std.specs.Prelude.{◌≡◌, ℕ, ◌↔◌, List, length}
use Rattle.core_ast.specs.Model as m
use Rattle.call_graph.specs.Calls.{functions_of, Calls}
use Rattle.components.specs.Graph.{Leads}
use Rattle.components.specs.Numbering.{Numbering}
use Rattle.components.specs.Ready.{IsReadyNumbering}
use Rattle.comp_rounds.specs.Rounds.{Callees}
use Rattle.analysis_summaries.specs.Known.{all_unknown, known_over}

-- The graph has the calls of the modules' functions.
pub record IsCallGraph (xs : List m.Module) (graph : List (List ℕ)) : Type 0 where
  pub counted : length graph ≡ length (functions_of xs)
  pub pairs : (i j : ℕ) → Leads graph i j ↔ Calls xs i j

-- This is known of all functions, where these modules are analysed together and this stands of functions outside of them: component
-- by component in the ready order of their call graph, each function has the summary that the rounds of its component give. Every
-- other name of one of the modules is undefined, and of a function of another module it is known what stands.
pub record IsWholeOver (outside : Callees) (xs : List m.Module) (known : Callees) : Type 0 where
  pub graph : List (List ℕ)
  pub is_graph : IsCallGraph xs graph
  pub numbering : Numbering
  pub is_numbering : IsReadyNumbering graph numbering
  pub known_so : known ≡ known_over outside xs numbering

-- This is known where nothing stands: of a function of another module nothing is known.
abbrev pub IsWholeOf : List m.Module → Callees → Type 0
IsWholeOf xs known = IsWholeOver all_unknown xs known
