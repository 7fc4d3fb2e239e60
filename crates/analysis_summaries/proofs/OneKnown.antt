-- The modules alone decide what is known of functions.
use Rattle.std.proofs.Common.{◌≡◌, ℕ, ◌<◌, List, length, ap, ◌∙◌, sym, subst}
use Rattle.std.proofs.lemmas.Option.{slice_get_within}
use Rattle.core_ast.specs.Model as m
use Rattle.call_graph.specs.Calls.{functions_of}
use Rattle.components.specs.Graph.{Leads}
use Rattle.components.specs.Numbering.{Numbering}
use Rattle.components.specs.Ready.{IsReadyNumbering, SamePairs}
use Rattle.comp_rounds.specs.Rounds.{Callees}
use Rattle.analysis_summaries.specs.Known.{known_over}
use Rattle.analysis_summaries.specs.Whole.{IsCallGraph, IsWholeOver}

inside : (xs : List m.Module) (graph : List (List ℕ)) → IsCallGraph xs graph → (i j : ℕ) → Leads graph i j → j < length graph
inside xs graph is i j leads =
    let call = (is.pairs i j).0 leads in
    subst (λ n. j < n) (sym is.counted) (slice_get_within (functions_of xs) j call.callee call.called)

same_graph : (xs : List m.Module) (graph other : List (List ℕ)) → IsCallGraph xs graph → IsCallGraph xs other → SamePairs graph other
same_graph xs graph other a b = record {
  counted = a.counted ∙ sym b.counted;
  inside = inside xs graph a;
  pairs = λ i j. ((λ leads. (b.pairs i j).1 ((a.pairs i j).0 leads)), (λ leads. (a.pairs i j).1 ((b.pairs i j).0 leads)));
}

pub one_known : ((graph other : List (List ℕ)) (c d : Numbering) → SamePairs graph other → IsReadyNumbering graph c → IsReadyNumbering other d → c ≡ d)
    → (outside : Callees) (xs : List m.Module) (known other : Callees) → IsWholeOver outside xs known → IsWholeOver outside xs other → known ≡ other
one_known law outside xs known other a b =
    a.known_so
    ∙ ap (known_over outside xs) (law a.graph b.graph a.numbering b.numbering (same_graph xs a.graph b.graph a.is_graph b.is_graph) a.is_numbering b.is_numbering)
    ∙ sym b.known_so
