-- What the program writes of sources.
use Rattle.std.proofs.Common.{◌≡◌, ℕ, ◌<◌, List, length, map, refl, ap, ◌∙◌, subst}
use Rattle.core_scope.specs.Checked.{tree_of}
use Rattle.core_scope.specs.Sets.{StandsEarlier}
use Rattle.cons_tree.specs.declared.parts.Summary.{Summary}
use Rattle.table_keep.specs.declared.source.Source.{Source as HandedIn}
use Rattle.table_keep.specs.Model.{trees, sources_so}
use Rattle.sound_laws.specs.Accepted.{AreAccepted}
use Rattle.analysis_crew.proofs.Passed.{accepted_all}
use Rattle.analysis_answers.specs.declared.run_status.RunStatus.TheVariants.{Done}
use Rattle.analysis_answers.specs.FileRuns.{AnswersSources}
use Rattle.analysis_answers.proofs.AnswerExits.{gives_so, names, trees_so}
use Rattle.analysis_typings.specs.Typings.{AreTypings}
use Rattle.typer_command.specs.Listed.{Lists}
use Rattle.typer_command.specs.Typed.{lines_of, typings_of}

lists_so : (ss : List HandedIn) (found : List (List Summary)) (output : List ℕ) → AreTypings (map (λ (s : HandedIn). tree_of s.checked) ss) found
    → output ≡ lines_of (typings_of (map (λ (s : HandedIn). tree_of s.checked) ss) found) → Lists (sources_so ss) output
lists_so ss found output typings o = record {
  accepted = subst AreAccepted (trees_so ss) (accepted_all (λ (s : HandedIn). s.checked) ss);
  typings = typings_of (trees (sources_so ss)) found;
  typed = record { summaries = found; found = subst (λ xs. AreTypings xs found) (trees_so ss) typings; typings_so = refl };
  lines = o ∙ ap (λ xs. lines_of (typings_of xs found)) (trees_so ss);
}

pub listed_so : (words : List (List ℕ)) (ss : List HandedIn) (found : List (List Summary)) (output : List ℕ) → ((j : ℕ) → j < length ss → StandsEarlier (names ss) j → ⊥)
    → AreTypings (map (λ (s : HandedIn). tree_of s.checked) ss) found → output ≡ lines_of (typings_of (map (λ (s : HandedIn). tree_of s.checked) ss) found)
    → AnswersSources Lists words (sources_so ss) Done output
listed_so words ss found output own typings o = gives_so Lists words ss output own (lists_so ss found output typings o)
