-- What the program writes of sources.
use Rattle.std.proofs.Common.{◌≡◌, ℕ, List, [], ◌∷◌, map, Result, Ok, Err, refl, ap, ◌∙◌, subst}
use Rattle.std.specs.Prelude.{IfOk}
use Rattle.type_kinds.specs.declared.memory.Memory.{Memory}
use Rattle.core_scope.specs.Checked.{tree_of}
use Rattle.table_keep.specs.declared.source.Source.{Source as HandedIn}
use Rattle.table_keep.specs.Model.{trees, sources_so}
use Rattle.sound_laws.specs.Accepted.{AreAccepted}
use Rattle.fun_flow_answers.specs.declared.target.AppliedCall.{AppliedCall}
use Rattle.fun_flow_answers.specs.Answers.{AreCalls}
use Rattle.fun_flow_answers.specs.Lines.{call_lines}
use Rattle.analysis_answers.proofs.AnswerExits.{names, names_so, trees_so}
use Rattle.fun_flow_command.specs.Listed.{Lists}

accepted_so : (ss : List HandedIn) → AreAccepted (trees (sources_so ss))
accepted_so [] = tt
accepted_so (s ∷ ss) = ((s.checked, refl), accepted_so ss)

lists_so : (ss : List HandedIn) (calls : List AppliedCall) (output : List ℕ) → AreCalls (map (λ (s : HandedIn). tree_of s.checked) ss) calls → output ≡ call_lines (names ss) calls → Lists (sources_so ss) output
lists_so ss calls output are o = record {
  accepted = accepted_so ss;
  calls = calls;
  are = subst (λ xs. AreCalls xs calls) (trees_so ss) are;
  lines = o ∙ ap (λ ns. call_lines ns calls) (names_so ss);
}

pub lists_ok : (ss : List HandedIn) (calls got : List AppliedCall) (r : Result (List ℕ) Memory) → AreCalls (map (λ (s : HandedIn). tree_of s.checked) ss) calls → got ≡ calls
    → IfOk r (λ output. output ≡ call_lines (names ss) got)
    → IfOk r (λ output. Lists (sources_so ss) output)
lists_ok ss calls got (Err e) are same h = tt
lists_ok ss calls got (Ok output) are same h = lists_so ss calls output are (h ∙ ap (call_lines (names ss)) same)
