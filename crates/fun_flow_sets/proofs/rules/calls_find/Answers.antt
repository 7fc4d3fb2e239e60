use Rattle.std.proofs.Common.{ap, ◌∙◌, if◌then◌else◌, [], ◌∷◌, Some}
use Rattle.core_ast.specs.Lengths.{how_many}
use Rattle.core_ast.specs.Named.{literal_atom}
use Rattle.core_meaning.specs.Programs.{built_in, exported, hidden, outside}
use Rattle.fun_flow_sets.specs.Items.{anywhere, part}
use Rattle.fun_flow_sets.specs.Rules.{call_place}
use Rattle.fun_flow_sets.proofs.RuleLaws.{call_found, hands_on}
use Rattle.fun_flow_sets.proofs.rules.calls_find.Goals as goal

pub returns-clause-of_exported : goal.returns-clause-of_exported
returns-clause-of_exported c U home sc k i t u ts x name e g at = ap (λ z. z ∷ []) (call_found U home i t u (how_many ts) x name exported e g at)

pub returns-clause-handed_on : goal.returns-clause-handed_on
returns-clause-handed_on c U home sc k i t u ts x name n y h e g at on b held = hands_on U home sc k i t u ts x name n y h e g at on b held

pub returns-clause-of_built_in : goal.returns-clause-of_built_in
returns-clause-of_built_in c U home sc k i t u ts x name e g at off = ap (λ z. z ∷ []) (call_found U home i t u (how_many ts) x name built_in e g at ∙ ap (λ z. if z then part home i.label 0 else anywhere) off)

pub returns-clause-of_hidden : goal.returns-clause-of_hidden
returns-clause-of_hidden c U home sc k i t u ts x name e g at = ap (λ z. z ∷ []) (call_found U home i t u (how_many ts) x name hidden e g at)

pub returns-clause-of_outside : goal.returns-clause-of_outside
returns-clause-of_outside c U home sc k i t u ts x name e g at = ap (λ z. z ∷ []) (call_found U home i t u (how_many ts) x name outside e g at)

pub returns-clause-computed : goal.returns-clause-computed
returns-clause-computed c U home sc k i t u ts e = ap (λ z. call_place U home i.label z (literal_atom u) (how_many ts) ∷ []) e

pub returns-clause-computed_name : goal.returns-clause-computed_name
returns-clause-computed_name c U home sc k i t u ts x e g = ap (λ z. call_place U home i.label z (literal_atom u) (how_many ts) ∷ []) e ∙ ap (λ z. call_place U home i.label (Some x) z (how_many ts) ∷ []) g
