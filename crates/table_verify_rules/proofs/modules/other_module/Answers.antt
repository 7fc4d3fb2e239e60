use Rattle.std.proofs.Common.{◌≡◌, List, drop, ap, ◌∙◌, subst}
use Rattle.std.specs.Prelude.{MatchOption}
use Rattle.std.proofs.lemmas.Result.{IfOk-weaker}
use Rattle.table_keep.specs.Model.{Source, entries_so}
use Rattle.table_verify_laws.specs.Lined.{entry_names, first_name, AreModuleNames}
use Rattle.table_verify_laws.specs.Rules.{same_modules, IsFirstBroken}
use Rattle.table_verify_rules.specs.steps.Lesser.{lesser_name, names_in, AreAlike}
use Rattle.table_verify_rules.proofs.SideBySide.{told}
use Rattle.table_verify_rules.proofs.modules.other_module.Goals as goal

pub returns : goal.returns
returns c =
    let T = c.args.table.now in let C = c.args.cert.now in let names = c.args.names.now in let k = c.alike-at.result in
    let of_table = c.as_slice-entries.ensures in let of_cert = c.as_slice-certified.ensures in
    let alike : AreAlike (names_in T.entries) (names_in C.entries) names k =
    subst (λ es. AreAlike (names_in es) (names_in C.entries) names k) of_table
    (subst (λ es. AreAlike (names_in c.as_slice-entries.result.now) (names_in es) names k) of_cert c.alike-at.ensures) in
    let second : c.in_ok-least-2.least ≡ lesser_name (first_name (drop k (names_in T.entries))) (first_name (drop k (names_in C.entries))) =
    c.in_ok-least-2.ensures ∙ ap (λ es. lesser_name c.in_ok-least.least (first_name (drop k (names_in es)))) of_cert
    ∙ ap (λ o. lesser_name o (first_name (drop k (names_in C.entries)))) (c.in_ok-least.ensures ∙ ap (λ es. first_name (drop k (names_in es))) of_table) in
    IfOk-weaker c.with_name.result
    (λ name. name ≡ lesser_name c.in_ok-least-2.least (first_name (drop k names)))
    (λ other. (M : List Source) → AreModuleNames M names
    → MatchOption other ((entry_names (entries_so T) ≡ names) × (entry_names (entries_so C) ≡ names)) (λ h. IsFirstBroken (entries_so T) (entries_so C) M same_modules h))
    (λ least e M are. told T C M names k are alike c.names_tell.ensures.other least (e ∙ ap (λ o. lesser_name o (first_name (drop k names))) second))
    c.with_name.ensures
