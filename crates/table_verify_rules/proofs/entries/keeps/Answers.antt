use Rattle.std.proofs.Common.{◌≡◌, ◌↔◌, IsTrue, List, Some, sym, ap, ◌∙◌}
use Rattle.std.proofs.lemmas.Result.{IfOk-weaker}
use Rattle.table_file.specs.Order.{has_name}
use Rattle.table_keep.specs.Model.{Source, entries_so, entry_so, source_of, source_so}
use Rattle.table_verify_rules.specs.steps.Asked.{Asked, KeepsAsked}
use Rattle.table_verify_rules.proofs.Broken.{keeps_asked, nothing_asked}
use Rattle.table_verify_rules.proofs.Sources.{entry_is, no_entry_of}
use Rattle.table_verify_rules.proofs.entries.keeps.Goals as goal

pub returns-in-Some : goal.returns-in-Some
returns-in-Some c =
    let T = c.args.table.now in let C = c.args.cert.now in let names = c.args.names.now in let at = c.in-Some.at in
    let s = source_so c.args.source.now in let h = s.tree.name in
    let there = c.in-Some.ensures ∙ ap (λ x. Some x.name) c.module.ensures in
    let e = entry_so c.at.result.now in let d = entry_so c.at-in-Some.result.now in
    let of_table = entry_is T names c.requires.table at h there c.requires.rising c.at.result.now c.at.ensures in
    let of_cert = entry_is C names c.requires.cert at h there c.requires.rising c.at-in-Some.result.now c.at-in-Some.ensures in
    IfOk-weaker c.is_so.result (λ b. IsTrue b ↔ Asked c.args.rule e d s)
    (λ b. (M : List Source) → source_of M h ≡ Some s → IsTrue b ↔ KeepsAsked c.args.rule (entries_so T) (entries_so C) M h)
    (λ b told M of_source. keeps_asked (entries_so T) (entries_so C) M h e d s of_table of_cert of_source c.args.rule b told)
    c.is_so.ensures

pub returns-in-None : goal.returns-in-None
returns-in-None c =
    let T = c.args.table.now in let C = c.args.cert.now in let names = c.args.names.now in let h = (source_so c.args.source.now).tree.name in
    let none = no_entry_of T names c.requires.table h (sym (ap (λ x. has_name names x.name) c.module.ensures) ∙ c.in-None.ensures) in
    λ M of_source. nothing_asked (entries_so T) (entries_so C) M h none c.args.rule
