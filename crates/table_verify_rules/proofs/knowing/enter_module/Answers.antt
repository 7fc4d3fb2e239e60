use Rattle.std.proofs.Common.{Some, sym, ap, ◌∙◌}
use Rattle.std.proofs.lemmas.Result.{on_ok_weaker}
use Rattle.cons_tree.specs.Callees.{found}
use Rattle.table_file.specs.Order.{has_name}
use Rattle.table_keep.specs.Model.{source_so}
use Rattle.table_verify_rules.specs.steps.Knowing.{with_entry_of}
use Rattle.table_verify_rules.proofs.Sources.{entry_is, no_entry_of}
use Rattle.table_verify_rules.proofs.knowing.enter_module.Goals as goal

pub returns-in-Some : goal.returns-in-Some
returns-in-Some c =
    let C = c.args.cert.now in let s = source_so c.args.source.now in
    let there = c.in-Some.ensures ∙ ap (λ x. Some x.name) c.module.ensures in
    let of_cert = entry_is C c.args.names.now c.requires.cert c.in-Some.at s.tree.name there c.requires.rising c.at.result.now c.at.ensures in
    on_ok_weaker c.enter_entry.result (λ e. e ∙ ap (λ o. with_entry_of s o (found c.args.known.now)) (sym of_cert)) c.enter_entry.ensures

pub returns-in-None : goal.returns-in-None
returns-in-None c =
    let C = c.args.cert.now in let names = c.args.names.now in let s = source_so c.args.source.now in
    let none = no_entry_of C names c.requires.cert s.tree.name (sym (ap (λ x. has_name names x.name) c.module.ensures) ∙ c.in-None.ensures) in
    sym (ap (λ o. with_entry_of s o (found c.args.known.now)) none)
