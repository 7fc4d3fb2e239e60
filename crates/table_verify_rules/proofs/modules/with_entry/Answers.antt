use Rattle.std.proofs.Common.{IfOk, ◌≡◌, length, refl, sym, subst, arith}
use Rattle.std.proofs.lemmas.Option.{slice_get_read}
use Rattle.table_verify_rules.proofs.SideBySide.{named_at}
use Rattle.table_verify_rules.specs.steps.Lesser.{lesser_name}
use Rattle.table_verify_rules.proofs.modules.with_entry.Goals as goal

pub returns-in-Some : goal.returns-in-Some
returns-in-Some c =
    let there = slice_get_read c.args.entries.now (length c.args.entries.now) c.args.at c.in-Some.entry.now refl (grind (arith, c.in-Some.ensures.lookup.0)) c.in-Some.ensures.lookup.1 in
    subst (λ o. IfOk c.lesser.result (λ name. name ≡ lesser_name c.args.least o)) (sym (named_at c.args.entries.now c.args.at c.in-Some.entry.now there)) c.lesser.ensures
