use Rattle.std.proofs.Common.{◌≡◌, cond, slice_get, sym, ap, ◌∙◌, subst}
use Rattle.std.proofs.lemmas.Result.{on_ok_weaker}
use Rattle.std.proofs.lemmas.Option.{same_Some, none-some}
use Rattle.cons_tree.specs.Callees.{same_home, callee_in, found}
use Rattle.cons_tree.proofs.CopyLaws.{table_put}
use Rattle.cons_tree.proofs.summaries.Summaries.add_entry.Goals as goal

pub returns-in-None : goal.returns-in-None
returns-in-None c e is h f =
    let none = c.in-None.ensures.entry ∙ ap (λ es. slice_get es c.args.at) c.from.view_is in
    absurd (none-some e (none ∙ is))

pub returns-in-Ok : goal.returns-in-Ok
returns-in-Ok c =
    let home = c.in-Some.home.now in
    let table = c.in-Some.table.now in
    let old = c.args.self.now in
    let new = c.add.new.self in
    let here = ap (λ es. slice_get es c.args.at) (sym c.from.view_is) ∙ sym c.in-Some.ensures.entry in
    on_ok_weaker c.add.result
    (λ put e is h f.
    subst (λ p. found new h f ≡ cond (same_home p.0 h) (callee_in p.1 f) (found old h f)) (same_Some (home, table) e (sym here ∙ is))
    (table_put old new home table c.in-Ok.table put c.in-Ok.ensures h f))
    c.add.ensures.ok
