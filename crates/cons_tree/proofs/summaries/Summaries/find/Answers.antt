use Rattle.std.proofs.Common.{◌≡◌, subst}
use Rattle.cons_tree.specs.Callees.{found}
use Rattle.cons_tree.proofs.CalleeLaws.{found_in, found_nowhere}
use Rattle.cons_tree.proofs.summaries.Summaries.find.Goals as goal

pub returns-in-Some-clause-value : goal.returns-in-Some-clause-value
returns-in-Some-clause-value c =
    let h = c.args.home.now in
    let f = c.args.name.now in
    subst (λ ts. c.find.result.now ≡ found ts h f) c.self.view_is (found_in c.self.inside.tables.entries h f c.in-Some.table.now c.find.result.now c.find.ensures.value c.in-Some.ensures.value)

pub returns-in-None-clause-value : goal.returns-in-None-clause-value
returns-in-None-clause-value c =
    let h = c.args.home.now in
    let f = c.args.name.now in
    subst (λ ts. c.self.inside.unknown ≡ found ts h f) c.self.view_is (found_nowhere c.self.inside.tables.entries h f c.self.inside.unknown c.self.invariant c.in-None.ensures.value)
