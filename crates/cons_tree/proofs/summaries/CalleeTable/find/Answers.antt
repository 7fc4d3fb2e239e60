use Rattle.std.proofs.Common.{◌≡◌, subst}
use Rattle.cons_tree.specs.Callees.{HomeCallees, callee_in}
use Rattle.cons_tree.proofs.CalleeLaws.{in_there, not_there, fits_there}
use Rattle.cons_tree.proofs.summaries.CalleeTable.find.Goals as goal

pub returns-in-Some-clause-value : goal.returns-in-Some-clause-value
returns-in-Some-clause-value c =
    let f = c.args.name.now in
    let callee = c.in-Some.callee.now in
    let inside : HomeCallees = (c.self.inside.callees.entries, c.self.inside.rest) in
    subst (λ es. callee ≡ callee_in es f) c.self.view_is (in_there inside f callee c.in-Some.ensures.value)

pub returns-in-Some-clause-fits : goal.returns-in-Some-clause-fits
returns-in-Some-clause-fits c =
    let f = c.args.name.now in
    let callee = c.in-Some.callee.now in
    let inside : HomeCallees = (c.self.inside.callees.entries, c.self.inside.rest) in
    fits_there inside f callee (in_there inside f callee c.in-Some.ensures.value) c.self.invariant.0

pub returns-in-None-clause-value : goal.returns-in-None-clause-value
returns-in-None-clause-value c =
    let f = c.args.name.now in
    let rest = c.self.inside.rest in
    let inside : HomeCallees = (c.self.inside.callees.entries, rest) in
    subst (λ es. rest ≡ callee_in es f) c.self.view_is (not_there inside f c.in-None.ensures.value)

pub returns-in-None-clause-fits : goal.returns-in-None-clause-fits
returns-in-None-clause-fits c =
    let f = c.args.name.now in
    let rest = c.self.inside.rest in
    let inside : HomeCallees = (c.self.inside.callees.entries, rest) in
    fits_there inside f rest (not_there inside f c.in-None.ensures.value) c.self.invariant.0
