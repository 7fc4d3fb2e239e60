use Rattle.std.proofs.Common.{◌≡◌, ◌≤◌, [], length, ◌∙◌, subst, arith}
use Rattle.std.specs.Prelude.{slice_index}
use Rattle.std.proofs.lemmas.List.{get_or_default}
use Rattle.components.specs.Graph.{targets}
use Rattle.components.proofs.Orders.{looking_passed, passed_on, position_ready, position_watching, callee_at, callee_low}
use Rattle.components.proofs.ready.Order.position.Goals as goal

pub advance-to-requires : goal.advance-to-requires
advance-to-requires c =
    let before = looking_passed _ _ _ _ _ _ _ c.requires.ordered in
    let is : c.as_slice-own.result.now ≡ targets c.args.callees.now c.args.looking.component =
    c.as_slice-own.ensures ∙ c.index-callees-component.is ∙ get_or_default c.args.callees.now c.args.looking.component c.index-callees-component.result [] before.0 in
    record { inside = λ k under. omega (arith, c.requires.ordered.sizes, callee_low _ _ _ k c.requires.inside is under) }

pub returns-then-to-own-clause-ordered : goal.returns-then-to-own-clause-ordered
returns-then-to-own-clause-ordered c =
    let before = looking_passed _ _ _ _ _ _ _ c.requires.ordered in
    let is : c.as_slice-own.result.now ≡ targets c.args.callees.now c.args.looking.component =
    c.as_slice-own.ensures ∙ c.index-callees-component.is ∙ get_or_default c.args.callees.now c.args.looking.component c.index-callees-component.result [] before.0 in
    let ahead = passed_on _ _ _ _ _ c.advance-to.result before is c.advance-to.ensures.passed in
    position_ready _ _ _ _ _ _ _ _ _ c.advance-to.result c.requires.ordered c.insert.ensures ahead (subst (λ xs. length xs ≤ c.advance-to.result) is c.if-to-own.true)

pub add_at-requires : goal.add_at-requires
add_at-requires c =
    let before = looking_passed _ _ _ _ _ _ _ c.requires.ordered in
    let is : c.as_slice-own.result.now ≡ targets c.args.callees.now c.args.looking.component =
    c.as_slice-own.ensures ∙ c.index-callees-component.is ∙ get_or_default c.args.callees.now c.args.looking.component c.index-callees-component.result [] before.0 in
    omega (arith, c.requires.ordered.tables, callee_low _ _ _ c.advance-to.result c.requires.inside is c.if-to-own.false)

pub returns-clause-ordered : goal.returns-clause-ordered
returns-clause-ordered c =
    let before = looking_passed _ _ _ _ _ _ _ c.requires.ordered in
    let is : c.as_slice-own.result.now ≡ targets c.args.callees.now c.args.looking.component =
    c.as_slice-own.ensures ∙ c.index-callees-component.is ∙ get_or_default c.args.callees.now c.args.looking.component c.index-callees-component.result [] before.0 in
    let ahead = passed_on _ _ _ _ _ c.advance-to.result before is c.advance-to.ensures.passed in
    let callee = slice_index c.as_slice-own.result.now c.advance-to.result in
    let low = callee_low _ _ _ c.advance-to.result c.requires.inside is c.if-to-own.false in
    position_watching _ _ _ _ _ _ _ _ c.args.looking c.advance-to.result callee c.requires.ordered ahead
    (callee_at c.args.callees.now _ _ _ is c.if-to-own.false) (c.advance-to.ensures.stop c.if-to-own.false) low c.add_at.ensures.ok
