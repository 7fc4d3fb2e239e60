use Rattle.std.proofs.Common.{◌≡◌, ◌+◌, ◌<◌, Contains, length, map, take, slice_get, Some, refl, ◌∙◌, subst, arith}
use Rattle.std.specs.Prelude.{slice_index}
use Rattle.std.proofs.lemmas.List.{length-map, take_all, take_more}
use Rattle.std.proofs.lemmas.List.Elements.{Contains-get_or}
use Rattle.type_kinds.proofs.Lists.{contains_none, item_at}
use Rattle.cons_tree.specs.Callees.{found}
use Rattle.comp_rounds.specs.Members.{function_of}
use Rattle.comp_rounds.specs.Rounds.{inferred, next_signature, strict_pass}
use Rattle.comp_rounds.specs.Turns.{AreTurned}
use Rattle.comp_rounds.proofs.Places.{function_read}
use Rattle.comp_rounds.proofs.Turning.{differ_more, takes_long, turned_more, turned_none, within_more}
use Rattle.comp_rounds.proofs.rounds.one_round.Goals as goal

pub loop-number-init : goal.loop-number-init
loop-number-init c = record {
  turned = turned_none (strict_pass (found c.args.known.now)) c.args.round (map function_of c.args.members.now) c.args.signatures.now;
  changed = λ i free. refl;
  within = λ i has. absurd (contains_none i (subst (λ xs. Contains xs i) c.new-changed.ensures has));
}

pub bounds-members-at : goal.bounds-members-at
bounds-members-at c =
    c.requires.within (slice_index c.args.due.now c.loop-number.number-index) (Contains-get_or c.args.due.now c.loop-number.number-index 0 c.loop-number-test.true)

pub turn-requires : goal.turn-requires
turn-requires c =
    let low = c.requires.within (slice_index c.args.due.now c.loop-number.number-index) (Contains-get_or c.args.due.now c.loop-number.number-index 0 c.loop-number-test.true) in
    let long = c.loop-number.invariant.turned.long in
    let first = takes_long (map function_of c.args.members.now) c.args.signatures.now c.requires.takes in
    let many = length-map c.args.members.now function_of in
    omega (arith, low, long, first, many)

pub loop-number-preserved : goal.loop-number-preserved
loop-number-preserved c =
    let gs = map function_of c.args.members.now in
    let due = c.args.due.now in
    let i = c.loop-number.number-index in
    let p = slice_index due i in
    let now = c.loop-number.signatures in
    let new = c.turn.new.signatures in
    let kept = c.loop-number.invariant in
    let P = strict_pass (found c.args.known.now) in
    let low : p < length c.args.members.now = c.requires.within p (Contains-get_or due i 0 c.loop-number-test.true) in
    let many : length gs ≡ length c.args.members.now = length-map c.args.members.now function_of in
    let long : length now ≡ length gs = kept.turned.long ∙ takes_long gs c.args.signatures.now c.requires.takes in
    let m = c.index-members-at.result in
    let here : slice_get gs p ≡ Some (function_of m) = function_read c.args.members.now p m low c.index-members-at.is in
    let u = item_at now p (omega (arith, low, many, long)) in
    let is = c.in_ok-turned.ensures.next u.0 u.1 in
    record {
      turned =
          turned_more c.type_facts.ensures c.solution_laws.ensures.below P c.args.round gs c.args.signatures.now c.requires.takes now new (take i due) (take (i + 1) due) p (function_of m) u.0
          here u.1 (take_more due i 0 c.loop-number-test.true) is kept.turned;
      changed =
          differ_more c.args.signatures.now now new p (next_signature c.args.round u.0 (inferred P (function_of m))) c.in_ok-turned.turned c.loop-number.changed c.note_if.new.numbers
          c.in_ok-turned.ensures.same is c.in_ok-note_if.ensures.kept c.in_ok-note_if.ensures.added kept.changed;
      within = within_more c.loop-number.changed c.note_if.new.numbers p (length c.args.members.now) low c.in_ok-note_if.ensures.only kept.within;
    }

pub returns-clause-turned : goal.returns-clause-turned
returns-clause-turned c =
    subst (AreTurned (strict_pass (found c.args.known.now)) c.args.round (map function_of c.args.members.now) c.args.signatures.now c.loop-number.signatures)
    (take_all c.loop-number.number-index c.args.due.now c.loop-number-test.false) c.loop-number.invariant.turned
