use Rattle.std.proofs.Common.{Contains, length, map, sym, ap, ◌∙◌, subst, arith}
use Rattle.std.proofs.lemmas.List.{length-map}
use Rattle.cons_tree.specs.Callees.{found}
use Rattle.comp_rounds.specs.Members.{function_of}
use Rattle.comp_rounds.specs.Rounds.{of_one, with_signatures}
use Rattle.comp_rounds.specs.Takes.{AllTake}
use Rattle.comp_rounds.specs.Turns.{AllWithin, AreEntered}
use Rattle.comp_rounds.proofs.Rounding.{round_entered, round_next, round_settled, round_takes_next}
use Rattle.comp_rounds.proofs.rounds.next_round.Goals as goal

pub enter_changed-requires-clause-take : goal.enter_changed-requires-clause-take
enter_changed-requires-clause-take c =
    let gs = map function_of c.args.members.now in
    subst (λ ss. AllTake gs (map of_one ss)) (sym c.as_slice.ensures)
    (round_takes_next c.type_facts.ensures c.solution_laws.ensures.below gs (found c.args.known.now) c.args.round c.args.signatures.now c.one_round.new.signatures
    c.args.due.now c.in_ok-changed.changed c.requires.takes c.requires.known c.requires.settled c.in_ok-changed.ensures.turned c.in_ok-changed.ensures.changed)

pub enter_changed-requires-clause-last : goal.enter_changed-requires-clause-last
enter_changed-requires-clause-last c = c.requires.calls.flags ∙ length-map c.args.members.now function_of

pub enter_changed-requires-clause-lasts : goal.enter_changed-requires-clause-lasts
enter_changed-requires-clause-lasts c = c.requires.calls.last

pub enter_changed-requires-clause-within : goal.enter_changed-requires-clause-within
enter_changed-requires-clause-within c = subst (λ xs. AllWithin xs (length c.args.members.now)) (sym c.as_slice-2.ensures) c.in_ok-changed.ensures.within

pub enter_changed-requires-clause-known : goal.enter_changed-requires-clause-known
enter_changed-requires-clause-known c =
    let gs = map function_of c.args.members.now in
    let known = found c.args.known.now in
    subst (λ ss. AreEntered gs ss known c.as_slice-2.result.now) (sym c.as_slice.ensures)
    (subst (AreEntered gs c.one_round.new.signatures known) (sym c.as_slice-2.ensures)
    (round_entered c.type_facts.ensures c.solution_laws.ensures.below gs known c.args.round c.args.signatures.now c.one_round.new.signatures c.args.due.now
    c.in_ok-changed.changed c.requires.takes c.requires.known c.requires.settled c.in_ok-changed.ensures.turned c.in_ok-changed.ensures.changed))

pub callers_of-requires-clause-functions : goal.callers_of-requires-clause-functions
callers_of-requires-clause-functions c = λ i has.
    let low = c.in_ok-changed.ensures.within i (subst (λ xs. Contains xs i) c.as_slice-3.ensures has) in
    let count = c.requires.calls.count in
    let many = length-map c.args.members.now function_of in
    omega (arith, low, count, many)

pub callers_of-requires-clause-inside : goal.callers_of-requires-clause-inside
callers_of-requires-clause-inside c = λ i j leads.
    let low = c.requires.calls.inside i j leads in
    let count = c.requires.calls.count in
    omega (arith, low, count)

pub returns-clause-next : goal.returns-clause-next
returns-clause-next c =
    round_next c.type_facts.ensures c.solution_laws.ensures.below (map function_of c.args.members.now) (found c.args.known.now) c.args.round c.args.signatures.now
    c.one_round.new.signatures c.args.due.now c.in_ok-changed.changed c.requires.takes c.requires.known c.requires.settled c.in_ok-changed.ensures.turned
    c.in_ok-changed.ensures.changed

pub returns-clause-known : goal.returns-clause-known
returns-clause-known c =
    c.in_ok-enter_changed.ensures ∙ ap (with_signatures (found c.args.known.now) (map function_of c.args.members.now)) c.as_slice.ensures

pub returns-clause-settled : goal.returns-clause-settled
returns-clause-settled c =
    round_settled c.type_facts.ensures c.solution_laws.ensures.below (map function_of c.args.members.now) (found c.args.known.now) c.args.round c.args.signatures.now
    c.one_round.new.signatures c.args.due.now c.in_ok-changed.changed c.requires.takes c.requires.known c.requires.settled c.in_ok-changed.ensures.turned
    c.in_ok-changed.ensures.changed c.args.calls.now (found c.enter_changed.new.known) c.in_ok-next.next c.requires.calls
    (c.in_ok-enter_changed.ensures ∙ ap (with_signatures (found c.args.known.now) (map function_of c.args.members.now)) c.as_slice.ensures)
    (λ i j has. c.in_ok-next.ensures.all i j (subst (λ xs. Contains xs j) (sym c.as_slice-3.ensures) has))

pub returns-clause-within : goal.returns-clause-within
returns-clause-within c = λ i has.
    let low = c.in_ok-next.ensures.within i has in
    let count = c.requires.calls.count in
    let many = length-map c.args.members.now function_of in
    omega (arith, low, count, many)
