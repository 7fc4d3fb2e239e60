use Rattle.std.proofs.Common.{◌≡◌, ◌+◌, ◌≤◌, length, map, sym, ap, ◌∙◌, subst, arith}
use Rattle.std.proofs.lemmas.List.{length-map}
use Rattle.cons_tree.specs.Callees.{found}
use Rattle.comp_rounds.specs.Members.{function_of}
use Rattle.comp_rounds.specs.Rounds.{after_rounds, last_round, with_signatures}
use Rattle.comp_rounds.specs.Turns.{AllWithin}
use Rattle.comp_rounds.proofs.Rounding.{all_due, last_number, round_after, round_known, round_last, round_stands, round_takes}
use Rattle.comp_rounds.proofs.rounds.settle.Goals as goal

pub enter_signatures-requires : goal.enter_signatures-requires
enter_signatures-requires c =
    round_takes c.type_facts.ensures c.solution_laws.ensures.below (found c.args.known.now) (map function_of c.args.members.now) 0 c.as_slice.result.now
    (c.as_slice.ensures ∙ c.requires.first)

pub loop-round-init : goal.loop-round-init
loop-round-init c = record {
  rounds = c.requires.first;
  known = c.in_ok-enter_signatures.ensures ∙ ap (with_signatures (found c.args.known.now) (map function_of c.args.members.now)) c.as_slice.ensures;
  settled = all_due (found c.enter_signatures.new.known) (map function_of c.args.members.now) c.args.signatures.now c.in_ok-due.due (length c.args.members.now)
      (sym (length-map c.args.members.now function_of)) c.in_ok-due.ensures.all;
  within = c.in_ok-due.ensures.within;
}

pub next_round-requires-clause-takes : goal.next_round-requires-clause-takes
next_round-requires-clause-takes c =
    round_takes c.type_facts.ensures c.solution_laws.ensures.below (found c.args.known.now) (map function_of c.args.members.now) c.loop-round.round c.loop-round.signatures
    c.loop-round.invariant.rounds

pub next_round-requires-clause-within : goal.next_round-requires-clause-within
next_round-requires-clause-within c =
    subst (λ xs. AllWithin xs (length c.args.members.now)) (sym c.as_slice-in-loop-round.ensures) c.loop-round.invariant.within

pub next_round-requires-clause-known : goal.next_round-requires-clause-known
next_round-requires-clause-known c =
    round_stands c.type_facts.ensures c.solution_laws.ensures.below (found c.args.known.now) (map function_of c.args.members.now) c.loop-round.round c.loop-round.signatures
    (found c.loop-round.known) c.loop-round.invariant.rounds c.loop-round.invariant.known

pub loop-round-preserved : goal.loop-round-preserved
loop-round-preserved c =
    let gs = map function_of c.args.members.now in
    let outside = found c.args.known.now in
    let F = c.type_facts.ensures in
    let lower = c.solution_laws.ensures.below in
    let kept = c.loop-round.invariant in
    let after = round_after F lower outside gs c.loop-round.round c.loop-round.signatures c.next_round.new.signatures (found c.loop-round.known) kept.rounds kept.known
    c.in_ok-due-2.ensures.next
    in
    record {
      rounds = after;
      known =
          round_known F lower outside gs (c.loop-round.round + 1) c.loop-round.signatures c.next_round.new.signatures (found c.loop-round.known)
          (found c.next_round.new.known) after kept.known c.in_ok-due-2.ensures.known;
      settled = c.in_ok-due-2.ensures.settled;
      within = c.in_ok-due-2.ensures.within;
    }

pub returns-then-is_empty-clause-value : goal.returns-then-is_empty-clause-value
returns-then-is_empty-clause-value c =
    let gs = map function_of c.args.members.now in
    let outside = found c.args.known.now in
    let within : c.loop-round.round ≤ last_round outside gs =
    subst (λ n. c.loop-round.round ≤ n) (last_number c.args.members.now function_of outside) (omega arith)
    in
    round_last c.type_facts.ensures c.solution_laws.ensures.below outside gs c.loop-round.round c.loop-round.signatures (found c.loop-round.known) c.loop-round.due
    within c.loop-round.invariant.rounds c.loop-round.invariant.known c.loop-round.invariant.settled (c.is_empty.ensures.0 c.if-is_empty.true)

pub returns-clause-value : goal.returns-clause-value
returns-clause-value c =
    let gs = map function_of c.args.members.now in
    let outside = found c.args.known.now in
    let over : c.loop-round.round ≡ 12 + length c.args.members.now = omega arith in
    c.loop-round.invariant.rounds ∙ ap (after_rounds outside gs) (over ∙ last_number c.args.members.now function_of outside)
