use Rattle.std.proofs.Common.{◌≡◌, ◌+◌, ◌≤◌, length, map, sym, ap, ◌∙◌, ap₂, subst, arith}
use Rattle.core_ast.specs.Tree.{module_tree}
use Rattle.cons_tree.specs.Callees.{found}
use Rattle.module_flow.specs.Flow.{first_state, last_round, made_of}
use Rattle.module_flow_state.specs.States.{next_state}
use Rattle.std.proofs.lemmas.List.{length-map}
use Rattle.module_flow_state.specs.steps.Changes.{rounds_of}
use Rattle.module_flow.specs.steps.Visits.{AreCandidates, first_visit}
use Rattle.module_flow_state.proofs.Absorbing.{JoinFacts, join_facts}
use Rattle.module_flow.proofs.Candidates.{candidates_first}
use Rattle.module_flow_state.proofs.Latest.{none_at_first}
use Rattle.module_flow.proofs.RoundsAgain.{is_made, settled_next}
use Rattle.module_flow.proofs.Settling as settling
use Rattle.module_flow.proofs.VisitRounds.{first_settled, settled_long}
use Rattle.module_flow.proofs.flowing.last_state.Goals as goal

pub loop-round-init : goal.loop-round-init
loop-round-init c = record {
  state = c.in_ok-state.ensures;
  settled = first_settled
      (record { callee = found c.args.known.now; home = c.args.source.now.name; names = c.args.tops.now.names; labels = c.args.tops.now.labels; state = c.in_ok-state.state })
      (rounds_of c.new-changes.result) c.args.source.now.defs c.in_ok-visits.visits (ap₂ (λ x y. (x, y)) c.new-changes.ensures.entered c.new-changes.ensures.given)
      (c.in_ok-visits.ensures ∙ ap (map first_visit) c.as_slice-defs.ensures);
  candidates =
      let vs = c.in_ok-visits.visits in
      let many : length c.as_slice-defs.result.now ≡ length vs = sym (ap length c.in_ok-visits.ensures ∙ length-map c.as_slice-defs.result.now first_visit) in
      candidates_first vs (rounds_of c.new-changes.result) c.in_ok-positions.positions 0 (let e = c.in_ok-positions.ensures.many in omega (arith, many, e)) (λ q h. c.in_ok-positions.ensures.each q (omega (arith, many)));
  entered_later = λ n h. none_at_first c.new-changes.result.entered.rounds n c.new-changes.ensures.entered h;
  given_later = λ n h. none_at_first c.new-changes.result.given.rounds n c.new-changes.ensures.given h;
}

pub walk_again-requires-clause-many : goal.walk_again-requires-clause-many
walk_again-requires-clause-many c =
    settled_long
    (record { callee = found c.args.known.now; home = c.args.source.now.name; names = c.args.tops.now.names; labels = c.args.tops.now.labels; state = c.loop-round.state })
    (rounds_of c.loop-round.changes) c.loop-round.round c.args.source.now.defs c.loop-round.visits c.loop-round.invariant.settled
    ∙ sym (ap length c.as_slice-defs.ensures)

pub walk_again-requires-clause-positions : goal.walk_again-requires-clause-positions
walk_again-requires-clause-positions c =
    subst (λ positions. AreCandidates (rounds_of c.loop-round.changes) c.loop-round.round c.loop-round.visits positions) (sym c.as_slice.ensures) c.loop-round.invariant.candidates

pub loop-round-preserved : goal.loop-round-preserved
loop-round-preserved c =
    let same = c.decision_laws.ensures.same in
    let F : JoinFacts = join_facts same c.type_facts.ensures in
    let callees = found c.args.known.now in
    let source = c.args.source.now in
    let state = c.loop-round.state in
    let next = c.take_round.new.self in
    let made : next ≡ next_state c.loop-round.round state (made_of callees (module_tree source) state) =
    is_made F callees source c.args.tops.now.names c.args.tops.now.labels state next (rounds_of c.loop-round.changes)
    (rounds_of c.take_round.new.changes) c.loop-round.round c.as_slice-defs.result.now c.loop-round.visits c.walk_again.new.visits c.in_ok-contributions.contributions c.as_slice-in-loop-round.result.now c.in_ok-take_round.field-0
    c.as_slice-defs.ensures c.loop-round.invariant.settled c.in_ok-contributions.ensures.contributions c.in_ok-contributions.ensures.visits c.as_slice-in-loop-round.ensures c.in_ok-take_round.ensures.after c.requires.names c.requires.labels
    in
    record {
      state = settling.next_round same callees (module_tree source) c.loop-round.round state next c.loop-round.invariant.state made;
      settled = settled_next F callees source c.args.tops.now.names c.args.tops.now.labels state next (rounds_of c.loop-round.changes)
          (rounds_of c.take_round.new.changes) c.loop-round.round c.as_slice-defs.result.now c.loop-round.visits c.walk_again.new.visits c.in_ok-contributions.contributions c.as_slice-in-loop-round.result.now c.in_ok-take_round.field-0
          c.as_slice-defs.ensures c.loop-round.invariant.settled c.in_ok-contributions.ensures.contributions c.in_ok-contributions.ensures.visits c.as_slice-in-loop-round.ensures c.in_ok-take_round.ensures.after
          c.in_ok-take_round.ensures.noted;
      candidates = c.in_ok-positions-2.ensures (c.loop-round.round + 1)
          (c.in_ok-take_round.ensures.anew.entered.listed (c.loop-round.invariant.entered_later (c.loop-round.round + 1) (omega arith)))
          (c.in_ok-take_round.ensures.anew.given.listed (c.loop-round.invariant.given_later (c.loop-round.round + 1) (omega arith)));
      entered_later = λ n h. c.in_ok-take_round.ensures.anew.entered.later n h (c.loop-round.invariant.entered_later n (omega arith));
      given_later = λ n h. c.in_ok-take_round.ensures.anew.given.later n h (c.loop-round.invariant.given_later n (omega arith));
    }

pub returns-then-not-branch : goal.returns-then-not-branch
returns-then-not-branch c =
    let same = c.decision_laws.ensures.same in
    let F : JoinFacts = join_facts same c.type_facts.ensures in
    let callees = found c.args.known.now in
    let source = c.args.source.now in
    let state = c.loop-round.state in
    let next = c.take_round.new.self in
    let count : length c.functions-count.result.now ≡ length (first_state (module_tree source)) =
    ap length (c.functions-count.ensures ∙ c.in_ok-state.ensures)
    in
    let within : c.loop-round.round ≤ last_round callees (module_tree source) = omega arith in
    let made : next ≡ next_state c.loop-round.round state (made_of callees (module_tree source) state) =
    is_made F callees source c.args.tops.now.names c.args.tops.now.labels state next (rounds_of c.loop-round.changes)
    (rounds_of c.take_round.new.changes) c.loop-round.round c.as_slice-defs.result.now c.loop-round.visits c.walk_again.new.visits c.in_ok-contributions.contributions c.as_slice-in-loop-round.result.now c.in_ok-take_round.field-0
    c.as_slice-defs.ensures c.loop-round.invariant.settled c.in_ok-contributions.ensures.contributions c.in_ok-contributions.ensures.visits c.as_slice-in-loop-round.ensures c.in_ok-take_round.ensures.after c.requires.names c.requires.labels
    in
    settling.first_still same callees (module_tree source) c.loop-round.round state next within c.loop-round.invariant.state made (c.in_ok-take_round.ensures.noted.still c.if-not-branch.true)
