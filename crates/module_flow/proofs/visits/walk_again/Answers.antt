use Rattle.std.proofs.Common.{◌≡◌, ◌+◌, ◌⊎◌, inl, inr, ◌<◌, ◌≤◌, drop, get_or, length, slice_get, Some, refl, ap, sym, ◌∙◌, true, false}
use Rattle.std.proofs.lemmas.List.{drop_all, drop_more}
use Rattle.std.proofs.lemmas.Option.{slice_get_read}
use Rattle.module_flow_state.specs.World.{World}
use Rattle.module_flow_state.specs.steps.Changes.{rounds_of}
use Rattle.module_flow.specs.steps.Visits.{contributions_again, is_touched, visits_again}
use Rattle.module_flow_state.specs.steps.Walking.{world_of}
use Rattle.module_flow.proofs.Candidates.{walk_ends, walk_leaves, walk_passes, walk_takes}
use Rattle.module_flow.proofs.visits.walk_again.Goals as goal
use Rattle.module_flow.proofs.visits.walk_again.Goals.{else-is_touched, then-is_touched+in_ok-walk_at, then-position-from-via-else-position-from+then-position-defs, then-position-from-via-then-position-from}

pub loop-candidate-preserved-then-position-from : goal.loop-candidate-preserved-then-position-from
loop-candidate-preserved-then-position-from c =
    let W : World = world_of c.args.context.now in
    let rounds = (rounds_of c.args.changes.now) in
    let k = c.args.round in
    let ds = c.args.defs.now in
    let i = c.loop-candidate.candidate-index in
    let p = get_or c.args.positions.now i 0 in
    let passed : (p < c.loop-candidate.from) ⊎ (length ds ≤ p) =
    elim c.then-position-from.branch [ then-position-from-via-then-position-from w ↦ inl w.if-position-from.true | then-position-from-via-else-position-from+then-position-defs w ↦ inr w.if-position-defs.true ]
    in
    walk_passes W rounds k ds (contributions_again W rounds k ds c.args.visits.now) (visits_again W rounds k ds c.args.visits.now) c.loop-candidate.visits c.loop-candidate.contributions c.loop-candidate.from (drop i c.args.positions.now)
    (drop (i + 1) c.args.positions.now) p (drop_more c.args.positions.now i 0 c.loop-candidate-test.true) passed c.loop-candidate.invariant

pub loop-candidate-preserved : goal.loop-candidate-preserved
loop-candidate-preserved c =
    let W : World = world_of c.args.context.now in
    let rounds = (rounds_of c.args.changes.now) in
    let k = c.args.round in
    let ds = c.args.defs.now in
    let i = c.loop-candidate.candidate-index in
    let p = get_or c.args.positions.now i 0 in
    let all_contributions = contributions_again W rounds k ds c.args.visits.now in
    let all_visits = visits_again W rounds k ds c.args.visits.now in
    let vs = c.loop-candidate.visits in
    let gs = c.loop-candidate.contributions in
    let from = c.loop-candidate.from in
    let left = drop i c.args.positions.now in
    let more = drop (i + 1) c.args.positions.now in
    let d = c.get-def.result.now in
    let v = c.at.result.now in
    let next = drop_more c.args.positions.now i 0 c.loop-candidate-test.true in
    let here : slice_get ds p ≡ Some d =
    slice_get_read ds (length ds) p c.index-defs-position.result refl c.if-position-defs.false c.index-defs-position.is ∙ ap Some (sym c.get-def.ensures)
    in
    elim c.if-is_touched.branch [
      | then-is_touched+in_ok-walk_at w ↦
          let touched : is_touched rounds k v ≡ true = sym c.is_touched.ensures ∙ w.if-is_touched.true in
          walk_takes W rounds k ds all_contributions all_visits vs gs from left more p next c.if-position-from.false c.if-position-defs.false c.loop-candidate.invariant d v c.if-is_touched.visits c.if-is_touched.contributions here
          c.at.ensures touched (w.contributions-is ∙ w.in_ok-walk_at.ensures.contributions) (w.visits-is ∙ w.in_ok-walk_at.ensures.visits v c.at.ensures)
      | else-is_touched w ↦
          let touched : is_touched rounds k v ≡ false = sym c.is_touched.ensures ∙ w.if-is_touched.false in
          rw (w.contributions-is, w.visits-is)
          (walk_leaves W rounds k ds all_contributions all_visits vs gs from left more p next c.if-position-from.false c.if-position-defs.false c.loop-candidate.invariant d v here c.at.ensures touched)
    ]

pub returns : goal.returns
returns c =
    let W : World = world_of c.args.context.now in
    let rounds = (rounds_of c.args.changes.now) in
    let k = c.args.round in
    let ds = c.args.defs.now in
    let i = c.loop-candidate.candidate-index in
    let end = walk_ends W rounds k ds (contributions_again W rounds k ds c.args.visits.now) (visits_again W rounds k ds c.args.visits.now) c.loop-candidate.visits c.loop-candidate.contributions c.loop-candidate.from
    (drop i c.args.positions.now) (drop_all i c.args.positions.now c.loop-candidate-test.false) c.loop-candidate.invariant in
    record { contributions = end.0; visits = end.1 }
