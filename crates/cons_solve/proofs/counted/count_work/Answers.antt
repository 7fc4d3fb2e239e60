use Rattle.std.proofs.Common.{◌<◌, ◌-◌, false, length, take, drop, arith, sym, ap, ◌∙◌}
use Rattle.std.specs.Prelude.{nat_lt}
use Rattle.std.proofs.lemmas.Bool.{ltb-false, ltb-true}
use Rattle.std.proofs.lemmas.List.{length-set}
use Rattle.cons_tree.proofs.TrailLaws.{no_answer, an_answer}
use Rattle.cons_solve.proofs.TurnTrails.{if_some, if_none, turn_pays, turn_still}
use Rattle.cons_solve.proofs.MemberTurns.{member_moves, member_dies}
use Rattle.cons_solve.proofs.WaitingLaws.{slice_told, turn_falls, rest_goes_on, rest_ends}
use Rattle.cons_solve.proofs.counted.count_work.Goals as goal

pub returns-in_default-clause-value : goal.returns-in_default-clause-value
returns-in_default-clause-value g c =
    let inv = c.turns.invariant in
    let none = if_none c.in_ok-at.field-0 _ c.in_default.is c.in_ok-at.ensures.none in
    sym inv.same ∙ rest_ends c.type_facts.ensures c.frame_law.ensures c.environment_laws.ensures.laws c.turns.queue.flags c.args.members.now c.turns.slots.types inv.long none inv.rest

pub returns-then-not-alive-clause-value : goal.returns-then-not-alive-clause-value
returns-then-not-alive-clause-value g c =
    let inv = c.turns.invariant in
    let next = if_some c.in_ok-at.field-0 c.in-Some.at _ c.in-Some.is c.in_ok-at.ensures.some in
    let low : c.in-Some.at < length c.args.members.now = omega (arith, next.0, inv.long) in
    sym inv.same ∙ member_dies c.environment_laws.ensures.laws c.args.members.now c.in-Some.at c.index-members-at.result c.turns.slots.types low c.index-members-at.is
    (no_answer c.in_ok-alive.alive _ c.solve_slots.new.slots.types c.if-not-alive.true c.in_ok-alive.ensures.value)

pub wake-requires : goal.wake-requires
wake-requires g c =
    let at = c.in-Some.at in
    let next = if_some c.in_ok-at.field-0 at _ c.in-Some.is c.in_ok-at.ensures.some in
    record {
      long = ap length next.2 ∙ length-set c.turns.queue.flags at false ∙ c.turns.invariant.long;
      queued = if_some c.in_ok-at.field-0 at _ c.in-Some.is c.in_ok-at.ensures.queued;
    }

pub turns-smaller : goal.turns-smaller
turns-smaller g c =
    let inv = c.turns.invariant in
    let at = c.in-Some.at in
    let old = c.turns.queue.flags in
    let mid = c.next.new.self.flags in
    let next = if_some c.in_ok-at.field-0 at _ c.in-Some.is c.in_ok-at.ensures.some in
    let told = take (length c.as_slice.result.now - c.len-checkpoint.result) (drop c.len-checkpoint.result c.as_slice.result.now) in
    turn_falls c.environment_laws.ensures.rank c.args.members.now old mid c.wake.new.self.flags told c.turns.slots c.solve_slots.new.slots c.len-checkpoint.result at c.in_ok-alive.ensures.trailed c.len-checkpoint.ensures
    (slice_told c.as_slice.result.now c.solve_slots.new.slots.trail c.len-checkpoint.result c.as_slice.ensures) next.2 c.in_ok-wake.ensures.quiet
    (c.in_ok-wake.ensures.woke.long ∙ ap length next.2 ∙ length-set old at false ∙ inv.long) next.1

pub turns-preserved : goal.turns-preserved
turns-preserved g c =
    let inv = c.turns.invariant in
    let at = c.in-Some.at in
    let old = c.turns.queue.flags in
    let mid = c.next.new.self.flags in
    let next = if_some c.in_ok-at.field-0 at _ c.in-Some.is c.in_ok-at.ensures.some in
    let low : at < length c.args.members.now = omega (arith, next.0, inv.long) in
    let alive = an_answer c.in_ok-alive.alive _ c.solve_slots.new.slots.types c.if-not-alive.false c.in_ok-alive.ensures.value in
    let told = take (length c.as_slice.result.now - c.len-checkpoint.result) (drop c.len-checkpoint.result c.as_slice.result.now) in
    record {
      same = member_moves c.environment_laws.ensures.laws c.args.members.now at c.index-members-at.result c.turns.slots.types c.solve_slots.new.slots.types low c.index-members-at.is alive ∙ inv.same;
      long = c.in_ok-wake.ensures.woke.long ∙ ap length next.2 ∙ length-set old at false ∙ inv.long;
      queued = c.in_ok-wake.ensures.queued;
      rest = rest_goes_on c.type_facts.ensures c.frame_law.ensures c.environment_laws.ensures.laws old mid c.wake.new.self.flags c.args.members.now c.in_ok-index.index.namings told c.turns.slots c.solve_slots.new.slots
          c.len-checkpoint.result at c.index-members-at.result low c.index-members-at.is alive c.in_ok-alive.ensures.trailed c.len-checkpoint.ensures
          (slice_told c.as_slice.result.now c.solve_slots.new.slots.trail c.len-checkpoint.result c.as_slice.ensures) c.in_ok-index.ensures next.2 c.in_ok-wake.ensures.woke inv.rest;
      cost = λ h f.
          let pays = turn_pays c.turns.slots c.solve_slots.new.slots c.in_ok-alive.ensures.trailed (nat_lt c.len-checkpoint.result c.len.result)
          (λ e. omega (arith, ltb-true c.len-checkpoint.result c.len.result e, c.len-checkpoint.ensures, c.len.ensures)) h f in
          omega (arith, pays, inv.cost h f, c.tick_where.ensures);
      since = omega (arith, inv.since, c.tick_where.ensures);
      still = λ e.
          let kept = turn_still c.turns.slots c.solve_slots.new.slots c.in_ok-alive.ensures.trailed _ _ _ (nat_lt c.len-checkpoint.result c.len.result)
          (λ s. omega (arith, ltb-false c.len-checkpoint.result c.len.result s, c.len-checkpoint.ensures, c.len.ensures)) c.tick_where.ensures inv.since e in
          kept.1 ∙ inv.still kept.0;
    }
