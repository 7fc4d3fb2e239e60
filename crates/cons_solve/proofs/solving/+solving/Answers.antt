use Rattle.std.proofs.Common.{◌≡◌, ◌<◌, ◌+◌, ◌-◌, true, false, length, get_or, take, drop, Some, None, refl, arith, sym, ap, ◌∙◌, subst}
use Rattle.std.proofs.lemmas.List.{length-set}
use Rattle.std.proofs.lemmas.Result.{IfOk-weaker}
use Rattle.type_lattice.specs.Types.{AreBelow}
use Rattle.cons_tree.specs.Constraints.{all_of, constraint, constraints}
use Rattle.cons_tree.specs.Trails.{answer, Trailed}
use Rattle.cons_solve.specs.Environments.{environments, solution}
use Rattle.cons_solve.specs.Solutions.{joined}
use Rattle.cons_solve.specs.steps.Alternatives.{Kept, best_of}
use Rattle.cons_solve.specs.steps.Passes.{unions}
use Rattle.cons_solve.specs.steps.Plans.{listing, choosing, memo, memos, Good, GoodAny}
use Rattle.cons_solve.specs.declared.plan.Plan.TheVariants as v
use Rattle.cons_tree.proofs.TrailLaws.{no_answer, an_answer, trailed_then, trailed_length}
use Rattle.cons_solve.proofs.ChoiceLaws.{between_as, same_types, same_trail, laid_below}
use Rattle.cons_solve.proofs.MemberTurns.{member_moves, member_dies}
use Rattle.cons_solve.proofs.MemberLaws.{of_part, of_all, of_any, weight, lighter_member, union_goes_on}
use Rattle.cons_solve.proofs.MemoLaws.{memo_all, memo_any, covers, each_at, each_again, any_long, any_here, any_again, none_again}
use Rattle.cons_solve.proofs.PlanLaws.{each_falls, any_falls, kept_dead, kept_solves, kept_after, joined_none}
use Rattle.cons_solve.proofs.TurnTrails.{if_some, if_none, told_back, told_within, told_front}
use Rattle.cons_solve.proofs.TurnLaws.{any_is, merged_unions, answer_below}
use Rattle.cons_solve.proofs.WaitingLaws.{slice_told, turn_falls, rest_goes_on, rest_ends}
use Rattle.cons_solve.proofs.solving.+solving.Goals as goal
use Rattle.cons_solve.proofs.solving.+solving.Goals.{join_each-in-None, join_each-in-Some+in_ok-alive-in-Some+in_ok-note-in-Some+in_ok-best-in-Some}

-- ---- the three kinds

pub solve_plan-returns-in_ok-alive-in-Part-clause-value : goal.solve_plan-returns-in_ok-alive-in-Part-clause-value
solve_plan-returns-in_ok-alive-in-Part-clause-value t c =
    ap (λ k. solution k c.args.slots.now.types) (of_part c.args.c.now c.in-Part.part c.in-Part.is) ∙ c.in_ok-alive-in-Part.ensures.value

pub solve_plan-returns-in_ok-alive-in-Part-clause-good : goal.solve_plan-returns-in_ok-alive-in-Part-clause-good
solve_plan-returns-in_ok-alive-in-Part-clause-good t c = λ e. subst (λ k. Good k (memo c.args.plan) c.settle.new.slots.types) (sym (of_part c.args.c.now c.in-Part.part c.in-Part.is)) tt

pub solve_plan-work-requires : goal.solve_plan-work-requires
solve_plan-work-requires t c =
    let ms = c.as_slice.result.now in
    let ns = c.as_slice-in-All.result.now in
    let xs = c.args.slots.now.types in
    let its = c.in_ok-plans-in-All in
    let is = of_all c.args.c.now c.in-All.members ms c.in-All.is c.as_slice.ensures in
    let good = its.ensures xs (subst (λ k. Good k (memo c.args.plan) xs) is c.requires) in
    let here = subst (λ l. Good (all_of (constraints l)) (listing (memos its.plans) its.index.namings) xs) (c.as_slice.ensures ∙ sym c.as_slice-in-All.ensures) good in
    (omega (arith, c.decreases, ap weight (of_all c.args.c.now c.in-All.members ns c.in-All.is c.as_slice-in-All.ensures)), (covers ns its.index.namings here.0, here.1))

pub solve_plan-returns-in_ok-alive-in-All-clause-value : goal.solve_plan-returns-in_ok-alive-in-All-clause-value
solve_plan-returns-in_ok-alive-in-All-clause-value t c =
    ap (λ k. solution k c.args.slots.now.types) (of_all c.args.c.now c.in-All.members c.as_slice-in-All.result.now c.in-All.is c.as_slice-in-All.ensures) ∙ c.in_ok-alive-in-All.ensures.value

pub solve_plan-returns-in_ok-alive-in-All-clause-good : goal.solve_plan-returns-in_ok-alive-in-All-clause-good
solve_plan-returns-in_ok-alive-in-All-clause-good t c =
    let ms = c.as_slice.result.now in
    let ns = c.as_slice-in-All.result.now in
    let xs = c.args.slots.now.types in
    let ys = c.work.new.slots.types in
    let its = c.in_ok-plans-in-All in
    let is = of_all c.args.c.now c.in-All.members ms c.in-All.is c.as_slice.ensures in
    let also = of_all c.args.c.now c.in-All.members ns c.in-All.is c.as_slice-in-All.ensures in
    let good = its.ensures xs (subst (λ k. Good k (memo c.args.plan) xs) is c.requires) in
    let here = subst (λ l. Good (all_of (constraints l)) (listing (memos its.plans) its.index.namings) xs) (c.as_slice.ensures ∙ sym c.as_slice-in-All.ensures) good in
    λ e. subst (λ m. Good (constraint c.args.c.now) m ys) (sym (memo_all _ c.work.new.plans its.index refl))
    (subst (λ k. Good k (listing (memos c.work.new.plans) its.index.namings) ys) (sym also) (here.0, c.in_ok-alive-in-All.ensures.good e))

pub solve_plan-join_each-requires : goal.solve_plan-join_each-requires
solve_plan-join_each-requires t c =
    let ms = c.as_slice-in-Any.result.now in
    let ns = c.as_slice-in-Any-2.result.now in
    let xs = c.args.slots.now.types in
    let its = c.in_ok-plans-in-Any in
    let is = of_any c.args.c.now c.in-Any.members ms c.in-Any.is c.as_slice-in-Any.ensures in
    let good = its.ensures xs (subst (λ k. Good k (memo c.args.plan) xs) is c.requires) in (
      omega (arith, c.decreases, ap weight (of_any c.args.c.now c.in-Any.members ns c.in-Any.is c.as_slice-in-Any-2.ensures)),
      subst (λ l. GoodAny (constraints l) (memos its.plans) its.kept xs) (c.as_slice-in-Any.ensures ∙ sym c.as_slice-in-Any-2.ensures) good,
    )

pub solve_plan-returns-in_ok-alive-in-Any-clause-value : goal.solve_plan-returns-in_ok-alive-in-Any-clause-value
solve_plan-returns-in_ok-alive-in-Any-clause-value t c =
    let ns = c.as_slice-in-Any-2.result.now in
    let xs = c.args.slots.now.types in
    ap (λ k. solution k xs) (of_any c.args.c.now c.in-Any.members ns c.in-Any.is c.as_slice-in-Any-2.ensures) ∙ any_is c.environment_laws.ensures.laws (constraints ns) xs ∙ c.in_ok-alive-in-Any.ensures.value

pub solve_plan-returns-in_ok-alive-in-Any-clause-good : goal.solve_plan-returns-in_ok-alive-in-Any-clause-good
solve_plan-returns-in_ok-alive-in-Any-clause-good t c =
    let ns = c.as_slice-in-Any-2.result.now in
    let ys = c.join_each.new.slots.types in
    let also = of_any c.args.c.now c.in-Any.members ns c.in-Any.is c.as_slice-in-Any-2.ensures in
    λ e. subst (λ m. Good (constraint c.args.c.now) m ys) (sym (memo_any _ c.join_each.new.plans c.join_each.new.kept refl))
    (subst (λ k. Good k (choosing (memos c.join_each.new.plans) c.join_each.new.kept) ys) (sym also) (c.in_ok-alive-in-Any.ensures.good e))

-- ---- All

pub work-solve_plan-requires : goal.work-solve_plan-requires
work-solve_plan-requires t c =
    let inv = c.turns.invariant in
    let at = c.in-Some.at in
    let x = c.index-members-at.result in
    let next = if_some c.in_ok-at.field-0 at _ c.in-Some.is c.in_ok-at.ensures.some in
    let low : at < length c.args.members.now = omega (arith, next.0, inv.long) in (
      omega (arith, c.decreases, lighter_member c.args.members.now at x low c.index-members-at.is),
      each_at c.args.members.now c.turns.plans at x c.take_plan-former.result c.turns.slots.types inv.good low c.index-members-at.is c.take_plan-former.ensures.taken,
    )

pub work-returns-in_default-clause-value : goal.work-returns-in_default-clause-value
work-returns-in_default-clause-value t c =
    let inv = c.turns.invariant in
    let none = if_none c.in_ok-at.field-0 _ c.in_default.is c.in_ok-at.ensures.none in
    sym inv.same ∙ rest_ends c.type_facts.ensures c.frame_law.ensures c.environment_laws.ensures.laws c.turns.queue.flags c.args.members.now c.turns.slots.types inv.long none inv.rest

pub work-returns-then-not-alive-clause-value : goal.work-returns-then-not-alive-clause-value
work-returns-then-not-alive-clause-value t c =
    let inv = c.turns.invariant in
    let next = if_some c.in_ok-at.field-0 c.in-Some.at _ c.in-Some.is c.in_ok-at.ensures.some in
    let low : c.in-Some.at < length c.args.members.now = omega (arith, next.0, inv.long) in
    sym inv.same ∙ member_dies c.environment_laws.ensures.laws c.args.members.now c.in-Some.at c.index-members-at.result c.turns.slots.types low c.index-members-at.is
    (no_answer c.in_ok-alive.alive _ c.solve_plan.new.slots.types c.if-not-alive.true c.in_ok-alive.ensures.value)

pub work-returns-then-not-alive-clause-trailed : goal.work-returns-then-not-alive-clause-trailed
work-returns-then-not-alive-clause-trailed t c =
    trailed_then c.args.slots.now c.turns.slots c.solve_plan.new.slots c.turns.invariant.trailed c.in_ok-alive.ensures.trailed

pub work-wake-requires : goal.work-wake-requires
work-wake-requires t c =
    let at = c.in-Some.at in
    let next = if_some c.in_ok-at.field-0 at _ c.in-Some.is c.in_ok-at.ensures.some in
    record {
      long = ap length next.2 ∙ length-set c.turns.queue.flags at false ∙ c.turns.invariant.long;
      queued = if_some c.in_ok-at.field-0 at _ c.in-Some.is c.in_ok-at.ensures.queued;
    }

pub work-turns-smaller : goal.work-turns-smaller
work-turns-smaller t c =
    let inv = c.turns.invariant in
    let at = c.in-Some.at in
    let old = c.turns.queue.flags in
    let mid = c.next.new.self.flags in
    let next = if_some c.in_ok-at.field-0 at _ c.in-Some.is c.in_ok-at.ensures.some in
    let told = take (length c.as_slice.result.now - c.len-checkpoint.result) (drop c.len-checkpoint.result c.as_slice.result.now) in
    turn_falls c.environment_laws.ensures.rank c.args.members.now old mid c.wake.new.self.flags told c.turns.slots c.solve_plan.new.slots c.len-checkpoint.result at c.in_ok-alive.ensures.trailed c.len-checkpoint.ensures
    (slice_told c.as_slice.result.now c.solve_plan.new.slots.trail c.len-checkpoint.result c.as_slice.ensures) next.2 c.in_ok-wake.ensures.quiet
    (c.in_ok-wake.ensures.woke.long ∙ ap length next.2 ∙ length-set old at false ∙ inv.long) next.1

pub work-turns-preserved : goal.work-turns-preserved
work-turns-preserved t c =
    let inv = c.turns.invariant in
    let facts = c.type_facts.ensures in
    let laws = c.environment_laws.ensures.laws in
    let ms = c.args.members.now in
    let at = c.in-Some.at in
    let x = c.index-members-at.result in
    let xs = c.turns.slots.types in
    let ys = c.solve_plan.new.slots.types in
    let old = c.turns.queue.flags in
    let mid = c.next.new.self.flags in
    let its = c.in_ok-alive in
    let next = if_some c.in_ok-at.field-0 at _ c.in-Some.is c.in_ok-at.ensures.some in
    let low : at < length ms = omega (arith, next.0, inv.long) in
    let alive = an_answer its.alive _ ys c.if-not-alive.false its.ensures.value in
    let under = answer_below laws (constraint x) xs ys its.alive its.ensures.value c.if-not-alive.false in
    let told = take (length c.as_slice.result.now - c.len-checkpoint.result) (drop c.len-checkpoint.result c.as_slice.result.now) in
    record {
      same = member_moves laws ms at x xs ys low c.index-members-at.is alive ∙ inv.same;
      trailed = trailed_then c.args.slots.now c.turns.slots c.solve_plan.new.slots inv.trailed its.ensures.trailed;
      long = c.in_ok-wake.ensures.woke.long ∙ ap length next.2 ∙ length-set old at false ∙ inv.long;
      queued = c.in_ok-wake.ensures.queued;
      rest = rest_goes_on facts c.frame_law.ensures laws old mid c.wake.new.self.flags ms c.args.index.now.namings told c.turns.slots c.solve_plan.new.slots c.len-checkpoint.result at x low c.index-members-at.is alive its.ensures.trailed
          c.len-checkpoint.ensures (slice_told c.as_slice.result.now c.solve_plan.new.slots.trail c.len-checkpoint.result c.as_slice.ensures) c.requires.covers next.2 c.in_ok-wake.ensures.woke inv.rest;
      good = each_again ms c.turns.plans c.take_plan-former.new.plans c.put.new.items at x v.Blank its.plan ys c.take_plan-former.ensures.left c.put.ensures
          (each_falls facts laws (constraints ms) (memos c.turns.plans) xs ys under inv.good) c.index-members-at.is (its.ensures.good c.if-not-alive.false);
    }

-- ---- one alternative

pub solve_on-solve_plan-requires : goal.solve_on-solve_plan-requires
solve_on-solve_plan-requires t c = (omega (arith, c.decreases), subst (Good (constraint c.args.c.now) (memo c.args.plan)) (sym c.in_ok-lower_kept.ensures.value) c.requires.2)

pub solve_on-returns-clause-value : goal.solve_on-returns-clause-value
solve_on-returns-clause-value t c =
    let k = constraint c.args.c.now in
    let xs = c.args.slots.now.types in
    let ys = c.solve_plan.new.slots.types in
    IfOk-weaker c.solve_plan.result (λ r. solution k c.lower_kept.new.slots.types ≡ answer r.0 ys) (λ r. solution k xs ≡ answer r.0 ys)
    (λ r h. sym (kept_solves c.type_facts.ensures c.environment_laws.ensures.laws k c.args.lows (Good k (memo c.args.plan)) xs c.requires) ∙ ap (solution k) (sym c.in_ok-lower_kept.ensures.value) ∙ h) c.solve_plan.ensures.value

pub solve_on-returns-clause-trailed : goal.solve_on-returns-clause-trailed
solve_on-returns-clause-trailed t c =
    IfOk-weaker c.solve_plan.result (λ _. Trailed c.lower_kept.new.slots c.solve_plan.new.slots) (λ _. Trailed c.args.slots.now c.solve_plan.new.slots)
    (λ _ h. trailed_then c.args.slots.now c.lower_kept.new.slots c.solve_plan.new.slots c.in_ok-lower_kept.ensures.trailed h) c.solve_plan.ensures.trailed

-- ---- Any

pub join_each-loop-at-init : goal.join_each-loop-at-init
join_each-loop-at-init t c = record {
  types = refl;
  trail = refl;
  best = tt;
  good = c.requires;
  rest = merged_unions c.environment_laws.ensures.laws (constraints c.args.members.now) c.args.slots.now.types;
}

pub join_each-replace-requires : goal.join_each-replace-requires
join_each-replace-requires t c =
    any_long c.args.members.now c.loop-at.plans c.loop-at.kept c.loop-at.at c.loop-at.slots.types c.loop-at.invariant.good c.loop-at-test.true

pub join_each-solve_on-requires : goal.join_each-solve_on-requires
join_each-solve_on-requires t c =
    let x = c.index-members-at.result in (
      omega (arith, c.decreases, lighter_member c.args.members.now c.loop-at.at x c.loop-at-test.true c.index-members-at.is),
      any_here c.args.members.now c.loop-at.plans c.loop-at.kept c.loop-at.at x c.take_plan-former.result
          (Some c.in-Some.lows) c.loop-at.slots.types c.loop-at.invariant.good c.loop-at-test.true c.index-members-at.is c.take_plan-former.ensures.taken c.in-Some.ensures.before,
    )

pub join_each-gather-requires-clause-below : goal.join_each-gather-requires-clause-below
join_each-gather-requires-clause-below t c =
    let inv = c.loop-at.invariant in
    let its = c.in_ok-alive-in-Some in
    let ys = c.solve_on.new.slots.types in
    let marked = c.len-checkpoint.ensures ∙ ap length (sym inv.trail) in
    let back = told_back c.loop-at.slots c.solve_on.new.slots c.len-checkpoint.result its.ensures.trailed marked in
    λ e. subst (AreBelow ys) (sym back) (answer_below c.environment_laws.ensures.laws (constraint c.index-members-at.result) c.loop-at.slots.types ys its.alive its.ensures.value e)

pub join_each-loop-at-preserved : goal.join_each-loop-at-preserved
join_each-loop-at-preserved t c =
    let inv = c.loop-at.invariant in
    let facts = c.type_facts.ensures in
    let laws = c.environment_laws.ensures.laws in
    let ms = c.args.members.now in
    let at = c.loop-at.at in
    let x = c.index-members-at.result in
    let k = constraint x in
    let s = c.loop-at.slots in
    let xs = s.types in
    let plans = c.loop-at.plans in
    let kept = c.loop-at.kept in
    let best = c.loop-at.best in
    let new = c.match-replace in
    let low = c.loop-at-test.true in
    let cs = constraints ms in
    let left = constraints (drop (at + 1) ms) in
    let whole = unions environments cs c.args.slots.now.types in
    elim c.match-replace.branch [
      | join_each-in-None w ↦
          let is = none_again kept c.replace.new.self at w.in-None.ensures.before c.replace.ensures.after in
          let plan = get_or plans at v.Blank in
          let dead = kept_dead facts laws k (Good k (memo plan)) xs (any_here ms plans kept at x plan None xs inv.good low c.index-members-at.is refl w.in-None.ensures.before) in
          let same = same_types new.slots s w.slots-is in
          let now = between_as cs left whole best new.best plans new.plans kept new.kept xs new.slots.types w.best-is w.plans-is (w.kept-is ∙ is) same (record {
            kept = inv.best;
            good = inv.good;
            rest = union_goes_on ms at x xs (best_of best xs) None (best_of best xs) whole low c.index-members-at.is dead (joined_none (best_of best xs)) inv.rest;
          }) in
          record {
            types = same ∙ inv.types;
            trail = same_trail new.slots s w.slots-is ∙ inv.trail;
            best = now.kept;
            good = now.good;
            rest = now.rest;
          }
      | join_each-in-Some+in_ok-alive-in-Some+in_ok-note-in-Some+in_ok-best-in-Some w ↦
          let its = w.in_ok-alive-in-Some in
          let after = w.in_ok-best-in-Some.best in
          let u = w.solve_on.new.slots in
          let ys = u.types in
          let told = drop c.len-checkpoint.result u.trail in
          let marked = c.len-checkpoint.ensures ∙ ap length (sym inv.trail) in
          let back = told_back s u c.len-checkpoint.result its.ensures.trailed marked in
          let within = told_within s u c.len-checkpoint.result its.ensures.trailed marked in
          let front = told_front s u c.len-checkpoint.result its.ensures.trailed marked in
          let same = same_types new.slots w.undo.new.self w.slots-is ∙ w.undo.ensures.types ∙ back in
          let noted = kept_after facts laws k (memo its.plan) told xs ys its.alive w.in_ok-note-in-Some.field-0 its.ensures.value back within (sym (trailed_length s u its.ensures.trailed)) its.ensures.good w.in_ok-note-in-Some.ensures in
          let one = subst (λ b. joined environments (best_of best b) (answer its.alive ys) ≡ best_of after b) back w.in_ok-best-in-Some.ensures.value in
          let now = between_as cs left whole after new.best w.put.new.items new.plans w.put-in-Some.new.items new.kept xs new.slots.types w.best-is w.plans-is w.kept-is same (record {
            kept = subst (Kept after) back w.in_ok-best-in-Some.ensures.kept;
            good = any_again ms plans w.take_plan-former.new.plans w.put.new.items kept c.replace.new.self w.put-in-Some.new.items at x v.Blank its.plan None w.in_ok-note-in-Some.field-0 xs w.take_plan-former.ensures.left w.put.ensures
                c.replace.ensures.after w.put-in-Some.ensures inv.good c.index-members-at.is noted;
            rest = union_goes_on ms at x xs (best_of best xs) (answer its.alive ys) (best_of after xs) whole low c.index-members-at.is its.ensures.value one inv.rest;
          }) in
          record {
            types = same ∙ inv.types;
            trail = same_trail new.slots w.undo.new.self w.slots-is ∙ w.undo.ensures.trail ∙ front ∙ inv.trail;
            best = now.kept;
            good = now.good;
            rest = now.rest;
          }
    ]

pub join_each-returns-clause-good : goal.join_each-returns-clause-good
join_each-returns-clause-good t c =
    let inv = c.loop-at.invariant in
    let xs = c.loop-at.slots.types in
    let ys = c.apply_join.new.slots.types in
    let cs = constraints c.args.members.now in
    IfOk-weaker c.apply_join.result (λ alive. best_of c.loop-at.best xs ≡ answer alive ys) (λ alive. alive ≡ true
    → GoodAny cs (memos c.loop-at.plans) c.loop-at.kept ys) (λ alive h e. any_falls c.type_facts.ensures c.environment_laws.ensures.laws cs (memos c.loop-at.plans) c.loop-at.kept xs ys
    (laid_below c.loop-at.best xs ys alive inv.best h e) inv.good) c.apply_join.ensures.value
