use Rattle.std.proofs.Common.{◌≡◌, ◌<◌, ◌+◌, true, length, drop, refl, arith, sym, ap, ◌∙◌, subst}
use Rattle.std.specs.Prelude.{IfOk}
use Rattle.std.proofs.lemmas.Result.{IfOk-weaker}
use Rattle.type_lattice.specs.Types.{AreBelow}
use Rattle.cons_tree.specs.Constraints.{all_of, any_of, constraint, constraints}
use Rattle.cons_tree.specs.Environments.{on_types}
use Rattle.cons_tree.specs.Trails.{answer, Trailed}
use Rattle.cons_solve.specs.Environments.{environments, solution}
use Rattle.cons_solve.specs.Solutions.{joined}
use Rattle.cons_solve.specs.steps.Alternatives.{Kept, best_of}
use Rattle.cons_solve.specs.steps.Passes.{unions, merged}
use Rattle.cons_tree.proofs.TrailLaws.{no_answer, an_answer, trailed_then, trailed_length}
use Rattle.cons_solve.proofs.ChoiceLaws.{laid_below}
use Rattle.cons_solve.proofs.MemberLaws.{of_part, of_all, of_any, weight, lighter_member, end_of, union_goes_on}
use Rattle.cons_solve.proofs.MemberTurns.{member_moves, member_dies}
use Rattle.cons_solve.proofs.TurnTrails.{told_back, told_within, told_front, trail_length, trailed_falls}
use Rattle.cons_solve.proofs.TurnLaws.{any_is, merged_unions, answer_below}
use Rattle.table_verify_sweeps.specs.declared.kept.Kept.TheVariants as v
use Rattle.table_verify_sweeps.specs.steps.Memos.{solved, memo, memos, AreRight, IsRight, MembersRight}
use Rattle.table_verify_sweeps.specs.steps.Turns.{position_of}
use Rattle.table_verify_sweeps.proofs.KeptLaws.{of_dead, right_by, right_at, right_again, each_falls, dead_none, opened_solves, right_new}
use Rattle.table_verify_sweeps.proofs.SweepLaws.{position_low, stay_on, all_stay}
use Rattle.table_verify_sweeps.proofs.sweeps.+sweeping.Goals as goal

-- ---- a constraint, on from what is kept of it

pub solve-returns-in-None-clause-value : goal.solve-returns-in-None-clause-value
solve-returns-in-None-clause-value t c =
    dead_none c.type_facts.ensures c.environment_laws.ensures.laws (constraint c.args.c.now) (memo c.args.kept) c.args.slots.now.types c.in-None.ensures.none c.requires

pub solve-returns-in-None-clause-right : goal.solve-returns-in-None-clause-right
solve-returns-in-None-clause-right t c =
    subst (λ m. IsRight (constraint c.args.c.now) m c.args.slots.now.types) (c.in-None.ensures.none ∙ sym (of_dead v.Dead refl)) c.requires

pub solve-lower_all-requires : goal.solve-lower_all-requires
solve-lower_all-requires t c =
    let k = constraint c.args.c.now in
    let xs = c.args.slots.now.types in
    (right_by k (solved c.in-Some.lows (memos c.in-Some.inner)) xs (c.in-Some.ensures.some k xs c.requires)).0

pub solve-settle_kind-requires : goal.solve-settle_kind-requires
solve-settle_kind-requires t c =
    let k = constraint c.args.c.now in
    let xs = c.args.slots.now.types in
    let r = right_by k (solved c.in-Some.lows (memos c.in-Some.inner)) xs (c.in-Some.ensures.some k xs c.requires) in
    (omega (arith, c.decreases), subst (MembersRight k (memos c.in-Some.inner)) (sym c.in_ok-lower_all-in-Some.ensures.value) r.2)

pub solve-close-requires : goal.solve-close-requires
solve-close-requires t c =
    let s = c.args.slots.now in
    let u = c.settle_kind.new.slots in
    let l = trail_length s u (trailed_then s c.lower_all.new.slots u c.in_ok-lower_all-in-Some.ensures.trailed c.in_ok-alive-in-Some.ensures.trailed) in
    omega (arith, l, c.len-checkpoint.ensures)

pub solve-returns-in_ok-after-in-Some-clause-value : goal.solve-returns-in_ok-after-in-Some-clause-value
solve-returns-in_ok-after-in-Some-clause-value t c =
    let k = constraint c.args.c.now in
    let xs = c.args.slots.now.types in
    let r = c.in-Some.ensures.some k xs c.requires in
    sym (opened_solves c.type_facts.ensures c.environment_laws.ensures.laws k c.in-Some.lows (memos c.in-Some.inner) xs r) ∙ ap (solution k) (sym c.in_ok-lower_all-in-Some.ensures.value) ∙ c.in_ok-alive-in-Some.ensures.value

pub solve-returns-in_ok-after-in-Some-clause-trailed : goal.solve-returns-in_ok-after-in-Some-clause-trailed
solve-returns-in_ok-after-in-Some-clause-trailed t c =
    trailed_then c.args.slots.now c.lower_all.new.slots c.settle_kind.new.slots c.in_ok-lower_all-in-Some.ensures.trailed c.in_ok-alive-in-Some.ensures.trailed

pub solve-returns-in_ok-after-in-Some-clause-right : goal.solve-returns-in_ok-after-in-Some-clause-right
solve-returns-in_ok-after-in-Some-clause-right t c =
    let facts = c.type_facts.ensures in
    let laws = c.environment_laws.ensures.laws in
    let k = constraint c.args.c.now in
    let s = c.args.slots.now in
    let u = c.settle_kind.new.slots in
    let m = c.len-checkpoint.result in
    let its = c.in_ok-alive-in-Some in
    let r = c.in-Some.ensures.some k s.types c.requires in
    let trailed = trailed_then s c.lower_all.new.slots u c.in_ok-lower_all-in-Some.ensures.trailed its.ensures.trailed in
    let marked = c.len-checkpoint.ensures in
    let value = sym (opened_solves facts laws k c.in-Some.lows (memos c.in-Some.inner) s.types r) ∙ ap (solution k) (sym c.in_ok-lower_all-in-Some.ensures.value) ∙ its.ensures.value in
    c.in_ok-after-in-Some.ensures k s.types (right_new facts laws k (memos c.settle_kind.new.inner) (drop m u.trail) s.types u.types its.alive value (told_back s u m trailed marked) (told_within s u m trailed marked)
    (sym (trailed_length s u trailed)) its.ensures.right)

-- ---- the three kinds

pub settle_kind-returns-in-Part-clause-value : goal.settle_kind-returns-in-Part-clause-value
settle_kind-returns-in-Part-clause-value t c =
    let is = of_part c.args.c.now c.in-Part.part c.in-Part.is in
    subst (λ k. IfOk c.settle_part.result (λ alive. solution k c.args.slots.now.types ≡ answer alive c.settle_part.new.slots.types)) (sym is) c.settle_part.ensures.value

pub settle_kind-returns-in-Part-clause-right : goal.settle_kind-returns-in-Part-clause-right
settle_kind-returns-in-Part-clause-right t c =
    let is = of_part c.args.c.now c.in-Part.part c.in-Part.is in
    let ys = c.settle_part.new.slots.types in
    IfOk-weaker c.settle_part.result (λ _. Trailed c.args.slots.now c.settle_part.new.slots) (λ alive. alive ≡ true
    → MembersRight (constraint c.args.c.now) (memos c.args.inner.now) ys) (λ alive h e. subst (λ k. MembersRight k (memos c.args.inner.now) ys) (sym is) tt) c.settle_part.ensures.trailed

pub settle_kind-settle_all-requires : goal.settle_kind-settle_all-requires
settle_kind-settle_all-requires t c =
    let is = of_all c.args.c.now c.in-All.members c.as_slice.result.now c.in-All.is c.as_slice.ensures in
    (omega (arith, c.decreases, ap weight is), subst (λ k. MembersRight k (memos c.args.inner.now) c.args.slots.now.types) is c.requires)

pub settle_kind-returns-in-All-clause-value : goal.settle_kind-returns-in-All-clause-value
settle_kind-returns-in-All-clause-value t c =
    let is = of_all c.args.c.now c.in-All.members c.as_slice.result.now c.in-All.is c.as_slice.ensures in
    subst (λ k. IfOk c.settle_all.result (λ alive. solution k c.args.slots.now.types ≡ answer alive c.settle_all.new.slots.types)) (sym is) c.settle_all.ensures.value

pub settle_kind-returns-in-All-clause-right : goal.settle_kind-returns-in-All-clause-right
settle_kind-returns-in-All-clause-right t c =
    let is = of_all c.args.c.now c.in-All.members c.as_slice.result.now c.in-All.is c.as_slice.ensures in
    subst (λ k. IfOk c.settle_all.result (λ alive. alive ≡ true → MembersRight k (memos c.settle_all.new.kept) c.settle_all.new.slots.types)) (sym is) c.settle_all.ensures.right

pub settle_kind-join_all-requires : goal.settle_kind-join_all-requires
settle_kind-join_all-requires t c =
    let is = of_any c.args.c.now c.in-Any.members c.as_slice-in-Any.result.now c.in-Any.is c.as_slice-in-Any.ensures in
    (omega (arith, c.decreases, ap weight is), subst (λ k. MembersRight k (memos c.args.inner.now) c.args.slots.now.types) is c.requires)

pub settle_kind-returns-in-Any-clause-value : goal.settle_kind-returns-in-Any-clause-value
settle_kind-returns-in-Any-clause-value t c =
    let is = of_any c.args.c.now c.in-Any.members c.as_slice-in-Any.result.now c.in-Any.is c.as_slice-in-Any.ensures in
    subst (λ k. IfOk c.join_all.result (λ alive. solution k c.args.slots.now.types ≡ answer alive c.join_all.new.slots.types)) (sym is) c.join_all.ensures.value

pub settle_kind-returns-in-Any-clause-right : goal.settle_kind-returns-in-Any-clause-right
settle_kind-returns-in-Any-clause-right t c =
    let is = of_any c.args.c.now c.in-Any.members c.as_slice-in-Any.result.now c.in-Any.is c.as_slice-in-Any.ensures in
    subst (λ k. IfOk c.join_all.result (λ alive. alive ≡ true → MembersRight k (memos c.join_all.new.kept) c.join_all.new.slots.types)) (sym is) c.join_all.ensures.right

-- ---- All

pub settle_all-sweep-requires : goal.settle_all-sweep-requires
settle_all-sweep-requires t c = (omega (arith, c.decreases), c.sweeps.invariant.right)

pub settle_all-returns-then-not-alive-clause-value : goal.settle_all-returns-then-not-alive-clause-value
settle_all-returns-then-not-alive-clause-value t c =
    let all = all_of (constraints c.args.members.now) in
    sym c.sweeps.invariant.same ∙ sym c.in_ok-alive.ensures.value ∙ ap (λ b. on_types (answer b c.sweep.new.slots.types) (solution all)) c.if-not-alive.true

pub settle_all-returns-then-not-alive-clause-trailed : goal.settle_all-returns-then-not-alive-clause-trailed
settle_all-returns-then-not-alive-clause-trailed t c =
    trailed_then c.args.slots.now c.sweeps.slots c.sweep.new.slots c.sweeps.invariant.trailed c.in_ok-alive.ensures.trailed

pub settle_all-returns-then-len-checkpoint-clause-value : goal.settle_all-returns-then-len-checkpoint-clause-value
settle_all-returns-then-len-checkpoint-clause-value t c =
    let all = all_of (constraints c.args.members.now) in
    let its = c.in_ok-alive.ensures in
    sym c.sweeps.invariant.same ∙ sym its.value ∙ ap (λ b. on_types (answer b c.sweep.new.slots.types) (solution all)) c.if-not-alive.false
    ∙ its.settled c.if-not-alive.false (omega (arith, c.len.ensures, c.len-checkpoint.ensures, c.if-len-checkpoint.true))

pub settle_all-returns-then-len-checkpoint-clause-right : goal.settle_all-returns-then-len-checkpoint-clause-right
settle_all-returns-then-len-checkpoint-clause-right t c = λ e. c.in_ok-alive.ensures.right c.if-not-alive.false

pub settle_all-sweeps-preserved : goal.settle_all-sweeps-preserved
settle_all-sweeps-preserved t c =
    let all = all_of (constraints c.args.members.now) in
    let its = c.in_ok-alive.ensures in
    record {
      same = sym (ap (λ b. on_types (answer b c.sweep.new.slots.types) (solution all)) c.if-not-alive.false) ∙ its.value ∙ c.sweeps.invariant.same;
      trailed = trailed_then c.args.slots.now c.sweeps.slots c.sweep.new.slots c.sweeps.invariant.trailed its.trailed;
      right = its.right c.if-not-alive.false;
    }

pub settle_all-sweeps-smaller : goal.settle_all-sweeps-smaller
settle_all-sweeps-smaller t c =
    trailed_falls c.sweeps.slots c.sweep.new.slots c.environment_laws.ensures.rank c.in_ok-alive.ensures.trailed (λ e. c.if-len-checkpoint.false (omega (arith, e, c.len.ensures, c.len-checkpoint.ensures)))

-- ---- one sweep

pub sweep-solve-requires : goal.sweep-solve-requires
sweep-solve-requires t c =
    let ms = c.args.members.now in
    let at = c.position-at.result in
    let x = c.index-members-at.result in
    let is : at ≡ position_of c.args.forward (length ms) c.loop-turn.turn = c.position-at.ensures in
    let low : at < length ms = subst (λ p. p < length ms) (sym is) (position_low c.args.forward (length ms) c.loop-turn.turn c.loop-turn-test.true) in
    let less = lighter_member ms at x low c.index-members-at.is in
    (omega (arith, c.decreases, less), right_at ms c.loop-turn.kept at x c.take.result c.loop-turn.slots.types c.loop-turn.invariant.right low c.index-members-at.is c.take.ensures.taken)

pub sweep-returns-then-not-alive-clause-value : goal.sweep-returns-then-not-alive-clause-value
sweep-returns-then-not-alive-clause-value t c =
    let ms = c.args.members.now in
    let at = c.position-at.result in
    let is : at ≡ position_of c.args.forward (length ms) c.loop-turn.turn = c.position-at.ensures in
    let low : at < length ms = subst (λ p. p < length ms) (sym is) (position_low c.args.forward (length ms) c.loop-turn.turn c.loop-turn-test.true) in
    sym (member_dies c.environment_laws.ensures.laws ms at c.index-members-at.result c.loop-turn.slots.types low c.index-members-at.is
    (no_answer c.in_ok-alive.alive _ c.solve.new.slots.types c.if-not-alive.true c.in_ok-alive.ensures.value)) ∙ c.loop-turn.invariant.same

pub sweep-returns-then-not-alive-clause-trailed : goal.sweep-returns-then-not-alive-clause-trailed
sweep-returns-then-not-alive-clause-trailed t c =
    trailed_then c.args.slots.now c.loop-turn.slots c.solve.new.slots c.loop-turn.invariant.trailed c.in_ok-alive.ensures.trailed

pub sweep-loop-turn-preserved : goal.sweep-loop-turn-preserved
sweep-loop-turn-preserved t c =
    let inv = c.loop-turn.invariant in
    let laws = c.environment_laws.ensures.laws in
    let ms = c.args.members.now in
    let forward = c.args.forward in
    let turn = c.loop-turn.turn in
    let at = c.position-at.result in
    let x = c.index-members-at.result in
    let s = c.loop-turn.slots in
    let u = c.solve.new.slots in
    let its = c.in_ok-alive in
    let is : at ≡ position_of forward (length ms) turn = c.position-at.ensures in
    let low : at < length ms = subst (λ p. p < length ms) (sym is) (position_low forward (length ms) turn c.loop-turn-test.true) in
    let alive = an_answer its.alive _ u.types c.if-not-alive.false its.ensures.value in
    let under = answer_below laws (constraint x) s.types u.types its.alive its.ensures.value c.if-not-alive.false in
    let again = right_again ms c.loop-turn.kept c.take.new.kept c.put.new.kept at x v.Blank its.after s.types c.take.ensures.left c.put.ensures inv.right c.index-members-at.is its.ensures.right in
    record {
      same = member_moves laws ms at x s.types u.types low c.index-members-at.is alive ∙ inv.same;
      trailed = trailed_then c.args.slots.now s u inv.trailed its.ensures.trailed;
      right = each_falls c.type_facts.ensures laws (constraints ms) (memos c.put.new.kept) s.types u.types under again;
      stays = stay_on forward ms turn at x c.args.slots.now s u inv.trailed its.ensures.trailed is low c.index-members-at.is alive inv.stays;
    }

pub sweep-returns-clause-settled : goal.sweep-returns-clause-settled
sweep-returns-clause-settled t c =
    λ e same. all_stay c.environment_laws.ensures.laws c.args.forward c.args.members.now c.loop-turn.turn c.loop-turn.slots.types (omega (arith, c.loop-turn-test.false)) (c.loop-turn.invariant.stays same)

-- ---- Any

pub join_all-loop-at-init : goal.join_all-loop-at-init
join_all-loop-at-init t c = record {
  types = refl;
  trail = refl;
  best = tt;
  right = c.in_ok-lengthen.ensures (constraints c.args.members.now) c.args.slots.now.types c.requires;
  rest = merged_unions c.environment_laws.ensures.laws (constraints c.args.members.now) c.args.slots.now.types;
}

pub join_all-solve-requires : goal.join_all-solve-requires
join_all-solve-requires t c =
    let ms = c.args.members.now in
    let at = c.loop-at.at in
    let x = c.index-members-at.result in
    let less = lighter_member ms at x c.loop-at-test.true c.index-members-at.is in
    (omega (arith, c.decreases, less), right_at ms c.loop-at.kept at x c.take.result c.loop-at.slots.types c.loop-at.invariant.right c.loop-at-test.true c.index-members-at.is c.take.ensures.taken)

pub join_all-gather-requires-clause-below : goal.join_all-gather-requires-clause-below
join_all-gather-requires-clause-below t c =
    let its = c.in_ok-alive in
    let ys = c.solve.new.slots.types in
    let marked = c.len-checkpoint.ensures ∙ ap length (sym c.loop-at.invariant.trail) in
    let back = told_back c.loop-at.slots c.solve.new.slots c.len-checkpoint.result its.ensures.trailed marked in
    λ e. subst (AreBelow ys) (sym back) (answer_below c.environment_laws.ensures.laws (constraint c.index-members-at.result) c.loop-at.slots.types ys its.alive its.ensures.value e)

pub join_all-loop-at-preserved : goal.join_all-loop-at-preserved
join_all-loop-at-preserved t c =
    let inv = c.loop-at.invariant in
    let laws = c.environment_laws.ensures.laws in
    let ms = c.args.members.now in
    let at = c.loop-at.at in
    let x = c.index-members-at.result in
    let s = c.loop-at.slots in
    let xs = s.types in
    let u = c.solve.new.slots in
    let ys = u.types in
    let m = c.len-checkpoint.result in
    let its = c.in_ok-alive in
    let best = c.loop-at.best in
    let after = c.in_ok-best.best in
    let cs = constraints ms in
    let left = constraints (drop (at + 1) ms) in
    let whole = unions environments cs c.args.slots.now.types in
    let marked = c.len-checkpoint.ensures ∙ ap length (sym inv.trail) in
    let back = told_back s u m its.ensures.trailed marked in
    let same = c.undo.ensures.types ∙ back in
    let again = right_again ms c.loop-at.kept c.take.new.kept c.put.new.kept at x v.Blank its.after xs c.take.ensures.left c.put.ensures inv.right c.index-members-at.is its.ensures.right in
    let one = subst (λ b. joined environments (best_of best b) (answer its.alive ys) ≡ best_of after b) back c.in_ok-best.ensures.value in
    let rest = union_goes_on ms at x xs (best_of best xs) (answer its.alive ys) (best_of after xs) whole c.loop-at-test.true c.index-members-at.is its.ensures.value one inv.rest in
    record {
      types = same ∙ inv.types;
      trail = c.undo.ensures.trail ∙ told_front s u m its.ensures.trailed marked ∙ inv.trail;
      best = subst (Kept after) (sym same) (subst (Kept after) back c.in_ok-best.ensures.kept);
      right = subst (AreRight cs (memos c.put.new.kept)) (sym same) again;
      rest = subst (λ zs. merged environments (best_of after zs) left zs ≡ whole) (sym same) rest;
    }

pub join_all-returns-clause-value : goal.join_all-returns-clause-value
join_all-returns-clause-value t c =
    let ms = c.args.members.now in
    let cs = constraints ms in
    let xs = c.loop-at.slots.types in
    let ys = c.lay.new.slots.types in
    let ended = end_of ms c.loop-at.at (omega (arith, c.loop-at-test.false)) in
    let is = any_is c.environment_laws.ensures.laws cs c.args.slots.now.types ∙ sym c.loop-at.invariant.rest ∙ ap (λ l. merged environments (best_of c.loop-at.best xs) l xs) ended in
    IfOk-weaker c.lay.result (λ alive. best_of c.loop-at.best xs ≡ answer alive ys) (λ alive. solution (any_of cs) c.args.slots.now.types ≡ answer alive ys) (λ alive h. is ∙ h) c.lay.ensures.value

pub join_all-returns-clause-right : goal.join_all-returns-clause-right
join_all-returns-clause-right t c =
    let inv = c.loop-at.invariant in
    let xs = c.loop-at.slots.types in
    let ys = c.lay.new.slots.types in
    let cs = constraints c.args.members.now in
    IfOk-weaker c.lay.result (λ alive. best_of c.loop-at.best xs ≡ answer alive ys) (λ alive. alive ≡ true
    → AreRight cs (memos c.loop-at.kept) ys) (λ alive h e. each_falls c.type_facts.ensures c.environment_laws.ensures.laws cs (memos c.loop-at.kept) xs ys (laid_below c.loop-at.best xs ys alive inv.best h e) inv.right)
    c.lay.ensures.value
