use Rattle.std.proofs.Common.{drop, map, refl, sym, ◌∙◌, subst, cond}
use Rattle.cons_solve.specs.steps.Alternatives.{now_of}
use Rattle.cons_solve.proofs.LowLaws.{rest_told}
use Rattle.table_verify_sweeps.specs.declared.kept.Kept.TheVariants as v
use Rattle.table_verify_sweeps.specs.steps.Memos.{dead, solved, memos, IsRight}
use Rattle.table_verify_sweeps.proofs.KeptLaws.{of_blank, of_dead, of_solved}
use Rattle.table_verify_sweeps.proofs.kept.close.Goals as goal

pub returns-then-not-alive : goal.returns-then-not-alive
returns-then-not-alive c =
    let m = solved (map (now_of c.args.slots.now.types) (drop c.args.checkpoint c.args.slots.now.trail)) (memos c.args.inner) in
    λ k xs r. subst (λ n. IsRight k n xs) (sym (of_dead v.Dead refl)) (subst (λ b. IsRight k (cond b m dead) xs) c.if-not-alive.true r)

pub returns-then-is_empty : goal.returns-then-is_empty
returns-then-is_empty c = λ k xs r. of_blank k v.Blank xs refl

pub returns : goal.returns
returns c =
    let t = c.args.slots.now in
    let told = map (now_of t.types) (drop c.args.checkpoint t.trail) in
    let is = c.in_ok-lows.ensures ∙ rest_told (now_of t.types) c.as_slice.result.now t.trail c.args.checkpoint c.as_slice.ensures in
    let kept = of_solved (v.Solved c.in_ok-lows.lows c.args.inner) c.in_ok-lows.lows c.args.inner refl in
    λ k xs r. subst (λ n. IsRight k n xs) (sym kept) (subst (λ l. IsRight k (solved l (memos c.args.inner)) xs) (sym is) (subst (λ b. IsRight k (cond b (solved told (memos c.args.inner)) dead) xs) c.if-not-alive.false r))
