-- What is kept of members: of trees, member by member, and further down.
use Rattle.std.proofs.Common.{◌≡◌, ℕ, zero, suc, ◌<◌, Bool, true, false, cond, List, [], ◌∷◌, ◌++◌, length, get_or, set, map, Some, None, refl, sym, ap, ◌∙◌, subst, arith}
use Rattle.std.proofs.lemmas.List.{set-set}
use Rattle.type_lattice.specs.Types.{AreBelow}
use Rattle.cons_tree.specs.Constraints.{Cons, ConsList, only, all_of, any_of, no_cons, and_cons, constraint, constraints}
use Rattle.cons_tree.specs.Environments.{Types}
use Rattle.cons_tree.specs.Facts.{TypeFacts}
use Rattle.cons_tree.specs.Trails.{answer, laid, Within}
use Rattle.cons_tree.specs.declared.parts.Part.{Part}
use Rattle.cons_tree.specs.declared.parts.Constraint.{Constraint}
use Rattle.cons_tree.specs.declared.slots.TrailEntry.{TrailEntry}
use Rattle.cons_solve.specs.Environments.{environments, solution}
use Rattle.cons_solve.specs.Solutions as W
use Rattle.cons_solve.specs.steps.Alternatives.{now_of}
use Rattle.cons_solve.specs.steps.Plans.{fallen}
use Rattle.cons_solve.proofs.PlanLaws.{kept_falls, kept_new, kept_dead, kept_solves}
use Rattle.table_verify_sweeps.specs.steps.Memos.{Memo, MemoList, blank, dead, solved, no_memos, and_memo, layer, memo, memos, RightBy, IsRight, MembersRight, AreRight}
use Rattle.table_verify_sweeps.specs.declared.kept.Kept.{Kept, out-Kept}
use Rattle.table_verify_sweeps.specs.declared.kept.Kept.TheVariants as v
use Rattle.table_verify_sweeps.specs.declared.kept.Kept.TheOpen.{Kept-F}
use Rattle.table_verify_sweeps.specs.declared.kept.Kept.TheFolds.{map-Kept, fold_out-Kept}

-- ---- the three kinds

memo_stands : (x : Kept) (y : Kept-F Kept) → out-Kept x ≡ y → memo x ≡ layer (map-Kept Kept Memo memo y)
unfolding memo
memo_stands x y is = fold_out-Kept Memo layer x ∙ ap (λ l. layer (map-Kept Kept Memo memo l)) is

memo_blank : memo v.Blank ≡ blank
memo_blank = memo_stands v.Blank _ v.outs-Blank

memo_dead : memo v.Dead ≡ dead
memo_dead = memo_stands v.Dead _ v.outs-Dead

memo_solved : (lows : List TrailEntry) (ks : List Kept) → memo (v.Solved lows ks) ≡ solved lows (memos ks)
memo_solved lows ks = memo_stands (v.Solved lows ks) _ (v.outs-Solved lows ks)

-- ---- of a constraint of any kind

pub right_by : (c : Cons Part) (m : Memo) (xs : Types) → IsRight c m xs → RightBy c (MembersRight c) m xs
right_by (only p) m xs r = r
right_by (all_of cs) m xs r = r
right_by (any_of cs) m xs r = r

by_right : (c : Cons Part) (m : Memo) (xs : Types) → RightBy c (MembersRight c) m xs → IsRight c m xs
by_right (only p) m xs r = r
by_right (all_of cs) m xs r = r
by_right (any_of cs) m xs r = r

pub of_blank : (c : Cons Part) (k : Kept) (xs : Types) → k ≡ v.Blank → IsRight c (memo k) xs
of_blank c k xs e = subst (λ m. IsRight c m xs) (sym (ap memo e ∙ memo_blank)) (by_right c blank xs tt)

pub of_dead : (k : Kept) → k ≡ v.Dead → memo k ≡ dead
of_dead k e = ap memo e ∙ memo_dead

pub of_solved : (k : Kept) (lows : List TrailEntry) (ks : List Kept) → k ≡ v.Solved lows ks → memo k ≡ solved lows (memos ks)
of_solved k lows ks e = ap memo e ∙ memo_solved lows ks

-- ---- nothing is kept

none_right : (cs : ConsList Part) (xs : Types) → AreRight cs no_memos xs
none_right no_cons xs = tt
none_right (and_cons c cs) xs = tt

none_inside : (c : Cons Part) (xs : Types) → MembersRight c no_memos xs
none_inside (only p) xs = tt
none_inside (all_of cs) xs = none_right cs xs
none_inside (any_of cs) xs = none_right cs xs

-- nothing kept is as nothing lowered
pub blank_opens : (c : Cons Part) (lows : List TrailEntry) (ks : List Kept) (xs : Types) → lows ≡ [] → ks ≡ [] → IsRight c (solved lows (memos ks)) xs
blank_opens c lows ks xs e f =
    subst (λ l. IsRight c (solved l (memos ks)) xs) (sym e) (subst (λ l. IsRight c (solved [] (memos l)) xs) (sym f) (by_right c (solved [] no_memos) xs (tt, λ ys b q. tt, none_inside c xs)))

pub right_longer : (cs : ConsList Part) (ks : List Kept) (xs : Types) → AreRight cs (memos ks) xs → AreRight cs (memos (ks ++ v.Blank ∷ [])) xs
right_longer no_cons ks xs r = tt
right_longer (and_cons c cs) [] xs r = (of_blank c v.Blank xs refl, none_right cs xs)
right_longer (and_cons c cs) (k ∷ ks) xs r = (r.0, right_longer cs ks xs r.1)

-- ---- a member of a list

pub right_at : (cs : List Constraint) (ks : List Kept) (i : ℕ) (x : Constraint) (k : Kept) (xs : Types) → AreRight (constraints cs) (memos ks) xs → i < length cs → x ≡ get_or cs i x → k ≡ get_or ks i v.Blank
    → IsRight (constraint x) (memo k) xs
right_at [] ks i x k xs r l e f = absurd (omega (arith, l))
right_at (c ∷ cs) [] i x k xs r l e f = of_blank (constraint x) k xs f
right_at (c ∷ cs) (q ∷ ks) zero x k xs r l e f =
    subst (λ y. IsRight (constraint y) (memo k) xs) (sym e) (subst (λ y. IsRight (constraint c) (memo y) xs) (sym f) r.0)
right_at (c ∷ cs) (q ∷ ks) (suc i) x k xs r l e f = right_at cs ks i x k xs r.1 (omega (arith, l)) e f

right_set : (cs : List Constraint) (ks : List Kept) (i : ℕ) (x : Constraint) (k : Kept) (xs : Types) → AreRight (constraints cs) (memos ks) xs → x ≡ get_or cs i x → IsRight (constraint x) (memo k) xs
    → AreRight (constraints cs) (memos (set ks i k)) xs
right_set [] ks i x k xs r e h = tt
right_set (c ∷ cs) [] i x k xs r e h = r
right_set (c ∷ cs) (q ∷ ks) zero x k xs r e h = (subst (λ y. IsRight (constraint y) (memo k) xs) e h, r.1)
right_set (c ∷ cs) (q ∷ ks) (suc i) x k xs r e h = (r.0, right_set cs ks i x k xs r.1 e h)

-- what was kept of it was taken out, and other put there
pub right_again : (cs : List Constraint) (ps qs rs : List Kept) (i : ℕ) (x : Constraint) (b k : Kept) (xs : Types) → qs ≡ set ps i b → rs ≡ set qs i k → AreRight (constraints cs) (memos ps) xs → x ≡ get_or cs i x
    → IsRight (constraint x) (memo k) xs → AreRight (constraints cs) (memos rs) xs
right_again cs ps qs rs i x b k xs d f r e h =
    subst (λ l. AreRight (constraints cs) (memos l) xs) (sym (f ∙ ap (λ l. set l i k) d ∙ set-set ps i b k)) (right_set cs ps i x k xs r e h)

-- ---- further down

module _ (facts : TypeFacts) (laws : W.Laws environments) where
  by_falls : (c : Cons Part) (G : MemoList → Types → Type 0) (m : Memo) (xs ys : Types) → ((ms : MemoList) (us ws : Types) → AreBelow ws us → G ms us → G ms ws) → AreBelow ys xs → RightBy c G m xs → RightBy c G m ys
  by_falls c G blank xs ys f h r = tt
  by_falls c G dead xs ys f h r = kept_falls facts laws c None (λ zs. Unit {0}) xs ys (λ us ws b q. q) h r
  by_falls c G (solved lows ms) xs ys f h r = kept_falls facts laws c (Some lows) (G ms) xs ys (f ms) h r

  mutual
    pub right_falls : (c : Cons Part) (m : Memo) (xs ys : Types) → AreBelow ys xs → IsRight c m xs → IsRight c m ys
    right_falls (only p) m xs ys h r = by_falls (only p) (λ ms zs. Unit {0}) m xs ys (λ ms us ws b q. tt) h r
    right_falls (all_of cs) m xs ys h r =
        by_falls (all_of cs) (λ ms zs. AreRight cs ms zs) m xs ys (λ ms us ws b q. each_falls cs ms us ws b q) h r
    right_falls (any_of cs) m xs ys h r =
        by_falls (any_of cs) (λ ms zs. AreRight cs ms zs) m xs ys (λ ms us ws b q. each_falls cs ms us ws b q) h r

    pub each_falls : (cs : ConsList Part) (ms : MemoList) (xs ys : Types) → AreBelow ys xs → AreRight cs ms xs → AreRight cs ms ys
    each_falls no_cons ms xs ys h r = tt
    each_falls (and_cons c cs) no_memos xs ys h r = tt
    each_falls (and_cons c cs) (and_memo m ms) xs ys h r = (right_falls c m xs ys h r.0, each_falls cs ms xs ys h r.1)

  members_fall : (c : Cons Part) (ms : MemoList) (xs ys : Types) → AreBelow ys xs → MembersRight c ms xs → MembersRight c ms ys
  members_fall (only p) ms xs ys h r = tt
  members_fall (all_of cs) ms xs ys h r = each_falls cs ms xs ys h r
  members_fall (any_of cs) ms xs ys h r = each_falls cs ms xs ys h r

  -- ---- a constraint that is solved

  pub dead_none : (c : Cons Part) (m : Memo) (xs : Types) → m ≡ dead → IsRight c m xs → solution c xs ≡ None
  dead_none c m xs e r = kept_dead facts laws c (λ ys. Unit {0}) xs (right_by c dead xs (subst (λ n. IsRight c n xs) e r))

  pub opened_solves : (c : Cons Part) (lows : List TrailEntry) (ms : MemoList) (xs : Types) → IsRight c (solved lows ms) xs → solution c (fallen lows xs) ≡ solution c xs
  opened_solves c lows ms xs r = kept_solves facts laws c lows (MembersRight c ms) xs (right_by c (solved lows ms) xs r)

  pub right_new : (c : Cons Part) (ms : MemoList) (fs : List TrailEntry) (begin xs : Types) (alive : Bool) → solution c begin ≡ answer alive xs → laid fs xs ≡ begin → Within (length xs) fs → length begin ≡ length xs
      → (alive ≡ true → MembersRight c ms xs) → IsRight c (cond alive (solved (map (now_of xs) fs) ms) dead) begin
  right_new c ms fs begin xs true h e w l g =
      by_right c (solved (map (now_of xs) fs) ms) begin (kept_new facts laws c (MembersRight c ms) fs begin xs true (Some (map (now_of xs) fs)) (λ us ws b q. members_fall c ms us ws b q) h e w l g refl)
  right_new c ms fs begin xs false h e w l g =
      by_right c dead begin (kept_new facts laws c (λ ys. Unit {0}) fs begin xs false None (λ us ws b q. q) h e w l (λ q. tt) refl)
