-- Plans of trees, member by member.
use Rattle.std.proofs.Common.{◌≡◌, ℕ, zero, suc, ◌+◌, ◌<◌, List, [], ◌∷◌, ◌++◌, length, get_or, set, Some, None, refl, sym, ap, ◌∙◌, subst, arith}
use Rattle.std.specs.Prelude.{slice_get}
use Rattle.std.proofs.lemmas.List.{set-set, set-get_or}
use Rattle.std.proofs.lemmas.Option.{get_or_from_slice_get}
use Rattle.cons_tree.specs.Constraints.{Cons, only, all_of, any_of, constraint, constraints}
use Rattle.cons_tree.specs.Environments.{Types}
use Rattle.cons_tree.specs.declared.parts.Part.{Part}
use Rattle.cons_tree.specs.declared.parts.Constraint.{Constraint}
use Rattle.cons_solve.specs.Frames.{Free}
use Rattle.cons_solve.specs.steps.Positions.{Has, here, Covers}
use Rattle.cons_solve.specs.steps.Plans.{Outcome, Memo, blank, listing, choosing, layer, memo, memos, fallen, IsIndex, IsKept, Good, GoodEach, GoodAny}
use Rattle.cons_solve.specs.declared.index.Naming.{Naming}
use Rattle.cons_solve.specs.declared.plan.Plan.{Plan, out-Plan}
use Rattle.cons_solve.specs.declared.plan.Plan.TheVariants as v
use Rattle.cons_solve.specs.declared.plan.Plan.TheOpen.{Plan-F}
use Rattle.cons_solve.specs.declared.plan.Plan.TheFolds.{map-Plan, fold_out-Plan}

memo_stands : (x : Plan) (y : Plan-F Plan) → out-Plan x ≡ y → memo x ≡ layer (map-Plan Plan Memo memo y)
unfolding memo
memo_stands x y is = fold_out-Plan Memo layer x ∙ ap (λ l. layer (map-Plan Plan Memo memo l)) is

memo_blank : memo v.Blank ≡ blank
memo_blank = memo_stands v.Blank _ v.outs-Blank

pub memo_all : (x : Plan) (ps : List Plan) (index : _) → x ≡ v.All ps index → memo x ≡ listing (memos ps) index.namings
memo_all x ps index e = ap memo e ∙ memo_stands (v.All ps index) _ (v.outs-All ps index)

pub memo_any : (x : Plan) (ps : List Plan) (ks : List Outcome) → x ≡ v.Any ps ks → memo x ≡ choosing (memos ps) ks
memo_any x ps ks e = ap memo e ∙ memo_stands (v.Any ps ks) _ (v.outs-Any ps ks)

-- ---- plans of which nothing is known

good_at_blank : (c : Cons Part) (xs : Types) → Good c blank xs
good_at_blank (only p) xs = tt
good_at_blank (all_of cs) xs = tt
good_at_blank (any_of cs) xs = tt

pub good_blank : (c : Cons Part) (p : Plan) (xs : Types) → p ≡ v.Blank → Good c (memo p) xs
good_blank c p xs e = subst (λ m. Good c m xs) (sym (ap memo e ∙ memo_blank)) (good_at_blank c xs)

pub blank_each : (cs : List Constraint) (ps : List Plan) (xs : Types) → ((i : ℕ) → get_or ps i v.Blank ≡ v.Blank) → GoodEach (constraints cs) (memos ps) xs
blank_each [] ps xs h = tt
blank_each (c ∷ cs) [] xs h = (good_at_blank (constraint c) xs, blank_each cs [] xs (λ i. refl))
blank_each (c ∷ cs) (p ∷ ps) xs h = (good_blank (constraint c) p xs (h 0), blank_each cs ps xs (λ i. h (suc i)))

kept_blank : (c : Cons Part) (m : Memo) (k : Outcome) (xs : Types) → k ≡ Some [] → Good c m xs → IsKept c k (Good c m) xs
kept_blank c m k xs e g = subst (λ o. IsKept c o (Good c m) xs) (sym e) (tt, λ ys b q. tt, g)

pub blank_any : (cs : List Constraint) (ps : List Plan) (ks : List Outcome) (xs : Types) → ((i : ℕ) → get_or ps i v.Blank ≡ v.Blank) → length ks ≡ length cs → ((i : ℕ) → get_or ks i (Some []) ≡ Some [])
    → GoodAny (constraints cs) (memos ps) ks xs
blank_any [] ps ks xs h l n = tt
blank_any (c ∷ cs) ps [] xs h l n = absurd (omega (arith, l))
blank_any (c ∷ cs) [] (k ∷ ks) xs h l n =
    (kept_blank (constraint c) blank k xs (n 0) (good_at_blank (constraint c) xs), blank_any cs [] ks xs (λ i. refl) (omega (arith, l)) (λ i. n (suc i)))
blank_any (c ∷ cs) (p ∷ ps) (k ∷ ks) xs h l n =
    (kept_blank (constraint c) (memo p) k xs (n 0) (good_blank (constraint c) p xs (h 0)), blank_any cs ps ks xs (λ i. h (suc i)) (omega (arith, l)) (λ i. n (suc i)))

kept_as : (c : Cons Part) (k : Outcome) (G H : Types → Type 0) (xs : Types) → ((ys : Types) → G ys → H ys) → IsKept c k G xs → IsKept c k H xs
kept_as c None G H xs f h = h
kept_as c (Some lows) G H xs f h = (h.0, h.1, f (fallen lows xs) h.2)

-- ---- an index of the members

index_from : (cs : List Constraint) (i : ℕ) (index : List Naming) → ((j s : ℕ) → j < length cs → (Has (here index s) (i + j) → ⊥) → (x : Constraint) → Free s (constraint (get_or cs j x)))
    → IsIndex (constraints cs) i index
index_from [] i index h = tt
index_from (c ∷ cs) i index h =
    (λ s n. h 0 s (omega arith) (λ has. n (subst (Has (here index s)) (omega arith) has)) c, index_from cs (suc i) index (λ j s l n x. h (suc j) s (omega (arith, l)) (λ has. n (subst (Has (here index s)) (omega arith) has)) x))

pub is_index : (cs : List Constraint) (index : List Naming) → Covers cs index → IsIndex (constraints cs) 0 index
is_index cs index h = index_from cs 0 index (λ j s l n x. h j s l (λ has. n (subst (Has (here index s)) (omega arith) has)) x)

covers_from : (cs : List Constraint) (i j s : ℕ) (index : List Naming) → IsIndex (constraints cs) i index → j < length cs → (Has (here index s) (i + j) → ⊥) → (x : Constraint) → Free s (constraint (get_or cs j x))
covers_from [] i j s index h l n x = absurd (omega (arith, l))
covers_from (c ∷ cs) i zero s index h l n x = h.0 s (λ has. n (subst (Has (here index s)) (omega arith) has))
covers_from (c ∷ cs) i (suc j) s index h l n x =
    covers_from cs (suc i) j s index h.1 (omega (arith, l)) (λ has. n (subst (Has (here index s)) (omega arith) has)) x

pub covers : (cs : List Constraint) (index : List Naming) → IsIndex (constraints cs) 0 index → Covers cs index
covers cs index h j s l n x = covers_from cs 0 j s index h l (λ has. n (subst (Has (here index s)) (omega arith) has)) x

-- ---- a member of a list

pub each_at : (cs : List Constraint) (ps : List Plan) (i : ℕ) (x : Constraint) (p : Plan) (xs : Types) → GoodEach (constraints cs) (memos ps) xs → i < length cs → x ≡ get_or cs i x → p ≡ get_or ps i v.Blank
    → Good (constraint x) (memo p) xs
each_at [] ps i x p xs g l e f = absurd (omega (arith, l))
each_at (c ∷ cs) [] zero x p xs g l e f = good_blank (constraint x) p xs f
each_at (c ∷ cs) [] (suc i) x p xs g l e f = good_blank (constraint x) p xs f
each_at (c ∷ cs) (q ∷ ps) zero x p xs g l e f =
    subst (λ y. Good (constraint y) (memo p) xs) (sym e) (subst (λ y. Good (constraint c) (memo y) xs) (sym f) g.0)
each_at (c ∷ cs) (q ∷ ps) (suc i) x p xs g l e f = each_at cs ps i x p xs g.1 (omega (arith, l)) e f

each_set : (cs : List Constraint) (ps : List Plan) (i : ℕ) (x : Constraint) (p : Plan) (xs : Types) → GoodEach (constraints cs) (memos ps) xs → x ≡ get_or cs i x → Good (constraint x) (memo p) xs
    → GoodEach (constraints cs) (memos (set ps i p)) xs
each_set [] ps i x p xs g e h = tt
each_set (c ∷ cs) [] i x p xs g e h = g
each_set (c ∷ cs) (q ∷ ps) zero x p xs g e h = (subst (λ y. Good (constraint y) (memo p) xs) e h, g.1)
each_set (c ∷ cs) (q ∷ ps) (suc i) x p xs g e h = (g.0, each_set cs ps i x p xs g.1 e h)

-- its plan was taken out, and another one put there
pub each_again : (cs : List Constraint) (ps qs rs : List Plan) (i : ℕ) (x : Constraint) (b p : Plan) (xs : Types) → qs ≡ set ps i b → rs ≡ set qs i p → GoodEach (constraints cs) (memos ps) xs → x ≡ get_or cs i x
    → Good (constraint x) (memo p) xs → GoodEach (constraints cs) (memos rs) xs
each_again cs ps qs rs i x b p xs d f g e h =
    subst (λ l. GoodEach (constraints cs) (memos l) xs) (sym (f ∙ ap (λ l. set l i p) d ∙ set-set ps i b p)) (each_set cs ps i x p xs g e h)

-- ---- an alternative

pub any_long : (cs : List Constraint) (ps : List Plan) (ks : List Outcome) (i : ℕ) (xs : Types) → GoodAny (constraints cs) (memos ps) ks xs → i < length cs → i < length ks
any_long [] ps ks i xs g l = absurd (omega (arith, l))
any_long (c ∷ cs) ps [] i xs g l = absurd g
any_long (c ∷ cs) ps (k ∷ ks) zero xs g l = omega arith
any_long (c ∷ cs) [] (k ∷ ks) (suc i) xs g l = let r = any_long cs [] ks i xs g.1 (omega (arith, l)) in omega (arith, r)
any_long (c ∷ cs) (p ∷ ps) (k ∷ ks) (suc i) xs g l = let r = any_long cs ps ks i xs g.1 (omega (arith, l)) in omega (arith, r)

any_at : (cs : List Constraint) (ps : List Plan) (ks : List Outcome) (i : ℕ) (x : Constraint) (p : Plan) (k : Outcome) (xs : Types) → GoodAny (constraints cs) (memos ps) ks xs → i < length cs → x ≡ get_or cs i x
    → p ≡ get_or ps i v.Blank → get_or ks i k ≡ k → IsKept (constraint x) k (Good (constraint x) (memo p)) xs
any_at [] ps ks i x p k xs g l e f h = absurd (omega (arith, l))
any_at (c ∷ cs) ps [] i x p k xs g l e f h = absurd g
any_at (c ∷ cs) [] (j ∷ ks) zero x p k xs g l e f h =
    subst (λ y. IsKept (constraint y) k (Good (constraint y) (memo p)) xs) (sym e)
    (subst (λ m. IsKept (constraint c) k (Good (constraint c) m) xs) (sym (ap memo f ∙ memo_blank)) (subst (λ y. IsKept (constraint c) y (Good (constraint c) blank) xs) h g.0))
any_at (c ∷ cs) (q ∷ ps) (j ∷ ks) zero x p k xs g l e f h =
    subst (λ y. IsKept (constraint y) k (Good (constraint y) (memo p)) xs) (sym e)
    (subst (λ y. IsKept (constraint c) k (Good (constraint c) (memo y)) xs) (sym f) (subst (λ y. IsKept (constraint c) y (Good (constraint c) (memo q)) xs) h g.0))
any_at (c ∷ cs) [] (j ∷ ks) (suc i) x p k xs g l e f h = any_at cs [] ks i x p k xs g.1 (omega (arith, l)) e f h
any_at (c ∷ cs) (q ∷ ps) (j ∷ ks) (suc i) x p k xs g l e f h = any_at cs ps ks i x p k xs g.1 (omega (arith, l)) e f h

pub any_here : (cs : List Constraint) (ps : List Plan) (ks : List Outcome) (i : ℕ) (x : Constraint) (p : Plan) (k : Outcome) (xs : Types) → GoodAny (constraints cs) (memos ps) ks xs → i < length cs → x ≡ get_or cs i x
    → p ≡ get_or ps i v.Blank → slice_get ks i ≡ Some k → IsKept (constraint x) k (Good (constraint x) (memo p)) xs
any_here cs ps ks i x p k xs g l e f h = any_at cs ps ks i x p k xs g l e f (get_or_from_slice_get ks i k k h)

any_set : (cs : List Constraint) (ps : List Plan) (ks : List Outcome) (i : ℕ) (x : Constraint) (p : Plan) (k : Outcome) (xs : Types) → GoodAny (constraints cs) (memos ps) ks xs → x ≡ get_or cs i x
    → IsKept (constraint x) k (Good (constraint x) (memo p)) xs → GoodAny (constraints cs) (memos (set ps i p)) (set ks i k) xs
any_set [] ps ks i x p k xs g e h = tt
any_set (c ∷ cs) ps [] i x p k xs g e h = absurd g
any_set (c ∷ cs) [] (j ∷ ks) zero x p k xs g e h =
    (kept_as (constraint c) k (Good (constraint c) (memo p)) (Good (constraint c) blank) xs (λ ys _. good_at_blank (constraint c) ys) (subst (λ y. IsKept (constraint y) k (Good (constraint y) (memo p)) xs) e h), g.1)
any_set (c ∷ cs) (q ∷ ps) (j ∷ ks) zero x p k xs g e h =
    (subst (λ y. IsKept (constraint y) k (Good (constraint y) (memo p)) xs) e h, g.1)
any_set (c ∷ cs) [] (j ∷ ks) (suc i) x p k xs g e h = (g.0, any_set cs [] ks i x p k xs g.1 e h)
any_set (c ∷ cs) (q ∷ ps) (j ∷ ks) (suc i) x p k xs g e h = (g.0, any_set cs ps ks i x p k xs g.1 e h)

-- what was kept was taken out and is None: it still is
pub none_again : (ks js : List Outcome) (i : ℕ) → slice_get ks i ≡ Some None → js ≡ set ks i None → js ≡ ks
none_again ks js i h e = e ∙ ap (set ks i) (sym (get_or_from_slice_get ks i None None h)) ∙ set-get_or ks i None

-- its plan and what was kept were taken out, and others put there
pub any_again : (cs : List Constraint) (ps qs rs : List Plan) (ks js ls : List Outcome) (i : ℕ) (x : Constraint) (b p : Plan) (a k : Outcome) (xs : Types) → qs ≡ set ps i b → rs ≡ set qs i p → js ≡ set ks i a
    → ls ≡ set js i k → GoodAny (constraints cs) (memos ps) ks xs → x ≡ get_or cs i x → IsKept (constraint x) k (Good (constraint x) (memo p)) xs → GoodAny (constraints cs) (memos rs) ls xs
any_again cs ps qs rs ks js ls i x b p a k xs d f d2 f2 g e h =
    subst (λ l. GoodAny (constraints cs) (memos rs) l xs) (sym (f2 ∙ ap (λ l. set l i k) d2 ∙ set-set ks i a k))
    (subst (λ l. GoodAny (constraints cs) (memos l) (set ks i k) xs) (sym (f ∙ ap (λ l. set l i p) d ∙ set-set ps i b p)) (any_set cs ps ks i x p k xs g e h))

-- ---- lists of one item

pushed_at : {A : Type 0} (xs : List A) (d : A) → ((i : ℕ) → get_or xs i d ≡ d) → (i : ℕ) → get_or (xs ++ d ∷ []) i d ≡ d
pushed_at [] d h zero = refl
pushed_at [] d h (suc i) = refl
pushed_at (x ∷ xs) d h zero = h 0
pushed_at (x ∷ xs) d h (suc i) = pushed_at xs d (λ k. h (suc k)) i

pub pushed_same : {A : Type 0} (xs ys : List A) (d x : A) → ys ≡ xs ++ x ∷ [] → x ≡ d → ((i : ℕ) → get_or xs i d ≡ d) → (i : ℕ) → get_or ys i d ≡ d
pushed_same xs ys d x e f h i = ap (λ l. get_or l i d) (e ∙ ap (λ y. xs ++ y ∷ []) f) ∙ pushed_at xs d h i
