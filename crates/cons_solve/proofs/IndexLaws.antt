-- Entering members at slots, and the namings by rising slots.
use Rattle.std.proofs.Common.{◌≡◌, ℕ, zero, suc, ◌+◌, ◌<◌, ◌≤◌, Bool, true, false, cond, List, [], ◌∷◌, ◌++◌, length, get_or, map, take, drop, refl}
use Rattle.std.proofs.Common.{sym, ap, ◌∙◌, subst, arith, inl, inr, nat_eq, leb, ltb, eqb-true, eq-eqb, ltb-true, ltb-false, leb-true, leb-false}
use Rattle.std.specs.List.{Contains}
use Rattle.std.specs.List.Sorted.{IsPermutation, IsPartitionPoint}
use Rattle.std.proofs.lemmas.List.{get_or-drop, length-drop}
use Rattle.std.proofs.lemmas.List.Sorted.{Contains-permutation}
use Rattle.cons_tree.specs.Constraints.{constraint, constraints}
use Rattle.cons_tree.specs.Frames.{IsNone, slots_of}
use Rattle.cons_tree.specs.declared.parts.Part.{Part}
use Rattle.cons_tree.specs.declared.parts.Constraint.{Constraint}
use Rattle.cons_tree.specs.declared.parts.Constraint.TheVariants as tree
use Rattle.cons_solve.specs.Frames.{Free, FreeEach}
use Rattle.cons_solve.specs.declared.index.Naming.{Naming}
use Rattle.cons_solve.specs.steps.Positions.{Has, here, named, Covers, Grown}
use Rattle.cons_solve.proofs.MemberLaws.{of_part, of_all, of_any}

abbrev pub naming : ℕ → ℕ → Naming
naming slot member = record { slot = slot; member = member }

-- ---- the members at a slot

has_less : (b : Bool) (x : Naming) (v : List Naming) (k : ℕ) → Has (map (λ n. n.member) v) k → Has (map (λ n. n.member) (cond b (x ∷ v) v)) k
has_less true x v k h = inr h
has_less false x v k h = h

has_more : (b : Bool) (x : Naming) (u v : List Naming) (k : ℕ) → (Has (map (λ n. n.member) u) k → Has (map (λ n. n.member) v) k) → Has (map (λ n. n.member) (cond b (x ∷ u) u)) k
    → Has (map (λ n. n.member) (cond b (x ∷ v) v)) k
has_more true x u v k f (inl e) = inl e
has_more true x u v k f (inr h) = inr (f h)
has_more false x u v k f h = f h

pub here_is : (ns xs : List Naming) (s : ℕ) → ns ≡ named xs s → map (λ n. n.member) ns ≡ here xs s
unfolding here
here_is ns xs s e = ap (map (λ n. n.member)) e

has_kept : (a b : List Naming) (s k : ℕ) → Has (here a s) k → Has (here (a ++ b) s) k
unfolding here
has_kept [] b s k h = absurd h
has_kept (x ∷ a) b s k h = has_more (nat_eq s x.slot) x (named a s) (named (a ++ b) s) k (has_kept a b s k) h

has_first : (n : Naming) (xs : List Naming) (s : ℕ) → n.slot ≡ s → Has (here (n ∷ xs) s) n.member
unfolding here
has_first n xs s e =
    subst (λ b. Has (map (λ n. n.member) (cond b (n ∷ named xs s) (named xs s))) n.member) (sym (eq-eqb s n.slot (sym e))) (inl refl)

has_new : (a : List Naming) (n : Naming) (s : ℕ) → n.slot ≡ s → Has (here (a ++ n ∷ []) s) n.member
unfolding here
has_new [] n s e = has_first n [] s e
has_new (x ∷ a) n s e = has_less (nat_eq s x.slot) x (named (a ++ n ∷ []) s) n.member (has_new a n s e)

pub grown_one : (slot at : ℕ) (a b : List Naming) → b ≡ a ++ naming slot at ∷ [] → Grown (λ s. slot ≡ s → ⊥) at a b
grown_one slot at a b e = record {
  kept = λ s k h. subst (λ l. Has (here l s) k) (sym e) (has_kept a (naming slot at ∷ []) s k h);
  entered = λ s n is. n (subst (λ l. Has (here l s) at) (sym e) (has_new a (naming slot at) s is));
}

-- ---- several slots

pub grown_as : (P Q : ℕ → Type 0) (j : ℕ) (a b : List Naming) → ((s : ℕ) → P s → Q s) → Grown P j a b → Grown Q j a b
grown_as P Q j a b f g = record { kept = g.kept; entered = λ s n. f s (g.entered s n) }

pub grown_then : (P Q R : ℕ → Type 0) (j : ℕ) (a b d : List Naming) → Grown P j a b → Grown Q j b d → ((s : ℕ) → P s → Q s → R s) → Grown R j a d
grown_then P Q R j a b d f g h = record {
  kept = λ s k has. g.kept s k (f.kept s k has);
  entered = λ s n. h s (f.entered s (λ has. n (g.kept s j has))) (g.entered s n);
}

-- ---- members

pub free_part : (x : Constraint) (p : Part) (s : ℕ) → x ≡ tree.Part p → IsNone s (slots_of p) → Free s (constraint x)
free_part x p s e h = subst (Free s) (sym (of_part x p e)) h

pub free_in_all : (x : Constraint) (cs ds : List Constraint) (s : ℕ) → x ≡ tree.All cs → ds ≡ cs → FreeEach s (constraints ds) → Free s (constraint x)
free_in_all x cs ds s e f h = subst (Free s) (sym (of_all x cs ds e f)) h

pub free_in_any : (x : Constraint) (cs ds : List Constraint) (s : ℕ) → x ≡ tree.Any cs → ds ≡ cs → FreeEach s (constraints ds) → Free s (constraint x)
free_in_any x cs ds s e f h = subst (Free s) (sym (of_any x cs ds e f)) h

-- ---- an index of the members before a position

abbrev pub Covering : List Constraint → List Naming → ℕ → Type 0
Covering ms index i = (j s : ℕ) → j < i → (Has (here index s) j → ⊥) → (x : Constraint) → Free s (constraint (get_or ms j x))

-- ---- the same namings in another order

has_at : (xs : List Naming) (n : Naming) (s k : ℕ) → k < length xs → get_or xs k n ≡ n → n.slot ≡ s → Has (here xs s) n.member
unfolding here
has_at [] n s k l e is = absurd (omega (arith, l))
has_at (x ∷ xs) n s zero l e is = subst (λ m. Has (here (m ∷ xs) s) n.member) (sym e) (has_first n xs s is)
has_at (x ∷ xs) n s (suc k) l e is = has_less (nat_eq s x.slot) x (named xs s) n.member (has_at xs n s k (omega (arith, l)) e is)

contains_more : (x n : Naming) (xs : List Naming) → Contains xs n → Contains (x ∷ xs) n
contains_more x n xs c = (suc c.0, omega (arith, c.1), c.2)

contains : (xs : List Naming) (s j : ℕ) → Has (here xs s) j → Contains xs (naming s j)
unfolding here
contains [] s j h = absurd h
contains (x ∷ xs) s j h = by (nat_eq s x.slot) refl h (contains xs s j)
  where
    by : (b : Bool) → nat_eq s x.slot ≡ b → Has (map (λ n. n.member) (cond b (x ∷ named xs s) (named xs s))) j → (Has (map (λ n. n.member) (named xs s)) j → Contains xs (naming s j)) → Contains (x ∷ xs) (naming s j)
    by true is (inl e) f =
        let same : x ≡ naming s j = ap (λ a. naming a x.member) (sym (eqb-true s x.slot is)) ∙ ap (naming s) e in
        (0, omega arith, same)
    by true is (inr k) f = contains_more x (naming s j) xs (f k)
    by false is k f = contains_more x (naming s j) xs (f k)

has_moved : (xs ys : List Naming) (s j : ℕ) → IsPermutation xs ys → Has (here xs s) j → Has (here ys s) j
has_moved xs ys s j p h =
    let there = Contains-permutation xs ys (naming s j) p (contains xs s j h) in
    has_at ys (naming s j) s there.0 there.1 there.2 refl

pub covers_sorted : (ms : List Constraint) (a b c d : List Naming) → Covers ms a → b ≡ a → IsPermutation b c → d ≡ c → Covers ms d
covers_sorted ms a b c d h e p f j s l n x =
    h j s l (λ has. n (subst (λ k. Has (here k s) j) (sym f) (has_moved b c s j p (subst (λ k. Has (here k s) j) (sym e) has)))) x

-- ---- the namings of a slot, found in those that rise

not_first : (s : ℕ) (x : Naming) (xs : List Naming) → (s ≡ x.slot → ⊥) → named (x ∷ xs) s ≡ named xs s
not_first s x xs n = by (nat_eq s x.slot) refl
  where
    by : (b : Bool) → nat_eq s x.slot ≡ b → cond b (x ∷ named xs s) (named xs s) ≡ named xs s
    by true is = absurd (n (eqb-true s x.slot is))
    by false is = refl

is_first : (s : ℕ) (x : Naming) (xs : List Naming) → s ≡ x.slot → named (x ∷ xs) s ≡ x ∷ named xs s
is_first s x xs is = ap (λ b. cond b (x ∷ named xs s) (named xs s)) (eq-eqb s x.slot is)

-- the first of them are lower
named_past : (xs : List Naming) (s a : ℕ) → ((i : ℕ) (d : Naming) → i < a → i < length xs → (get_or xs i d).slot < s) → named (drop a xs) s ≡ named xs s
named_past [] s zero h = refl
named_past [] s (suc a) h = refl
named_past (x ∷ xs) s zero h = refl
named_past (x ∷ xs) s (suc a) h =
    let lower : x.slot < s = h 0 x (omega arith) (omega arith) in
    named_past xs s a (λ i d l m. h (suc i) d (omega (arith, l)) (omega (arith, m))) ∙ sym (not_first s x xs (λ e. omega (arith, e, lower)))

-- none is lower, and just the first of them are not higher
named_front : (xs : List Naming) (s k : ℕ) → ((i : ℕ) (d : Naming) → i < length xs → s ≤ (get_or xs i d).slot) → ((i : ℕ) (d : Naming) → i < k → i < length xs → (get_or xs i d).slot ≤ s)
    → ((i : ℕ) (d : Naming) → k ≤ i → i < length xs → s < (get_or xs i d).slot) → take k xs ≡ named xs s
named_front [] s zero f g h = refl
named_front [] s (suc k) f g h = refl
named_front (x ∷ xs) s zero f g h =
    let higher : s < x.slot = h 0 x (omega arith) (omega arith) in
    nothing xs ∙ named_front xs s zero (λ i d l. f (suc i) d (omega (arith, l))) (λ i d l m. absurd (omega (arith, l))) (λ i d l m. h (suc i) d (omega arith) (omega (arith, m)))
    ∙ sym (not_first s x xs (λ e. omega (arith, e, higher)))
  where
    nothing : (l : List Naming) → [] ≡ take 0 l
    nothing [] = refl
    nothing (y ∷ l) = refl
named_front (x ∷ xs) s (suc k) f g h =
    let low : s ≤ x.slot = f 0 x (omega arith) in
    let high : x.slot ≤ s = g 0 x (omega arith) (omega arith) in
    ap (λ l. x ∷ l) (named_front xs s k (λ i d l. f (suc i) d (omega (arith, l))) (λ i d l m. g (suc i) d (omega (arith, l)) (omega (arith, m))) (λ i d l m. h (suc i) d (omega (arith, l)) (omega (arith, m))))
    ∙ sym (is_first s x xs (omega (arith, low, high)))

pub named_at : (xs rest : List Naming) (s a k : ℕ) → rest ≡ drop a xs → IsPartitionPoint (λ n. ltb n.slot s ≡ true) (λ n. ltb n.slot s ≡ false) xs a
    → IsPartitionPoint (λ n. leb n.slot s ≡ true) (λ n. leb n.slot s ≡ false) rest k → take k rest ≡ named xs s
named_at xs rest s a k e lower upper =
    named_front rest s k (λ i d l. above i d l) (λ i d l m. leb-true _ s (upper.0 i d (omega arith) l)) (λ i d l m. leb-false _ s (upper.1 i d l m)) ∙ ap (λ l. named l s) e
    ∙ named_past xs s a (λ i d l m. ltb-true _ s (lower.0 i d (omega arith) l))
  where
    within : (i : ℕ) → i < length (drop a xs) → a + i < length xs
    within i l = omega (arith, l, length-drop a xs)

    above : (i : ℕ) (d : Naming) → i < length rest → s ≤ (get_or rest i d).slot
    above i d l =
        let m = within i (subst (λ r. i < length r) e l) in
        subst (λ y. s ≤ y.slot) (sym (ap (λ r. get_or r i d) e ∙ get_or-drop a xs i d)) (ltb-false _ s (lower.1 (a + i) d (omega arith) m))
