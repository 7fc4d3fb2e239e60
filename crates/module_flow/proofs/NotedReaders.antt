-- Which functions are noted as reading what.
use Rattle.std.proofs.Common.{◌≡◌, ℕ, zero, suc, ◌+◌, ◌<◌, ◌⊎◌, inl, inr, List, [], ◌∷◌, ◌++◌, length, get_or, set, take, Option, Some, None, slice_get, refl, sym, ap, ◌∙◌, subst}
use Rattle.std.specs.Prelude.{option_copied}
use denote.Bor.{Bor}
use Rattle.std.specs.List.{Contains}
use Rattle.std.proofs.lemmas.List.{take_more}
use Rattle.std.proofs.lemmas.List.Elements.{Contains-append_left, Contains-append_right, Contains-push_cases}
use Rattle.module_flow.specs.declared.visits.Visit.{Visit}
use Rattle.module_flow.specs.steps.Readers.{AreNoted, IsReader, KeepsReaders, readers}

-- ---- the table

-- a label that nothing reads
pub none_more : (table : List (List ℕ)) (l : ℕ) → readers (table ++ [] ∷ []) l ≡ readers table l
none_more [] zero = refl
none_more [] (suc l) = none l
  where
    none : (i : ℕ) → readers [] i ≡ []
    none zero = refl
    none (suc i) = refl
none_more (x ∷ table) zero = refl
none_more (x ∷ table) (suc l) = none_more table l

pub kept_through : (a b d : List (List ℕ)) → KeepsReaders a b → KeepsReaders b d → KeepsReaders a d
kept_through a b d one two l q among = two l q (one l q among)

pub reader_is : (table : List (List ℕ)) (ls ms : List ℕ) (p q : ℕ) → IsReader table ls p → ls ≡ ms → p ≡ q → IsReader table ms q
reader_is table ls ms p q reads e f = subst (λ xs. IsReader table xs q) e (subst (λ x. IsReader table ls x) f reads)

pub reader_still : (before after : List (List ℕ)) (ls : List ℕ) (q : ℕ) → KeepsReaders before after → IsReader before ls q → IsReader after ls q
reader_still before after ls q kept reads l among = kept l q (reads l among)

-- one label more
pub noted_more : (before after : List (List ℕ)) (ls : List ℕ) (i l q : ℕ) → i < length ls → l ≡ get_or ls i 0 → KeepsReaders before after → Contains (readers after l) q → IsReader before (take i ls) q
    → IsReader after (take (i + 1) ls) q
noted_more before after ls i l q h is kept here noted k among =
    by (Contains-push_cases (take i ls) l k (subst (λ xs. Contains xs k) (take_more ls i 0 h ∙ ap (λ x. take i ls ++ x ∷ []) (sym is)) among))
  where
    by : Contains (take i ls) k ⊎ (l ≡ k) → Contains (readers after k) q
    by (inl one) = kept k q (noted k one)
    by (inr e) = subst (λ j. Contains (readers after j) q) e here

-- the positions of one label more
pub positions_more : (table : List (List ℕ)) (ls : List ℕ) (i l : ℕ) (before after : List ℕ) → i < length ls → l ≡ get_or ls i 0 → after ≡ before ++ readers table l
    → ((k q : ℕ) → Contains (take i ls) k → Contains (readers table k) q → Contains before q) → (k q : ℕ) → Contains (take (i + 1) ls) k → Contains (readers table k) q → Contains after q
positions_more table ls i l before after h is added all k q among reads =
    subst (λ xs. Contains xs q) (sym added)
    (by (Contains-push_cases (take i ls) l k (subst (λ xs. Contains xs k) (take_more ls i 0 h ∙ ap (λ x. take i ls ++ x ∷ []) (sym is)) among)))
  where
    by : Contains (take i ls) k ⊎ (l ≡ k) → Contains (before ++ readers table l) q
    by (inl one) = Contains-append_left before (readers table l) q (all k q one reads)
    by (inr e) = Contains-append_right before (readers table l) q (subst (λ j. Contains (readers table j) q) (sym e) reads)

-- a label that the table doesn't have
pub no_readers : (table : List (List ℕ)) (l : ℕ) (got : Option (Bor (List ℕ))) → got ≡ None → option_copied got ≡ slice_get table l → readers table l ≡ []
no_readers table l got none is = by table l (sym is ∙ ap option_copied none)
  where
    by : (xs : List (List ℕ)) (i : ℕ) → slice_get xs i ≡ None → get_or xs i [] ≡ []
    by [] zero e = refl
    by [] (suc i) e = refl
    by (x ∷ xs) zero e = absurd cc
    by (x ∷ xs) (suc i) e = by xs i e

-- ---- the functions

pub noted_still : (before after : List (List ℕ)) (vs : List Visit) → KeepsReaders before after → AreNoted before vs → AreNoted after vs
noted_still before after vs kept noted = record {
  own = λ q v at l among. kept l q (noted.own q v at l among);
  given = λ q v at l among. kept l q (noted.given q v at l among);
}

-- an item of a list with one more item, and of one with another item at a position
of_longer : (vs : List Visit) (w v : Visit) (q : ℕ) → slice_get (vs ++ w ∷ []) q ≡ Some v → (slice_get vs q ≡ Some v) ⊎ ((q ≡ length vs) × (w ≡ v))
of_longer [] w v zero e = inr (refl, cc)
of_longer [] w v (suc q) e = absurd cc
of_longer (x ∷ vs) w v zero e = inl e
of_longer (x ∷ vs) w v (suc q) e = by (of_longer vs w v q e)
  where
    by : (slice_get vs q ≡ Some v) ⊎ ((q ≡ length vs) × (w ≡ v)) → (slice_get vs q ≡ Some v) ⊎ ((suc q ≡ suc (length vs)) × (w ≡ v))
    by (inl f) = inl f
    by (inr f) = inr (ap suc f.0, f.1)

pub of_set : (vs : List Visit) (i q : ℕ) (w v : Visit) → slice_get (set vs i w) q ≡ Some v → ((slice_get vs q ≡ Some v) × (q ≡ i → ⊥)) ⊎ ((q ≡ i) × (w ≡ v))
of_set [] i q w v e = absurd (none q e)
  where
    none : (j : ℕ) → slice_get {X = Visit} [] j ≡ Some v → ⊥
    none zero f = cc
    none (suc j) f = cc
of_set (x ∷ vs) zero zero w v e = inr (refl, cc)
of_set (x ∷ vs) zero (suc q) w v e = inl (e, λ f. cc)
of_set (x ∷ vs) (suc i) zero w v e = inl (e, λ f. cc)
of_set (x ∷ vs) (suc i) (suc q) w v e = by (of_set vs i q w v e)
  where
    by : ((slice_get vs q ≡ Some v) × (q ≡ i → ⊥)) ⊎ ((q ≡ i) × (w ≡ v)) → ((slice_get vs q ≡ Some v) × (suc q ≡ suc i → ⊥)) ⊎ ((suc q ≡ suc i) × (w ≡ v))
    by (inl f) = inl (f.0, λ g. f.1 cc)
    by (inr f) = inr (ap suc f.0, f.1)

-- one function more
pub noted_longer : (before after : List (List ℕ)) (vs new : List Visit) (v : Visit) → KeepsReaders before after → IsReader after v.own (length vs) → IsReader after v.given (length vs) → new ≡ vs ++ v ∷ []
    → AreNoted before vs → AreNoted after new
noted_longer before after vs new v kept own given is noted =
    subst (AreNoted after) (sym is)
    (record {
      own = λ q w at. first q w (of_longer vs v w q at);
      given = λ q w at. second q w (of_longer vs v w q at);
    })
  where
    first : (q : ℕ) (w : Visit) → (slice_get vs q ≡ Some w) ⊎ ((q ≡ length vs) × (v ≡ w)) → IsReader after w.own q
    first q w (inl e) l among = kept l q (noted.own q w e l among)
    first q w (inr e) l among =
        subst (λ p. Contains (readers after l) p) (sym e.0) (own l (subst (λ u. Contains u.own l) (sym e.1) among))

    second : (q : ℕ) (w : Visit) → (slice_get vs q ≡ Some w) ⊎ ((q ≡ length vs) × (v ≡ w)) → IsReader after w.given q
    second q w (inl e) l among = kept l q (noted.given q w e l among)
    second q w (inr e) l among =
        subst (λ p. Contains (readers after l) p) (sym e.0) (given l (subst (λ u. Contains u.given l) (sym e.1) among))

-- a function that was walked
pub noted_walked : (before after : List (List ℕ)) (vs new : List Visit) (i : ℕ) (v w : Visit) → KeepsReaders before after → slice_get vs i ≡ Some v → w.own ≡ v.own → IsReader after w.given i → new ≡ set vs i w
    → AreNoted before vs → AreNoted after new
noted_walked before after vs new i v w kept at same given is noted =
    subst (AreNoted after) (sym is)
    (record {
      own = λ q u there. first q u (of_set vs i q w u there);
      given = λ q u there. second q u (of_set vs i q w u there);
    })
  where
    first : (q : ℕ) (u : Visit) → ((slice_get vs q ≡ Some u) × (q ≡ i → ⊥)) ⊎ ((q ≡ i) × (w ≡ u)) → IsReader after u.own q
    first q u (inl e) l among = kept l q (noted.own q u e.0 l among)
    first q u (inr e) l among =
        let own : Contains v.own l = subst (λ ls. Contains ls l) (ap (λ x. x.own) (sym e.1) ∙ same) among in
        subst (λ p. Contains (readers after l) p) (sym e.0) (kept l i (noted.own i v at l own))

    second : (q : ℕ) (u : Visit) → ((slice_get vs q ≡ Some u) × (q ≡ i → ⊥)) ⊎ ((q ≡ i) × (w ≡ u)) → IsReader after u.given q
    second q u (inl e) l among = kept l q (noted.given q u e.0 l among)
    second q u (inr e) l among =
        subst (λ p. Contains (readers after l) p) (sym e.0) (given l (subst (λ x. Contains x.given l) (sym e.1) among))

-- one that gave to the same functions
pub same_visit : (vs : List Visit) (i : ℕ) (v w : Visit) (given : List ℕ) → slice_get vs i ≡ Some v → slice_get vs i ≡ Some w → v.given ≡ given → vs ≡ set vs i (record { own = w.own; given = given })
same_visit vs i v w given at there same = sym (ap (set vs i) visit ∙ by vs i there)
  where
    visit : ◌≡◌ {A = Visit} (record { own = w.own; given = given }) w
    visit = let e : v ≡ w = cc in ap (λ g. record { own = w.own; given = g }) (sym same ∙ ap (λ x. x.given) e)

    by : (xs : List Visit) (j : ℕ) → slice_get xs j ≡ Some w → set xs j w ≡ xs
    by [] zero e = absurd cc
    by [] (suc j) e = absurd cc
    by (x ∷ xs) zero e = ap (λ y. y ∷ xs) cc
    by (x ∷ xs) (suc j) e = ap (λ ys. x ∷ ys) (by xs j e)
