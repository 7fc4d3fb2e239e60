-- Two readings of the same tokens leave the same rest, whatever they say, where no barred token follows.
use Rattle.std.proofs.Common.{◌≡◌, ◌⊎◌, inl, inr, ℕ, zero, suc, Bool, true, false, nat_lt, ◌&&◌, ◌||◌, List, [], ◌∷◌, ◌++◌, refl, sym, subst, arith, true≢false}
use Rattle.std.proofs.lemmas.Bool.{and_parts}
use Rattle.core_scan.specs.declared.token.Token.{Token}
use Rattle.core_scan.specs.declared.sort.Sort.{Sort}
use Rattle.core_scan.specs.declared.sort.Sort.TheVariants as s
use Rattle.core_scan.specs.Sorts.{sort, fits}
use Rattle.core_scan.proofs.SortLaws.{fitting}
use Rattle.core_reading_laws.proofs.Symbols.{Symbol, token_of, opening, Head, rows, same, same_is}
use Rattle.core_reading_laws.proofs.Apart.{Bar, nothing_barred, slash, equals, blocks, within, bar, bar_of, meets, all_rows, first_of_row, never, never_barred, may_follow, is_known, level_of, apart, row_fine, rows_fine}
use Rattle.core_reading_laws.proofs.Fine.{known_fine}
use Rattle.core_reading_laws.proofs.Derived.{Derives, taken, opened, RunsOne, this_row, other_row, Runs, at_end, and_then, one_within, runs_append, some_row_of}

-- the first token isn't barred
abbrev pub IsFree : Bar → List Token → Type 0
IsFree b [] = Unit {0}
IsFree b (t ∷ ts) = blocks b (sort t) ≡ false

-- ---- sorts

either_true : (x y : Bool) → (x ≡ true) ⊎ (y ≡ true) → (x || y) ≡ true
either_true true y h = refl
either_true false y (inl h) = absurd (true≢false (sym h))
either_true false y (inr h) = h

-- a token of both sorts
pub both_fit : (c e q : Sort) → fits c q ≡ true → fits e q ≡ true → meets c e ≡ true
both_fit c e q f g = by (fitting c q f) (fitting e q g)
  where
    by : (q ≡ c) ⊎ ((c ≡ s.Integer) × (q ≡ s.Small)) → (q ≡ e) ⊎ ((e ≡ s.Integer) × (q ≡ s.Small)) → meets c e ≡ true
    by (inl h) j = either_true (fits c e) (fits e c) (inr (subst (λ x. fits e x ≡ true) h g))
    by (inr h) (inl j) = either_true (fits c e) (fits e c) (inl (subst (λ x. fits c x ≡ true) j f))
    by (inr h) (inr j) = either_true (fits c e) (fits e c) (inl (subst (λ x. fits x e ≡ true) (sym h.0) (subst (λ x. fits s.Integer x ≡ true) (sym j.0) refl)))

is_slash : (c : Sort) → fits s.Slash c ≡ true → c ≡ s.Slash
is_slash c f = elim (fitting s.Slash c f) [ inl h ↦ h | inr h ↦ absurd cc ]

is_equals : (c : Sort) → fits s.Equals c ≡ true → c ≡ s.Equals
is_equals c f = elim (fitting s.Equals c f) [ inl h ↦ h | inr h ↦ absurd cc ]

-- a token of a barred sort is barred
blocked : (b : Bar) (c q : Sort) → blocks b c ≡ true → fits c q ≡ true → blocks b q ≡ true
blocked nothing_barred c q e f = e
blocked slash c q e f = subst (λ x. fits x q ≡ true) (is_slash c e) f
blocked equals c q e f = subst (λ x. fits x q ≡ true) (is_equals c e) f

free_within : (b c : Bar) → within c b ≡ true → (us : List Token) → IsFree b us → IsFree c us
free_within b nothing_barred e [] f = tt
free_within b nothing_barred e (u ∷ us) f = refl
free_within slash slash e us f = f
free_within equals equals e us f = f
free_within nothing_barred slash e us f = absurd (true≢false (sym e))
free_within nothing_barred equals e us f = absurd (true≢false (sym e))
free_within slash equals e us f = absurd (true≢false (sym e))
free_within equals slash e us f = absurd (true≢false (sym e))

-- ---- what follows

first_sound : (test : Symbol → Bool) (m : ℕ) (r : List Symbol) (ts us : List Token) → first_of_row test r ≡ true → Runs m r ts us → ((p : Symbol) (mid : List Token) → test p ≡ true → Derives m p ts mid → ⊥) → ⊥
first_sound test m [] ts us e run off = true≢false (sym e)
first_sound test m (p ∷ ps) ts us e (and_then {us = mid} d run) off = off p mid e d

never_sound : (k : ℕ) (p : Symbol) (c : Sort) → never k p c ≡ true → (m : ℕ) (t : Token) (ts us : List Token) → Derives m p (t ∷ ts) us → fits c (sort t) ≡ true → ⊥
never_sound k (token_of e) c n m t ts us (taken f) g = let x = both_fit e c (sort t) f g in absurd cc
never_sound zero (opening h) c n m t ts us d g = true≢false (sym n)
never_sound (suc k) (opening h) c n m t ts us d g =
    let r = some_row_of m (λ r. first_of_row (λ s. never k s c) r) h n (t ∷ ts) us d in
    first_sound (λ s. never k s c) m r.0 (t ∷ ts) us r.1.0 r.1.1 (λ p mid e d. never_sound k p c e m t ts mid d g)

not_both : (x : Bool) → (x ≡ true → ⊥) → x ≡ false
not_both true h = absurd (h refl)
not_both false h = refl

never_barred_sound : (c : Bar) (q : Symbol) → never_barred c q ≡ true → (m : ℕ) (ts us : List Token) → Derives m q ts us → IsFree c ts
never_barred_sound c q e m [] us d = tt
never_barred_sound nothing_barred q e m (t ∷ ts) us d = refl
never_barred_sound slash q e m (t ∷ ts) us d = not_both (fits s.Slash (sort t)) (never_sound 12 q s.Slash e m t ts us d)
never_barred_sound equals q e m (t ∷ ts) us d = not_both (fits s.Equals (sort t)) (never_sound 12 q s.Equals e m t ts us d)

pub follow_free : (b c : Bar) (ps : List Symbol) → may_follow b c ps ≡ true → (m : ℕ) (us vs : List Token) → Runs m ps us vs → IsFree b vs → IsFree c us
follow_free b c [] e m us vs at_end f = free_within b c e us f
follow_free b c (q ∷ qs) e m us vs (and_then {us = mid} d r) f = never_barred_sound c q e m us mid d

-- ---- rows apart

-- so it is of symbols with so few nonterminals in one another
abbrev Rests : ℕ → Type 0
Rests m = (p : Symbol) → is_known p ≡ true → (ts us vs : List Token) → Derives m p ts us → Derives m p ts vs → IsFree (bar p) us → IsFree (bar p) vs → us ≡ vs

-- two rows don't both read what they read of the same tokens
abbrev Sound : ℕ → Bar → ℕ → Type 0
Sound m b k = (ps qs : List Symbol) → apart b k ps qs ≡ true → (ts us vs : List Token) → Runs m ps ts us → Runs m qs ts vs → IsFree b us → IsFree b vs → ⊥

-- a row of rows that are fine
pub fine_row : (b : Bar) (r : List Symbol) (rs : List (List Symbol)) → rows_fine b (r ∷ rs) ≡ true → (row_fine b r ≡ true) × (all_rows (λ q. apart b 60 r q) rs ≡ true) × (rows_fine b rs ≡ true)
fine_row b r rs e =
    let row = and_parts (row_fine b r) (all_rows (λ q. apart b 60 r q) rs && rows_fine b rs) e in
    let others = and_parts (all_rows (λ q. apart b 60 r q) rs) (rows_fine b rs) row.1 in
    (row.0, others.0, others.1)

module _ (m : ℕ) (rests : Rests m) where
  by_tokens : (z rest : Bool) → z ≡ true → elim z [ true ↦ rest | false ↦ true ] ≡ true → rest ≡ true
  by_tokens true rest w e = e
  by_tokens false rest w e = absurd (true≢false (sym w))

  module _ (b : Bar) (k : ℕ) (next : Sound m b k) (h i : Head) (ps qs : List Symbol) (ts us vs mid other : List Token)
      (d : Derives m (opening h) ts mid) (x : Runs m ps mid us) (c : Derives m (opening i) ts other) (y : Runs m qs other vs) (f : IsFree b us) (g : IsFree b vs) where
    at_same : opening h ≡ opening i → is_known (opening h) && (may_follow b (bar_of h) ps && (may_follow b (bar_of h) qs && apart b k ps qs)) ≡ true → ⊥
    at_same w e =
        let known = and_parts (is_known (opening h)) (may_follow b (bar_of h) ps && (may_follow b (bar_of h) qs && apart b k ps qs)) e in
        let left = and_parts (may_follow b (bar_of h) ps) (may_follow b (bar_of h) qs && apart b k ps qs) known.1 in
        let right = and_parts (may_follow b (bar_of h) qs) (apart b k ps qs) left.1 in
        let one = rests (opening h) known.0 ts mid other d (subst (λ p. Derives m p ts other) (sym w) c) (follow_free b (bar_of h) ps left.0 m mid us x f) (follow_free b (bar_of h) qs right.0 m other vs y g) in
        next ps qs right.1 mid us vs x (subst (λ l. Runs m qs l vs) (sym one) y) f g

    at_other : (z : Bool) → elim z [ true ↦ all_rows (λ r. apart b k (r ++ qs) (opening h ∷ ps)) (rows i) | false ↦ all_rows (λ r. apart b k (r ++ ps) (opening i ∷ qs)) (rows h) ] ≡ true → ⊥
    at_other true e =
        let r = some_row_of m (λ r. apart b k (r ++ qs) (opening h ∷ ps)) i e ts other c in
        next (r.0 ++ qs) (opening h ∷ ps) r.1.0 ts vs us (runs_append m r.0 qs ts other vs r.1.1 y) (and_then d x) g f
    at_other false e =
        let r = some_row_of m (λ r. apart b k (r ++ ps) (opening i ∷ qs)) h e ts mid d in
        next (r.0 ++ ps) (opening i ∷ qs) r.1.0 ts us vs (runs_append m r.0 ps ts mid us r.1.1 x) (and_then c y) f g

    at_two : (z : Bool) → same (opening h) (opening i) ≡ z
        → elim z [
          | true ↦ is_known (opening h) && (may_follow b (bar_of h) ps && (may_follow b (bar_of h) qs && apart b k ps qs))
          | false ↦ elim (nat_lt (level_of h) (level_of i)) [ true ↦ all_rows (λ r. apart b k (r ++ qs) (opening h ∷ ps)) (rows i) | false ↦ all_rows (λ r. apart b k (r ++ ps) (opening i ∷ qs)) (rows h) ]
        ] ≡ true → ⊥
    at_two true w e = at_same (same_is (opening h) (opening i) w) e
    at_two false w e = at_other (nat_lt (level_of h) (level_of i)) e

  pub apart_sound : (b : Bar) (k : ℕ) → Sound m b k
  apart_sound b zero ps qs e ts us vs x y f g = true≢false (sym e)
  apart_sound b (suc k) [] [] e ts us vs x y f g = true≢false (sym e)
  apart_sound b (suc k) [] (token_of c ∷ qs) e (t ∷ ts) us vs at_end (and_then (taken h) y) f g = let z = blocked b c (sort t) e h in absurd cc
  apart_sound b (suc k) [] (token_of c ∷ qs) e [] us vs x (and_then d y) f g = elim d [ ]
  apart_sound b (suc k) [] (opening h ∷ qs) e ts us vs x y f g = true≢false (sym e)
  apart_sound b (suc k) (p ∷ ps) [] e ts us vs x y f g = apart_sound b k [] (p ∷ ps) e ts vs us y x g f
  apart_sound b (suc k) (token_of c ∷ ps) (token_of i ∷ qs) e [] us vs (and_then d x) y f g = elim d [ ]
  apart_sound b (suc k) (token_of c ∷ ps) (token_of i ∷ qs) e (t ∷ ts) us vs (and_then (taken h) x) (and_then (taken j) y) f g =
      apart_sound b k ps qs (by_tokens (meets c i) (apart b k ps qs) (both_fit c i (sort t) h j) e) ts us vs x y f g
  apart_sound b (suc k) (token_of c ∷ ps) (opening h ∷ qs) e ts us vs x (and_then {us = mid} d y) f g =
      let r = some_row_of m (λ r. apart b k (r ++ qs) (token_of c ∷ ps)) h e ts mid d in
      apart_sound b k (r.0 ++ qs) (token_of c ∷ ps) r.1.0 ts vs us (runs_append m r.0 qs ts mid vs r.1.1 y) x g f
  apart_sound b (suc k) (opening h ∷ ps) (token_of c ∷ qs) e ts us vs (and_then {us = mid} d x) y f g =
      let r = some_row_of m (λ r. apart b k (r ++ ps) (token_of c ∷ qs)) h e ts mid d in
      apart_sound b k (r.0 ++ ps) (token_of c ∷ qs) r.1.0 ts us vs (runs_append m r.0 ps ts mid us r.1.1 x) y f g
  apart_sound b (suc k) (opening h ∷ ps) (opening i ∷ qs) e ts us vs (and_then {us = mid} d x) (and_then {us = other} c y) f g =
      at_two b k (apart_sound b k) h i ps qs ts us vs mid other d x c y f g (same (opening h) (opening i)) refl e

  -- ---- one row

  pub row_rest : (b : Bar) (ps : List Symbol) → row_fine b ps ≡ true → (ts us vs : List Token) → Runs m ps ts us → Runs m ps ts vs → IsFree b us → IsFree b vs → us ≡ vs
  row_rest b [] e ts us vs at_end at_end f g = refl
  row_rest b (p ∷ ps) e ts us vs (and_then {us = mid} d x) (and_then {us = other} c y) f g =
      let known = and_parts (is_known p) (may_follow b (bar p) ps && row_fine b ps) e in
      let follows = and_parts (may_follow b (bar p) ps) (row_fine b ps) known.1 in
      let one = rests p known.0 ts mid other d c (follow_free b (bar p) ps follows.0 m mid us x f) (follow_free b (bar p) ps follows.0 m other vs y g) in
      row_rest b ps follows.1 mid us vs x (subst (λ l. Runs m ps l vs) (sym one) y) f g

  pub apart_all : (b : Bar) (p : List Symbol) (rs : List (List Symbol)) → all_rows (λ q. apart b 60 p q) rs ≡ true → (ts us vs : List Token) → Runs m p ts us → RunsOne m rs ts vs → IsFree b us → IsFree b vs → ⊥
  apart_all b p [] e ts us vs x y f g = elim y [ ]
  apart_all b p (r ∷ rs) e ts us vs x (this_row y) f g = apart_sound b 60 p r (and_parts (apart b 60 p r) (all_rows (λ q. apart b 60 p q) rs) e).0 ts us vs x y f g
  apart_all b p (r ∷ rs) e ts us vs x (other_row y) f g = apart_all b p rs (and_parts (apart b 60 p r) (all_rows (λ q. apart b 60 p q) rs) e).1 ts us vs x y f g

  pub rows_rest : (b : Bar) (rs : List (List Symbol)) → rows_fine b rs ≡ true → (ts us vs : List Token) → RunsOne m rs ts us → RunsOne m rs ts vs → IsFree b us → IsFree b vs → us ≡ vs
  rows_rest b [] e ts us vs x y f g = elim x [ ]
  rows_rest b (r ∷ rs) e ts us vs (this_row x) (this_row y) f g = row_rest b r (fine_row b r rs e).0 ts us vs x y f g
  rows_rest b (r ∷ rs) e ts us vs (this_row x) (other_row y) f g = absurd (apart_all b r rs (fine_row b r rs e).1 ts us vs x y f g)
  rows_rest b (r ∷ rs) e ts us vs (other_row x) (this_row y) f g = absurd (apart_all b r rs (fine_row b r rs e).1 ts vs us y x g f)
  rows_rest b (r ∷ rs) e ts us vs (other_row x) (other_row y) f g = rows_rest b rs (fine_row b r rs e).2 ts us vs x y f g

-- ---- one rest

pub one_rest : (m : ℕ) → Rests m
one_rest m (token_of c) known [] us vs d e f g = elim d [ ]
one_rest m (token_of c) known (t ∷ ts) us vs (taken x) (taken y) f g = refl
one_rest zero (opening h) known ts us vs (opened low x) d f g = absurd (omega (arith, low))
one_rest (suc m) (opening h) known ts us vs (opened {k = j} low x) (opened {k = i} less y) f g =
    rows_rest m (one_rest m) (bar_of h) (rows h) (known_fine h known) ts us vs (one_within j m (omega (arith, low)) (rows h) ts us x) (one_within i m (omega (arith, less)) (rows h) ts vs y) f g
