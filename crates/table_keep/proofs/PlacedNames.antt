-- Where names stand: one more name behind others.
use Rattle.std.proofs.Common.{◌≡◌, ℕ, zero, suc, ◌+◌, ◌<◌, Bool, true, false, cond, List, [], ◌∷◌, Option, Some, None, take, slice_get, refl, sym, ap, ◌∙◌, true≢false, add-one, arith}
use Rattle.std.specs.Cmp.Lexicographic.{bytes_decides}
use Rattle.std.specs.Option.{option_map}
use Rattle.std.proofs.lemmas.Bool.{false_from_ne_true}
use Rattle.type_kinds.specs.declared.atom.Atom.{Atom}
use Rattle.core_scope.specs.Names.{same_atom}
use Rattle.table_keep.specs.declared.candidates.Positions.{Positions}
use Rattle.table_keep.specs.steps.Candidates.{place_of, both, standing, source_in}
use Rattle.table_keep.proofs.RisingNames.{some_is}

-- a name that stands at none of the first places
place_none : (names : List Atom) (n : ℕ) (x : Atom) → ((k : ℕ) → k < n → slice_get names k ≡ Some x → ⊥) → place_of (take n names) x ≡ None
place_none names zero x never = refl
place_none [] (suc n) x never = refl
place_none (y ∷ ys) (suc n) x never =
    ap (λ b. cond b (Some 0) (option_map suc (place_of (take n ys) x))) (false_from_ne_true (same_atom x y) (λ e. never 0 (omega arith) (ap Some (sym ((bytes_decides x y).0 e)))))
    ∙ ap (option_map suc) (place_none ys n x (λ k lt at. never (suc k) (omega (arith, lt)) at))

-- one more name, which doesn't stand earlier
one_behind : (names : List Atom) (n : ℕ) (x : Atom) → slice_get names n ≡ Some x → ((k : ℕ) → k < n → slice_get names k ≡ Some x → ⊥)
    → (q : Atom) → place_of (take (suc n) names) q ≡ cond (same_atom x q) (Some n) (place_of (take n names) q)
one_behind [] n x at never q = absurd cc
one_behind (y ∷ ys) zero x at never q = rw (some_is y x at) (by (same_atom x q) refl)
  where
    by : (b : Bool) → same_atom x q ≡ b → cond {A = Option ℕ} (same_atom q x) (Some 0) None ≡ cond b (Some 0) None
    by true e = ap (λ b. cond {A = Option ℕ} b (Some 0) None) ((bytes_decides q x).1 (sym ((bytes_decides x q).0 e)))
    by false e = ap (λ b. cond {A = Option ℕ} b (Some 0) None) (false_from_ne_true (same_atom q x) (λ t. true≢false (sym ((bytes_decides x q).1 (sym ((bytes_decides q x).0 t))) ∙ e)))
one_behind (y ∷ ys) (suc n) x at never q =
    ap (λ r. cond (same_atom q y) (Some 0) (option_map suc r)) (one_behind ys n x at (λ k lt h. never (suc k) (omega (arith, lt)) h) q)
    ∙ by (same_atom x q) (same_atom q y) refl refl
  where
    here : same_atom x q ≡ true → same_atom q y ≡ true → ⊥
    here e f = never 0 (omega arith) (ap Some (sym ((bytes_decides x q).0 e ∙ (bytes_decides q y).0 f)))

    by : (b d : Bool) → same_atom x q ≡ b → same_atom q y ≡ d
        → cond d (Some 0) (option_map suc (cond b (Some n) (place_of (take n ys) q))) ≡ cond b (Some (suc n)) (cond d (Some 0) (option_map suc (place_of (take n ys) q)))
    by true true e f = absurd (here e f)
    by true false e f = refl
    by false true e f = refl
    by false false e f = refl

pub one_more : (names : List Atom) (n : ℕ) (x : Atom) → slice_get names n ≡ Some x → ((k : ℕ) → k < n → slice_get names k ≡ Some x → ⊥)
    → (q : Atom) → place_of (take (n + 1) names) q ≡ cond (same_atom x q) (Some n) (place_of (take n names) q)
one_more names n x at never q = ap (λ k. place_of (take k names) q) (add-one n) ∙ one_behind names n x at never q

module _ (sources : List Atom) (n : ℕ) (x : Atom) (old new : Atom → Option Positions) (at : slice_get sources n ≡ Some x) (never : (k : ℕ) → k < n → slice_get sources k ≡ Some x → ⊥) where
  pub source_round : ((q : Atom) → old q ≡ standing (take n sources) [] q) → ((q : Atom) → new q ≡ cond (same_atom x q) (Some (record { source = Some n; entry = None })) (old q))
      → (q : Atom) → new q ≡ standing (take (n + 1) sources) [] q
  source_round kept put q = put q ∙ ap (cond (same_atom x q) (Some (record { source = Some n; entry = None }))) (kept q) ∙ by (same_atom x q) ∙ sym (ap (λ r. both r None) (one_more sources n x at never q))
    where
      by : (b : Bool) → cond b (Some (record { source = Some n; entry = None })) (both (place_of (take n sources) q) None) ≡ both (cond b (Some n) (place_of (take n sources) q)) None
      by true = refl
      by false = refl

module _ (sources entries : List Atom) (n : ℕ) (x : Atom) (old new : Atom → Option Positions) (at : slice_get entries n ≡ Some x) (never : (k : ℕ) → k < n → slice_get entries k ≡ Some x → ⊥) where
  pub entry_round : ((q : Atom) → old q ≡ standing sources (take n entries) q) → ((q : Atom) → new q ≡ cond (same_atom x q) (Some (record { source = source_in (old x); entry = Some n })) (old q))
      → (q : Atom) → new q ≡ standing sources (take (n + 1) entries) q
  entry_round kept put q = put q ∙ by (same_atom x q) refl ∙ sym (ap (both (place_of sources q)) (one_more entries n x at never q))
    where
      alone : (r : Option ℕ) → source_in (both r None) ≡ r
      alone None = refl
      alone (Some i) = refl

      with_entry : (r : Option ℕ) → Some (record { source = r; entry = Some n }) ≡ both r (Some n)
      with_entry None = refl
      with_entry (Some i) = refl

      before : source_in (old x) ≡ place_of sources x
      before = ap source_in (kept x) ∙ ap (λ r. source_in (both (place_of sources x) r)) (place_none entries n x never) ∙ alone (place_of sources x)

      by : (b : Bool) → same_atom x q ≡ b → cond b (Some (record { source = source_in (old x); entry = Some n })) (old q) ≡ both (place_of sources q) (cond b (Some n) (place_of (take n entries) q))
      by true e =
          let same : x ≡ q = (bytes_decides x q).0 e in
          ap (λ r. Some (record { source = r; entry = Some n })) (before ∙ ap (place_of sources) same) ∙ with_entry (place_of sources q)
      by false e = kept q
