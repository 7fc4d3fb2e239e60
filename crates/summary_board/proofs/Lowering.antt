-- Lists of callers as they are made, and counts as they are lowered.
use Rattle.std.proofs.Common.{◌≡◌, inl, inr, ℕ, ◌+◌, ◌<◌, ◌≤◌, Bool, true, false, cond, List, [], ◌∷◌, ◌++◌, All, length}
use Rattle.std.proofs.Common.{drop, set, slice_index, refl, sym, ap, ◌∙◌, subst, arith, nat_eq, drop-cons, add-one}
use Rattle.std.proofs.lemmas.List.{get_or-set_same, get_or-set_other, length-set}
use Rattle.std.proofs.lemmas.List.Elements.{All-weaker}
use Rattle.summary_board.specs.Machine.{called}
use Rattle.summary_board.specs.steps.Agenda.{times, Lowered, LoweredTo, AddedTo}
use Rattle.summary_board.proofs.Counts.{same_test, other_test, times_drop, times_append}
use Rattle.summary_board.proofs.Sets.{same_or_not}

abbrev some_if : Bool → ℕ → ℕ
some_if b n = cond b n 0

abbrev one_if : Bool → ℕ
one_if b = some_if b 1

-- the callers that are left, with the next one first
times_next : (k : ℕ) (xs : List ℕ) (i : ℕ) → i < length xs → times k (drop i xs) ≡ one_if (nat_eq k (slice_index xs i)) + times k (drop (i + 1) xs)
times_next k xs i within = ap (times k) (drop-cons xs i 0 within) ∙ rw (add-one i) refl

module _ (callers counts counts' ready ready' : List ℕ) (i : ℕ) where
  -- ---- counts are lowered
  pub lowered_next : (counts'' ready'' : List ℕ) → LoweredTo callers (drop i callers) counts counts' ready ready' → i < length callers
      → Lowered (slice_index callers i ∷ []) counts' counts'' ready' ready'' → LoweredTo callers (drop (i + 1) callers) counts counts'' ready ready''
  lowered_next counts'' ready'' so_far within last =
      let x = slice_index callers i in record {
        as_many = last.as_many ∙ so_far.as_many;
        room = last.room ∙ so_far.room;
        lower = λ k. omega (arith, so_far.lower k, last.lower k, times_next k callers i within);
        marked = λ k.
            let next = times_next k callers i within in
            let most = times_drop k i callers in
            let lower = last.lower k in
            elim (same_or_not x k) [
              | inl same ↦
                  let one : one_if (nat_eq k x) ≡ 1 = rw (same_test k x same) refl in (
                    (λ on. elim ((last.marked k).0 on) [
                      | inl before ↦ elim ((so_far.marked k).0 before) [ inl first ↦ inl first | inr was ↦ absurd (omega (arith, was.1, lower, one)) ]
                      | inr now ↦ inr (omega (arith, next, one, most), now.1)
                    ]),
                    (λ either. elim either [
                      | inl first ↦ (last.marked k).1 (inl ((so_far.marked k).1 (inl first)))
                      | inr now ↦ (last.marked k).1 (inr (omega (arith, one), now.1))
                    ]),
                  )
              | inr other ↦
                  let none : one_if (nat_eq k x) ≡ 0 = rw (other_test k x other) refl in (
                    (λ on. elim ((last.marked k).0 on) [
                      | inl before ↦ elim ((so_far.marked k).0 before) [ inl first ↦ inl first | inr was ↦ inr (omega (arith, was.0, next, none), omega (arith, was.1, lower, none)) ]
                      | inr now ↦ absurd (omega (arith, now.0, none))
                    ]),
                    (λ either. elim either [
                      | inl first ↦ (last.marked k).1 (inl ((so_far.marked k).1 (inl first)))
                      | inr now ↦ (last.marked k).1 (inl ((so_far.marked k).1 (inr (omega (arith, now.0, next, none), omega (arith, now.1, lower, none)))))
                    ]),
                  )
            ];
      }

-- ---- a caller is added to the lists of those that it calls
sum_cond : (b : Bool) (p q : ℕ) → some_if b (p + q) ≡ some_if b p + some_if b q
sum_cond true p q = refl
sum_cond false p q = refl

no_cond : (b : Bool) → some_if b 0 ≡ 0
no_cond true = refl
no_cond false = refl

one_added : (callers : List (List ℕ)) (c x b d : ℕ) → x < length callers
    → times b (called (set callers x (called callers x ++ c ∷ [])) d) ≡ times b (called callers d) + some_if (nat_eq b c) (one_if (nat_eq d x))
one_added callers c x b d within =
    elim (same_or_not x d) [
      | inl same ↦
          let here : called (set callers x (called callers x ++ c ∷ [])) d ≡ called callers d ++ c ∷ [] =
          subst (λ (k : ℕ). called (set callers x (called callers x ++ c ∷ [])) k ≡ called callers k ++ c ∷ []) same (get_or-set_same callers x (called callers x ++ c ∷ []) [] within) in
          rw (here, same_test d x same, times_append b (called callers d) c) refl
      | inr other ↦
          let there : called (set callers x (called callers x ++ c ∷ [])) d ≡ called callers d = get_or-set_other callers x d (called callers x ++ c ∷ []) [] (λ is. other (sym is)) in
          let none : some_if (nat_eq b c) 0 ≡ 0 = no_cond (nat_eq b c) in
          rw (there, other_test d x other) (omega (arith, none))
    ]

pub added_next : (callers callers' : List (List ℕ)) (c : ℕ) (numbers : List ℕ) (i : ℕ) → AddedTo callers callers' c numbers (drop i numbers) → i < length numbers
    → slice_index numbers i < length callers'
    → AddedTo callers (set callers' (slice_index numbers i) (called callers' (slice_index numbers i) ++ c ∷ [])) c numbers (drop (i + 1) numbers)
added_next callers callers' c numbers i so_far within inside =
    let x = slice_index numbers i in record {
      as_many = length-set callers' x (called callers' x ++ c ∷ []) ∙ so_far.as_many;
      added = λ b d.
          let next = ap (λ (n : ℕ). some_if (nat_eq b c) n) (times_next d numbers i within) ∙ sum_cond (nat_eq b c) (one_if (nat_eq d x)) (times d (drop (i + 1) numbers)) in
          omega (arith, one_added callers' c x b d inside, so_far.added b d, next);
    }

pub below_all : (numbers : List ℕ) (callees : List (List ℕ)) (c n : ℕ) → numbers ≡ called callees c → All (λ d. d < c) (called callees c) → c ≤ n → All (λ d. d < n) numbers
below_all numbers callees c n is below few = rw is (All-weaker (λ d. d < c) (λ d. d < n) (λ d less. omega (arith, less, few)) (called callees c) below)

-- ---- the callers of one component after another
