-- Loops over lists of types.
use Rattle.std.proofs.Common.{◌≡◌, ℕ, zero, suc, ◌+◌, ◌-◌, ◌≤◌, Bool, true, false, ◌&&◌, List, [], ◌∷◌, ◌++◌, length, drop, take, replicate, min, refl, sym, ap, ◌∙◌, arith, append-nil}
use Rattle.type_lattice.specs.Inclusion.{is_same}
use Rattle.type_lattice.specs.Types.{Type4, any, cons}
use Rattle.module_flow_calls.specs.Calls.{fits}
use Rattle.module_flow_calls.specs.TypeLists.{as_many, are_same, joins, first, list_type}

-- joins
pub joins_none : (ts : List Type4) → joins ts [] ≡ []
joins_none [] = refl
joins_none (t ∷ ts) = refl

pub fits_none : (ts : List Type4) → fits ts [] ≡ true
fits_none [] = refl
fits_none (t ∷ ts) = refl

-- lists
pub list_type-append : (hs is : List Type4) (t : Type4) → list_type (hs ++ is) t ≡ list_type hs (list_type is t)
list_type-append [] is t = refl
list_type-append (h ∷ hs) is t = ap (λ u. cons h u true) (list_type-append hs is t)

-- ---- where the loops end

no_more : (b c : Bool) → false ≡ c → false ≡ (b && c)
no_more true c e = e
no_more false c e = refl

pub are_same_long : (ts us : List Type4) → (length ts ≡ length us → ⊥) → false ≡ are_same ts us
are_same_long [] [] n = absurd (n refl)
are_same_long [] (u ∷ us) n = refl
are_same_long (t ∷ ts) [] n = refl
are_same_long (t ∷ ts) (u ∷ us) n = no_more (is_same t u) (are_same ts us) (are_same_long ts us (λ e. n (ap suc e)))

as_many_is : (n : ℕ) (ts : List Type4) → take n ts ++ replicate (n - length (take n ts)) any ≡ as_many n ts
as_many_is zero ts = refl
as_many_is (suc n) [] =
    let k : suc n - 0 ≡ suc n = omega arith in
    let m : n - 0 ≡ n = omega arith in
    ap (λ j. replicate j any) k ∙ ap (λ us. any ∷ us) (ap (λ j. replicate j any) (sym m) ∙ none_taken n (as_many_is n []))
  where
    none_taken : (n : ℕ) → take {A = Type4} n [] ++ replicate (n - length (take {A = Type4} n [])) any ≡ as_many n [] → replicate (n - 0) any ≡ as_many n []
    none_taken zero e = e
    none_taken (suc n) e = e
as_many_is (suc n) (t ∷ ts) =
    let k : suc n - suc (length (take n ts)) ≡ n - length (take n ts) = omega arith in
    ap (λ us. t ∷ us) (ap (λ j. take n ts ++ replicate j any) k ∙ as_many_is n ts)

pub as_many_parts : (n k : ℕ) (ts us vs : List Type4) → us ≡ take n ts → k ≡ length us → vs ≡ us ++ replicate (n - k) any → vs ≡ as_many n ts
as_many_parts n k ts us vs first long all =
    all ∙ ap (λ j. us ++ replicate (n - j) any) long ∙ ap (λ xs. xs ++ replicate (n - length xs) any) first ∙ as_many_is n ts

pub joins_done : (ts us : List Type4) (i n : ℕ) → n ≡ min (length ts) (length us) → n ≤ i → joins (drop i ts) (drop i us) ≡ []
joins_done [] us i n e h = ap (λ xs. joins xs (drop i us)) (nothing_dropped i)
  where
    nothing_dropped : (i : ℕ) → drop {A = Type4} i [] ≡ []
    nothing_dropped zero = refl
    nothing_dropped (suc i) = refl
joins_done (t ∷ ts) [] i n e h = ap (joins (drop i (t ∷ ts))) (nothing_dropped i) ∙ joins_none (drop i (t ∷ ts))
  where
    nothing_dropped : (i : ℕ) → drop {A = Type4} i [] ≡ []
    nothing_dropped zero = refl
    nothing_dropped (suc i) = refl
joins_done (t ∷ ts) (u ∷ us) zero n e h = absurd (omega arith)
joins_done (t ∷ ts) (u ∷ us) (suc i) n e h = joins_done ts us i (min (length ts) (length us)) refl (omega arith)

pub fits_done : (ts us : List Type4) (i n : ℕ) → n ≡ min (length ts) (length us) → n ≤ i → fits (drop i ts) (drop i us) ≡ true
fits_done [] us i n e h = ap (λ xs. fits xs (drop i us)) (nothing_dropped i)
  where
    nothing_dropped : (i : ℕ) → drop {A = Type4} i [] ≡ []
    nothing_dropped zero = refl
    nothing_dropped (suc i) = refl
fits_done (t ∷ ts) [] i n e h = ap (fits (drop i (t ∷ ts))) (nothing_dropped i) ∙ fits_none (drop i (t ∷ ts))
  where
    nothing_dropped : (i : ℕ) → drop {A = Type4} i [] ≡ []
    nothing_dropped zero = refl
    nothing_dropped (suc i) = refl
fits_done (t ∷ ts) (u ∷ us) zero n e h = absurd (omega arith)
fits_done (t ∷ ts) (u ∷ us) (suc i) n e h = fits_done ts us i (min (length ts) (length us)) refl (omega arith)

pub joins_end : (ts us rs : List Type4) (i n : ℕ) → n ≡ min (length ts) (length us) → n ≤ i → rs ++ joins (drop i ts) (drop i us) ≡ joins ts us → rs ≡ joins ts us
joins_end ts us rs i n e h all = sym (append-nil rs) ∙ ap (λ xs. rs ++ xs) (sym (joins_done ts us i n e h)) ∙ all

pub list_round : (es rest front : List Type4) (last t list longer : Type4) → rest ≡ front ++ last ∷ [] → longer ≡ cons last list true → list_type rest list ≡ list_type es t → list_type front longer ≡ list_type es t
list_round es rest front last t list longer parts made before =
    ap (list_type front) made ∙ sym (list_type-append front (last ∷ []) list) ∙ ap (λ ts. list_type ts list) (sym parts) ∙ before
