-- What a loop over slots has done and what is left of it.
use Rattle.std.proofs.Common.{◌≡◌, ℕ, zero, suc, ◌+◌, ◌<◌, ◌≤◌, Bool, true, List, [], ◌∷◌, ◌++◌, length, get_or, set, take, drop, map, Some, None, refl, sym, ap, ◌∙◌, arith, add-one, min, inl, inr}
use Rattle.std.specs.Prelude.{◌||◌}
use Rattle.std.specs.List.{list_any}
use Rattle.std.proofs.lemmas.Bool.{cases_lt}
use Rattle.std.proofs.lemmas.List.{drop_all, drop_more}
use Rattle.type_lattice.specs.Types.{Type4, any, none, project}
use Rattle.cons_tree.specs.Environments.{Types, type_at, on_types, lowered}
use Rattle.cons_tree.specs.Narrowing.{each_typed, each_projected}

-- the types with none in the first i positions
abbrev pub emptied : ℕ → Types → Types
emptied zero xs = xs
emptied (suc i) [] = []
emptied (suc i) (x ∷ xs) = none ∷ emptied i xs

pub emptied_more : (i : ℕ) (xs : Types) → set (emptied i xs) i none ≡ emptied (i + 1) xs
emptied_more zero [] = refl
emptied_more zero (x ∷ xs) = refl
emptied_more (suc i) [] = ap (λ n. emptied n []) (sym (add-one (suc i)))
emptied_more (suc i) (x ∷ xs) = ap (λ l. none ∷ l) (emptied_more i xs) ∙ sym (ap (λ n. emptied n (x ∷ xs)) (add-one (suc i)) ∙ ap (λ n. none ∷ emptied n xs) (sym (add-one i)))

pub emptied_length : (i : ℕ) (xs : Types) → length (emptied i xs) ≡ length xs
emptied_length zero xs = refl
emptied_length (suc i) [] = refl
emptied_length (suc i) (x ∷ xs) = ap suc (emptied_length i xs)

pub emptied_all : (i : ℕ) (xs : Types) → length xs ≤ i → emptied i xs ≡ map (λ t. none) xs
emptied_all zero [] h = refl
emptied_all zero (x ∷ xs) h = absurd (omega (arith, h))
emptied_all (suc i) [] h = refl
emptied_all (suc i) (x ∷ xs) h = ap (λ l. none ∷ l) (emptied_all i xs (omega (arith, h)))

pub types_more : (f : ℕ → Type4) (ws : List ℕ) (i : ℕ) → i < length ws → map f (take (i + 1) ws) ≡ map f (take i ws) ++ f (get_or ws i 0) ∷ []
types_more f [] i h = absurd (omega (arith, h))
types_more f (w ∷ ws) zero h = refl
types_more f (w ∷ ws) (suc i) h =
    ap (λ n. map f (take n (w ∷ ws))) (add-one (suc i)) ∙ ap (λ l. f w ∷ l) (sym (ap (λ n. map f (take n ws)) (add-one i)) ∙ types_more f ws i (omega (arith, h)))

pub any_found : (p : Type4 → Bool) (f : ℕ → Type4) (ws : List ℕ) (i : ℕ) → i < length ws → p (f (get_or ws i 0)) ≡ true → list_any p (map f (drop i ws)) ≡ true
any_found p f ws i h e = ap (λ l. list_any p (map f l)) (drop_more ws i 0 h) ∙ ap (λ b. b || list_any p (map f (drop (i + 1) ws))) e

-- an item, whatever stands past the end
pub got : {A : Type 0} (l : List A) (i : ℕ) (x d : A) → i < length l → x ≡ get_or l i x → x ≡ get_or l i d
got [] i x d h e = absurd (omega (arith, h))
got (y ∷ l) zero x d h e = e
got (y ∷ l) (suc i) x d h e = got l i x d (omega (arith, h)) e

-- ---- each slot with its type

typed_open : (vs : List ℕ) (ts : Types) (i : ℕ) (xs : Types) → i < length vs → i < length ts
    → each_typed (drop i vs) (drop i ts) xs ≡ on_types (lowered xs (get_or vs i 0) (get_or ts i any)) (each_typed (drop (i + 1) vs) (drop (i + 1) ts))
unfolding each_typed
typed_open vs ts i xs h k = λ j. each_typed (drop_more vs i 0 h j) (drop_more ts i any k j) xs

pub typed_stops : (vs : List ℕ) (ts : Types) (i : ℕ) (t : Type4) (xs : Types) → i < length vs → i < length ts → t ≡ get_or ts i any → lowered xs (get_or vs i 0) t ≡ None → each_typed (drop i vs) (drop i ts) xs ≡ None
typed_stops vs ts i t xs h k e n =
    typed_open vs ts i xs h k ∙ ap (λ r. on_types r (each_typed (drop (i + 1) vs) (drop (i + 1) ts))) (ap (lowered xs (get_or vs i 0)) (sym e) ∙ n)

pub typed_goes_on : (vs : List ℕ) (ts : Types) (i : ℕ) (t : Type4) (xs ys : Types) → i < length vs → i < length ts → t ≡ get_or ts i any → lowered xs (get_or vs i 0) t ≡ Some ys
    → each_typed (drop i vs) (drop i ts) xs ≡ each_typed (drop (i + 1) vs) (drop (i + 1) ts) ys
typed_goes_on vs ts i t xs ys h k e n =
    typed_open vs ts i xs h k ∙ ap (λ r. on_types r (each_typed (drop (i + 1) vs) (drop (i + 1) ts))) (ap (lowered xs (get_or vs i 0)) (sym e) ∙ n)

no_slots : (ts xs : Types) → each_typed [] ts xs ≡ Some xs
unfolding each_typed
no_slots ts xs = refl

no_types : (vs : List ℕ) (xs : Types) → each_typed vs [] xs ≡ Some xs
unfolding each_typed
no_types [] xs = refl
no_types (v ∷ vs) xs = refl

pub typed_slots_end : (vs : List ℕ) (ts : Types) (i : ℕ) (xs : Types) → length vs ≤ i → each_typed (drop i vs) (drop i ts) xs ≡ Some xs
typed_slots_end vs ts i xs h = ap (λ l. each_typed l (drop i ts) xs) (drop_all i vs h) ∙ no_slots (drop i ts) xs

pub typed_types_end : (vs : List ℕ) (ts : Types) (i : ℕ) (xs : Types) → length ts ≤ i → each_typed (drop i vs) (drop i ts) xs ≡ Some xs
typed_types_end vs ts i xs h = ap (λ l. each_typed (drop i vs) l xs) (drop_all i ts h) ∙ no_types (drop i vs) xs

pub typed_end : (vs : List ℕ) (ts : Types) (i : ℕ) (xs : Types) → min (length vs) (length ts) ≤ i → each_typed (drop i vs) (drop i ts) xs ≡ Some xs
typed_end vs ts i xs h = elim (cases_lt i (length vs)) [
  | inl l ↦ typed_types_end vs ts i xs (omega (arith, h, l))
  | inr l ↦ typed_slots_end vs ts i xs l
]

-- ---- each slot with what stands at its position

projected_open : (v n : ℕ) (ws : List ℕ) (i : ℕ) (xs : Types) → i < length ws → each_projected v n (i + 1) (drop i ws) xs
    ≡ on_types (lowered xs (get_or ws i 0) (project (type_at xs v) n (i + 1))) (each_projected v n (i + 1 + 1) (drop (i + 1) ws))
unfolding each_projected
projected_open v n ws i xs h =
    ap (λ l. each_projected v n (i + 1) l xs) (drop_more ws i 0 h) ∙ ap (λ m. on_types (lowered xs (get_or ws i 0) (project (type_at xs v) n (i + 1))) (each_projected v n m (drop (i + 1) ws))) (sym (add-one (i + 1)))

pub projected_stops : (v n : ℕ) (ws : List ℕ) (i : ℕ) (t : Type4) (xs : Types) → i < length ws → t ≡ project (type_at xs v) n (i + 1) → lowered xs (get_or ws i 0) t ≡ None
    → each_projected v n (i + 1) (drop i ws) xs ≡ None
projected_stops v n ws i t xs h e k =
    projected_open v n ws i xs h ∙ ap (λ r. on_types r (each_projected v n (i + 1 + 1) (drop (i + 1) ws))) (ap (lowered xs (get_or ws i 0)) (sym e) ∙ k)

pub projected_goes_on : (v n : ℕ) (ws : List ℕ) (i : ℕ) (t : Type4) (xs ys : Types) → i < length ws → t ≡ project (type_at xs v) n (i + 1) → lowered xs (get_or ws i 0) t ≡ Some ys
    → each_projected v n (i + 1) (drop i ws) xs ≡ each_projected v n (i + 1 + 1) (drop (i + 1) ws) ys
projected_goes_on v n ws i t xs ys h e k =
    projected_open v n ws i xs h ∙ ap (λ r. on_types r (each_projected v n (i + 1 + 1) (drop (i + 1) ws))) (ap (lowered xs (get_or ws i 0)) (sym e) ∙ k)

pub projected_end : (v n : ℕ) (ws : List ℕ) (i j : ℕ) (xs : Types) → length ws ≤ i → each_projected v n j (drop i ws) xs ≡ Some xs
unfolding each_projected
projected_end v n ws i j xs h = ap (λ l. each_projected v n j l xs) (drop_all i ws h)
