-- Runs of bytes of a kind.
use Rattle.std.proofs.Common.{◌≡◌, ℕ, zero, suc, ◌+◌, ◌≤◌, List, [], ◌∷◌, ◌++◌, length, take, drop, refl, sym, ap, ◌∙◌, Bool, true, false, cond, arith, ◌||◌, ◌==◌}
use Rattle.std.specs.List.{prefix_len}
use Rattle.std.proofs.lemmas.Bool.Decides.{Decides-eqb}
use Rattle.std.proofs.lemmas.List.{take_at}
use Rattle.core_scan.specs.Escapes.{AllOf, NoneAhead}

-- ---- runs

pub prefix_len-append : (p : ℕ → Bool) (xs ys : List ℕ) → AllOf p xs → prefix_len p (xs ++ ys) ≡ length xs + prefix_len p ys
prefix_len-append p [] ys h = omega arith
prefix_len-append p (x ∷ xs) ys h = rw h.0 (let e : prefix_len p (xs ++ ys) ≡ length xs + prefix_len p ys = prefix_len-append p xs ys h.1 in omega arith)

pub prefix_len-none : (p : ℕ → Bool) (ys : List ℕ) → NoneAhead p ys → prefix_len p ys ≡ 0
prefix_len-none p [] h = refl
prefix_len-none p (y ∷ ys) h = rw h refl

-- a whole run, at which another kind of byte follows
pub prefix_len-run : (p : ℕ → Bool) (xs ys : List ℕ) → AllOf p xs → NoneAhead p ys → prefix_len p (xs ++ ys) ≡ length xs
prefix_len-run p xs ys h k =
    let e : prefix_len p (xs ++ ys) ≡ length xs + prefix_len p ys = prefix_len-append p xs ys h in
    let n : prefix_len p ys ≡ 0 = prefix_len-none p ys k in omega arith

pub take-run : (p : ℕ → Bool) (n : ℕ) (xs : List ℕ) → n ≤ prefix_len p xs → AllOf p (take n xs)
take-run p zero xs h = tt
take-run p (suc n) [] h = tt
take-run p (suc n) (x ∷ xs) h = go (p x) refl (take-run p n xs)
  where
    go : (b : Bool) → p x ≡ b → (n ≤ prefix_len p xs → AllOf p (take n xs)) → AllOf p (take (suc n) (x ∷ xs))
    go true e more = (e, more (let l : suc n ≤ 1 + prefix_len p xs = rw e at h in omega arith))
    go false e more = absurd (let l : suc n ≤ 0 = rw e at h in omega arith)

pub run_ends : (p : ℕ → Bool) (xs : List ℕ) → NoneAhead p (drop (prefix_len p xs) xs)
run_ends p [] = tt
run_ends p (x ∷ xs) = go (p x) refl (run_ends p xs)
  where
    go : (b : Bool) → p x ≡ b → NoneAhead p (drop (prefix_len p xs) xs) → NoneAhead p (drop (cond (p x) (1 + prefix_len p xs) 0) (x ∷ xs))
    go true e more = rw e (let q : 1 + prefix_len p xs ≡ suc (prefix_len p xs) = omega arith in rw q more)
    go false e more = rw e e

-- ---- one test after another

pub or_cases : (P : Type 0) (x y : Bool) → (x ≡ true → P) → (y ≡ true → P) → (x || y) ≡ true → P
or_cases P true y f g h = f refl
or_cases P false y f g h = g h

pub eq_from_test : (a b : ℕ) → (a == b) ≡ true → a ≡ b
eq_from_test a b h = (Decides-eqb a b).0 h

pub cond_cases : {A : Type 0} (P : Type 0) (b : Bool) (x y z : A) → (b ≡ true → x ≡ z → P) → (b ≡ false → y ≡ z → P) → cond b x y ≡ z → P
cond_cases P true x y z f g e = f refl e
cond_cases P false x y z f g e = g refl e

-- ---- prefixes

pub same_front : {X : Type 0} (a b x y : List X) → a ++ x ≡ b ++ y → length a ≡ length b → a ≡ b
same_front a b x y same long = sym (take_at a x (length a) refl) ∙ ap (take (length a)) same ∙ take_at b y (length a) (sym long)

pub take-add : {X : Type 0} (n m : ℕ) (xs : List X) → take (n + m) xs ≡ take n xs ++ take m (drop n xs)
take-add zero m xs = let e : 0 + m ≡ m = omega arith in rw e refl
take-add {X} (suc n) m [] = let e : suc n + m ≡ suc (n + m) = omega arith in rw e (none m)
  where
    none : (k : ℕ) → ◌≡◌ {A = List X} [] (take k [])
    none zero = refl
    none (suc k) = refl
take-add {X} (suc n) m (x ∷ xs) = let e : suc n + m ≡ suc (n + m) = omega arith in rw e (ap (λ (l : List X). x ∷ l) (take-add n m xs))
