-- Strict orders, each with its test, and how one is put together of numbers.
use Rattle.std.proofs.Common.{◌≡◌, ℕ, ◌<◌, ◌⊎◌, inl, inr, ◌||◌, ◌&&◌, Bool, true, false, eqb, ltb, eqb-true, eq-eqb, refl, sym, ap, ◌∙◌, arith}
use Rattle.std.proofs.lemmas.Bool.{and_parts, lt-ltb, ltb-true, ltb-false, or_right, or_cases, and_from}

-- ---- numbers

number_other : (k m n : ℕ) → k < m → (n < m → ⊥) → k < n
number_other k m n less apart = by (ltb n m) refl
  where
    by : (t : Bool) → ltb n m ≡ t → k < n
    by true t = absurd (apart (ltb-true n m t))
    by false t = let e = ltb-false n m t in omega arith

-- Of two numbers the one is less, or the other, or they are one.
pub neither_less : (m n : ℕ) → (m < n → ⊥) → (n < m → ⊥) → m ≡ n
neither_less m n low high = by (ltb m n) refl (ltb n m) refl
  where
    by : (s : Bool) → ltb m n ≡ s → (t : Bool) → ltb n m ≡ t → m ≡ n
    by true s t u = absurd (low (ltb-true m n s))
    by false s true u = absurd (high (ltb-true n m u))
    by false s false u = let e = ltb-false m n s in let f = ltb-false n m u in omega arith

-- ---- strict orders

module _ {A : Type 0} where
  -- A strict order, and a test that tells it.
  pub record IsStrictOrder (Less : A → A → Type 0) (test : A → A → Bool) : Type 0 where
    pub sound : (a b : A) → test a b ≡ true → Less a b
    pub complete : (a b : A) → Less a b → test a b ≡ true
    pub transitive : (a b c : A) → Less a b → Less b c → Less a c
    pub irreflexive : (a : A) → Less a a → ⊥
    -- what comes before one that another doesn't come before, comes before that other
    pub before_other : (a b c : A) → Less a b → (Less c b → ⊥) → Less a c

  -- what isn't told doesn't hold
  pub not_told : (Less : A → A → Type 0) (test : A → A → Bool) → IsStrictOrder Less test → (a b : A) → test a b ≡ false → Less a b → ⊥
  not_told Less test o a b h less = let t = o.complete a b less in absurd cc

  -- The order by a number.
  pub by_number : (f : A → ℕ) → IsStrictOrder (λ a b. f a < f b) (λ a b. ltb (f a) (f b))
  by_number f = record {
    sound = λ a b h. ltb-true (f a) (f b) h;
    complete = λ a b less. lt-ltb (f a) (f b) less;
    transitive = λ a b c less more. omega arith;
    irreflexive = λ a less. absurd (omega arith);
    before_other = λ a b c less apart. number_other (f a) (f b) (f c) less apart;
  }

  -- The order by a number, and among equal numbers by another order.
  pub number_first : (f : A → ℕ) (Less : A → A → Type 0) (test : A → A → Bool) → IsStrictOrder Less test
      → IsStrictOrder (λ a b. (f a < f b) ⊎ ((f a ≡ f b) × Less a b)) (λ a b. ltb (f a) (f b) || (eqb (f a) (f b) && test a b))
  number_first f Less test o = record { sound = told; complete = tells; transitive = through; irreflexive = never; before_other = other }
    where
      told : (a b : A) → (ltb (f a) (f b) || (eqb (f a) (f b) && test a b)) ≡ true → (f a < f b) ⊎ ((f a ≡ f b) × Less a b)
      told a b h = elim (or_cases (ltb (f a) (f b)) (eqb (f a) (f b) && test a b) h) [
        | inl less ↦ inl (ltb-true (f a) (f b) less)
        | inr both ↦ (let p = and_parts (eqb (f a) (f b)) (test a b) both in inr (eqb-true (f a) (f b) p.0, o.sound a b p.1))
      ]

      tells : (a b : A) → (f a < f b) ⊎ ((f a ≡ f b) × Less a b) → (ltb (f a) (f b) || (eqb (f a) (f b) && test a b)) ≡ true
      tells a b (inl less) = ap (λ t. t || (eqb (f a) (f b) && test a b)) (lt-ltb (f a) (f b) less)
      tells a b (inr (same, less)) = or_right (ltb (f a) (f b)) (eqb (f a) (f b) && test a b) (and_from (eqb (f a) (f b)) (test a b) (eq-eqb (f a) (f b) same) (o.complete a b less))

      through : (a b c : A) → (f a < f b) ⊎ ((f a ≡ f b) × Less a b) → (f b < f c) ⊎ ((f b ≡ f c) × Less b c) → (f a < f c) ⊎ ((f a ≡ f c) × Less a c)
      through a b c (inl p) (inl q) = inl (omega arith)
      through a b c (inl p) (inr (same, q)) = inl (omega (arith, same))
      through a b c (inr (same, p)) (inl q) = inl (omega (arith, same))
      through a b c (inr (same, p)) (inr (same1, q)) = inr (same ∙ same1, o.transitive a b c p q)

      never : (a : A) → (f a < f a) ⊎ ((f a ≡ f a) × Less a a) → ⊥
      never a (inl p) = absurd (omega arith)
      never a (inr (same, p)) = o.irreflexive a p

      other : (a b c : A) → (f a < f b) ⊎ ((f a ≡ f b) × Less a b) → ((f c < f b) ⊎ ((f c ≡ f b) × Less c b) → ⊥) → (f a < f c) ⊎ ((f a ≡ f c) × Less a c)
      other a b c (inl p) apart = inl (number_other (f a) (f b) (f c) p (λ q. apart (inl q)))
      other a b c (inr (same, p)) apart = by (ltb (f a) (f c)) refl (ltb (f c) (f b)) refl
        where
          by : (s : Bool) → ltb (f a) (f c) ≡ s → (t : Bool) → ltb (f c) (f b) ≡ t → (f a < f c) ⊎ ((f a ≡ f c) × Less a c)
          by true s t u = inl (ltb-true (f a) (f c) s)
          by false s true u = absurd (apart (inl (ltb-true (f c) (f b) u)))
          by false s false u =
              let low = ltb-false (f a) (f c) s in
              let high = ltb-false (f c) (f b) u in
              let here : f a ≡ f c = omega (arith, same) in
              inr (here, o.before_other a b c p (λ q. apart (inr (sym here ∙ same, q))))
