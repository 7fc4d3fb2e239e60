-- After the joined rounds each round leaves all as it is, or widens a function that wasn't wide.
use Rattle.std.proofs.Common.{◌≡◌, ℕ, zero, suc, ◌+◌, ◌<◌, ◌≤◌, ◌⊎◌, inl, inr, Bool, true, false, cond, Some, List, [], ◌∷◌, length, refl, sym, ap, ◌∙◌, subst, true≢false, le-ltb, arith}
use Rattle.std.specs.Prelude.{nat_lt}
use Rattle.std.proofs.lemmas.Bool.{and_from}
use Rattle.type_lattice.specs.Types.{AreBelow}
use Rattle.cons_tree.specs.Constraints.{Cons}
use Rattle.cons_tree.specs.Environments.{Types}
use Rattle.cons_tree.specs.Facts.{TypeFacts}
use Rattle.cons_tree.specs.declared.parts.Part.{Part}
use Rattle.cons_tree.specs.declared.parts.Sig.{Sig}
use Rattle.cons_solve.specs.Environments.{solution}
use Rattle.comp_rounds.specs.Rounds.{Function, Callees, next_signature, all_next, joined_rounds, given, after_rounds, last_round, strict_signatures, strict_pass, with_signatures}
use Rattle.comp_rounds.specs.Signatures.{anything, join_of, is_below, all_below}
use Rattle.comp_rounds.proofs.Settled.{next_same, stays}
use Rattle.comp_rounds.proofs.SignatureLaws.{anything_length, below_anything, is_below_itself, is_below_through}
use Rattle.comp_rounds.proofs.Taking.{Counted, counted_length, all_counted, rounds_counted}

-- whether nothing is known of the function, by its signature
abbrev pub is_wide : Sig → Bool
is_wide s = is_below (anything (length s.args)) s

abbrev pub weight : Bool → ℕ
weight true = 0
weight false = 1

-- how many signatures aren't wide
abbrev pub narrow_count : List Sig → ℕ
narrow_count [] = 0
narrow_count (s ∷ ss) = weight (is_wide s) + narrow_count ss

count_within : (ss : List Sig) → narrow_count ss ≤ length ss
count_within [] = omega arith
count_within (s ∷ ss) = by (is_wide s) (count_within ss)
  where
    by : (b : Bool) → narrow_count ss ≤ length ss → weight b + narrow_count ss ≤ suc (length ss)
    by true h = omega arith
    by false h = omega arith

module _ (F : TypeFacts) where
  widened : (n : ℕ) → is_wide (anything n) ≡ true
  widened n = ap (λ m. is_below (anything m) (anything n)) (anything_length n) ∙ is_below_itself F (anything n)

  -- what is given is below a wide signature
  below_wide : (s t : Sig) → length t.args ≡ length s.args → is_wide s ≡ true → is_below t s ≡ true
  below_wide s t e w =
      is_below_through F t (anything (length t.args)) s (below_anything F t) (ap (λ n. is_below (anything n) s) e ∙ w)

  -- one function stays as it is, or it is widened and wasn't wide
  abbrev pub Turn : ℕ → Sig → Sig → Type 0
  Turn k s t =
      ((is_below t s ≡ true) × (weight (is_wide (next_signature k s t)) ≡ weight (is_wide s)))
      ⊎ ((weight (is_wide (next_signature k s t)) ≡ 0) × (weight (is_wide s) ≡ 1))

  turn : (k : ℕ) (s t : Sig) → nat_lt k joined_rounds ≡ false → length t.args ≡ length s.args → Turn k s t
  turn k s t e l = by (is_below t s) refl
    where
      wide_next : is_below t s ≡ false → next_signature k s t ≡ anything (length s.args)
      wide_next f =
          ap (λ b. cond b (join_of s t) (cond (is_below t s) s (anything (length s.args)))) e
          ∙ ap (λ b. cond b s (anything (length s.args))) f

      was_narrow : (b : Bool) → is_wide s ≡ b → is_below t s ≡ false → weight b ≡ 1
      was_narrow true w f = absurd (true≢false (sym (below_wide s t l w) ∙ f))
      was_narrow false w f = refl

      by : (b : Bool) → is_below t s ≡ b → Turn k s t
      by true f = inl (f, ap (λ u. weight (is_wide u)) (next_same F k s t f))
      by false f =
          inr (
            ap (λ u. weight (is_wide u)) (wide_next f) ∙ ap (λ b. weight b) (widened (length s.args)),
            was_narrow (is_wide s) refl f,
          )

  abbrev pub Turns : ℕ → List Sig → List Sig → Type 0
  Turns k ss ts =
      ((all_below ts ss ≡ true) × (narrow_count (all_next k ss ts) ≡ narrow_count ss))
      ⊎ (narrow_count (all_next k ss ts) < narrow_count ss)

  turns : (k : ℕ) → nat_lt k joined_rounds ≡ false → (gs : List Function) (ss ts : List Sig) → Counted gs ss → Counted gs ts → Turns k ss ts
  turns k e [] [] [] h u = inl (refl, refl)
  turns k e [] [] (t ∷ ts) h u = absurd u
  turns k e [] (s ∷ ss) ts h u = absurd h
  turns k e (g ∷ gs) [] ts h u = absurd h
  turns k e (g ∷ gs) (s ∷ ss) [] h u = absurd u
  turns k e (g ∷ gs) (s ∷ ss) (t ∷ ts) h u =
      join_turns (weight (is_wide s)) (weight (is_wide (next_signature k s t))) (turn k s t e (u.0 ∙ sym h.0)) (turns k e gs ss ts h.1 u.1)
    where
      join_turns : (a b : ℕ)
          → ((is_below t s ≡ true) × (b ≡ a)) ⊎ ((b ≡ 0) × (a ≡ 1))
          → ((all_below ts ss ≡ true) × (narrow_count (all_next k ss ts) ≡ narrow_count ss)) ⊎ (narrow_count (all_next k ss ts) < narrow_count ss)
          → ((all_below (t ∷ ts) (s ∷ ss) ≡ true) × (b + narrow_count (all_next k ss ts) ≡ a + narrow_count ss)) ⊎ (b + narrow_count (all_next k ss ts) < a + narrow_count ss)
      join_turns a b (inl p) (inl q) = inl (and_from (is_below t s) (all_below ts ss) p.0 q.0, omega (arith, p.1, q.1))
      join_turns a b (inl p) (inr q) = inr (omega (arith, p.1, q))
      join_turns a b (inr p) (inl q) = inr (omega (arith, p.0, p.1, q.1))
      join_turns a b (inr p) (inr q) = inr (omega (arith, p.0, p.1, q))

  wide_first : (s t : Sig) (ss ts : List Sig) → length t.args ≡ length s.args → (b : Bool) → is_wide s ≡ b → weight b + narrow_count ss ≡ 0 → (narrow_count ss ≡ 0 → all_below ts ss ≡ true)
      → all_below (t ∷ ts) (s ∷ ss) ≡ true
  wide_first s t ss ts l true w e others = and_from (is_below t s) (all_below ts ss) (below_wide s t l w) (others (omega (arith, e)))
  wide_first s t ss ts l false w e others = absurd (omega (arith, e))

  all_wide : (gs : List Function) (ss ts : List Sig) → Counted gs ss → Counted gs ts → narrow_count ss ≡ 0 → all_below ts ss ≡ true
  all_wide [] [] [] h u e = refl
  all_wide [] [] (t ∷ ts) h u e = absurd u
  all_wide [] (s ∷ ss) ts h u e = absurd h
  all_wide (g ∷ gs) [] ts h u e = absurd h
  all_wide (g ∷ gs) (s ∷ ss) [] h u e = absurd u
  all_wide (g ∷ gs) (s ∷ ss) (t ∷ ts) h u e =
      wide_first s t ss ts (u.0 ∙ sym h.0) (is_wide s) refl e (all_wide gs ss ts h.1 u.1)

  module _ (lower : (c : Cons Part) (xs ys : Types) → solution c xs ≡ Some ys → AreBelow ys xs) (outside : Callees) (gs : List Function) where
    -- the round of this number gives nothing more
    abbrev pub Still : ℕ → Type 0
    Still k = all_below (given outside gs (after_rounds outside gs k)) (after_rounds outside gs k) ≡ true

    given_counted : (k : ℕ) → Counted gs (given outside gs (after_rounds outside gs k))
    given_counted k = all_counted lower (strict_pass (with_signatures outside gs (after_rounds outside gs k))) gs

    late : (j : ℕ) → nat_lt (joined_rounds + j) joined_rounds ≡ false
    late j = le-ltb (joined_rounds + j) joined_rounds (omega arith)

    next_still : (k : ℕ) → Still k → Still (suc k)
    next_still k h = subst (λ ss. all_below (given outside gs ss) ss ≡ true) (sym (stays F outside gs k h (suc k) (omega arith))) h

    widening : (j : ℕ) → Still (joined_rounds + j) ⊎ (narrow_count (after_rounds outside gs (joined_rounds + j)) + j ≤ length gs)
    widening zero =
        let few = count_within (after_rounds outside gs (joined_rounds + 0)) in
        let all = counted_length gs (after_rounds outside gs (joined_rounds + 0)) (rounds_counted lower outside gs (joined_rounds + 0)) in
        inr (omega (arith, few, all))
    widening (suc j) = subst (λ k. Still k ⊎ (narrow_count (after_rounds outside gs k) + suc j ≤ length gs)) (one_more j) (by (widening j))
      where
        one_more : (i : ℕ) → suc (joined_rounds + i) ≡ joined_rounds + suc i
        one_more i = omega arith

        next : narrow_count (after_rounds outside gs (joined_rounds + j)) + j ≤ length gs
            → Turns (joined_rounds + j) (after_rounds outside gs (joined_rounds + j)) (given outside gs (after_rounds outside gs (joined_rounds + j)))
            → Still (suc (joined_rounds + j)) ⊎ (narrow_count (after_rounds outside gs (suc (joined_rounds + j))) + suc j ≤ length gs)
        next h (inl t) = inl (next_still (joined_rounds + j) t.0)
        next h (inr t) = inr (omega (arith, h, t))

        by : Still (joined_rounds + j) ⊎ (narrow_count (after_rounds outside gs (joined_rounds + j)) + j ≤ length gs)
            → Still (suc (joined_rounds + j)) ⊎ (narrow_count (after_rounds outside gs (suc (joined_rounds + j))) + suc j ≤ length gs)
        by (inl h) = inl (next_still (joined_rounds + j) h)
        by (inr h) =
            next h
            (turns (joined_rounds + j) (late j) gs (after_rounds outside gs (joined_rounds + j)) (given outside gs (after_rounds outside gs (joined_rounds + j)))
            (rounds_counted lower outside gs (joined_rounds + j)) (given_counted (joined_rounds + j)))

    pub last_still : all_below (given outside gs (strict_signatures outside gs)) (strict_signatures outside gs) ≡ true
    last_still = by (widening (length gs))
      where
        by : Still (joined_rounds + length gs) ⊎ (narrow_count (after_rounds outside gs (joined_rounds + length gs)) + length gs ≤ length gs)
            → all_below (given outside gs (strict_signatures outside gs)) (strict_signatures outside gs) ≡ true
        by (inl h) = h
        by (inr h) =
            all_wide gs (strict_signatures outside gs) (given outside gs (strict_signatures outside gs)) (rounds_counted lower outside gs (last_round outside gs))
            (given_counted (last_round outside gs)) (omega (arith, h))

    pub settled_after : (k : ℕ) → last_round outside gs ≤ k → after_rounds outside gs k ≡ strict_signatures outside gs
    settled_after k e = stays F outside gs (last_round outside gs) last_still k e
