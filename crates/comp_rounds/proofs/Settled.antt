-- Where no function gives more than its signature, no later round changes anything.
use Rattle.std.proofs.Common.{◌≡◌, ℕ, zero, suc, ◌+◌, ◌≤◌, ◌-◌, Bool, true, false, cond, List, [], ◌∷◌, length, refl, sym, ap, ◌∙◌, true≢false, arith}
use Rattle.std.specs.Prelude.{nat_lt}
use Rattle.type_kinds.proofs.Truths.{first, second}
use Rattle.cons_tree.specs.Facts.{TypeFacts}
use Rattle.cons_tree.specs.declared.parts.Sig.{Sig}
use Rattle.comp_rounds.specs.Rounds.{Function, Callees, next_signature, all_next, joined_rounds, given, after_rounds}
use Rattle.comp_rounds.specs.Signatures.{anything, join_of, is_below, all_below}
use Rattle.comp_rounds.proofs.SignatureLaws.{join_same_of}

module _ (F : TypeFacts) where
  pub next_same : (k : ℕ) (s t : Sig) → is_below t s ≡ true → next_signature k s t ≡ s
  next_same k s t e = by (nat_lt k joined_rounds)
    where
      by : (a : Bool) → cond a (join_of s t) (cond (is_below t s) s (anything (length s.args))) ≡ s
      by true = join_same_of F s t e
      by false = ap (λ b. cond b s (anything (length s.args))) e

  pub all_same : (k : ℕ) (ss ts : List Sig) → all_below ts ss ≡ true → all_next k ss ts ≡ ss
  all_same k [] ts e = refl
  all_same k (s ∷ ss) [] e = absurd (true≢false (sym e))
  all_same k (s ∷ ss) (t ∷ ts) e =
      λ i. next_same k s t (first (is_below t s) (all_below ts ss) e) i ∷ all_same k ss ts (second (is_below t s) (all_below ts ss) e) i

  module _ (outside : Callees) (gs : List Function) (k : ℕ) (settled : all_below (given outside gs (after_rounds outside gs k)) (after_rounds outside gs k) ≡ true) where
    later : (j n : ℕ) → n ≡ j + k → after_rounds outside gs n ≡ after_rounds outside gs k
    later zero n e = ap (after_rounds outside gs) (e ∙ nothing_more k)
      where
        nothing_more : (m : ℕ) → 0 + m ≡ m
        nothing_more m = omega arith
    later (suc j) n e =
        ap (after_rounds outside gs) (e ∙ one_more j k)
        ∙ ap (λ ss. all_next (j + k) ss (given outside gs ss)) (later j (j + k) refl)
        ∙ all_same (j + k) (after_rounds outside gs k) (given outside gs (after_rounds outside gs k)) settled
      where
        one_more : (a b : ℕ) → suc a + b ≡ suc (a + b)
        one_more a b = omega arith

    pub stays : (n : ℕ) → k ≤ n → after_rounds outside gs n ≡ after_rounds outside gs k
    stays n e = later (n - k) n (there n k e)
      where
        there : (a b : ℕ) → b ≤ a → a ≡ a - b + b
        there a b h = omega arith
