-- The next signature, case by case, and lists of next signatures and of summaries.
use Rattle.std.proofs.Common.{◌≡◌, ℕ, ◌<◌, ◌≤◌, Bool, true, false, cond, List, [], ◌∷◌, length, refl, sym, ap, ◌∙◌, lt-ltb, le-ltb}
use Rattle.std.specs.Prelude.{nat_lt}
use Rattle.cons_tree.specs.declared.parts.Sig.{Sig}
use Rattle.comp_rounds.specs.Rounds.{next_signature, joined_rounds, all_next, paired}
use Rattle.comp_rounds.specs.Signatures.{anything, join_of, is_below}

cases : (k : ℕ) (s t : Sig) (a b : Bool) → nat_lt k joined_rounds ≡ a → is_below t s ≡ b → cond a (join_of s t) (cond b s (anything (length s.args))) ≡ next_signature k s t
cases k s t a b e f =
    sym
    (ap (λ x. cond x (join_of s t) (cond (is_below t s) s (anything (length s.args)))) e
    ∙ ap (λ x. cond a (join_of s t) (cond x s (anything (length s.args)))) f)

pub next_joined : (k : ℕ) (s t : Sig) → k < 12 → join_of s t ≡ next_signature k s t
unfolding joined_rounds
next_joined k s t h = cases k s t true (is_below t s) (lt-ltb k 12 h) refl

pub next_kept : (k : ℕ) (s t : Sig) → 12 ≤ k → is_below t s ≡ true → s ≡ next_signature k s t
unfolding joined_rounds
next_kept k s t h e = cases k s t false true (le-ltb k 12 h) e

pub next_widened : (k : ℕ) (s t : Sig) → 12 ≤ k → is_below t s ≡ false → anything (length s.args) ≡ next_signature k s t
unfolding joined_rounds
next_widened k s t h e = cases k s t false false (le-ltb k 12 h) e

pub next_nothing : (k : ℕ) (ss : List Sig) → all_next k ss [] ≡ []
next_nothing k [] = refl
next_nothing k (s ∷ ss) = refl

pub paired_nothing : (ss : List Sig) → paired ss [] ≡ []
paired_nothing [] = refl
paired_nothing (s ∷ ss) = refl
