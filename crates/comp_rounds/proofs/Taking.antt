-- Signatures have as many arguments as the functions that they are of.
use Rattle.std.proofs.Common.{◌≡◌, ℕ, zero, suc, ◌≤◌, Bool, true, false, cond, List, [], ◌∷◌, length, map, replicate, min, refl, sym, ap, ◌∙◌, None, Some, le-add_right, arith}
use Rattle.std.specs.Prelude.{nat_lt}
use Rattle.std.proofs.lemmas.List.{length-take, length-replicate}
use Rattle.type_lattice.proofs.ListOrder.{are_long}
use Rattle.type_lattice.specs.Types.{Type4, AreBelow, any}
use Rattle.cons_tree.specs.Constraints.{Cons}
use Rattle.cons_tree.specs.Environments.{Types, State}
use Rattle.cons_tree.specs.declared.parts.Part.{Part}
use Rattle.cons_tree.specs.declared.parts.Sig.{Sig}
use Rattle.cons_solve.specs.Environments.{solution}
use Rattle.cons_gen.specs.Made.{definition_constraint, definition_slots}
use Rattle.cons_gen_rows.specs.Passes.{Knowledge}
use Rattle.comp_rounds.specs.Rounds.{Function, Callees, arity, inferred, solved, signature_in, of_one, next_signature, all_next, joined_rounds, paired, given}
use Rattle.comp_rounds.specs.Rounds.{after_rounds, last_round, strict_signatures, lenient_signatures, summaries, strict_pass, lenient_pass, with_signatures}
use Rattle.comp_rounds.specs.Signatures.{nothing, anything, join_of, joins, is_below}
use Rattle.comp_rounds.specs.Takes.{AllTake}
use Rattle.comp_rounds.proofs.SignatureLaws.{signature_length, anything_length}

-- each signature has as many arguments as its function
abbrev pub Counted : List Function → List Sig → Type 0
Counted [] [] = Unit {0}
Counted [] (s ∷ ss) = ⊥
Counted (g ∷ gs) [] = ⊥
Counted (g ∷ gs) (s ∷ ss) = (length s.args ≡ arity g) × Counted gs ss

pub counted_take : (gs : List Function) (ss : List Sig) → Counted gs ss → AllTake gs (map of_one ss)
counted_take [] [] h = tt
counted_take [] (s ∷ ss) h = h
counted_take (g ∷ gs) [] h = h
counted_take (g ∷ gs) (s ∷ ss) h = ((h.0, h.0), counted_take gs ss h.1)

pub paired_take : (gs : List Function) (ss ts : List Sig) → Counted gs ss → Counted gs ts → AllTake gs (paired ss ts)
paired_take [] [] ts h k = tt
paired_take [] (s ∷ ss) ts h k = absurd h
paired_take (g ∷ gs) [] ts h k = absurd h
paired_take (g ∷ gs) (s ∷ ss) [] h k = absurd k
paired_take (g ∷ gs) (s ∷ ss) (t ∷ ts) h k = ((h.0, k.0), paired_take gs ss ts h.1 k.1)

pub counted_length : (gs : List Function) (ss : List Sig) → Counted gs ss → length ss ≡ length gs
counted_length [] [] h = refl
counted_length [] (s ∷ ss) h = absurd h
counted_length (g ∷ gs) [] h = absurd h
counted_length (g ∷ gs) (s ∷ ss) h = ap suc (counted_length gs ss h.1)

-- ---- one round

joins_length : (ts us : List Type4) → length ts ≡ length us → length (joins ts us) ≡ length ts
joins_length [] us e = refl
joins_length (t ∷ ts) [] e = cc
joins_length (t ∷ ts) (u ∷ us) e = ap suc (joins_length ts us (omega (arith, e)))

join_length : (s t : Sig) → length s.args ≡ length t.args → length (join_of s t).args ≡ length s.args
unfolding join_of
join_length s t e = signature_length _ _ ∙ joins_length s.args t.args e

next_length : (k : ℕ) (s t : Sig) (n : ℕ) → length s.args ≡ n → length t.args ≡ n → length (next_signature k s t).args ≡ n
next_length k s t n e f = by (nat_lt k joined_rounds) (is_below t s)
  where
    by : (a b : Bool) → length (cond a (join_of s t) (cond b s (anything (length s.args)))).args ≡ n
    by true b = join_length s t (e ∙ sym f) ∙ e
    by false true = e
    by false false = anything_length (length s.args) ∙ e

pub next_counted : (k : ℕ) (gs : List Function) (ss ts : List Sig) → Counted gs ss → Counted gs ts → Counted gs (all_next k ss ts)
next_counted k [] [] ts h u = tt
next_counted k [] (s ∷ ss) ts h u = absurd h
next_counted k (g ∷ gs) [] ts h u = absurd h
next_counted k (g ∷ gs) (s ∷ ss) [] h u = absurd u
next_counted k (g ∷ gs) (s ∷ ss) (t ∷ ts) h u = (next_length k s t (arity g) h.0 u.0, next_counted k gs ss ts h.1 u.1)

-- a solution is below where it began, so it has as many slots
module _ (lower : (c : Cons Part) (xs ys : Types) → solution c xs ≡ Some ys → AreBelow ys xs) where
  signature_counts : (n : ℕ) (s : State) → ((ys : Types) → s ≡ Some ys → n ≤ length ys) → length (signature_in n s).args ≡ n
  signature_counts n None h = length-replicate n _
  signature_counts n (Some ys) h =
      let long : n ≤ length ys = h ys refl in
      signature_length _ _ ∙ length-take n ys ∙ least n (length ys) long
    where
      least : (a b : ℕ) → a ≤ b → min a b ≡ a
      least a b e = omega arith

  slots_last : (P : Knowledge) (g : Function) (ys : Types) → solved P g ≡ Some ys → arity g ≤ length ys
  unfolding solved
  slots_last P g ys e =
      let begin = replicate (definition_slots g.parameters g.body) any in
      let same : length ys ≡ length begin =
      are_long ys begin (lower (definition_constraint P g.home g.parameters g.body) begin ys e) in
      let all : length begin ≡ definition_slots g.parameters g.body = length-replicate _ any in
      let first : arity g ≤ definition_slots g.parameters g.body = le-add_right (arity g) _ in
      omega (arith, same, all, first)

  pub inferred_length : (P : Knowledge) (g : Function) → length (inferred P g).args ≡ arity g
  unfolding inferred
  inferred_length P g = signature_counts (arity g) (solved P g) (slots_last P g)

  pub all_counted : (P : Knowledge) (gs : List Function) → Counted gs (map (inferred P) gs)
  all_counted P [] = tt
  all_counted P (g ∷ gs) = (inferred_length P g, all_counted P gs)

  -- ---- all rounds

  first_counted : (gs : List Function) → Counted gs (map (λ g. nothing (arity g)) gs)
  first_counted [] = tt
  first_counted (g ∷ gs) = (length-replicate (arity g) _, first_counted gs)

  pub rounds_counted : (outside : Callees) (gs : List Function) (k : ℕ) → Counted gs (after_rounds outside gs k)
  rounds_counted outside gs zero = first_counted gs
  rounds_counted outside gs (suc k) =
      next_counted k gs (after_rounds outside gs k) (given outside gs (after_rounds outside gs k)) (rounds_counted outside gs k)
      (all_counted (strict_pass (with_signatures outside gs (after_rounds outside gs k))) gs)

  pub summaries_take : (outside : Callees) (gs : List Function) → AllTake gs (summaries outside gs)
  summaries_take outside gs =
      paired_take gs (strict_signatures outside gs) (lenient_signatures outside gs) (rounds_counted outside gs (last_round outside gs))
      (all_counted (lenient_pass gs (with_signatures outside gs (strict_signatures outside gs))) gs)
