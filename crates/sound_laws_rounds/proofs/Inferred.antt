-- A signature that is inferred, and one above it, are above the solution that it is inferred from.
use Rattle.std.proofs.Common.{◌≡◌, ℕ, zero, suc, Bool, true, false, ◌&&◌, ◌||◌, List, [], ◌∷◌, length, replicate, take, Some, None, refl, sym, ap₂, subst, true≢false}
use Rattle.std.proofs.lemmas.Bool.{and_parts, or_parts}
use Rattle.type_lattice_model.specs.Values.{nil}
use Rattle.type_lattice.specs.Types.{Type4, HasType, Below, AreBelow, any, is_none}
use Rattle.type_lattice.specs.Inclusion.{leq}
use Rattle.cons_tree.specs.Constraints.{Cons}
use Rattle.cons_tree.specs.Environments.{Types, State, type_at}
use Rattle.cons_tree.specs.Facts.{TypeFacts}
use Rattle.cons_tree.specs.Signatures.{has_none}
use Rattle.cons_tree.specs.declared.parts.Part.{Part}
use Rattle.cons_tree.specs.declared.parts.Sig.{Sig}
use Rattle.cons_gen.specs.Made.{definition_constraint, definition_slots}
use Rattle.cons_gen_rows.specs.Passes.{Knowledge}
use Rattle.cons_solve.specs.Environments.{solution}
use Rattle.comp_rounds.specs.Rounds.{Function, solved, inferred, signature_in}
use Rattle.comp_rounds.specs.Signatures.{signature_by, signature, are_below, is_below}
use Rattle.sound_laws.specs.Summaries as laws
use Rattle.sound_laws.specs.Summaries.{IsWithin}

args_kept : (r : Type4) (ts : List Type4) (b : Bool) (e : has_none (r ∷ ts) ≡ b) → b ≡ false → (signature_by r ts b e).args ≡ ts
args_kept r ts true e f = absurd (true≢false f)
args_kept r ts false e f = refl

result_kept : (r : Type4) (ts : List Type4) (b : Bool) (e : has_none (r ∷ ts) ≡ b) → b ≡ false → (signature_by r ts b e).result ≡ r
result_kept r ts true e f = absurd (true≢false f)
result_kept r ts false e f = refl

module _ (T : TypeFacts) (alive : (c : Cons Part) (xs ys : Types) → has_none xs ≡ false → solution c xs ≡ Some ys → has_none ys ≡ false) where
  are_below_is : (ts us : List Type4) → are_below ts us ≡ true → AreBelow ts us
  are_below_is [] [] e = tt
  are_below_is [] (u ∷ us) e = absurd (true≢false (sym e))
  are_below_is (t ∷ ts) [] e = absurd (true≢false (sym e))
  are_below_is (t ∷ ts) (u ∷ us) e = let both = and_parts (leq t u) (are_below ts us) e in ((T.tells_below t u).0 both.0, are_below_is ts us both.1)

  any_is_some : is_none any ≡ false
  any_is_some = by (is_none any) refl
    where
      by : (b : Bool) → is_none any ≡ b → b ≡ false
      by true e = absurd (T.empty nil (subst (HasType nil) ((T.tells_none any).0 e) (T.every nil)))
      by false e = refl

  anys_are_some : (n : ℕ) → has_none (replicate n any) ≡ false
  anys_are_some zero = refl
  anys_are_some (suc n) = ap₂ (λ b c. b || c) any_is_some (anys_are_some n)

  front_some : (n : ℕ) (ts : Types) → has_none ts ≡ false → has_none (take n ts) ≡ false
  front_some zero ts e = refl
  front_some (suc n) [] e = refl
  front_some (suc n) (t ∷ ts) e = let both = or_parts (is_none t) (has_none ts) e in ap₂ (λ b c. b || c) both.0 (front_some n ts both.1)

  at_some : (n : ℕ) (ts : Types) → has_none ts ≡ false → is_none (type_at ts n) ≡ false
  at_some n [] e = any_is_some
  at_some zero (t ∷ ts) e = (or_parts (is_none t) (has_none ts) e).0
  at_some (suc n) (t ∷ ts) e = at_some n ts (or_parts (is_none t) (has_none ts) e).1

  within : (n : ℕ) (ts : Types) (s : Sig) → has_none ts ≡ false → is_below (signature (type_at ts n) (take n ts)) s ≡ true → IsWithin n (Some ts) s
  unfolding is_below signature
  within n ts s e h =
      let r = type_at ts n in
      let full : has_none (r ∷ take n ts) ≡ false = ap₂ (λ b c. b || c) (at_some n ts e) (front_some n ts e) in
      let args : (signature_by r (take n ts) (has_none (r ∷ take n ts)) refl).args ≡ take n ts = args_kept r (take n ts) (has_none (r ∷ take n ts)) refl full in
      let result : (signature_by r (take n ts) (has_none (r ∷ take n ts)) refl).result ≡ r = result_kept r (take n ts) (has_none (r ∷ take n ts)) refl full in
      let below = are_below_is ((signature_by r (take n ts) (has_none (r ∷ take n ts)) refl).result ∷ (signature_by r (take n ts) (has_none (r ∷ take n ts)) refl).args) (s.result ∷ s.args) h in
      (subst (λ z. AreBelow z s.args) args below.1, subst (λ z. Below z s.result) result below.0)

  pub inferred_within : (P : Knowledge) (g : Function) (s : Sig) → is_below (inferred P g) s ≡ true → IsWithin (length g.parameters) (laws.solved P g.home g.parameters g.body) s
  unfolding inferred solved
  inferred_within P g s h = by (laws.solved P g.home g.parameters g.body) refl h
    where
      by : (r : State) → laws.solved P g.home g.parameters g.body ≡ r → is_below (signature_in (length g.parameters) r) s ≡ true → IsWithin (length g.parameters) r s
      by None e k = tt
      by (Some ts) e k = within (length g.parameters) ts s (alive (definition_constraint P g.home g.parameters g.body) (replicate (definition_slots g.parameters g.body) any) ts (anys_are_some (definition_slots g.parameters g.body)) e) k

  -- a signature is below itself
  below_itself : (ts : List Type4) → are_below ts ts ≡ true
  below_itself [] = refl
  below_itself (t ∷ ts) = ap₂ (λ b c. b && c) ((T.tells_below t t).1 (λ v h. h)) (below_itself ts)

  pub same_below : (s : Sig) → is_below s s ≡ true
  unfolding is_below
  same_below s = below_itself (s.result ∷ s.args)
