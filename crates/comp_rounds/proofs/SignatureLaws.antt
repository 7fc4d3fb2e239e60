-- Signatures of the same types are one, and how they are made of their types.
use Rattle.std.proofs.Common.{◌≡◌, ℕ, zero, suc, Bool, true, false, cond, not, ◌&&◌, ◌||◌, List, [], ◌∷◌, length, map, replicate, refl, sym, ap, ◌∙◌, subst, true≢false}
use Rattle.std.proofs.lemmas.Bool.{false_from_ne_true, and_from}
use Rattle.std.proofs.Math.Bool.{and-false}
use Rattle.std.proofs.lemmas.List.{length-replicate}
use Rattle.cons_tree.proofs.Copied.{same_signature}
use Rattle.type_kinds.proofs.Truths.{first, second}
use Rattle.type_lattice_model.specs.Values.{nil}
use Rattle.type_lattice.specs.Types.{Type4, HasType, Below, none, any, is_none, join}
use Rattle.type_lattice.specs.Inclusion.{leq}
use Rattle.cons_tree.specs.Facts.{TypeFacts}
use Rattle.cons_tree.specs.Signatures.{has_none, all_none, agreed}
use Rattle.cons_tree.specs.declared.parts.Sig.{Sig}
use Rattle.comp_rounds.specs.Agreeing.{none_is_none}
use Rattle.comp_rounds.specs.Signatures.{nothing, signature, signature_by, anything, joins, are_below, join_of, is_below, all_below}

-- ---- the types of a signature

nones_length : (ts : List Type4) → map (λ t. none) ts ≡ replicate (length ts) none
nones_length [] = refl
nones_length (t ∷ ts) = ap (λ us. none ∷ us) (nones_length ts)

by_types : (r : Type4) (ts : List Type4) (b : Bool) (e : has_none (r ∷ ts) ≡ b) → (signature_by r ts b e).result ∷ (signature_by r ts b e).args ≡ cond b (map (λ t. none) (r ∷ ts)) (r ∷ ts)
by_types r ts true e = ap (λ us. none ∷ us) (sym (nones_length ts))
by_types r ts false e = refl

-- the types by the rule
pub signature_types : (r : Type4) (ts : List Type4) → (signature r ts).result ∷ (signature r ts).args ≡ agreed (r ∷ ts)
unfolding signature
signature_types r ts = by_types r ts (has_none (r ∷ ts)) refl

head_or : Type4 → List Type4 → Type4
head_or t [] = t
head_or t (u ∷ us) = u

rest : List Type4 → List Type4
rest [] = []
rest (u ∷ us) = us

-- what has the types by the rule is the signature
pub signature_is : (s : Sig) (r : Type4) (ts : List Type4) → s.result ∷ s.args ≡ agreed (r ∷ ts) → s ≡ signature r ts
unfolding head_or rest
signature_is s r ts e =
    let same = e ∙ sym (signature_types r ts) in same_signature s (signature r ts) (ap rest same) (ap (head_or none) same)

pub signature_length : (r : Type4) (ts : List Type4) → length (signature r ts).args ≡ length ts
unfolding signature
signature_length r ts = by (has_none (r ∷ ts)) refl
  where
    many : (n : ℕ) → length (replicate n none) ≡ n
    many zero = refl
    many (suc n) = ap suc (many n)

    by : (b : Bool) (e : has_none (r ∷ ts) ≡ b) → length (signature_by r ts b e).args ≡ length ts
    by true e = many (length ts)
    by false e = refl

pub anything_length : (n : ℕ) → length (anything n).args ≡ n
unfolding anything
anything_length n = signature_length _ _ ∙ length-replicate n _

nothing_is : (ts : List Type4) → signature none ts ≡ nothing (length ts)
unfolding signature
nothing_is ts = by (has_none (none ∷ ts)) refl
  where
    by : (b : Bool) (e : has_none (none ∷ ts) ≡ b) → signature_by none ts b e ≡ nothing (length ts)
    by true e = refl
    by false e = absurd (true≢false (sym (ap (λ b. b || has_none ts) none_is_none) ∙ e))

pub nothing_of : (n : ℕ) → signature none (replicate n none) ≡ nothing n
nothing_of n = nothing_is (replicate n none) ∙ ap nothing (length-replicate n none)

pub joins_nothing : (ts : List Type4) → joins ts [] ≡ []
joins_nothing [] = refl
joins_nothing (t ∷ ts) = refl

-- ---- lists of other lengths

pub not_below : (ts us : List Type4) → (length ts ≡ length us → ⊥) → false ≡ are_below ts us
not_below [] [] h = absurd (h refl)
not_below [] (u ∷ us) h = refl
not_below (t ∷ ts) [] h = refl
not_below (t ∷ ts) (u ∷ us) h =
    sym (and-false (leq t u)) ∙ ap (λ b. leq t u && b) (not_below ts us (λ e. h (ap suc e)))

pub not_all_below : (ss ts : List Sig) → (length ss ≡ length ts → ⊥) → false ≡ all_below ss ts
not_all_below [] [] h = absurd (h refl)
not_all_below [] (t ∷ ts) h = refl
not_all_below (s ∷ ss) [] h = refl
not_all_below (s ∷ ss) (t ∷ ts) h =
    sym (and-false (is_below s t)) ∙ ap (λ b. is_below s t && b) (not_all_below ss ts (λ e. h (ap suc e)))

-- ---- what a signature is where it is joined with one below it

module _ (F : TypeFacts) where
  nones_are : (ts : List Type4) → all_none ts ≡ true → replicate (length ts) none ≡ ts
  nones_are [] e = refl
  nones_are (t ∷ ts) e =
      λ i. sym ((F.tells_none t).0 (first (is_none t) (all_none ts) e)) i ∷ nones_are ts (second (is_none t) (all_none ts) e) i

  by_itself : (s : Sig) (b : Bool) (e : has_none (s.result ∷ s.args) ≡ b) → signature_by s.result s.args b e ≡ s
  by_itself s true e =
      let all : all_none (s.result ∷ s.args) ≡ true = sym (ap (λ b. not b || all_none (s.result ∷ s.args)) e) ∙ s.agreed in
      same_signature (nothing (length s.args)) s (nones_are s.args (second (is_none s.result) (all_none s.args) all))
      (sym ((F.tells_none s.result).0 (first (is_none s.result) (all_none s.args) all)))
  by_itself s false e = same_signature (signature_by s.result s.args false e) s refl refl

  pub signature_itself : (s : Sig) → signature s.result s.args ≡ s
  unfolding signature
  signature_itself s = by_itself s (has_none (s.result ∷ s.args)) refl

  join_same : (t u : Type4) → leq u t ≡ true → join t u ≡ t
  join_same t u e =
      let below : Below u t = (F.tells_below u t).0 e in F.same (join t u) t (F.least t u t (λ v h. h) below) (F.left t u)

  joins_same : (ts us : List Type4) → are_below us ts ≡ true → joins ts us ≡ ts
  joins_same [] [] e = refl
  joins_same [] (u ∷ us) e = refl
  joins_same (t ∷ ts) [] e = absurd (true≢false (sym e))
  joins_same (t ∷ ts) (u ∷ us) e =
      λ i. join_same t u (first (leq u t) (are_below us ts) e) i ∷ joins_same ts us (second (leq u t) (are_below us ts) e) i

  pub join_same_of : (s t : Sig) → is_below t s ≡ true → join_of s t ≡ s
  unfolding join_of is_below
  join_same_of s t e =
      ap (λ r. signature r (joins s.args t.args)) (join_same s.result t.result (first (leq t.result s.result) (are_below t.args s.args) e))
      ∙ ap (signature s.result) (joins_same s.args t.args (second (leq t.result s.result) (are_below t.args s.args) e))
      ∙ signature_itself s

  -- ---- what is below what

  leq_itself : (t : Type4) → leq t t ≡ true
  leq_itself t = (F.tells_below t t).1 (λ v h. h)

  leq_through : (t u w : Type4) → leq t u ≡ true → leq u w ≡ true → leq t w ≡ true
  leq_through t u w d e =
      let lower : Below t u = (F.tells_below t u).0 d in
      let upper : Below u w = (F.tells_below u w).0 e in (F.tells_below t w).1 (λ v h. upper v (lower v h))

  below_itself : (ts : List Type4) → are_below ts ts ≡ true
  below_itself [] = refl
  below_itself (t ∷ ts) = and_from (leq t t) (are_below ts ts) (leq_itself t) (below_itself ts)

  below_through : (ts us ws : List Type4) → are_below ts us ≡ true → are_below us ws ≡ true → are_below ts ws ≡ true
  below_through [] [] ws d e = e
  below_through [] (u ∷ us) ws d e = absurd (true≢false (sym d))
  below_through (t ∷ ts) [] ws d e = absurd (true≢false (sym d))
  below_through (t ∷ ts) (u ∷ us) [] d e = absurd (true≢false (sym e))
  below_through (t ∷ ts) (u ∷ us) (w ∷ ws) d e =
      and_from (leq t w) (are_below ts ws)
      (leq_through t u w (first (leq t u) (are_below ts us) d) (first (leq u w) (are_below us ws) e))
      (below_through ts us ws (second (leq t u) (are_below ts us) d) (second (leq u w) (are_below us ws) e))

  pub is_below_itself : (s : Sig) → is_below s s ≡ true
  unfolding is_below
  is_below_itself s = below_itself (s.result ∷ s.args)

  pub is_below_through : (s t u : Sig) → is_below s t ≡ true → is_below t u ≡ true → is_below s u ≡ true
  unfolding is_below
  is_below_through s t u = below_through (s.result ∷ s.args) (t.result ∷ t.args) (u.result ∷ u.args)

  -- ---- all types are below those of which nothing is known

  leq_any : (t : Type4) → leq t any ≡ true
  leq_any t = (F.tells_below t any).1 (λ v h. F.every v)

  some_any : is_none any ≡ false
  some_any = false_from_ne_true (is_none any) (λ e. F.empty nil (subst (HasType nil) ((F.tells_none any).0 e) (F.every nil)))

  pub no_none : (n : ℕ) → has_none (replicate n any) ≡ false
  no_none zero = refl
  no_none (suc n) = ap (λ b. b || has_none (replicate n any)) some_any ∙ no_none n

  anything_types : (n : ℕ) → (anything n).result ∷ (anything n).args ≡ any ∷ replicate n any
  unfolding anything
  anything_types n =
      signature_types any (replicate n any) ∙ ap (λ b. cond b (map (λ t. none) (any ∷ replicate n any)) (any ∷ replicate n any)) (no_none (suc n))

  all_leq_any : (ts : List Type4) → are_below ts (replicate (length ts) any) ≡ true
  all_leq_any [] = refl
  all_leq_any (t ∷ ts) = and_from (leq t any) (are_below ts (replicate (length ts) any)) (leq_any t) (all_leq_any ts)

  pub below_anything : (s : Sig) → is_below s (anything (length s.args)) ≡ true
  unfolding is_below
  below_anything s = ap (are_below (s.result ∷ s.args)) (anything_types (length s.args)) ∙ all_leq_any (s.result ∷ s.args)
