-- Environments are ordered slot by slot, with least joins and ranks that fall, and parts narrow them monotonely.
use Rattle.std.proofs.Common.{◌≡◌, ◌<◌, Bool, true, false, [], ◌∷◌, Some, None, refl, sym, ap, ◌∙◌, subst, arith, inl, inr, ◌⊎◌, true≢false}
use Rattle.type_lattice.proofs.ListOrder.{are_self, are_through}
use Rattle.type_lattice.specs.Types.{Type4, Below, AreBelow, rank}
use Rattle.type_lattice.specs.Inclusion.{leq}
use Rattle.cons_tree.specs.Environments.{Types, State, IsBelow}
use Rattle.cons_tree.specs.Facts.{TypeFacts}
use Rattle.cons_tree.specs.Narrowing.{narrowed}
use Rattle.cons_tree.specs.Trails.{Falling}
use Rattle.cons_tree.specs.declared.parts.Part.{Part}
use Rattle.cons_solve.specs.Environments.{environments, joins, ranks}
use Rattle.cons_solve.specs.Solutions as W

-- ---- slot by slot

-- the orders of states are one
pub is_below : (r s : State) → W.Under environments r s → IsBelow r s
is_below None s h = tt
is_below (Some xs) None h = h
is_below (Some xs) (Some ys) h = h

pub is_under : (r s : State) → IsBelow r s → W.Under environments r s
is_under None s h = tt
is_under (Some xs) None h = h
is_under (Some xs) (Some ys) h = h

-- ---- with what is known of types

module _ (facts : TypeFacts) where
  pub are_same : (xs ys : Types) → AreBelow xs ys → AreBelow ys xs → xs ≡ ys
  are_same [] [] h k = refl
  are_same [] (y ∷ ys) h k = absurd h
  are_same (x ∷ xs) [] h k = absurd h
  are_same (x ∷ xs) (y ∷ ys) h k =
      let e = facts.same x y h.0 k.0 in
      let f = are_same xs ys h.1 k.1 in
      λ i. e i ∷ f i

  pub joins_left : (xs ys es : Types) → AreBelow xs es → AreBelow ys es → AreBelow xs (joins xs ys)
  joins_left [] ys es h k = tt
  joins_left (x ∷ xs) ys [] h k = absurd h
  joins_left (x ∷ xs) [] (e ∷ es) h k = absurd k
  joins_left (x ∷ xs) (y ∷ ys) (e ∷ es) h k = (facts.left x y, joins_left xs ys es h.1 k.1)

  joins_right : (xs ys es : Types) → AreBelow xs es → AreBelow ys es → AreBelow ys (joins xs ys)
  joins_right [] [] es h k = tt
  joins_right [] (y ∷ ys) [] h k = absurd k
  joins_right [] (y ∷ ys) (e ∷ es) h k = absurd h
  joins_right (x ∷ xs) ys [] h k = absurd h
  joins_right (x ∷ xs) [] (e ∷ es) h k = absurd k
  joins_right (x ∷ xs) (y ∷ ys) (e ∷ es) h k = (facts.right x y, joins_right xs ys es h.1 k.1)

  pub joins_least : (xs ys es : Types) → AreBelow xs es → AreBelow ys es → AreBelow (joins xs ys) es
  joins_least [] ys es h k = h
  joins_least (x ∷ xs) ys [] h k = absurd h
  joins_least (x ∷ xs) [] (e ∷ es) h k = absurd k
  joins_least (x ∷ xs) (y ∷ ys) (e ∷ es) h k = (facts.least x y e h.0 k.0, joins_least xs ys es h.1 k.1)

  module _ (rank_falls : Falling rank) where
    -- a smaller type is the same, or of a lower rank
    type_falls : (t s : Type4) → Below t s → (t ≡ s) ⊎ (rank t < rank s)
    type_falls t s h = by (leq s t) refl
      where
        by : (b : Bool) → leq s t ≡ b → (t ≡ s) ⊎ (rank t < rank s)
        by true e = inl (facts.same t s h ((facts.tells_below s t).0 e))
        by false e =
            inr (rank_falls t s h (λ q. true≢false (sym ((facts.tells_below s t).1 (subst (λ u. Below u t) q (λ v i. i))) ∙ e)))

    ranks_fall : (xs ys : Types) → AreBelow ys xs → (ys ≡ xs) ⊎ (ranks ys < ranks xs)
    ranks_fall [] [] h = inl refl
    ranks_fall [] (y ∷ ys) h = absurd h
    ranks_fall (x ∷ xs) [] h = absurd h
    ranks_fall (x ∷ xs) (y ∷ ys) h = elim (type_falls y x h.0) [
      | inl e ↦ elim (ranks_fall xs ys h.1) [
        | inl f ↦ inl (λ i. e i ∷ f i)
        | inr l ↦ let same : rank y ≡ rank x = ap rank e in inr (omega (arith, l, same))
      ]
      | inr l ↦ elim (ranks_fall xs ys h.1) [
        | inl f ↦ let same : ranks ys ≡ ranks xs = ap ranks f in inr (omega (arith, l, same))
        | inr m ↦ inr (omega (arith, l, m))
      ]
    ]

    module _ (sinks : (p : Part) (xs ys : Types) → narrowed p xs ≡ Some ys → AreBelow ys xs) (grows : (p : Part) (xs ys : Types) → AreBelow xs ys → IsBelow (narrowed p xs) (narrowed p ys)) where
      narrowed_below : (p : Part) (xs : Types) → W.Under environments (narrowed p xs) (Some xs)
      narrowed_below p xs = by (narrowed p xs) refl
        where
          by : (r : State) → narrowed p xs ≡ r → W.Under environments r (Some xs)
          by None e = tt
          by (Some ys) e = sinks p xs ys e

      pub environment_laws : W.Laws environments
      environment_laws = record {
        self = are_self;
        through = are_through;
        same = are_same;
        left = joins_left;
        right = joins_right;
        least = joins_least;
        falls = ranks_fall;
        narrow_below = narrowed_below;
        narrow_grows = λ p xs ys h. is_under (narrowed p xs) (narrowed p ys) (grows p xs ys h);
      }
