-- Either of two: it is associative, and None adds nothing.
use Rattle.std.proofs.Common.{◌≡◌, List, [], ◌∷◌, Some, None, refl, ap}
use Rattle.type_lattice.specs.Types.{Type4, Below, join}
use Rattle.cons_tree.specs.Facts.{TypeFacts}
use Rattle.module_flow_calls.specs.TypeLists.{Given, joins, either}

pub either_none : (g : Given) → either g None ≡ g
either_none None = refl
either_none (Some ts) = refl

module _ (facts : TypeFacts) where
  join_thrice : (s t u : Type4) → join (join s t) u ≡ join s (join t u)
  join_thrice s t u =
      let whole : Type4 = join s (join t u) in
      let other : Type4 = join (join s t) u in
      let t_in : Below t whole = λ v h. facts.right s (join t u) v (facts.left t u v h) in
      let u_in : Below u whole = λ v h. facts.right s (join t u) v (facts.right t u v h) in
      let s_in : Below s other = λ v h. facts.left (join s t) u v (facts.left s t v h) in
      let t_in' : Below t other = λ v h. facts.left (join s t) u v (facts.right s t v h) in
      facts.same other whole
      (facts.least (join s t) u whole (facts.least s t whole (facts.left s (join t u)) t_in) u_in)
      (facts.least s (join t u) other s_in (facts.least t u other t_in' (facts.right (join s t) u)))

  joins_thrice : (ss ts us : List Type4) → joins (joins ss ts) us ≡ joins ss (joins ts us)
  joins_thrice [] ts us = refl
  joins_thrice (s ∷ ss) [] us = refl
  joins_thrice (s ∷ ss) (t ∷ ts) [] = refl
  joins_thrice (s ∷ ss) (t ∷ ts) (u ∷ us) =
      let e = join_thrice s t u in
      let f = joins_thrice ss ts us in
      λ i. e i ∷ f i

  pub either_thrice : (f g h : Given) → either (either f g) h ≡ either f (either g h)
  either_thrice None g h = refl
  either_thrice (Some ts) None h = refl
  either_thrice (Some ts) (Some us) None = refl
  either_thrice (Some ts) (Some us) (Some vs) = ap Some (joins_thrice ts us vs)
