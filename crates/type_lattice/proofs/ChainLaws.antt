-- How often one can go down from a type, to a smaller one at each step.
use Rattle.std.proofs.Common.{◌≡◌, ℕ, zero, suc, ◌≤◌, ◌<◌, sym, subst, arith}
use Rattle.type_kinds_sets.specs.Heights as heights
use Rattle.type_lattice.specs.Types.{Type4, Below, rank}
use Rattle.type_lattice.specs.Chains.{Falls, IsHeight}
use Rattle.type_lattice.proofs.TypeLaws.{laws}

-- not more often than its rank says
pub falls_rank : (n : ℕ) (t : Type4) → Falls n t → n ≤ rank t
unfolding heights.Falls
falls_rank zero t f = omega arith
falls_rank (suc n) t f = grind (arith, laws.rank-falls, falls_rank n)

-- from a larger type as often
pub falls_above : (n : ℕ) (s t : Type4) → Below s t → Falls n s → Falls n t
unfolding heights.Falls
falls_above zero s t b f = f
falls_above (suc n) s t b f =
    (f.0, ((λ v h. b v (f.1.0.0 v h), λ e. f.1.0.1 (laws.same f.0 s f.1.0.0 (subst (λ x. Below s x) (sym e) b))), f.1.1))

-- and once more, where it isn't the same
pub falls_more : (n : ℕ) (s t : Type4) → Below s t → (s ≡ t → ⊥) → Falls n s → Falls (suc n) t
unfolding heights.Falls
falls_more n s t b e f = (s, ((b, e), f))

pub height_lower : (m n : ℕ) (s t : Type4) → IsHeight m s → IsHeight n t → Below s t → (s ≡ t → ⊥) → m < n
height_lower m n s t j k b e = let h = k.longest (suc m) (falls_more m s t b e j.reached) in omega (arith, h)
