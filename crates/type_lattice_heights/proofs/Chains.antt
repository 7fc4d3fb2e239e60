-- How often one can go down from a type of the analysis: just as often as its height says.
use Rattle.std.proofs.Common.{◌≡◌, ◌≤◌, ◌<◌, ℕ, zero, suc, ap, inl, inr, arith}
use Rattle.type_kinds_sets.specs.Heights as heights
use Rattle.type_lattice_model.specs.Shapes.{TypeAt}
use Rattle.type_lattice_model.specs.HasType.{HasAt}
use Rattle.type_lattice_model.specs.Normal.{NormalAt}
use Rattle.type_lattice_model.specs.Operations.{ops}
use Rattle.type_lattice.specs.Types.{Type4, HasType, Below, same_type}
use Rattle.type_lattice.specs.Chains.{Falls, IsHeight}
use Rattle.type_lattice_heights.specs.Heights.{height_at, height}
use Rattle.type_lattice_heights.proofs.Ways.{Way}
use Rattle.type_lattice_heights.proofs.TypeHeights.{level_heights}

falls_on : (n : ℕ) (s : TypeAt 4) (t : Type4) → Way (HasAt 4) (NormalAt 4) n s t.ty → Falls n t
unfolding heights.Falls Way HasType
falls_on zero s t w = tt
falls_on (suc n) s t w = (record { ty = w.0; normal = w.1.0 }, ((w.1.1, λ e. w.1.2 (ap (λ x. x.ty) e)), falls_on n s (record { ty = w.0; normal = w.1.0 }) w.1.3))

lower : (s t : Type4) → Below s t → (s ≡ t → ⊥) → height s < height t
unfolding height HasType
lower s t b other = elim ((level_heights 4).lower s.ty t.ty s.normal t.normal b) [
  | inl e ↦ absurd (other (same_type s t e))
  | inr less ↦ less
]

longest : (n : ℕ) (t : Type4) → Falls n t → n ≤ height t
unfolding heights.Falls
longest zero t f = omega arith
longest (suc n) t f =
    let less = lower f.0 t f.1.0.0 f.1.0.1 in
    let rest = longest n f.0 f.1.1 in
    omega (arith, less, rest)

pub height_is : (t : Type4) → IsHeight (height t) t
unfolding height
height_is t = record { reached = falls_on (height_at 4 t.ty) (ops 4).none t ((level_heights 4).to_none t.ty t.normal); longest = λ n. longest n t }
