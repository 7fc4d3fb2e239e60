-- What is true of each rule of a list.
use Rattle.std.proofs.Common.{List, [], ◌∷◌, ◌++◌, inl, inr, sym, subst}
use Rattle.fun_flow_sets.specs.Items.{Rule}
use Rattle.fun_flow_sets.specs.Rules.{IsAmong}

abbrev pub Each : (Rule → Type 0) → List Rule → Type 0
Each P [] = Unit {0}
Each P (r ∷ rs) = P r × Each P rs

pub of_each : (P : Rule → Type 0) (rs : List Rule) (r : Rule) → Each P rs → IsAmong rs r → P r
of_each P [] r h i = absurd i
of_each P (q ∷ rs) r h (inl e) = subst P (sym e) h.0
of_each P (q ∷ rs) r h (inr i) = of_each P rs r h.1 i

pub each_both : (P : Rule → Type 0) (rs qs : List Rule) → Each P rs → Each P qs → Each P (rs ++ qs)
each_both P [] qs h k = k
each_both P (r ∷ rs) qs h k = (h.0, each_both P rs qs h.1 k)
