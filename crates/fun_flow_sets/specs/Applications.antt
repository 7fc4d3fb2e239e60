-- The applications among the rules of a text, by their labels, in their order.
use Rattle.std.specs.Prelude.{ℕ, List, [], ◌∷◌}
use Rattle.fun_flow_sets.specs.Items.{Rule, holds, flows, applies}

abbrev pub application_labels : List Rule → List ℕ
application_labels [] = []
application_labels (holds p x ∷ rs) = application_labels rs
application_labels (flows p q ∷ rs) = application_labels rs
application_labels (applies p n home label ∷ rs) = label ∷ application_labels rs

-- The first list is what is left of the second where some items are left out.
pub data IsLeftOf : List ℕ → List ℕ → Type 0 where
  left_none : IsLeftOf [] []
  left_here : {x : ℕ} {xs ys : List ℕ} → IsLeftOf xs ys → IsLeftOf (x ∷ xs) (x ∷ ys)
  left_out : {y : ℕ} {xs ys : List ℕ} → IsLeftOf xs ys → IsLeftOf xs (y ∷ ys)
