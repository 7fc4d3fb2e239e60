-- Functions whose labels are picked from a list of labels.
use Rattle.std.specs.Prelude.{ℕ, List, [], ◌∷◌}
use Rattle.core_scope.specs.Functions.{LabelledFunction}

-- The labels of the functions stand among the numbers, in the same order.
pub data Picked : List LabelledFunction → List ℕ → Type 0 where
  none : Picked [] []
  takes : {e : LabelledFunction} {es : List LabelledFunction} {ns : List ℕ} → Picked es ns → Picked (e ∷ es) (e.label ∷ ns)
  passes : {n : ℕ} {es : List LabelledFunction} {ns : List ℕ} → Picked es ns → Picked es (n ∷ ns)
