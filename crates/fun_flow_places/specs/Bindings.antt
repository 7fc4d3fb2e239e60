-- Names with values: the value of a name's innermost binding.
use Rattle.std.specs.Prelude.{Bool, List, [], ◌∷◌, Option, Some, None, if◌then◌else◌}

abbrev pub or_outer : {V : Type 0} → Option V → Option V → Option V
or_outer None o = o
or_outer (Some v) o = Some v

module _ {T V : Type 0} (eq : T → T → Bool) where
  -- bindings, the outer before the inner
  abbrev pub value_of : List (T × V) → T → Option V
  value_of [] x = None
  value_of ((y, v) ∷ bs) x = or_outer (value_of bs x) (if eq x y then Some v else None)
