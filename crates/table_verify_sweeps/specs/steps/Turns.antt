-- The order of a sweep.
use Rattle.std.specs.Prelude.{ℕ, ◌-◌, Bool, true, false}

-- the position of a turn's member, from the first to the last, or back
abbrev pub position_of : (forward : Bool) (count turn : ℕ) → ℕ
position_of true count turn = turn
position_of false count turn = count - 1 - turn
