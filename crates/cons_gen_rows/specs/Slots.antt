-- Numbers of slots.
use Rattle.std.specs.Prelude.{ℕ, zero, suc, ◌+◌, List, [], ◌∷◌}

-- n slots, one after another, from s on
abbrev pub slots_from : ℕ → ℕ → List ℕ
slots_from s zero = []
slots_from s (suc n) = s ∷ slots_from (s + 1) n
