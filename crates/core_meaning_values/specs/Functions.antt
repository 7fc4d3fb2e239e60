-- The functions that a value holds, closures, external and foreign ones: itself, or one that an element, a key or a value of it
-- holds. What a closure has captured doesn't count.
use Rattle.std.specs.Prelude.{◌≡◌, ◌⊎◌}
use Rattle.type_lattice_model.specs.Values.{Value, cons, tuple, map, closure, external, foreign, Values, no_value, and_value, ValuePairs, no_pair, and_pair}

abbrev mutual
  pub HoldsFunction : Value → Value → Type 0
  HoldsFunction c (cons h t) = HoldsFunction c h ⊎ HoldsFunction c t
  HoldsFunction c (tuple vs) = HoldFunction c vs
  HoldsFunction c (map ps) = PairsHoldFunction c ps
  HoldsFunction c (closure m l n env) = c ≡ closure m l n env
  HoldsFunction c (external m f n) = c ≡ external m f n
  HoldsFunction c (foreign x n) = c ≡ foreign x n
  HoldsFunction c v = ⊥

  pub HoldFunction : Value → Values → Type 0
  HoldFunction c no_value = ⊥
  HoldFunction c (and_value v vs) = HoldsFunction c v ⊎ HoldFunction c vs

  pub PairsHoldFunction : Value → ValuePairs → Type 0
  PairsHoldFunction c no_pair = ⊥
  PairsHoldFunction c (and_pair k v ps) = HoldsFunction c k ⊎ (HoldsFunction c v ⊎ PairsHoldFunction c ps)
