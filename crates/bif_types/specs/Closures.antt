-- The closures that a value holds: itself, or one that an element, a key or a value of it holds. What a closure has captured
-- doesn't count.
use Rattle.std.specs.Prelude.{◌≡◌, ◌⊎◌}
use Rattle.type_lattice_model.specs.Values.{Value, cons, tuple, map, closure, Values, no_value, and_value, ValuePairs, no_pair, and_pair}

abbrev mutual
  pub HoldsClosure : Value → Value → Type 0
  HoldsClosure c (cons h t) = HoldsClosure c h ⊎ HoldsClosure c t
  HoldsClosure c (tuple vs) = HoldClosure c vs
  HoldsClosure c (map ps) = PairsHoldClosure c ps
  HoldsClosure c (closure m l n env) = c ≡ closure m l n env
  HoldsClosure c v = ⊥

  pub HoldClosure : Value → Values → Type 0
  HoldClosure c no_value = ⊥
  HoldClosure c (and_value v vs) = HoldsClosure c v ⊎ HoldClosure c vs

  pub PairsHoldClosure : Value → ValuePairs → Type 0
  PairsHoldClosure c no_pair = ⊥
  PairsHoldClosure c (and_pair k v ps) = HoldsClosure c k ⊎ (HoldsClosure c v ⊎ PairsHoldClosure c ps)
