-- Which functions the parts of a value hold, and what is made of values.
use Rattle.std.proofs.Common.{◌⊎◌, inl, inr, subst}
use Rattle.type_lattice_model.specs.Canonical.{HoldsPair}
use Rattle.type_lattice_model.specs.Values.{Value, Values, no_value, and_value, ValuePairs, no_pair, and_pair}
use Rattle.core_meaning.specs.Meaning.{IsAmong, IsMadeOf, keys_given, values_given, list_value}
use Rattle.core_meaning_values.specs.Functions.{HoldsFunction, HoldFunction, PairsHoldFunction}

pub key_held : (ps : ValuePairs) (k v c : Value) → HoldsPair ps k v → HoldsFunction c k → PairsHoldFunction c ps
key_held no_pair k v c h i = absurd h
key_held (and_pair j w ps) k v c (inl h) i = inl (subst (HoldsFunction c) h.0 i)
key_held (and_pair j w ps) k v c (inr h) i = inr (inr (key_held ps k v c h i))

pub value_held : (ps : ValuePairs) (k v c : Value) → HoldsPair ps k v → HoldsFunction c v → PairsHoldFunction c ps
value_held no_pair k v c h i = absurd h
value_held (and_pair j w ps) k v c (inl h) i = inr (inl (subst (HoldsFunction c) h.1 i))
value_held (and_pair j w ps) k v c (inr h) i = inr (inr (value_held ps k v c h i))

among_held : (v : Value) (vs : Values) (c : Value) → IsAmong v vs → HoldsFunction c v → HoldFunction c vs
among_held v no_value c h i = absurd h
among_held v (and_value w vs) c (inl e) i = inl (subst (HoldsFunction c) e i)
among_held v (and_value w vs) c (inr h) i = inr (among_held v vs c h i)

keys_held : (vs : Values) (c : Value) → HoldFunction c (keys_given vs) → HoldFunction c vs
keys_held no_value c i = absurd i
keys_held (and_value k no_value) c i = absurd i
keys_held (and_value k (and_value v vs)) c (inl i) = inl i
keys_held (and_value k (and_value v vs)) c (inr i) = inr (inr (keys_held vs c i))

values_held : (vs : Values) (c : Value) → HoldFunction c (values_given vs) → HoldFunction c vs
values_held no_value c i = absurd i
values_held (and_value k no_value) c i = absurd i
values_held (and_value k (and_value v vs)) c (inl i) = inr (inl i)
values_held (and_value k (and_value v vs)) c (inr i) = inr (inr (values_held vs c i))

-- a map that is made holds what is given holds, or the map after the bar
pub made_held : (vs : Values) (old qs : ValuePairs) (c : Value) → IsMadeOf vs old qs → PairsHoldFunction c qs → HoldFunction c vs ⊎ PairsHoldFunction c old
made_held vs old no_pair c m i = absurd i
made_held vs old (and_pair x v qs) c m (inl i) = of_key m.0.0
  where
    of_key : IsAmong x (keys_given vs) ⊎ ((w : Value) × HoldsPair old x w) → HoldFunction c vs ⊎ PairsHoldFunction c old
    of_key (inl j) = inl (keys_held vs c (among_held x (keys_given vs) c j i))
    of_key (inr j) = inr (key_held old x j.0 c j.1 i)
made_held vs old (and_pair x v qs) c m (inr (inl i)) = of_value m.0.1
  where
    of_value : IsAmong v (values_given vs) ⊎ ((j : Value) × HoldsPair old j v) → HoldFunction c vs ⊎ PairsHoldFunction c old
    of_value (inl j) = inl (values_held vs c (among_held v (values_given vs) c j i))
    of_value (inr j) = inr (value_held old j.0 v c j.1 i)
made_held vs old (and_pair x v qs) c m (inr (inr i)) = made_held vs old qs c m.1 i

pub list_held : (vs : Values) (c : Value) → HoldsFunction c (list_value vs) → HoldFunction c vs
list_held no_value c i = absurd i
list_held (and_value v no_value) c i = inl i
list_held (and_value v (and_value w vs)) c (inl i) = inl i
list_held (and_value v (and_value w vs)) c (inr i) = inr (list_held (and_value w vs) c i)
