-- Lists of types, ordered item by item.
use Rattle.std.proofs.Common.{◌≡◌, suc, List, [], ◌∷◌, length, refl, ap}
use Rattle.type_lattice_model.specs.Values.{Values, no_value, and_value}
use Rattle.type_lattice.specs.Types.{Type4, HasTypes, AreBelow}

pub are_self : (ts : List Type4) → AreBelow ts ts
are_self [] = tt
are_self (t ∷ ts) = (λ v h. h, are_self ts)

pub are_through : (ts us ws : List Type4) → AreBelow ts us → AreBelow us ws → AreBelow ts ws
are_through [] [] [] h k = tt
are_through [] [] (w ∷ ws) h k = absurd k
are_through [] (u ∷ us) ws h k = absurd h
are_through (t ∷ ts) [] ws h k = absurd h
are_through (t ∷ ts) (u ∷ us) [] h k = absurd k
are_through (t ∷ ts) (u ∷ us) (w ∷ ws) h k = (λ v i. k.0 v (h.0 v i), are_through ts us ws h.1 k.1)

pub are_long : (ts us : List Type4) → AreBelow ts us → length ts ≡ length us
are_long [] [] h = refl
are_long [] (u ∷ us) h = absurd h
are_long (t ∷ ts) [] h = absurd h
are_long (t ∷ ts) (u ∷ us) h = ap suc (are_long ts us h.1)

-- larger types hold what smaller ones do
pub types_more : (vs : Values) (ts us : List Type4) → AreBelow ts us → HasTypes vs ts → HasTypes vs us
types_more no_value [] [] l h = tt
types_more no_value [] (u ∷ us) l h = absurd l
types_more no_value (t ∷ ts) us l h = absurd h
types_more (and_value v vs) [] us l h = absurd h
types_more (and_value v vs) (t ∷ ts) [] l h = absurd l
types_more (and_value v vs) (t ∷ ts) (u ∷ us) l h = (l.0 v h.0, types_more vs ts us l.1 h.1)
