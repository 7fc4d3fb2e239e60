-- Larger types hold what smaller ones do, so lists of them do.
use Rattle.std.proofs.Common.{Bool, true, arith}
use Rattle.type_lattice_model.specs.Values.{Values, no_value, and_value}
use Rattle.type_lattice_model.specs.HasType.{HasAll}
use Rattle.type_lattice.specs.Types.{Type4, HasType, Below, cons, elem}
use Rattle.type_lattice.proofs.TypeLaws.{laws}

all_more : (s t : Type4) → Below s t → (vs : Values) → HasAll HasType vs s → HasAll HasType vs t
all_more s t f no_value h = h
all_more s t f (and_value v vs) h = (f v h.0, all_more s t f vs h.1)

-- lists with proper ends
proper_more : (h t i u : Type4) → Below h i → Below t u → Below (cons h t true) (cons i u true)
proper_more h t i u f g = laws.cons-least h t (cons i u true) (λ x y p q. laws.cons-has i u true x y (f x p) (g y q))

heads_more : (h t i u : Type4) → Below h i → Below t u → Below (elem (cons h t true)) (elem (cons i u true))
heads_more h t i u f g = laws.elem-least _ _ (λ x y m. laws.elem-holds _ x y (proper_more h t i u f g _ m))

-- and with free ends, by their heads
pub cons_more : (h t i u : Type4) (proper : Bool) → Below h i → Below t u → Below (cons h t proper) (cons i u proper)
cons_more h t i u proper f g = grind (arith, laws.cons-only, laws.cons-free, all_more, heads_more, proper_more)
