-- The value that a value of the code stands for.
use Rattle.std.specs.Prelude.{List, [], ◌∷◌}
use Rattle.type_lattice_model.specs.Values as m
use Rattle.type_lattice_model.specs.ValueShapes.{zeros}
use Rattle.type_meaning.specs.declared.value.Value.{Value}
use Rattle.type_meaning.specs.declared.value.Value.TheOpen.{Value-F}
use Rattle.type_meaning.specs.declared.value.Value.TheFolds.{fold-Value}

abbrev pub values : List m.Value → m.Values
values [] = m.no_value
values (v ∷ vs) = m.and_value v (values vs)

abbrev pub pairs : List (m.Value × m.Value) → m.ValuePairs
pairs [] = m.no_pair
pairs (p ∷ ps) = m.and_pair p.0 p.1 (pairs ps)

-- one layer, whose parts are values of the model already
abbrev pub value_layer : Value-F m.Value → m.Value
value_layer (Value-F.Int n) = m.int n
value_layer (Value-F.Float s) = m.float s
value_layer (Value-F.Atom a) = m.atom a
value_layer (Value-F.Bits n) = m.bits (zeros n)
value_layer Value-F.Nil = m.nil
value_layer (Value-F.Cons h t) = m.cons h t
value_layer (Value-F.Tuple vs) = m.tuple (values vs)
value_layer (Value-F.Map ps) = m.map (pairs ps)
value_layer (Value-F.Pid n) = m.pid n
value_layer (Value-F.Port n) = m.port n
value_layer (Value-F.Reference n) = m.reference n
value_layer (Value-F.Function n) = m.foreign 0 n

unfoldable pub value_of : Value → m.Value
value_of = fold-Value m.Value value_layer
