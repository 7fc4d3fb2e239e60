-- What a type looks at in a value: a list by its head and tail, a tuple by its elements, and of every other value what kind
-- it is.
use Rattle.std.specs.Prelude.{◌≡◌, ℕ, zero, suc, ℤ, Bool, true, false, List, [], ◌∷◌, length, refl}
use Rattle.std.proofs.Common.{ap}
use Rattle.type_kinds_sets.specs.Names as names
use Rattle.type_kinds_sets.specs.Names.{Name}
use Rattle.type_kinds_sets.specs.Numbers as numbers
use Rattle.type_kinds_sets.specs.BitLengths as bit_lengths
use Rattle.type_lattice_model.specs.Values.{Value, int, atom, bits, float, pid, port, reference, nil, cons, tuple, map, closure, external, foreign, Values, no_pair}
use Rattle.type_lattice_model.specs.Shapes.{Flag, floats, pids, ports, references, nils, maps, PlainParts, Parts}
use Rattle.type_lattice_model.specs.HasType.{has_flag, has_arity, HasCell, HasTuple, HasParts}

-- a value that holds no other, as far as a type tells it
pub data Leaf : Type 0 where
  an_int : (n : ℤ) → Leaf
  an_atom : (a : Name) → Leaf
  some_bits : (n : ℕ) → Leaf
  of_flag : (k : Flag) → Leaf
  a_function : (n : ℕ) → Leaf

abbrev pub has_leaf : PlainParts → Leaf → Bool
has_leaf p (an_int n) = numbers.has p.ints n
has_leaf p (an_atom a) = names.has p.atoms a
has_leaf p (some_bits n) = bit_lengths.has p.bits n
has_leaf p (of_flag k) = has_flag p.flags k
has_leaf p (a_function n) = has_arity p.functions n

-- each value of the first that holds no other is one of the second
abbrev pub PlainBelow : PlainParts → PlainParts → Type 0
PlainBelow p q = (l : Leaf) → has_leaf p l ≡ true → has_leaf q l ≡ true

pub data Shape : Type 0 where
  leaf : (l : Leaf) → Shape
  pair : (h t : Value) → Shape
  row : (vs : Values) → Shape

abbrev pub shape : Value → Shape
shape (int n) = leaf (an_int n)
shape (atom a) = leaf (an_atom a)
shape (bits bs) = leaf (some_bits (length bs))
shape (float s) = leaf (of_flag floats)
shape (pid n) = leaf (of_flag pids)
shape (port n) = leaf (of_flag ports)
shape (reference n) = leaf (of_flag references)
shape (map ps) = leaf (of_flag maps)
shape nil = leaf (of_flag nils)
shape (cons h t) = pair h t
shape (tuple vs) = row vs
shape (closure m l n env) = leaf (a_function n)
shape (external m f n) = leaf (a_function n)
shape (foreign x n) = leaf (a_function n)

-- n bits 0
abbrev pub zeros : ℕ → List Bool
zeros zero = []
zeros (suc n) = false ∷ zeros n

pub length-zeros : (n : ℕ) → length (zeros n) ≡ n
length-zeros zero = refl
length-zeros (suc n) = ap suc (length-zeros n)

-- a value of each shape
pub value_of_leaf : Leaf → Value
value_of_leaf (an_int n) = int n
value_of_leaf (an_atom a) = atom a
value_of_leaf (some_bits n) = bits (zeros n)
value_of_leaf (of_flag floats) = float []
value_of_leaf (of_flag pids) = pid 0
value_of_leaf (of_flag ports) = port 0
value_of_leaf (of_flag references) = reference 0
value_of_leaf (of_flag maps) = map no_pair
value_of_leaf (of_flag nils) = nil
value_of_leaf (a_function n) = foreign 0 n

pub value_of_shape : Shape → Value
value_of_shape (leaf l) = value_of_leaf l
value_of_shape (pair h t) = cons h t
value_of_shape (row vs) = tuple vs

pub shape-value_of_shape : (f : Shape) → shape (value_of_shape f) ≡ f
unfolding value_of_shape value_of_leaf
shape-value_of_shape (leaf (an_int n)) = refl
shape-value_of_shape (leaf (an_atom a)) = refl
shape-value_of_shape (leaf (some_bits n)) = ap (λ m. leaf (some_bits m)) (length-zeros n)
shape-value_of_shape (leaf (of_flag floats)) = refl
shape-value_of_shape (leaf (of_flag pids)) = refl
shape-value_of_shape (leaf (of_flag ports)) = refl
shape-value_of_shape (leaf (of_flag references)) = refl
shape-value_of_shape (leaf (of_flag maps)) = refl
shape-value_of_shape (leaf (of_flag nils)) = refl
shape-value_of_shape (leaf (a_function n)) = refl
shape-value_of_shape (pair h t) = refl
shape-value_of_shape (row vs) = refl

module _ {E : Type 0} (Has : Value → E → Type 0) where
  abbrev pub HasShape : Shape → Parts E → Type 0
  HasShape (leaf l) p = has_leaf p.plain l ≡ true
  HasShape (pair h t) p = HasCell Has (h, t) p.cell
  HasShape (row vs) p = HasTuple Has vs p.tuples

  -- a type has a value exactly where it has its shape
  pub has-shape : (v : Value) (p : Parts E) → HasParts Has v p ≡ HasShape (shape v) p
  has-shape (int n) p = refl
  has-shape (atom a) p = refl
  has-shape (bits bs) p = refl
  has-shape (float s) p = refl
  has-shape (pid n) p = refl
  has-shape (port n) p = refl
  has-shape (reference n) p = refl
  has-shape (map ps) p = refl
  has-shape nil p = refl
  has-shape (cons h t) p = refl
  has-shape (tuple vs) p = refl
  has-shape (closure m l n env) p = refl
  has-shape (external m f n) p = refl
  has-shape (foreign x n) p = refl
