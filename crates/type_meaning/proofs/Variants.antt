-- What each variant of the code's values stands for, and which variant a value is.
use Rattle.std.proofs.Common.{◌≡◌, ℕ, ℤ, List, map, refl, sym, ap, ◌∙◌}
use Rattle.type_kinds.specs.declared.atom.Atom.{Atom}
use Rattle.type_lattice_model.specs.Shapes.{floats, pids, ports, references, nils, maps}
use Rattle.type_lattice_model.specs.Values as m
use Rattle.type_lattice_model.specs.ValueShapes.{Leaf, an_int, an_atom, some_bits, of_flag, a_function, leaf, pair, row, shape, zeros, length-zeros}
use Rattle.type_meaning.specs.declared.value.Value.{Value, out-Value, roll-Value, roll-out-Value}
use Rattle.type_meaning.specs.declared.value.Value.TheVariants as v
use Rattle.type_meaning.specs.declared.value.Value.TheOpen.{Value-F}
use Rattle.type_meaning.specs.declared.value.Value.TheFolds.{map-Value, fold_out-Value}
use Rattle.type_meaning.specs.Values.{values, pairs, value_layer, value_of}

-- a list of values
abbrev pub all_values : List Value → m.Values
all_values vs = values (map value_of vs)

-- the pairs of a map
abbrev pub all_pairs : List (Value × Value) → m.ValuePairs
all_pairs ps = pairs (map (λ p. (value_of p.0, value_of p.1)) ps)

-- what a value stands for, by what its layer is
stands_for : (x : Value) (y : Value-F Value) → out-Value x ≡ y → value_of x ≡ value_layer (map-Value Value m.Value value_of y)
unfolding value_of
stands_for x y is = fold_out-Value m.Value value_layer x ∙ ap (λ l. value_layer (map-Value Value m.Value value_of l)) is

pub value-Int : (n : ℤ) → value_of (v.Int n) ≡ m.int n
value-Int n = stands_for (v.Int n) _ (v.outs-Int n)

pub value-Float : (s : List ℕ) → value_of (v.Float s) ≡ m.float s
value-Float s = stands_for (v.Float s) _ (v.outs-Float s)

pub value-Atom : (a : Atom) → value_of (v.Atom a) ≡ m.atom a
value-Atom a = stands_for (v.Atom a) _ (v.outs-Atom a)

pub value-Bits : (n : ℕ) → value_of (v.Bits n) ≡ m.bits (zeros n)
value-Bits n = stands_for (v.Bits n) _ (v.outs-Bits n)

pub value-Nil : value_of v.Nil ≡ m.nil
value-Nil = stands_for v.Nil _ v.outs-Nil

pub value-Cons : (h t : Value) → value_of (v.Cons h t) ≡ m.cons (value_of h) (value_of t)
value-Cons h t = stands_for (v.Cons h t) _ (v.outs-Cons h t)

pub value-Tuple : (vs : List Value) → value_of (v.Tuple vs) ≡ m.tuple (all_values vs)
value-Tuple vs = stands_for (v.Tuple vs) _ (v.outs-Tuple vs)

pub value-Map : (ps : List (Value × Value)) → value_of (v.Map ps) ≡ m.map (all_pairs ps)
value-Map ps = stands_for (v.Map ps) _ (v.outs-Map ps)

pub value-Pid : (n : ℕ) → value_of (v.Pid n) ≡ m.pid n
value-Pid n = stands_for (v.Pid n) _ (v.outs-Pid n)

pub value-Port : (n : ℕ) → value_of (v.Port n) ≡ m.port n
value-Port n = stands_for (v.Port n) _ (v.outs-Port n)

pub value-Reference : (n : ℕ) → value_of (v.Reference n) ≡ m.reference n
value-Reference n = stands_for (v.Reference n) _ (v.outs-Reference n)

pub value-Function : (n : ℕ) → value_of (v.Function n) ≡ m.foreign 0 n
value-Function n = stands_for (v.Function n) _ (v.outs-Function n)

pub data Variant (x : Value) : Type 0 where
  is_int : (n : ℤ) → x ≡ v.Int n → Variant x
  is_float : (s : List ℕ) → x ≡ v.Float s → Variant x
  is_atom : (a : Atom) → x ≡ v.Atom a → Variant x
  is_bits : (n : ℕ) → x ≡ v.Bits n → Variant x
  is_nil : x ≡ v.Nil → Variant x
  is_cons : (h t : Value) → x ≡ v.Cons h t → Variant x
  is_tuple : (vs : List Value) → x ≡ v.Tuple vs → Variant x
  is_map : (ps : List (Value × Value)) → x ≡ v.Map ps → Variant x
  is_pid : (n : ℕ) → x ≡ v.Pid n → Variant x
  is_port : (n : ℕ) → x ≡ v.Port n → Variant x
  is_reference : (n : ℕ) → x ≡ v.Reference n → Variant x
  is_function : (n : ℕ) → x ≡ v.Function n → Variant x

-- a value is its layer, rolled up
rolled : (x z : Value) (y : Value-F Value) → out-Value x ≡ y → roll-Value y ≡ z → x ≡ z
rolled x z y is rolls = sym (roll-out-Value x) ∙ ap roll-Value is ∙ rolls

pub variant : (x : Value) → Variant x
variant x = by (out-Value x) refl
  where
    by : (y : Value-F Value) → out-Value x ≡ y → Variant x
    by (Value-F.Int n) e = is_int n (rolled x _ _ e (v.rolls-Int n))
    by (Value-F.Float s) e = is_float s (rolled x _ _ e (v.rolls-Float s))
    by (Value-F.Atom a) e = is_atom a (rolled x _ _ e (v.rolls-Atom a))
    by (Value-F.Bits n) e = is_bits n (rolled x _ _ e (v.rolls-Bits n))
    by Value-F.Nil e = is_nil (rolled x _ _ e v.rolls-Nil)
    by (Value-F.Cons h t) e = is_cons h t (rolled x _ _ e (v.rolls-Cons h t))
    by (Value-F.Tuple vs) e = is_tuple vs (rolled x _ _ e (v.rolls-Tuple vs))
    by (Value-F.Map ps) e = is_map ps (rolled x _ _ e (v.rolls-Map ps))
    by (Value-F.Pid n) e = is_pid n (rolled x _ _ e (v.rolls-Pid n))
    by (Value-F.Port n) e = is_port n (rolled x _ _ e (v.rolls-Port n))
    by (Value-F.Reference n) e = is_reference n (rolled x _ _ e (v.rolls-Reference n))
    by (Value-F.Function n) e = is_function n (rolled x _ _ e (v.rolls-Function n))

-- ---- values that hold no others

pub shape-Int : (x : Value) (n : ℤ) → x ≡ v.Int n → shape (value_of x) ≡ leaf (an_int n)
shape-Int x n e = ap shape (ap value_of e ∙ value-Int n)

pub shape-Float : (x : Value) (s : List ℕ) → x ≡ v.Float s → shape (value_of x) ≡ leaf (of_flag floats)
shape-Float x s e = ap shape (ap value_of e ∙ value-Float s)

pub shape-Atom : (x : Value) (a : Atom) → x ≡ v.Atom a → shape (value_of x) ≡ leaf (an_atom a)
shape-Atom x a e = ap shape (ap value_of e ∙ value-Atom a)

pub shape-Bits : (x : Value) (n : ℕ) → x ≡ v.Bits n → shape (value_of x) ≡ leaf (some_bits n)
shape-Bits x n e = ap shape (ap value_of e ∙ value-Bits n) ∙ ap (λ k. leaf (some_bits k)) (length-zeros n)

pub shape-Nil : (x : Value) → x ≡ v.Nil → shape (value_of x) ≡ leaf (of_flag nils)
shape-Nil x e = ap shape (ap value_of e ∙ value-Nil)

pub shape-Cons : (x h t : Value) → x ≡ v.Cons h t → shape (value_of x) ≡ pair (value_of h) (value_of t)
shape-Cons x h t e = ap shape (ap value_of e ∙ value-Cons h t)

pub shape-Tuple : (x : Value) (vs : List Value) → x ≡ v.Tuple vs → shape (value_of x) ≡ row (all_values vs)
shape-Tuple x vs e = ap shape (ap value_of e ∙ value-Tuple vs)

pub shape-Map : (x : Value) (ps : List (Value × Value)) → x ≡ v.Map ps → shape (value_of x) ≡ leaf (of_flag maps)
shape-Map x ps e = ap shape (ap value_of e ∙ value-Map ps)

pub shape-Pid : (x : Value) (n : ℕ) → x ≡ v.Pid n → shape (value_of x) ≡ leaf (of_flag pids)
shape-Pid x n e = ap shape (ap value_of e ∙ value-Pid n)

pub shape-Port : (x : Value) (n : ℕ) → x ≡ v.Port n → shape (value_of x) ≡ leaf (of_flag ports)
shape-Port x n e = ap shape (ap value_of e ∙ value-Port n)

pub shape-Reference : (x : Value) (n : ℕ) → x ≡ v.Reference n → shape (value_of x) ≡ leaf (of_flag references)
shape-Reference x n e = ap shape (ap value_of e ∙ value-Reference n)

pub shape-Function : (x : Value) (n : ℕ) → x ≡ v.Function n → shape (value_of x) ≡ leaf (a_function n)
shape-Function x n e = ap shape (ap value_of e ∙ value-Function n)

-- each value is one, but a cons and a tuple
pub is_leaf : (x : Value) → ((h t : Value) → x ≡ v.Cons h t → ⊥) → ((vs : List Value) → x ≡ v.Tuple vs → ⊥) → (l : Leaf) × (shape (value_of x) ≡ leaf l)
is_leaf x no_cons no_tuple = elim (variant x) [
  | is_int n e ↦ (an_int n, shape-Int x n e)
  | is_float s e ↦ (of_flag floats, shape-Float x s e)
  | is_atom a e ↦ (an_atom a, shape-Atom x a e)
  | is_bits n e ↦ (some_bits n, shape-Bits x n e)
  | is_nil e ↦ (of_flag nils, shape-Nil x e)
  | is_cons h t e ↦ absurd (no_cons h t e)
  | is_tuple vs e ↦ absurd (no_tuple vs e)
  | is_map ps e ↦ (of_flag maps, shape-Map x ps e)
  | is_pid n e ↦ (of_flag pids, shape-Pid x n e)
  | is_port n e ↦ (of_flag ports, shape-Port x n e)
  | is_reference n e ↦ (of_flag references, shape-Reference x n e)
  | is_function n e ↦ (a_function n, shape-Function x n e)
]
