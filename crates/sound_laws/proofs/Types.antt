-- The types that rows name have the values that forms give.
use Rattle.std.proofs.Common.{◌≡◌, ℕ, ◌<◌, ◌^◌, ℤ, pos, Bool, true, false, ◌&&◌, cond, [], ◌∷◌, refl, sym, ap, ◌∙◌, subst, arith, nat_lt, codes}
use Rattle.std.proofs.lemmas.Bool.{ltb-true, le-leb}
use Rattle.type_kinds_sets.specs.Names as names
use Rattle.type_kinds_sets.specs.Names.{Name}
use Rattle.type_kinds_sets.specs.Numbers as numbers
use Rattle.type_kinds_sets.specs.declared.ends.Low.TheVariants.{Min, Zero}
use Rattle.type_kinds_sets.specs.declared.ends.High.TheVariants.{Max}
use Rattle.type_kinds_sets.proofs.NameLaws as by_name
use Rattle.type_kinds_sets.proofs.NumberLaws as by_number
use Rattle.type_lattice_model.specs.Values.{Value, int, atom, bits, float, nil, closure, external, foreign, ValuePairs}
use Rattle.type_lattice_model.specs.Values as value
use Rattle.type_lattice.specs.Kinds.{HasArity, IsFunction, of_kind}
use Rattle.type_lattice.specs.Types.{HasType, of_atoms, of_ints}
use Rattle.type_lattice.specs.declared.kinds.Kind.TheVariants.{Float, Bitstring, Map, AnyFun, FunOf, Nil}
use Rattle.core_ast.specs.declared.syntax.Literal.{Literal}
use Rattle.core_ast.specs.declared.syntax.Literal.TheVariants as l
use Rattle.core_scope.specs.Segments as segment
use Rattle.cons_tree.specs.Environments.{Assignment}
use Rattle.cons_tree.specs.Named.{integers, naturals, floats, just_true}
use Rattle.cons_tree.specs.Satisfied.{IsInteger, IsNatural, IsFloat, true_value}
use Rattle.core_meaning.specs.Matching.{LiteralIs, IsBits, IsOfKind}
use Rattle.cons_gen_rows.specs.Words.{function_type, literal_type}
use Rattle.cons_gen_rows.specs.Patterns.{segment_rows}
use Rattle.sound_laws.specs.Facts.{Facts}
use Rattle.sound_laws.specs.Satisfied.{SatRows}

is_function : (n : ℕ) (v : Value) → HasArity v n → IsFunction v
is_function n (closure h i k env) e = tt
is_function n (external h f k) e = tt
is_function n (foreign x k) e = tt
is_function n (int i) e = e
is_function n (atom a) e = e
is_function n (bits bs) e = e
is_function n (float s) e = e
is_function n (value.pid i) e = e
is_function n (value.port i) e = e
is_function n (value.reference i) e = e
is_function n nil e = e
is_function n (value.cons h t) e = e
is_function n (value.tuple vs) e = e
is_function n (value.map ps) e = e

module _ (F : Facts) where
  pub integer_in : (v : Value) → IsInteger v → HasType v integers
  unfolding integers
  integer_in v h =
      let all : numbers.has (numbers.range Min Max) h.0 ≡ true = by_number.has-range Min Max h.0 in
      subst (λ w. HasType w integers) (sym h.1) ((F.ints (numbers.range Min Max) (int h.0)).1 all)

  pub natural_in : (v : Value) → IsNatural v → HasType v naturals
  unfolding naturals
  natural_in v h =
      let all : numbers.has (numbers.range Zero Max) (pos h.0) ≡ true = by_number.has-range Zero Max (pos h.0) ∙ ap (λ b. b && true) (le-leb 0 h.0 (omega arith)) in
      subst (λ w. HasType w naturals) (sym h.1) ((F.ints (numbers.range Zero Max) (int (pos h.0))).1 all)

  pub float_in : (v : Value) → IsFloat v → HasType v floats
  unfolding floats
  float_in v h = subst (λ w. HasType w floats) (sym h.1) ((F.kind Float (λ n e. absurd cc) (float h.0)).1 tt)

  pub bits_in : (v : Value) → IsBits v → HasType v (of_kind Bitstring)
  bits_in v h = subst (λ w. HasType w (of_kind Bitstring)) (sym h.1) ((F.kind Bitstring (λ n e. absurd cc) (bits h.0)).1 tt)

  pub map_in : (ps : ValuePairs) → HasType (value.map ps) (of_kind Map)
  map_in ps = (F.kind Map (λ n e. absurd cc) (value.map ps)).1 tt

  pub nil_in : HasType nil (of_kind Nil)
  nil_in = (F.kind Nil (λ n e. absurd cc) nil).1 tt

  pub atom_in : (x : Name) → HasType (atom x) (of_atoms (names.listed (x ∷ [])))
  atom_in x = (F.atoms (names.listed (x ∷ [])) (atom x)).1 ((by_name.has-one x x).1 refl)

  -- and no other atom
  pub one_atom : (x y : Name) → HasType (atom y) (of_atoms (names.listed (x ∷ []))) → y ≡ x
  one_atom x y h = (by_name.has-one x y).0 ((F.atoms (names.listed (x ∷ [])) (atom y)).0 h)

  pub true_in : HasType true_value just_true
  unfolding just_true
  true_in = atom_in (codes "true")

  pub function_in : (n : ℕ) (v : Value) → HasArity v n → HasType v (function_type n)
  function_in n v h = by (nat_lt n (2 ^ 32)) refl
    where
      small : (k : ℕ) → n < 2 ^ 32 → FunOf n ≡ FunOf k → k < 2 ^ 32
      small k below e = let same : n ≡ k = cc in subst (λ i. i < 2 ^ 32) same below

      by : (b : Bool) → nat_lt n (2 ^ 32) ≡ b → HasType v (cond b (of_kind (FunOf n)) (of_kind AnyFun))
      by true e = (F.kind (FunOf n) (λ k f. small k (ltb-true n (2 ^ 32) e) f) v).1 h
      by false e = (F.kind AnyFun (λ k f. absurd cc) v).1 (is_function n v h)

  integer_literal : (n : ℤ) → HasType (int n) (literal_type (l.Int n))
  integer_literal n = by (numbers.is_narrow n) refl
    where
      by : (b : Bool) → numbers.is_narrow n ≡ b → HasType (int n) (cond b (of_ints (numbers.listed (n ∷ []))) integers)
      by true e = (F.ints (numbers.listed (n ∷ [])) (int n)).1 ((by_number.has-one n n e).1 refl)
      by false e = integer_in (int n) (n, refl)

  pub literal_in : (c : Literal) (v : Value) → LiteralIs c v → HasType v (literal_type c)
  literal_in (l.Int n) v h = subst (λ w. HasType w (literal_type (l.Int n))) (sym h) (integer_literal n)
  literal_in (l.Float s) v h = float_in v h
  literal_in (l.Atom a) v h = subst (λ w. HasType w (of_atoms (names.listed (a ∷ [])))) (sym h) (atom_in a)
  literal_in l.Nil v h = subst (λ w. HasType w (of_kind Nil)) (sym h) nil_in

  -- what stands in the slot of a segment
  pub segment_in : (s : ℕ) (k : segment.SegmentKind) (b : Assignment) (v : Value) → b s ≡ v → IsOfKind k v → SatRows (segment_rows s k) b
  segment_in s segment.integers b v e h = (subst (λ w. HasType w integers) (sym e) (integer_in v h), tt)
  segment_in s segment.floats b v e h = (subst (λ w. HasType w floats) (sym e) (float_in v h), tt)
  segment_in s segment.bit_strings b v e h = (subst (λ w. HasType w (of_kind Bitstring)) (sym e) (bits_in v h), tt)
  segment_in s segment.anything b v e h = tt
