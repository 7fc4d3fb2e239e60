-- A number for each value, which its parts have lower ones of, so that no descent goes on for ever.
use Rattle.std.proofs.Common.{◌≡◌, ℕ, zero, suc, ◌+◌, ◌<◌, List, [], ◌∷◌, length, slice_index_or, sym, ap, ◌∙◌, subst, arith}
use Rattle.type_lattice_model.specs.Values as m
use Rattle.type_meaning.specs.declared.value.Value.{Value}
use Rattle.type_meaning.specs.declared.value.Value.TheVariants as v
use Rattle.type_meaning.specs.Values.{value_of}
use Rattle.type_meaning.proofs.Variants.{all_values, value-Cons, value-Tuple}

abbrev mutual
  pub weight : m.Value → ℕ
  weight (m.cons h t) = weight h + weight t + 2
  weight (m.tuple vs) = weights vs + 2
  weight _ = 0

  pub weights : m.Values → ℕ
  weights m.no_value = 0
  weights (m.and_value v vs) = weight v + weights vs + 2

pub lighter_head : (x h t y : Value) → x ≡ v.Cons h t → y ≡ h → weight (value_of y) + 1 < weight (value_of x)
lighter_head x h t y e f =
    let p : weight (value_of x) ≡ weight (m.cons (value_of h) (value_of t)) = ap weight (ap value_of e ∙ value-Cons h t) in
    let q : weight (value_of y) ≡ weight (value_of h) = ap (λ z. weight (value_of z)) f in
    omega arith

pub lighter_tail : (x h t y : Value) → x ≡ v.Cons h t → y ≡ t → weight (value_of y) < weight (value_of x)
lighter_tail x h t y e f =
    let p : weight (value_of x) ≡ weight (m.cons (value_of h) (value_of t)) = ap weight (ap value_of e ∙ value-Cons h t) in
    let q : weight (value_of y) ≡ weight (value_of t) = ap (λ z. weight (value_of z)) f in
    omega arith

pub lighter_elements : (x : Value) (vs ws : List Value) → x ≡ v.Tuple vs → ws ≡ vs → weights (all_values ws) + 1 < weight (value_of x)
lighter_elements x vs ws e f =
    let p : weight (value_of x) ≡ weight (m.tuple (all_values vs)) = ap weight (ap value_of e ∙ value-Tuple vs) in
    let q : weights (all_values ws) ≡ weights (all_values vs) = ap (λ z. weights (all_values z)) f in
    omega arith

pub lighter_rest : (vs : List Value) (x : Value) (xs : List Value) → vs ≡ x ∷ xs → weights (all_values xs) < weights (all_values vs)
lighter_rest vs x xs e = let p : weights (all_values vs) ≡ weights (all_values (x ∷ xs)) = ap (λ z. weights (all_values z)) e in omega arith

lighter_at : (vs : List Value) (i : ℕ) (x : Value) → i < length vs → weight (value_of (slice_index_or vs i x)) + 1 < weights (all_values vs)
lighter_at [] i x lt = absurd (omega arith)
lighter_at (y ∷ vs) zero x lt = omega arith
lighter_at (y ∷ vs) (suc i) x lt = let p : weight (value_of (slice_index_or vs i x)) + 1 < weights (all_values vs) = lighter_at vs i x (omega arith) in omega arith

pub lighter_item : (vs : List Value) (i : ℕ) (x : Value) → i < length vs → x ≡ slice_index_or vs i x → weight (value_of x) + 1 < weights (all_values vs)
lighter_item vs i x lt e = subst (λ y. weight (value_of y) + 1 < weights (all_values vs)) (sym e) (lighter_at vs i x lt)
