-- A widened state is the state that was widened, or one in which a function less can change.
use Rattle.std.proofs.Common.{◌≡◌, ℕ, ◌+◌, ◌<◌, ◌≤◌, ◌⊎◌, inl, inr, Bool, true, false, cond, List, [], ◌∷◌, length, replicate, Option, Some, None, refl, sym, ap, ap₂, ◌∙◌, true≢false, arith}
use Rattle.std.specs.Prelude.{IsTrue, ◌↔◌}
use Rattle.std.proofs.lemmas.Bool.{and_from}
use Rattle.std.proofs.lemmas.List.{length-replicate}
use Rattle.type_kinds.proofs.Truths.{first, second}
use Rattle.type_lattice.specs.Types.{Type4, any}
use Rattle.type_lattice.specs.Inclusion.{is_same}
use Rattle.module_flow_state.specs.declared.states.FlowFun.{FlowFun}
use Rattle.module_flow_state.specs.States.{FlowState, anys, widened_parameters, widened_result, widened_one, widened}
use Rattle.module_flow_calls.specs.TypeLists.{are_same}

abbrev pub weight : Bool → ℕ
weight true = 0
weight false = 1

-- how much of a function can still change: its parameters unless they are widened, and its result likewise
abbrev pub narrow_parameters : Option (List Type4) → ℕ
narrow_parameters None = 1
narrow_parameters (Some ts) = weight (are_same ts (anys ts))

abbrev pub narrow_result : Type4 → ℕ
narrow_result t = weight (is_same t any)

abbrev pub narrow_count : FlowState → ℕ
narrow_count [] = 0
narrow_count (f ∷ fs) = (narrow_parameters f.params + narrow_result f.result) + narrow_count fs

pub anys_anys : (ts : List Type4) → anys (anys ts) ≡ anys ts
anys_anys ts = ap (λ n. replicate n any) (length-replicate (length ts) any)

weight_within : (b : Bool) → weight b ≤ 1
weight_within true = omega arith
weight_within false = omega arith

parameters_within : (ts : Option (List Type4)) → narrow_parameters ts ≤ 1
parameters_within None = omega arith
parameters_within (Some ts) = weight_within (are_same ts (anys ts))

pub count_within : (fs : FlowState) → narrow_count fs ≤ length fs + length fs
count_within [] = omega arith
count_within (f ∷ fs) =
    let p : narrow_parameters f.params ≤ 1 = parameters_within f.params in
    let r : narrow_result f.result ≤ 1 = weight_within (is_same f.result any) in
    let more : narrow_count fs ≤ length fs + length fs = count_within fs in
    omega arith

-- either as it was, or of less weight
abbrev pub Turn : {A : Type 0} → (A → ℕ) → (old new : A) → Type 0
Turn narrow old new = (new ≡ old) ⊎ (narrow new < narrow old)

module _ (same : (s t : Type4) → IsTrue (is_same s t) ↔ (s ≡ t)) where
  pub same_itself : (ts : List Type4) → are_same ts ts ≡ true
  same_itself [] = refl
  same_itself (t ∷ ts) = and_from (is_same t t) (are_same ts ts) ((same t t).1 refl) (same_itself ts)

  pub same_types : (ts us : List Type4) → are_same ts us ≡ true → ts ≡ us
  same_types [] [] e = refl
  same_types [] (u ∷ us) e = absurd (true≢false (sym e))
  same_types (t ∷ ts) [] e = absurd (true≢false (sym e))
  same_types (t ∷ ts) (u ∷ us) e =
      ap₂ (λ x xs. x ∷ xs) ((same t u).0 (first (is_same t u) (are_same ts us) e)) (same_types ts us (second (is_same t u) (are_same ts us) e))

  wide_weight : (ts : List Type4) → narrow_parameters (Some (anys ts)) ≡ 0
  wide_weight ts =
      ap (λ us. weight (are_same (anys ts) us)) (anys_anys ts) ∙ ap weight (same_itself (anys ts))

  -- ---- what was wide stays, and what changes becomes wide

  parameters_turn : (old new : Option (List Type4)) → Turn narrow_parameters old (widened_parameters old new)
  parameters_turn None None = inl refl
  parameters_turn None (Some us) = let w = wide_weight us in inr (omega (arith, w))
  parameters_turn (Some ts) None = inl refl
  parameters_turn (Some ts) (Some us) = by (are_same ts us) (are_same ts (anys ts)) refl
    where
      by : (a b : Bool) → are_same ts (anys ts) ≡ b → Turn narrow_parameters (Some ts) (Some (cond a ts (anys ts)))
      by true b e = inl refl
      by false true e = inl (ap Some (sym (same_types ts (anys ts) e)))
      by false false e =
          let w = wide_weight ts in
          let v : weight (are_same ts (anys ts)) ≡ 1 = ap weight e in
          inr (omega (arith, w, v))

  result_turn : (t u : Type4) → Turn narrow_result t (widened_result t u)
  result_turn t u = by (is_same t u) (is_same t any) refl
    where
      by : (a b : Bool) → is_same t any ≡ b → Turn narrow_result t (cond a t any)
      by true b e = inl refl
      by false true e = inl (sym ((same t any).0 e))
      by false false e =
          let w : weight (is_same any any) ≡ 0 = ap weight ((same any any).1 refl) in
          let v : weight (is_same t any) ≡ 1 = ap weight e in
          inr (omega (arith, w, v))

  -- ---- one function, and all

  abbrev pub narrow_one : FlowFun → ℕ
  narrow_one f = narrow_parameters f.params + narrow_result f.result

  same_function_of : (f n : FlowFun) → widened_parameters f.params n.params ≡ f.params → widened_result f.result n.result ≡ f.result → widened_one f n ≡ f
  same_function_of f n p r = λ i. record { label = f.label; name = f.name; params = p i; result = r i }

  one_turn : (f n : FlowFun) → Turn narrow_one f (widened_one f n)
  one_turn f n = by (parameters_turn f.params n.params) (result_turn f.result n.result)
    where
      by : Turn narrow_parameters f.params (widened_parameters f.params n.params) → Turn narrow_result f.result (widened_result f.result n.result) → Turn narrow_one f (widened_one f n)
      by (inl p) (inl r) = inl (same_function_of f n p r)
      by (inl p) (inr r) = let e = ap narrow_parameters p in inr (omega (arith, e, r))
      by (inr p) (inl r) = let e = ap narrow_result r in inr (omega (arith, e, p))
      by (inr p) (inr r) = inr (omega (arith, p, r))

  pub turns : (fs ns : FlowState) → length ns ≡ length fs → Turn narrow_count fs (widened fs ns)
  turns [] ns e = inl refl
  turns (f ∷ fs) [] e = absurd cc
  turns (f ∷ fs) (n ∷ ns) e = by (one_turn f n) (turns fs ns (omega (arith, e)))
    where
      by : Turn narrow_one f (widened_one f n) → Turn narrow_count fs (widened fs ns) → Turn narrow_count (f ∷ fs) (widened_one f n ∷ widened fs ns)
      by (inl p) (inl r) = inl (ap₂ (λ x xs. x ∷ xs) p r)
      by (inl p) (inr r) = let q = ap narrow_one p in inr (omega (arith, q, r))
      by (inr p) (inl r) = let q = ap narrow_count r in inr (omega (arith, q, p))
      by (inr p) (inr r) = inr (omega (arith, p, r))

  -- ---- what made nothing else of a state

  pub parameters_itself : (p : Option (List Type4)) → widened_parameters p p ≡ p
  parameters_itself None = refl
  parameters_itself (Some ts) = ap (λ b. Some (cond b ts (anys ts))) (same_itself ts)

  pub widened_itself : (fs : FlowState) → widened fs fs ≡ fs
  widened_itself [] = refl
  widened_itself (f ∷ fs) =
      ap₂ (λ x xs. x ∷ xs) (same_function_of f f (parameters_itself f.params) (ap (λ b. cond b f.result any) ((same f.result f.result).1 refl))) (widened_itself fs)

  -- nothing is left to change
  pub all_wide : (fs ns : FlowState) → length ns ≡ length fs → narrow_count fs ≡ 0 → widened fs ns ≡ fs
  all_wide fs ns e none = by (turns fs ns e)
    where
      by : Turn narrow_count fs (widened fs ns) → widened fs ns ≡ fs
      by (inl p) = p
      by (inr r) = absurd (omega (arith, none, r))
