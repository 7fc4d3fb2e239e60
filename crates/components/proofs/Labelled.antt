-- Ordinals after one more node.
use Rattle.std.proofs.Common.{◌≡◌, ℕ, ◌+◌, ◌<◌, ◌≤◌, ◌⊎◌, inl, inr, List, [], ◌∷◌, ◌++◌, length, set, refl, sym, ◌∙◌, ap, subst, arith}
use Rattle.std.specs.Prelude.{slice_index, Option, None, Some}
use Rattle.std.proofs.lemmas.List.{length_push, length-set, get_or_append_left, get_or_push, get_or-set_same, get_or-set_other}
use Rattle.std.proofs.lemmas.Bool.{cases_lt, cases_eq}
use Rattle.components.specs.steps.Ordinals.{HasOrdinals, Labelling, NextOrdinal, ordinal_of}
use Rattle.components.proofs.Appended.{push_cases}

-- the component was met before
module _ (component_of : List ℕ) (table : List (Option ℕ)) (ordinals : List ℕ) (count i l : ℕ)
    (s : Labelling component_of table ordinals count) (here : i ≡ length ordinals) (met : ordinal_of table (slice_index component_of i) ≡ Some l) where
  kept : (f : ℕ) → f < length ordinals → slice_index (ordinals ++ l ∷ []) f ≡ slice_index ordinals f
  kept f under = get_or_append_left ordinals (l ∷ []) 0 f under

  known_met : (f : ℕ) → f < length (ordinals ++ l ∷ []) → ordinal_of table (slice_index component_of f) ≡ Some (slice_index (ordinals ++ l ∷ []) f)
  known_met f under =
      elim (push_cases ordinals l 0 f under) [
        | inl old ↦ s.known f old.0 ∙ ap Some (sym old.1)
        | inr end ↦ ap (λ k. ordinal_of table (slice_index component_of k)) (end.0 ∙ sym here) ∙ met ∙ ap Some (sym end.1)
      ]

  from_met : (h k : ℕ) → ordinal_of table h ≡ Some k → (k < count) × ((f : ℕ) × (f < length (ordinals ++ l ∷ [])) × (slice_index component_of f ≡ h) × (slice_index (ordinals ++ l ∷ []) f ≡ k))
  from_met h k e =
      let old = s.from_node h k e in
      (old.0, (old.1.0, omega (arith, length_push ordinals l, old.1.1), old.1.2, kept old.1.0 old.1.1 ∙ old.1.3))

  least_met : (f k : ℕ) → f < length (ordinals ++ l ∷ []) → k ≤ slice_index (ordinals ++ l ∷ []) f → (g : ℕ) × (g ≤ f) × (slice_index (ordinals ++ l ∷ []) g ≡ k)
  least_met f k under most =
      elim (push_cases ordinals l 0 f under) [
        | inl old ↦
            let was = s.by_least f k old.0 (omega (arith, old.1)) in
            (was.0, was.1, kept was.0 (omega (arith, was.1)) ∙ was.2)
        | inr end ↦
            let first = (s.from_node (slice_index component_of i) l met).1 in
            let was = s.by_least first.0 k first.1 (omega (arith, first.3, end.1)) in
            (was.0, omega (arith, was.1, first.1, end.0), kept was.0 (omega (arith, was.1, first.1)) ∙ was.2)
      ]

  pub labelling_met : Labelling component_of table (ordinals ++ l ∷ []) count
  labelling_met = record {
    known = known_met;
    from_node = from_met;
    apart = s.apart;
    used = λ k under. let old = s.used k under in (old.0, omega (arith, length_push ordinals l, old.1), kept old.0 old.1 ∙ old.2);
    by_least = least_met;
    few = omega (arith, s.few, length_push ordinals l);
  }

-- the component gets the next ordinal
module _ (component_of : List ℕ) (table : List (Option ℕ)) (ordinals : List ℕ) (count i : ℕ)
    (s : Labelling component_of table ordinals count) (here : i ≡ length ordinals) (low : slice_index component_of i < length table)
    (unmet : ordinal_of table (slice_index component_of i) ≡ None) where
  kept' : (f : ℕ) → f < length ordinals → slice_index (ordinals ++ count ∷ []) f ≡ slice_index ordinals f
  kept' f under = get_or_append_left ordinals (count ∷ []) 0 f under

  last' : slice_index (ordinals ++ count ∷ []) (length ordinals) ≡ count
  last' = get_or_push ordinals count 0 (length ordinals) refl

  -- a ordinal is the new one, or was there before
  table_cases : (h k : ℕ) → ordinal_of (set table (slice_index component_of i) (Some count)) h ≡ Some k
      → ((h ≡ slice_index component_of i) × (k ≡ count)) ⊎ (ordinal_of table h ≡ Some k)
  table_cases h k e =
      elim (cases_eq h (slice_index component_of i)) [
        | inl is ↦
            let now : ordinal_of (set table (slice_index component_of i) (Some count)) h ≡ Some count =
            ap (ordinal_of (set table (slice_index component_of i) (Some count))) is ∙ get_or-set_same table (slice_index component_of i) (Some count) None low in
            inl (is, let both : Some k ≡ Some count = sym e ∙ now in cc)
        | inr ne ↦ inr (sym (get_or-set_other table (slice_index component_of i) h (Some count) None ne) ∙ e)
      ]

  stays' : (h k : ℕ) → ordinal_of table h ≡ Some k → ordinal_of (set table (slice_index component_of i) (Some count)) h ≡ Some k
  stays' h k e =
      elim (cases_eq h (slice_index component_of i)) [
        | inl is ↦ absurd (let bad : None ≡ Some k = sym unmet ∙ ap (ordinal_of table) (sym is) ∙ e in cc)
        | inr ne ↦ get_or-set_other table (slice_index component_of i) h (Some count) None ne ∙ e
      ]

  known' : (f : ℕ) → f < length (ordinals ++ count ∷ []) → ordinal_of (set table (slice_index component_of i) (Some count)) (slice_index component_of f) ≡ Some (slice_index (ordinals ++ count ∷ []) f)
  known' f under =
      elim (push_cases ordinals count 0 f under) [
        | inl old ↦ stays' (slice_index component_of f) (slice_index ordinals f) (s.known f old.0) ∙ ap Some (sym old.1)
        | inr end ↦
            ap (λ k. ordinal_of (set table (slice_index component_of i) (Some count)) (slice_index component_of k)) (end.0 ∙ sym here)
            ∙ get_or-set_same table (slice_index component_of i) (Some count) None low ∙ ap Some (sym end.1)
      ]

  from' : (h k : ℕ) → ordinal_of (set table (slice_index component_of i) (Some count)) h ≡ Some k
      → (k < count + 1) × ((f : ℕ) × (f < length (ordinals ++ count ∷ [])) × (slice_index component_of f ≡ h) × (slice_index (ordinals ++ count ∷ []) f ≡ k))
  from' h k e =
      elim (table_cases h k e) [
        | inl new ↦
            (omega (arith, new.1), (length ordinals, omega (arith, length_push ordinals count), ap (slice_index component_of) (sym here) ∙ sym new.0, last' ∙ sym new.1))
        | inr was ↦
            let old = s.from_node h k was in
            (omega (arith, old.0), (old.1.0, omega (arith, length_push ordinals count, old.1.1), old.1.2, kept' old.1.0 old.1.1 ∙ old.1.3))
      ]

  apart' : (h j k : ℕ) → ordinal_of (set table (slice_index component_of i) (Some count)) h ≡ Some k → ordinal_of (set table (slice_index component_of i) (Some count)) j ≡ Some k → h ≡ j
  apart' h j k e_h e_j =
      elim (table_cases h k e_h) [
        | inl new_h ↦ elim (table_cases j k e_j) [
          | inl new_j ↦ new_h.0 ∙ sym new_j.0
          | inr was_j ↦ absurd (omega (arith, new_h.1, (s.from_node j k was_j).0))
        ]
        | inr was_h ↦ elim (table_cases j k e_j) [
          | inl new_j ↦ absurd (omega (arith, new_j.1, (s.from_node h k was_h).0))
          | inr was_j ↦ s.apart h j k was_h was_j
        ]
      ]

  used' : (k : ℕ) → k < count + 1 → (f : ℕ) × (f < length (ordinals ++ count ∷ [])) × (slice_index (ordinals ++ count ∷ []) f ≡ k)
  used' k under =
      elim (cases_lt k count) [
        | inl less ↦ let old = s.used k less in (old.0, omega (arith, length_push ordinals count, old.1), kept' old.0 old.1 ∙ old.2)
        | inr high ↦ (length ordinals, omega (arith, length_push ordinals count), last' ∙ omega arith)
      ]

  least' : (f k : ℕ) → f < length (ordinals ++ count ∷ []) → k ≤ slice_index (ordinals ++ count ∷ []) f → (g : ℕ) × (g ≤ f) × (slice_index (ordinals ++ count ∷ []) g ≡ k)
  least' f k under most =
      elim (push_cases ordinals count 0 f under) [
        | inl old ↦
            let was = s.by_least f k old.0 (omega (arith, old.1)) in
            (was.0, was.1, kept' was.0 (omega (arith, was.1)) ∙ was.2)
        | inr end ↦ elim (cases_lt k count) [
          | inl less ↦ let was = s.used k less in (was.0, omega (arith, was.1, end.0), kept' was.0 was.1 ∙ was.2)
          | inr high ↦ (f, omega arith, end.1 ∙ omega (arith, end.1))
        ]
      ]

  pub labelling_unmet : Labelling component_of (set table (slice_index component_of i) (Some count)) (ordinals ++ count ∷ []) (count + 1)
  labelling_unmet = record {
    known = known';
    from_node = from';
    apart = apart';
    used = used';
    by_least = least';
    few = omega (arith, s.few, length_push ordinals count);
  }

pub ordinal_more : (component_of : List ℕ) (table table' : List (Option ℕ)) (ordinals ordinals' : List ℕ) (count count' i l : ℕ)
    → Labelling component_of table ordinals count → i ≡ length ordinals → slice_index component_of i < length table
    → NextOrdinal table count (slice_index component_of i) l table' count' → ordinals' ≡ ordinals ++ l ∷ [] → Labelling component_of table' ordinals' count'
ordinal_more component_of table table' ordinals ordinals' count count' i l s here low (inl (met, is_table, is_count)) is =
    subst (λ ts. Labelling component_of ts ordinals' count') (sym is_table)
    (subst (λ n. Labelling component_of table ordinals' n) (sym is_count)
    (subst (λ ls. Labelling component_of table ls count) (sym is) (labelling_met component_of table ordinals count i l s here met)))
ordinal_more component_of table table' ordinals ordinals' count count' i l s here low (inr (unmet, is_l, is_table, is_count)) is =
    subst (λ ts. Labelling component_of ts ordinals' count') (sym is_table)
    (subst (λ n. Labelling component_of (set table (slice_index component_of i) (Some count)) ordinals' n) (sym is_count)
    (subst (λ ls. Labelling component_of (set table (slice_index component_of i) (Some count)) ls (count + 1)) (sym (is ∙ ap (λ n. ordinals ++ n ∷ []) is_l))
    (labelling_unmet component_of table ordinals count i s here low unmet)))

pub labelled : (component_of : List ℕ) (table : List (Option ℕ)) (ordinals : List ℕ) (count : ℕ) → Labelling component_of table ordinals count → length ordinals ≡ length component_of → HasOrdinals component_of ordinals count
labelled component_of table ordinals count s all =
    record {
      sizes = all;
      same = λ f g low_f low_g. (
        (λ e. let both : Some (slice_index ordinals f) ≡ Some (slice_index ordinals g) = sym (s.known f (omega arith)) ∙ ap (ordinal_of table) e ∙ s.known g (omega arith) in cc),
        (λ e. s.apart (slice_index component_of f) (slice_index component_of g) (slice_index ordinals f) (s.known f (omega arith)) (s.known g (omega arith) ∙ ap Some (sym e))),
      );
      below = λ f low. (s.from_node (slice_index component_of f) (slice_index ordinals f) (s.known f (omega arith))).0;
      used = λ l under. let old = s.used l under in (old.0, omega (arith, old.1), old.2);
      by_least = λ f l low most. s.by_least f l (omega arith) most;
    }

pub ordinal_length : (table table' : List (Option ℕ)) (count count' h l : ℕ) → NextOrdinal table count h l table' count' → length table' ≡ length table
ordinal_length table table' count count' h l (inl old) = ap length old.1
ordinal_length table table' count count' h l (inr new) = ap length new.2 ∙ length-set table h (Some count)
