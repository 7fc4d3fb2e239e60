-- Where labels are distinct, the first function with a label is the only one: each is found at its own.
use Rattle.std.proofs.Common.{◌≡◌, zero, suc, inl, inr, cond, List, [], ◌∷◌, Some, Contains, nat_eq, eqb-true, eq-eqb, refl, sym, ap, ◌∙◌, subst, arith}
use Rattle.std.proofs.lemmas.Bool.{cases_Bool}
use Rattle.core_scope.specs.Functions.{LabelledFunction, function_labels}
use Rattle.core_scope.specs.Names.{Distinct}
use Rattle.core_meaning.specs.Programs.{with_label}

pub label_stands : (fs : List LabelledFunction) (f : LabelledFunction) → Contains fs f → Contains (function_labels fs) f.label
label_stands [] f (k, in_list, is) = absurd (omega (arith, in_list))
label_stands (g ∷ fs) f (zero, in_list, is) = (zero, omega arith, ap (λ h. h.label) is)
label_stands (g ∷ fs) f (suc k, in_list, is) = let r = label_stands fs f (k, omega (arith, in_list), is) in (suc r.0, omega (arith, r.1), r.2)

pub found_at_label : (fs : List LabelledFunction) → Distinct (function_labels fs) → (f : LabelledFunction) → Contains fs f → with_label fs f.label ≡ Some f
found_at_label [] d f (k, in_list, is) = absurd (omega (arith, in_list))
found_at_label (g ∷ fs) d f (zero, in_list, is) =
    ap (λ b. cond b (Some g) (with_label fs f.label)) (ap (λ h. nat_eq h.label f.label) is ∙ eq-eqb f.label f.label refl) ∙ ap (λ h. Some h) is
found_at_label (g ∷ fs) d f (suc k, in_list, is) =
    let h : Contains fs f = (k, omega (arith, in_list), is) in
    elim (cases_Bool (nat_eq g.label f.label)) as (λ c. with_label (g ∷ fs) f.label ≡ Some f) [
      | inl so ↦ absurd (d.0 (subst (λ n. Contains (function_labels fs) n) (sym (eqb-true g.label f.label so)) (label_stands fs f h)))
      | inr not_so ↦ ap (λ b. cond b (Some g) (with_label fs f.label)) not_so ∙ found_at_label fs d.1 f h
    ]
