-- Calls stand in the order of their applications.
use Rattle.std.proofs.Common.{◌≡◌, ℕ, List, [], ◌∷◌, Less, ap, ◌∙◌}
use Rattle.std.specs.List.{AllByRecursion, AllZip}
use Rattle.std.specs.List.Sorted.{IsStrictlySortedBy}
use Rattle.fun_flow_answers.specs.declared.target.AppliedCall.{AppliedCall}
use Rattle.fun_flow_answers.specs.Order.{call_cmp}
use Rattle.fun_flow_numbers.specs.Held.{HeldNumbers}
use Rattle.fun_flow_applied.specs.declared.applications.AppliedValue.{AppliedValue}
use Rattle.fun_flow_applied.specs.declared.module_text.ModuleText.{ModuleText}
use Rattle.fun_flow_applied.specs.steps.Applications.{application_cmp}
use Rattle.fun_flow_applied.specs.steps.Calls.{IsCallOf}

abbrev at : (m l : ℕ) → AppliedCall → AppliedCall
at m l c = record { «module» = m; label = l; line = c.line; arity = c.arity; targets = c.targets }

module _ (ts : List ModuleText) (held : HeldNumbers) where
  same_order : (a b : AppliedValue) (c d : AppliedCall) → IsCallOf ts held a c → IsCallOf ts held b d → call_cmp c d ≡ application_cmp a b
  same_order a b c d h k =
      ap (λ m. call_cmp (at m c.label c) d) h.module_so ∙ ap (λ l. call_cmp (at a.«module» l c) d) h.label_so
      ∙ ap (λ m. call_cmp (at a.«module» a.label c) (at m d.label d)) k.module_so ∙ ap (λ l. call_cmp (at a.«module» a.label c) (at b.«module» l d)) k.label_so

  above : (a : AppliedValue) (c : AppliedCall) (found : List AppliedValue) (cs : List AppliedCall) → IsCallOf ts held a c → AllZip (IsCallOf ts held) found cs
      → AllByRecursion (λ b. application_cmp a b ≡ Less) found → AllByRecursion (λ d. call_cmp c d ≡ Less) cs
  above a c [] [] h z up = tt
  above a c [] (d ∷ cs) h z up = absurd z
  above a c (b ∷ found) [] h z up = absurd z
  above a c (b ∷ found) (d ∷ cs) h z up = (same_order a b c d h z.0 ∙ up.0, above a c found cs h z.1 up.1)

  pub calls_ascend : (found : List AppliedValue) (cs : List AppliedCall) → AllZip (IsCallOf ts held) found cs → IsStrictlySortedBy application_cmp found → IsStrictlySortedBy call_cmp cs
  unfolding IsStrictlySortedBy
  calls_ascend [] [] z up = tt
  calls_ascend [] (d ∷ cs) z up = absurd z
  calls_ascend (b ∷ found) [] z up = absurd z
  calls_ascend (b ∷ found) (d ∷ cs) z up = (above b d found cs z.0 z.1 up.0, calls_ascend found cs z.1 up.1)
