-- The reports on the modules of a wave, position by position.
use Rattle.std.proofs.Common.{◌≡◌, ℕ, ◌+◌, ◌<◌, ◌≤◌, true, false, List, length, slice_get, ◌⊎◌, inl, inr, Some, refl, sym, ap, ◌∙◌, subst, arith}
use Rattle.std.proofs.lemmas.Bool.{cases_lt}
use Rattle.std.proofs.lemmas.Option.{slice_get_within}
use Rattle.type_kinds.specs.declared.atom.Atom.{Atom}
use Rattle.comp_rounds.specs.Rounds.{Callees}
use Rattle.table_keep.specs.Model.{Source}
use Rattle.table_keep.specs.Groups.{has}
use Rattle.sound_laws_kept.proofs.Names.{some_is}
use Rattle.analysis.specs.steps.Deciding.{IsReported, AreReported}

-- so many are reported on
pub record ReportedBelow (todo : List Atom) (M : List Source) (known : Callees) (before after : List (List ℕ)) (n : ℕ) : Type 0 where
  pub counted : length after ≡ length before
  pub reported : (i : ℕ) (s : Source) → i < n → slice_get M i ≡ Some s → has todo s.tree.name ≡ true → IsReported known s.tree (slice_get after i)
  pub others : (i : ℕ) (s : Source) → slice_get M i ≡ Some s → has todo s.tree.name ≡ false → slice_get after i ≡ slice_get before i

pub none_reported : (todo : List Atom) (M : List Source) (known : Callees) (lines : List (List ℕ)) → ReportedBelow todo M known lines lines 0
none_reported todo M known lines = record { counted = refl; reported = λ i s low. absurd (omega (arith, low)); others = λ i s at out. refl }

apart_or : (i n : ℕ) → (i ≡ n) ⊎ (i ≡ n → ⊥)
apart_or i n = elim (cases_lt i n) [
  | inl less ↦ inr (λ e. omega (arith, less, e))
  | inr high ↦ (elim (cases_lt n i) [
    | inl more ↦ inr (λ e. omega (arith, more, e))
    | inr low ↦ inl (omega (arith, high, low))
  ])
]

pub one_reported : (todo : List Atom) (M : List Source) (known : Callees) (before now new : List (List ℕ)) (n : ℕ) (x : Source) → ReportedBelow todo M known before now n → slice_get M n ≡ Some x
    → length new ≡ length now → (has todo x.tree.name ≡ true → IsReported known x.tree (slice_get new n)) → (has todo x.tree.name ≡ false → new ≡ now)
    → ((i : ℕ) → (i ≡ n → ⊥) → slice_get new i ≡ slice_get now i) → ReportedBelow todo M known before new (n + 1)
one_reported todo M known before now new n x inv at counted here stays apart = record {
  counted = counted ∙ inv.counted;
  reported = λ i s low there e. new_one i s low there e (apart_or i n);
  others = λ i s there e. old_one i s there e (apart_or i n) ∙ inv.others i s there e;
}
  where
    same : (i : ℕ) (s : Source) → i ≡ n → slice_get M i ≡ Some s → x ≡ s
    same i s e there = some_is (sym at ∙ ap (slice_get M) (sym e) ∙ there)

    new_one : (i : ℕ) (s : Source) → i < n + 1 → slice_get M i ≡ Some s → has todo s.tree.name ≡ true → (i ≡ n) ⊎ (i ≡ n → ⊥) → IsReported known s.tree (slice_get new i)
    new_one i s low there e (inl is) =
        let q = same i s is there in
        subst (λ k. IsReported known s.tree (slice_get new k)) (sym is)
        (subst (λ (z : Source). IsReported known z.tree (slice_get new n)) q (here (ap (λ (z : Source). has todo z.tree.name) q ∙ e)))
    new_one i s low there e (inr not) =
        let less : i < n = elim (cases_lt i n) [ inl k ↦ k | inr k ↦ absurd (not (omega (arith, k, low))) ] in
        subst (IsReported known s.tree) (sym (apart i not)) (inv.reported i s less there e)

    old_one : (i : ℕ) (s : Source) → slice_get M i ≡ Some s → has todo s.tree.name ≡ false → (i ≡ n) ⊎ (i ≡ n → ⊥) → slice_get new i ≡ slice_get now i
    old_one i s there e (inl is) = ap (λ ls. slice_get ls i) (stays (ap (λ (z : Source). has todo z.tree.name) (same i s is there) ∙ e))
    old_one i s there e (inr not) = apart i not

pub all_reported : (todo : List Atom) (M : List Source) (known : Callees) (before after : List (List ℕ)) (n : ℕ) → length M ≤ n → ReportedBelow todo M known before after n → AreReported todo M known before after
all_reported todo M known before after n high inv = record {
  counted = inv.counted;
  reported = λ i s there e. inv.reported i s (omega (arith, high, slice_get_within M i s there)) there e;
  others = inv.others;
}
