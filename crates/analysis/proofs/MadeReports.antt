-- Reports that workers made, and what is kept of them.
use Rattle.std.proofs.Common.{◌≡◌, ℕ, zero, suc, List, [], ◌∷◌, ◌++◌, set, length, Option, Some, None, refl, sym, ap, ◌∙◌, subst, inl, inr}
use Rattle.std.specs.Prelude.{All, IfSome, slice_get, ◌⊎◌}
use Rattle.std.proofs.lemmas.List.Elements.{All-push}
use Rattle.comp_rounds.specs.Rounds.{Callees}
use Rattle.table_keep.specs.Model.{Source}
use Rattle.analysis.specs.steps.Reporting.{AreKept, IsReportOn}

pub all_more : {X : Type 0} (P : X → Type 0) (xs : List X) (x : X) → All P xs → P x → All P (xs ++ x ∷ [])
all_more P xs x h p = All-push P xs x h p

abbrev or : {X : Type 0} → Option X → X → X
or None d = d
or (Some x) d = x

abbrev OnlyNone : {X : Type 0} → Option X → Type 0
OnlyNone None = Unit {0}
OnlyNone (Some x) = ⊥

pub none_some : {X : Type 0} (x : X) → None ≡ Some x → ⊥
none_some x e = subst OnlyNone e tt

-- what stands in a list after one item was set
pub get_set : {X : Type 0} (xs : List X) (i k : ℕ) (x y : X) → slice_get (set xs i x) k ≡ Some y → ((k ≡ i) × (x ≡ y)) ⊎ (slice_get xs k ≡ Some y)
get_set [] i k x y e = inr e
get_set (a ∷ xs) zero zero x y e = inl (refl, ap (λ o. or o x) e)
get_set (a ∷ xs) zero (suc k) x y e = inr e
get_set (a ∷ xs) (suc i) zero x y e = inr e
get_set (a ∷ xs) (suc i) (suc k) x y e = up (get_set xs i k x y e)
  where
    up : ((k ≡ i) × (x ≡ y)) ⊎ (slice_get xs k ≡ Some y) → ((suc k ≡ suc i) × (x ≡ y)) ⊎ (slice_get xs k ≡ Some y)
    up (inl p) = inl (ap suc p.0, p.1)
    up (inr h) = inr h

by_case : {A B C : Type 0} → A ⊎ B → (A → C) → (B → C) → C
by_case (inl a) f g = f a
by_case (inr b) f g = g b

-- what stands in a list with one item more
pub get_more : {X : Type 0} (xs : List X) (x : X) (k : ℕ) (y : X) → slice_get (xs ++ x ∷ []) k ≡ Some y → (slice_get xs k ≡ Some y) ⊎ ((k ≡ length xs) × (x ≡ y))
get_more [] x zero y e = inr (refl, ap (λ o. or o x) e)
get_more [] x (suc k) y e = inl e
get_more (a ∷ xs) x zero y e = inl e
get_more (a ∷ xs) x (suc k) y e = up (get_more xs x k y e)
  where
    up : (slice_get xs k ≡ Some y) ⊎ ((k ≡ length xs) × (x ≡ y)) → (slice_get xs k ≡ Some y) ⊎ ((suc k ≡ suc (length xs)) × (x ≡ y))
    up (inl h) = inl h
    up (inr p) = inr (ap suc p.0, p.1)

pub kept_set : (known : Callees) (M : List Source) (kept : List (Option (List ℕ))) (i : ℕ) (o : Option (List ℕ)) → AreKept known M kept
    → ((s : Source) (text : List ℕ) → o ≡ Some text → slice_get M i ≡ Some s → IsReportOn known s text) → AreKept known M (set kept i o)
kept_set known M kept i o h own k s text e f =
    by_case (get_set kept i k o (Some text) e) (λ p. own s text p.1 (subst (λ j. slice_get M j ≡ Some s) p.0 f)) (λ g. h k s text g f)

pub none_kept : (known : Callees) (M : List Source) → AreKept known M []
none_kept known M k s text e f = absurd (none_some (Some text) e)

-- one more that is the report, or that isn't there
pub one_kept : (known : Callees) (M : List Source) (kept : List (Option (List ℕ))) (x : Source) (o : Option (List ℕ)) → AreKept known M kept → slice_get M (length kept) ≡ Some x
    → IfSome o (λ text. IsReportOn known x text) → AreKept known M (kept ++ o ∷ [])
one_kept known M kept x o h at own k s text e f = by (get_more kept o k (Some text) e)
  where
    told : (p : Option (List ℕ)) → p ≡ Some text → IfSome p (λ t. IsReportOn known x t) → IsReportOn known x text
    told None e own = absurd (none_some text e)
    told (Some t) e own = subst (IsReportOn known x) (ap (λ o. or o text) e) own

    by : (slice_get kept k ≡ Some (Some text)) ⊎ ((k ≡ length kept) × (o ≡ Some text)) → IsReportOn known s text
    by (inl old) = h k s text old f
    by (inr new) = subst (λ (z : Source). IsReportOn known z text) (ap (λ z. or z x) (sym at ∙ ap (slice_get M) (sym new.0) ∙ f)) (told o new.1 own)

pub was_kept : (known : Callees) (M : List Source) (kept : List (Option (List ℕ))) (i : ℕ) (s : Source) (o : Option (List ℕ)) → AreKept known M kept → slice_get kept i ≡ Some o → slice_get M i ≡ Some s
    → IfSome o (λ text. IsReportOn known s text)
was_kept known M kept i s None h e f = tt
was_kept known M kept i s (Some text) h e f = h i s text e f

pub same_lines : (known : Callees) (s : Source) (text other : List ℕ) → Some text ≡ Some other → IsReportOn known s text → IsReportOn known s other
same_lines known s text other e h = subst (IsReportOn known s) (ap (λ o. or o text) e) h
