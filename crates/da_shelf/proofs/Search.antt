-- The search for a name, entry by entry.
use Rattle.std.proofs.Common.{◌≡◌, ℕ, List, ◌∷◌, Bool, true, false, cond, Some, ap, ◌∙◌, bytes_eq}
use Rattle.std.specs.Ordering.{nat_cmp}
use Rattle.std.specs.Cmp.Lexicographic.{slice_cmp}
use Rattle.std.specs.FinMap.{find}
use Rattle.std.proofs.lemmas.Map.Text.{is_eq-slice_cmp}

find-test : (name : List ℕ) (entry : List ℕ × List ℕ) (later : List (List ℕ × List ℕ)) (same : Bool) → bytes_eq name entry.0 ≡ same
    → find (slice_cmp nat_cmp) name (entry ∷ later) ≡ cond same (Some entry.1) (find (slice_cmp nat_cmp) name later)
find-test name entry later same h =
    ap (λ b. cond b (Some entry.1) (find (slice_cmp nat_cmp) name later)) (is_eq-slice_cmp name entry.0 ∙ h)

-- The name stands first.
pub find-here : (name : List ℕ) (entry : List ℕ × List ℕ) (later : List (List ℕ × List ℕ)) → bytes_eq name entry.0 ≡ true → find (slice_cmp nat_cmp) name (entry ∷ later) ≡ Some entry.1
find-here name entry later h = find-test name entry later true h

-- Another name stands first.
pub find-later : (name : List ℕ) (entry : List ℕ × List ℕ) (later : List (List ℕ × List ℕ)) → bytes_eq name entry.0 ≡ false → find (slice_cmp nat_cmp) name (entry ∷ later) ≡ find (slice_cmp nat_cmp) name later
find-later name entry later h = find-test name entry later false h
