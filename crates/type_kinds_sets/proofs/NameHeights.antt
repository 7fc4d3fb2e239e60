-- How far one can go down from a set of atoms.
use Rattle.std.proofs.Common.{◌≡◌, ℕ, ◌+◌, ◌≤◌, ◌<◌, true, List, [], ◌∷◌, length, drop, refl, arith}
use Rattle.std.specs.Ordering.{eq_by_cmp}
use Rattle.std.proofs.lemmas.Bool.{or_right}
use Rattle.type_kinds_sets.specs.declared.limits.TheConstants.{MAX_MEMBERS}
use Rattle.type_kinds_sets.specs.Ascending.{has_item}
use Rattle.type_kinds_sets.specs.Names.{Name, name_cmp, Names, some, every, are_listed, Below, height}
use Rattle.type_kinds_sets.specs.Heights.{Falls}
use Rattle.type_kinds_sets.proofs.AscendingLaws.{shorter-part}
use Rattle.type_kinds_sets.proofs.NameLaws.{name_total, name_same, fourteen, listed-ascending, not_listed, some-same}
use Rattle.type_kinds_sets.proofs.HeightLaws.{falls-bound, down, stay}

-- a smaller set has a lower height
pub height-lower : (s t : Names) → Below s t → (s ≡ t → ⊥) → height s < height t
height-lower (some xs e) (some ys f) p n = shorter-part name_total name_same ys xs (listed-ascending xs e) (listed-ascending ys f) p (λ q. n (some-same xs ys e f q))
height-lower (some xs e) every p n = grind arith
height-lower every (some ys f) p n = absurd (not_listed ys f (λ q. p q refl))
height-lower every every p n = absurd (n refl)

pub height-bound : (s : Names) (n : ℕ) → Falls Below n s → n ≤ height s
height-bound = falls-bound Below height height-lower

-- the chain that is so long
listed-falls : (xs : List Name) (e : are_listed xs ≡ true) → Falls Below (length xs) (some xs e)
listed-falls [] e = stay Below height (some [] e)
listed-falls (x ∷ xs) e =
    let f : are_listed xs ≡ true = grind arith in
    down Below height (length xs) (some (x ∷ xs) e) (some xs f) (λ q m. or_right (eq_by_cmp name_cmp q x) (has_item name_cmp xs q) m) (omega arith) (listed-falls xs f)

pub height-reached : (s : Names) → Falls Below (height s) s
height-reached (some xs e) = listed-falls xs e
height-reached every = down Below height 13 every (some (drop 1 fourteen) refl) (λ q m. refl) (omega arith) (listed-falls (drop 1 fourteen) refl)

pub height-most : (s : Names) → height s ≤ MAX_MEMBERS + 1
height-most s = grind arith

pub ruleset laws = (height-lower, height-bound, height-reached, height-most)
