-- How far one can go down from a set of integers.
use Rattle.std.proofs.Common.{◌≡◌, ℕ, ℤ, suc, ◌≤◌, ◌<◌, ◌+◌, true, List, [], ◌∷◌, length, drop, refl, zero, ◌&&◌, arith}
use Rattle.std.specs.Ordering.{int_cmp, eq_by_cmp}
use Rattle.std.specs.Cmp.{int_cmp_total}
use Rattle.std.specs.FinSet.{int_cmp-IsAntisymmetric}
use Rattle.std.proofs.lemmas.Bool.{or_right}
use Rattle.type_kinds_sets.specs.declared.ends.Low.{Low}
use Rattle.type_kinds_sets.specs.declared.ends.Low.TheVariants.{Min, Zero, One}
use Rattle.type_kinds_sets.specs.declared.ends.High.{High}
use Rattle.type_kinds_sets.specs.declared.ends.High.TheVariants.{Byte, Unicode, Max}
use Rattle.type_kinds_sets.specs.declared.limits.TheConstants.{MAX_MEMBERS}
use Rattle.type_kinds_sets.specs.Ascending.{has_item}
use Rattle.type_kinds_sets.specs.Ends.{at_least, at_most, in_range, is_range, bottom, top, shrinks}
use Rattle.type_kinds_sets.specs.Numbers.{Numbers, some, between, are_listed, Below, height}
use Rattle.type_kinds_sets.specs.Heights.{Falls}
use Rattle.type_kinds_sets.proofs.AscendingLaws.{all-item, shorter-part}
use Rattle.type_kinds_sets.proofs.NumberLaws.{below-is, fourteen, fourteen-is, not_listed, some-same, between-same}
use Rattle.type_kinds_sets.proofs.HeightLaws.{falls-bound, down, stay}

-- a smaller interval shrinks less often
shrinks-less : (l m : Low) (h k : High) → is_range l h ≡ true → (at_least m (bottom l) && at_most k (top h)) ≡ true → ((l ≡ m) × (h ≡ k) → ⊥) → shrinks l h < shrinks m k
shrinks-less l m h k e p q = grind arith

-- a smaller set has a lower height
pub height-lower : (s t : Numbers) → Below s t → (s ≡ t → ⊥) → height s < height t
height-lower (some xs e) (some ys f) p n = shorter-part int_cmp_total int_cmp-IsAntisymmetric ys xs (grind arith) (grind arith) p (λ q. n (some-same xs ys e f q))
height-lower (some xs e) (between m k f) p n = grind arith
height-lower (between l h e) (some ys f) p n = absurd (not_listed l h e ys f p)
height-lower (between l h e) (between m k f) p n =
    let less = shrinks-less l m h k e ((below-is (between l h e) (between m k f) _ refl).1 p) (λ q. n (between-same l m h k e f q.0 q.1)) in
    omega arith

pub height-bound : (s : Numbers) (n : ℕ) → Falls Below n s → n ≤ height s
height-bound = falls-bound Below height height-lower

-- ---- the chain that is so long

listed-falls : (xs : List ℤ) (e : are_listed xs ≡ true) → Falls Below (length xs) (some xs e)
listed-falls [] e = stay Below height (some [] e)
listed-falls (x ∷ xs) e =
    let f : are_listed xs ≡ true = grind arith in
    down Below height (length xs) (some (x ∷ xs) e) (some xs f) (λ n m. or_right (eq_by_cmp int_cmp n x) (has_item int_cmp xs n) m) (omega arith) (listed-falls xs f)

-- down from an interval over -1: first its lower end comes nearer, then its upper end, and then there are thirteen numbers
nearer : Low → High → Low × High
nearer Min h = (Zero, h)
nearer Zero h = (One, h)
nearer One Max = (One, Unicode)
nearer One h = (One, Byte)

nearer-is : (l : Low) (h : High) (n : ℕ) → is_range l h ≡ true → shrinks l h ≡ suc n
    → (is_range (nearer l h).0 (nearer l h).1 ≡ true) × (((at_least l (bottom (nearer l h).0) && at_most h (top (nearer l h).1)) ≡ true) × (shrinks (nearer l h).0 (nearer l h).1 ≡ n))
unfolding nearer
nearer-is l h n e s = grind arith

between-falls : (n : ℕ) (l : Low) (h : High) (e : is_range l h ≡ true) → shrinks l h ≡ n → Falls Below (14 + n) (between l h e)
unfolding fourteen
between-falls zero l h e s =
    let k = fourteen-is l h e in
    let f : are_listed (drop 1 (fourteen l)) ≡ true = grind arith in
    let length-is : length (drop 1 (fourteen l)) ≡ 13 = grind arith in
    down Below height 13 (between l h e) (some (drop 1 (fourteen l)) f) (λ n m. all-item int_cmp_total int_cmp-IsAntisymmetric (in_range l h) (drop 1 (fourteen l)) n (grind arith) m) (omega arith)
    (rw length-is at (listed-falls (drop 1 (fourteen l)) f))
between-falls (suc n) l h e s =
    let k = nearer-is l h n e s in
    let m = between (nearer l h).0 (nearer l h).1 k.0 in
    let more : suc (14 + n) ≡ 14 + suc n = omega arith in
    rw more at (down Below height (14 + n) (between l h e) m ((below-is m (between l h e) _ refl).0 k.1.0) (omega (arith, k.1.1)) (between-falls n (nearer l h).0 (nearer l h).1 k.0 k.1.1))

pub height-reached : (s : Numbers) → Falls Below (height s) s
height-reached (some xs e) = listed-falls xs e
height-reached (between l h e) = between-falls (shrinks l h) l h e refl

pub height-most : (s : Numbers) → height s ≤ MAX_MEMBERS + 5
height-most s = grind arith

pub ruleset laws = (height-lower, height-bound, height-reached, height-most)
