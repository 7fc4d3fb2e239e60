-- The laws of sets of integers.
use Rattle.std.proofs.Common.{◌≡◌, cond, refl, ◌≤◌, ◌↔◌, IsTrue, ℤ, pos, negsuc, ◌<◌, Bool, true, false, ◌&&◌, ◌||◌, List, [], ◌∷◌, length, filter, sym, ap, ◌∙◌, arith, true≢false}
use Rattle.std.specs.Ordering.{int_cmp, eq_by_cmp}
use Rattle.std.specs.Cmp.{int_cmp_total}
use Rattle.std.specs.FinSet.{int_cmp-IsAntisymmetric}
use Rattle.std.specs.List.{list_all}
use Rattle.std.proofs.lemmas.Bool.{or_right, or_left}
use Rattle.type_kinds.proofs.Truths.{first, second}
use Rattle.type_kinds_sets.specs.declared.limits.TheConstants.{MAX_MEMBERS}
use Rattle.type_kinds_sets.specs.Few.{are_few}
use Rattle.type_kinds_sets.specs.Ascending.{is_ascending, has_item, merged}
use Rattle.type_kinds_sets.specs.declared.ends.Low.{Low}
use Rattle.type_kinds_sets.specs.declared.ends.Low.TheVariants.{Min, Zero, One}
use Rattle.type_kinds_sets.specs.declared.ends.High.{High}
use Rattle.type_kinds_sets.specs.Ends.{at_least, at_most, in_range, is_range, raised, lowered, bottom, top}
use Rattle.type_kinds_sets.specs.Numbers.{Numbers, some, between, are_listed, is_narrow, has, Below, none, or_else, listed, range, meet, outermost, low_end, high_end, hull, join, is_none, or_else-yes, range-yes}
use Rattle.type_kinds_sets.specs.steps.IntKinds.{below}
use Rattle.type_kinds_sets.proofs.FewLaws.{few-part, few-merged}
use Rattle.type_kinds_sets.proofs.EndLaws.{Side, lows, highs, ends-in, not_in}
use Rattle.type_kinds_sets.proofs.AscendingLaws.{is_it, itself, all-item, all-from_items, all-merged, ascending-filter, ascending-merged, has-filter, has-merged, merged-part, length-filter_le, same-items, all-filter}

-- ---- what may be listed

pub listed-filter : (p : ℤ → Bool) (xs : List ℤ) → are_listed xs ≡ true → are_listed (filter p xs) ≡ true
listed-filter p xs e = grind (arith, ascending-filter, length-filter_le, all-filter, int_cmp_total, int_cmp-IsAntisymmetric)

-- two lists together may be listed where they are few enough
pub listed-merged : (xs ys : List ℤ) → are_listed xs ≡ true → are_listed ys ≡ true → length (merged int_cmp xs ys) ≤ MAX_MEMBERS → are_listed (merged int_cmp xs ys) ≡ true
listed-merged xs ys e f k = grind (arith, ascending-merged, all-merged, int_cmp_total, int_cmp-IsAntisymmetric)

pub as_listed : (xs : List ℤ) → are_listed xs ≡ true → (e : are_listed xs ≡ true) × (listed xs ≡ some xs e)
as_listed xs e = (e, or_else-yes xs none e)

pub as_range : (l : Low) (h : High) → is_range l h ≡ true → (e : is_range l h ≡ true) × (range l h ≡ between l h e)
as_range l h e = (e, range-yes l h e)

pub or_else-any : (xs : List ℤ) (t : Numbers) → are_listed xs ≡ true → or_else xs t ≡ listed xs
or_else-any xs t e = or_else-yes xs t e ∙ sym (or_else-yes xs none e)

pub or_else-no : (xs : List ℤ) (t : Numbers) → are_listed xs ≡ false → or_else xs t ≡ t
unfolding or_else
or_else-no xs t e = grind arith

pub some-same : (xs ys : List ℤ) (e : are_listed xs ≡ true) (f : are_listed ys ≡ true) → xs ≡ ys → some xs e ≡ some ys f
some-same xs ys e f p = sym (or_else-yes xs none e) ∙ ap listed p ∙ or_else-yes ys none f

pub between-same : (l m : Low) (h k : High) (e : is_range l h ≡ true) (f : is_range m k ≡ true) → l ≡ m → h ≡ k → between l h e ≡ between m k f
between-same l m h k e f p q = sym (range-yes l h e) ∙ (λ i. range (p i) (q i)) ∙ range-yes m k f

pub has-or_else : (xs : List ℤ) (t : Numbers) (n : ℤ) → has (or_else xs t) n ≡ cond (are_listed xs) (has_item int_cmp xs n) (has t n)
unfolding or_else
has-or_else xs t n = grind arith

pub has-range : (l : Low) (h : High) (n : ℤ) → has (range l h) n ≡ in_range l h n
unfolding range
has-range l h n = grind (arith, not_in)

-- ---- the meet is exact

pub has-narrower : (l m : Low) (h k : High) (n : ℤ) → has (range (raised l m) (lowered h k)) n ≡ (in_range l h n && in_range m k n)
has-narrower l m h k n = grind (arith, has-range, lows.admits-narrower, highs.admits-narrower)

pub has-meet : (s t : Numbers) (n : ℤ) → has (meet s t) n ≡ (has s n && has t n)
unfolding meet
has-meet s t n = grind (arith, has-or_else, listed-filter, has-filter, int_cmp_total, int_cmp-IsAntisymmetric, has-narrower)

-- ---- the hull is above both, and below each interval that is

module _ {End : Type 0} {admits : End → ℤ → Bool} {wider narrower : End → End → End} {nearest : ℤ → End} {last : End → ℤ} {narrowest : End} (s : Side admits wider narrower nearest last narrowest) where
  outermost-in : (xs : List ℤ) (n : ℤ) → has_item int_cmp xs n ≡ true → admits (outermost wider nearest narrowest xs) n ≡ true
  outermost-in [] n h = grind arith
  outermost-in (x ∷ xs) n h = grind (arith, s.admits-wider, is_it int_cmp_total int_cmp-IsAntisymmetric n x, s.admits-nearest, outermost-in xs n)

  outermost-least : (m : End) (n : ℤ) (xs : List ℤ) → ((x : ℤ) → has_item int_cmp xs x ≡ true → admits m x ≡ true) → admits (outermost wider nearest narrowest xs) n ≡ true → admits m n ≡ true
  outermost-least m n [] f h = grind (arith, s.admits-wider m narrowest n, s.wider-narrowest m)
  outermost-least m n (x ∷ xs) f h = grind (
    arith,
    s.admits-wider,
    s.nearest-least m x n,
    f x,
    itself int_cmp_total int_cmp-IsAntisymmetric x,
    outermost-least m n xs (λ y k. f y (or_right (eq_by_cmp int_cmp y x) (has_item int_cmp xs y) k)),
  )

ends-in_set : (s : Numbers) (n : ℤ) → has s n ≡ true → in_range (low_end s) (high_end s) n ≡ true
ends-in_set s n h = grind (arith, outermost-in lows, outermost-in highs)

-- an interval above a set is above its ends
ends-least : (s : Numbers) (l : Low) (h : High) (e : is_range l h ≡ true) → Below s (between l h e) → (n : ℤ)
    → (at_least (low_end s) n ≡ true → at_least l n ≡ true) × (at_most (high_end s) n ≡ true → at_most h n ≡ true)
ends-least (some xs e) l h d f n = (
  outermost-least lows l n xs (λ x m. first (at_least l x) (at_most h x) (f x m)),
  outermost-least highs h n xs (λ x m. second (at_least l x) (at_most h x) (f x m)),
)
ends-least (between m k e) l h d f n = grind (arith, f (bottom m), f (top k), ends-in m k e, lows.outermost-least m l n, highs.outermost-least k h n)

has-hull : (s t : Numbers) (n : ℤ) → has (hull s t) n ≡ ((at_least (low_end s) n || at_least (low_end t) n) && (at_most (high_end s) n || at_most (high_end t) n))
unfolding hull
has-hull s t n = grind (arith, has-range, lows.admits-wider, highs.admits-wider)

from_either : (p q a b c d : Bool) → (p || q) ≡ true → (p ≡ true → (a && c) ≡ true) → (q ≡ true → (b && d) ≡ true) → ((a || b) && (c || d)) ≡ true
from_either p q a b c d h f g = grind arith

hull-above : (s t : Numbers) (n : ℤ) → (has s n || has t n) ≡ true → has (hull s t) n ≡ true
hull-above s t n h =
    has-hull s t n
    ∙ from_either (has s n) (has t n) (at_least (low_end s) n) (at_least (low_end t) n) (at_most (high_end s) n) (at_most (high_end t) n) h (ends-in_set s n) (ends-in_set t n)

to_both : (a b c d x y : Bool) → ((a || b) && (c || d)) ≡ true → (a ≡ true → x ≡ true) × (c ≡ true → y ≡ true) → (b ≡ true → x ≡ true) × (d ≡ true → y ≡ true) → (x && y) ≡ true
to_both a b c d x y h f g = grind (arith, f.0, f.1, g.0, g.1)

hull-least : (s t : Numbers) (l : Low) (h : High) (e : is_range l h ≡ true) → Below s (between l h e) → Below t (between l h e) → Below (hull s t) (between l h e)
hull-least s t l h e f g n k = to_both _ _ _ _ _ _ (sym (has-hull s t n) ∙ k) (ends-least s l h e f n) (ends-least t l h e g n)

-- ---- an interval is no part of a listed set: it has fourteen numbers

unfoldable pub fourteen : Low → List ℤ
fourteen Min = negsuc 13 ∷ negsuc 12 ∷ negsuc 11 ∷ negsuc 10 ∷ negsuc 9 ∷ negsuc 8 ∷ negsuc 7 ∷ negsuc 6 ∷ negsuc 5 ∷ negsuc 4 ∷ negsuc 3 ∷ negsuc 2 ∷ negsuc 1 ∷ negsuc 0 ∷ []
fourteen Zero = pos 1 ∷ pos 2 ∷ pos 3 ∷ pos 4 ∷ pos 5 ∷ pos 6 ∷ pos 7 ∷ pos 8 ∷ pos 9 ∷ pos 10 ∷ pos 11 ∷ pos 12 ∷ pos 13 ∷ pos 14 ∷ []
fourteen One = pos 1 ∷ pos 2 ∷ pos 3 ∷ pos 4 ∷ pos 5 ∷ pos 6 ∷ pos 7 ∷ pos 8 ∷ pos 9 ∷ pos 10 ∷ pos 11 ∷ pos 12 ∷ pos 13 ∷ pos 14 ∷ []

pub fourteen-is : (l : Low) (h : High) → is_range l h ≡ true → (is_ascending int_cmp (fourteen l) ≡ true) × ((are_few (fourteen l) ≡ false) × (list_all (in_range l h) (fourteen l) ≡ true))
unfolding fourteen
fourteen-is l h k = grind arith

pub not_listed : (l : Low) (h : High) → is_range l h ≡ true → (xs : List ℤ) → are_listed xs ≡ true → ((n : ℤ) → in_range l h n ≡ true → has_item int_cmp xs n ≡ true) → ⊥
not_listed l h e xs d f =
    let k = fourteen-is l h e in
    let few = few-part int_cmp_total int_cmp-IsAntisymmetric xs (fourteen l) k.0 (grind arith) (grind arith) (λ n m. f n (all-item int_cmp_total int_cmp-IsAntisymmetric (in_range l h) (fourteen l) n k.1.1 m)) in
    true≢false (sym few ∙ k.1.0)

-- inclusion is what the code tests
pub below-is : (s t : Numbers) (r : Bool) → r ≡ below s t → IsTrue r ↔ Below s t
below-is (some xs e) t r h = (
  λ x n. all-item int_cmp_total int_cmp-IsAntisymmetric (has t) xs n (sym h ∙ x),
  λ p. h ∙ all-from_items int_cmp_total int_cmp-IsAntisymmetric (has t) xs p,
)
below-is (between l h e) (some ys f) r i = (λ x. absurd (true≢false (sym x ∙ i)), λ p. absurd (not_listed l h e ys f p))
below-is (between l h e) (between m k f) r i = (
  λ x n y. grind (arith, lows.outermost-least l m n, highs.outermost-least h k n),
  λ p. grind (arith, p (bottom l), p (top h), ends-in l h e),
)

-- ---- the join is the least set of the family above both

join-above : (s t : Numbers) (n : ℤ) → (has s n || has t n) ≡ true → has (join s t) n ≡ true
unfolding join
join-above s t n h = grind (arith, has-or_else, has-merged, int_cmp_total, int_cmp-IsAntisymmetric, hull-above s t n)

pub join-left : (s t : Numbers) → Below s (join s t)
join-left s t n h = join-above s t n (or_left (has s n) (has t n) h)

pub join-right : (s t : Numbers) → Below t (join s t)
join-right s t n h = join-above s t n (or_right (has s n) (has t n) h)

pub join-least : (s t u : Numbers) → Below s u → Below t u → Below (join s t) u
unfolding join
join-least (some xs e) (some ys f) (some us d) p q n h =
    let few = few-merged int_cmp_total int_cmp-IsAntisymmetric us xs ys (grind arith) (grind arith) (grind arith) p q in
    grind (arith, has-or_else, listed-merged xs ys e f, merged-part int_cmp_total int_cmp-IsAntisymmetric xs ys (has_item int_cmp us) p q n)
join-least (some xs e) (some ys f) (between l k d) p q n h = grind (arith, has-or_else, merged-part int_cmp_total int_cmp-IsAntisymmetric xs ys (in_range l k) p q n, hull-least (some xs e) (some ys f) l k d p q n)
join-least (some xs e) (between m k f) (some us d) p q n h = absurd (not_listed m k f us d q)
join-least (some xs e) (between m k f) (between l j d) p q n h = hull-least (some xs e) (between m k f) l j d p q n h
join-least (between m k f) t (some us d) p q n h = absurd (not_listed m k f us d p)
join-least (between m k f) t (between l j d) p q n h = hull-least (between m k f) t l j d p q n h

-- the join of two lists has just their numbers, where these are few
pub join-few : (xs ys : List ℤ) → are_listed xs ≡ true → are_listed ys ≡ true → length (merged int_cmp xs ys) ≤ MAX_MEMBERS → (n : ℤ)
    → has (join (listed xs) (listed ys)) n ≡ (has_item int_cmp xs n || has_item int_cmp ys n)
unfolding join
join-few xs ys e f few n = grind (arith, as_listed, has-or_else, listed-merged, has-merged, int_cmp_total, int_cmp-IsAntisymmetric)

-- and is an interval where they are many
pub join-many : (xs ys : List ℤ) → are_listed xs ≡ true → are_listed ys ≡ true → MAX_MEMBERS < length (merged int_cmp xs ys) → join (listed xs) (listed ys) ≡ hull (listed xs) (listed ys)
unfolding join or_else
join-many xs ys e f many = grind (arith, as_listed)

-- ---- inclusion is an order

pub below-itself : (s : Numbers) → Below s s
below-itself s n h = h

pub below-below : (s t u : Numbers) → Below s t → Below t u → Below s u
below-below s t u f g n h = g n (f n h)

-- sets of the same integers are equal
pub same_numbers : (s t : Numbers) → Below s t → Below t s → s ≡ t
same_numbers (some xs e) (some ys f) p q = some-same xs ys e f (same-items int_cmp_total int_cmp-IsAntisymmetric xs ys (grind arith) (grind arith) p q)
same_numbers (some xs e) (between l h f) p q = absurd (not_listed l h f xs e q)
same_numbers (between l h e) (some ys f) p q = absurd (not_listed l h e ys f p)
same_numbers (between l h e) (between m k f) p q = grind (
  arith,
  (below-is (between l h e) (between m k f) _ refl).1 p,
  (below-is (between m k f) (between l h e) _ refl).1 q,
  lows.outermost-same l m,
  highs.outermost-same h k,
  between-same l m h k e f,
)

-- ---- what no integer is in

pub is_none-is : (s : Numbers) → is_none s ≡ true → s ≡ none
is_none-is (some [] e) h = some-same [] [] e refl refl
is_none-is (some (x ∷ xs) e) h = absurd (true≢false (sym h))
is_none-is (between l k e) h = absurd (true≢false (sym h))

pub has_some : (s : Numbers) → is_none s ≡ false → (n : ℤ) × (has s n ≡ true)
has_some (some [] e) h = absurd (true≢false h)
has_some (some (x ∷ xs) e) h = (x, or_left (eq_by_cmp int_cmp x x) (has_item int_cmp xs x) (itself int_cmp_total int_cmp-IsAntisymmetric x))
has_some (between l k e) h = (bottom l, (ends-in l k e).0)

-- ---- the set of one integer

pub has-one : (n m : ℤ) → is_narrow n ≡ true → IsTrue (has (listed (n ∷ [])) m) ↔ (m ≡ n)
has-one n m h = grind (arith, has-or_else, is_it, itself, int_cmp_total, int_cmp-IsAntisymmetric)

pub ruleset laws = (has-meet, join-left, join-right, join-least, join-few, join-many, same_numbers, is_none-is, has_some)
