-- What the ends of intervals let in.
use Rattle.std.proofs.Common.{◌≡◌, ℤ, Bool, true, false, ◌&&◌, ◌||◌, arith}
use Rattle.std.proofs.lemmas.Int.{ints}
use Rattle.type_kinds_sets.specs.declared.ends.Low.{Low}
use Rattle.type_kinds_sets.specs.declared.ends.Low.TheVariants.{One}
use Rattle.type_kinds_sets.specs.declared.ends.High.{High}
use Rattle.type_kinds_sets.specs.declared.ends.High.TheVariants.{MinusOne}
use Rattle.type_kinds_sets.specs.Ends.{at_least, at_most, in_range, is_range, lower, raised, higher, lowered, low_of, high_of, bottom, top}

-- the ends of one side of intervals: which numbers they let in, the wider and the narrower of two, the one nearest to a
-- number, the outermost number that one lets in, and the end that lets in the fewest
pub record Side {End : Type 0} (admits : End → ℤ → Bool) (wider narrower : End → End → End) (nearest : ℤ → End) (outermost : End → ℤ) (narrowest : End) : Type 0 where
  pub admits-wider : (l m : End) (n : ℤ) → admits (wider l m) n ≡ (admits l n || admits m n)
  pub admits-narrower : (l m : End) (n : ℤ) → admits (narrower l m) n ≡ (admits l n && admits m n)
  pub admits-nearest : (n : ℤ) → admits (nearest n) n ≡ true
  -- no end that lets the number in lets in less
  pub nearest-least : (m : End) (x n : ℤ) → admits m x ≡ true → admits (nearest x) n ≡ true → admits m n ≡ true
  -- an end that lets in another's outermost number lets in all that it does, and two that do are one
  pub outermost-least : (l m : End) (n : ℤ) → admits m (outermost l) ≡ true → admits l n ≡ true → admits m n ≡ true
  pub outermost-same : (l m : End) → admits m (outermost l) ≡ true → admits l (outermost m) ≡ true → l ≡ m
  -- the same end of three, in either order
  pub wider-turn : (l m k : End) → wider l (wider m k) ≡ wider (wider l m) k
  pub wider-narrowest : (l : End) → (wider l narrowest ≡ l) × (wider narrowest l ≡ l)

pub lows : Side at_least lower raised low_of bottom One
lows = record {
  admits-wider = λ l m n. grind (arith, ints);
  admits-narrower = λ l m n. grind (arith, ints);
  admits-nearest = λ n. grind (arith, ints);
  nearest-least = λ m x n h k. grind (arith, ints);
  outermost-least = λ l m n h k. grind (arith, ints);
  outermost-same = λ l m h k. grind arith;
  wider-turn = λ l m k. grind arith;
  wider-narrowest = λ l. grind arith;
}

pub highs : Side at_most higher lowered high_of top MinusOne
highs = record {
  admits-wider = λ l m n. grind (arith, ints);
  admits-narrower = λ l m n. grind (arith, ints);
  admits-nearest = λ n. grind (arith, ints);
  nearest-least = λ m x n h k. grind (arith, ints);
  outermost-least = λ l m n h k. grind (arith, ints);
  outermost-same = λ l m h k. grind arith;
  wider-turn = λ l m k. grind arith;
  wider-narrowest = λ l. grind arith;
}

-- an interval has the outermost number of each end
pub ends-in : (l : Low) (h : High) → is_range l h ≡ true → (in_range l h (bottom l) ≡ true) × (in_range l h (top h) ≡ true)
ends-in l h k = grind arith

-- two ends that are no interval let nothing in
pub not_in : (l : Low) (h : High) (n : ℤ) → is_range l h ≡ false → in_range l h n ≡ false
not_in l h n k = grind (arith, ints)
