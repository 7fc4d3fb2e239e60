-- What tests say that are true or false, beside what std has of them.
use Rattle.std.proofs.Common.{◌≡◌, Bool, true, false, not, ◌&&◌, ◌||◌, ◌↔◌, IsTrue, true≢false, Less, Equal, Greater, is_lt, is_ge, sym, refl, ap, arith}
use Rattle.std.specs.declared.cmp.Ordering.{Ordering}

pub first : (a b : Bool) → (a && b) ≡ true → a ≡ true
first a b h = grind arith

pub second : (a b : Bool) → (a && b) ≡ true → b ≡ true
second a b h = grind arith

pub not_first : (a b : Bool) → (a || b) ≡ false → a ≡ false
not_first a b h = grind arith

pub not_second : (a b : Bool) → (a || b) ≡ false → b ≡ false
not_second a b h = grind arith

-- the first is true where the second isn't
pub or_first : (a b : Bool) → (a || b) ≡ true → b ≡ false → a ≡ true
or_first a b h e = grind arith

-- tests that follow from each other are the same
pub same_tests : (a b : Bool) → (a ≡ true → b ≡ true) → (b ≡ true → a ≡ true) → a ≡ b
same_tests true b f g = sym (f refl)
same_tests false true f g = g refl
same_tests false false f g = refl

-- a test that tells a fact, where the fact is known to hold or not to
pub granted : {P : Type 0} → P → IsTrue true ↔ P
granted p = (λ e. p, λ q. refl)

pub refuted : {P : Type 0} → (P → ⊥) → IsTrue false ↔ P
refuted never = (λ e. absurd (true≢false (sym e)), λ p. absurd (never p))

-- what is not at least another is under it
pub not_under : (r : Ordering) (b : Bool) → is_ge r ≡ b → is_lt r ≡ not b
not_under Less b h = ap not h
not_under Equal b h = ap not h
not_under Greater b h = ap not h

-- what is the same as something that is the same as a third is the same as that
pub both_ways : {A B C : Type 0} → A ↔ B → B ↔ C → A ↔ C
both_ways h k = (λ a. k.0 (h.0 a), λ c. h.1 (k.1 c))
