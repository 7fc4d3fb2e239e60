-- Lists that grow at their end.
use Rattle.std.proofs.Common.{◌≡◌, ℕ, List, [], ◌++◌, Result, sym, ap, ◌∙◌}
use Rattle.std.proofs.lemmas.List.{append_assoc, append-nil}
use Rattle.type_kinds.specs.declared.memory.Memory.{Memory}

abbrev pub Answer : Type 0
Answer = Result (Unit {0}) Memory

pub nothing : (o : List ℕ) → o ≡ o ++ []
nothing o = sym (append-nil o)

-- one part behind another
pub next : (o0 o1 o2 p q : List ℕ) → o1 ≡ o0 ++ p → o2 ≡ o1 ++ q → o2 ≡ o0 ++ (p ++ q)
next o0 o1 o2 p q one two = two ∙ ap (λ o. o ++ q) one ∙ append_assoc o0 p q

pub three_parts : (o0 o1 o2 o3 p q r : List ℕ) → o1 ≡ o0 ++ p → o2 ≡ o1 ++ q → o3 ≡ o2 ++ r → o3 ≡ o0 ++ (p ++ q ++ r)
three_parts o0 o1 o2 o3 p q r one two three = next o0 o2 o3 (p ++ q) r (next o0 o1 o2 p q one two) three

-- One round of a loop: what is added here, and what is left.
pub round : (o o1 goal here rest whole : List ℕ) → o1 ≡ o ++ here → whole ≡ here ++ rest → o ++ whole ≡ goal → o1 ++ rest ≡ goal
round o o1 goal here rest whole step is before = ap (λ x. x ++ rest) step ∙ append_assoc o here rest ∙ ap (λ x. o ++ x) (sym is) ∙ before

-- a round with two parts
pub next_round : (o o1 o2 goal p q rest whole : List ℕ) → o1 ≡ o ++ p → o2 ≡ o1 ++ q → whole ≡ p ++ q ++ rest → o ++ whole ≡ goal → o2 ++ rest ≡ goal
next_round o o1 o2 goal p q rest whole one two is before = round o o2 goal (p ++ q) rest whole (next o o1 o2 p q one two) is before
