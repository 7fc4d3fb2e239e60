-- Findings are in a strict order, but for those of one kind at one label.
use Rattle.std.proofs.Common.{◌≡◌, ℕ, true, false, nat_eq, nat_lt, ◌&&◌, ◌||◌, arith}
use Rattle.std.specs.Cmp.{IsStrictWeakOrder}
use Rattle.warn_list.specs.Order.{kind_number, stands_before}

-- pairs of numbers, by the first and then by the second
one_way : (a b c d : ℕ) → nat_lt a c || (nat_eq a c && nat_lt b d) ≡ true → nat_lt c a || (nat_eq c a && nat_lt d b) ≡ false
one_way a b c d h = grind (arith, h)

chain : (a b c d e f : ℕ) → nat_lt a c || (nat_eq a c && nat_lt b d) ≡ false → nat_lt c e || (nat_eq c e && nat_lt d f) ≡ false → nat_lt a e || (nat_eq a e && nat_lt b f) ≡ false
chain a b c d e f h g = grind (arith, h, g)

pub in_order : IsStrictWeakOrder stands_before
in_order = record { one_way = λ f g h. one_way f.label (kind_number f.kind) g.label (kind_number g.kind) h; chain = λ f g k h i. chain f.label (kind_number f.kind) g.label (kind_number g.kind) k.label (kind_number k.kind) h i }
