-- A list whose keys ascend rises by each test that the order of the keys gives.
use Rattle.std.proofs.Common.{◌≡◌, ℕ, Bool, true, ◌&&◌, List, [], ◌∷◌, map, refl, sym, ap, ◌∙◌, arith, true≢false}
use Rattle.std.specs.Prelude.{nat_lt}
use Rattle.std.specs.declared.cmp.Ordering.{Ordering}
use Rattle.std.specs.declared.cmp.Ordering.TheVariants.{Less, Equal, Greater}
use Rattle.std.specs.Ordering.{is_lt, nat_cmp, ordering_then}
use Rattle.type_kinds.proofs.Truths.{first, second}
use Rattle.type_kinds_sets.specs.Ascending.{is_ascending, is_below_all}
use Rattle.type_kinds_sets.specs.Names.{name_cmp}
use Rattle.core_ast.specs.declared.syntax.FunName.{FunName}
use Rattle.call_graph.specs.Outside.{Called}
use Rattle.table_file.specs.Order.{rises, rises_from, by_first, is_function_before}
use Rattle.table_keep.specs.Calls.{called_cmp}
use Rattle.table_keep.specs.Made.{function_cmp}

module _ {K X : Type 0} (R : K → K → Ordering) (before : X → X → Bool) (key : X → K) (tells : (x y : X) → is_lt (R (key x) (key y)) ≡ true → before x y ≡ true) where
  ascending_rises_from : (x : X) (xs : List X) → is_ascending R (key x ∷ map key xs) ≡ true → rises_from before x xs ≡ true
  ascending_rises_from x [] a = refl
  ascending_rises_from x (y ∷ ys) a =
      let below = first (is_below_all R (key x) (key y ∷ map key ys)) (is_ascending R (key y ∷ map key ys)) a in
      let rest = second (is_below_all R (key x) (key y ∷ map key ys)) (is_ascending R (key y ∷ map key ys)) a in
      let here : before x y ≡ true = tells x y (first (is_lt (R (key x) (key y))) (is_below_all R (key x) (map key ys)) below) in
      ap (λ b. b && rises_from before y ys) here ∙ ascending_rises_from y ys rest

  pub ascending_rises : (xs : List X) → is_ascending R (map key xs) ≡ true → rises before xs ≡ true
  ascending_rises [] a = refl
  ascending_rises (x ∷ xs) a = ascending_rises_from x xs a

-- ---- functions, and called functions

tells_first : (a b : Ordering) (t : Bool) → (is_lt b ≡ true → t ≡ true) → is_lt (ordering_then a b) ≡ true → by_first a t ≡ true
tells_first Less b t f h = refl
tells_first Equal b t f h = f h
tells_first Greater b t f h = absurd (true≢false (sym h))

tells_number : (n k : ℕ) → is_lt (nat_cmp n k) ≡ true → nat_lt n k ≡ true
tells_number n k h = grind arith

pub tells_function : (f g : FunName) → is_lt (function_cmp f g) ≡ true → is_function_before f g ≡ true
tells_function f g h = tells_first (name_cmp f.name g.name) (nat_cmp f.arity g.arity) (nat_lt f.arity g.arity) (tells_number f.arity g.arity) h

pub tells_called : (c d : Called) → is_lt (called_cmp c d) ≡ true → by_first (name_cmp c.0 d.0) (is_function_before c.1 d.1) ≡ true
tells_called c d h = tells_first (name_cmp c.0 d.0) (function_cmp c.1 d.1) (is_function_before c.1 d.1) (tells_function c.1 d.1) h
