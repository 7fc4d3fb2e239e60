-- The rows of the transfers, by the arguments that they read.
use Rattle.std.proofs.Common.{◌≡◌, ℕ, ◌<◌, ◌≤◌, Bool, true, false, cond, List, [], ◌∷◌, length, get_or, map, Some, refl, sym, ap, ◌∙◌, arith}
use Rattle.std.specs.List.{list_any, list_all}
use Rattle.std.specs.Prelude.{Result, Ok, Err, IfOk}
use Rattle.type_lattice.specs.Types.{Type4, join, elem, tail}
use Rattle.cons_tree.specs.Environments.{Types, State, type_at, on_types, lowered}
use Rattle.cons_tree.specs.Named.{integers, floats, has_integer, has_float, where_so, arithmetic, absolute, selected, tested, tested_some, same_values, other_values}
use Rattle.cons_tree.specs.Narrowing.{only_where, meets, alike, is_true, is_false, each_typed, transferred}
use Rattle.cons_tree.specs.Trails.{answer}
use Rattle.cons_tree.specs.declared.parts.Transfer.TheVariants.{Arith, Abs, Head, Tail, Element, Test, TestSome, Same, Differ}

-- a call that answers what another row says
pub of_row : {E : Type 0} (r : Result Bool E) (s t : State) (ys : Types) → t ≡ s → IfOk r (λ a. s ≡ answer a ys) → IfOk r (λ a. t ≡ answer a ys)
of_row (Ok a) s t ys e h = e ∙ h
of_row (Err d) s t ys e h = tt

pub where_not : (c : Types → Bool) (f : Types → State) (ys : Types) → c ys ≡ false → only_where c f ys ≡ Some ys
where_not c f ys e = ap (λ b. cond b (f ys) (Some ys)) e

pub where_yes : (c : Types → Bool) (f : Types → State) (ys : Types) → c ys ≡ true → only_where c f ys ≡ f ys
where_yes c f ys e = ap (λ b. cond b (f ys) (Some ys)) e

pub typed_as : (ws vs : List ℕ) (ts us xs : Types) (r : State) → ws ≡ vs → ts ≡ us → each_typed ws ts xs ≡ r → each_typed vs us xs ≡ r
typed_as ws vs ts us xs r e f h = sym (λ i. each_typed (e i) (f i) xs) ∙ h

pub arith_row : (v : ℕ) (args : List ℕ) (xs : Types) (b d : Bool) (w t : Type4) → b ≡ list_all has_integer (map (type_at xs) args) → d ≡ list_any has_float (map (type_at xs) args) → w ≡ integers
    → t ≡ join (where_so b w) (where_so d floats) → transferred Arith v args xs ≡ lowered xs v t
unfolding transferred arithmetic
arith_row v args xs b d w t e f g h = ap (lowered xs v) (sym (h ∙ (λ i. join (where_so (e i) (g i)) (where_so (f i) floats))))

-- ---- one argument

pub abs_short : (v : ℕ) (args : List ℕ) (xs : Types) → length args < 1 → transferred Abs v args xs ≡ Some xs
unfolding transferred
abs_short v [] xs h = refl
abs_short v (a ∷ args) xs h = absurd (omega (arith, h))

pub abs_row : (v : ℕ) (args : List ℕ) (xs : Types) → 1 ≤ length args → transferred Abs v args xs ≡ lowered xs v (absolute (type_at xs (get_or args 0 0)))
unfolding transferred
abs_row v [] xs h = absurd (omega (arith, h))
abs_row v (a ∷ args) xs h = refl

pub head_short : (v : ℕ) (args : List ℕ) (xs : Types) → length args < 1 → transferred Head v args xs ≡ Some xs
unfolding transferred
head_short v [] xs h = refl
head_short v (a ∷ args) xs h = absurd (omega (arith, h))

pub head_row : (v : ℕ) (args : List ℕ) (xs : Types) → 1 ≤ length args → transferred Head v args xs ≡ lowered xs v (elem (type_at xs (get_or args 0 0)))
unfolding transferred
head_row v [] xs h = absurd (omega (arith, h))
head_row v (a ∷ args) xs h = refl

pub tail_short : (v : ℕ) (args : List ℕ) (xs : Types) → length args < 1 → transferred Tail v args xs ≡ Some xs
unfolding transferred
tail_short v [] xs h = refl
tail_short v (a ∷ args) xs h = absurd (omega (arith, h))

pub tail_row : (v : ℕ) (args : List ℕ) (xs : Types) → 1 ≤ length args → transferred Tail v args xs ≡ lowered xs v (tail (type_at xs (get_or args 0 0)))
unfolding transferred
tail_row v [] xs h = absurd (omega (arith, h))
tail_row v (a ∷ args) xs h = refl

pub test_short : (t : Type4) (v : ℕ) (args : List ℕ) (xs : Types) → length args < 1 → transferred (Test t) v args xs ≡ Some xs
unfolding transferred
test_short t v [] xs h = refl
test_short t v (a ∷ args) xs h = absurd (omega (arith, h))

pub test_row : (t : Type4) (v : ℕ) (args : List ℕ) (xs : Types) → 1 ≤ length args
    → transferred (Test t) v args xs ≡ on_types (lowered xs v (tested t (type_at xs (get_or args 0 0)))) (only_where (is_true v) (meets (get_or args 0 0) (λ ys. t)))
unfolding transferred
test_row t v [] xs h = absurd (omega (arith, h))
test_row t v (a ∷ args) xs h = refl

pub test_some_short : (t : Type4) (v : ℕ) (args : List ℕ) (xs : Types) → length args < 1 → transferred (TestSome t) v args xs ≡ Some xs
unfolding transferred
test_some_short t v [] xs h = refl
test_some_short t v (a ∷ args) xs h = absurd (omega (arith, h))

pub test_some_row : (t : Type4) (v : ℕ) (args : List ℕ) (xs : Types) → 1 ≤ length args
    → transferred (TestSome t) v args xs ≡ on_types (lowered xs v (tested_some t (type_at xs (get_or args 0 0)))) (only_where (is_true v) (meets (get_or args 0 0) (λ ys. t)))
unfolding transferred
test_some_row t v [] xs h = absurd (omega (arith, h))
test_some_row t v (a ∷ args) xs h = refl

-- ---- two arguments

pub element_short : (v : ℕ) (args : List ℕ) (xs : Types) → length args < 2 → transferred Element v args xs ≡ Some xs
unfolding transferred
element_short v [] xs h = refl
element_short v (a ∷ []) xs h = refl
element_short v (a ∷ b ∷ args) xs h = absurd (omega (arith, h))

pub element_row : (v : ℕ) (args : List ℕ) (xs : Types) → 2 ≤ length args → transferred Element v args xs ≡ lowered xs v (selected (type_at xs (get_or args 0 0)) (type_at xs (get_or args 1 0)))
unfolding transferred
element_row v [] xs h = absurd (omega (arith, h))
element_row v (a ∷ []) xs h = absurd (omega (arith, h))
element_row v (a ∷ b ∷ args) xs h = refl

pub same_short : (v : ℕ) (args : List ℕ) (xs : Types) → length args < 2 → transferred Same v args xs ≡ Some xs
unfolding transferred
same_short v [] xs h = refl
same_short v (a ∷ []) xs h = refl
same_short v (a ∷ b ∷ args) xs h = absurd (omega (arith, h))

pub same_row : (v : ℕ) (args : List ℕ) (xs : Types) → 2 ≤ length args → transferred Same v args xs
    ≡ on_types (lowered xs v (same_values (type_at xs (get_or args 0 0)) (type_at xs (get_or args 1 0)))) (only_where (is_true v) (alike (get_or args 0 0) (get_or args 1 0)))
unfolding transferred
same_row v [] xs h = absurd (omega (arith, h))
same_row v (a ∷ []) xs h = absurd (omega (arith, h))
same_row v (a ∷ b ∷ args) xs h = refl

pub differ_short : (v : ℕ) (args : List ℕ) (xs : Types) → length args < 2 → transferred Differ v args xs ≡ Some xs
unfolding transferred
differ_short v [] xs h = refl
differ_short v (a ∷ []) xs h = refl
differ_short v (a ∷ b ∷ args) xs h = absurd (omega (arith, h))

pub differ_row : (v : ℕ) (args : List ℕ) (xs : Types) → 2 ≤ length args → transferred Differ v args xs
    ≡ on_types (lowered xs v (other_values (type_at xs (get_or args 0 0)) (type_at xs (get_or args 1 0)))) (only_where (is_false v) (alike (get_or args 0 0) (get_or args 1 0)))
unfolding transferred
differ_row v [] xs h = absurd (omega (arith, h))
differ_row v (a ∷ []) xs h = absurd (omega (arith, h))
differ_row v (a ∷ b ∷ args) xs h = refl
