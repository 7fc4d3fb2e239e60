-- A set of numbers as a list.
use Rattle.std.proofs.Common.{◌≡◌, ℕ, ◌<◌, ◌⊎◌, ◌↔◌, inl, inr, Bool, true, false, cond, List, get_or, refl, sym, ◌∙◌, ap, arith}
use Rattle.std.specs.Prelude.{◌==◌, nat_lt, Contains}
use Rattle.std.specs.List.{list_any}
use Rattle.std.specs.List.Sorted.{IsStrictlySortedBy}
use Rattle.std.specs.Ordering.{nat_cmp, is_eq}
use Rattle.std.specs.declared.cmp.Ordering.TheVariants.{Less, Equal, Greater}
use Rattle.std.specs.BTreeMap.{is_at}
use Rattle.std.proofs.lemmas.List.{get_or_default}
use Rattle.std.proofs.lemmas.List.Folds.{Any-from_list_any, list_any_at}
use Rattle.std.proofs.lemmas.Bool.{cases_order, ltb-true, lt-ltb, le-ltb, eq-eqb, ne_eqb}
use Rattle.std.proofs.lemmas.Map.Keys.{Less-from_sorted}
use Rattle.components.specs.Lists.{Ascending}

less_is : (x y : ℕ) → nat_cmp x y ≡ Less → x < y
less_is x y = go (nat_lt x y) refl (x == y)
  where
    go : (b : Bool) → nat_lt x y ≡ b → (e : Bool) → cond b Less (cond e Equal Greater) ≡ Less → x < y
    go true is e _ = ltb-true x y is
    go false is true bad = absurd (cc)
    go false is false bad = absurd (cc)

pub sorted_is : (keys : List ℕ) → IsStrictlySortedBy nat_cmp keys → Ascending keys
sorted_is keys sorted i j d before under = less_is (get_or keys i d) (get_or keys j d) (Less-from_sorted nat_cmp keys i j d sorted before under)

at_same : (q : ℕ) → is_at (nat_cmp q) q ≡ true
at_same q =
    ap (λ b. is_eq (cond b Less (cond (q == q) Equal Greater))) (le-ltb q q (omega arith)) ∙ ap (λ b. is_eq (cond b Equal Greater)) (eq-eqb q q refl)

at_is : (q k : ℕ) → is_at (nat_cmp q) k ≡ true → k ≡ q
at_is q k e =
    elim (cases_order q k) [
      | inl same ↦ sym same
      | inr apart ↦ elim apart [
        | inl less ↦ absurd (let bad : is_at (nat_cmp q) k ≡ false = ap (λ b. is_eq (cond b Less (cond (q == k) Equal Greater))) (lt-ltb q k less) in cc)
        | inr more ↦ absurd (let bad : is_at (nat_cmp q) k ≡ false =
            ap (λ b. is_eq (cond b Less (cond (q == k) Equal Greater))) (le-ltb q k (omega arith)) ∙ ap (λ b. is_eq (cond b Equal Greater)) (ne_eqb q k (λ is. omega arith)) in cc)
      ]
    ]

found : (keys : List ℕ) (q : ℕ) → Contains keys q → list_any (is_at (nat_cmp q)) keys ≡ true
found keys q (k, under, is) = list_any_at (is_at (nat_cmp q)) keys k q under (ap (is_at (nat_cmp q)) is ∙ at_same q)

from_found : (keys : List ℕ) (q : ℕ) → list_any (is_at (nat_cmp q)) keys ≡ true → Contains keys q
from_found keys q e =
    let at = Any-from_list_any (is_at (nat_cmp q)) keys e in
    let is : at.1 ≡ q = at_is q at.1 at.4 in
    (at.0, at.2, get_or_default keys at.0 q at.1 at.2 ∙ at.3 ∙ is)

-- what an insertion leaves
pub inserted : (keys keys' : List ℕ) (node : ℕ)
    → ((q : ℕ) → list_any (is_at (nat_cmp q)) keys' ≡ cond (is_at (nat_cmp node) q) true (list_any (is_at (nat_cmp q)) keys))
    → (x : ℕ) → Contains keys' x ↔ (Contains keys x ⊎ (x ≡ node))
inserted keys keys' node updates x = (there, back)
  where
    there : Contains keys' x → Contains keys x ⊎ (x ≡ node)
    there has = go (is_at (nat_cmp node) x) refl
      where
        go : (b : Bool) → is_at (nat_cmp node) x ≡ b → Contains keys x ⊎ (x ≡ node)
        go true e = inr (at_is node x e)
        go false e = inl (from_found keys x (sym (updates x ∙ ap (λ b. cond b true (list_any (is_at (nat_cmp x)) keys)) e) ∙ found keys' x has))

    back : Contains keys x ⊎ (x ≡ node) → Contains keys' x
    back (inl has) = from_found keys' x (go (is_at (nat_cmp node) x) refl)
      where
        go : (b : Bool) → is_at (nat_cmp node) x ≡ b → list_any (is_at (nat_cmp x)) keys' ≡ true
        go true e = updates x ∙ ap (λ b. cond b true (list_any (is_at (nat_cmp x)) keys)) e
        go false e = updates x ∙ ap (λ b. cond b true (list_any (is_at (nat_cmp x)) keys)) e ∙ found keys x has
    back (inr is) =
        from_found keys' x (updates x ∙ ap (λ b. cond b true (list_any (is_at (nat_cmp x)) keys)) (ap (is_at (nat_cmp node)) is ∙ at_same node))
