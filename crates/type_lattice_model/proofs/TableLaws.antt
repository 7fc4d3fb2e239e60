-- The laws of tables: what is found at a key.
use Rattle.std.specs.Prelude.{ℕ, zero, suc, true, false, cond, List, [], ◌∷◌, length, take, Option, Some, None, is_some, option_map}
use Rattle.std.proofs.Common.{◌≡◌, ◌≤◌, refl, sym, ap, ◌∙◌, arith, true≢false}
use Rattle.std.specs.declared.cmp.Ordering.{Ordering}
use Rattle.std.specs.Ordering.{is_lt, eq_by_cmp}
use Rattle.std.specs.Cmp.{IsTotalOrder}
use Rattle.std.specs.FinSet.{IsAntisymmetric}
use Rattle.type_kinds_sets.specs.Ascending.{is_below_all, is_ascending, has_item, placed}
use Rattle.type_kinds_sets.proofs.AscendingLaws as ascending
use Rattle.type_lattice_model.specs.Tables.{keys, mapped, all_hold, chosen, EachOf, EachEntry, joined, both_at, is_table, find, put, united}
use Rattle.type_lattice_model.specs.Operations.{met_with, is_empty}

-- ---- what an option holds

-- what is made of both, said by `met_with`
pub met_with-both_at : {X Y Z : Type 0} (m : X → Y → Option Z) (x : Option X) (y : Option Y) → met_with (λ a. met_with (m a) y) x ≡ both_at m x y
met_with-both_at m x y = grind arith

pub found_at : {X : Type 0} (x : Option X) → is_some x ≡ true → (y : X) × (x ≡ Some y)
found_at x h = grind arith

pub some-none : {X : Type 0} (x : X) → Some x ≡ None → ⊥
some-none x e = cc

module _ {K : Type 0} {R : K → K → Ordering} (t : IsTotalOrder R) (same : IsAntisymmetric R) where
  -- ---- which keys a table has

  pub find-key : {X : Type 0} (m : List (K × X)) (q : K) → is_some (find R m q) ≡ has_item R (keys m) q
  find-key [] q = refl
  find-key (e ∷ m) q = grind (arith, find-key m q)

  pub find-first : {X : Type 0} (e : K × X) (m : List (K × X)) → find R (e ∷ m) e.0 ≡ Some e.1
  find-first e m = grind (arith, ascending.itself t same)

  pub find-later : {X : Type 0} (e : K × X) (m : List (K × X)) (q : K) → eq_by_cmp R q e.0 ≡ false → find R (e ∷ m) q ≡ find R m q
  find-later e m q h = grind arith

  -- a key that is there stands above one that is below all
  pub found-above : {X : Type 0} (m : List (K × X)) (k q : K) → is_below_all R k (keys m) ≡ true → is_some (find R m q) ≡ true → is_lt (R k q) ≡ true
  found-above [] k q h s = grind arith
  found-above (e ∷ m) k q h s = grind (arith, found-above m k q, ascending.is_it t same)

  pub find-below : {X : Type 0} (m : List (K × X)) (k : K) → is_below_all R k (keys m) ≡ true → find R m k ≡ None
  find-below [] k h = refl
  find-below (e ∷ m) k h = grind (arith, find-below m k)

  pub table-rest : {X : Type 0} (e : K × X) (m : List (K × X)) → is_table R (e ∷ m) ≡ true → is_table R m ≡ true
  table-rest e m h = grind arith

  -- the first key isn't there again
  pub find-again : {X : Type 0} (e : K × X) (m : List (K × X)) (q : K) → is_table R (e ∷ m) ≡ true → eq_by_cmp R q e.0 ≡ true → find R m q ≡ None
  find-again e m q h s = grind (arith, ascending.is_it t same, find-below)

  pub first_entry : {X : Type 0} (m : List (K × X)) → is_empty m ≡ false → (k : K) × ((x : X) × (find R m k ≡ Some x))
  first_entry [] h = absurd (true≢false h)
  first_entry (e ∷ m) h = (e.0, (e.1, find-first e m))

  pub not_empty : {X : Type 0} (m : List (K × X)) (k : K) (x : X) → find R m k ≡ Some x → is_empty m ≡ false
  not_empty m k x h = grind arith

  pub find-empty : {X : Type 0} (m : List (K × X)) → is_empty m ≡ true → (q : K) → find R m q ≡ None
  find-empty m h q = grind arith

  -- ---- tables that hold the same are one

  -- their first keys are equal, since no other key of a table stands before its first
  first_same : {X : Type 0} (e d : K × X) (m w : List (K × X)) → is_table R (e ∷ m) ≡ true → is_table R (d ∷ w) ≡ true → ((q : K) → find R (e ∷ m) q ≡ find R (d ∷ w) q) → e.0 ≡ d.0
  first_same e d m w a b f = grind (arith, f e.0, f d.0, ascending.itself t same, ascending.is_it t same, found-above, ascending.below-both_ways t same)

  pub same_table : {X : Type 0} (m w : List (K × X)) → is_table R m ≡ true → is_table R w ≡ true → ((q : K) → find R m q ≡ find R w q) → m ≡ w
  same_table [] [] a b f = refl
  same_table [] (d ∷ w) a b f = grind (arith, f d.0, find-first)
  same_table (e ∷ m) [] a b f = grind (arith, f e.0, find-first)
  same_table (e ∷ m) (d ∷ w) a b f = grind (arith, first_same e d m w a b f, f e.0, find-first, same_table m w (table-rest e m a) (table-rest d w b) (λ q. grind (arith, first_same e d m w a b f, f q, find-again)))

  -- ---- what is chosen of a table

  -- no other keys
  pub keys-chosen : {X Y : Type 0} (f : K → X → Option Y) (m : List (K × X)) (q : K) → has_item R (keys (chosen f m)) q ≡ true → has_item R (keys m) q ≡ true
  keys-chosen f [] q h = h
  keys-chosen f (e ∷ m) q h = grind (arith, keys-chosen f m q)

  pub find-chosen : {X Y : Type 0} (f : K → X → Option Y) (m : List (K × X)) → is_table R m ≡ true → (q : K) → find R (chosen f m) q ≡ met_with (f q) (find R m q)
  find-chosen f [] a q = refl
  find-chosen f (e ∷ m) a q = grind (arith, find-chosen f m (table-rest e m a) q, ascending.is_it t same, keys-chosen f m, find-key, find-below)

  pub table-chosen : {X Y : Type 0} (f : K → X → Option Y) (m : List (K × X)) → is_table R m ≡ true → is_table R (chosen f m) ≡ true
  table-chosen f [] a = refl
  table-chosen f (e ∷ m) a = grind (arith, table-chosen f m, keys-chosen f m, ascending.below_all-from_items t same, ascending.below_all-item t same)

  pub length-chosen : {X Y : Type 0} (f : K → X → Option Y) (m : List (K × X)) → length (chosen f m) ≤ length m
  length-chosen f [] = omega arith
  length-chosen f (e ∷ m) = grind (arith, length-chosen f m)

  -- ---- one entry more

  keys-put : {X : Type 0} (j : X → X → X) (k : K) (x : X) (m : List (K × X)) → keys (put R j k x m) ≡ placed R k (keys m)
  keys-put j k x [] = refl
  keys-put j k x (e ∷ m) = grind (arith, keys-put j k x m)

  table-put : {X : Type 0} (j : X → X → X) (k : K) (x : X) (m : List (K × X)) → is_table R m ≡ true → is_table R (put R j k x m) ≡ true
  table-put j k x m a = ap (is_ascending R) (keys-put j k x m) ∙ ascending.ascending-placed t same k (keys m) a

  find-put : {X : Type 0} (j : X → X → X) (k : K) (x : X) (m : List (K × X)) → is_table R m ≡ true → (q : K) → find R (put R j k x m) q ≡ joined j (find R m q) (cond (eq_by_cmp R q k) (Some x) None)
  find-put j k x [] a q = refl
  find-put j k x (e ∷ m) a q = grind (arith, find-put j k x m (table-rest e m a) q, ascending.is_it t same, ascending.itself t same, found-above, ascending.below-both_ways t same)

  -- ---- two tables in one

  pub find-united : {X : Type 0} (j : X → X → X) (m w : List (K × X)) → is_table R m ≡ true → is_table R w ≡ true → (q : K) → find R (united R j m w) q ≡ joined j (find R m q) (find R w q)
  find-united j m [] a b q = grind arith
  find-united j m (e ∷ w) a b q = grind (arith, find-united j (put R j e.0 e.1 m) w (table-put j e.0 e.1 m a) (table-rest e w b) q, find-put, find-again)

  pub table-united : {X : Type 0} (j : X → X → X) (m w : List (K × X)) → is_table R m ≡ true → is_table R (united R j m w) ≡ true
  table-united j m [] a = a
  table-united j m (e ∷ w) a = table-united j (put R j e.0 e.1 m) w (table-put j e.0 e.1 m a)

  -- ---- another thing held at each key

  pub find-mapped : {X Y : Type 0} (f : X → Y) (m : List (K × X)) (q : K) → find R (mapped f m) q ≡ option_map f (find R m q)
  find-mapped f [] q = refl
  find-mapped f (e ∷ m) q = grind (arith, find-mapped f m q)

  pub keys-mapped : {X Y : Type 0} (f : X → Y) (m : List (K × X)) → keys (mapped f m) ≡ keys m
  keys-mapped f [] = refl
  keys-mapped f (e ∷ m) = ap (λ ks. e.0 ∷ ks) (keys-mapped f m)

  pub table-mapped : {X Y : Type 0} (f : X → Y) (m : List (K × X)) → is_table R m ≡ true → is_table R (mapped f m) ≡ true
  table-mapped f m a = ap (is_ascending R) (keys-mapped f m) ∙ a

  pub length-mapped : {X Y : Type 0} (f : X → Y) (m : List (K × X)) → length (mapped f m) ≡ length m
  length-mapped f [] = refl
  length-mapped f (e ∷ m) = ap suc (length-mapped f m)

  pub empty-mapped : {X Y : Type 0} (f : X → Y) (m : List (K × X)) → is_empty (mapped f m) ≡ is_empty m
  empty-mapped f m = grind arith

  -- ---- the same held at some keys

  pub find-all_hold : {X : Type 0} (ks : List K) (x : X) (q : K) → find R (all_hold ks x) q ≡ cond (has_item R ks q) (Some x) None
  find-all_hold [] x q = refl
  find-all_hold (k ∷ ks) x q = grind (arith, find-all_hold ks x q)

  keys-all_hold : {X : Type 0} (ks : List K) (x : X) → keys (all_hold ks x) ≡ ks
  keys-all_hold [] x = refl
  keys-all_hold (k ∷ ks) x = ap (λ qs. k ∷ qs) (keys-all_hold ks x)

  pub table-all_hold : {X : Type 0} (ks : List K) (x : X) → is_ascending R ks ≡ true → is_table R (all_hold ks x) ≡ true
  table-all_hold ks x a = ap (is_ascending R) (keys-all_hold ks x) ∙ a

  pub length-all_hold : {X : Type 0} (ks : List K) (x : X) → length (all_hold ks x) ≡ length ks
  length-all_hold [] x = refl
  length-all_hold (k ∷ ks) x = ap suc (length-all_hold ks x)

  -- ---- how many entries there are

  pub length-keys : {X : Type 0} (m : List (K × X)) → length (keys m) ≡ length m
  length-keys [] = refl
  length-keys (e ∷ m) = ap suc (length-keys m)

  -- a table all of whose keys another has, has no more entries
  pub length-within : {X Y : Type 0} (m : List (K × X)) (w : List (K × Y)) → is_table R m ≡ true → is_table R w ≡ true → ((q : K) → is_some (find R m q) ≡ true → is_some (find R w q) ≡ true) → length m ≤ length w
  length-within m w a b f =
      let le : length (keys m) ≤ length (keys w) = ascending.length-part t same (keys w) (keys m) a b (λ q h. sym (find-key w q) ∙ f q (find-key m q ∙ h)) in
      omega (arith, length-keys m, length-keys w)

  -- ---- what holds of each entry

  -- at a key
  pub each_at : {X : Type 0} (P : K → X → Type 0) (m : List (K × X)) → EachEntry P m → (q : K) (x : X) → find R m q ≡ Some x → P q x
  each_at P [] p q x h = grind arith
  each_at P (e ∷ m) p q x h = grind (arith, each_at P m p.1 q, ascending.is_it t same)

  -- and of each, where it holds at each key
  pub each_from : {X : Type 0} (P : K → X → Type 0) (m : List (K × X)) → is_table R m ≡ true → ((q : K) (x : X) → find R m q ≡ Some x → P q x) → EachEntry P m
  each_from P [] a f = tt
  each_from P (e ∷ m) a f = (f e.0 e.1 (find-first e m), each_from P m (table-rest e m a) (λ q x h. f q x (grind (arith, find-again))))

-- of the first of a list
pub each-take : {A : Type 0} (Q : A → Type 0) (xs : List A) (i : ℕ) → EachOf Q xs → EachOf Q (take i xs)
each-take Q xs zero k = tt
each-take Q [] (suc i) k = tt
each-take Q (x ∷ xs) (suc i) k = (k.0, each-take Q xs i k.1)

-- and of each entry of a united table, if it holds of what two entries of one key become
module _ {K X : Type 0} {R : K → K → Ordering} (same : IsAntisymmetric R) (j : X → X → X) (P : K → X → Type 0) (keeps : (a : K) (x y : X) → P a x → P a y → P a (j x y)) where
  pub each-put : (a : K) (x : X) (m : List (K × X)) → P a x → EachEntry P m → EachEntry P (put R j a x m)
  each-put a x [] p q = (p, tt)
  each-put a x (e ∷ m) p q = grind (arith, each-put a x m p q.1)

  pub each-united : (m w : List (K × X)) → EachEntry P m → EachEntry P w → EachEntry P (united R j m w)
  each-united m [] p q = p
  each-united m (e ∷ w) p q = each-united (put R j e.0 e.1 m) w (each-put e.0 e.1 m q.0 p) q.1
