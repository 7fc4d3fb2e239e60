-- The table of bound names: what each of its steps keeps.
use Rattle.std.proofs.Common.{◌≡◌, ℕ, zero, suc, ◌+◌, ◌-◌, ◌<◌, ◌≤◌, ◌⊎◌, inl, inr, ◌||◌, List, [], ◌∷◌, ◌++◌, take, drop, refl, sym, ap, ◌∙◌, subst, Bool, true, false, cond, length}
use Rattle.std.proofs.Common.{get_or, Option, Some, None, slice_get, slice_index_or, slice_set, position, Result, Ok, Err, OnErr, eqb, eqb-true, eq-eqb, ltb, arith, length-append}
use Rattle.std.specs.List.{list_any}
use Rattle.std.specs.Cmp.{IsEquivalence}
use Rattle.std.proofs.lemmas.Bool.{lt-ltb, le-ltb, ltb-true, ltb-false, or_parts}
use Rattle.std.proofs.lemmas.List.{get_or-set_same, get_or-set_other, get_or_past, length-set, append_assoc, append-nil}
use Rattle.std.proofs.lemmas.List.Quantifiers.{position-Some}
use Rattle.std.proofs.lemmas.Option.{slice_get-get_or, slice_get_within, slice_get_past, get_or_from_slice_get}
use Rattle.std.proofs.Math.Seq.{take-append_seam, drop-nil}
use Rattle.std.proofs.Math.Bool.{or-true}
use Rattle.type_kinds.proofs.Lists.{get_last}
use Rattle.indexmap.specs.IndexSet.{insert_key}
use Rattle.core_scope.specs.declared.names.Binding.{Binding}
use Rattle.core_scope.specs.steps.Trail.{Tells, key_and, bound_names, IsKept, Trail, IsTable, MaybeNewKey}

-- ---- lists and tests

-- an item that fails the test, at the end of a list
pub any_failing : {X : Type 0} (p : X → Bool) (k : X) → p k ≡ false → (xs : List X) (from : ℕ) → list_any p (drop from (xs ++ k ∷ [])) ≡ list_any p (drop from xs)
any_failing p k failing [] zero = ap (λ b. b || false) failing
any_failing p k failing [] (suc from) = ap (list_any p) (drop-nil from)
any_failing p k failing (x ∷ xs) zero = ap (λ b. p x || b) (any_failing p k failing xs zero)
any_failing p k failing (x ∷ xs) (suc from) = any_failing p k failing xs from

ltb_suc : (a b : ℕ) → ltb (suc a) (suc b) ≡ ltb a b
ltb_suc a b = by (ltb a b) refl
  where
    by : (c : Bool) → ltb a b ≡ c → ltb (suc a) (suc b) ≡ c
    by true e = lt-ltb (suc a) (suc b) (omega (arith, ltb-true a b e))
    by false e = le-ltb (suc a) (suc b) (omega (arith, ltb-false a b e))

-- an item that passes
pub any_passing : {X : Type 0} (p : X → Bool) (k : X) → p k ≡ true → (xs : List X) (from : ℕ) → ltb from (length xs + 1) ≡ list_any p (drop from (xs ++ k ∷ []))
any_passing p k passing [] zero = sym (ap (λ b. b || false) passing)
any_passing p k passing [] (suc from) = le-ltb (suc from) 1 (omega arith) ∙ sym (ap (list_any p) (drop-nil from))
any_passing p k passing (x ∷ xs) zero = lt-ltb 0 (length (x ∷ xs) + 1) (omega arith) ∙ sym (ap (λ b. p x || b) (sym (any_passing p k passing xs zero) ∙ lt-ltb 0 (length xs + 1) (omega arith)) ∙ or-true (p x))
any_passing p k passing (x ∷ xs) (suc from) = ap (ltb (suc from)) (let e : suc (length xs) + 1 ≡ suc (length xs + 1) = omega arith in e) ∙ ltb_suc from (length xs + 1) ∙ any_passing p k passing xs from

-- equal names pass the same tests
pub any_alike : {T : Type 0} (eq : T → T → Bool) → IsEquivalence eq → (x y : T) → eq x y ≡ true → (zs : List T) → list_any (eq x) zs ≡ list_any (eq y) zs
any_alike eq q x y e [] = refl
any_alike eq q x y e (z ∷ zs) = let here = q.congr x y z e in let there = any_alike eq q x y e zs in ap (λ b. b || list_any (eq x) zs) here ∙ ap (λ b. eq y z || b) there

pub same_some : {X : Type 0} {x y : X} (o : Option X) → o ≡ Some x → o ≡ Some y → x ≡ y
same_some None e h = absurd cc
same_some (Some z) e h = cc

-- an item of a list
pub get_more : {X : Type 0} (xs : List X) (k : X) (i : ℕ) (x : X) → slice_get xs i ≡ Some x → slice_get (xs ++ k ∷ []) i ≡ Some x
get_more {X} [] k i x e = absurd (let n = slice_get_past {X = X} [] i (omega arith) in cc)
get_more (y ∷ xs) k zero x e = e
get_more (y ∷ xs) k (suc i) x e = get_more xs k i x e

pub get_either : {X : Type 0} (xs : List X) (k : X) (i : ℕ) (x : X) → slice_get (xs ++ k ∷ []) i ≡ Some x → (slice_get xs i ≡ Some x) ⊎ ((i ≡ length xs) × (x ≡ k))
get_either [] k zero x e = inr (refl, sym cc)
get_either [] k (suc i) x e = absurd (let n = slice_get_past (k ∷ []) (suc i) (omega arith) in cc)
get_either (y ∷ xs) k zero x e = inl e
get_either (y ∷ xs) k (suc i) x e = elim (get_either xs k i x e) [ inl h ↦ inl h | inr h ↦ inr (ap suc h.0, h.1) ]

pub fails_at : {X : Type 0} (p : X → Bool) (xs : List X) (i : ℕ) (x : X) → list_any p xs ≡ false → slice_get xs i ≡ Some x → p x ≡ false
fails_at {X} p [] i x failing is = absurd (let n = slice_get_past {X = X} [] i (omega arith) in cc)
fails_at p (y ∷ ys) zero x failing is = let e : y ≡ x = cc in ap p (sym e) ∙ (or_parts (p y) (list_any p ys) failing).0
fails_at p (y ∷ ys) (suc i) x failing is = fails_at p ys i x (or_parts (p y) (list_any p ys) failing).1 is

-- what holds whatever the answer is
pub on_err : {X E P : Type 0} (r : Result X E) → P → OnErr r P
on_err (Ok x) p = tt
on_err (Err e) p = p

-- ---- what a table keeps

module _ {T : Type 0} (eq : T → T → Bool) (q : IsEquivalence eq) where
  -- a name joins those that are bound
  tells_other : (x k : T) (names : List T) (n : ℕ) → eq x k ≡ false → Tells (eq x) names n → Tells (eq x) (names ++ k ∷ []) n
  tells_other x k names n failing tells from = tells from ∙ sym (any_failing (eq x) k failing names from)

  tells_before : (x k : T) (names : List T) (n : ℕ) → eq x k ≡ false → Tells (eq x) (names ++ k ∷ []) n → Tells (eq x) names n
  tells_before x k names n failing tells from = tells from ∙ any_failing (eq x) k failing names from

  tells_this : (k : T) (names : List T) → Tells (eq k) (names ++ k ∷ []) (length names + 1)
  tells_this k names from = any_passing (eq k) k (q.refl k) names from

  tells_nothing : (p : T → Bool) (names : List T) → list_any p names ≡ false → Tells p names 0
  tells_nothing p names failing from = le-ltb from 0 (omega arith) ∙ sym (fails names from failing)
    where
      fails : (names : List T) (from : ℕ) → list_any p names ≡ false → list_any p (drop from names) ≡ false
      fails [] zero h = h
      fails [] (suc from) h = refl
      fails (x ∷ xs) zero h = h
      fails (x ∷ xs) (suc from) h = fails xs from (or_parts (p x) (list_any p xs) h).1

  -- the names of a trail, one by one
  module _ (keys : List T) where
    pub one_more : (count : ℕ) (names : List T) (bs : List Binding) (b : Binding) (k : T) → slice_get keys b.number ≡ Some k → bound_names keys (bs ++ b ∷ []) ≡ bound_names keys bs ++ k ∷ []
    one_more count names [] b k found = ap (λ o. key_and o []) found
    one_more count names (c ∷ bs) b k found = ap (key_and (slice_get keys c.number)) (one_more count names bs b k found) ∙ behind (slice_get keys c.number) (bound_names keys bs)
      where
        behind : (o : Option T) (ns : List T) → key_and o (ns ++ k ∷ []) ≡ key_and o ns ++ k ∷ []
        behind None ns = refl
        behind (Some x) ns = refl

    pub as_many : (count : ℕ) (names : List T) (bs : List Binding) → Trail eq keys count names bs → length (bound_names keys bs) ≡ length bs
    as_many count names [] trail = refl
    as_many count names (b ∷ bs) (kept, trail) = ap (λ o. length (key_and o (bound_names keys bs))) kept.found ∙ ap suc (as_many count (names ++ kept.key ∷ []) bs trail)

    -- a trail with one binding more
    pub longer : (count : ℕ) (names : List T) (bs : List Binding) (b : Binding) → Trail eq keys count names bs → IsKept eq keys count (names ++ bound_names keys bs) b → Trail eq keys count names (bs ++ b ∷ [])
    longer count names [] b trail kept = (let P : List T → Type 0 = λ ns. IsKept eq keys count ns b in subst P (append-nil names) kept, tt)
    longer count names (c ∷ bs) b (first, trail) kept = (first, longer count (names ++ first.key ∷ []) bs b trail (let P : List T → Type 0 = λ ns. IsKept eq keys count ns b in subst P moved kept))
      where
        moved : names ++ bound_names keys (c ∷ bs) ≡ (names ++ first.key ∷ []) ++ bound_names keys bs
        moved = ap (λ o. names ++ key_and o (bound_names keys bs)) first.found ∙ sym (append_assoc names (first.key ∷ []) (bound_names keys bs))

    -- and with its last one taken off
    pub shorter : (count : ℕ) (names : List T) (bs : List Binding) (b : Binding) → Trail eq keys count names (bs ++ b ∷ []) → Trail eq keys count names bs × IsKept eq keys count (names ++ bound_names keys bs) b
    shorter count names [] b (kept, trail) = (tt, let P : List T → Type 0 = λ ns. IsKept eq keys count ns b in subst P (sym (append-nil names)) kept)
    shorter count names (c ∷ bs) b (first, trail) =
        let r = shorter count (names ++ first.key ∷ []) bs b trail in
        let P : List T → Type 0 = λ ns. IsKept eq keys count ns b in
        ((first, r.0), subst P (sym (ap (λ o. names ++ key_and o (bound_names keys bs)) first.found ∙ sym (append_assoc names (first.key ∷ []) (bound_names keys bs)))) r.1)

    -- with more keys, and room for more
    pub with_key : (k : T) (count : ℕ) (names : List T) (bs : List Binding) → Trail eq keys count names bs → Trail eq (keys ++ k ∷ []) count names bs
    with_key k count names [] trail = tt
    with_key k count names (b ∷ bs) (kept, trail) = (record { key = kept.key; found = get_more keys k b.number kept.key kept.found; within = kept.within; before = kept.before }, with_key k count (names ++ kept.key ∷ []) bs trail)

    pub same_names : (k : T) (count : ℕ) (names : List T) (bs : List Binding) → Trail eq keys count names bs → bound_names (keys ++ k ∷ []) bs ≡ bound_names keys bs
    same_names k count names [] trail = refl
    same_names k count names (b ∷ bs) (kept, trail) =
        ap (λ o. key_and o (bound_names (keys ++ k ∷ []) bs)) (get_more keys k b.number kept.key kept.found ∙ sym kept.found)
        ∙ ap (key_and (slice_get keys b.number)) (same_names k count (names ++ kept.key ∷ []) bs trail)

    pub with_room : (count more : ℕ) → count ≤ more → (names : List T) (bs : List Binding) → Trail eq keys count names bs → Trail eq keys more names bs
    with_room count more up names [] trail = tt
    with_room count more up names (b ∷ bs) (kept, trail) = (record { key = kept.key; found = kept.found; within = let w = kept.within in omega arith; before = kept.before }, with_room count more up (names ++ kept.key ∷ []) bs trail)

    -- what no key is isn't bound
    pub not_bound : (p : T → Bool) → list_any p keys ≡ false → (bs : List Binding) → list_any p (bound_names keys bs) ≡ false
    not_bound p failing [] = refl
    not_bound p failing (b ∷ bs) = by (slice_get keys b.number) (bound_names keys bs) (λ k is. fails_at p keys b.number k failing is) (not_bound p failing bs)
      where
        by : (o : Option T) (ns : List T) → ((k : T) → o ≡ Some k → p k ≡ false) → list_any p ns ≡ false → list_any p (key_and o ns) ≡ false
        by None ns each rest = rest
        by (Some k) ns each rest = ap (λ c. c || list_any p ns) (each k refl) ∙ rest

-- ---- what each step of the code says

module _ {T : Type 0} (eq : T → T → Bool) (q : IsEquivalence eq) where
  -- a look-up
  pub found_tells : (keys : List T) (last : List ℕ) (bound : List Binding) (names : List T) (name : T) (number from : ℕ) → bound_names keys bound ≡ names → IsTable eq keys last bound → position (eq name) keys ≡ Some number
      → ltb from (slice_index_or last number 0) ≡ list_any (eq name) (drop from names)
  found_tells keys last bound names name number from view table at =
      let found = position-Some (eq name) keys number name at in
      let key : T = get_or keys number name in
      let tells = table.now number key (slice_get-get_or keys number name found.0) from in
      tells ∙ sym (any_alike eq q name key found.1 (drop from (bound_names keys bound))) ∙ ap (λ ns. list_any (eq name) (drop from ns)) view

  pub unknown_tells : (keys : List T) (bound : List Binding) (names : List T) (name : T) (from : ℕ) → bound_names keys bound ≡ names → list_any (eq name) keys ≡ false → false ≡ list_any (eq name) (drop from names)
  unknown_tells keys bound names name from view none =
      sym (le-ltb from 0 (omega arith)) ∙ tells_nothing eq q (eq name) (bound_names keys bound) (not_bound eq q keys (eq name) none bound) from ∙ ap (λ ns. list_any (eq name) (drop from ns)) view

  -- no name is bound in an empty table
  pub empty_table : IsTable eq [] [] []
  empty_table = record {
    short = omega arith;
    unique = λ i j k l a b e. absurd (let n = slice_get_past {X = T} [] i (omega arith) in cc);
    now = λ i k a. absurd (let n = slice_get_past {X = T} [] i (omega arith) in cc);
    trail = tt;
  }

  pub table_length : (keys : List T) (last : List ℕ) (bound : List Binding) → IsTable eq keys last bound → length (bound_names keys bound) ≡ length bound
  table_length keys last bound table = as_many eq q keys (length last) [] bound table.trail

  -- room for a number more
  pub roomier : (keys : List T) (last more : List ℕ) (bound : List Binding) → IsTable eq keys last bound → length last ≤ length more → length more ≤ length keys
      → ((i : ℕ) → slice_index_or more i 0 ≡ slice_index_or last i 0) → IsTable eq keys more bound
  roomier keys last more bound table up short same = record {
    short = short;
    unique = table.unique;
    now = λ i k a from. ap (ltb from) (same i) ∙ table.now i k a from;
    trail = with_room eq q keys (length last) (length more) up [] bound table.trail;
  }

  -- a key more
  pub with_new_key : (keys : List T) (last : List ℕ) (bound : List Binding) (k : T) → IsTable eq keys last bound → list_any (eq k) keys ≡ false → IsTable eq (keys ++ k ∷ []) last bound
  with_new_key keys last bound k table none = record {
    short = let s = table.short in omega (arith, length-append keys (k ∷ []));
    unique = λ i j x y a b e. one_place i j x y e (get_either keys k i x a) (get_either keys k j y b);
    now = λ i x a. tells i x (get_either keys k i x a);
    trail = with_key eq q keys k (length last) [] bound table.trail;
  }
    where
      one_place : (i j : ℕ) (x y : T) → eq x y ≡ true → (slice_get keys i ≡ Some x) ⊎ ((i ≡ length keys) × (x ≡ k)) → (slice_get keys j ≡ Some y) ⊎ ((j ≡ length keys) × (y ≡ k)) → i ≡ j
      one_place i j x y e (inl a) (inl b) = table.unique i j x y a b e
      one_place i j x y e (inr (a, x_is)) (inr (b, y_is)) = a ∙ sym b
      one_place i j x y e (inl a) (inr (b, y_is)) = absurd (let f = fails_at (eq k) keys i x none a in let g = q.symm k x in let h : eq x k ≡ true = ap (eq x) (sym y_is) ∙ e in cc)
      one_place i j x y e (inr (a, x_is)) (inl b) = absurd (let f = fails_at (eq k) keys j y none b in let h : eq k y ≡ true = ap (λ z. eq z y) (sym x_is) ∙ e in cc)

      names_is : bound_names (keys ++ k ∷ []) bound ≡ bound_names keys bound
      names_is = same_names eq q keys k (length last) [] bound table.trail

      tells : (i : ℕ) (x : T) → (slice_get keys i ≡ Some x) ⊎ ((i ≡ length keys) × (x ≡ k)) → Tells (eq x) (bound_names (keys ++ k ∷ []) bound) (slice_index_or last i 0)
      tells i x (inl a) from = table.now i x a from ∙ ap (λ ns. list_any (eq x) (drop from ns)) (sym names_is)
      tells i x (inr (at, is)) from =
          ap (ltb from) (get_or_past last i 0 (let s = table.short in omega (arith, at)))
          ∙ tells_nothing eq q (eq k) (bound_names keys bound) (not_bound eq q keys (eq k) none bound) from
          ∙ ap (λ z. list_any (eq z) (drop from (bound_names keys bound))) (sym is)
          ∙ ap (λ ns. list_any (eq x) (drop from ns)) (sym names_is)

  -- one binding more
  pub with_binding : (keys : List T) (last : List ℕ) (bound : List Binding) (number : ℕ) (k : T) → IsTable eq keys last bound → number < length last → slice_get keys number ≡ Some k
      → IsTable eq keys (slice_set last number (length (bound ++ record { number = number; before = slice_index_or last number 0 } ∷ []))) (bound ++ record { number = number; before = slice_index_or last number 0 } ∷ [])
  with_binding keys last bound number k table within found = record {
    short = let s = table.short in omega (arith, length-set last number count);
    unique = table.unique;
    now = λ i x a. tells i x a (eqb i number) refl;
    trail = let P : ℕ → Type 0 = λ n. Trail eq keys n [] (bound ++ b ∷ []) in subst P (sym (length-set last number count))
        (longer eq q keys (length last) [] bound b table.trail (record { key = k; found = found; within = within; before = table.now number k found }));
  }
    where
      b : Binding
      b = record { number = number; before = slice_index_or last number 0 }

      count : ℕ
      count = length (bound ++ b ∷ [])

      names_is : bound_names keys (bound ++ b ∷ []) ≡ bound_names keys bound ++ k ∷ []
      names_is = one_more eq q keys (length last) [] bound b k found

      count_is : count ≡ length (bound_names keys bound) + 1
      count_is = length-append bound (b ∷ []) ∙ ap (λ n. n + 1) (sym (as_many eq q keys (length last) [] bound table.trail))

      tells : (i : ℕ) (x : T) → slice_get keys i ≡ Some x → (here : Bool) → eqb i number ≡ here → Tells (eq x) (bound_names keys (bound ++ b ∷ [])) (slice_index_or (slice_set last number count) i 0)
      tells i x a true is from =
          let at : i ≡ number = eqb-true i number is in
          let this : x ≡ k = same_some (slice_get keys i) a (ap (slice_get keys) at ∙ found) in
          ap (λ n. ltb from (slice_index_or (slice_set last number count) n 0)) at
          ∙ ap (ltb from) (get_or-set_same last number count 0 within ∙ count_is)
          ∙ tells_this eq q k (bound_names keys bound) from
          ∙ ap (λ z. list_any (eq z) (drop from (bound_names keys bound ++ k ∷ []))) (sym this)
          ∙ ap (λ ns. list_any (eq x) (drop from ns)) (sym names_is)
      tells i x a false is from =
          let apart : (i ≡ number) → ⊥ = λ e. let t = eq-eqb i number e in absurd cc in
          ap (ltb from) (get_or-set_other last number i count 0 apart)
          ∙ tells_other eq q x k (bound_names keys bound) (slice_index_or last i 0) (differs x k (λ e. apart (table.unique i number x k a found e))) (table.now i x a) from
          ∙ ap (λ ns. list_any (eq x) (drop from ns)) (sym names_is)
        where
          differs : (x y : T) → (eq x y ≡ true → ⊥) → eq x y ≡ false
          differs x y not_same = by (eq x y) not_same
            where
              by : (c : Bool) → (c ≡ true → ⊥) → c ≡ false
              by true h = absurd (h refl)
              by false h = refl

  -- and one less
  pub without_binding : (keys : List T) (last : List ℕ) (bound : List Binding) (b : Binding) → IsTable eq keys last (bound ++ b ∷ []) → IsTable eq keys (slice_set last b.number b.before) bound
  without_binding keys last bound b table = record {
    short = let s = table.short in omega (arith, length-set last b.number b.before);
    unique = table.unique;
    now = λ i x a. tells i x a (eqb i b.number) refl;
    trail = let P : ℕ → Type 0 = λ n. Trail eq keys n [] bound in subst P (sym (length-set last b.number b.before)) parts.0;
  }
    where
      parts : Trail eq keys (length last) [] bound × IsKept eq keys (length last) (bound_names keys bound) b
      parts = shorter eq q keys (length last) [] bound b table.trail

      kept : IsKept eq keys (length last) (bound_names keys bound) b
      kept = parts.1

      names_is : bound_names keys (bound ++ b ∷ []) ≡ bound_names keys bound ++ kept.key ∷ []
      names_is = one_more eq q keys (length last) [] bound b kept.key kept.found

      tells : (i : ℕ) (x : T) → slice_get keys i ≡ Some x → (here : Bool) → eqb i b.number ≡ here → Tells (eq x) (bound_names keys bound) (slice_index_or (slice_set last b.number b.before) i 0)
      tells i x a true is from =
          let at : i ≡ b.number = eqb-true i b.number is in
          let this : x ≡ kept.key = same_some (slice_get keys i) a (ap (slice_get keys) at ∙ kept.found) in
          ap (λ n. ltb from (slice_index_or (slice_set last b.number b.before) n 0)) at
          ∙ ap (ltb from) (get_or-set_same last b.number b.before 0 kept.within)
          ∙ kept.before from
          ∙ ap (λ z. list_any (eq z) (drop from (bound_names keys bound))) (sym this)
      tells i x a false is from =
          let apart : (i ≡ b.number) → ⊥ = λ e. let t = eq-eqb i b.number e in absurd cc in
          ap (ltb from) (get_or-set_other last b.number i b.before 0 apart)
          ∙ tells_before eq q x kept.key (bound_names keys bound) (slice_index_or last i 0) (differs x kept.key (λ e. apart (table.unique i b.number x kept.key a kept.found e)))
          (λ n. table.now i x a n ∙ ap (λ ns. list_any (eq x) (drop n ns)) names_is) from
        where
          differs : (x y : T) → (eq x y ≡ true → ⊥) → eq x y ≡ false
          differs x y not_same = by (eq x y) not_same
            where
              by : (c : Bool) → (c ≡ true → ⊥) → c ≡ false
              by true h = absurd (h refl)
              by false h = refl

  pub last_within : (keys : List T) (last : List ℕ) (bound : List Binding) (b : Binding) → IsTable eq keys last (bound ++ b ∷ []) → b.number < length last
  last_within keys last bound b table = let parts = shorter eq q keys (length last) [] bound b table.trail in let kept = parts.1 in kept.within

  pub names_without : (keys : List T) (last : List ℕ) (bound : List Binding) (b : Binding) (names : List T) → IsTable eq keys last (bound ++ b ∷ []) → bound_names keys (bound ++ b ∷ []) ≡ names
      → bound_names keys bound ≡ take (length names - 1) names
  names_without keys last bound b names table view =
      let parts = shorter eq q keys (length last) [] bound b table.trail in
      let kept = parts.1 in
      let more : bound_names keys bound ++ kept.key ∷ [] ≡ names = sym (one_more eq q keys (length last) [] bound b kept.key kept.found) ∙ view in
      let P : List T → Type 0 = λ ns. bound_names keys bound ≡ take (length ns - 1) ns in
      subst P more (sym (take-append_seam (bound_names keys bound) (kept.key ∷ [])) ∙ ap (λ n. take n (bound_names keys bound ++ kept.key ∷ [])) (let e = length-append (bound_names keys bound) (kept.key ∷ []) in omega (arith, e)))

  -- a name that is numbered, and maybe a key more
  pub still_table : (keys more : List T) (last : List ℕ) (bound : List Binding) → IsTable eq keys last bound → MaybeNewKey eq keys more → IsTable eq more last bound
  still_table keys more last bound table (inl is) = let P : List T → Type 0 = λ ks. IsTable eq ks last bound in subst P (sym is) table
  still_table keys more last bound table (inr (k, none, is)) = let P : List T → Type 0 = λ ks. IsTable eq ks last bound in subst P (sym is) (with_new_key keys last bound k table none)

  pub still_names : (keys more : List T) (last : List ℕ) (bound : List Binding) → IsTable eq keys last bound → MaybeNewKey eq keys more → bound_names more bound ≡ bound_names keys bound
  still_names keys more last bound table (inl is) = ap (λ ks. bound_names ks bound) is
  still_names keys more last bound table (inr (k, none, is)) = ap (λ ks. bound_names ks bound) is ∙ same_names eq q keys k (length last) [] bound table.trail

  pub names_with : (keys more : List T) (last : List ℕ) (bound : List Binding) (names : List T) (b : Binding) (k : T) → IsTable eq keys last bound → MaybeNewKey eq keys more → bound_names keys bound ≡ names
      → slice_get more b.number ≡ Some k → bound_names more (bound ++ b ∷ []) ≡ names ++ k ∷ []
  names_with keys more last bound names b k table maybe view found = one_more eq q more (length last) [] bound b k found ∙ ap (λ ns. ns ++ k ∷ []) (still_names keys more last bound table maybe ∙ view)

  -- the number of a name that is a key, where names that are equal are the same
  pub numbered_known : ((x y : T) → eq x y ≡ true → x ≡ y) → (keys : List T) (name : T) (number : ℕ) → position (eq name) keys ≡ Some number → slice_get keys number ≡ Some name
  numbered_known is_same keys name number at =
      let found = position-Some (eq name) keys number name at in
      slice_get-get_or keys number name found.0 ∙ sym (ap Some (is_same name (get_or keys number name) found.1))

  pub inserted : (keys more : List T) (name copy : T) (number : ℕ) → copy ≡ name → list_any (eq name) keys ≡ false → number ≡ length keys → more ≡ insert_key eq keys copy → slice_get more number ≡ Some name
  inserted keys more name copy number same none is ins =
      let test : list_any (eq copy) keys ≡ false = ap (λ x. list_any (eq x) keys) same ∙ none in
      let all : more ≡ keys ++ copy ∷ [] = ins ∙ ap (λ b. cond b keys (keys ++ copy ∷ [])) test in
      ap (λ ks. slice_get ks number) all ∙ ap (slice_get (keys ++ copy ∷ [])) is ∙ get_last keys copy ∙ ap Some same

  -- the steps of a binding
  pub roomy : (keys more : List T) (last room : List ℕ) (bound : List Binding) (k : T) (number : ℕ) → IsTable eq keys last bound → MaybeNewKey eq keys more → slice_get more number ≡ Some k
      → ((i : ℕ) → slice_index_or room i 0 ≡ slice_index_or last i 0) → length last ≤ length room → ((n : ℕ) → length last ≤ n → number < n → length room ≤ n) → IsTable eq more room bound
  roomy keys more last room bound k number table maybe found same up short =
      let still = still_table keys more last bound table maybe in
      roomier more last room bound still up (short (length more) still.short (slice_get_within more number k found)) same

  pub bound_more : (keys : List T) (last after : List ℕ) (bound more : List Binding) (number before count : ℕ) (k : T) → IsTable eq keys last bound → number < length last → slice_get last number ≡ Some before
      → slice_get keys number ≡ Some k
      → more ≡ bound ++ record { number = number; before = before } ∷ [] → count ≡ length more → after ≡ slice_set last number count → IsTable eq keys after more
  bound_more keys last after bound more number before count k table within was found is counted set_to =
      let before_is : before ≡ slice_index_or last number 0 = sym (get_or_from_slice_get last number before 0 was) in
      let more_is : more ≡ bound ++ record { number = number; before = slice_index_or last number 0 } ∷ [] = is ∙ ap (λ n. bound ++ record { number = number; before = n } ∷ []) before_is in
      let after_is : after ≡ slice_set last number (length (bound ++ record { number = number; before = slice_index_or last number 0 } ∷ [])) = set_to ∙ ap (slice_set last number) (counted ∙ ap length more_is) in
      let P : List Binding → Type 0 = λ bs. IsTable eq keys after bs in
      let Q : List ℕ → Type 0 = λ l. IsTable eq keys l (bound ++ record { number = number; before = slice_index_or last number 0 } ∷ []) in
      subst P (sym more_is) (subst Q (sym after_is) (with_binding keys last bound number k table within found))
