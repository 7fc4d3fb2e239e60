-- Variables and their slots, as one list of pairs and as two lists.
use Rattle.std.proofs.Common.{◌≡◌, ℕ, zero, suc, ◌+◌, ◌-◌, true, false, List, [], ◌∷◌, ◌++◌, length, map, min, take, drop, Option, Some, None, slice_get, refl, sym, ap, ◌∙◌, arith, length-drop}
use Rattle.std.specs.Prelude.{IsSome, ◌↔◌, if◌then◌else◌}
use Rattle.std.specs.List.{list_any, zip}
use Rattle.std.proofs.lemmas.Cmp.{nat_list_eq_equiv}
use Rattle.std.proofs.lemmas.Bool.{false_from_ne_true, or_parts}
use Rattle.std.proofs.lemmas.List.{take_all}
use Rattle.std.proofs.Math.Seq.{drop-nil}
use Rattle.type_kinds.proofs.Truths.{or_first}
use Rattle.type_kinds.specs.declared.atom.Atom.{Atom}
use Rattle.core_scope.specs.Names.{same_atom}
use Rattle.cons_gen_rows.specs.Scopes.{Binding, or_outer, slot_of}

pub zip_length : {X Y : Type 0} (xs : List X) (ys : List Y) → length xs ≡ length ys → length (zip xs ys) ≡ length ys
zip_length [] [] same = refl
zip_length [] (y ∷ ys) same = absurd (omega arith)
zip_length (x ∷ xs) [] same = absurd (omega arith)
zip_length (x ∷ xs) (y ∷ ys) same = ap suc (zip_length xs ys (omega arith))

pub zip_more : {X Y : Type 0} (xs : List X) (ys : List Y) (x : X) (y : Y) → length xs ≡ length ys → zip (xs ++ x ∷ []) (ys ++ y ∷ []) ≡ zip xs ys ++ (x, y) ∷ []
zip_more [] [] x y same = refl
zip_more [] (w ∷ ys) x y same = absurd (omega arith)
zip_more (v ∷ xs) [] x y same = absurd (omega arith)
zip_more (v ∷ xs) (w ∷ ys) x y same = ap (λ l. (v, w) ∷ l) (zip_more xs ys x y (omega arith))

pub zip_take : {X Y : Type 0} (n : ℕ) (xs : List X) (ys : List Y) → zip (take n xs) (take n ys) ≡ take n (zip xs ys)
zip_take zero xs ys = refl
zip_take (suc n) [] ys = refl
zip_take (suc n) (x ∷ xs) [] = refl
zip_take (suc n) (x ∷ xs) (y ∷ ys) = ap (λ l. (x, y) ∷ l) (zip_take n xs ys)

-- ---- the innermost binding

same_either : (x y : Atom) → same_atom x y ≡ same_atom y x
same_either x y = nat_list_eq_equiv.symm x y

-- no binding of a variable
pub unbound : (xs : List Atom) (ss : List ℕ) (x : Atom) → list_any (same_atom x) xs ≡ false → slot_of (zip xs ss) x ≡ None
unbound [] ss x none = refl
unbound (y ∷ xs) [] x none = refl
unbound (y ∷ xs) (s ∷ ss) x none =
    let parts = or_parts (same_atom x y) (list_any (same_atom x) xs) none in
    ap (λ o. or_outer o (if same_atom y x then Some s else None)) (unbound xs ss x parts.1) ∙ ap (λ b. if b then Some s else None) (same_either y x ∙ parts.0)

-- the innermost binding, by the position where it stands
at_position : (p : ℕ) (xs : List Atom) (ss : List ℕ) (x : Atom) → length xs ≡ length ss → list_any (same_atom x) (drop p xs) ≡ true → list_any (same_atom x) (drop (suc p) xs) ≡ false
    → (s : ℕ) × ((slice_get ss p ≡ Some s) × (slot_of (zip xs ss) x ≡ Some s))
at_position zero [] ss x same there innermost = absurd cc
at_position (suc p) [] ss x same there innermost = absurd cc
at_position p (y ∷ xs) [] x same there innermost = absurd (omega arith)
at_position zero (y ∷ xs) (s ∷ ss) x same there innermost = (
  s,
  (
    refl,
    ap (λ o. or_outer o (if same_atom y x then Some s else None)) (unbound xs ss x innermost)
        ∙ ap (λ b. if b then Some s else None) (same_either y x ∙ or_first (same_atom x y) (list_any (same_atom x) xs) there innermost),
  ),
)
at_position (suc p) (y ∷ xs) (s ∷ ss) x same there innermost =
    let rest = at_position p xs ss x (omega arith) there innermost in
    (rest.0, (rest.1.0, ap (λ o. or_outer o (if same_atom y x then Some s else None)) rest.1.1))

pub found_slot : (p : ℕ) (xs : List Atom) (ss : List ℕ) (vs : List Binding) (x : Atom) (o : Option ℕ) → zip xs ss ≡ vs → length xs ≡ length ss → list_any (same_atom x) (drop p xs) ≡ true
    → list_any (same_atom x) (drop (p + 1) xs) ≡ false → o ≡ slice_get ss p → o ≡ slot_of vs x
found_slot p xs ss vs x o view same there innermost got =
    let at = at_position p xs ss x same there (ap (λ n. list_any (same_atom x) (drop n xs)) (let e : suc p ≡ p + 1 = omega arith in e) ∙ innermost) in
    got ∙ at.1.0 ∙ sym at.1.1 ∙ ap (λ l. slot_of l x) view

pub no_slot : (xs : List Atom) (ss : List ℕ) (vs : List Binding) (x : Atom) (o : Option ℕ) → zip xs ss ≡ vs → o ≡ None → IsSome o ↔ (list_any (same_atom x) xs ≡ true) → None ≡ slot_of vs x
no_slot xs ss vs x o view none iff =
    let unset : list_any (same_atom x) xs ≡ false = false_from_ne_true _ (λ e. let h : IsSome o = iff.1 e in absurd cc) in
    sym (unbound xs ss x unset) ∙ ap (λ l. slot_of l x) view

-- the slots behind a position
pub zip_slots : {X : Type 0} (n : ℕ) (xs : List X) (ss : List ℕ) → length xs ≡ length ss → map (λ (b : X × ℕ). b.1) (drop n (zip xs ss)) ≡ drop n ss
zip_slots n [] [] same = ap (map (λ b. b.1)) (drop-nil n) ∙ sym (drop-nil n)
zip_slots n [] (s ∷ ss) same = absurd (omega arith)
zip_slots n (x ∷ xs) [] same = absurd (omega arith)
zip_slots zero (x ∷ xs) (s ∷ ss) same = ap (λ l. s ∷ l) (zip_slots zero xs ss (omega arith))
zip_slots (suc n) (x ∷ xs) (s ∷ ss) same = zip_slots n xs ss (omega arith)

drop_min : (n : ℕ) (ss : List ℕ) → drop (min n (length ss)) ss ≡ drop n ss
drop_min n [] = drop-nil (min n 0) ∙ sym (drop-nil n)
drop_min zero (s ∷ ss) = ap (λ k. drop k (s ∷ ss)) (let e : min 0 (length (s ∷ ss)) ≡ 0 = omega arith in e)
drop_min (suc n) (s ∷ ss) = ap (λ k. drop k (s ∷ ss)) (let e : min (suc n) (length (s ∷ ss)) ≡ suc (min n (length ss)) = omega arith in e) ∙ drop_min n ss

pub slots_behind : (names : List Atom) (ss : List ℕ) (vs : List Binding) (n least : ℕ) → zip names ss ≡ vs → length names ≡ length ss → least ≡ min n (length ss) → drop least ss ≡ map (λ b. b.1) (drop n vs)
slots_behind names ss vs n least view same is = ap (λ k. drop k ss) is ∙ drop_min n ss ∙ sym (zip_slots n names ss same) ∙ ap (λ l. map (λ b. b.1) (drop n l)) view

pub slots_sliced : (names : List Atom) (ss part got : List ℕ) (vs : List Binding) (n least len : ℕ) → zip names ss ≡ vs → length names ≡ length ss → len ≡ length ss → least ≡ min n len → part ≡ ss
    → got ≡ take (length part - least) (drop least part) → got ≡ map (λ b. b.1) (drop n vs)
slots_sliced names ss part got vs n least len view same long is part_is got_is =
    got_is ∙ take_all (length part - least) (drop least part) (let e : length (drop least part) ≡ length part - least = length-drop least part in omega arith) ∙ ap (drop least) part_is
    ∙ slots_behind names ss vs n least view same (is ∙ ap (min n) long)
