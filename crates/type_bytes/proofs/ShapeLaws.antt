-- Each shape of the layout is found by the function that cuts behind it.
use Rattle.std.proofs.Common.{◌≡◌, ◌⊎◌, inl, inr, ℕ, zero, suc, ◌+◌, ◌*◌, ◌-◌, ◌≤◌, true, false, cond, ◌&&◌, List}
use Rattle.std.proofs.Common.{[], ◌∷◌, ◌++◌, length, take, drop, refl, sym, ap, ◌∙◌, arith, append_assoc, true≢false}
use Rattle.std.specs.Prelude.{nat_lt, nat_le, ◌==◌, Ok, Err}
use Rattle.std.specs.Int.{w32, from_be_bytes, bit_at}
use Rattle.std.proofs.lemmas.List.{append-nil, take-append-drop, length-append, length-take}
use Rattle.std.proofs.Math.Seq.{drop-append_seam, take-append_seam}
use Rattle.std.proofs.lemmas.Bool.{cases_Bool, and_from}
use Rattle.type_kinds.proofs.Truths.{first, second}
use borrow.Author.Tests.{ltb-true, ltb-false, lt-ltb, le-ltb, eqb-true, eqb-false, leb-true, le-leb}
use Rattle.type_bytes.specs.declared.faults.ShapeFault.TheVariants.{Short, Broken}
use Rattle.type_bytes.specs.Shapes.{Nothing, Bytes, Both, Begins, Counted, Where, NameShape, AtomsShape, IntsShape, BitsShape, FunctionsShape}
use Rattle.type_bytes.specs.Shapes.{CellShape, TagShape, TagsShape, SizeShape, TuplesShape, PartsShape, MaskedShape, ElementBehind, TypeShape, IsShort}
use Rattle.type_bytes.specs.steps.Cuts.{Cut, ◌>>=◌, skip, where_set, name_cut, atoms_cut, ints_cut, bits_cut, functions_cut, cell_cut, tag_cut, tags_cut, body_cut, size_cut, tuples_cut, parts_cut, masked_cut, behind_cut, type_cut}
use Rattle.type_bytes.proofs.CutLaws.{Tells, further, ok_not_err, broken_not_short, same_left, zeros, length-zeros, zeros_some, nothing_tells, never_tells}
use Rattle.type_bytes.proofs.CutLaws.{same_tells, skip_tells, both_tells, many_some, many_tells, where_tells, where_some, first_tells, test_tells, counted_tells}

-- ---- atoms

skip_whole : (n : ℕ) (bytes : List ℕ) → skip n bytes ≡ Err Broken → ⊥
unfolding skip
skip_whole n bytes e = elim (nat_lt (length bytes) n) as (λ b. cond b (Err Short) (Ok (drop n bytes)) ≡ Err Broken → ⊥) [
  | true ↦ λ h. broken_not_short (sym h)
  | false ↦ λ h. ok_not_err (drop n bytes) Broken h
] e

-- behind a count
counted_name : (count name rest : List ℕ) → length count ≡ 4 → name_cut (count ++ (name ++ rest)) ≡ skip (from_be_bytes w32 count) (name ++ rest)
unfolding name_cut
counted_name count name rest l =
    let b = count ++ (name ++ rest) in
    let long : nat_lt (length b) 4 ≡ false = le-ltb (length b) 4 (omega (arith, length-append count (name ++ rest))) in
    let front : take 4 b ≡ count = ap (λ k. take k b) (sym l) ∙ take-append_seam count (name ++ rest) in
    let back : drop 4 b ≡ name ++ rest = ap (λ k. drop k b) (sym l) ∙ drop-append_seam count (name ++ rest) in
    ap (λ c. cond c (Err Short) (skip (from_be_bytes w32 (take 4 b)) (drop 4 b))) long ∙ (λ i. skip (from_be_bytes w32 (front i)) (back i))

front_4 : (bytes : List ℕ) → nat_lt (length bytes) 4 ≡ false → length (take 4 bytes) ≡ 4
front_4 bytes h = let long = ltb-false (length bytes) 4 h in omega (arith, length-take 4 bytes)

name_left : (bytes : List ℕ) → nat_lt (length bytes) 4 ≡ false → name_cut bytes ≡ skip (from_be_bytes w32 (take 4 bytes)) (drop 4 bytes)
unfolding name_cut
name_left bytes h = ap (λ c. cond c (Err Short) (skip (from_be_bytes w32 (take 4 bytes)) (drop 4 bytes))) h

few_left : (bytes : List ℕ) → nat_lt (length bytes) 4 ≡ true → name_cut bytes ≡ Err Short
unfolding name_cut
few_left bytes h = ap (λ c. cond c (Err Short) (skip (from_be_bytes w32 (take 4 bytes)) (drop 4 bytes))) h

abbrev no_name : List ℕ
no_name = 0 ∷ 0 ∷ 0 ∷ 0 ∷ []

a_name : NameShape no_name
a_name = (no_name, ([], (refl, (refl, refl))))

name_tells : Tells NameShape name_cut
name_tells = record {
  reads = λ x rest k.
      let count = k.0 in
      let name = k.1.0 in
      ap name_cut (ap (λ b. b ++ rest) k.1.1.0 ∙ append_assoc count name rest) ∙ counted_name count name rest k.1.1.1.0 ∙ (skip_tells (from_be_bytes w32 count)).reads name rest k.1.1.1.1;
  ends = λ bytes rest e. elim (cases_Bool (nat_lt (length bytes) 4)) [
    | inl h ↦ absurd (ok_not_err rest Short (sym e ∙ few_left bytes h))
    | inr h ↦
        let x = (skip_tells (from_be_bytes w32 (take 4 bytes))).ends (drop 4 bytes) rest (sym (name_left bytes h) ∙ e) in
        (take 4 bytes ++ x.0, (sym (take-append-drop 4 bytes) ∙ ap (λ b. take 4 bytes ++ b) x.1.0 ∙ sym (append_assoc (take 4 bytes) x.0 rest), (take 4 bytes, (x.0, (refl, (front_4 bytes h, x.1.1))))))
  ];
  short = λ bytes e. elim (cases_Bool (nat_lt (length bytes) 4)) [
    | inl h ↦
        let few = ltb-true (length bytes) 4 h in
        let lacking = zeros (4 - length bytes) in
        let count = bytes ++ lacking in
        let name = zeros (from_be_bytes w32 count) in
        let l : length count ≡ 4 = omega (arith, length-append bytes lacking, length-zeros (4 - length bytes)) in
        (lacking ++ name, ((λ none. zeros_some (4 - length bytes) (omega arith) (front_none lacking name none)), (count, (name, (sym (append_assoc bytes lacking name), (l, length-zeros (from_be_bytes w32 count)))))))
    | inr h ↦
        let m = (skip_tells (from_be_bytes w32 (take 4 bytes))).short (drop 4 bytes) (sym (name_left bytes h) ∙ e) in
        (m.0, (m.1.0, (take 4 bytes, (drop 4 bytes ++ m.0, (ap (λ b. b ++ m.0) (sym (take-append-drop 4 bytes)) ∙ append_assoc (take 4 bytes) (drop 4 bytes) m.0, (front_4 bytes h, m.1.1))))))
  ];
  broken = λ bytes more e. elim (cases_Bool (nat_lt (length bytes) 4)) [
    | inl h ↦ absurd (broken_not_short (sym e ∙ few_left bytes h))
    | inr h ↦ absurd (skip_whole (from_be_bytes w32 (take 4 bytes)) (drop 4 bytes) (sym (name_left bytes h) ∙ e))
  ];
}
  where
    front_none : (a b : List ℕ) → a ++ b ≡ [] → a ≡ []
    front_none [] b e = refl
    front_none (x ∷ a) b e = cc

both_some : {P Q : List ℕ → Type 0} → ((x : List ℕ) × P x) → ((y : List ℕ) × Q y) → (z : List ℕ) × Both P Q z
both_some k l = (k.0 ++ l.0, (k.0, (l.0, (refl, (k.1, l.1)))))

-- ---- by the first byte

-- one form behind 0, and others
zero_or : {N P : List ℕ → Type 0} {e f : List ℕ → Cut} (b : ℕ) → Tells N e → Tells P f → ((x : List ℕ) → P x → 1 ≤ b) → Tells (λ rest. ((b ≡ 0) × N rest) ⊎ P rest) (λ rest. cond (b == 0) (e rest) (f rest))
zero_or {N = N} {P = P} b t u above = test_tells (b == 0)
    (λ h.
    let at_zero = eqb-true b 0 h in
    same_tells (λ x k. inl (at_zero, k)) (λ x k. elim k as (λ _. N x) [ inl n ↦ n.1 | inr p ↦ absurd (let least = above x p in omega arith) ]) t)
    (λ h. same_tells (λ x k. inr k) (λ x k. elim k as (λ _. P x) [ inl n ↦ absurd (eqb-false b 0 h n.0) | inr p ↦ p ]) u)

-- one form behind one byte
at_byte : {P : List ℕ → Type 0} {f : List ℕ → Cut} (b n : ℕ) → Tells P f → Tells (λ rest. (b ≡ n) × P rest) (λ rest. cond (b == n) (f rest) (Err Broken))
at_byte b n t = test_tells (b == n) (λ h. same_tells (λ x k. (eqb-true b n h, k)) (λ x k. k.1) t) (λ h. never_tells (λ x k. eqb-false b n h k.0))

at_most : {P : List ℕ → Type 0} {f : List ℕ → Cut} (b n : ℕ) → Tells P f → Tells (λ rest. (b ≤ n) × P rest) (λ rest. cond (nat_le b n) (f rest) (Err Broken))
at_most b n t = test_tells (nat_le b n) (λ h. same_tells (λ x k. (leb-true b n h, k)) (λ x k. k.1) t) (λ h. never_tells (λ x k. true≢false (sym (le-leb b n k.0) ∙ h)))

-- ---- the parts

atoms_tells : Tells AtomsShape atoms_cut
unfolding atoms_cut
atoms_tells = first_tells (λ b. zero_or b nothing_tells (counted_tells name_tells no_name a_name 13 b) (λ x k. k.0)) 0 [] (inl (refl, refl))

ints_tells : Tells IntsShape ints_cut
unfolding ints_cut
ints_tells = first_tells
    (λ b. test_tells (nat_le 128 b && nat_lt b 140)
    (λ h.
    let low = leb-true 128 b (first (nat_le 128 b) (nat_lt b 140) h) in
    let high = ltb-true b 140 (second (nat_le 128 b) (nat_lt b 140) h) in
    same_tells (λ x k. inr (low, (high, k))) (λ x k. elim k as (λ _. Nothing x) [ inl c ↦ absurd (let few = c.1.0 in omega arith) | inr r ↦ r.1.1 ]) nothing_tells)
    (λ h. same_tells (λ x k. inl k)
    (λ x k. elim k as (λ _. Counted 13 (Bytes 16) b x) [ inl c ↦ c | inr r ↦ absurd (true≢false (sym (and_from (nat_le 128 b) (nat_lt b 140) (le-leb 128 b r.0) (lt-ltb b 140 r.1.0)) ∙ h)) ])
    (counted_tells (skip_tells 16) (zeros 16) (length-zeros 16) 13 b)))
    128 [] (inr (omega arith, (omega arith, refl)))

bits_tells : Tells BitsShape bits_cut
unfolding bits_cut
bits_tells = first_tells
    (λ b. test_tells (nat_le 1 b && nat_le b 2)
    (λ h. same_tells (λ x k. (leb-true 1 b (first (nat_le 1 b) (nat_le b 2) h), (leb-true b 2 (second (nat_le 1 b) (nat_le b 2) h), k))) (λ x k. k.1.1) nothing_tells)
    (λ h. never_tells (λ x k. true≢false (sym (and_from (nat_le 1 b) (nat_le b 2) (le-leb 1 b k.0) (le-leb b 2 k.1.0)) ∙ h))))
    1 [] (omega arith, (omega arith, refl))

functions_tells : Tells FunctionsShape functions_cut
unfolding functions_cut
functions_tells = first_tells (λ b. zero_or b nothing_tells (at_byte b 1 (skip_tells 4)) (λ x k. let one = k.0 in omega arith)) 0 [] (inl (refl, refl))

module _ {P : List ℕ → Type 0} {f : List ℕ → Cut} (t : Tells P f) (some : List ℕ) (is_some : P some) where
  cell_tells : Tells (CellShape P) (cell_cut f)
  unfolding cell_cut
  cell_tells = first_tells (λ b. at_most b 1 t) 0 some (omega arith, is_some)

  a_tag : (n : ℕ) → (x : List ℕ) × TagShape P n x
  a_tag n = let later = many_some P some is_some n in (no_name ++ later.0, (no_name, (later.0, (refl, (a_name, later.1)))))

  tag_tells : (n : ℕ) → Tells (TagShape P n) (tag_cut f n)
  unfolding tag_cut
  tag_tells n = let later = many_some P some is_some n in both_tells name_tells (many_tells t some is_some n) later.0 later.1

  tags_tells : (n b : ℕ) → Tells (TagsShape P n b) (tags_cut f n b)
  unfolding tags_cut
  tags_tells zero b = never_tells (λ x k. k)
  tags_tells (suc n) b = let tag = a_tag n in counted_tells (tag_tells n) tag.0 tag.1 13 b

  some_tags : (n b : ℕ) (x : List ℕ) → TagsShape P n b x → 1 ≤ b
  some_tags zero b x k = absurd k
  some_tags (suc n) b x k = k.0

  a_size : SizeShape P (0 ∷ 0 ∷ [])
  a_size = (omega arith, inl (refl, refl))

  size_tells : Tells (SizeShape P) (size_cut f)
  unfolding size_cut body_cut
  size_tells = first_tells
      (λ n. at_most n 64 (let row = many_some P some is_some n in first_tells (λ b. zero_or b (many_tells t some is_some n) (tags_tells n b) (some_tags n b)) 0 row.0 (inl (refl, row.1))))
      0 (0 ∷ []) (omega arith, inl (refl, refl))

  tuples_tells : Tells (TuplesShape P) (tuples_cut f)
  unfolding tuples_cut
  tuples_tells = first_tells (λ b. zero_or b nothing_tells (counted_tells size_tells (0 ∷ 0 ∷ []) a_size 8 b) (λ x k. k.0)) 0 [] (inl (refl, refl))

  some_cell : (m : ℕ) → (x : List ℕ) × Where (bit_at m 9 == 1) (CellShape P) x
  some_cell m = where_some (CellShape P) (0 ∷ some) (omega arith, is_some) (bit_at m 9 == 1)

  some_tuples : (m : ℕ) → (x : List ℕ) × Where (bit_at m 10 == 1) (TuplesShape P) x
  some_tuples m = where_some (TuplesShape P) (0 ∷ []) (inl (refl, refl)) (bit_at m 10 == 1)

  lists_tell : (m : ℕ) → Tells (Both (Where (bit_at m 9 == 1) (CellShape P)) (Where (bit_at m 10 == 1) (TuplesShape P))) (λ cell. where_set (bit_at m 9 == 1) (cell_cut f) cell >>= where_set (bit_at m 10 == 1) (tuples_cut f))
  lists_tell m = let tuples = some_tuples m in both_tells (where_tells cell_tells (bit_at m 9 == 1)) (where_tells tuples_tells (bit_at m 10 == 1)) tuples.0 tuples.1

  -- the parts from functions on, from bits on, from integers on, and all
  from_functions : (m : ℕ) → (x : List ℕ) × Both (Where (bit_at m 7 == 1) FunctionsShape) (Both (Where (bit_at m 9 == 1) (CellShape P)) (Where (bit_at m 10 == 1) (TuplesShape P))) x
  from_functions m = both_some (where_some FunctionsShape (0 ∷ []) (inl (refl, refl)) (bit_at m 7 == 1)) (both_some (some_cell m) (some_tuples m))

  from_bits : (m : ℕ) → (x : List ℕ) × Both (Where (bit_at m 3 == 1) BitsShape) (Both (Where (bit_at m 7 == 1) FunctionsShape) (Both (Where (bit_at m 9 == 1) (CellShape P)) (Where (bit_at m 10 == 1) (TuplesShape P)))) x
  from_bits m = both_some (where_some BitsShape (1 ∷ []) (omega arith, (omega arith, refl)) (bit_at m 3 == 1)) (from_functions m)

  from_ints : (m : ℕ) → (x : List ℕ) × Both (Where (bit_at m 1 == 1) IntsShape) (Both (Where (bit_at m 3 == 1) BitsShape)
      (Both (Where (bit_at m 7 == 1) FunctionsShape) (Both (Where (bit_at m 9 == 1) (CellShape P)) (Where (bit_at m 10 == 1) (TuplesShape P))))) x
  from_ints m = both_some (where_some IntsShape (128 ∷ []) (inr (omega arith, (omega arith, refl))) (bit_at m 1 == 1)) (from_bits m)

  some_parts : (m : ℕ) → (x : List ℕ) × PartsShape P m x
  some_parts m = both_some (where_some AtomsShape (0 ∷ []) (inl (refl, refl)) (bit_at m 0 == 1)) (from_ints m)

  parts_tells : (m : ℕ) → Tells (PartsShape P m) (parts_cut f m)
  unfolding parts_cut
  parts_tells m =
      let lists = some_cell m in
      let functions = from_functions m in
      let bits = from_bits m in
      let ints = from_ints m in
      let cell = both_some (some_cell m) (some_tuples m) in
      both_tells (where_tells atoms_tells (bit_at m 0 == 1))
      (both_tells (where_tells ints_tells (bit_at m 1 == 1))
      (both_tells (where_tells bits_tells (bit_at m 3 == 1)) (both_tells (where_tells functions_tells (bit_at m 7 == 1)) (lists_tell m) cell.0 cell.1) functions.0 functions.1)
      bits.0 bits.1)
      ints.0 ints.1

  masked_tells : Tells (MaskedShape P) (masked_cut f)
  unfolding masked_cut
  masked_tells = first_tells
      (λ high. test_tells (nat_lt high 16)
      (λ h. same_tells (λ x k. (ltb-true high 16 h, k)) (λ x k. k.1) (first_tells (λ low. parts_tells (256 * high + low)) 0 (some_parts (256 * high + 0)).0 (some_parts (256 * high + 0)).1))
      (λ h. never_tells (λ x k. true≢false (sym (lt-ltb high 16 k.0) ∙ h))))
      0 (0 ∷ (some_parts (256 * 0 + 0)).0) (omega arith, (some_parts (256 * 0 + 0)).1)

-- ---- types

behind_tells : (d b : ℕ) → Tells (ElementBehind d b) (behind_cut d b)
unfolding behind_cut
behind_tells zero b = at_byte b 1 nothing_tells
behind_tells (suc d) b = test_tells (b == 1)
    (λ h.
    let one = eqb-true b 1 h in
    same_tells (λ x k. inl (one, k)) (λ x k. elim k as (λ _. Nothing x) [ inl n ↦ n.1 | inr p ↦ absurd (let two = p.0 in omega arith) ]) nothing_tells)
    (λ h. same_tells (λ x k. inr k)
    (λ x k. elim k as (λ _. (b ≡ 2) × MaskedShape (Begins (ElementBehind d)) x) [ inl n ↦ absurd (eqb-false b 1 h n.0) | inr p ↦ p ])
    (at_byte b 2 (masked_tells (first_tells (behind_tells d) 1 [] (any_element d)) (1 ∷ []) (any_element d))))
  where
    any_element : (d : ℕ) → ElementBehind d 1 []
    any_element zero = (refl, refl)
    any_element (suc d) = inl (refl, refl)

pub type_tells : Tells TypeShape type_cut
unfolding TypeShape type_cut
type_tells = first_tells (λ b. zero_or b nothing_tells (behind_tells 4 b) (above b)) 0 [] (inl (refl, refl))
  where
    above : (b : ℕ) (x : List ℕ) → ElementBehind 4 b x → 1 ≤ b
    above b x k = elim k as (λ _. 1 ≤ b) [ inl n ↦ (let one = n.0 in omega arith) | inr p ↦ (let two = p.0 in omega arith) ]

-- ---- what is found

-- where a shape ends, or none can begin, the bytes are no prefix of a shape
pub not_short : (bytes rest : List ℕ) → type_cut bytes ≡ Ok rest → IsShort bytes → ⊥
not_short bytes rest e k =
    let found : type_cut (bytes ++ k.0) ≡ Ok [] = ap type_cut (sym (append-nil (bytes ++ k.0))) ∙ type_tells.reads (bytes ++ k.0) [] k.1.1 in
    let left = same_left (rest ++ k.0) [] (sym (further type_tells bytes rest k.0 e) ∙ found) in
    k.1.0 (back_none rest k.0 left)
  where
    back_none : (a b : List ℕ) → a ++ b ≡ [] → b ≡ []
    back_none [] b e = e
    back_none (x ∷ a) b e = cc

pub broken_not_short_front : (bytes : List ℕ) → type_cut bytes ≡ Err Broken → IsShort bytes → ⊥
broken_not_short_front bytes e k =
    let found : type_cut (bytes ++ k.0) ≡ Ok [] = ap type_cut (sym (append-nil (bytes ++ k.0))) ∙ type_tells.reads (bytes ++ k.0) [] k.1.1 in
    ok_not_err [] Broken (sym found ∙ type_tells.broken bytes k.0 e)

pub is_short_front : (bytes : List ℕ) → type_cut bytes ≡ Err Short → IsShort bytes
is_short_front bytes e = type_tells.short bytes e

-- no shape is a proper prefix of another
pub shapes_apart : (x rest : List ℕ) → TypeShape x → TypeShape (x ++ rest) → rest ≡ []
shapes_apart x rest k l = same_left rest [] (sym (type_tells.reads x rest k) ∙ ap type_cut (sym (append-nil (x ++ rest))) ∙ type_tells.reads (x ++ rest) [] l)
