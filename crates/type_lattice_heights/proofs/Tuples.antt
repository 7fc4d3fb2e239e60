-- Tuples of some sizes, and all tuples: how far one can go down from them, to none.
use Rattle.std.proofs.Common.{◌≡◌, ◌≤◌, ◌<◌, ℕ, zero, suc, ◌+◌, ◌-◌, ◌*◌, Bool, true, false, cond, List, [], ◌∷◌, length, Option, Some, None, refl, ap, subst, inl, inr, arith}
use Rattle.std.proofs.Math.Nat.{mul-le-mul_left, mul-le-mul_right, suc-mul}
use Rattle.std.specs.Ordering.{nat_cmp, eq_by_cmp}
use Rattle.std.specs.Cmp.{nat_cmp_total}
use Rattle.std.specs.FinSet.{nat_cmp-IsAntisymmetric}
use borrow.Author.Tests.{ltb-true, lt-ltb}
use Rattle.type_kinds_sets.specs.Ascending.{is_below_all}
use Rattle.type_lattice_model.specs.declared.limits.TheConstants.{MAX_SIZES}
use Rattle.type_lattice_model.specs.Values.{Value, nil, Values, no_value, and_value, count}
use Rattle.type_lattice_model.specs.Tables.{EachEntry, keys, is_table, find}
use Rattle.type_lattice_model.specs.Shapes.{Body, product, Tuples, sizes, all_tuples}
use Rattle.type_lattice_model.specs.HasType.{HasEach, HasBody, HasTuple}
use Rattle.type_lattice_model.specs.Operations.{Ops}
use Rattle.type_lattice_model.specs.Normal.{IsElement, NormalBody, NormalSize, NormalSizes, NormalTuples}
use Rattle.type_lattice_model.specs.Laws.{BelowBy, Laws}
use Rattle.type_lattice_model.specs.Ranks.{table_rank}
use Rattle.type_lattice_model.proofs.TableLaws as tables
use Rattle.type_lattice_model.proofs.PlainLaws.{Lower}
use Rattle.type_lattice_model.proofs.LeastLaws.{none_held}
use Rattle.type_lattice_model.proofs.CellLaws.{filled-not_none}
use Rattle.type_lattice_model.proofs.BodyLaws.{count_body}
use Rattle.type_lattice_model.proofs.TupleLaws.{normal_at, to_size, not_all}
use Rattle.type_lattice_heights.specs.Heights.{one_less, at_least_one, row_height, body_height, full_height, sizes_height, tuples_height}
use Rattle.type_lattice_heights.proofs.Ways.{Way, no_step, one_step, way_then, way_as, way_lift}
use Rattle.type_lattice_heights.proofs.Levels.{Heights}
use Rattle.type_lattice_heights.proofs.Rows.{IsRow}
use Rattle.type_lattice_heights.proofs.TableHeights.{first_held, found_behind, sum_lower}
use Rattle.type_lattice_heights.proofs.Bodies.{body_way, body_lower, found_body}

-- through the tuples of one size, and then without them
size_steps : (a s t : ℕ) → s ≡ 1 + a + t → a + (1 + t) ≡ s
size_steps a s t e = omega (arith, e)

-- the keys of a table below a bound leave room for its entries
room : {X : Type 0} (top : ℕ) (e : ℕ × X) (m : List (ℕ × X)) → is_table nat_cmp (e ∷ m) ≡ true → EachEntry (λ q b. q < top) (e ∷ m) → e.0 + length (e ∷ m) ≤ top
room top e [] t f = omega (arith, f.0)
room top e (d ∷ m) t f =
    let rest = room top d m (tables.table-rest nat_cmp_total nat_cmp-IsAntisymmetric e (d ∷ m) t) f.1 in
    let less : e.0 < d.0 = grind (arith, t) in
    omega (arith, rest, less)

module _ {E : Type 0} {Has : Value → E → Type 0} {Normal : E → Type 0} {o : Ops E} (l : Laws Has Normal o) {height tags_in : E → ℕ} (r : Heights Has Normal o height tags_in) where
  abbrev Sizes : Type 0
  Sizes = List (ℕ × Body E)

  abbrev sizes_of : Tuples E → Sizes
  sizes_of (sizes m) = m
  sizes_of all_tuples = []

  abbrev of_body : Body E → ℕ
  of_body = body_height height tags_in

  abbrev IsIn : Values → Tuples E → Type 0
  IsIn = HasTuple Has

  abbrev Are : Tuples E → Type 0
  Are = NormalTuples Normal o

  abbrev full : ℕ → ℕ
  full = full_height height tags_in o.any

  abbrev of_sizes : ℕ → ℕ → ℕ
  of_sizes = sizes_height height tags_in o.any

  -- ---- down from tuples of some sizes

  with_body : (n : ℕ) (m : Sizes) (b c : Body E) → Are (sizes ((n, b) ∷ m)) → NormalBody Normal o n (Some c) → Are (sizes ((n, c) ∷ m))
  with_body n m b c k j = (k.0, k.1, ((k.2.0.0, j), k.2.1))

  body_more : (q : Bool) (x y z : Option (Body E)) → BelowBy (HasBody Has) x y → BelowBy (HasBody Has) (cond q x z) (cond q y z)
  body_more true x y z f vs h = f vs h
  body_more false x y z f vs h = h

  size_below : (n : ℕ) (m : Sizes) (b c : Body E) → BelowBy (HasBody Has) (Some b) (Some c) → BelowBy IsIn (sizes ((n, b) ∷ m)) (sizes ((n, c) ∷ m))
  size_below n m b c f vs h = body_more (eq_by_cmp nat_cmp (count vs) n) (Some b) (Some c) (find nat_cmp m (count vs)) f vs h

  size_dropped : (e : ℕ × Body E) (m : Sizes) → is_table nat_cmp (e ∷ m) ≡ true → BelowBy IsIn (sizes m) (sizes (e ∷ m))
  size_dropped e m t vs h = found_behind nat_cmp_total nat_cmp-IsAntisymmetric (HasBody Has vs) (λ x. x) e m t (count vs) h

  size_same : (n : ℕ) (m : Sizes) (b c : Body E) → sizes ((n, b) ∷ m) ≡ sizes ((n, c) ∷ m) → b ≡ c
  size_same n m b c e = ap (λ t. first_held b (sizes_of t)) e

  not_longer : (e : ℕ × Body E) (m : Sizes) → sizes m ≡ sizes (e ∷ m) → ⊥
  not_longer e m q = let f : m ≡ e ∷ m = cc in let g = ap length f in absurd (omega (arith, g))

  without_size : (e : ℕ × Body E) (m : Sizes) → Are (sizes (e ∷ m)) → Are (sizes m)
  without_size e m k = (tables.table-rest nat_cmp_total nat_cmp-IsAntisymmetric e m k.0, lt-ltb (length m) 9 (omega (arith, ltb-true (length (e ∷ m)) 9 k.1)), k.2.1)

  sizes_way : (m : Sizes) → Are (sizes m) → Way IsIn Are (table_rank of_body m) (sizes []) (sizes m)
  sizes_way [] k = no_step IsIn Are (sizes []) (sizes []) refl
  sizes_way (e ∷ m) k =
      let w = body_way l r e.0 e.1 k.2.0.1 in
      let low : ℕ × Body E = (e.0, w.0) in
      let k' = without_size e m k in
      let t = table_rank of_body m in
      let a = way_lift IsIn Are (λ b. sizes ((e.0, b) ∷ m)) w.0 (λ b j q. with_body e.0 m e.1 b k j) (λ b c f. size_below e.0 m b c f) (λ b c q. size_same e.0 m b c q) (of_body e.1) e.1 w.1.1 in
      let step = one_step IsIn Are (sizes m) (sizes (low ∷ m)) k' (size_dropped low m k.0) (not_longer low m) in
      let b = way_then IsIn Are t 1 (sizes []) (sizes m) (sizes (low ∷ m)) (sizes_way m k') step in
      let all = way_then IsIn Are (1 + t) (of_body e.1) (sizes []) (sizes (low ∷ m)) (sizes (e ∷ m)) b a in
      way_as IsIn Are (of_body e.1 + (1 + t)) (table_rank of_body (e ∷ m)) (sizes []) (sizes (e ∷ m)) (size_steps (of_body e.1) (table_rank of_body (e ∷ m)) t refl) all

  -- ---- all the tuples of some sizes

  any_element : IsElement Normal o o.any
  any_element = (l.any_normal, filled-not_none l o.any nil (l.any_in nil))

  any_only : o.only o.any ≡ None
  any_only = none_held (o.only o.any) (λ xs q. let t = l.naming.only_out o.any xs q nil (l.any_in nil) in absurd (let e = t.1.0 in cc))

  abbrev repeated : ℕ → List E
  repeated zero = []
  repeated (suc n) = o.any ∷ repeated n

  repeated_row : (n : ℕ) → IsRow Normal o n (repeated n)
  repeated_row zero = (refl, tt)
  repeated_row (suc n) = let rest = repeated_row n in (ap suc rest.0, (any_element, rest.1))

  full_normal : (n : ℕ) → NormalBody Normal o n (Some (product (repeated n)))
  full_normal zero = (repeated_row 0, tt)
  full_normal (suc n) = (repeated_row (suc n), any_only)

  abbrev wide : ℕ → ℕ → Sizes
  wide zero n = []
  wide (suc c) n = (n, product (repeated n)) ∷ wide c (suc n)

  wide_below : (c n q : ℕ) → q < n → is_below_all nat_cmp q (keys (wide c n)) ≡ true
  wide_below zero n q h = refl
  wide_below (suc c) n q h = grind (arith, h, wide_below c (suc n) q (omega (arith, h)))

  wide_table : (c n : ℕ) → is_table nat_cmp (wide c n) ≡ true
  wide_table zero n = refl
  wide_table (suc c) n = grind (arith, wide_table c (suc n), wide_below c (suc n) n (omega arith))

  wide_normal : (c n : ℕ) → c + n ≤ 65 → NormalSizes Normal o (wide c n)
  wide_normal zero n h = tt
  wide_normal (suc c) n h = ((lt-ltb n 65 (omega (arith, h)), full_normal n), wide_normal c (suc n) (omega (arith, h)))

  length_wide : (c n : ℕ) → length (wide c n) ≡ c
  length_wide zero n = refl
  length_wide (suc c) n = ap suc (length_wide c (suc n))

  repeated_height : (n : ℕ) → row_height height tags_in (repeated n) ≡ n * one_less (height o.any)
  repeated_height zero = omega arith
  repeated_height (suc n) = omega (arith, repeated_height n, suc-mul n (one_less (height o.any)))

  full_is : (n : ℕ) → of_body (product (repeated n)) ≡ full n
  full_is zero = refl
  full_is (suc n) = ap (λ i. one_less (height o.any) + at_least_one (tags_in o.any) * i) (repeated_height n)

  wide_height : (c n : ℕ) → table_rank of_body (wide c n) ≡ of_sizes c n
  wide_height zero n = refl
  wide_height (suc c) n = omega (arith, full_is n, wide_height c (suc n))

  all_way : (c n : ℕ) → c + n ≤ 65 → c ≤ 8 → Way IsIn Are (1 + of_sizes c n) (sizes []) all_tuples
  all_way c n h few =
      let k : Are (sizes (wide c n)) = (wide_table c n, lt-ltb (length (wide c n)) 9 (omega (arith, few, length_wide c n)), wide_normal c n h) in
      let t = table_rank of_body (wide c n) in
      let w = way_then IsIn Are t 1 (sizes []) (sizes (wide c n)) all_tuples (sizes_way (wide c n) k) (one_step IsIn Are (sizes (wide c n)) all_tuples k (λ vs x. tt) (λ e. cc)) in
      way_as IsIn Are (1 + t) (1 + of_sizes c n) (sizes []) all_tuples (ap (λ i. 1 + i) (wide_height c n)) w

  pub tuples_way : (t : Tuples E) → NormalTuples Normal o t → Way (HasTuple Has) (NormalTuples Normal o) (tuples_height height tags_in o.any t) (sizes []) t
  tuples_way (sizes m) k = sizes_way m k
  tuples_way all_tuples k = all_way MAX_SIZES 57 (omega arith) (omega arith)

  -- ---- no sizes have more than the greatest

  each_any : (vs : Values) → HasEach Has vs (repeated (count vs))
  each_any no_value = tt
  each_any (and_value v vs) = (l.any_in v, each_any vs)

  full_most : (n : ℕ) (b : Body E) → NormalSize Normal o n b → of_body b ≤ full n
  full_most n b k = elim (body_lower l r n b (product (repeated n)) k.1 (full_normal n) (λ vs h. subst (λ i. HasEach Has vs (repeated i)) (count_body l n vs (Some b) k.1 h) (each_any vs))) [
    | inl e ↦ omega (arith, ap of_body e, full_is n)
    | inr less ↦ omega (arith, less, full_is n)
  ]

  full_more : (m n : ℕ) → m ≤ n → full m ≤ full n
  full_more zero n h = omega arith
  full_more (suc m) zero h = absurd (omega (arith, h))
  full_more (suc m) (suc n) h =
      let x = one_less (height o.any) in
      let more = mul-le-mul_left (at_least_one (tags_in o.any)) (mul-le-mul_right {m = m} {n = n} x (omega (arith, h))) in
      omega (arith, more)

  more_sizes : (i j n : ℕ) → of_sizes j (i + n) ≤ of_sizes (i + j) n
  more_sizes zero j n =
      let here : 0 + n ≡ n = omega arith in
      let all : 0 + j ≡ j = omega arith in
      omega (arith, ap (of_sizes j) here, ap (λ i. of_sizes i n) all)
  more_sizes (suc i) j n =
      let here : suc i + n ≡ i + suc n = omega arith in
      let all : suc i + j ≡ suc (i + j) = omega arith in
      let more : of_sizes j (i + suc n) ≤ of_sizes (i + j) (suc n) = more_sizes i j (suc n) in
      let next : of_sizes (suc (i + j)) n ≡ 1 + full n + of_sizes (i + j) (suc n) = refl in
      omega (arith, more, next, ap (of_sizes j) here, ap (λ k. of_sizes k n) all)

  spread : (m : Sizes) (n : ℕ) → is_table nat_cmp m ≡ true → NormalSizes Normal o m → length m + n ≡ 65 → table_rank of_body m ≤ of_sizes (length m) n
  spread [] n t k e = omega arith
  spread (d ∷ m) n t k e =
      let rest = spread m (suc n) (tables.table-rest nat_cmp_total nat_cmp-IsAntisymmetric d m t) k.1 (omega (arith, e)) in
      let top = room 65 d m t (tables.each_from nat_cmp_total nat_cmp-IsAntisymmetric (λ q b. q < 65) (d ∷ m) t (λ q b x. ltb-true q 65 (tables.each_at nat_cmp_total nat_cmp-IsAntisymmetric (NormalSize Normal o) (d ∷ m) k q b x).0))
      in
      let here = full_most d.0 d.1 k.0 in
      let more = full_more d.0 n (omega (arith, top, e)) in
      omega (arith, rest, here, more)

  sizes_most : (m : Sizes) → Are (sizes m) → table_rank of_body m ≤ of_sizes 8 57
  sizes_most m k =
      let few = ltb-true (length m) 9 k.1 in
      let i = 8 - length m in
      let all : i + length m ≡ 8 = omega (arith, few) in
      let most = spread m (i + 57) k.0 k.2 (omega (arith, all)) in
      let more = more_sizes i (length m) 57 in
      let same : of_sizes (i + length m) 57 ≡ of_sizes 8 57 = ap (λ j. of_sizes j 57) all in
      omega (arith, most, more, same)

  pub tuples_lower : (s t : Tuples E) → NormalTuples Normal o s → NormalTuples Normal o t → BelowBy (HasTuple Has) s t → Lower (tuples_height height tags_in o.any) s t
  tuples_lower all_tuples all_tuples j k f = inl refl
  tuples_lower all_tuples (sizes m) j k f = absurd (not_all l m k (λ vs. f vs tt))
  tuples_lower (sizes m) all_tuples j k f = let most = sizes_most m j in inr (omega (arith, most))
  tuples_lower (sizes m) (sizes w) j k f =
      elim (sum_lower nat_cmp_total nat_cmp-IsAntisymmetric of_body m w j.0 k.0 (λ q. found_body l r q (find nat_cmp m q) (find nat_cmp w q) (normal_at l m j.2 q) (normal_at l w k.2 q) (to_size l m w j.2 f q))) [
        | inl e ↦ inl (ap sizes e)
        | inr less ↦ inr less
      ]
