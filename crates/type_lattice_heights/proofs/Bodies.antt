-- The tuples of one size: how far one can go down from them while there is one left.
use Rattle.std.proofs.Common.{◌≡◌, ◌⊎◌, ◌≤◌, ◌<◌, ℕ, zero, suc, ◌+◌, ◌*◌, Bool, true, false, cond, List, [], ◌∷◌, length, Option, Some, None, refl, sym, ap, subst, inl, inr, arith, true≢false}
use Rattle.std.proofs.Math.Nat.{mul-le-mul_left, mul-le-mul_right, mul-lt-mul_of_pos_left}
use Rattle.std.specs.Ordering.{eq_by_cmp}
use borrow.Author.Tests.{lt-ltb}
use Rattle.type_kinds_sets.specs.Ascending.{has_item}
use Rattle.type_kinds_sets.specs.Names.{Name, name_cmp, are_listed}
use Rattle.type_kinds_sets.proofs.NameLaws.{name_total, name_same, listed-ascending, listed-few}
use Rattle.type_lattice_model.specs.Values.{Value, atom, Values}
use Rattle.type_lattice_model.specs.Tables.{keys, all_hold, is_table, find}
use Rattle.type_lattice_model.specs.Shapes.{Body, product, tags}
use Rattle.type_lattice_model.specs.HasType.{HasEach, HasRow, HasBody}
use Rattle.type_lattice_model.specs.Operations.{Ops, row_at}
use Rattle.type_lattice_model.specs.Normal.{IsElement, NormalRow, NormalRows, NormalBody}
use Rattle.type_lattice_model.specs.Laws.{BelowBy, Laws}
use Rattle.type_lattice_model.specs.Ranks.{table_rank}
use Rattle.type_lattice_model.proofs.TableLaws as tables
use Rattle.type_lattice_model.proofs.PlainLaws.{Lower}
use Rattle.type_lattice_model.proofs.RowLaws.{values_of, each-below}
use Rattle.type_lattice_model.proofs.BodyLaws.{tags-listed, only_above, not_tags, rows_at, row_at_normal, each_tag, tag_of, body_value}
use Rattle.type_lattice_heights.specs.Heights.{one_less, at_least_one, row_height, body_height}
use Rattle.type_lattice_heights.proofs.Ways.{Way, no_step, one_step, way_then, way_as, way_lift}
use Rattle.type_lattice_heights.proofs.Levels.{GoesDown, Heights, some_height}
use Rattle.type_lattice_heights.proofs.Rows.{IsRow, less_is, rest_below, first_below, element_above, row_way, row_lower}
use Rattle.type_lattice_heights.proofs.TableHeights.{FoundLower, first_held, found_behind, sum_lower, sum_most, sum_same}

-- ---- numbers of steps

-- through what a tag has, and then without it
tag_steps : (a s t : ℕ) → s ≡ 1 + a + t → 0 < t → a + (1 + one_less t) ≡ one_less s
tag_steps a s t e h = omega (arith, e, less_is s (omega (arith, e)), less_is t h)

one_tag : (a s : ℕ) → s ≡ 1 + a + 0 → a ≡ one_less s
one_tag a s e = omega (arith, e, less_is s (omega (arith, e)))

-- from a product to its tags, and down from these
to_tags : (t j p : ℕ) → t ≡ suc j + p → 1 + one_less t ≡ suc j + p
to_tags t j p e = omega (arith, e, less_is t (omega (arith, e)))

first_steps : (s t p h : ℕ) → h ≡ suc (s + t) → s + (t + p) ≡ one_less h + p
first_steps s t p h e = omega (arith, e, less_is h (omega (arith, e)))

product_steps : (s t n a h : ℕ) → h ≡ suc (s + t) → n ≡ t → s + (n + at_least_one n * a) ≡ one_less h + at_least_one t * a
product_steps s t n a h e q = subst (λ i. s + (i + at_least_one i * a) ≡ one_less h + at_least_one t * a) (sym q) (first_steps s t (at_least_one t * a) h e)

no_less_than_one : (m n : ℕ) → m ≤ n → at_least_one m ≤ at_least_one n
no_less_than_one m n h = grind arith

one_at_least : (n : ℕ) → 0 < at_least_one n
one_at_least n = grind arith

more_than_one : (n : ℕ) → 0 < n → at_least_one n ≡ n
more_than_one n h = grind arith

module _ {E : Type 0} {Has : Value → E → Type 0} {Normal : E → Type 0} {o : Ops E} (l : Laws Has Normal o) {height tags_in : E → ℕ} (r : Heights Has Normal o height tags_in) where
  abbrev Rows : Type 0
  Rows = List (Name × List E)

  abbrev rows_of : Body E → Rows
  rows_of (product es) = []
  rows_of (tags m) = m

  abbrev of_row : List E → ℕ
  of_row = row_height height tags_in

  abbrev of_body : Body E → ℕ
  of_body = body_height height tags_in

  -- a body of tuples of n elements, and its tuples
  abbrev pub IsBody : ℕ → Body E → Type 0
  IsBody n b = NormalBody Normal o n (Some b)

  abbrev pub IsIn : Values → Body E → Type 0
  IsIn vs b = HasBody Has vs (Some b)

  -- ---- down from tags

  cond_more : (b : Bool) (x y z : Option (List E)) → BelowBy (HasRow Has) x y → BelowBy (HasRow Has) (cond b x z) (cond b y z)
  cond_more true x y z f vs h = f vs h
  cond_more false x y z f vs h = h

  tag_below : (a : Name) (m : Rows) (xs ys : List E) → BelowBy (HasEach Has) xs ys → BelowBy IsIn (tags ((a, xs) ∷ m)) (tags ((a, ys) ∷ m))
  tag_below a m xs ys b = each_tag l ((a, xs) ∷ m) (tags ((a, ys) ∷ m)) (λ q. cond_more (eq_by_cmp name_cmp q a) (Some xs) (Some ys) (find name_cmp m q) b)

  tag_dropped : (e : Name × List E) (m : Rows) → is_table name_cmp (e ∷ m) ≡ true → BelowBy IsIn (tags m) (tags (e ∷ m))
  tag_dropped e m t = each_tag l m (tags (e ∷ m)) (λ q vs h. found_behind name_total name_same (HasRow Has vs) (λ x. x) e m t q h)

  tag_same : (a : Name) (m : Rows) (xs ys : List E) → tags ((a, xs) ∷ m) ≡ tags ((a, ys) ∷ m) → xs ≡ ys
  tag_same a m xs ys e = ap (λ b. first_held xs (rows_of b)) e

  not_longer : (e : Name × List E) (m : Rows) → tags m ≡ tags (e ∷ m) → ⊥
  not_longer e m q = let f : m ≡ e ∷ m = cc in let g = ap length f in absurd (omega (arith, g))

  with_row : (n : ℕ) (a : Name) (m : Rows) (xs ys : List E) → IsBody (suc n) (tags ((a, xs) ∷ m)) → IsRow Normal o n ys → IsBody (suc n) (tags ((a, ys) ∷ m))
  with_row n a m xs ys k j = ((k.0.0, refl, (j, k.0.2.1)), k.1, k.2)

  without_tag : (n : ℕ) (e d : Name × List E) (m : Rows) → IsBody (suc n) (tags (e ∷ d ∷ m)) → IsBody (suc n) (tags (d ∷ m))
  without_tag n e d m k = ((tables.table-rest name_total name_same e (d ∷ m) k.0.0, refl, k.0.2.1), grind (arith, k.1), k.2)

  -- what the first tag has goes down
  tag_way : (n : ℕ) (a : Name) (m : Rows) (ms es : List E) → IsBody (suc n) (tags ((a, es) ∷ m)) → Way (HasEach Has) (IsRow Normal o n) (of_row es) ms es
      → Way IsIn (IsBody (suc n)) (of_row es) (tags ((a, ms) ∷ m)) (tags ((a, es) ∷ m))
  tag_way n a m ms es k w = way_lift IsIn (IsBody (suc n)) (λ xs. tags ((a, xs) ∷ m)) ms (λ xs j b. with_row n a m es xs k j) (λ xs ys b. tag_below a m xs ys b) (λ xs ys q. tag_same a m xs ys q) (of_row es) es w

  tags_way : (n : ℕ) (m : Rows) → IsBody (suc n) (tags m) → (c : Body E) × (IsBody (suc n) c × Way IsIn (IsBody (suc n)) (one_less (table_rank of_row m)) c (tags m))
  tags_way n [] k = absurd (true≢false k.0.1)
  tags_way n (e ∷ []) k =
      let w = row_way l r n e.1 k.0.2.0 in
      let c = tags ((e.0, w.0) ∷ []) in (
        c,
        (
          with_row n e.0 [] e.1 w.0 k w.1.0,
          way_as IsIn (IsBody (suc n)) (of_row e.1) (one_less (table_rank of_row (e ∷ []))) c (tags (e ∷ [])) (one_tag (of_row e.1) (table_rank of_row (e ∷ [])) refl)
              (tag_way n e.0 [] w.0 e.1 k w.1.1),
        ),
      )
  tags_way n (e ∷ d ∷ m) k =
      let w = row_way l r n e.1 k.0.2.0 in
      let low : Name × List E = (e.0, w.0) in
      let k' = without_tag n e d m k in
      let rest = tags_way n (d ∷ m) k' in
      let a = tag_way n e.0 (d ∷ m) w.0 e.1 k w.1.1 in
      let b = one_step IsIn (IsBody (suc n)) (tags (d ∷ m)) (tags (low ∷ d ∷ m)) k' (tag_dropped low (d ∷ m) k.0.0) (not_longer low (d ∷ m)) in
      let t = table_rank of_row (d ∷ m) in
      let c = way_then IsIn (IsBody (suc n)) (one_less t) 1 rest.0 (tags (d ∷ m)) (tags (low ∷ d ∷ m)) rest.1.1 b in
      let all = way_then IsIn (IsBody (suc n)) (1 + one_less t) (of_row e.1) rest.0 (tags (low ∷ d ∷ m)) (tags (e ∷ d ∷ m)) c a in (
        rest.0,
        (
          rest.1.0,
          way_as IsIn (IsBody (suc n)) (of_row e.1 + (1 + one_less t)) (one_less (table_rank of_row (e ∷ d ∷ m))) rest.0 (tags (e ∷ d ∷ m))
              (tag_steps (of_row e.1) (table_rank of_row (e ∷ d ∷ m)) t refl (omega arith)) all,
        ),
      )

  -- ---- down from a product

  rows_hold : (n : ℕ) (xs : List Name) (es : List E) → IsRow Normal o n es → NormalRows Normal o n (all_hold xs es)
  rows_hold n [] es k = tt
  rows_hold n (x ∷ xs) es k = (k, rows_hold n xs es k)

  tags_normal : (n : ℕ) (x : Name) (xs : List Name) (es : List E) → IsRow Normal o n es → are_listed (x ∷ xs) ≡ true → o.has_tags ≡ true → IsBody (suc n) (tags (all_hold (x ∷ xs) es))
  tags_normal n x xs es k few allowed =
      let m = all_hold (x ∷ xs) es in
      let table = tables.table-all_hold name_total name_same (x ∷ xs) es (listed-ascending (x ∷ xs) few) in
      ((table, refl, rows_hold n (x ∷ xs) es k), lt-ltb (length m) 14 (omega (arith, tables.length-all_hold name_total name_same (x ∷ xs) es, listed-few (x ∷ xs) few)), allowed)

  -- the tuples that begin with one of some atoms of the first element
  tags_below : (u : E) (xs : List Name) (es : List E) → ((a : Name) → has_item name_cmp xs a ≡ true → Has (atom a) u) → BelowBy IsIn (tags (all_hold xs es)) (product (u ∷ es))
  tags_below u xs es there = each_tag l (all_hold xs es) (product (u ∷ es)) (λ q vs h.
      let f = subst (HasRow Has vs) (tables.find-all_hold name_total name_same xs es q) h in
      grind (arith, f, there q, l.naming.atom_in u q))

  row_below_product : (u : E) (n : ℕ) (ms es : List E) → IsElement Normal o u → o.only u ≡ None → IsRow Normal o n es → Way (HasEach Has) (IsRow Normal o n) (of_row es) ms es
      → Way IsIn (IsBody (suc n)) (of_row es) (product (u ∷ ms)) (product (u ∷ es))
  row_below_product u n ms es k only j w =
      way_lift IsIn (IsBody (suc n)) (λ xs. product (u ∷ xs)) ms (λ xs i b. ((ap suc i.0, (k, i.1)), only)) (λ xs ys b. rest_below Has u xs ys b) (λ xs ys q. cc) (of_row es) es w

  from_least : (n : ℕ) (u : E) (es : List E) (xs : List Name) → IsElement Normal o u → o.only u ≡ None → IsRow Normal o n es → are_listed xs ≡ true
      → ((a : Name) → has_item name_cmp xs a ≡ true → Has (atom a) u) → (xs ≡ []) ⊎ (o.has_tags ≡ true)
      → (c : Body E) × (IsBody (suc n) c × Way IsIn (IsBody (suc n)) (length xs + at_least_one (length xs) * of_row es) c (product (u ∷ es)))
  from_least n u es [] k only j few there allowed =
      let w = row_way l r n es j in
      let c = product (u ∷ w.0) in
      (c, (((ap suc w.1.0.0, (k, w.1.0.1)), only), way_as IsIn (IsBody (suc n)) (of_row es) (0 + 1 * of_row es) c (product (u ∷ es)) (omega arith) (row_below_product u n w.0 es k only j w.1.1)))
  from_least n u es (x ∷ xs) k only j few there (inl none) = absurd (omega (arith, ap length none))
  from_least n u es (x ∷ xs) k only j few there (inr allowed) =
      let m = all_hold (x ∷ xs) es in
      let i = tags_normal n x xs es j few allowed in
      let w = tags_way n m i in
      let t = table_rank of_row m in
      let step = one_step IsIn (IsBody (suc n)) (tags m) (product (u ∷ es)) i (tags_below u (x ∷ xs) es there) (λ q. cc) in
      let all = way_then IsIn (IsBody (suc n)) (one_less t) 1 w.0 (tags m) (product (u ∷ es)) w.1.1 step in (
        w.0,
        (
          w.1.0,
          way_as IsIn (IsBody (suc n)) (1 + one_less t) (length (x ∷ xs) + at_least_one (length (x ∷ xs)) * of_row es) w.0 (product (u ∷ es))
              (to_tags t (length xs) (length (x ∷ xs) * of_row es) (sum_same of_row (x ∷ xs) es)) all,
        ),
      )

  product_way : (n : ℕ) (e : E) (es : List E) → IsBody (suc n) (product (e ∷ es)) → GoesDown Has Normal o height tags_in e
      → (c : Body E) × (IsBody (suc n) c × Way IsIn (IsBody (suc n)) (of_body (product (e ∷ es))) c (product (e ∷ es)))
  product_way n e es k w =
      let j : IsRow Normal o n es = (omega (arith, k.0.0), k.0.1.1) in
      let u = w.least in
      let a = way_lift IsIn (IsBody (suc n)) (λ x. product (x ∷ es)) u (λ x i b. ((k.0.0, (element_above l r u x w.element i b, k.0.1.1)), only_above l l u x w.element w.only_so b))
      (λ x y b. first_below Has es x y b) (λ x y q. cc) w.steps e w.way in
      let low = from_least n u es w.atoms w.element w.only_so j w.listed w.there w.allowed in
      let count = length w.atoms in
      let all = way_then IsIn (IsBody (suc n)) (count + at_least_one count * of_row es) w.steps low.0 (product (u ∷ es)) (product (e ∷ es)) low.1.1 a in (
        low.0,
        (
          low.1.0,
          way_as IsIn (IsBody (suc n)) (w.steps + (count + at_least_one count * of_row es)) (of_body (product (e ∷ es))) low.0 (product (e ∷ es))
              (product_steps w.steps (tags_in e) count (of_row es) (height e) w.height_so w.counted) all,
        ),
      )

  pub body_way : (n : ℕ) (b : Body E) → IsBody n b → (c : Body E) × (IsBody n c × Way IsIn (IsBody n) (body_height height tags_in b) c b)
  body_way n (product []) k = (product [], (k, no_step IsIn (IsBody n) (product []) (product []) refl))
  body_way zero (product (e ∷ es)) k = absurd (omega (arith, k.0.0))
  body_way (suc n) (product (e ∷ es)) k = product_way n e es k (r.down e k.0.1.0 k.1)
  body_way zero (tags m) k = absurd k
  body_way (suc n) (tags m) k = tags_way n m k

  -- ---- a smaller body has a lower height

  found_row : (n : ℕ) (s t : Option (List E)) → NormalRow Normal o n s → NormalRow Normal o n t → BelowBy (HasRow Has) s t → FoundLower of_row s t
  found_row n None t j k f = tt
  found_row n (Some es) None j k f = let w = values_of l es j.1 in f w.0 w.1
  found_row n (Some es) (Some fs) j k f = row_lower l r es fs j.1 k.1 (each-below l es fs j.1 f)

  product_lower : (x y : E) (xs ys : List E) → IsElement Normal o x → IsElement Normal o y → Lower height x y → tags_in x ≤ tags_in y → Lower of_row xs ys → Lower of_body (product (x ∷ xs)) (product (y ∷ ys))
  product_lower x y xs ys j k (inl e) fewer (inl q) = inl (λ i. product (e i ∷ q i))
  product_lower x y xs ys j k (inl e) fewer (inr less) =
      let p = mul-lt-mul_of_pos_left less (one_at_least (tags_in y)) in
      inr (subst (λ z. one_less (height z) + at_least_one (tags_in z) * of_row xs < of_body (product (y ∷ ys))) (sym e) (omega (arith, p)))
  product_lower x y xs ys j k (inr less) fewer q =
      let most : of_row xs ≤ of_row ys = elim q [ inl e ↦ omega (arith, ap of_row e) | inr h ↦ omega (arith, h) ] in
      let a = mul-le-mul_left (at_least_one (tags_in x)) most in
      let b = mul-le-mul_right (of_row ys) (no_less_than_one (tags_in x) (tags_in y) fewer) in
      inr (omega (arith, less, less_is (height x) (some_height l r x j), less_is (height y) (some_height l r y k), a, b))

  -- what each of some tags has is below what a product has behind its first element
  tag_rows : (n : ℕ) (m : Rows) (b : Body E) → IsBody (suc n) (tags m) → IsBody (suc n) b → BelowBy IsIn (tags m) b → (a : Name) → FoundLower of_row (find name_cmp m a) (row_at o b a)
  tag_rows n m b j k f a = found_row n (find name_cmp m a) (row_at o b a) (rows_at l n m j.0.2 a) (row_at_normal l n b a k) (tag_of l m b f a)

  tags_lower : (n : ℕ) (m : Rows) (e : E) (es : List E) → IsBody (suc n) (tags m) → IsBody (suc n) (product (e ∷ es)) → BelowBy IsIn (tags m) (product (e ∷ es)) → of_body (tags m) < of_body (product (e ∷ es))
  tags_lower n m e es j k f =
      let rows = tag_rows n m (product (e ∷ es)) j k f in
      let each = tables.each_from name_total name_same (λ a fs. of_row fs ≤ of_row es) m j.0.0 (λ a fs q. grind (arith, rows a)) in
      let most = sum_most of_row (of_row es) m each in
      let many = r.few e (keys m) k.0.1.0.0 (tags-listed Normal o n m j) (λ a h. l.naming.atom_out e a (grind (arith, rows a, tables.find-key name_total name_same m a))) j.2 in
      let fewer : length m ≤ tags_in e = omega (arith, many, tables.length-keys name_total name_same m) in
      let w = r.down e k.0.1.0 k.1 in
      let some : 0 < length m = grind (arith, j.0.1) in
      let part = mul-le-mul_right (of_row es) fewer in
      let count = more_than_one (tags_in e) (omega (arith, some, fewer)) in
      let t = table_rank of_row m in
      let filled : 0 < t = grind (arith, j.0.1) in
      let less : one_less t < one_less (height e) + tags_in e * of_row es = omega (arith, most, fewer, part, w.height_so, less_is (height e) (some_height l r e k.0.1.0), less_is t filled) in
      subst (λ i. one_less t < one_less (height e) + i * of_row es) (sym count) less

  pub body_lower : (n : ℕ) (b c : Body E) → IsBody n b → IsBody n c → BelowBy IsIn b c → Lower (body_height height tags_in) b c
  body_lower n (product []) (product []) j k f = inl refl
  body_lower n (product (x ∷ xs)) (product (y ∷ ys)) j k f =
      let b = each-below l (x ∷ xs) (y ∷ ys) j.0.1 f in
      product_lower x y xs ys j.0.1.0 k.0.1.0 (r.lower x y j.0.1.0.0 k.0.1.0.0 b.0) (r.fewer x y j.0.1.0.0 k.0.1.0.0 b.0) (row_lower l r xs ys j.0.1.1 k.0.1.1 b.1)
  body_lower n (product []) (product (y ∷ ys)) j k f = absurd (each-below l [] (y ∷ ys) j.0.1 f)
  body_lower n (product (x ∷ xs)) (product []) j k f = absurd (each-below l (x ∷ xs) [] j.0.1 f)
  body_lower n (product es) (tags m) j k f = absurd (not_tags l n es m j k f)
  body_lower zero (tags m) c j k f = absurd j
  body_lower (suc n) (tags m) (product []) j k f = absurd (omega (arith, k.0.0))
  body_lower (suc n) (tags m) (product (e ∷ es)) j k f = inr (tags_lower n m e es j k f)
  body_lower (suc n) (tags m) (tags w) j k f = both (sum_lower name_total name_same of_row m w j.0.0 k.0.0
      (λ a. found_row n (find name_cmp m a) (find name_cmp w a) (rows_at l n m j.0.2 a) (rows_at l n w k.0.2 a) (tag_of l m (tags w) f a)))
    where
      both : Lower (table_rank of_row) m w → Lower of_body (tags m) (tags w)
      both (inl e) = inl (ap tags e)
      both (inr less) =
          let some : 0 < table_rank of_row m = grind (arith, j.0.1) in
          inr (omega (arith, less, less_is (table_rank of_row m) some, less_is (table_rank of_row w) (omega (arith, less))))

  pub found_body : (n : ℕ) (s t : Option (Body E)) → NormalBody Normal o n s → NormalBody Normal o n t → BelowBy (HasBody Has) s t → FoundLower (body_height height tags_in) s t
  found_body n None t j k f = tt
  found_body n (Some b) None j k f = let w = body_value l n b j in f w.0 w.1
  found_body n (Some b) (Some c) j k f = body_lower n b c j k f
