-- The laws of cuts: the least type of another level, which adds no value where that level is no lower. A join is the same one level up.
use Rattle.std.proofs.Common.{◌≡◌, ℕ, zero, suc, ◌≤◌, Bool, true, false, cond, List, [], ◌∷◌, map, length, Option, Some, None}
use Rattle.std.proofs.Common.{refl, sym, ap, ◌∙◌, arith, subst, true≢false, ◌&&◌, nat_lt, option_map, Ordering, nat_cmp}
use Rattle.std.specs.FinSet.{IsAntisymmetric}
use Rattle.std.proofs.lemmas.List.{length-map}
use Rattle.std.proofs.lemmas.Bool.{true_from_ne_false}
use Rattle.type_kinds_sets.specs.Names.{Name, name_cmp}
use Rattle.type_kinds_sets.proofs.NameLaws.{name_total, name_same}
use Rattle.type_lattice_model.specs.Values.{Value, atom, nil, cons, tuple, Values, no_value, and_value, count, heads}
use Rattle.type_lattice_model.specs.Tables.{EachEntry, mapped, find, held, put, united}
use Rattle.type_lattice_model.specs.Shapes.{Cell, Body, product, tags, Tuples, sizes, all_tuples, Parts, TypeAt}
use Rattle.type_lattice_model.specs.HasType.{HasAll, HasEach, HasRow, HasCell, HasTag, HasBody, HasTuple, HasParts, HasAt}
use Rattle.type_lattice_model.specs.Operations.{Ops, elements, row_at, ops, row_join, rows_join, tags_join, body_join, tuples_join, cell_join, parts_join, plain_join}
use Rattle.type_lattice_model.specs.Normal.{NormalCell, AreElements, NormalRow, NormalBody, NormalSize, NormalSizes, NormalTuples, NormalParts, NormalAt, NormalRows}
use Rattle.type_lattice_model.specs.Cut.{cell_lower, body_lower, tuples_lower, parts_lower, cut}
use Rattle.type_lattice_model.specs.Laws.{Laws, Lowering}
use Rattle.type_lattice_model.proofs.TableLaws as tables
use Rattle.type_lattice_model.proofs.LeastLaws.{IsLeast, some_least}
use Rattle.type_lattice_model.proofs.CellLaws.{value_of, filled-not_none, all-more}
use Rattle.type_lattice_model.proofs.RowLaws.{values_of, count_each, row_lattice}
use Rattle.type_lattice_model.proofs.BodyLaws.{only_above, not_in_tags, rows_at, rows_from, row_at_is, row_at_normal, by_tag, each_tag, elements_normal}
use Rattle.type_lattice_model.proofs.BodyLaws.{elements_above, count_body, body_value, tag_value, LeastRow, LeastBody, product_least, body_lattice}
use Rattle.type_lattice_model.proofs.TupleLaws.{size_total, size_same, normal_at, from_size, sizes_least}
use Rattle.type_lattice_model.proofs.LevelLaws.{level_laws}

-- ---- from the types of one level to those of another, and so one level up

module _ {F E : Type 0} {HasF : Value → F → Type 0} {NormalF : F → Type 0} {f : Ops F} (high : Laws HasF NormalF f) {HasE : Value → E → Type 0} {NormalE : E → Type 0} {e : Ops E} (low : Laws HasE NormalE e) {lower : F
    → E} (s : Lowering HasF NormalF HasE NormalE lower) where
  -- ---- rows
  row_normal : (es : List F) → AreElements NormalF f es → AreElements NormalE e (map lower es)
  row_normal [] k = tt
  row_normal (t ∷ ts) k = let v = value_of high t k.0 in ((s.normal t k.0.0, filled-not_none low (lower t) v.0 (s.above t k.0.0 v.0 v.1)), row_normal ts k.1)

  row_above : (es : List F) → AreElements NormalF f es → (vs : Values) → HasEach HasF vs es → HasEach HasE vs (map lower es)
  row_above [] k no_value h = tt
  row_above [] k (and_value v vs) h = absurd h
  row_above (t ∷ ts) k no_value h = absurd h
  row_above (t ∷ ts) k (and_value v vs) h = (s.above t k.0.0 v h.0, row_above ts k.1 vs h.1)

  row_least : (es : List F) (gs : List E) → AreElements NormalF f es → AreElements NormalE e gs → ((vs : Values) → HasEach HasF vs es → HasEach HasE vs gs) → (vs : Values) → HasEach HasE vs (map lower es)
      → HasEach HasE vs gs
  row_least [] gs j k p no_value h = p no_value tt
  row_least [] gs j k p (and_value v vs) h = absurd h
  row_least (t ∷ ts) gs j k p no_value h = absurd h
  row_least (t ∷ ts) [] j k p (and_value v vs) h =
      absurd (p (and_value (value_of high t j.0).0 (values_of high ts j.1).0) ((value_of high t j.0).1, (values_of high ts j.1).1))
  row_least (t ∷ ts) (g ∷ gs) j k p (and_value v vs) h =
      let x = value_of high t j.0 in
      let w = values_of high ts j.1 in (
        s.least t g j.0.0 k.0.0 (λ u q. (p (and_value u w.0) (q, w.1)).0) v h.0,
        row_least ts gs j.1 k.1 (λ us q. (p (and_value x.0 us) (x.1, q)).1) vs h.1,
      )

  -- what becomes of a row, if there is one
  pub found : (n : ℕ) (r : Option (List F)) → NormalRow NormalF f n r → LeastRow low n (λ vs. HasRow HasF vs r) (option_map (map lower) r)
  found n None k = record { normal = tt; above = λ vs h. h; least = λ u i p. p }
  found n (Some es) k = grind (arith, values_of high, length-map, row_normal, row_above, row_least)

  -- ---- the tuples of one size
  -- where there are no tags, no element type is a set of few atoms, and each has all values
  all_each : e.has_tags ≡ false → (gs : List E) → AreElements NormalE e gs → (vs : Values) → count vs ≡ length gs → HasEach HasE vs gs
  all_each a [] k no_value q = tt
  all_each a [] k (and_value v vs) q = absurd (omega arith)
  all_each a (g ∷ gs) k no_value q = absurd (omega arith)
  all_each a (g ∷ gs) k (and_value v vs) q = (low.naming.no_tags_full a g k.0.0 k.0.1 v, all_each a gs k.1 vs (omega arith))

  -- tags stay tags, or become a product
  tags_are : (n : ℕ) (m : List (Name × List F)) (b : Bool) → e.has_tags ≡ b → NormalBody NormalF f (suc n) (Some (tags m))
      → LeastBody low (suc n) (λ vs. HasTag HasF vs m) (cond b (tags (mapped (map lower) m)) (product (map lower (elements f (tags m)))))
  tags_are n m true a k =
      let c = mapped (map lower) m in
      let table = tables.table-mapped name_total name_same (map lower) m k.0.0 in
      let p = λ (q : Name). subst (LeastRow low n (λ vs. HasRow HasF vs (find name_cmp m q))) (sym (tables.find-mapped name_total name_same (map lower) m q)) (found n (find name_cmp m q) (rows_at high n m k.0.2 q)) in
      record {
        normal = ((table, tables.empty-mapped name_total name_same (map lower) m ∙ k.0.1, rows_from low n c table (λ q. (p q).normal)), ap (λ i. nat_lt i 14) (tables.length-mapped name_total name_same (map lower) m) ∙ k.1, a);
        above = by_tag high m (λ us. HasTag HasE us c) (λ q ws x. (p q).above ws x);
        least = λ u i g. each_tag low c u (λ q. (p q).least (row_at e u q) (row_at_normal low n u q i) (λ ws x. (row_at_is low u q ws).0 (g (and_value (atom q) ws) x)));
      }
  tags_are n m false a k =
      let es = elements f (tags m) in
      let r = found (suc n) (Some es) (elements_normal high (suc n) (tags m) k) in
      product_least low (suc n) (map lower es) (some_least (tag_value high n m k.0) (λ vs h. h) (record {
        normal = r.normal;
        above = λ vs h. r.above vs (elements_above high (suc n) (tags m) k vs h);
        least = λ gs i p vs h. all_each a gs i.1 vs (count_each low vs (map lower es) h ∙ r.normal.0 ∙ sym i.0);
      })) (grind (arith, low.naming.only_tags)) (λ w i p. true≢false (sym i.2 ∙ a))

  pub body_are : (n : ℕ) (b : Body F) → NormalBody NormalF f n (Some b) → LeastBody low n (λ vs. HasBody HasF vs (Some b)) (body_lower lower f e b)
  body_are n (product es) k = product_least low n (map lower es) (found n (Some es) k.0) (grind (arith, k, only_above high low, s.above)) (λ w i g. not_in_tags high low n es w k i g)
  body_are zero (tags m) k = absurd k
  body_are (suc n) (tags m) k = tags_are n m e.has_tags refl k

  -- ---- tuples
  size_are : (n : ℕ) (b : Option (Body F)) → NormalBody NormalF f n b → IsLeast (HasBody HasE) (NormalBody NormalE e n) (λ vs. HasBody HasF vs b) (option_map (body_lower lower f e) b)
  size_are n None k = record { normal = tt; above = λ vs h. h; least = λ u i p. p }
  size_are n (Some b) k = some_least (body_value high n b k) (λ vs h. h) (body_are n b k)

  sizes_normal : (m : List (ℕ × Body F)) → NormalSizes NormalF f m → NormalSizes NormalE e (mapped (body_lower lower f e) m)
  sizes_normal [] k = tt
  sizes_normal (x ∷ m) k = ((k.0.0, (body_are x.0 x.1 k.0.1).normal), sizes_normal m k.1)

  tuples_are : (t : Tuples F) → NormalTuples NormalF f t → IsLeast (HasTuple HasE) (NormalTuples NormalE e) (λ vs. HasTuple HasF vs t) (tuples_lower lower f e t)
  tuples_are all_tuples k = record { normal = tt; above = λ vs h. tt; least = λ u i p. p }
  tuples_are (sizes m) k =
      let g = body_lower lower f e in
      let before = λ (n : ℕ). normal_at high m k.2 n in
      let p = λ (n : ℕ). subst (IsLeast (HasBody HasE) (NormalBody NormalE e n) (λ vs. HasBody HasF vs (find nat_cmp m n))) (sym (tables.find-mapped size_total size_same g m n)) (size_are n (find nat_cmp m n) (before n)) in
      let few = ap (λ i. nat_lt i 9) (tables.length-mapped size_total size_same g m) ∙ k.1 in
      sizes_least low (sizes (mapped g m)) (tables.table-mapped size_total size_same g m k.0, few, sizes_normal m k.2) (λ vs. (p (count vs)).above vs) (λ w i h vs.
      let n = count vs in
      let counted = λ (us : Values). count_body high n us (find nat_cmp m n) (before n) in
      (p n).least (find nat_cmp w n) (normal_at low w i.2 n) (λ us x. subst (λ j. HasBody HasE us (find nat_cmp w j)) (counted us x) (h us (from_size high m k.2 n us x))) vs)

  -- ---- lists that aren't empty
  all_above : (t : F) → NormalF t → (vs : Values) → HasAll HasF vs t → HasAll HasE vs (lower t)
  all_above t k no_value h = tt
  all_above t k (and_value v vs) h = (s.above t k v h.0, all_above t k vs h.1)

  cell_are : (c : Option (Cell F)) → NormalCell NormalF f c → IsLeast (HasCell HasE) (NormalCell NormalE e) (λ x. HasCell HasF x c) (cell_lower lower f e c)
  cell_are None k = record { normal = tt; above = λ x h. h; least = λ u i p. p }
  cell_are (Some c) k =
      let w = value_of high c.element k in
      some_least ((w.0, nil), ((w.1, tt), λ q. refl)) (λ x h. h) (record {
        normal = (row_normal (c.element ∷ []) (k, tt)).0;
        above = λ x h. (all_above c.element k.0 (and_value x.0 (heads x.1)) h.0, h.1);
        least = λ u i p x h. (
          all-more low (lower c.element) u.element (s.least c.element u.element k.0 i.0 (λ v y. (p (v, nil) ((y, tt), λ q. refl)).0.0)) (and_value x.0 (heads x.1)) h.0,
          λ z. h.1 (true_from_ne_false c.is_proper (λ q. cc ((p (w.0, atom []) ((w.1, tt), λ r. absurd (true≢false (sym r ∙ q)))).1 z))),
        );
      })

  -- ---- the parts of a type
  parts_above : (p : Parts F) → NormalParts NormalF f p → (v : Value) → HasParts HasF v p → HasParts HasE v (parts_lower lower f e p)
  parts_above p k (cons x y) h = (cell_are p.cell k.1).above (x, y) h
  parts_above p k (tuple vs) h = (tuples_are p.tuples k.2).above vs h
  parts_above p k v h = h

  parts_least : (p : Parts F) (u : Parts E) → NormalParts NormalF f p → NormalParts NormalE e u → ((v : Value) → HasParts HasF v p → HasParts HasE v u) → (v : Value) → HasParts HasE v (parts_lower lower f e p)
      → HasParts HasE v u
  parts_least p u j k q (cons x y) h = (cell_are p.cell j.1).least u.cell k.1 (λ c. q (cons c.0 c.1)) (x, y) h
  parts_least p u j k q (tuple vs) h = (tuples_are p.tuples j.2).least u.tuples k.2 (λ us. q (tuple us)) vs h
  parts_least p u j k q v h = q v h

  next_lowering : Lowering (HasParts HasF) (NormalParts NormalF f) (HasParts HasE) (NormalParts NormalE e) (parts_lower lower f e)
  next_lowering = grind (arith, cell_are, tuples_are, parts_above, parts_least)

-- cut gives the least type above, from every level to every level
pub cut_lowering : (e d : ℕ) → Lowering (HasAt e) (NormalAt e) (HasAt d) (NormalAt d) (cut e d)
unfolding cut NormalAt ops
cut_lowering e zero = grind (arith, (level_laws e).lattice.none_empty, (level_laws e).none-is_none, (level_laws e).lattice.filled, (level_laws e).is_none-none)
cut_lowering zero (suc d) = grind (arith, (level_laws (suc d)).any_normal, (level_laws (suc d)).any_in)
cut_lowering (suc e) (suc d) = next_lowering (level_laws e) (level_laws d) (cut_lowering e d)

-- ---- a type comes back from a level that isn't lower, so it has no value more there. Tags have to stay tags: there are none
-- where the elements are of level 0, and there can be some on each level above

mapped_back : {K X Y : Type 0} (P : K → X → Type 0) (g : Y → X) (f : X → Y) → ((k : K) (x : X) → P k x → g (f x) ≡ x) → (m : List (K × X)) → EachEntry P m → mapped g (mapped f m) ≡ m
mapped_back P g f back [] k = refl
mapped_back P g f back (x ∷ m) k = λ i. (x.0, back x.0 x.1 k.0 i) ∷ mapped_back P g f back m k.1 i

module _ {F E : Type 0} (NormalF : F → Type 0) (f : Ops F) (e : Ops E) (lower : F → E) (raise : E → F) (tags_stay : f.has_tags ≡ true → e.has_tags ≡ true) (back : (t : F) → NormalF t → raise (lower t) ≡ t) where
  row_back : (es : List F) → AreElements NormalF f es → map raise (map lower es) ≡ es
  row_back [] k = refl
  row_back (t ∷ ts) k = λ i. back t k.0.0 i ∷ row_back ts k.1 i

  body_back : (n : ℕ) (b : Body F) → NormalBody NormalF f n (Some b) → body_lower raise e f (body_lower lower f e b) ≡ b
  body_back n b k = grind (arith, row_back, mapped_back)

  next_back : (p : Parts F) → NormalParts NormalF f p → parts_lower raise e f (parts_lower lower f e p) ≡ p
  next_back p k = grind (arith, mapped_back, body_back)

-- tags are on each level but the first two
tags_remain : (e d : ℕ) → e ≤ d → (ops e).has_tags ≡ true → (ops d).has_tags ≡ true
unfolding ops
tags_remain zero d le h = absurd (true≢false (sym h))
tags_remain (suc e) zero le h = absurd (omega arith)
tags_remain (suc e) (suc d) le h = refl

cut_back : (e d : ℕ) → e ≤ d → (t : TypeAt e) → NormalAt e t → cut d e (cut e d t) ≡ t
unfolding cut NormalAt ops
cut_back zero zero le t k = grind arith
cut_back (suc e) zero le t k = absurd (omega arith)
cut_back zero (suc d) le t k = grind arith
cut_back (suc e) (suc d) le t k = next_back (NormalAt e) (ops e) (ops d) (cut e d) (cut d e) (tags_remain e d (omega arith)) (cut_back e d (omega arith)) t k

-- and has no other values where it doesn't go down
pub cut_exact : (e d : ℕ) → e ≤ d → (t : TypeAt e) → NormalAt e t → (v : Value) → HasAt d v (cut e d t) → HasAt e v t
cut_exact e d le t k v h = subst (HasAt e v) (cut_back e d le t k) ((cut_lowering d e).above (cut e d t) ((cut_lowering e d).normal t k) v h)

-- ---- a join is the same one level up: first of tables whose entries are joined

module _ {K X Y : Type 0} {R : K → K → Ordering} (same : IsAntisymmetric R) (g : X → Y) (j : X → X → X) (k : Y → Y → Y) (P : K → X → Type 0) (keeps : (a : K) (x y : X) → P a x → P a y
    → P a (j x y)) (joins : (a : K) (x y : X) → P a x → P a y → g (j x y) ≡ k (g x) (g y)) where
  mapped-put : (a : K) (x : X) (m : List (K × X)) → P a x → EachEntry P m → mapped g (put R j a x m) ≡ put R k a (g x) (mapped g m)
  mapped-put a x [] p q = refl
  mapped-put a x (e ∷ m) p q = grind (arith, mapped-put a x m p q.1)

  mapped-united : (m w : List (K × X)) → EachEntry P m → EachEntry P w → EachEntry P (united R j m w) × (mapped g (united R j m w) ≡ united R k (mapped g m) (mapped g w))
  mapped-united m [] p q = (p, refl)
  mapped-united m (e ∷ w) p q = grind (arith, mapped-united (put R j e.0 e.1 m) w (tables.each-put same j P keeps e.0 e.1 m q.0 p) q.1, mapped-put)

-- a way to another level that keeps joins, and sets of atoms where there may be tags
record Lifting {F E : Type 0} (NormalF : F → Type 0) (f : Ops F) (e : Ops E) (lower : F → E) : Type 0 where
  pub joins : (x y : F) → NormalF x → NormalF y → lower (f.join x y) ≡ e.join (lower x) (lower y)
  pub tags_stay : f.has_tags ≡ true → e.has_tags ≡ true
  pub names_stay : f.has_tags ≡ true → (xs : List Name) → lower (f.of_names xs) ≡ e.of_names xs

module _ {F E : Type 0} {HasF : Value → F → Type 0} {NormalF : F → Type 0} {f : Ops F} (high : Laws HasF NormalF f) {e : Ops E} {lower : F → E} (s : Lifting NormalF f e lower) where
  -- ---- products
  row_joins : (es fs : List F) → AreElements NormalF f es → AreElements NormalF f fs → map lower (row_join f es fs) ≡ row_join e (map lower es) (map lower fs)
  row_joins [] fs j k = refl
  row_joins (x ∷ xs) [] j k = refl
  row_joins (x ∷ xs) (y ∷ ys) j k = λ i. s.joins x y j.0.0 k.0.0 i ∷ row_joins xs ys j.1 k.1 i

  rows_joins : (n : ℕ) (es : List F) (m : List (Name × List F)) → NormalRow NormalF f n (Some es) → NormalRows NormalF f n m → map lower (rows_join f es (held m)) ≡ rows_join e (map lower es) (held (mapped (map lower) m))
  rows_joins n es [] j k = refl
  rows_joins n es (x ∷ m) j k = grind (arith, rows_joins n (row_join f es x.1) m ((row_lattice high n).join_normal (Some es) (Some x.1) j k.0) k.1, row_joins)

  -- ---- tags
  tags_elements : (n : ℕ) (m : List (Name × List F)) → f.has_tags ≡ true → NormalRows NormalF f n m → map lower (elements f (tags m)) ≡ elements e (tags (mapped (map lower) m))
  tags_elements n [] a k = ap (λ z. z ∷ []) (s.names_stay a [])
  tags_elements n (x ∷ m) a k = grind (arith, tables.keys-mapped name_total name_same (map lower) m, rows_joins n x.1 m k.0 k.1)

  tags_joins : (n : ℕ) (m w : List (Name × List F)) → NormalRows NormalF f n m → NormalRows NormalF f n w
      → NormalRows NormalF f n (tags_join f m w) × (mapped (map lower) (tags_join f m w) ≡ tags_join e (mapped (map lower) m) (mapped (map lower) w))
  tags_joins n = mapped-united name_same (map lower) (row_join f) (row_join e) (λ a es. NormalRow NormalF f n (Some es)) (λ a es fs. (row_lattice high n).join_normal (Some es) (Some fs)) (λ a es fs p q. row_joins es fs p.1 q.1)

  -- ---- the tuples of one size
  body_joins : (n : ℕ) (b c : Body F) → NormalBody NormalF f n (Some b) → NormalBody NormalF f n (Some c) → body_lower lower f e (body_join f b c) ≡ body_join e (body_lower lower f e b) (body_lower lower f e c)
  body_joins n (product es) c j k = grind (arith, row_joins, elements_normal high, tags_elements)
  body_joins zero (tags m) c j k = absurd j
  body_joins (suc n) (tags m) (product fs) j k = grind (arith, row_joins (elements f (tags m)) fs (elements_normal high (suc n) (tags m) j).1 k.0.1, tags_elements n m j.2 j.0.2)
  body_joins (suc n) (tags m) (tags w) j k = grind (arith, tags_elements, tables.length-mapped name_total name_same (map lower), tags_joins)

  -- ---- tuples
  sizes_joins : (m w : List (ℕ × Body F)) → NormalSizes NormalF f m → NormalSizes NormalF f w
      → mapped (body_lower lower f e) (united nat_cmp (body_join f) m w) ≡ united nat_cmp (body_join e) (mapped (body_lower lower f e) m) (mapped (body_lower lower f e) w)
  sizes_joins m w j k =
      (mapped-united size_same (body_lower lower f e) (body_join f) (body_join e) (NormalSize NormalF f) (λ n b c p q. (p.0, (body_lattice high n).join_normal (Some b) (Some c) p.1 q.1)) (λ n b c p q. body_joins n b c p.1 q.1) m w j k).1

  tuples_joins : (a b : Tuples F) → NormalTuples NormalF f a → NormalTuples NormalF f b → tuples_lower lower f e (tuples_join f a b) ≡ tuples_join e (tuples_lower lower f e a) (tuples_lower lower f e b)
  tuples_joins a b h k = grind (arith, tables.length-mapped size_total size_same (body_lower lower f e), sizes_joins)

  -- ---- lists, and types
  cell_joins : (c d : Option (Cell F)) → NormalCell NormalF f c → NormalCell NormalF f d → cell_lower lower f e (cell_join f c d) ≡ cell_join e (cell_lower lower f e c) (cell_lower lower f e d)
  cell_joins None d j k = refl
  cell_joins (Some c) None j k = refl
  cell_joins (Some c) (Some d) j k = ap (λ x. Some (record { element = x; is_proper = c.is_proper && d.is_proper })) (s.joins c.element d.element j.0 k.0)

  parts_joins : (p q : Parts F) → NormalParts NormalF f p → NormalParts NormalF f q → parts_lower lower f e (parts_join f p q) ≡ parts_join e (parts_lower lower f e p) (parts_lower lower f e q)
  parts_joins p q j k = λ i. record { plain = plain_join p.plain q.plain; cell = cell_joins p.cell q.cell j.1 k.1 i; tuples = tuples_joins p.tuples q.tuples j.2 k.2 i }

-- ---- each level

names_lift : (d : ℕ) → (ops d).has_tags ≡ true → (xs : List Name) → cut d (suc d) ((ops d).of_names xs) ≡ (ops (suc d)).of_names xs
unfolding cut ops
names_lift zero a xs = absurd (true≢false (sym a))
names_lift (suc d) a xs = refl

-- of none and any
base_joins : (s t : Bool) → cut 0 1 ((ops 0).join s t) ≡ (ops 1).join (cut 0 1 s) (cut 0 1 t)
unfolding NormalAt ops cut
base_joins s t = grind (arith, (level_laws 1).lattice)

pub lift_join : (d : ℕ) (s t : TypeAt d) → NormalAt d s → NormalAt d t → cut d (suc d) ((ops d).join s t) ≡ (ops (suc d)).join (cut d (suc d) s) (cut d (suc d) t)
unfolding cut NormalAt ops
lift_join zero s t j k = base_joins s t
lift_join (suc d) s t j k =
    parts_joins (level_laws d) {e = ops (suc d)} (record { joins = lift_join d; tags_stay = tags_remain d (suc d) (omega arith); names_stay = names_lift d }) s t j k
