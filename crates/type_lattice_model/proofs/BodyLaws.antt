-- The laws of the tuples of one size, a product of element types or tags.
use Rattle.std.proofs.Common.{sym, ap, ◌∙◌, true≢false, subst, arith, inl, inr, ◌≡◌, ◌⊎◌, ◌↔◌, ℕ, zero, suc, ◌≤◌, true}
use Rattle.std.proofs.Common.{false, List, [], ◌∷◌, length, nat_lt, Option, Some, None, is_some, option_map, refl}
use Rattle.std.proofs.lemmas.Bool.{and_from}
use borrow.Author.Tests.{ltb-true, lt-ltb, ltb-false}
use Rattle.type_kinds_sets.specs.Ascending.{is_ascending, has_item}
use Rattle.type_kinds_sets.specs.Names.{Name, name_cmp, are_listed}
use Rattle.type_kinds_sets.proofs.AscendingLaws as ascending
use Rattle.type_kinds_sets.proofs.NameLaws.{name_total, name_same, listed-ascending, listed-few}
use Rattle.type_lattice_model.specs.Values.{Value, atom, Values, no_value, and_value, count}
use Rattle.type_lattice_model.specs.Tables.{keys, held, all_hold, joined, both_at, is_table, find}
use Rattle.type_lattice_model.specs.Shapes.{Body, product, tags}
use Rattle.type_lattice_model.specs.HasType.{HasEach, HasRow, HasTag, HasBody}
use Rattle.type_lattice_model.specs.Operations.{Ops, met_with, is_empty, row_meet, row_join, rows_join, all_rows_join, spread, body_of, row_at, some_tags, tags_meet, body_meet, elements, tags_join, capped_tags, body_join}
use Rattle.type_lattice_model.specs.Normal.{IsElement, AreElements, NormalRow, FirstIsOpen, NormalRows, AreTags, NormalTags, NormalBody}
use Rattle.type_lattice_model.specs.Elements.{joined_all}
use Rattle.type_lattice_model.specs.Laws.{BelowBy, Lattice, Laws}
use Rattle.type_lattice_model.proofs.TableLaws as tables
use Rattle.type_lattice_model.proofs.LatticeLaws.{SomeOf}
use Rattle.type_lattice_model.proofs.LeastLaws.{none_held, IsLeast, IsJust, InBoth, InEither, meet-just, lattice_of, join-least, less-least, some_least, cond_least, joined_least, at-met, at-united, length-below, some_entry, entry_some}
use Rattle.type_lattice_model.proofs.CellLaws.{value_of, filled-not_none}
use Rattle.type_lattice_model.proofs.RowLaws.{BelowEach, values_of, each-below, each_same, count_each, row_lattice}

-- what has a row is one of the tags, and so a first element is
key_row : {E : Type 0} (Has : Value → E → Type 0) (a : Name) (vs : Values) (m : List (Name × List E)) → HasRow Has vs (find name_cmp m a) → has_item name_cmp (keys m) a ≡ true
key_row Has a vs m h = grind (arith, tables.find-key name_total name_same m a)

pub first_tag : {E : Type 0} (Has : Value → E → Type 0) (v : Value) (vs : Values) (m : List (Name × List E)) → HasTag Has (and_value v vs) m → (a : Name) × ((v ≡ atom a) × (has_item name_cmp (keys m) a ≡ true))
first_tag Has (atom a) vs m h = (a, (refl, key_row Has a vs m h))
first_tag Has v vs m h = absurd h

pub tags-listed : {E : Type 0} (Normal : E → Type 0) (o : Ops E) (n : ℕ) (m : List (Name × List E)) → NormalTags Normal o (suc n) m → are_listed (keys m) ≡ true
tags-listed Normal o n m k = and_from (is_ascending name_cmp (keys m)) (nat_lt (length (keys m)) 14) k.0.0 (ap (λ i. nat_lt i 14) (tables.length-keys name_total name_same m) ∙ k.1)

-- ---- between the types of two levels, or of one

module _ {F E : Type 0} {HasF : Value → F → Type 0} {NormalF : F → Type 0} {f : Ops F} (high : Laws HasF NormalF f) {HasE : Value → E → Type 0} {NormalE : E → Type 0} {e : Ops E} (low : Laws HasE NormalE e) where
  -- a type above one that is no set of few atoms is none either
  pub only_above : (t : F) (u : E) → IsElement NormalF f t → f.only t ≡ None → ((v : Value) → HasF v t → HasE v u) → e.only u ≡ None
  only_above t u k z b = none_held (e.only u) (λ xs q. high.naming.only_found t k.0 k.1 xs (low.naming.only_listed u xs q) (λ v h. low.naming.only_out u xs q v (b v h)) z)

  -- a normal product has a tuple that is in no tags
  pub not_in_tags : (n : ℕ) (es : List F) (m : List (Name × List E)) → NormalBody NormalF f n (Some (product es)) → NormalTags NormalE e n m → ((vs : Values) → HasEach HasF vs es → HasTag HasE vs m) → ⊥
  not_in_tags zero es m j k p = k
  not_in_tags (suc n) [] m j k p = p no_value tt
  not_in_tags (suc n) (t ∷ ts) m j k p =
      let w = values_of high ts j.0.1.1 in
      high.naming.only_found t j.0.1.0.0 j.0.1.0.1 (keys m) (tags-listed NormalE e n m k) (λ v h. first_tag HasE v w.0 m (p (and_value v w.0) (h, w.1))) j.1

module _ {E : Type 0} {Has : Value → E → Type 0} {Normal : E → Type 0} {o : Ops E} (l : Laws Has Normal o) where
  abbrev Rows : Type 0
  Rows = List (Name × List E)

  abbrev HasB : Values → Option (Body E) → Type 0
  HasB = HasBody Has

  abbrev RowOf : ℕ → Option (List E) → Type 0
  RowOf = NormalRow Normal o

  abbrev BodyOf : ℕ → Option (Body E) → Type 0
  BodyOf = NormalBody Normal o

  -- what stands at a tag
  abbrev at : Rows → Name → Option (List E)
  at m a = find name_cmp m a

  -- a body, and a row, that is the least with some tuples
  abbrev pub LeastBody : ℕ → (Values → Type 0) → Body E → Type 0
  LeastBody n = IsLeast (λ vs b. HasB vs (Some b)) (λ b. BodyOf n (Some b))

  abbrev pub LeastRow : ℕ → (Values → Type 0) → Option (List E) → Type 0
  LeastRow n = IsLeast (HasRow Has) (RowOf n)

  -- ---- tags

  -- what stands at a tag is a normal row
  pub rows_at : (n : ℕ) (m : List (Name × List E)) → NormalRows Normal o n m → (a : Name) → NormalRow Normal o n (find name_cmp m a)
  rows_at n [] k a = tt
  rows_at n (e ∷ m) k a = grind (arith, rows_at n m k.1 a)

  -- and rows are normal where what stands at each tag is
  pub rows_from : (n : ℕ) (m : Rows) → is_table name_cmp m ≡ true → ((a : Name) → RowOf n (at m a)) → NormalRows Normal o n m
  rows_from n m t f = tables.each_from name_total name_same (λ a es. RowOf n (Some es)) m t (λ a es e. subst (RowOf n) e (f a))

  -- what a tuple of some tags begins with
  pub tagged : (vs : Values) (m : List (Name × List E)) → HasTag Has vs m → (a : Name) × ((ws : Values) × ((vs ≡ and_value (atom a) ws) × HasRow Has ws (find name_cmp m a)))
  tagged vs m h = grind arith

  -- so what holds of those that begin with an atom holds of all
  pub by_tag : (m : Rows) (Q : Values → Type 0) → ((a : Name) (ws : Values) → HasRow Has ws (at m a) → Q (and_value (atom a) ws)) → (vs : Values) → HasTag Has vs m → Q vs
  by_tag m Q f vs h = let t = tagged vs m h in subst Q (sym t.1.1.0) (f t.0 t.1.0 t.1.1.1)

  pub row_value : (n : ℕ) (r : Option (List E)) → RowOf n r → is_some r ≡ true → (vs : Values) × HasRow Has vs r
  row_value n r k e = grind (arith, values_of l)

  -- some tags have a tuple
  pub tag_value : (n : ℕ) (m : Rows) → AreTags Normal o n m → (vs : Values) × HasTag Has vs m
  tag_value n m k =
      let t = tables.first_entry name_total name_same m k.1 in
      let w = row_value n (at m t.0) (rows_at n m k.2 t.0) (ap is_some t.1.1) in
      (and_value (atom t.0) w.0, w.1)

  -- ---- the rest of the tuples of a body that begin with an atom

  pub row_at_is : (b : Body E) (a : Name) (vs : Values) → HasBody Has (and_value (atom a) vs) (Some b) ↔ HasRow Has vs (row_at o b a)
  row_at_is (product []) a vs = (λ h. h, λ h. h)
  row_at_is (product (e ∷ es)) a vs = grind arith
  row_at_is (tags m) a vs = (λ h. h, λ h. h)

  pub row_at_normal : (n : ℕ) (b : Body E) (a : Name) → NormalBody Normal o (suc n) (Some b) → NormalRow Normal o n (row_at o b a)
  row_at_normal n (product []) a k = tt
  row_at_normal n (product (e ∷ es)) a k = grind arith
  row_at_normal n (tags m) a k = rows_at n m k.0.2 a

  -- tags are below a body where they are so tag by tag
  pub each_tag : (m : List (Name × List E)) (b : Body E) → ((a : Name) → BelowBy (HasRow Has) (find name_cmp m a) (row_at o b a)) → BelowBy (HasBody Has) (Some (tags m)) (Some b)
  each_tag m b f = by_tag m (λ vs. HasB vs (Some b)) (λ a ws h. (row_at_is b a ws).1 (f a ws h))

  pub tag_of : (m : List (Name × List E)) (b : Body E) → BelowBy (HasBody Has) (Some (tags m)) (Some b) → (a : Name) → BelowBy (HasRow Has) (find name_cmp m a) (row_at o b a)
  tag_of m b f a vs h = (row_at_is b a vs).0 (f (and_value (atom a) vs) h)

  -- ---- how many values there are

  pub count_body : (n : ℕ) (vs : Values) (b : Option (Body E)) → NormalBody Normal o n b → HasBody Has vs b → count vs ≡ n
  count_body n vs None k h = absurd h
  count_body n vs (Some (product es)) k h = count_each l vs es h ∙ k.0.0
  count_body zero vs (Some (tags m)) k h = absurd k
  count_body (suc n) vs (Some (tags m)) k h = by_tag m (λ us. count us ≡ suc n) (λ a ws x. grind (arith, count_each l ws, rows_at n m k.0.2 a, x)) vs h

  -- ---- one form for each set

  pub body_value : (n : ℕ) (b : Body E) → BodyOf n (Some b) → (vs : Values) × HasB vs (Some b)
  body_value n b k = grind (arith, values_of l, tag_value)

  -- a normal product has a tuple that is in no tags
  pub not_tags : (n : ℕ) (es : List E) (m : List (Name × List E)) → NormalBody Normal o n (Some (product es)) → NormalTags Normal o n m → BelowBy (HasBody Has) (Some (product es)) (Some (tags m)) → ⊥
  not_tags = not_in_tags l l

  body_same : (n : ℕ) (b c : Body E) → BodyOf n (Some b) → BodyOf n (Some c) → BelowBy HasB (Some b) (Some c) → BelowBy HasB (Some c) (Some b) → b ≡ c
  body_same n (product es) (product fs) j k p q =
      ap product (each_same l es fs j.0.1 k.0.1 (each-below l es fs j.0.1 p) (each-below l fs es k.0.1 q))
  body_same n (product es) (tags m) j k p q = absurd (not_tags n es m j k p)
  body_same n (tags m) (product es) j k p q = absurd (not_tags n es m k j q)
  body_same zero (tags m) (tags w) j k p q = absurd j
  body_same (suc n) (tags m) (tags w) j k p q =
      ap tags (tables.same_table name_total name_same m w j.0.0 k.0.0 (λ a. (row_lattice l n).same (at m a) (at w a) (rows_at n m j.0.2 a) (rows_at n w k.0.2 a) (tag_of m (tags w) p a) (tag_of w (tags m) q a)))

  -- ---- a product in its normal form

  all_hold_at : (xs : List Name) (es : List E) (a : Name) (vs : Values) → HasRow Has vs (at (all_hold xs es) a) ↔ ((has_item name_cmp xs a ≡ true) × HasEach Has vs es)
  all_hold_at xs es a vs = grind (arith, tables.find-all_hold name_total name_same xs es a)

  spread_is : (e : E) (es : List E) (xs : List Name) → o.only e ≡ Some xs → (vs : Values) → HasTag Has vs (all_hold xs es) ↔ HasEach Has vs (e ∷ es)
  spread_is e es xs k no_value = (λ h. h, λ h. h)
  spread_is e es xs k (and_value v vs) = (
    by_tag (all_hold xs es) (λ us. HasEach Has us (e ∷ es)) (λ a ws x. let p = (all_hold_at xs es a ws).0 x in (l.naming.only_in e xs k a p.0, p.1)) (and_value v vs),
    λ h. let t = l.naming.only_out e xs k v h.0 in subst (λ u. HasTag Has (and_value u vs) (all_hold xs es)) (sym t.1.0) ((all_hold_at xs es t.0 vs).1 (t.1.1, h.1)),
  )

  rows-all_hold : (n : ℕ) (xs : List Name) (es : List E) → RowOf n (Some es) → NormalRows Normal o n (all_hold xs es)
  rows-all_hold n [] es k = tt
  rows-all_hold n (x ∷ xs) es k = (k, rows-all_hold n xs es k)

  all_hold-filled : (xs : List Name) (es : List E) (a : Name) → has_item name_cmp xs a ≡ true → is_empty (all_hold xs es) ≡ false
  all_hold-filled [] es a h = absurd (true≢false (sym h))
  all_hold-filled (x ∷ xs) es a h = refl

  spread_normal : (n : ℕ) (e : E) (es : List E) (x : Option (List Name)) → o.only e ≡ x → RowOf n (Some (e ∷ es)) → BodyOf n (Some (spread o x e es))
  spread_normal n e es None k r = (r, k)
  spread_normal zero e es (Some xs) k r = absurd (omega (arith, r.0))
  spread_normal (suc n) e es (Some xs) k r =
      let v = value_of l e r.1.0 in
      let t = l.naming.only_out e xs k v.0 v.1 in
      let few = l.naming.only_listed e xs k in
      let table = tables.table-all_hold name_total name_same xs es (listed-ascending xs few) in
      grind (arith, all_hold-filled xs es t.0 t.1.1, few, table, listed-few xs few, tables.length-all_hold name_total name_same xs es, rows-all_hold n xs es, l.naming.only_tags e xs k)

  pub body_of_in : (es : List E) (vs : Values) → HasEach Has vs es → HasBody Has vs (Some (body_of o es))
  body_of_in es vs h = grind (arith, spread_is)

  pub body_of_out : (es : List E) (vs : Values) → HasBody Has vs (Some (body_of o es)) → HasEach Has vs es
  body_of_out es vs h = grind (arith, spread_is)

  pub body_of_normal : (n : ℕ) (es : List E) → NormalRow Normal o n (Some es) → NormalBody Normal o n (Some (body_of o es))
  body_of_normal n [] r = (r, tt)
  body_of_normal n (e ∷ es) r = spread_normal n e es (o.only e) refl r

  -- ---- the meet

  -- the tuples of a product, if there is one
  body_just : (n : ℕ) (In : Values → Type 0) (r : Option (List E)) → IsJust (HasRow Has) (RowOf n) In r → IsJust HasB (BodyOf n) In (option_map (body_of o) r)
  body_just n In None m = record { normal = tt; enter = m.enter; leave = m.leave }
  body_just n In (Some es) m = record { normal = body_of_normal n es m.normal; enter = λ vs h. body_of_in es vs (m.enter vs h); leave = λ vs h. m.leave vs (body_of_out es vs h) }

  some_tags_is : (m : Rows) (vs : Values) → HasB vs (some_tags o m) ↔ HasTag Has vs m
  some_tags_is m vs = grind arith

  tags_meets : (n : ℕ) (m : Rows) (b : Body E) → NormalTags Normal o n m → BodyOf n (Some b) → IsJust HasB (BodyOf n) (InBoth HasB (Some (tags m)) (Some b)) (some_tags o (tags_meet o m b))
  tags_meets zero m b j k = absurd j
  tags_meets (suc n) m b j k =
      let c = tags_meet o m b in
      let f = λ (q : Name) (es : List E). met_with (row_meet o es) (row_at o b q) in
      let table = tables.table-chosen name_total name_same f m j.0.0 in
      let short = tables.length-chosen name_total name_same f m in
      let few = ltb-true (length m) 14 j.1 in
      let p = λ (a : Name). at-met name_total name_same (row_lattice l n) a m (row_at o b) j.0.0 (rows_at n m j.0.2 a) (row_at_normal n b a k) in
      record {
        normal = grind (arith, rows_from n c table (λ a. (p a).normal), table, lt-ltb (length c) 14 (omega arith), j.2);
        enter = λ vs h. (some_tags_is c vs).1 (by_tag m (λ us. HasB us (Some b) → HasTag Has us c) (λ a ws x y. (p a).enter ws (x, (row_at_is b a ws).0 y)) vs h.0 h.1);
        leave = λ vs h. by_tag c (λ us. HasTag Has us m × HasB us (Some b)) (λ a ws x. let q = (p a).leave ws x in (q.0, (row_at_is b a ws).1 q.1)) vs ((some_tags_is c vs).0 h);
      }

  body_meets : (n : ℕ) (b c : Body E) → BodyOf n (Some b) → BodyOf n (Some c) → IsJust HasB (BodyOf n) (InBoth HasB (Some b) (Some c)) (body_meet o b c)
  body_meets n (product es) (product fs) j k = body_just n (InBoth (HasRow Has) (Some es) (Some fs)) (row_meet o es fs) (meet-just (row_lattice l n) (Some es) (Some fs) j.0 k.0)
  body_meets n (product es) (tags m) j k = grind (arith, tags_meets)
  body_meets n (tags m) c j k = tags_meets n m c j k

  -- ---- the element types of a body: the least product that has all its tuples

  rows_join-is : (es : List E) (m : Rows) → Some (rows_join o es (held m)) ≡ joined_all (joined (row_join o)) (λ e. Some e.1) (Some es) m
  rows_join-is es [] = refl
  rows_join-is es (e ∷ m) = rows_join-is (row_join o es e.1) m

  all_rows_are : (n : ℕ) (m : Rows) → is_empty m ≡ false → NormalRows Normal o n m → LeastRow n (λ vs. SomeOf (λ e. HasEach Has vs e.1) m) (Some (all_rows_join o (held m)))
  all_rows_are n [] e k = absurd (true≢false e)
  all_rows_are n (x ∷ m) e k = subst (LeastRow n (λ vs. SomeOf (λ e. HasEach Has vs e.1) (x ∷ m))) (sym (rows_join-is x.1 m)) (joined_least (row_lattice l n) (λ e. Some e.1) (x ∷ m) k)

  row_some : (m : Rows) (a : Name) (vs : Values) → HasRow Has vs (at m a) → SomeOf (λ e. HasEach Has vs e.1) m
  row_some m a vs h = grind (arith, entry_some name_total name_same (λ q es. HasEach Has vs es) m a)

  tags_least : (n : ℕ) (m : Rows) → AreTags Normal o n m → (gs : List E) → RowOf (suc n) (Some gs) → ((vs : Values) → HasTag Has vs m → HasEach Has vs gs) → (vs : Values) → HasEach Has vs (elements o (tags m))
      → HasEach Has vs gs
  tags_least n m k [] i f vs h = absurd (omega (arith, i.0))
  tags_least n m k (e ∷ es) i f no_value h = absurd h
  tags_least n m k (e ∷ es) i f (and_value v us) h =
      let t = tables.first_entry name_total name_same m k.1 in
      let rows = all_rows_are n m k.1 k.2 in (
        l.naming.names_least (keys m) t.0 k.0 (sym (tables.find-key name_total name_same m t.0) ∙ ap is_some t.1.1) e i.1.0.0 (λ q x.
            let w = row_value n (at m q) (rows_at n m k.2 q) (tables.find-key name_total name_same m q ∙ x) in
            (f (and_value (atom q) w.0) w.1).0) v h.0,
        rows.least (Some es) (omega (arith, i.0), i.1.1) (λ ws x. let w = some_entry name_total name_same (λ a fs. HasEach Has ws fs) m k.0 x in (f (and_value (atom w.0) ws) (subst (HasRow Has ws) (sym w.1.1.0) w.1.1.1)).1) us h.1,
      )

  tags_elements : (n : ℕ) (m : Rows) → AreTags Normal o n m → LeastRow (suc n) (λ vs. HasTag Has vs m) (Some (elements o (tags m)))
  tags_elements n m k =
      let rows = all_rows_are n m k.1 k.2 in
      let names = o.of_names (keys m) in
      let t = tables.first_entry name_total name_same m k.1 in
      let named = l.naming.names_in (keys m) t.0 (sym (tables.find-key name_total name_same m t.0) ∙ ap is_some t.1.1) in
      some_least (tag_value n m k) (λ vs h. h) (record {
        normal = (ap suc rows.normal.0, ((l.naming.names_normal (keys m), filled-not_none l names (atom t.0) named), rows.normal.1));
        above = by_tag m (λ vs. HasEach Has vs (elements o (tags m))) (λ a ws h. (l.naming.names_in (keys m) a (key_row Has a ws m h), rows.above ws (row_some m a ws h)));
        least = tags_least n m k;
      })

  elements_are : (n : ℕ) (b : Body E) → BodyOf n (Some b) → LeastRow n (λ vs. HasB vs (Some b)) (Some (elements o b))
  elements_are n b k = grind (arith, tags_elements)

  pub elements_normal : (n : ℕ) (b : Body E) → NormalBody Normal o n (Some b) → NormalRow Normal o n (Some (elements o b))
  elements_normal n b k = (elements_are n b k).normal

  pub elements_above : (n : ℕ) (b : Body E) → NormalBody Normal o n (Some b) → (vs : Values) → HasBody Has vs (Some b) → HasEach Has vs (elements o b)
  elements_above n b k = (elements_are n b k).above

  pub elements_least : (n : ℕ) (b : Body E) (gs : List E) → NormalBody Normal o n (Some b) → NormalRow Normal o n (Some gs) → BelowBy (HasBody Has) (Some b) (Some (product gs)) → BelowEach Has (elements o b) gs
  elements_least n b gs k i f = each-below l (elements o b) gs (elements_normal n b k).1 ((elements_are n b k).least (Some gs) i f)

  -- ---- the join of two bodies

  -- the least product is the least body, where no tags have all those tuples
  pub product_least : (n : ℕ) (es : List E) {In : Values → Type 0} → LeastRow n In (Some es) → FirstIsOpen Normal o es → ((m : Rows) → NormalTags Normal o n m → ((vs : Values) → In vs → HasTag Has vs m) → ⊥)
      → LeastBody n In (product es)
  product_least n es j k without = record { normal = (j.normal, k); above = j.above; least = λ u i f. let g = λ (gs : List E). j.least (Some gs) in grind (arith, g, without) }

  -- the least product that contains both
  wide : (n : ℕ) (s t : Body E) → BodyOf n (Some s) → BodyOf n (Some t) → LeastRow n (InEither HasB (Some s) (Some t)) (Some (row_join o (elements o s) (elements o t)))
  wide n s t j k = join-least (row_lattice l n) (elements_are n s j) (elements_are n t k)

  open_either : (es fs : List E) → AreElements Normal o es → AreElements Normal o fs → FirstIsOpen Normal o es ⊎ FirstIsOpen Normal o fs → FirstIsOpen Normal o (row_join o es fs)
  open_either [] fs j k f = tt
  open_either (x ∷ xs) [] j k f = tt
  open_either (x ∷ xs) (y ∷ ys) j k f = grind (arith, only_above l l x (o.join x y) j.0, only_above l l y (o.join x y) k.0, l.lattice.join_left x y j.0.0 k.0.0, l.lattice.join_right x y j.0.0 k.0.0)

  -- many atoms are no set of few
  many_only : (n : ℕ) (m : Rows) → AreTags Normal o n m → 14 ≤ length m → o.only (o.of_names (keys m)) ≡ None
  many_only n m k many = none_held (o.only (o.of_names (keys m))) (λ xs q.
      let few = l.naming.only_listed (o.of_names (keys m)) xs q in
      let out = l.naming.only_out (o.of_names (keys m)) xs q in
      let le : length (keys m) ≤ length xs = ascending.length-part name_total name_same xs (keys m) k.0 (listed-ascending xs few) (λ a h. grind (arith, out (atom a) (l.naming.names_in (keys m) a h))) in
      absurd (omega (arith, many, listed-few xs few, le, tables.length-keys name_total name_same m)))

  -- too many tags become a product
  capped : (n : ℕ) (m : Rows) → AreTags Normal o n m → o.has_tags ≡ true → LeastBody (suc n) (λ vs. HasTag Has vs m) (capped_tags o m)
  capped n m k h =
      cond_least (nat_lt (length m) 14) (λ e. record { normal = (k, e, h); above = λ vs x. x; least = λ u i f. f }) (λ e.
      let many = ltb-false (length m) 14 e in
      product_least (suc n) (elements o (tags m)) (tags_elements n m k) (many_only n m k many) (λ w i f.
      let le : length m ≤ length w = length-below name_total name_same (λ a. row_lattice l n) m w k.0 i.0.0 (rows_at n m k.2) (λ a ws x. f (and_value (atom a) ws) x) in
      absurd (omega (arith, le, many, ltb-true (length w) 14 i.1))))

  tags_joins : (n : ℕ) (m w : Rows) → NormalTags Normal o (suc n) m → NormalTags Normal o (suc n) w → LeastBody (suc n) (InEither HasB (Some (tags m)) (Some (tags w))) (capped_tags o (tags_join o m w))
  tags_joins n m w j k =
      let c = tags_join o m w in
      let p = λ (a : Name). at-united name_total name_same (row_lattice l n) a m w j.0.0 k.0.0 (rows_at n m j.0.2 a) (rows_at n w k.0.2 a) in
      let left = by_tag m (λ us. HasTag Has us c) (λ a ws x. (p a).above ws (inl x)) in
      let right = by_tag w (λ us. HasTag Has us c) (λ a ws x. (p a).above ws (inr x)) in
      let t = tag_value n m j.0 in
      let table = tables.table-united name_total name_same (row_join o) m w j.0.0 in
      less-least (capped n c (table, grind (arith, left t.0 t.1), rows_from n c table (λ a. (p a).normal)) j.2) (λ vs h. elim h [ inl x ↦ left vs x | inr x ↦ right vs x ]) (λ u i f.
      each_tag c u (λ a. (p a).least (row_at o u a) (row_at_normal n u a i) (λ ws h. (row_at_is u a ws).0 (f (and_value (atom a) ws) h))))

  body_joins : (n : ℕ) (b c : Body E) → BodyOf n (Some b) → BodyOf n (Some c) → LeastBody n (InEither HasB (Some b) (Some c)) (body_join o b c)
  body_joins n (product es) c j k =
      product_least n (row_join o es (elements o c)) (wide n (product es) c j k) (open_either es (elements o c) j.0.1 (elements_normal n c k).1 (inl j.1)) (λ w i f. not_tags n es w j i (λ vs h. f vs (inl h)))
  body_joins n (tags m) (product fs) j k =
      product_least n (row_join o (elements o (tags m)) fs) (wide n (tags m) (product fs) j k) (open_either (elements o (tags m)) fs (elements_normal n (tags m) j).1 k.0.1 (inr k.1)) (λ w i f. not_tags n fs w k i (λ vs h. f vs (inr h)))
  body_joins zero (tags m) (tags w) j k = absurd j
  body_joins (suc n) (tags m) (tags w) j k = tags_joins n m w j k

  pub body_lattice : (n : ℕ) → Lattice (HasBody Has) (NormalBody Normal o n) None (both_at (body_meet o)) (joined (body_join o))
  body_lattice n = lattice_of tt (λ vs h. h) (body_value n) (body_same n) (body_meets n) (body_joins n)
