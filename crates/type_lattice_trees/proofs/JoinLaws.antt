-- What the joins of the code stand for, and that it fits.
use Rattle.std.proofs.Common.{[], ◌≡◌, ℕ, zero, suc, ◌+◌, ◌-◌, ◌<◌, ◌≤◌, true, false, List, ◌∷◌, ◌++◌, map, length, take, drop, Some, slice_index_or, slice_set, refl, sym, ap, ◌∙◌, subst, arith}
use Rattle.std.specs.Ordering.{nat_cmp}
use Rattle.std.specs.declared.cmp.Ordering.{Ordering}
use Rattle.std.specs.FinSet.{nat_cmp-IsAntisymmetric}
use Rattle.std.proofs.lemmas.Cmp.{nat_cmp_total}
use Rattle.std.proofs.lemmas.List.{take_more, append_assoc, map-append, length-map}
use Rattle.std.proofs.lemmas.Option.{slice_get-get_or, same_Some}
use Rattle.type_lattice_trees.proofs.CutTrees.{tags_above}
use Rattle.type_kinds.proofs.Lists.{drop_next}
use Rattle.type_kinds_sets.specs.Names.{Name, Names, name_cmp, every, none, are_listed, listed, or_else, or_else-yes}
use Rattle.type_kinds_sets.proofs.NameLaws.{or_else-no, name_total, name_same}
use Rattle.type_kinds_sets.specs.Numbers as numbers
use Rattle.type_kinds_sets.specs.declared.bits.Bits.TheVariants.{No}
use Rattle.type_lattice_model.specs.Shapes.{TypeAt, PlainParts, no_function, Body, tags}
use Rattle.type_lattice_model.specs.Tables.{keys, held, is_table, put, united}
use Rattle.type_lattice_model.specs.Operations.{ops, zip, is_empty, row_join, all_rows_join, tags_join, body_join, elements, no_flags, of_plain, of_atoms, parts_join}
use Rattle.type_lattice_model.specs.Normal.{NormalAt, NormalRow, NormalRows, AreTags, NormalSize, NormalSizes, NormalParts}
use Rattle.type_lattice_model.proofs.TableLaws.{table-united, each-take, each-united}
use Rattle.type_lattice_model.proofs.RowLaws.{row_lattice}
use Rattle.type_lattice_model.proofs.BodyLaws.{body_lattice, elements_normal}
use Rattle.type_lattice_model.specs.HasType.{HasAt, HasRow}
use Rattle.type_lattice_model.specs.Laws.{BelowBy}
use Rattle.type_lattice_model.proofs.LatticeLaws.{join-below, join-above}
use Rattle.type_lattice_model.proofs.PartsLaws.{parts_lattice}
use Rattle.type_lattice_model.proofs.LevelLaws.{level_laws}
use Rattle.type_lattice_trees.specs.declared.node.Node.{Node}
use Rattle.type_lattice_trees.specs.declared.node.PartsOf.{PartsOf}
use Rattle.type_lattice_trees.specs.declared.node.Node.TheVariants as v
use Rattle.type_lattice_trees.specs.declared.node.TagOf.{TagOf}
use Rattle.type_lattice_trees.specs.declared.node.SizeOf.{SizeOf}
use Rattle.type_lattice_trees.specs.declared.node.BodyOf.{BodyOf}
use Rattle.type_lattice_trees.specs.declared.node.BodyOf.TheVariants.{Product, Tags}
use Rattle.type_lattice_trees.specs.View.{view, row_view, tags_view, body_view, sizes_view, parts_view, size_entry, Fits, EachNode, EachTag, EachSize, RowFits, TagsFit, BodyFits, SizesFit, EachInParts, PartsFit}
use Rattle.type_lattice_trees.specs.Positions.{StandsAt}
use Rattle.type_lattice_trees.proofs.Views.{fits_normal, view_any, view_of, one_more}
use Rattle.type_lattice_trees.proofs.Inclusions.{size_fits}

-- ---- too many tags and too many sizes

-- ---- the atoms of tags

pub listed_yes : (xs : List Name) → are_listed xs ≡ true → or_else xs every ≡ listed xs
listed_yes xs l = or_else-yes xs every l ∙ sym (or_else-yes xs none l)

pub ruleset tag_names = (listed_yes, or_else-no)

-- ---- items one by one

-- what an item of a list stands for is an item of what the list does
map_at : {A B : Type 0} (f : A → B) (xs : List A) (i : ℕ) (x : A) → i < length xs → x ≡ slice_index_or xs i x → slice_index_or (map f xs) i (f x) ≡ f x
map_at f [] i x h e = grind arith
map_at f (y ∷ ys) i x h e = grind (arith, map_at f ys)

map_more : {A B : Type 0} (f : A → B) (xs : List A) (i : ℕ) (x : A) → i < length xs → x ≡ slice_index_or xs i x → take (i + 1) (map f xs) ≡ take i (map f xs) ++ f x ∷ []
map_more f xs i x h e =
    take_more (map f xs) i (f x) (omega (arith, length-map xs f)) ∙ ap (λ y. take i (map f xs) ++ y ∷ []) (map_at f xs i x h e)

-- ---- products, position by position

-- of the images of items, where one item is added last
map_done : {A B : Type 0} (f : A → B) (new out : List A) (x : A) (later : List B) → new ≡ out ++ x ∷ [] → map f new ++ later ≡ map f out ++ (f x ∷ later)
map_done f new out x later e = ap (λ xs. map f xs ++ later) e ∙ ap (λ m. m ++ later) (map-append f out (x ∷ [])) ∙ append_assoc (map f out) (f x ∷ []) later

-- products of as many types are of one length
pub same_length : (d n : ℕ) (a b : List Node) → RowFits d n a → RowFits d n b → length a ≡ length b
same_length d n a b j k = grind (arith, length-map)

-- one position more, and no change to the whole
pub row_more : (d n : ℕ) (f : TypeAt d → TypeAt d → TypeAt d) (a b out new : List Node) (i : ℕ) (x y m : Node) → RowFits d n a → RowFits d n b → i < length a → x ≡ slice_index_or a i x → y ≡ slice_index_or b i y
    → view d m ≡ f (view d x) (view d y) → new ≡ out ++ m ∷ [] → row_view d new ++ zip f (row_view d (drop (i + 1) a)) (row_view d (drop (i + 1) b)) ≡ row_view d out ++ zip f (row_view d (drop i a)) (row_view d (drop i b))
row_more d n f a b out new i x y m j k h p q e g = grind (arith, same_length, drop_next, map_done)

-- ---- the type of the atoms of tags

pub atoms_value : (t : Node) (s : Names) (q : PlainParts) (ts : List (TagOf Node)) → q ≡ record { atoms = s; ints = numbers.none; bits = No; flags = no_flags; functions = no_function }
    → ((d : ℕ) → view (suc d) t ≡ of_plain (ops d) q) → ((d : ℕ) → s ≡ or_else (keys (tags_view d ts)) every) → (d : ℕ) → view (suc d) t ≡ (ops (suc d)).of_names (keys (tags_view (suc d) ts))
unfolding ops
atoms_value t s q ts e f g d = f d ∙ ap (of_plain (ops d)) e ∙ ap (of_atoms (ops d)) (g (suc d))

-- ---- what is joined fits

-- something was put into it
put-filled : {K X : Type 0} (R : K → K → Ordering) (j : X → X → X) (k : K) (x : X) (m : List (K × X)) → is_empty (put R j k x m) ≡ false
put-filled R j k x [] = refl
put-filled R j k x (e ∷ m) = grind arith

united-filled : {K X : Type 0} (R : K → K → Ordering) (j : X → X → X) (m w : List (K × X)) → is_empty m ≡ false → is_empty (united R j m w) ≡ false
united-filled R j m [] h = h
united-filled R j m (e ∷ w) h = united-filled R j (put R j e.0 e.1 m) w (put-filled R j e.0 e.1 m)

module _ (d : ℕ) where
  abbrev Row : ℕ → List (TypeAt d) → Type 0
  Row n es = NormalRow (NormalAt d) (ops d) n (Some es)

  abbrev Rows : ℕ → List (Name × List (TypeAt d)) → Type 0
  Rows n m = NormalRows (NormalAt d) (ops d) n m

  abbrev Tagged : ℕ → List (Name × List (TypeAt d)) → Type 0
  Tagged n m = AreTags (NormalAt d) (ops d) n m

  row-join : (n : ℕ) (es fs : List (TypeAt d)) → Row n es → Row n fs → Row n (row_join (ops d) es fs)
  row-join n es fs j k = (row_lattice (level_laws d) n).join_normal (Some es) (Some fs) j k

  pub joined_fits : (n : ℕ) (a b j : List Node) → RowFits d n a → RowFits d n b → row_view d j ≡ row_join (ops d) (row_view d a) (row_view d b) → EachNode (Fits d) j → RowFits d n j
  joined_fits n a b j k m v e = record { normal = subst (Row n) (sym v) (row-join n (row_view d a) (row_view d b) k.normal m.normal); each = e }

  -- ---- a tag among others

  tagged-united : (n : ℕ) (m w : List (Name × List (TypeAt d))) → Tagged n m → Rows n w → Tagged n (united name_cmp (row_join (ops d)) m w)
  tagged-united n m w j k = (
    table-united name_total name_same (row_join (ops d)) m w j.0,
    united-filled name_cmp (row_join (ops d)) m w j.1,
    each-united name_same (row_join (ops d)) (λ a es. Row n es) (λ a es fs p q. row-join n es fs p q) m w j.2 k,
  )

  -- the tags of the first and some of the second
  pub tags_so_far : (n : ℕ) (a b out : List (TagOf Node)) (i : ℕ) → TagsFit d n a → TagsFit d n b → tags_view d out ≡ tags_join (ops d) (tags_view d a) (take i (tags_view d b)) → EachTag (Fits d) out → TagsFit d n out
  tags_so_far n a b out i j k v e = record {
    normal = subst (Tagged n) (sym v) (tagged-united n (tags_view d a) (take i (tags_view d b)) j.normal (each-take (λ e. Row n e.1) (tags_view d b) i k.normal.2));
    each = e;
  }

  -- and all of them
  pub tags_joined : (n : ℕ) (a b out : List (TagOf Node)) → TagsFit d n a → TagsFit d n b → tags_view d out ≡ tags_join (ops d) (tags_view d a) (tags_view d b) → EachTag (Fits d) out → TagsFit d n out
  tags_joined n a b out j k v e = record {
    normal = subst (Tagged n) (sym v) (tagged-united n (tags_view d a) (tags_view d b) j.normal k.normal.2);
    each = e;
  }

  -- ---- a size among others

  abbrev Sized : List (ℕ × Body (TypeAt d)) → Type 0
  Sized m = NormalSizes (NormalAt d) (ops d) m

  sized-united : (m w : List (ℕ × Body (TypeAt d))) → Sized m → Sized w → Sized (united nat_cmp (body_join (ops d)) m w)
  sized-united m w j k =
      each-united nat_cmp-IsAntisymmetric (body_join (ops d)) (NormalSize (NormalAt d) (ops d)) (λ n b c p q. (p.0, (body_lattice (level_laws d) n).join_normal (Some b) (Some c) p.1 q.1)) m w j k

  pub sizes_so_far : (a b out : List (SizeOf Node)) (i : ℕ) → SizesFit d a → SizesFit d b → sizes_view d out ≡ united nat_cmp (body_join (ops d)) (sizes_view d a) (take i (sizes_view d b)) → EachSize (Fits d) out
      → SizesFit d out
  sizes_so_far a b out i j k v e = record {
    table = ap (is_table nat_cmp) v ∙ table-united nat_cmp_total nat_cmp-IsAntisymmetric (body_join (ops d)) (sizes_view d a) (take i (sizes_view d b)) j.table;
    normal = subst Sized (sym v) (sized-united (sizes_view d a) (take i (sizes_view d b)) j.normal (each-take (λ e. NormalSize (NormalAt d) (ops d) e.0 e.1) (sizes_view d b) i k.normal));
    each = e;
  }

map-slice_set : {A B : Type 0} (f : A → B) (xs : List A) (i : ℕ) (x : A) → map f (slice_set xs i x) ≡ slice_set (map f xs) i (f x)
map-slice_set f [] i x = grind arith
map-slice_set f (y ∷ ys) i x = grind (arith, map-slice_set f ys)

-- ---- one more of the second list, and what is put into a list

united-append : {K X : Type 0} (R : K → K → Ordering) (j : X → X → X) (m w z : List (K × X)) → united R j m (w ++ z) ≡ united R j (united R j m w) z
united-append R j m [] z = refl
united-append R j m (e ∷ w) z = united-append R j (put R j e.0 e.1 m) w z

-- an item is read whole or in part
same_item : {A : Type 0} (xs : List A) (i : ℕ) (x y : A) → i < length xs → x ≡ slice_index_or xs i x → y ≡ slice_index_or xs i y → x ≡ y
same_item [] i x y h e f = grind arith
same_item (z ∷ xs) i x y h e f = grind (arith, same_item xs)

module _ {A K X : Type 0} (R : K → K → Ordering) (j : X → X → X) (entry : A → K × X) where
  -- the first list with the entries of the first i items of the second, and with one more
  pub entries_step : (a b out new : List A) (i : ℕ) (x : A) → i < length b → x ≡ slice_index_or b i x → map entry out ≡ united R j (map entry a) (take i (map entry b))
      → map entry new ≡ put R j (entry x).0 (entry x).1 (map entry out) → map entry new ≡ united R j (map entry a) (take (i + 1) (map entry b))
  entries_step a b out new i x h e v n = grind (arith, united-append R j, map_more entry)

  -- what stands at the position of a key
  entry_there : (xs : List A) (i : ℕ) (k : K) (there : A) (s : StandsAt R k (map entry xs) i) → i < length xs → there ≡ slice_index_or xs i there → entry there ≡ (k, s.0)
  entry_there xs i k there s h e = grind (arith, same_Some, map_at entry, slice_get-get_or, length-map)

  -- and one whose key is there, so that what is held is joined
  pub entry_found : (xs ys : List A) (i : ℕ) (x there read new : A) → ys ≡ xs → StandsAt R (entry x).0 (map entry ys) i → i < length ys → there ≡ slice_index_or xs i there → read ≡ slice_index_or xs i read
      → (entry new).0 ≡ (entry there).0 → (entry new).1 ≡ j (entry read).1 (entry x).1 → map entry (slice_set xs i new) ≡ put R j (entry x).0 (entry x).1 (map entry xs)
  entry_found xs ys i x there read new g t l e f k v =
      let s : StandsAt R (entry x).0 (map entry xs) i = subst (λ zs. StandsAt R (entry x).0 (map entry zs) i) g t in
      let h : i < length xs = subst (λ zs. i < length zs) g l in
      let same = entry_there xs i (entry x).0 there s h e in
      map-slice_set entry xs i new
      ∙ (λ n. slice_set (map entry xs) i (k n, (v ∙ ap (λ y. j (entry y).1 (entry x).1) (same_item xs i read there h f e)) n))
      ∙ (λ n. slice_set (map entry xs) i ((same n).0, j (same n).1 (entry x).1))
      ∙ sym (s.1.1 j (entry x).1)

-- the size that stands at the position is equal
pub size_there : (d k : ℕ) (ss rs : List (SizeOf Node)) (i : ℕ) (there : SizeOf Node) → SizesFit d ss → rs ≡ ss → StandsAt nat_cmp k (sizes_view d rs) i → i < length rs → there ≡ slice_index_or ss i there
    → BodyFits d k there.body
size_there d k ss rs i there fit same s h e =
    let t : StandsAt nat_cmp k (sizes_view d ss) i = subst (λ xs. StandsAt nat_cmp k (sizes_view d xs) i) same s in
    let l : i < length ss = subst (λ xs. i < length xs) same h in
    subst (λ n. BodyFits d n there.body) (ap (λ (x : ℕ × Body (TypeAt d)). x.0) (entry_there nat_cmp (body_join (ops d)) (size_entry d) ss i k there t l e)) (size_fits d ss fit i there l e)

-- ---- bodies

body_is : (d n : ℕ) (b c : BodyOf Node) → b ≡ c → BodyFits d n b → BodyFits d n c
body_is d n b c e k = subst (BodyFits d n) e k

tags_part : (d n : ℕ) (ts : List (TagOf Node)) → BodyFits d n (Tags ts) → (m : ℕ) × ((n ≡ suc m) × (TagsFit d m ts × (0 < d)))
tags_part x0 x1 x2 x3 = grind (arith, tags_above)

pub tags_of_body : (d n : ℕ) (b : BodyOf Node) (ts us : List (TagOf Node)) → BodyFits d n b → b ≡ Tags ts → us ≡ ts → ((m : ℕ) × TagsFit d m us) × (0 < d)
tags_of_body d n b ts us k e f = grind (arith, tags_part, body_is)

-- each tag has one element type less than the tuples have elements
pub tags_after_first : (d n : ℕ) (b : BodyOf Node) (ts us : List (TagOf Node)) → BodyFits d n b → b ≡ Tags ts → us ≡ ts → (m : ℕ) × ((n ≡ suc m) × TagsFit d m us)
tags_after_first d n b ts us k e f = grind (arith, tags_part, body_is)

pub tags_of_bodies : (d n : ℕ) (b c : BodyOf Node) (ts us vs ws : List (TagOf Node)) → BodyFits d n b → BodyFits d n c → b ≡ Tags ts → c ≡ Tags us → vs ≡ ts → ws ≡ us → (m : ℕ) × (TagsFit d m vs × TagsFit d m ws)
tags_of_bodies d n b c ts us vs ws j k e f g h = grind (arith, tags_part, body_is)

pub product_of_body : (d n : ℕ) (b : BodyOf Node) (es : List Node) → BodyFits d n b → b ≡ Product es → RowFits d n es
product_of_body d n b es k e = grind (arith, body_is)

pub elements_fit : (d n : ℕ) (b : BodyOf Node) (es : List Node) → BodyFits d n b → row_view d es ≡ elements (ops d) (body_view d b) → EachNode (Fits d) es → RowFits d n es
elements_fit d n b es k v e = record {
  normal = subst (λ r. NormalRow (NormalAt d) (ops d) n (Some r)) (sym v) (elements_normal (level_laws d) n (body_view d b) k.normal);
  each = e;
}

pub row_is : (d n : ℕ) (es fs : List Node) → es ≡ fs → RowFits d n fs → RowFits d n es
row_is d n es fs e k = subst (RowFits d n) (sym e) k

-- the element types of the least product that contains the tags
pub tags_elements : (d : ℕ) (ts : List (TagOf Node)) (first : Node) (rest row : List Node) → 0 < d → ((e : ℕ) → view (suc e) first ≡ (ops (suc e)).of_names (keys (tags_view (suc e) ts)))
    → row_view d rest ≡ all_rows_join (ops d) (held (tags_view d ts)) → row ≡ first ∷ rest → row_view d row ≡ elements (ops d) (tags (tags_view d ts))
tags_elements zero ts first rest row h f r e = absurd (omega arith)
tags_elements (suc d) ts first rest row h f r e = ap (row_view (suc d)) e ∙ (λ n. f d n ∷ r n)

-- ---- types

-- where one is part of the other, the other is the join
pub joined_below : (d : ℕ) (a b j : Node) → Fits d a → Fits d b → BelowBy (HasAt d) (view d a) (view d b) → j ≡ b → view d j ≡ (ops d).join (view d a) (view d b)
joined_below d a b j f g h e = ap (view d) e ∙ join-below (level_laws d).lattice (view d a) (view d b) (fits_normal d a f) (fits_normal d b g) h

pub joined_above : (d : ℕ) (a b j : Node) → Fits d a → Fits d b → BelowBy (HasAt d) (view d b) (view d a) → j ≡ a → view d j ≡ (ops d).join (view d a) (view d b)
joined_above d a b j f g h e = ap (view d) e ∙ join-above (level_laws d).lattice (view d a) (view d b) (fits_normal d a f) (fits_normal d b g) h

some_row : {E : Type 0} {xs ys : List E} → Some xs ≡ Some ys → xs ≡ ys
some_row {E} {xs} {ys} e = same_Some xs ys e

module _ (d n : ℕ) (a b x y j : List Node) (f : RowFits d n a) (g : RowFits d n b) (p : x ≡ a) (q : y ≡ b) where
  pub rows_below : BelowBy (HasRow (HasAt d)) (Some (row_view d x)) (Some (row_view d y)) → j ≡ b → row_view d j ≡ row_join (ops d) (row_view d a) (row_view d b)
  rows_below h e =
      ap (row_view d) e ∙ some_row (join-below (row_lattice (level_laws d) n) (Some (row_view d a)) (Some (row_view d b)) f.normal g.normal
      (subst (λ (z : List Node × List Node). BelowBy (HasRow (HasAt d)) (Some (row_view d z.0)) (Some (row_view d z.1))) (λ i. (p i, q i)) h))

  pub rows_above : BelowBy (HasRow (HasAt d)) (Some (row_view d y)) (Some (row_view d x)) → j ≡ a → row_view d j ≡ row_join (ops d) (row_view d a) (row_view d b)
  rows_above h e =
      ap (row_view d) e ∙ some_row (join-above (row_lattice (level_laws d) n) (Some (row_view d a)) (Some (row_view d b)) f.normal g.normal
      (subst (λ (z : List Node × List Node). BelowBy (HasRow (HasAt d)) (Some (row_view d z.1)) (Some (row_view d z.0))) (λ i. (p i, q i)) h))

pub any_left : (d : ℕ) (a b : Node) → Fits d a → Fits d b → a ≡ v.Any → view d v.Any ≡ (ops d).join (view d a) (view d b)
any_left d a b j k e = grind (arith, joined_above, view_any, level_laws, (level_laws d).any_in)

pub any_right : (d : ℕ) (a b : Node) → Fits d a → Fits d b → b ≡ v.Any → view d v.Any ≡ (ops d).join (view d a) (view d b)
any_right d a b j k e = grind (arith, joined_below, view_any, level_laws, (level_laws d).any_in)

pub parts_fit : (d : ℕ) (p q j : PartsOf Node) → PartsFit d p → PartsFit d q → parts_view d j ≡ parts_join (ops d) (parts_view d p) (parts_view d q) → EachInParts (Fits d) j → PartsFit d j
parts_fit d p q j k m v e = record {
  normal = subst (NormalParts (NormalAt d) (ops d)) (sym v) ((parts_lattice (level_laws d)).join_normal (parts_view d p) (parts_view d q) k.normal m.normal);
  each = e;
}

made_above : (d : ℕ) (a b r : Node) (p q j : PartsOf Node) → a ≡ v.Of p → b ≡ v.Of q → parts_view d j ≡ parts_join (ops d) (parts_view d p) (parts_view d q) → view (suc d) r ≡ parts_view d j
    → view (suc d) r ≡ (ops (suc d)).join (view (suc d) a) (view (suc d) b)
unfolding ops
made_above d a b r p q j e f h m = grind (arith, view_of)

pub made_join : (d : ℕ) (a b r : Node) (p q j : PartsOf Node) → 1 ≤ d → a ≡ v.Of p → b ≡ v.Of q → PartsFit (d - 1) j → parts_view (d - 1) j ≡ parts_join (ops (d - 1)) (parts_view (d - 1) p) (parts_view (d - 1) q)
    → ((e : ℕ) → PartsFit e j → view (suc e) r ≡ parts_view e j) → view d r ≡ (ops d).join (view d a) (view d b)
made_join d a b r p q j h e f k m g =
    subst (λ n. view n r ≡ (ops n).join (view n a) (view n b)) (sym (one_more d h)) (made_above (d - 1) a b r p q j e f m (g (d - 1) k))
