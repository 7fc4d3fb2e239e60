-- The laws of inclusion between what trees stand for, part by part.
use Rattle.std.proofs.Common.{[], ◌≡◌, ℕ, zero, suc, ◌+◌, ◌-◌, ◌<◌, ◌≤◌, Bool, true, false, List, ◌∷◌, map, length, Option, Some, None}
use Rattle.std.proofs.Common.{◌↔◌, IsTrue, All, take, take_all, slice_index_or, refl, sym, ◌∙◌, subst, subst₂, inl, inr, true≢false, arith}
use Rattle.std.proofs.lemmas.List.{length-map}
use Rattle.std.proofs.lemmas.List.Elements.{All-more}
use Rattle.std.specs.Ordering.{nat_cmp}
use Rattle.std.specs.Cmp.{nat_cmp_total}
use Rattle.std.specs.FinSet.{nat_cmp-IsAntisymmetric}
use Rattle.type_kinds_sets.specs.Names.{Name, name_cmp}
use Rattle.type_kinds_sets.proofs.NameLaws.{name_total, name_same}
use Rattle.type_lattice_model.specs.Values.{Value, nil, and_value, count, heads}
use Rattle.type_lattice_model.specs.Shapes.{TypeAt, Body, Parts, tags, sizes}
use Rattle.type_lattice_model.specs.Tables.{EachEntry, find}
use Rattle.type_lattice_model.specs.HasType.{HasAt, HasParts, HasCell, HasRow, HasBody, HasTuple}
use Rattle.type_lattice_model.specs.Operations.{ops, row_at}
use Rattle.type_lattice_model.specs.Normal.{NormalAt, NormalRow, NormalBody, NormalSize}
use Rattle.type_lattice_model.specs.Laws.{BelowBy}
use Rattle.type_lattice_model.specs.ValueShapes.{Shape, leaf, pair, row, shape, value_of_shape, shape-value_of_shape, HasShape, has-shape, PlainBelow}
use Rattle.type_lattice_model.proofs.TableLaws.{each_at, each_from, some-none}
use Rattle.type_lattice_model.proofs.CellLaws.{value_of, cell-below, all-more}
use Rattle.type_lattice_model.proofs.RowLaws.{BelowEach, values_of, each-more, each-below}
use Rattle.type_lattice_model.proofs.BodyLaws.{row_at_normal, each_tag, tag_of, not_tags, body_lattice}
use Rattle.type_lattice_model.proofs.TupleLaws.{normal_at, to_size, not_all}
use Rattle.type_lattice_model.proofs.LevelLaws.{level_laws}
use Rattle.type_lattice_trees.specs.declared.node.Node.{Node}
use Rattle.type_lattice_trees.specs.declared.node.Node.TheVariants as v
use Rattle.type_lattice_trees.specs.declared.node.PartsOf.{PartsOf}
use Rattle.type_lattice_trees.specs.declared.node.CellOf.{CellOf}
use Rattle.type_lattice_trees.specs.declared.node.TuplesOf.{TuplesOf}
use Rattle.type_lattice_trees.specs.declared.node.TuplesOf.TheVariants as of_tuples
use Rattle.type_lattice_trees.specs.declared.node.SizeOf.{SizeOf}
use Rattle.type_lattice_trees.specs.declared.node.BodyOf.{BodyOf}
use Rattle.type_lattice_trees.specs.declared.node.BodyOf.TheVariants as of_body
use Rattle.type_lattice_trees.specs.declared.node.TagOf.{TagOf}
use Rattle.type_lattice_trees.specs.View.{view, Fits, EachNode, EachInBody, row_view, tags_view, body_view, sizes_view, tuples_view, cell_view, parts_view, tag_entry, size_entry, RowFits, TagsFit, BodyFits, SizesFit, TuplesFit, CellFits}
use Rattle.type_lattice_trees.proofs.Views.{view_any, view_of, of_above, fits_of, parts_normal, size_at, tag_at}

-- ---- tests that tell

-- a test of another fact that holds exactly where this one does
pub passed : {X Y : Type 0} (r : Bool) → IsTrue r ↔ Y → (Y → X) → (X → Y) → IsTrue r ↔ X
passed r e f g = (λ h. f (e.0 h), λ x. e.1 (g x))

pub failed : {Y : Type 0} (r : Bool) → IsTrue r ↔ Y → r ≡ false → Y → ⊥
failed r e h y = true≢false (sym (e.1 y) ∙ h)

-- ---- what holds of each item

pub one_item_more : {X : Type 0} (P : X → Type 0) (xs : List X) (i : ℕ) (x : X) → i < length xs → x ≡ slice_index_or xs i x → All P (take i xs) → P x → All P (take (i + 1) xs)
one_item_more P xs i x lt e h p = All-more P xs i x lt h (subst P e p)

each_item : {X : Type 0} (P : X → Type 0) (xs : List X) (i : ℕ) → length xs ≤ i → All P (take i xs) → All P xs
each_item P xs i le h = subst (All P) (take_all i xs le) h

-- what holds of all items holds of each of their entries, and back
module _ {A K X : Type 0} (entry : A → K × X) (P : K → X → Type 0) where
  each_entry : (xs : List A) → All (λ x. P (entry x).0 (entry x).1) xs → EachEntry P (map entry xs)
  each_entry [] f = tt
  each_entry (x ∷ xs) f = (f 0 x (omega arith), each_entry xs (λ k y h. f (suc k) y (omega arith)))

  all_entries : (xs : List A) → EachEntry P (map entry xs) → All (λ x. P (entry x).0 (entry x).1) xs
  all_entries [] f k y h = grind arith
  all_entries (x ∷ xs) f k y h = grind (arith, all_entries xs)

-- ---- a type and its parts

pub below_any : (d : ℕ) (a b : Node) → b ≡ v.Any → BelowBy (HasAt d) (view d a) (view d b)
below_any d a b e x h = subst (HasAt d x) (sym (view_any b e d)) ((level_laws d).any_in x)

-- parts aren't all full, so some value is not among theirs
pub any_not_below : (d : ℕ) (a b : Node) (q : PartsOf Node) → a ≡ v.Any → b ≡ v.Of q → Fits d b → BelowBy (HasAt d) (view d a) (view d b) → ⊥
any_not_below zero a b q e f k h = absurd (let g = of_above b q f zero k in omega arith)
any_not_below (suc d) a b q e f k h =
    let l = level_laws (suc d) in
    let g = fits_of b q f d k in
    g.1 (l.lattice.same (parts_view d q) (ops (suc d)).any (parts_normal d (parts_view d q) g.0.normal) l.any_normal (λ x i. l.any_in x)
    (λ x i. subst (HasAt (suc d) x) (view_of b q f d) (h x (subst (HasAt (suc d) x) (sym (view_any a e (suc d))) i))))

-- a test of the parts, of the level below, is one of the types
pub parts_tell : (d : ℕ) (a b : Node) (p q : PartsOf Node) (r : Bool) → a ≡ v.Of p → b ≡ v.Of q → Fits d a → IsTrue r ↔ BelowBy (HasParts (HasAt (d - 1))) (parts_view (d - 1) p) (parts_view (d - 1) q)
    → IsTrue r ↔ BelowBy (HasAt d) (view d a) (view d b)
parts_tell zero a b p q r e f k h = absurd (let g = of_above a p e zero k in omega arith)
parts_tell (suc d) a b p q r e f k h =
    let less : suc d - 1 ≡ d = omega arith in
    let g : IsTrue r ↔ BelowBy (HasParts (HasAt d)) (parts_view d p) (parts_view d q) = subst (λ n. IsTrue r ↔ BelowBy (HasParts (HasAt n)) (parts_view n p) (parts_view n q)) less h in
    subst₂ (λ s t. IsTrue r ↔ BelowBy (HasAt (suc d)) s t) (sym (view_of a p e d)) (sym (view_of b q f d)) g

module _ {E : Type 0} (Has : Value → E → Type 0) (p q : Parts E) where
  shapes_below : PlainBelow p.plain q.plain → BelowBy (HasCell Has) p.cell q.cell → BelowBy (HasTuple Has) p.tuples q.tuples → (x : Shape) → HasShape Has x p → HasShape Has x q
  shapes_below f g h (leaf l) = f l
  shapes_below f g h (pair x y) = g (x, y)
  shapes_below f g h (row vs) = h vs

  -- types are included where their parts are
  pub all_parts_below : PlainBelow p.plain q.plain → BelowBy (HasCell Has) p.cell q.cell → BelowBy (HasTuple Has) p.tuples q.tuples → BelowBy (HasParts Has) p q
  all_parts_below f g h x k = subst (λ T. T) (sym (has-shape Has x q)) (shapes_below f g h (shape x) (subst (λ T. T) (has-shape Has x p) k))

  shape_below : BelowBy (HasParts Has) p q → (x : Shape) → HasShape Has x p → HasShape Has x q
  shape_below f x k =
      let w = value_of_shape x in
      let there : HasShape Has (shape w) p = subst (λ y. HasShape Has y p) (sym (shape-value_of_shape x)) k in
      subst (λ y. HasShape Has y q) (shape-value_of_shape x) (subst (λ T. T) (has-shape Has w q) (f w (subst (λ T. T) (sym (has-shape Has w p)) there)))

  pub plain_below : BelowBy (HasParts Has) p q → PlainBelow p.plain q.plain
  plain_below f l = shape_below f (leaf l)

  pub cell_below : BelowBy (HasParts Has) p q → BelowBy (HasCell Has) p.cell q.cell
  cell_below f x = shape_below f (pair x.0 x.1)

  pub tuples_below : BelowBy (HasParts Has) p q → BelowBy (HasTuple Has) p.tuples q.tuples
  tuples_below f vs = shape_below f (row vs)

-- the tuples decide, once the rest is included
pub tuples_tell : (d : ℕ) (p q : PartsOf Node) (r : Bool) → PlainBelow p.plain q.plain → BelowBy (HasCell (HasAt d)) (cell_view d p.cell) (cell_view d q.cell)
    → IsTrue r ↔ BelowBy (HasTuple (HasAt d)) (tuples_view d p.tuples) (tuples_view d q.tuples) → IsTrue r ↔ BelowBy (HasParts (HasAt d)) (parts_view d p) (parts_view d q)
tuples_tell d p q r f g e = passed r e (all_parts_below (HasAt d) (parts_view d p) (parts_view d q) f g) (tuples_below (HasAt d) (parts_view d p) (parts_view d q))

-- ---- lists that aren't empty

module _ (d : ℕ) (a b : Option (CellOf Node)) (k : CellFits d a) where
  abbrev Below : Type 0
  Below = BelowBy (HasCell (HasAt d)) (cell_view d a) (cell_view d b)

  element_fits : (x : CellOf Node) → a ≡ Some x → CellFits d (Some x)
  element_fits x e = subst (CellFits d) e k

  pub some_cell_not_below : (x : CellOf Node) → a ≡ Some x → b ≡ None → Below → ⊥
  some_cell_not_below x e f h =
      let w = value_of (level_laws d) (view d x.element) (element_fits x e).normal in
      subst₂ (λ s t. BelowBy (HasCell (HasAt d)) (cell_view d s) (cell_view d t)) e f h (w.0, nil) ((w.1, tt), λ i. refl)

  both_cells : (x y : CellOf Node) → a ≡ Some x → b ≡ Some y → Below → BelowBy (HasAt d) (view d x.element) (view d y.element) × (y.is_proper ≡ true → x.is_proper ≡ true)
  both_cells x y e f h =
      cell-below (level_laws d) (record { element = view d x.element; is_proper = x.is_proper }) (record { element = view d y.element; is_proper = y.is_proper }) (element_fits x e).normal
      (subst₂ (λ s t. BelowBy (HasCell (HasAt d)) (cell_view d s) (cell_view d t)) e f h)

  pub free_not_below : (x y : CellOf Node) → a ≡ Some x → b ≡ Some y → y.is_proper ≡ true → x.is_proper ≡ false → Below → ⊥
  free_not_below x y e f p n h = true≢false (sym ((both_cells x y e f h).1 p) ∙ n)

  -- the element types decide, where the ends allow it
  pub elements_tell : (x y : CellOf Node) (r : Bool) → a ≡ Some x → b ≡ Some y → (y.is_proper ≡ true → x.is_proper ≡ true) → IsTrue r ↔ BelowBy (HasAt d) (view d x.element) (view d y.element) → IsTrue r ↔ Below
  elements_tell x y r e f p i =
      passed r i (λ h. subst₂ (λ s t. BelowBy (HasCell (HasAt d)) (cell_view d s) (cell_view d t)) (sym e) (sym f)
      (λ z j. (all-more (level_laws d) (view d x.element) (view d y.element) h (and_value z.0 (heads z.1)) j.0, λ q. j.1 (p q)))) (λ h. (both_cells x y e f h).0)

-- ---- products

-- position by position
pub each_position : (d : ℕ) (xs ys : List Node) → length xs ≡ length ys → ((k : ℕ) → k < length xs → (x : Node) → BelowBy (HasAt d) (view d (slice_index_or xs k x)) (view d (slice_index_or ys k x)))
    → BelowEach (HasAt d) (row_view d xs) (row_view d ys)
each_position d [] [] e f = tt
each_position d [] (y ∷ ys) e f = absurd (omega arith)
each_position d (x ∷ xs) [] e f = absurd (omega arith)
each_position d (x ∷ xs) (y ∷ ys) e f = (f 0 (omega arith) x, each_position d xs ys (omega arith) (λ k h z. f (suc k) (omega arith) z))

at_position : (d : ℕ) (xs ys : List Node) → BelowEach (HasAt d) (row_view d xs) (row_view d ys) → (k : ℕ) → k < length xs → (x y : Node) → BelowBy (HasAt d) (view d (slice_index_or xs k x)) (view d (slice_index_or ys k y))
at_position d [] ys f k h x y = absurd (omega arith)
at_position d (n ∷ ns) [] f k h x y = absurd f
at_position d (n ∷ ns) (m ∷ ms) f zero h x y = f.0
at_position d (n ∷ ns) (m ∷ ms) f (suc k) h x y = at_position d ns ms f.1 k (omega arith) x y

pub row_length : (d n : ℕ) (xs : List Node) → RowFits d n xs → length xs ≡ n
row_length d n xs k = sym (length-map xs (view d)) ∙ k.normal.0

pub row_below : (d n : ℕ) (xs ys : List Node) → RowFits d n xs → RowFits d n ys → ((k : ℕ) → k < length xs → (x : Node) → BelowBy (HasAt d) (view d (slice_index_or xs k x)) (view d (slice_index_or ys k x)))
    → BelowBy (HasRow (HasAt d)) (Some (row_view d xs)) (Some (row_view d ys))
row_below d n xs ys j k f = each-more (level_laws d) (row_view d xs) (row_view d ys) (each_position d xs ys (row_length d n xs j ∙ sym (row_length d n ys k)) f)

-- what a row's inclusion owes a position
pub position_below : (d n : ℕ) (xs ys : List Node) → RowFits d n xs → BelowBy (HasRow (HasAt d)) (Some (row_view d xs)) (Some (row_view d ys)) → (i : ℕ) (x y : Node) → i < length xs → x ≡ slice_index_or xs i x
    → y ≡ slice_index_or ys i y → BelowBy (HasAt d) (view d x) (view d y)
position_below d n xs ys k h i x y lt e f =
    subst₂ (λ s t. BelowBy (HasAt d) (view d s) (view d t)) (sym e) (sym f) (at_position d xs ys (each-below (level_laws d) (row_view d xs) (row_view d ys) k.normal.1 h) i lt x y)

-- ---- the tuples of one size

pub product_not_below : (d n : ℕ) (a b : BodyOf Node) (xs : List Node) (ts : List (TagOf Node)) → a ≡ of_body.Product xs → b ≡ of_body.Tags ts → BodyFits d n a → BodyFits d n b
    → BelowBy (HasBody (HasAt d)) (Some (body_view d a)) (Some (body_view d b)) → ⊥
product_not_below d n a b xs ts e f j k h =
    let x : BodyFits d n (of_body.Product xs) = subst (BodyFits d n) e j in
    let y : BodyFits d n (of_body.Tags ts) = subst (BodyFits d n) f k in
    not_tags (level_laws d) n (row_view d xs) (tags_view d ts) x.normal y.normal (subst₂ (λ s t. BelowBy (HasBody (HasAt d)) (Some (body_view d s)) (Some (body_view d t))) e f h)

-- ---- tags

module _ (d : ℕ) (b : BodyOf Node) where
  -- the rest of a tag's tuples is among what follows its atom in the body
  abbrev pub TagBelow : TagOf Node → Type 0
  TagBelow t = BelowBy (HasRow (HasAt d)) (Some (row_view d t.rest)) (row_at (ops d) (body_view d b) t.atom)

  abbrev EntryBelow : Name → List (TypeAt d) → Type 0
  EntryBelow a es = BelowBy (HasRow (HasAt d)) (Some es) (row_at (ops d) (body_view d b) a)

  pub each_tag_below : (ts : List (TagOf Node)) (i : ℕ) → length ts ≤ i → All TagBelow (take i ts) → BelowBy (HasBody (HasAt d)) (Some (tags (tags_view d ts))) (Some (body_view d b))
  each_tag_below ts i le f = each_tag (level_laws d) (tags_view d ts) (body_view d b) (λ a. at (find name_cmp (tags_view d ts) a) a refl)
    where
      at : (r : Option (List (TypeAt d))) (a : Name) → find name_cmp (tags_view d ts) a ≡ r → BelowBy (HasRow (HasAt d)) r (row_at (ops d) (body_view d b) a)
      at None a e = λ vs h. absurd h
      at (Some es) a e = each_at name_total name_same EntryBelow (tags_view d ts) (each_entry (tag_entry d) EntryBelow ts (each_item TagBelow ts i le f)) a es e

  -- what the inclusion of tags owes one of them
  pub tag_below : (n : ℕ) (ts : List (TagOf Node)) → TagsFit d n ts → BelowBy (HasBody (HasAt d)) (Some (tags (tags_view d ts))) (Some (body_view d b)) → (i : ℕ) (t : TagOf Node) → i < length ts → t ≡ slice_index_or ts i t
      → TagBelow t
  tag_below n ts k h i t lt e =
      let f = tag_of (level_laws d) (tags_view d ts) (body_view d b) h in
      subst TagBelow (sym e) (all_entries (tag_entry d) EntryBelow ts (each_from name_total name_same EntryBelow (tags_view d ts) k.normal.0 (λ a es q. subst (λ r. BelowBy (HasRow (HasAt d)) r (row_at (ops d) (body_view d b) a)) q (f a)))
      i t lt)

pub rest_fits : (d n : ℕ) (ts : List (TagOf Node)) → TagsFit d n ts → (i : ℕ) (t : TagOf Node) → i < length ts → t ≡ slice_index_or ts i t → RowFits d n t.rest
rest_fits d n ts k i t lt e = subst (λ s. RowFits d n s.rest) (sym e) (record { normal = all_entries (tag_entry d) (λ a es. NormalRow (NormalAt d) (ops d) n (Some es)) ts k.normal.2 i t lt; each = tag_at (Fits d) ts k.each i t lt })

-- what follows an atom in a body
pub after_fits : (d n : ℕ) (b : BodyOf Node) (a : Name) (xs : List Node) → BodyFits d (suc n) b → Some (row_view d xs) ≡ row_at (ops d) (body_view d b) a → EachNode (Fits d) xs → RowFits d n xs
after_fits d n b a xs k e f = record { normal = subst (NormalRow (NormalAt d) (ops d) n) (sym e) (row_at_normal (level_laws d) n (body_view d b) a k.normal); each = f }

pub tag_absent : (d n : ℕ) (b : BodyOf Node) (t : TagOf Node) → RowFits d n t.rest → None ≡ row_at (ops d) (body_view d b) t.atom → TagBelow d b t → ⊥
tag_absent d n b t k e f =
    let w = values_of (level_laws d) (row_view d t.rest) k.normal.1 in
    subst (HasRow (HasAt d) w.0) (sym e) (f w.0 w.1)

-- a test of the rest of a tag's tuples, where something follows its atom
pub tag_tells : (d : ℕ) (b : BodyOf Node) (t : TagOf Node) (xs ys : List Node) (r : Bool) → xs ≡ t.rest → Some (row_view d ys) ≡ row_at (ops d) (body_view d b) t.atom
    → IsTrue r ↔ BelowBy (HasRow (HasAt d)) (Some (row_view d xs)) (Some (row_view d ys)) → IsTrue r ↔ TagBelow d b t
tag_tells d b t xs ys r e f h = subst₂ (λ x y. IsTrue r ↔ BelowBy (HasRow (HasAt d)) (Some (row_view d x)) y) e f h

-- ---- sizes

module _ (d : ℕ) (w : List (SizeOf Node)) where
  -- a size's tuples are among the others of that size
  abbrev pub SizeBelow : SizeOf Node → Type 0
  SizeBelow s = BelowBy (HasBody (HasAt d)) (Some (body_view d s.body)) (find nat_cmp (sizes_view d w) s.size)

  abbrev BodyBelow : ℕ → Body (TypeAt d) → Type 0
  BodyBelow n x = BelowBy (HasBody (HasAt d)) (Some x) (find nat_cmp (sizes_view d w) n)

  pub each_size_below : (ss : List (SizeOf Node)) (i : ℕ) → length ss ≤ i → All SizeBelow (take i ss) → BelowBy (HasTuple (HasAt d)) (sizes (sizes_view d ss)) (sizes (sizes_view d w))
  each_size_below ss i le f vs = at (find nat_cmp (sizes_view d ss) (count vs)) refl
    where
      at : (r : Option (Body (TypeAt d))) → find nat_cmp (sizes_view d ss) (count vs) ≡ r → HasBody (HasAt d) vs r → HasBody (HasAt d) vs (find nat_cmp (sizes_view d w) (count vs))
      at None e h = absurd h
      at (Some x) e h = each_at nat_cmp_total nat_cmp-IsAntisymmetric BodyBelow (sizes_view d ss) (each_entry (size_entry d) BodyBelow ss (each_item SizeBelow ss i le f)) (count vs) x e vs h

  -- what the inclusion of sizes owes one of them
  pub size_below : (ss : List (SizeOf Node)) → SizesFit d ss → BelowBy (HasTuple (HasAt d)) (sizes (sizes_view d ss)) (sizes (sizes_view d w)) → (i : ℕ) (s : SizeOf Node) → i < length ss → s ≡ slice_index_or ss i s
      → SizeBelow s
  size_below ss k h i s lt e =
      let f = to_size (level_laws d) (sizes_view d ss) (sizes_view d w) k.normal h in
      subst SizeBelow (sym e) (all_entries (size_entry d) BodyBelow ss (each_from nat_cmp_total nat_cmp-IsAntisymmetric BodyBelow (sizes_view d ss) k.table
      (λ n x q. subst (λ r. BelowBy (HasBody (HasAt d)) r (find nat_cmp (sizes_view d w) n)) q (f n))) i s lt)

pub size_fits : (d : ℕ) (ss : List (SizeOf Node)) → SizesFit d ss → (i : ℕ) (s : SizeOf Node) → i < length ss → s ≡ slice_index_or ss i s → BodyFits d s.size s.body
size_fits d ss k i s lt e = subst (λ x. BodyFits d x.size x.body) (sym e) (record { normal = (all_entries (size_entry d) (NormalSize (NormalAt d) (ops d)) ss k.normal i s lt).1; each = size_at (Fits d) ss k.each i s lt })

-- what is found at a size
pub found_fits : (d : ℕ) (w : List (SizeOf Node)) (n : ℕ) (x : BodyOf Node) → SizesFit d w → Some (body_view d x) ≡ find nat_cmp (sizes_view d w) n → EachInBody (Fits d) x → BodyFits d n x
found_fits d w n x k e f = record { normal = subst (NormalBody (NormalAt d) (ops d) n) (sym e) (normal_at (level_laws d) (sizes_view d w) k.normal n); each = f }

pub size_absent : (d : ℕ) (w : List (SizeOf Node)) (s : SizeOf Node) → BodyFits d s.size s.body → None ≡ find nat_cmp (sizes_view d w) s.size → SizeBelow d w s → ⊥
size_absent d w s k e f = elim ((body_lattice (level_laws d) s.size).filled (Some (body_view d s.body)) k.normal) [
  | inl z ↦ some-none (body_view d s.body) z
  | inr x ↦ subst (HasBody (HasAt d) x.0) (sym e) (f x.0 x.1)
]

pub size_tells : (d : ℕ) (w : List (SizeOf Node)) (s : SizeOf Node) (x : BodyOf Node) (r : Bool) → Some (body_view d x) ≡ find nat_cmp (sizes_view d w) s.size
    → IsTrue r ↔ BelowBy (HasBody (HasAt d)) (Some (body_view d s.body)) (Some (body_view d x)) → IsTrue r ↔ SizeBelow d w s
size_tells d w s x r e f = subst (λ b. IsTrue r ↔ BelowBy (HasBody (HasAt d)) (Some (body_view d s.body)) b) e f

-- ---- tuples

pub sizes_fit : (d : ℕ) (a : TuplesOf Node) (ss : List (SizeOf Node)) → a ≡ of_tuples.Sizes ss → TuplesFit d a → SizesFit d ss
sizes_fit d a ss e k = let f : TuplesFit d (of_tuples.Sizes ss) = subst (TuplesFit d) e k in record { table = f.normal.0; normal = f.normal.2; each = f.each }

pub all_not_below : (d : ℕ) (a b : TuplesOf Node) (ss : List (SizeOf Node)) → a ≡ of_tuples.All → b ≡ of_tuples.Sizes ss → TuplesFit d b → BelowBy (HasTuple (HasAt d)) (tuples_view d a) (tuples_view d b) → ⊥
all_not_below d a b ss e f k h =
    let g : TuplesFit d (of_tuples.Sizes ss) = subst (TuplesFit d) f k in
    not_all (level_laws d) (sizes_view d ss) g.normal (λ vs. subst₂ (λ s t. BelowBy (HasTuple (HasAt d)) (tuples_view d s) (tuples_view d t)) e f h vs tt)
