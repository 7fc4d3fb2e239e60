-- The laws of ranks: a smaller type has a lower rank, so a chain of smaller and smaller types ends.
use Rattle.std.proofs.Common.{◌≡◌, ◌⊎◌, ◌≤◌, ◌<◌, ◌+◌, ◌*◌, inl, inr, ℕ, zero, suc, true, false, List, [], ◌∷◌, Option, Some, None, length, refl, ap, subst, arith}
use Rattle.std.specs.declared.cmp.Ordering.{Ordering}
use Rattle.std.specs.Ordering.{nat_cmp, eq_by_cmp}
use Rattle.std.specs.Cmp.{IsTotalOrder, nat_cmp_total}
use Rattle.std.specs.FinSet.{IsAntisymmetric, nat_cmp-IsAntisymmetric}
use Rattle.std.proofs.lemmas.Bool.{cases_Bool}
use Rattle.type_kinds_sets.specs.Names.{Name, name_cmp}
use Rattle.type_kinds_sets.proofs.AscendingLaws as ascending
use Rattle.type_kinds_sets.proofs.NameLaws.{name_total, name_same}
use Rattle.type_lattice_model.specs.Values.{Value, nil, cons, tuple}
use Rattle.type_lattice_model.specs.Tables.{EachEntry, is_table, find}
use Rattle.type_lattice_model.specs.Shapes.{Cell, Body, product, tags, Tuples, sizes, all_tuples, Parts, TypeAt}
use Rattle.type_lattice_model.specs.HasType.{HasRow, HasCell, HasBody, HasTuple, HasParts, HasAt}
use Rattle.type_lattice_model.specs.Operations.{Ops, row_at, ops}
use Rattle.type_lattice_model.specs.Normal.{AreElements, NormalCell, NormalRow, NormalBody, NormalSize, NormalTuples, NormalParts, NormalAt}
use Rattle.type_lattice_model.specs.Laws.{BelowBy, Laws}
use Rattle.type_lattice_model.specs.ValueShapes.{leaf}
use Rattle.type_lattice_model.specs.Ranks.{plain_rank, cell_rank, table_rank, row_rank, body_rank, most_body, tuples_rank, parts_rank, most_parts, most_at, rank, FallsAt}
use Rattle.type_lattice_model.proofs.TableLaws as tables
use Rattle.type_lattice_model.proofs.PlainLaws.{Lower, plain-lower, plain-most}
use Rattle.type_lattice_model.proofs.CellLaws.{value_of, cell-below}
use Rattle.type_lattice_model.proofs.RowLaws.{BelowEach, values_of, each-below}
use Rattle.type_lattice_model.proofs.BodyLaws.{rows_at, row_at_normal, tag_of, not_tags, body_lattice}
use Rattle.type_lattice_model.proofs.TupleLaws.{normal_at, to_size, not_all}
use Rattle.type_lattice_model.proofs.PartsLaws.{by_shape, shapes_below}
use Rattle.type_lattice_model.proofs.LevelLaws.{level_laws}

-- ---- what it means that a part has a lower rank

-- what is made of them has their ranks
lower-of : {A S : Type 0} {x y : ℕ} {a c : A} (f : A → S) → (a ≡ c) ⊎ (x < y) → (f a ≡ f c) ⊎ (x < y)
lower-of f (inl e) = inl (ap f e)
lower-of f (inr h) = inr h

-- ---- tables

-- what is held is of lower rank, and where nothing is held there is nothing to show
abbrev LowerAt : {X : Type 0} → (X → ℕ) → Option X → Option X → Type 0
LowerAt g None y = Unit {0}
LowerAt g (Some x) None = ⊥
LowerAt g (Some x) (Some y) = Lower g x y

module _ {K X : Type 0} {R : K → K → Ordering} (t : IsTotalOrder R) (same : IsAntisymmetric R) (g : X → ℕ) where
  abbrev AllLower : List (K × X) → List (K × X) → Type 0
  AllLower m w = (q : K) → LowerAt g (find R m q) (find R w q)

  -- behind an equal first key all is as it was
  lower-rest : (e d : K × X) (m w : List (K × X)) → is_table R (e ∷ m) ≡ true → eq_by_cmp R e.0 d.0 ≡ true → AllLower (e ∷ m) (d ∷ w) → AllLower m w
  lower-rest e d m w a s f q = grind (arith, f q, ascending.is_it t same, tables.find-again t same)

  -- a first key that isn't the other's is in the other's rest, and all keys behind it
  lower-behind : (e d : K × X) (m w : List (K × X)) → is_table R (e ∷ m) ≡ true → is_table R (d ∷ w) ≡ true → eq_by_cmp R e.0 d.0 ≡ false → AllLower (e ∷ m) (d ∷ w) → AllLower (e ∷ m) w
  lower-behind e d m w a b s f q = grind (arith, f q, f e.0, tables.find-first t same, ascending.is_it t same, tables.found-above t same, ascending.below-both_ways t same)

  -- along both tables: the first keys are equal, or the other's is one more
  lower-first : (e d : K × X) (m w : List (K × X)) → eq_by_cmp R e.0 d.0 ≡ true → AllLower (e ∷ m) (d ∷ w) → Lower (table_rank g) m w → Lower (table_rank g) (e ∷ m) (d ∷ w)
  lower-first e d m w s f r = grind (arith, f e.0, ascending.is_it t same, tables.find-first t same)

  table-lower : (m w : List (K × X)) → is_table R m ≡ true → is_table R w ≡ true → AllLower m w → Lower (table_rank g) m w
  table-lower [] [] a b f = inl refl
  table-lower [] (d ∷ w) a b f = inr (omega arith)
  table-lower (e ∷ m) [] a b f = grind (arith, f e.0, tables.find-first t same)
  table-lower (e ∷ m) (d ∷ w) a b f = elim (cases_Bool (eq_by_cmp R e.0 d.0)) [
    | inl s ↦ lower-first e d m w s f (table-lower m w (tables.table-rest t same e m a) (tables.table-rest t same d w b) (lower-rest e d m w a s f))
    | inr s ↦
        let rest : Lower (table_rank g) (e ∷ m) w = table-lower (e ∷ m) w a (tables.table-rest t same d w b) (lower-behind e d m w a b s f) in
        grind arith
  ]

-- n entries at most, of which none holds anything of a rank above b
table-most : {K X : Type 0} (P : K → X → Type 0) (g : X → ℕ) (b : ℕ) → ((k : K) (x : X) → P k x → g x ≤ b) → (n : ℕ) (m : List (K × X)) → length m ≤ n → EachEntry P m → table_rank g m ≤ n * (1 + b)
table-most P g b h n [] few f = omega arith
table-most P g b h zero (e ∷ m) few f = absurd (omega arith)
table-most P g b h (suc n) (e ∷ m) few f = grind (arith, h, table-most P g b h n m (omega arith) f.1)

-- ---- what is made of element types

module _ {E : Type 0} (rank_of : E → ℕ) (most : ℕ) where
  cells-lower : (s t : Cell E) → Lower rank_of s.element t.element → (t.is_proper ≡ true → s.is_proper ≡ true) → Lower (cell_rank rank_of most) (Some s) (Some t)
  cells-lower s t h k = grind arith

  -- a row with one more type at its front, and the product of that row
  rows-lower : (x y : E) (xs ys : List E) → Lower rank_of x y → Lower (row_rank rank_of most) xs ys → Lower (row_rank rank_of most) (x ∷ xs) (y ∷ ys) × Lower (body_rank rank_of most) (product (x ∷ xs)) (product (y ∷ ys))
  rows-lower x y xs ys h k = (grind arith, grind arith)

  parts-lower : (p q : Parts E) → Lower plain_rank p.plain q.plain → Lower (cell_rank rank_of most) p.cell q.cell → Lower (tuples_rank rank_of most) p.tuples q.tuples → Lower (parts_rank rank_of most) p q
  parts-lower p q a b c = grind arith

-- ---- the types of one level

-- below means lower, and no rank is above `most`
pub record Ranked {E : Type 0} (Has : Value → E → Type 0) (Normal : E → Type 0) (rank_of : E → ℕ) (most : ℕ) : Type 0 where
  pub lower : (s t : E) → Normal s → Normal t → BelowBy Has s t → Lower rank_of s t
  pub bound : (t : E) → Normal t → rank_of t ≤ most

module _ {E : Type 0} {Has : Value → E → Type 0} {Normal : E → Type 0} {o : Ops E} (l : Laws Has Normal o) {rank_of : E → ℕ} {most : ℕ} (r : Ranked Has Normal rank_of most) where
  -- the ranks of what a tuple of the next level is made of
  abbrev of_row : List E → ℕ
  of_row = row_rank rank_of most

  abbrev of_body : Body E → ℕ
  of_body = body_rank rank_of most

  -- ---- lists that aren't empty

  cell-lower : (s t : Option (Cell E)) → NormalCell Normal o s → NormalCell Normal o t → BelowBy (HasCell Has) s t → Lower (cell_rank rank_of most) s t
  cell-lower None None j k f = inl refl
  cell-lower None (Some t) j k f = inr (omega arith)
  cell-lower (Some s) None j k f = let w = value_of l s.element j in absurd (f (w.0, nil) ((w.1, tt), λ e. refl))
  cell-lower (Some s) (Some t) j k f = let b = cell-below l s t j f in cells-lower rank_of most s t (r.lower s.element t.element j.0 k.0 b.0) b.1

  cell-most : (s : Option (Cell E)) → NormalCell Normal o s → cell_rank rank_of most s ≤ 2 + most
  cell-most None k = omega arith
  cell-most (Some c) k = grind (arith, r.bound c.element k.0)

  -- ---- products

  each-lower : (es fs : List E) → AreElements Normal o es → AreElements Normal o fs → BelowEach Has es fs → Lower of_row es fs
  each-lower [] [] j k f = inl refl
  each-lower (x ∷ xs) (y ∷ ys) j k f = (rows-lower rank_of most x y xs ys (r.lower x y j.0.0 k.0.0 f.0) (each-lower xs ys j.1 k.1 f.1)).0
  each-lower es fs j k f = absurd f

  row-lower : (n : ℕ) (s t : Option (List E)) → NormalRow Normal o n s → NormalRow Normal o n t → BelowBy (HasRow Has) s t → LowerAt of_row s t
  row-lower n None t j k f = tt
  row-lower n (Some es) None j k f = let w = values_of l es j.1 in f w.0 w.1
  row-lower n (Some es) (Some fs) j k f = each-lower es fs j.1 k.1 (each-below l es fs j.1 f)

  row-most : (n : ℕ) (es : List E) → length es ≤ n → AreElements Normal o es → of_row es ≤ n * most
  row-most n [] h k = omega arith
  row-most zero (e ∷ es) h k = absurd (omega arith)
  row-most (suc n) (e ∷ es) h k = grind (arith, r.bound, row-most n es (omega arith) k.1)

  -- ---- tuples of one size

  body-lower : (n : ℕ) (s t : Option (Body E)) → NormalBody Normal o n s → NormalBody Normal o n t → BelowBy (HasBody Has) s t → LowerAt of_body s t
  body-lower n None t j k f = tt
  body-lower n (Some b) None j k f = elim ((body_lattice l n).filled (Some b) j) [ inl e ↦ tables.some-none b e | inr w ↦ f w.0 w.1 ]
  body-lower n (Some (product [])) (Some (product [])) j k f = inl refl
  body-lower n (Some (product (x ∷ xs))) (Some (product (y ∷ ys))) j k f =
      let b = each-below l (x ∷ xs) (y ∷ ys) j.0.1 f in
      (rows-lower rank_of most x y xs ys (r.lower x y j.0.1.0.0 k.0.1.0.0 b.0) (each-lower xs ys j.0.1.1 k.0.1.1 b.1)).1
  body-lower n (Some (product es)) (Some (product fs)) j k f = absurd (each-below l es fs j.0.1 f)
  body-lower n (Some (product es)) (Some (tags m)) j k f = absurd (not_tags l n es m j k f)
  body-lower zero (Some (tags m)) (Some c) j k f = absurd j
  body-lower (suc n) (Some (tags m)) (Some (product [])) j k f = absurd (omega (arith, k.0.0))
  -- tags are below a product by the fourteenth of its rest
  body-lower (suc n) (Some (tags m)) (Some (product (e ∷ es))) j k f =
      let b = product (e ∷ es) in
      let at : (a : Name) → LowerAt of_row (find name_cmp m a) (row_at o b a) = λ a. row-lower n (find name_cmp m a) (row_at o b a) (rows_at l n m j.0.2 a) (row_at_normal l n b a k) (tag_of l m b f a) in
      let each = tables.each_from name_total name_same (λ a fs. of_row fs ≤ of_row es) m j.0.0 (λ a fs q. grind (arith, at a)) in
      inr (omega (arith, table-most (λ a fs. of_row fs ≤ of_row es) of_row (of_row es) (λ a fs h. h) 13 m (grind arith) each))
  body-lower (suc n) (Some (tags m)) (Some (tags w)) j k f =
      lower-of tags (table-lower name_total name_same of_row m w j.0.0 k.0.0 (λ a. row-lower n (find name_cmp m a) (find name_cmp w a) (rows_at l n m j.0.2 a) (rows_at l n w k.0.2 a) (tag_of l m (tags w) f a)))

  body-most : (n : ℕ) (b : Body E) → NormalSize Normal o n b → of_body b ≤ most_body rank_of most
  body-most n (product []) k = omega arith
  body-most n (product (e ∷ es)) k = omega (arith, r.bound e k.1.0.1.0.0, row-most 64 es (grind arith) k.1.0.1.1)
  body-most zero (tags m) k = absurd k.1
  body-most (suc n) (tags m) k = omega (arith, table-most (λ a es. NormalRow Normal o n (Some es)) of_row (64 * most) (λ a es h. row-most 64 es (grind arith) h.1) 13 m (grind arith) k.1.0.2)

  -- ---- tuples

  -- no more than eight sizes
  sizes-most : (m : List (ℕ × Body E)) → NormalTuples Normal o (sizes m) → tuples_rank rank_of most (sizes m) ≤ 8 * (1 + most_body rank_of most)
  sizes-most m k = table-most (NormalSize Normal o) of_body (most_body rank_of most) body-most 8 m (grind arith) k.2

  tuples-lower : (s t : Tuples E) → NormalTuples Normal o s → NormalTuples Normal o t → BelowBy (HasTuple Has) s t → Lower (tuples_rank rank_of most) s t
  tuples-lower all_tuples all_tuples j k f = inl refl
  tuples-lower all_tuples (sizes m) j k f = absurd (not_all l m k (λ vs. f vs tt))
  tuples-lower (sizes m) all_tuples j k f = inr (omega (arith, sizes-most m j))
  tuples-lower (sizes m) (sizes w) j k f =
      lower-of sizes (table-lower nat_cmp_total nat_cmp-IsAntisymmetric of_body m w j.0 k.0 (λ q. body-lower q (find nat_cmp m q) (find nat_cmp w q) (normal_at l m j.2 q) (normal_at l w k.2 q) (to_size l m w j.2 f q)))

  tuples-most : (t : Tuples E) → NormalTuples Normal o t → tuples_rank rank_of most t ≤ 1 + 8 * (1 + most_body rank_of most)
  tuples-most t h = grind (arith, sizes-most)

  -- ---- types of the next level

  pub next_ranked : Ranked (HasParts Has) (NormalParts Normal o) (parts_rank rank_of most) (most_parts rank_of most)
  next_ranked = record {
    lower = λ p q j k f. parts-lower rank_of most p q
        (plain-lower p.plain q.plain (λ x. shapes_below l p q (subst (λ H. BelowBy H p q) (by_shape l) f) (leaf x)))
        (cell-lower p.cell q.cell j.1 k.1 (λ c. f (cons c.0 c.1)))
        (tuples-lower p.tuples q.tuples j.2 k.2 (λ vs. f (tuple vs)));
    bound = λ p k. omega (arith, plain-most p.plain, cell-most p.cell k.1, tuples-most p.tuples k.2);
  }

-- ---- the types of each level

pub level_ranked : (d : ℕ) → Ranked (HasAt d) (NormalAt d) (rank d) (most_at d)
unfolding NormalAt ops rank most_at
level_ranked zero = record { lower = λ s t j k f. grind (arith, f nil); bound = λ t k. grind arith }
level_ranked (suc d) = next_ranked (level_laws d) (level_ranked d)

-- a smaller type has a lower rank
pub rank-lower : (d : ℕ) (s t : TypeAt d) → NormalAt d s → NormalAt d t → BelowBy (HasAt d) s t → (s ≡ t → ⊥) → rank d s < rank d t
rank-lower d s t j k f n = elim ((level_ranked d).lower s t j k f) [ inl e ↦ absurd (n e) | inr h ↦ h ]

-- so no chain down from a type is longer than its rank
pub falls-rank : (d n : ℕ) (t : TypeAt d) → NormalAt d t → FallsAt d n t → n ≤ rank d t
unfolding FallsAt
falls-rank d zero t k f = omega arith
falls-rank d (suc n) t k f = grind (arith, rank-lower, falls-rank d n f.0 f.1.0 f.1.3)

pub ruleset ranks_of = (rank-lower, level_ranked, falls-rank)
