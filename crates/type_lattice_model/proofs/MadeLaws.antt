-- The laws of types made of types: of tuples and of lists, and of the elements, heads and tails that these have.
use Rattle.std.proofs.Common.{◌≡◌, ◌⊎◌, ℕ, suc, ◌-◌, Bool, true, false, cond, ◌&&◌, inl, inr, List, [], ◌∷◌, length}
use Rattle.std.proofs.Common.{Option, Some, None, refl, sym, ap, ◌∙◌, subst, arith, ◌↔◌, nat_lt, slice_get, nat_cmp}
use Rattle.std.proofs.lemmas.Bool.{true_from_ne_false}
use Rattle.type_kinds.proofs.Truths.{second}
use Rattle.type_lattice_model.specs.Values.{Value, atom, nil, cons, tuple, Values, no_value, and_value, count, heads, end_of}
use Rattle.type_lattice_model.specs.Tables.{find}
use Rattle.type_lattice_model.specs.Shapes.{Cell, Body, Tuples, sizes, all_tuples, Parts, TypeAt}
use Rattle.type_lattice_model.specs.HasType.{HasAll, HasEach, HasCell, HasBody, HasTuple, HasParts, HasAt}
use Rattle.type_lattice_model.specs.Operations.{Ops, plain_none, has_none, body_of, elements, parts_is_none, ops}
use Rattle.type_lattice_model.specs.Normal.{NormalCell, AreElements, NormalBody, NormalTuples, NormalParts, NormalAt}
use Rattle.type_lattice_model.specs.Cut.{cut}
use Rattle.type_lattice_model.specs.Parts.{value_at, AreNormal, product_of, without_nil, is_list, element_with, element_at, tail_parts, tuple_at, cons_at, lifted, project_at, element_of, elem_at, tail_at}
use Rattle.type_lattice_model.specs.Laws.{BelowBy, Laws}
use Rattle.type_lattice_model.proofs.CellLaws.{value_of, filled-not_none, all-more}
use Rattle.type_lattice_model.proofs.RowLaws.{values_of, count_each, row_filled-not_none}
use Rattle.type_lattice_model.proofs.BodyLaws.{body_of_in, body_of_out, body_of_normal, elements_normal, elements_above}
use Rattle.type_lattice_model.proofs.TupleLaws.{normal_at, small_at, tuples_lattice}
use Rattle.type_lattice_model.proofs.PartsLaws.{next_laws}
use Rattle.type_lattice_model.proofs.LevelLaws.{level_laws}
use Rattle.type_lattice_model.proofs.LeastLaws.{IsLeast, less-least, cond_least, join-least, itself-least}
use Rattle.type_lattice_model.proofs.CutLaws.{cut_lowering, cut_exact}

-- ---- tuples

module _ {E : Type 0} {Has : Value → E → Type 0} {Normal : E → Type 0} {o : Ops E} (l : Laws Has Normal o) where
  pub are_elements : (es : List E) → AreNormal Normal es → has_none o es ≡ false → AreElements Normal o es
  are_elements [] k q = tt
  are_elements (e ∷ es) k q = let p : (o.is_none e ≡ false) × (has_none o es ≡ false) = grind (arith, q) in ((k.0, p.0), are_elements es k.1 p.1)

  row_is : (es : List E) (vs : Values) → HasTuple Has vs (sizes ((length es, body_of o es) ∷ [])) ↔ HasEach Has vs es
  row_is es vs = grind (arith, count_each l vs es, body_of_in l es vs, body_of_out l es vs)

  -- a normal type that has a longer tuple has all tuples
  long_tuples : (t : Tuples E) → NormalTuples Normal o t → (ws : Values) → HasTuple Has ws t → nat_lt (count ws) 65 ≡ false → (vs : Values) → HasTuple Has vs t
  long_tuples t h ws k f vs = grind (arith, small_at l)

  -- the tuples of a product type
  row_tuples : (es : List E) → AreElements Normal o es → IsLeast (HasTuple Has) (NormalTuples Normal o) (λ vs. HasEach Has vs es) (cond (nat_lt (length es) 65) (sizes ((length es, body_of o es) ∷ [])) all_tuples)
  row_tuples es k =
      cond_least (nat_lt (length es) 65) (λ q. record { normal = (refl, refl, ((q, body_of_normal l (length es) es (refl, k)), tt)); above = λ vs. (row_is es vs).1; least = λ u i p vs h. p vs ((row_is es vs).0 h) }) (λ q.
      let w = values_of l es k in
      record { normal = tt; above = λ vs h. tt; least = λ u i p vs h. long_tuples u i w.0 (p w.0 w.1) (ap (λ n. nat_lt n 65) (count_each l w.0 es w.1) ∙ q) vs })

  product_normal : (es : List E) → AreNormal Normal es → NormalParts Normal o (product_of o es)
  product_normal es k = grind (arith, row_tuples es, are_elements es k)

  product_out : (es : List E) (v : Value) → HasParts Has v (product_of o es) → (has_none o es ≡ false)
      × ((vs : Values) × ((v ≡ tuple vs) × HasTuple Has vs (cond (nat_lt (length es) 65) (sizes ((length es, body_of o es) ∷ [])) all_tuples)))
  product_out es v h = grind arith

  product_least : (es : List E) → AreNormal Normal es → (u : Parts E) → NormalParts Normal o u → ((vs : Values) → HasEach Has vs es → HasTuple Has vs u.tuples) → BelowBy (HasParts Has) (product_of o es) u
  product_least es k u j p v h = grind (arith, product_out, row_tuples, are_elements)

-- the tuples of some types: their type is the least of its level; where one of them is none, it is none
pub tuple-normal : (d : ℕ) (es : List (TypeAt d)) → AreNormal (NormalAt d) es → NormalAt d (tuple_at d es)
unfolding NormalAt
tuple-normal d es k = (cut_lowering (suc d) d).normal (product_of (ops d) es) (product_normal (level_laws d) es k)

pub tuple-above : (d : ℕ) (es : List (TypeAt d)) → AreNormal (NormalAt d) es → (vs : Values) → HasEach (HasAt d) vs es → HasAt d (tuple vs) (tuple_at d es)
unfolding NormalAt
tuple-above d es k vs h =
    let l = level_laws d in
    (cut_lowering (suc d) d).above (product_of (ops d) es) (product_normal l es k) (tuple vs) (grind (arith, row_filled-not_none l vs es h, row_tuples l es, are_elements l es k))

pub tuple-least : (d : ℕ) (es : List (TypeAt d)) → AreNormal (NormalAt d) es → (u : TypeAt d) → NormalAt d u → ((vs : Values) → HasEach (HasAt d) vs es → HasAt d (tuple vs) u) → BelowBy (HasAt d) (tuple_at d es) u
unfolding NormalAt
tuple-least d es k u j p =
    let up = cut_lowering d (suc d) in
    let below = product_least (level_laws d) es k (cut d (suc d) u) (up.normal u j) (λ vs x. up.above u j (tuple vs) (p vs x)) in
    (cut_lowering (suc d) d).least (product_of (ops d) es) u (product_normal (level_laws d) es k) j (λ v h. cut_exact d (suc d) (omega arith) u j v (below v h))

-- ---- lists: which types have nothing but proper lists

module _ {E : Type 0} {Has : Value → E → Type 0} {Normal : E → Type 0} {o : Ops E} (l : Laws Has Normal o) where
  -- a type without its nil, and without its lists where they are proper
  abbrev without_lists : Parts E → Parts E
  without_lists p = record { plain = without_nil p.plain; cell = elim p.cell [ None ↦ None | Some c ↦ cond c.is_proper None (Some c) ]; tuples = p.tuples }

  is_list-none : (p : Parts E) → is_list o p ≡ parts_is_none o (without_lists p)
  is_list-none p = grind arith

  -- where there is a value left, one doesn't end in nil
  no_list : (p : Parts E) (v : Value) → HasParts Has v (without_lists p) → (w : Value) × (HasParts Has w p × (end_of w ≡ nil → ⊥))
  no_list p (cons h t) k = (cons h (atom []), grind arith)
  no_list p v k = (v, grind arith)

-- the test says just whether each value of a normal type ends in nil
pub is_list-lists : (d : ℕ) (t : TypeAt (suc d)) → is_list (ops d) t ≡ true → (v : Value) → HasAt (suc d) v t → end_of v ≡ nil
is_list-lists d t e v h = grind (arith, (next_laws (level_laws d)).none-is_none (without_lists (level_laws d) t))

pub lists-is_list : (d : ℕ) (t : TypeAt (suc d)) → NormalAt (suc d) t → ((v : Value) → HasAt (suc d) v t → end_of v ≡ nil) → is_list (ops d) t ≡ true
unfolding NormalAt
lists-is_list d t k f = is_list-none (level_laws d) t ∙ true_from_ne_false (parts_is_none (ops d) (without_lists (level_laws d) t)) (λ q.
    let v = value_of (next_laws (level_laws d)) (without_lists (level_laws d) t) (grind (arith, k), q) in
    let w = no_list (level_laws d) t v.0 v.1 in
    w.1.1 (f w.0 w.1.0))

-- ---- lists of a head and a tail

module _ {E : Type 0} {Has : Value → E → Type 0} {Normal : E → Type 0} {o : Ops E} (l : Laws Has Normal o) where
  -- the element type of a list has its head, and the heads of its tail
  element_with-least : (e : E) (c : Option (Cell E)) → Normal e → NormalCell Normal o c → IsLeast Has Normal (λ v. Has v e ⊎ HasCell Has (v, nil) c) (element_with o e c)
  element_with-least e None j k = less-least (itself-least e j) (λ v h. elim h [ inl x ↦ x | inr x ↦ absurd x ]) (λ u i f v h. f v (inl h))
  element_with-least e (Some c) j k =
      less-least (join-least l.lattice (itself-least e j) (itself-least c.element k.0)) (λ v h. elim h [ inl x ↦ inl x | inr x ↦ inr x.0.0 ]) (λ u i f v h. f v (elim h [ inl x ↦ inl x | inr x ↦ inr ((x, tt), λ q. refl) ]))

  element_with-rest : (e : E) (t : Parts E) → Normal e → NormalCell Normal o t.cell → (y : Value) → HasParts Has y t → HasAll Has (heads y) (element_with o e t.cell)
  element_with-rest e t j k y q =
      let more = λ (c : Cell E) (i : NormalCell Normal o (Some c)). all-more l c.element (o.join e c.element) (l.lattice.join_right e c.element j i.0) in
      grind (arith, more)

-- the type of the lists of a head and a tail of which neither is none
abbrev pub cell_type : (d : ℕ) → TypeAt (suc d) → TypeAt (suc d) → Bool → TypeAt (suc d)
cell_type d h t proper = record {
  plain = plain_none;
  cell = Some (record { element = element_with (ops d) (cut (suc d) d h) t.cell; is_proper = proper && is_list (ops d) t });
  tuples = sizes [];
}

-- what holds of none, and of this type where neither is none, holds of the lists
pub cons-cases : (d : ℕ) (h t : TypeAt (suc d)) (proper : Bool) (Q : TypeAt (suc d) → Type 0) → Q (ops (suc d)).none → ((ops (suc d)).is_none h ≡ false → (ops (suc d)).is_none t ≡ false → Q (cell_type d h t proper))
    → Q (cons_at d h t proper)
cons-cases d h t proper Q none made = grind arith

pub cons-made : (d : ℕ) (h t : TypeAt (suc d)) (proper : Bool) → (ops (suc d)).is_none h ≡ false → (ops (suc d)).is_none t ≡ false → cons_at d h t proper ≡ cell_type d h t proper
cons-made d h t proper e f = grind arith

-- the lists of a head and a tail: a normal type above them, and the least where the ends may be proper
pub cons-normal : (d : ℕ) (h t : TypeAt (suc d)) (proper : Bool) → NormalAt (suc d) h → NormalAt (suc d) t → NormalAt (suc d) (cons_at d h t proper)
unfolding NormalAt
cons-normal d h t proper j k = cons-cases d h t proper (NormalAt (suc d)) (level_laws (suc d)).lattice.none_normal (λ e f.
    let head = cut_lowering (suc d) d in
    let a = element_with-least (level_laws d) (cut (suc d) d h) t.cell (head.normal h j) k.1 in
    let v = value_of (level_laws (suc d)) h (j, e) in
    (tt, (a.normal, filled-not_none (level_laws d) (element_with (ops d) (cut (suc d) d h) t.cell) v.0 (a.above v.0 (inl (head.above h j v.0 v.1)))), (tuples_lattice (level_laws d)).none_normal))

pub cons-above : (d : ℕ) (h t : TypeAt (suc d)) (proper : Bool) → NormalAt (suc d) h → NormalAt (suc d) t → (x y : Value) → HasAt (suc d) x h → HasAt (suc d) y t → HasAt (suc d) (cons x y) (cons_at d h t proper)
unfolding NormalAt
cons-above d h t proper j k x y p q =
    let head = cut_lowering (suc d) d in
    let made = cons-made d h t proper (filled-not_none (level_laws (suc d)) h x p) (filled-not_none (level_laws (suc d)) t y q) in
    let first = (element_with-least (level_laws d) (cut (suc d) d h) t.cell (head.normal h j) k.1).above x (inl (head.above h j x p)) in
    subst (HasAt (suc d) (cons x y)) (sym made) ((first, element_with-rest (level_laws d) (cut (suc d) d h) t (head.normal h j) k.1 y q), λ z. is_list-lists d t (second proper (is_list (ops d) t) z) y q)

-- a type of lists has nothing but lists
of_cell : {E : Type 0} (Has : Value → E → Type 0) (c : Option (Cell E)) (u : Parts E) → ((x y : Value) → HasCell Has (x, y) c → HasCell Has (x, y) u.cell)
    → BelowBy (HasParts Has) (record { plain = plain_none; cell = c; tuples = sizes [] }) u
of_cell Has c u p v h = grind arith

-- the lists are below each list type that has each list of such a head and tail
pub cons-least : (d : ℕ) (h t : TypeAt (suc d)) → NormalAt (suc d) h → NormalAt (suc d) t → (u : TypeAt (suc d)) → NormalAt (suc d) u → ((x y : Value) → HasAt (suc d) x h → HasAt (suc d) y t → HasAt (suc d) (cons x y) u)
    → BelowBy (HasAt (suc d)) (cons_at d h t true) u
unfolding NormalAt
cons-least d h t j k u i p = cons-cases d h t true (λ c. BelowBy (HasAt (suc d)) c u) (λ v m. absurd ((level_laws (suc d)).lattice.none_empty v m)) (λ e f.
    let x = value_of (level_laws (suc d)) h (j, e) in
    let y = value_of (level_laws (suc d)) t (k, f) in
    of_cell (HasAt d) (cell_type d h t true).cell u (λ v w. cell_least u.cell i.1 x.0 x.1 y.0 y.1 p (v, w)))
  where
    cell_least : (c : Option (Cell (TypeAt d))) → NormalCell (NormalAt d) (ops d) c → (x : Value) → HasAt (suc d) x h → (y : Value) → HasAt (suc d) y t
        → ((x y : Value) → HasAt (suc d) x h → HasAt (suc d) y t → HasCell (HasAt d) (x, y) c) → BelowBy (HasCell (HasAt d)) (cell_type d h t true).cell c
    cell_least None i x a y b p z m = absurd (p x y a b)
    cell_least (Some c) i x a y b p z m =
        let s = cut_lowering (suc d) d in
        let e = element_with-least (level_laws d) (cut (suc d) d h) t.cell (s.normal h j) k.1 in
        let below = e.least c.element i.0 (λ v q. elim q [
          | inl w ↦ s.least h c.element j i.0 (λ r n. (p r y n b).0.0) v w
          | inr w ↦ (p x (cons v nil) a w).0.1.0
        ]) in
        (all-more (level_laws d) (element_with (ops d) (cut (suc d) d h) t.cell) c.element below (and_value z.0 (heads z.1)) m.0, λ r. m.1 (lists-is_list d t k (λ v q. (p x v a q).1 r)))

-- ---- what a tuple or a list holds

module _ {E : Type 0} {Has : Value → E → Type 0} {Normal : E → Type 0} {o : Ops E} (l : Laws Has Normal o) where
  abbrev pub at_position : Option (Body E) → ℕ → Option E
  at_position b i = elim b [ None ↦ None | Some c ↦ slice_get (elements o c) i ]

  pub tail_normal : (c : Option (Cell E)) → NormalCell Normal o c → NormalParts Normal o (tail_parts o c)
  tail_normal c h = grind arith

-- the type at a position, one level up
module _ (d : ℕ) where
  position_normal : (es : List (TypeAt d)) → AreElements (NormalAt d) (ops d) es → (i : ℕ) → NormalAt (suc d) (lifted d (slice_get es i))
  position_normal [] k i = grind (arith, (level_laws (suc d)).lattice.none_normal)
  position_normal (e ∷ es) k i = grind (arith, (cut_lowering d (suc d)).normal, position_normal es)

  position_in : (vs : Values) (es : List (TypeAt d)) → HasEach (HasAt d) vs es → AreElements (NormalAt d) (ops d) es → (i : ℕ) (v : Value) → value_at vs i ≡ Some v → HasAt (suc d) v (lifted d (slice_get es i))
  position_in no_value es h k i v q = grind arith
  position_in (and_value u us) es h k i v q = grind (arith, (cut_lowering d (suc d)).above, position_in us)

  body_position_normal : (n : ℕ) (b : Option (Body (TypeAt d))) → NormalBody (NormalAt d) (ops d) n b → (i : ℕ) → NormalAt (suc d) (lifted d (at_position (level_laws d) b i))
  body_position_normal n b k i = grind (arith, position_normal, elements_normal (level_laws d) n, (level_laws (suc d)).lattice.none_normal)

  pub body_position : (n : ℕ) (b : Option (Body (TypeAt d))) → NormalBody (NormalAt d) (ops d) n b → (vs : Values) → HasBody (HasAt d) vs b → (i : ℕ) (v : Value) → value_at vs i ≡ Some v
      → HasAt (suc d) v (lifted d (at_position (level_laws d) b i))
  body_position n None k vs h i v q = absurd h
  body_position n (Some c) k vs h i v q = position_in vs (elements (ops d) c) (elements_above (level_laws d) n c k vs h) (elements_normal (level_laws d) n c k).1 i v q

  tuple_position_normal : (t : Tuples (TypeAt d)) → NormalTuples (NormalAt d) (ops d) t → (n i : ℕ) → NormalAt (suc d) (lifted d (element_at (ops d) t n i))
  tuple_position_normal all_tuples k n i = (cut_lowering d (suc d)).normal (ops d).any (level_laws d).any_normal
  tuple_position_normal (sizes m) k n i = grind (arith, body_position_normal n (find nat_cmp m n) (normal_at (level_laws d) m k.2 n) i, (cut_lowering d (suc d)).normal (ops d).any (level_laws d).any_normal)

  tuple_position : (t : Tuples (TypeAt d)) → NormalTuples (NormalAt d) (ops d) t → (vs : Values) → HasTuple (HasAt d) vs t → (i : ℕ) (v : Value) → value_at vs i ≡ Some v
      → HasAt (suc d) v (lifted d (element_at (ops d) t (count vs) i))
  tuple_position all_tuples k vs h i v q = (cut_lowering d (suc d)).above (ops d).any (level_laws d).any_normal v ((level_laws d).any_in v)
  tuple_position (sizes m) k vs h i v q = grind (arith, small_at, level_laws d, body_position, normal_at)

-- the i-th element of a tuple of n, the head and the tail of a list have the types that are told of them
pub project-in : (d : ℕ) (t : TypeAt (suc d)) → NormalAt (suc d) t → (n : ℕ) (vs : Values) → HasAt (suc d) (tuple vs) t → count vs ≡ n → (i : ℕ) (v : Value) → value_at vs (i - 1) ≡ Some v
    → HasAt (suc d) v (project_at d t n i)
unfolding NormalAt
project-in d t k n vs h e i v q = subst (λ m. HasAt (suc d) v (project_at d t m i)) e (tuple_position d t.tuples k.2 vs h (i - 1) v q)

pub project-normal : (d : ℕ) (t : TypeAt (suc d)) → NormalAt (suc d) t → (n i : ℕ) → NormalAt (suc d) (project_at d t n i)
unfolding NormalAt
project-normal d t k n i = tuple_position_normal d t.tuples k.2 n (i - 1)

head_in : (d : ℕ) (c : Option (Cell (TypeAt d))) → NormalCell (NormalAt d) (ops d) c → NormalAt (suc d) (lifted d (element_of c)) × ((h t : Value) → HasCell (HasAt d) (h, t) c → HasAt (suc d) h (lifted d (element_of c)))
head_in d None k = ((level_laws (suc d)).lattice.none_normal, λ h t m. absurd m)
head_in d (Some c) k = ((cut_lowering d (suc d)).normal c.element k.0, λ h t m. (cut_lowering d (suc d)).above c.element k.0 h m.0.0)

pub elem-in : (d : ℕ) (s : TypeAt (suc d)) → NormalAt (suc d) s → (h t : Value) → HasAt (suc d) (cons h t) s → HasAt (suc d) h (elem_at d s)
unfolding NormalAt
elem-in d s k = (head_in d s.cell k.1).1

pub elem-normal : (d : ℕ) (s : TypeAt (suc d)) → NormalAt (suc d) s → NormalAt (suc d) (elem_at d s)
unfolding NormalAt
elem-normal d s k = (head_in d s.cell k.1).0

pub tail-in : (d : ℕ) (s : TypeAt (suc d)) (h t : Value) → HasAt (suc d) (cons h t) s → HasAt (suc d) t (tail_at d s)
tail-in d s h t m = grind arith

pub tail-normal : (d : ℕ) (s : TypeAt (suc d)) → NormalAt (suc d) s → NormalAt (suc d) (tail_at d s)
unfolding NormalAt
tail-normal d s k = tail_normal (level_laws d) s.cell k.1
