-- The laws of the elements of tuples: at a position of one size, and at the positions in a set over all sizes.
use Rattle.std.proofs.Common.{true≢false, ◌≡◌, ◌⊎◌, inl, inr, ◌+◌, ◌-◌, ◌<◌, ◌≤◌, ℕ, zero, suc, pos, true, List, []}
use Rattle.std.proofs.Common.{◌∷◌, Option, Some, None, refl, sym, ap, ◌∙◌, subst, arith, ◌↔◌, slice_get, nat_cmp}
use borrow.Author.Tests.{lt-ltb}
use Rattle.type_kinds_sets.specs.Names.{Name, name_cmp}
use Rattle.type_kinds_sets.specs.Numbers as numbers
use Rattle.type_kinds_sets.specs.Numbers.{Numbers}
use Rattle.type_kinds_sets.proofs.NameLaws.{name_total, name_same}
use Rattle.type_lattice_model.specs.Values.{Value, atom, nil, tuple, Values, and_value, count}
use Rattle.type_lattice_model.specs.Tables.{EachOf, EachEntry, keys, held, find}
use Rattle.type_lattice_model.specs.Shapes.{Body, product, tags, Tuples, sizes, all_tuples, TypeAt}
use Rattle.type_lattice_model.specs.HasType.{HasEach, HasRow, HasBody, HasTuple, HasAt}
use Rattle.type_lattice_model.specs.Operations.{Ops, row_join, rows_join, elements, ops}
use Rattle.type_lattice_model.specs.Normal.{AreElements, NormalRow, NormalRows, NormalBody, NormalSizes, NormalTuples, NormalAt}
use Rattle.type_lattice_model.specs.Cut.{cut}
use Rattle.type_lattice_model.specs.Parts.{value_at, element_at, lifted, project_at}
use Rattle.type_lattice_model.specs.Elements.{at_positions, sizes_at, tuples_at, elements_at}
use Rattle.type_lattice_model.specs.Laws.{BelowBy}
use Rattle.type_lattice_model.proofs.TableLaws as tables
use Rattle.type_lattice_model.proofs.LatticeLaws.{SomeOf, each_append, some_first, some_later, some_either}
use Rattle.type_lattice_model.proofs.LeastLaws.{IsLeast, less-least, joined_least, some_entry, entry_some}
use Rattle.type_lattice_model.proofs.CellLaws.{value_of}
use Rattle.type_lattice_model.proofs.RowLaws.{values_of, row_lattice}
use Rattle.type_lattice_model.proofs.BodyLaws.{tags-listed, rows_at, row_value, count_body, elements_normal}
use Rattle.type_lattice_model.proofs.TupleLaws.{many, size_total, size_same, normal_at, some_at, from_size, not_all}
use Rattle.type_lattice_model.proofs.LevelLaws.{level_laws}
use Rattle.type_lattice_model.proofs.CutLaws.{cut_lowering, cut_exact, lift_join}
use Rattle.type_lattice_model.proofs.MadeLaws.{at_position, body_position}
use Rattle.type_lattice_model.proofs.ProductLaws.{names_alone}

-- ---- values at a position

-- a tuple of n values that has the value at the position
with_value : (n i : ℕ) (v : Value) → i < n → (vs : Values) × ((count vs ≡ n) × (value_at vs i ≡ Some v))
with_value zero i v h = absurd (omega arith)
with_value (suc n) zero v h = let w = many n in (and_value v w.0, (ap suc w.1, refl))
with_value (suc n) (suc i) v h = let w = with_value n i v (omega arith) in (and_value nil w.0, (ap suc w.1.0, w.1.1))

-- what stands at a position of some tuples
abbrev StandsAt : (Values → Type 0) → ℕ → Value → Type 0
StandsAt In i v = (vs : Values) × (In vs × (value_at vs i ≡ Some v))

-- the values of an element type, one level up, if there is one
abbrev UpHas : (d : ℕ) → Value → Option (TypeAt d) → Type 0
UpHas d v None = ⊥
UpHas d v (Some e) = HasAt (suc d) v (cut d (suc d) e)

lifted_out : (d : ℕ) (v : Value) (x : Option (TypeAt d)) → HasAt (suc d) v (lifted d x) → UpHas d v x
lifted_out d v None h = absurd ((level_laws (suc d)).lattice.none_empty v h)
lifted_out d v (Some e) h = h

-- ---- one element type of a body is the least that has what stands there

module _ (d : ℕ) (u : TypeAt (suc d)) (n : NormalAt (suc d) u) where
  -- the values of what stands at a position of a row are in the type
  abbrev InsideAt : ℕ → List (TypeAt d) → Type 0
  InsideAt i es = (v : Value) → UpHas d v (slice_get es i) → HasAt (suc d) v u

  zip_inside : (i : ℕ) (xs ys : List (TypeAt d)) → AreElements (NormalAt d) (ops d) xs → AreElements (NormalAt d) (ops d) ys → InsideAt i xs → InsideAt i ys → InsideAt i (row_join (ops d) xs ys)
  zip_inside i [] ys j k f g v h = absurd h
  zip_inside i (x ∷ xs) [] j k f g v h = absurd h
  zip_inside zero (x ∷ xs) (y ∷ ys) j k f g v h =
      let up = cut_lowering d (suc d) in
      (level_laws (suc d)).lattice.join_least (cut d (suc d) x) (cut d (suc d) y) u (up.normal x j.0.0) (up.normal y k.0.0) n f g v (subst (HasAt (suc d) v) (lift_join d x y j.0.0 k.0.0) h)
  zip_inside (suc i) (x ∷ xs) (y ∷ ys) j k f g v h = zip_inside i xs ys j.1 k.1 f g v h

  rows_inside : (m : ℕ) (i : ℕ) (es : List (TypeAt d)) (w : List (Name × List (TypeAt d))) → NormalRow (NormalAt d) (ops d) m (Some es) → NormalRows (NormalAt d) (ops d) m w → InsideAt i es
      → EachEntry (λ a fs. InsideAt i fs) w → InsideAt i (rows_join (ops d) es (held w))
  rows_inside m i es [] j k f g = f
  rows_inside m i es (x ∷ w) j k f g = grind (arith, rows_inside m i (row_join (ops d) es x.1) w ((row_lattice (level_laws d) m).join_normal (Some es) (Some x.1) j k.0) k.1 (zip_inside i es x.1 j.1 k.0.1 f g.0) g.1)

  row_inside : (es : List (TypeAt d)) → AreElements (NormalAt d) (ops d) es → (i : ℕ) → ((v : Value) → StandsAt (λ vs. HasEach (HasAt d) vs es) i v → HasAt (suc d) v u) → InsideAt i es
  row_inside [] k i f v h = absurd h
  row_inside (x ∷ xs) k zero f v h = let w = values_of (level_laws d) xs k.1 in f v (and_value v w.0, ((cut_exact d (suc d) (omega arith) x k.0.0 v h, w.1), refl))
  row_inside (x ∷ xs) k (suc i) f v h = let w = value_of (level_laws d) x k.0 in row_inside xs k.1 i (λ u t. f u (and_value w.0 t.0, ((w.1, t.1.0), t.1.1))) v h

  body_inside : (m : ℕ) (b : Option (Body (TypeAt d))) → NormalBody (NormalAt d) (ops d) m b → (i : ℕ) → ((v : Value) → StandsAt (λ vs. HasBody (HasAt d) vs b) i v → HasAt (suc d) v u) → (v : Value)
      → UpHas d v (at_position (level_laws d) b i) → HasAt (suc d) v u
  body_inside m None k i f = λ v h. absurd h
  body_inside m (Some (product es)) k i f = row_inside es k.0.1 i f
  body_inside zero (Some (tags w)) k i f = absurd k
  body_inside (suc m) (Some (tags [])) k i f = absurd (true≢false k.0.1)
  body_inside (suc m) (Some (tags (x ∷ w))) k zero f = λ v h.
      let names = (ops d).of_names (keys (x ∷ w)) in
      let a = names_alone d k.2 (keys (x ∷ w)) (tags-listed (NormalAt d) (ops d) m (x ∷ w) k) v (cut_exact d (suc d) (omega arith) names ((level_laws d).naming.names_normal (keys (x ∷ w))) v h) in
      let ws = row_value (level_laws d) m (find name_cmp (x ∷ w) a.0) (rows_at (level_laws d) m (x ∷ w) k.0.2 a.0) (tables.find-key name_total name_same (x ∷ w) a.0 ∙ a.1.1) in
      f v (and_value (atom a.0) ws.0, (ws.1, ap Some (sym a.1.0)))
  body_inside (suc m) (Some (tags (x ∷ w))) k (suc i) f =
      let g = tables.each_from name_total name_same (λ a fs. InsideAt i fs) (x ∷ w) k.0.0 (λ a fs p.
      row_inside fs (subst (NormalRow (NormalAt d) (ops d) m) p (rows_at (level_laws d) m (x ∷ w) k.0.2 a)).1 i (λ v t. f v (and_value (atom a) t.0, (subst (HasRow (HasAt d) t.0) (sym p) t.1.0, t.1.1)))) in
      rows_inside m i x.1 w k.0.2.0 k.0.2.1 g.0 g.1

-- ---- an element of one size

position_least : (d : ℕ) (t : Tuples (TypeAt d)) → NormalTuples (NormalAt d) (ops d) t → (n i : ℕ) → n ≤ 64 → i < n → (u : TypeAt (suc d)) → NormalAt (suc d) u
    → ((v : Value) → StandsAt (λ vs. HasTuple (HasAt d) vs t × (count vs ≡ n)) i v → HasAt (suc d) v u) → BelowBy (HasAt (suc d)) (lifted d (element_at (ops d) t n i)) u
position_least d all_tuples k n i small within u j f = λ v h. let w = with_value n i v within in f v (w.0, ((tt, w.1.0), w.1.1))
position_least d (sizes m) k n i small within u j f =
    let l = level_laws d in
    let b = find nat_cmp m n in
    let normal = normal_at l m k.2 n in
    rw (lt-ltb n 65 (omega (arith, small))) (λ v h. body_inside d u j n b normal i (λ w x. f w (x.0, ((from_size l m k.2 n x.0 x.1.0, count_body l n x.0 b normal x.1.0), x.1.1))) v (lifted_out d v (at_position l b i) h))

-- up to 64 elements, the type of an element is the least that has what stands there
pub project-least : (d : ℕ) (t : TypeAt (suc d)) → NormalAt (suc d) t → (n i : ℕ) → n ≤ 64 → 1 ≤ i → i ≤ n → (u : TypeAt (suc d)) → NormalAt (suc d) u
    → ((vs : Values) (v : Value) → HasAt (suc d) (tuple vs) t → count vs ≡ n → value_at vs (i - 1) ≡ Some v → HasAt (suc d) v u) → BelowBy (HasAt (suc d)) (project_at d t n i) u
unfolding NormalAt
project-least d t k n i small one within u j f = grind (arith, position_least)

-- ---- the elements at the positions in a set

module _ {A : Type 0} (Q : A → Type 0) (s : Numbers) where
  abbrev OfSome : Option A → Type 0
  OfSome x = elim x [ None ↦ ⊥ | Some e ↦ Q e ]

  -- what holds of one of them holds of what stands at such a position
  some_position : (k : ℕ) (es : List A) → SomeOf Q (at_positions s k es) → (i : ℕ) × ((numbers.has s (pos (k + i)) ≡ true) × OfSome (slice_get es i))
  some_position k [] h = absurd h
  some_position k (e ∷ es) h =
      let first_or : ((numbers.has s (pos k) ≡ true) × Q e) ⊎ SomeOf Q (at_positions s (suc k) es) = grind (arith, h) in
      elim first_or [
        | inl x ↦ (zero, (subst (λ j. numbers.has s (pos j) ≡ true) (omega arith) x.0, x.1))
        | inr x ↦ let w = some_position (suc k) es x in (suc w.0, (subst (λ j. numbers.has s (pos j) ≡ true) (omega arith) w.1.0, w.1.1))
      ]

  position_some : (k j : ℕ) (es : List A) (i : ℕ) → j ≡ k + i → numbers.has s (pos j) ≡ true → OfSome (slice_get es i) → SomeOf Q (at_positions s k es)
  position_some k j [] i r p h = absurd h
  position_some k j (x ∷ xs) zero r p h = grind arith
  position_some k j (x ∷ xs) (suc i) r p h = grind (arith, position_some (suc k) j xs i (omega arith) p h)

  -- and of one of a size
  sizes_is : (o : Ops A) (m : List (ℕ × Body A)) → SomeOf Q (sizes_at o s m) ↔ SomeOf (λ b. SomeOf Q (at_positions s 1 (elements o b.1))) m
  sizes_is o [] = (λ h. h, λ h. h)
  sizes_is o (b ∷ m) =
      let here = at_positions s 1 (elements o b.1) in
      let more = sizes_at o s m in
      grind (arith, some_either Q here more, some_first Q here more, some_later Q here more, sizes_is o m)

module _ (d : ℕ) where
  abbrev up : TypeAt d → TypeAt (suc d)
  up e = cut d (suc d) e

  positions_normal : (s : Numbers) (k : ℕ) (es : List (TypeAt d)) → AreElements (NormalAt d) (ops d) es → EachOf (λ e. NormalAt (suc d) (up e)) (at_positions s k es)
  positions_normal s k [] j = tt
  positions_normal s k (e ∷ es) j = grind (arith, (cut_lowering d (suc d)).normal e j.0.0, positions_normal s (suc k) es j.1)

  sizes_normal : (s : Numbers) (m : List (ℕ × Body (TypeAt d))) → NormalSizes (NormalAt d) (ops d) m → EachOf (λ e. NormalAt (suc d) (up e)) (sizes_at (ops d) s m)
  sizes_normal s [] k = tt
  sizes_normal s (b ∷ m) k =
      each_append (λ e. NormalAt (suc d) (up e)) (at_positions s 1 (elements (ops d) b.1)) (sizes_at (ops d) s m) (positions_normal s 1 (elements (ops d) b.1) (elements_normal (level_laws d) b.0 b.1 k.0.1).1) (sizes_normal s m k.1)

  -- what stands at these positions
  abbrev Stands : Tuples (TypeAt d) → Numbers → Value → Type 0
  Stands t s v = (i : ℕ) × (StandsAt (λ vs. HasTuple (HasAt d) vs t) i v × (numbers.has s (pos (suc i)) ≡ true))

  -- of sizes alone, the least type that has what stands at these positions
  sizes_are : (m : List (ℕ × Body (TypeAt d))) (s : Numbers) → NormalTuples (NormalAt d) (ops d) (sizes m) → IsLeast (HasAt (suc d)) (NormalAt (suc d)) (Stands (sizes m) s) (tuples_at d (sizes m) s)
  sizes_are m s k =
      let l = level_laws d in
      let Q = λ (v : Value) (e : TypeAt d). HasAt (suc d) v (up e) in
      let P = λ (v : Value) (n : ℕ) (b : Body (TypeAt d)). SomeOf (Q v) (at_positions s 1 (elements (ops d) b)) in
      let at_size = λ (n : ℕ) (b : Body (TypeAt d)) (r : find nat_cmp m n ≡ Some b). subst (NormalBody (NormalAt d) (ops d) n) r (normal_at l m k.2 n) in
      less-least (joined_least (level_laws (suc d)).lattice up (sizes_at (ops d) s m) (sizes_normal s m k.2)) (λ v h.
      let vs = h.1.0.0 in
      let b = tables.found_at (find nat_cmp m (count vs)) (some_at l (find nat_cmp m (count vs)) vs h.1.0.1.0) in
      let e = lifted_out d v (at_position l (Some b.0) h.0) (body_position d (count vs) (Some b.0) (at_size (count vs) b.0 b.1) vs (subst (HasBody (HasAt d) vs) b.1 h.1.0.1.0) h.0 v h.1.0.1.1) in
      (sizes_is (Q v) s (ops d) m).1 (entry_some size_total size_same (P v) m (count vs) b.0 b.1 (position_some (Q v) s 1 (suc h.0) (elements (ops d) b.0) h.0 (omega arith) h.1.1 e))) (λ u n f v h.
      let b = some_entry size_total size_same (P v) m k.0 ((sizes_is (Q v) s (ops d) m).0 h) in
      let e = some_position (Q v) s 1 (elements (ops d) b.1.0) b.1.1.1 in
      let among = subst (λ j. numbers.has s (pos j) ≡ true) (omega arith) e.1.0 in
      body_inside d u n b.0 (Some b.1.0) (at_size b.0 b.1.0 b.1.1.0) e.0 (λ w x. f w (e.0, ((x.0, (from_size l m k.2 b.0 x.0 (subst (HasBody (HasAt d) x.0) (sym b.1.1.0) x.1.0), x.1.1)), among))) v e.1.1)

  -- of all tuples it has any value, and there is one at each position of the set
  tuples_are : (t : Tuples (TypeAt d)) (s : Numbers) → NormalTuples (NormalAt d) (ops d) t
      → NormalAt (suc d) (tuples_at d t s) × ((v : Value) → Stands t s v → HasAt (suc d) v (tuples_at d t s))
      × ((p : ℕ) → numbers.has s (pos (suc p)) ≡ true → (u : TypeAt (suc d)) → NormalAt (suc d) u → ((v : Value) → Stands t s v → HasAt (suc d) v u) → BelowBy (HasAt (suc d)) (tuples_at d t s) u)
  tuples_are (sizes m) s k = let a = sizes_are m s k in (a.normal, a.above, λ p q. a.least)
  tuples_are all_tuples s k = ((level_laws (suc d)).any_normal, λ v h. (level_laws (suc d)).any_in v, λ p a u n f v h. let w = with_value (suc p) p v (omega arith) in f v (p, ((w.0, (tt, w.1.1)), a)))

  tuples_more : (t w : Tuples (TypeAt d)) (s q : Numbers) → NormalTuples (NormalAt d) (ops d) t → NormalTuples (NormalAt d) (ops d) w → BelowBy (HasTuple (HasAt d)) t w → numbers.Below s q
      → BelowBy (HasAt (suc d)) (tuples_at d t s) (tuples_at d w q)
  tuples_more all_tuples all_tuples s q j k f g v h = h
  tuples_more all_tuples (sizes m) s q j k f g v h = absurd (not_all (level_laws d) m k (λ vs. f vs tt))
  tuples_more (sizes m) w s q j k f g v h =
      let a = tuples_are w q k in
      (sizes_are m s j).least (tuples_at d w q) a.0 (λ v h. a.1 v (h.0, ((h.1.0.0, (f h.1.0.0 h.1.0.1.0, h.1.0.1.1)), g (pos (suc h.0)) h.1.1))) v h

pub elements-normal : (d : ℕ) (t : TypeAt (suc d)) → NormalAt (suc d) t → (s : Numbers) → NormalAt (suc d) (elements_at d t s)
unfolding NormalAt
elements-normal d t k s = (tuples_are d t.tuples s k.2).0

-- it has what stands at these positions
pub elements-have : (d : ℕ) (t : TypeAt (suc d)) → NormalAt (suc d) t → (s : Numbers) (vs : Values) → HasAt (suc d) (tuple vs) t → (i : ℕ) (v : Value) → value_at vs i ≡ Some v → numbers.has s (pos (suc i)) ≡ true
    → HasAt (suc d) v (elements_at d t s)
unfolding NormalAt
elements-have d t k s vs h i v q p = (tuples_are d t.tuples s k.2).1 v (i, ((vs, (h, q)), p))

-- and is the least type that does, where there is a position in the set at all
pub elements-least : (d : ℕ) (t : TypeAt (suc d)) → NormalAt (suc d) t → (s : Numbers) (p : ℕ) → numbers.has s (pos (suc p)) ≡ true → (u : TypeAt (suc d)) → NormalAt (suc d) u
    → ((vs : Values) → HasAt (suc d) (tuple vs) t → (i : ℕ) (v : Value) → value_at vs i ≡ Some v → numbers.has s (pos (suc i)) ≡ true → HasAt (suc d) v u) → BelowBy (HasAt (suc d)) (elements_at d t s) u
unfolding NormalAt
elements-least d t k s p a u n f = (tuples_are d t.tuples s k.2).2 p a u n (λ v h. f h.1.0.0 h.1.0.1.0 h.0 v h.1.0.1.1 h.1.1)

-- larger types and larger sets give larger types
pub elements-more : (d : ℕ) (t w : TypeAt (suc d)) → NormalAt (suc d) t → NormalAt (suc d) w → BelowBy (HasAt (suc d)) t w → (s q : Numbers) → numbers.Below s q → BelowBy (HasAt (suc d)) (elements_at d t s) (elements_at d w q)
unfolding NormalAt
elements-more d t w j k f s q g = tuples_more d t.tuples w.tuples s q j.2 k.2 (λ vs h. f (tuple vs) h) g
