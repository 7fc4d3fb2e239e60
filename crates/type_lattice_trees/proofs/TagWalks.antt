-- A walk over two lists at once: both ascend, so what is sought later stands later.
use Rattle.std.proofs.Common.{[], ◌≡◌, ℕ, zero, suc, ◌+◌, ◌<◌, ◌≤◌, true, List, ◌∷◌, map, length, drop, Some, None, option_map, slice_get, slice_index_or, cond, refl, sym, ap, ◌∙◌, subst, arith}
use Rattle.std.specs.declared.cmp.Ordering.{Ordering}
use Rattle.std.specs.declared.cmp.Ordering.TheVariants.{Less, Greater}
use Rattle.std.specs.Ordering.{is_lt, is_eq, ordering_reverse}
use Rattle.std.specs.Cmp.{IsTotalOrder}
use Rattle.std.specs.FinSet.{IsAntisymmetric}
use Rattle.std.proofs.lemmas.Option.{slice_get-get_or, same_Some}
use Rattle.std.proofs.lemmas.List.{drop_all}
use Rattle.type_kinds.proofs.Lists.{drop_next}
use Rattle.type_kinds.proofs.Truths.{first, second}
use Rattle.type_kinds_sets.specs.Ascending.{is_below_all}
use Rattle.type_kinds_sets.specs.Names.{Name, name_cmp}
use Rattle.type_kinds_sets.proofs.NameLaws.{name_total, name_same}
use Rattle.type_lattice_model.specs.Tables.{keys, is_table, find}
use Rattle.type_lattice_model.proofs.TableLaws.{find-first, table-rest}
use Rattle.type_lattice_trees.specs.declared.node.Node.{Node}
use Rattle.type_lattice_trees.specs.declared.node.TagOf.{TagOf}
use Rattle.type_lattice_trees.specs.View.{row_view, tags_view, tag_entry, RowFits, TagsFit}
use Rattle.type_lattice_trees.proofs.Inclusions.{rest_fits}
use Rattle.type_lattice_trees.proofs.PositionLaws.{Behind, behind-more, atom_of}

-- ---- what stands before an item

module _ {A K X : Type 0} {R : K → K → Ordering} (o : IsTotalOrder R) (same : IsAntisymmetric R) (entry : A → K × X) where
  abbrev key : A → K
  key x = (entry x).0

  -- what is below all keys of a list is below that of each item
  below_item : (k : K) (xs : List A) (i : ℕ) (x : A) → is_below_all R k (keys (map entry xs)) ≡ true → i < length xs → x ≡ slice_index_or xs i x → is_lt (R k (key x)) ≡ true
  below_item k [] i x h lt e = absurd (omega arith)
  below_item k (y ∷ ys) zero x h lt e = subst (λ z. is_lt (R k (key z)) ≡ true) (sym e) (first (is_lt (R k (key y))) (is_below_all R k (keys (map entry ys))) h)
  below_item k (y ∷ ys) (suc i) x h lt e = below_item k ys i x (second (is_lt (R k (key y))) (is_below_all R k (keys (map entry ys))) h) (omega arith) e

  less : (r : Ordering) → is_lt r ≡ true → r ≡ Less
  less r h = grind arith

  -- the earlier of two items has the lesser key
  pub earlier : (xs : List A) → is_table R (map entry xs) ≡ true → (i j : ℕ) (x y : A) → i < j → j < length xs → x ≡ slice_index_or xs i x → y ≡ slice_index_or xs j y → R (key x) (key y) ≡ Less
  earlier [] t i j x y h lt e f = absurd (omega arith)
  earlier (z ∷ zs) t i zero x y h lt e f = absurd (omega arith)
  earlier (z ∷ zs) t zero (suc j) x y h lt e f =
      subst (λ w. R (key w) (key y) ≡ Less) (sym e) (less (R (key z) (key y)) (below_item (key z) zs j y (first (is_below_all R (key z) (keys (map entry zs))) (is_table R (map entry zs)) t) (omega arith) f))
  earlier (z ∷ zs) t (suc i) (suc j) x y h lt e f = earlier zs (table-rest o same (entry z) (map entry zs) t) i j x y (omega arith) (omega arith) e f

  greater : (x y : K) → R x y ≡ Less → R y x ≡ Greater
  greater x y h = o.antisymm y x ∙ ap ordering_reverse h

  behind_each : (k : K) (xs : List A) (n : ℕ) → ((j : ℕ) (y : A) → j < n → j < length xs → y ≡ slice_index_or xs j y → R k (key y) ≡ Greater) → Behind R key k xs n
  behind_each k xs zero h = tt
  behind_each k [] (suc n) h = tt
  behind_each k (x ∷ xs) (suc n) h = (h 0 x (omega arith) (omega arith) refl, behind_each k xs n (λ j y lt short e. h (suc j) y (omega arith) (omega arith) e))

  -- what comes after an item comes after all up to it
  pub behind_item : (k : K) (xs : List A) (n : ℕ) (x : A) → is_table R (map entry xs) ≡ true → n < length xs → x ≡ slice_index_or xs n x → R (key x) k ≡ Less → Behind R key k xs (n + 1)
  behind_item k xs n x t lt e h =
      behind-more R key k xs n (n + 1) x refl lt e (greater (key x) k h) (behind_each k xs n (λ j y within lower is. greater (key y) k (o.trans (key y) (key x) k (earlier xs t j n y x within lt is e) h)))

  -- so it is found among the rest
  pub found_behind : (k : K) (xs : List A) (n : ℕ) → Behind R key k xs n → find R (map entry xs) k ≡ find R (map entry (drop n xs)) k
  found_behind k xs zero b = refl
  found_behind k [] (suc n) b = refl
  found_behind k (x ∷ xs) (suc n) b = ap (λ r. cond (is_eq r) (Some (entry x).1) (find R (map entry xs) k)) b.0 ∙ found_behind k xs n b.1

  -- what is found at an item's key
  pub found_item : (xs : List A) (n : ℕ) (x : A) → is_table R (map entry xs) ≡ true → n < length xs → x ≡ slice_index_or xs n x → find R (map entry xs) (key x) ≡ Some (entry x).1
  found_item xs n x t lt e =
      found_behind (key x) xs n (behind_each (key x) xs n (λ j y within lower is. greater (key y) (key x) (earlier xs t j n y x within lt is e)))
      ∙ ap (λ ys. find R (map entry ys) (key x)) (drop_next xs n x lt e)
      ∙ find-first o same (entry x) (map entry (drop (n + 1) xs))

-- ---- tags

-- the tags of the first list that are left all come after the first ones of the second
abbrev pub LeftBehind : List (TagOf Node) → ℕ → List (TagOf Node) → ℕ → Type 0
LeftBehind a i b from = (k : ℕ) (t : TagOf Node) → i ≤ k → k < length a → t ≡ slice_index_or a k t → Behind name_cmp atom_of t.atom b from

pub left_more : (d n : ℕ) (a b : List (TagOf Node)) (i at : ℕ) (s u : TagOf Node) → TagsFit d n a → TagsFit d n b
    → i < length a → s ≡ slice_index_or a i s → at < length b → u ≡ slice_index_or b at u → u.atom ≡ s.atom → LeftBehind a (i + 1) b (at + 1)
left_more d n a b i at s u f g lt e within is q =
    λ k t le less there.
    behind_item name_total name_same (tag_entry d) t.atom b at u g.normal.0 within is
    (subst (λ x. name_cmp x t.atom ≡ Less) (sym q) (earlier name_total name_same (tag_entry d) a f.normal.0 i k s t (omega arith) less e there))

pub tag_missing : (d : ℕ) (b : List (TagOf Node)) (from : ℕ) (a : Name) → Behind name_cmp atom_of a b from → find name_cmp (tags_view d (drop from b)) a ≡ None → None ≡ find name_cmp (tags_view d b) a
tag_missing d b from a h g = sym (found_behind name_total name_same (tag_entry d) a b from h ∙ g)

pub tag_there : (d n : ℕ) (b : List (TagOf Node)) (at : ℕ) (u : TagOf Node) (ys : List Node) (a : Name) → TagsFit d n b → at < length b
    → u ≡ slice_index_or b at u → ys ≡ (slice_index_or b at u).rest → u.atom ≡ a → Some (row_view d ys) ≡ find name_cmp (tags_view d b) a
tag_there d n b at u ys a g lt e f q =
    ap (λ r. Some (row_view d r)) (f ∙ sym (ap (λ (x : TagOf Node). x.rest) e))
    ∙ sym (subst (λ x. find name_cmp (tags_view d b) x ≡ Some (row_view d u.rest)) q (found_item name_total name_same (tag_entry d) b at u g.normal.0 lt e))

pub tag_read : (b : List (TagOf Node)) (at : ℕ) (x : TagOf Node) → at < length b → option_map atom_of (slice_get b at) ≡ Some (slice_index_or b at x).atom
tag_read b at x lt = ap (option_map atom_of) (slice_get-get_or b at x lt)

-- the tag at the place that was found is that of the atom
pub same_tag : (b : List (TagOf Node)) (at : ℕ) (u : TagOf Node) (a q : Name) → at < length b → u ≡ slice_index_or b at u
    → option_map atom_of (slice_get b at) ≡ Some a → a ≡ q → u.atom ≡ q
same_tag b at u a q lt e h k = ap atom_of e ∙ same_Some _ _ (sym (tag_read b at u lt) ∙ h) ∙ k

pub rest_there : (d n : ℕ) (b : List (TagOf Node)) (at : ℕ) (u : TagOf Node) (ys : List Node) → TagsFit d n b → at < length b → u ≡ slice_index_or b at u → ys ≡ (slice_index_or b at u).rest → RowFits d n ys
rest_there d n b at u ys g lt e f = subst (RowFits d n) (ap (λ (x : TagOf Node). x.rest) e ∙ sym f) (rest_fits d n b g at u lt e)

pub nothing_left : (ts : List (TagOf Node)) (i : ℕ) (a : Name) (d : ℕ) → length ts ≤ i → find name_cmp (tags_view d (drop i ts)) a ≡ None
nothing_left ts i a d h = ap (λ us. find name_cmp (tags_view d us) a) (drop_all i ts h)
