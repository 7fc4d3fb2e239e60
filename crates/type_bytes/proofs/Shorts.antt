-- Whether all items of a list pass a test, one after the other.
use Rattle.std.proofs.Common.{◌≡◌, ℕ, zero, suc, ◌+◌, ◌-◌, ◌<◌, Bool, true, false, ◌&&◌, List, [], ◌∷◌, length, map, take, refl, sym, ap, ◌∙◌, arith}
use Rattle.std.specs.Prelude.{slice_index_or}
use Rattle.std.specs.List.{list_all}
use Rattle.std.proofs.lemmas.List.Folds.{list_all-map, list_all_at, list_all_more}
use Rattle.std.proofs.lemmas.Bool.{and_from}
use Rattle.type_kinds_sets.specs.Names.{Name}
use Rattle.type_lattice_model.specs.Shapes.{Body, TypeAt}
use Rattle.type_lattice_model.specs.Operations.{ops}
use Rattle.type_lattice_trees.specs.declared.node.Node.{Node}
use Rattle.type_lattice_trees.specs.declared.node.Node.TheVariants as v
use Rattle.type_lattice_trees.specs.declared.node.PartsOf.{PartsOf}
use Rattle.type_lattice_trees.specs.declared.node.SizeOf.{SizeOf}
use Rattle.type_lattice_trees.specs.declared.node.TagOf.{TagOf}
use Rattle.type_lattice_trees.specs.View.{view, row_view, tags_view, body_view, sizes_view, parts_view, Fits}
use Rattle.type_lattice_trees.proofs.Views.{view_any, view_of, of_above}
use Rattle.type_bytes.specs.ShortNames.{are_short_parts, is_short_at}

-- ---- a list that is seen as another, item by item

module _ {A E : Type 0} (test : E → Bool) (f : List A → List E) (g : A → E) (same : (xs : List A) → f xs ≡ map g xs) where
  pub not_all : (xs : List A) (i : ℕ) (x : A) → i < length xs → x ≡ slice_index_or xs i x → (r : Bool) → r ≡ test (g x) → r ≡ false → false ≡ list_all test (f xs)
  not_all xs i x h is r k fails = sym (ap (list_all test) (same xs) ∙ list_all-map test g xs ∙ list_all_at (λ y. test (g y)) xs i x h (ap (λ y. test (g y)) (sym is) ∙ sym k ∙ fails))

  pub one_more : (xs : List A) (i : ℕ) (x : A) → i < length xs → x ≡ slice_index_or xs i x → (r : Bool) → r ≡ test (g x) → r ≡ true → list_all test (f (take i xs)) ≡ true
      → list_all test (f (take (i + 1) xs)) ≡ true
  one_more xs i x h is r k passes so_far =
      let here : test (g (slice_index_or xs i x)) ≡ true = ap (λ y. test (g y)) (sym is) ∙ sym k ∙ passes in
      let before : list_all (λ y. test (g y)) (take i xs) ≡ true = sym (list_all-map test g (take i xs)) ∙ ap (list_all test) (sym (same (take i xs))) ∙ so_far in
      ap (list_all test) (same (take (i + 1) xs)) ∙ list_all-map test g (take (i + 1) xs) ∙ list_all_more (λ y. test (g y)) xs i x h ∙ and_from _ _ before here

pub same_list : {A : Type 0} (xs : List A) → xs ≡ map (λ x. x) xs
same_list [] = refl
same_list (x ∷ xs) = ap (λ ys. x ∷ ys) (same_list xs)

abbrev pub tag_view : (d : ℕ) → TagOf Node → Name × List (TypeAt d)
tag_view d t = (t.atom, row_view d t.rest)

pub same_tags : (d : ℕ) (ts : List (TagOf Node)) → tags_view d ts ≡ map (tag_view d) ts
same_tags d [] = refl
same_tags d (t ∷ ts) = ap (λ m. tag_view d t ∷ m) (same_tags d ts)

abbrev pub size_view : (d : ℕ) → SizeOf Node → ℕ × Body (TypeAt d)
size_view d s = (s.size, body_view d s.body)

pub same_sizes : (d : ℕ) (ss : List (SizeOf Node)) → sizes_view d ss ≡ map (size_view d) ss
same_sizes d [] = refl
same_sizes d (s ∷ ss) = ap (λ m. size_view d s ∷ m) (same_sizes d ss)

-- ---- short names in a tree

pub any_short : (d : ℕ) → is_short_at d (ops d).any ≡ true
unfolding ops
any_short zero = refl
any_short (suc d) = ap (λ b. b && true) (any_short d)

pub short_any : (t : Node) → t ≡ v.Any → (d : ℕ) → true ≡ is_short_at d (view d t)
short_any t e d = sym (ap (is_short_at d) (view_any t e d) ∙ any_short d)

pub short_of : (t : Node) (p : PartsOf Node) → t ≡ v.Of p → (d : ℕ) → Fits d t → are_short_parts (is_short_at (d - 1)) (parts_view (d - 1) p) ≡ is_short_at d (view d t)
short_of t p e zero h = let f = of_above t p e zero h in absurd (omega arith)
short_of t p e (suc d) h =
    let one_less : suc d - 1 ≡ d = omega arith in
    ap (λ n. are_short_parts (is_short_at n) (parts_view n p)) one_less ∙ ap (is_short_at (suc d)) (sym (view_of t p e d))
