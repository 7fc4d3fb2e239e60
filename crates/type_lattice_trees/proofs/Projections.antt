-- The type of one element of tuples with tags: what stands at a position of each rest, joined.
use Rattle.std.proofs.Common.{◌≡◌, ℕ, zero, suc, ◌<◌, ◌≤◌, List, [], ◌∷◌, ◌+◌, ◌-◌, length, drop, Some, slice_get, slice_index_or, refl, sym, ap, ◌∙◌, subst, true≢false, arith}
use Rattle.std.specs.Option.{option_map}
use Rattle.std.proofs.lemmas.List.{length-map}
use Rattle.std.proofs.lemmas.Option.{slice_get-map, slice_get_read}
use Rattle.type_kinds.proofs.Lists.{drop_next}
use Rattle.type_lattice_model.specs.Shapes.{TypeAt, tags}
use Rattle.type_lattice_model.specs.Tables.{held, keys}
use Rattle.type_lattice_model.specs.Operations.{ops, zip, row_join, rows_join, all_rows_join, elements}
use Rattle.type_lattice_trees.specs.declared.node.Node.{Node}
use Rattle.type_lattice_trees.specs.declared.node.TagOf.{TagOf}
use Rattle.type_lattice_trees.specs.declared.node.BodyOf.{BodyOf}
use Rattle.type_lattice_trees.specs.declared.node.BodyOf.TheVariants.{Product, Tags}
use Rattle.type_lattice_trees.specs.View.{view, Fits, row_view, tags_view, body_view, RowFits, TagsFit}
use Rattle.type_lattice_trees.proofs.Views.{one_more, each_at}
use Rattle.type_lattice_trees.proofs.Inclusions.{rest_fits}

-- The tags before the i-th one, joined, have a row, and the type is what stands at its position; with the other tags the row makes the
-- whole.
pub record JoinedSoFar (d at : ℕ) (ts : List (TagOf Node)) (i : ℕ) (out : Node) : Type 0 where
  pub row : List (TypeAt d)
  pub there : slice_get row at ≡ Some (view d out)
  pub value : rows_join (ops d) row (held (tags_view d (drop i ts))) ≡ all_rows_join (ops d) (held (tags_view d ts))
  pub fits : Fits d out

-- ---- the rest of a tag

pub tags_filled : (d n : ℕ) (ts : List (TagOf Node)) → TagsFit d n ts → 0 < length ts
tags_filled d n [] k = absurd (true≢false k.normal.1)
tags_filled d n (t ∷ ts) k = omega arith

pub row_length : (d n : ℕ) (ns : List Node) → RowFits d n ns → length ns ≡ n
row_length d n ns k = sym (length-map ns (view d)) ∙ k.normal.0

module _ (d n : ℕ) (ts : List (TagOf Node)) (k : TagsFit d n ts) (i : ℕ) (t : TagOf Node) (l : i < length ts) (e : t ≡ slice_index_or ts i t) (ns : List Node) (r : ns ≡ t.rest) (at : ℕ) (h : at < n) where
  rest : RowFits d n ns
  rest = subst (RowFits d n) (sym r) (rest_fits d n ts k i t l e)

  pub rest_within : at < length ns
  rest_within = omega (arith, row_length d n ns rest, h)

  pub rest_element : (x : Node) → x ≡ slice_index_or ns at x → Fits d x
  rest_element x g = subst (Fits d) (sym g) (each_at (Fits d) ns rest.each at x rest_within)

-- ---- what stands at a position

-- of two rows that are put together position by position
zip_at : {A : Type 0} (f : A → A → A) (xs ys : List A) (k : ℕ) (x y : A) → slice_get xs k ≡ Some x → slice_get ys k ≡ Some y → slice_get (zip f xs ys) k ≡ Some (f x y)
zip_at f [] ys k x y e g = grind arith
zip_at f (u ∷ us) [] k x y e g = grind arith
zip_at f (u ∷ us) (v ∷ vs) zero x y e g = grind arith
zip_at f (u ∷ us) (v ∷ vs) (suc k) x y e g = zip_at f us vs k x y e g

-- of what a row of the code stands for
stands : (d : ℕ) (ns : List Node) (k : ℕ) (n : Node) → k < length ns → n ≡ slice_index_or ns k n → slice_get (row_view d ns) k ≡ Some (view d n)
stands d ns k n h e = slice_get-map (view d) ns k ∙ ap (option_map (view d)) (slice_get_read ns (length ns) k n refl h e)

-- of the rest of the first tag, before any other is joined
pub first_rest : (d at : ℕ) (ts : List (TagOf Node)) (t : TagOf Node) (ns : List Node) (n out : Node) → 0 < length ts → t ≡ slice_index_or ts 0 t → ns ≡ t.rest → at < length ns → n ≡ slice_index_or ns at n → out ≡ n
    → Fits d n → JoinedSoFar d at ts 1 out
first_rest d at [] t ns n out l e r h i o f = absurd (omega arith)
first_rest d at (u ∷ us) t ns n out l e r h i o f =
    record {
      row = row_view d ns;
      there = stands d ns at n h i ∙ ap (λ m. Some (view d m)) (sym o);
      value = ap (λ x. rows_join (ops d) (row_view d x) (held (tags_view d us))) (r ∙ ap (λ (x : TagOf Node). x.rest) e);
      fits = subst (Fits d) (sym o) f;
    }

-- and with one more
pub next_rest : (d at : ℕ) (ts : List (TagOf Node)) (i : ℕ) (t : TagOf Node) (ns : List Node) (n out new : Node) → JoinedSoFar d at ts i out → i < length ts → t ≡ slice_index_or ts i t → ns ≡ t.rest → at < length ns
    → n ≡ slice_index_or ns at n → view d new ≡ (ops d).join (view d out) (view d n) → Fits d new → JoinedSoFar d at ts (i + 1) new
next_rest d at ts i t ns n out new s l e r h k v f =
    record {
      row = row_join (ops d) s.row (row_view d ns);
      there = zip_at (ops d).join s.row (row_view d ns) at (view d out) (view d n) s.there (stands d ns at n h k) ∙ ap Some (sym v);
      value = grind (arith, drop_next, s.value);
      fits = f;
    }

drop_past : {A : Type 0} (xs : List A) (i : ℕ) → length xs ≤ i → drop i xs ≡ []
drop_past [] zero h = refl
drop_past [] (suc i) h = refl
drop_past (x ∷ xs) zero h = absurd (omega arith)
drop_past (x ∷ xs) (suc i) h = drop_past xs i (omega arith)

-- and of all of them
pub all_joined : (d at : ℕ) (ts : List (TagOf Node)) (i : ℕ) (out : Node) → JoinedSoFar d at ts i out → length ts ≤ i → Some (view d out) ≡ slice_get (all_rows_join (ops d) (held (tags_view d ts))) at
all_joined d at ts i out s h =
    sym s.there ∙ ap (λ r. slice_get r at) (ap (λ us. rows_join (ops d) s.row (held (tags_view d us))) (sym (drop_past ts i h)) ∙ s.value)

-- ---- an element of a body

pub product_element : (d n at : ℕ) (b : BodyOf Node) (row ns : List Node) (x m : Node) → b ≡ Product row → RowFits d n row → ns ≡ row → at < n → x ≡ slice_index_or ns at x → m ≡ x
    → Some (view d m) ≡ slice_get (elements (ops d) (body_view d b)) at
product_element d n at b row ns x m e k f h i o =
    let within : at < length ns = omega (arith, row_length d n row k, ap length f, h) in
    ap (λ y. Some (view d y)) o ∙ sym (stands d ns at x within i) ∙ ap (λ r. slice_get (row_view d r) at) f ∙ sym (ap (λ c. slice_get (elements (ops d) (body_view d c)) at) e)

pub tag_element : (d at : ℕ) (b : BodyOf Node) (ts us : List (TagOf Node)) (n : Node) → b ≡ Tags ts → us ≡ ts → at ≡ 0 → 0 < d → ((e : ℕ) → view (suc e) n ≡ (ops (suc e)).of_names (keys (tags_view (suc e) us)))
    → Some (view d n) ≡ slice_get (elements (ops d) (body_view d b)) at
tag_element d at b ts us n e f g h k =
    let own : view d n ≡ (ops d).of_names (keys (tags_view d us)) = subst (λ m. view m n ≡ (ops m).of_names (keys (tags_view m us))) (sym (one_more d (omega (arith, h)))) (k (d - 1)) in
    ap Some (own ∙ ap (λ xs. (ops d).of_names (keys (tags_view d xs))) f) ∙ sym (ap (λ c. slice_get (elements (ops d) (body_view d c)) at) e ∙ ap (slice_get (elements (ops d) (tags (tags_view d ts)))) g)
