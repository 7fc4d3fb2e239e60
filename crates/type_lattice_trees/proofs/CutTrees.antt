-- The least type of another level, on the trees of the code.
use Rattle.std.proofs.Common.{[], ◌≡◌, ◌⊎◌, inl, inr, ℕ, zero, suc, ◌-◌, ◌<◌, ◌≤◌, true, false, List, ◌∷◌, map, replicate, ◌+◌, length, Some, refl, sym, ap, ◌∙◌, subst, true≢false, arith}
use Rattle.std.specs.Prelude.{not, slice_index_or}
use Rattle.type_lattice_model.specs.Tables.{mapped}
use Rattle.type_lattice_model.specs.Shapes.{TypeAt, product, tags}
use Rattle.type_lattice_model.specs.Operations.{ops, elements}
use Rattle.type_lattice_model.specs.Normal.{AreElements, NormalRow, NormalParts, NormalAt}
use Rattle.type_lattice_model.specs.Cut.{row_lower, cell_lower, body_lower, tuples_lower, parts_lower, cut}
use Rattle.type_lattice_model.proofs.BodyLaws.{elements_normal}
use Rattle.type_lattice_model.proofs.CutLaws.{cut_lowering}
use Rattle.type_lattice_model.proofs.LevelLaws.{level_laws}
use Rattle.type_lattice_trees.specs.declared.node.Node.{Node}
use Rattle.type_lattice_trees.specs.declared.node.Node.TheVariants as v
use Rattle.type_lattice_trees.specs.declared.node.PartsOf.{PartsOf}
use Rattle.type_lattice_trees.specs.declared.node.SizeOf.{SizeOf}
use Rattle.type_lattice_trees.specs.declared.node.BodyOf.{BodyOf}
use Rattle.type_lattice_trees.specs.declared.node.BodyOf.TheVariants.{Tags}
use Rattle.type_lattice_trees.specs.declared.node.TagOf.{TagOf}
use Rattle.type_lattice_trees.specs.View.{view, row_view, tags_view, body_view, tuples_view, cell_view, parts_view, Fits, EachNode, EachInTuples, EachInCell, RowFits, TagsFit, BodyFits, SizesFit, PartsFit}
use Rattle.type_lattice_trees.proofs.Views.{any_fits, view_any, view_of, of_above, one_more, each_at}
use Rattle.type_lattice_trees.proofs.Inclusions.{row_length, rest_fits as rest_of_tag, size_fits}
use Rattle.type_lattice_trees.proofs.Projections.{tags_filled}

-- ---- every value, cut

pub cut_any : (e d : ℕ) → cut e d (ops e).any ≡ (ops d).any
cut_any e d =
    let high = level_laws e in
    let low = level_laws d in
    let s = cut_lowering e d in
    low.lattice.same (cut e d (ops e).any) (ops d).any (s.normal (ops e).any high.any_normal) low.any_normal (λ x h. low.any_in x) (λ x h. s.above (ops e).any high.any_normal x (high.any_in x))

pub any_cut : (t n : Node) → t ≡ v.Any → n ≡ v.Any → (e d : ℕ) → view d n ≡ cut e d (view e t)
any_cut t n p q e d = view_any n q d ∙ sym (ap (cut e d) (view_any t p e) ∙ cut_any e d)

-- at level 0 what has a value is every value
at_zero : (e : ℕ) (x : TypeAt e) → (ops e).is_none x ≡ false → cut e 0 x ≡ (ops 0).any
unfolding cut ops
at_zero e x h = ap not h

pub zero_cut : (t n : Node) (e d : ℕ) → n ≡ v.Any → d ≡ 0 → (1 ≤ d) ⊎ ((ops e).is_none (view e t) ≡ false) → view d n ≡ cut e d (view e t)
zero_cut t n e d q z (inl h) = absurd (omega arith)
zero_cut t n e d q z (inr h) = view_any n q d ∙ subst (λ x. (ops x).any ≡ cut e x (view e t)) (sym z) (sym (at_zero e (view e t) h))

-- ---- rows at level 0

cut_zero_row : (e : ℕ) (es : List (TypeAt e)) → AreElements (NormalAt e) (ops e) es → map (cut e 0) es ≡ replicate (length es) (ops 0).any
cut_zero_row e [] k = refl
cut_zero_row e (x ∷ xs) k = λ i. at_zero e x k.0.1 i ∷ cut_zero_row e xs k.1 i

view_every : (d n : ℕ) → row_view d (replicate n v.Any) ≡ replicate n (ops d).any
view_every d zero = refl
view_every d (suc n) = λ i. view_any v.Any refl d i ∷ view_every d n i

-- as many times every value as there are types
every_for : (e n : ℕ) (es : List (TypeAt e)) (us : List Node) → NormalRow (NormalAt e) (ops e) n (Some es) → us ≡ replicate n v.Any → row_view 0 us ≡ map (cut e 0) es
every_for e n es us k q = ap (row_view 0) q ∙ view_every 0 n ∙ ap (λ m. replicate m (ops 0).any) (sym k.0) ∙ sym (cut_zero_row e es k.1)

pub every_row : (e d : ℕ) (row us : List Node) → ((n : ℕ) × RowFits e n row) → d ≡ 0 → us ≡ replicate (length row) v.Any → row_view d us ≡ row_lower (cut e d) (ops e) (ops d) (row_view e row)
every_row e zero row us k z q = every_for e k.0 (row_view e row) us k.1.normal (q ∙ ap (λ m. replicate m v.Any) (row_length e k.0 row k.1))
every_row e (suc d) row us k z q = absurd (omega (arith, z))

each_every : (d n : ℕ) → EachNode (Fits d) (replicate n v.Any)
each_every d zero = tt
each_every d (suc n) = (any_fits v.Any refl d, each_every d n)

pub every_fits : (d n : ℕ) (us : List Node) → us ≡ replicate n v.Any → EachNode (Fits d) us
every_fits d n us q = subst (EachNode (Fits d)) (sym q) (each_every d n)

-- ---- parts, cut

pub parts_cut : (t n : Node) (p q : PartsOf Node) (e d : ℕ) → t ≡ v.Of p → parts_view d q ≡ parts_lower (cut e d) (ops e) (ops d) (parts_view e p) → view (suc d) n ≡ parts_view d q
    → view (suc d) n ≡ cut (suc e) (suc d) (view (suc e) t)
unfolding cut
parts_cut t n p q e d a b c = c ∙ b ∙ sym (ap (cut (suc e) (suc d)) (view_of t p a e))

pub of_cut : (t n : Node) (p q : PartsOf Node) (e d : ℕ) → t ≡ v.Of p → Fits e t → (d ≡ 0 → ⊥) → parts_view (d - 1) q ≡ parts_lower (cut (e - 1) (d - 1)) (ops (e - 1)) (ops (d - 1)) (parts_view (e - 1) p)
    → view (suc (d - 1)) n ≡ parts_view (d - 1) q → view d n ≡ cut e d (view e t)
of_cut t n p q e d a f g b c =
    let x : e ≡ suc (e - 1) = one_more e (of_above t p a e f) in
    let y : d ≡ suc (d - 1) = omega (arith, g) in
    subst (λ i. view i n ≡ cut e i (view e t)) (sym y) (subst (λ i. view (suc (d - 1)) n ≡ cut i (suc (d - 1)) (view i t)) (sym x) (parts_cut t n p q (e - 1) (d - 1) a b c))

-- parts in normal form, cut, are in normal form
pub parts_kept : (e d : ℕ) (x : TypeAt (suc e)) → NormalParts (NormalAt e) (ops e) x → NormalParts (NormalAt d) (ops d) (parts_lower (cut e d) (ops e) (ops d) x)
unfolding cut NormalAt
parts_kept e d x k = (cut_lowering (suc e) (suc d)).normal x k

pub cut_parts_fit : (e d : ℕ) (p q : PartsOf Node) → PartsFit e p → q.plain ≡ p.plain → cell_view d q.cell ≡ cell_lower (cut e d) (ops e) (ops d) (cell_view e p.cell)
    → tuples_view d q.tuples ≡ tuples_lower (cut e d) (ops e) (ops d) (tuples_view e p.tuples) → EachInCell (Fits d) q.cell → EachInTuples (Fits d) q.tuples → PartsFit d q
cut_parts_fit e d p q k a b c f g =
    let m : parts_view d q ≡ parts_lower (cut e d) (ops e) (ops d) (parts_view e p) = cc in
    record { normal = subst (NormalParts (NormalAt d) (ops d)) (sym m) (parts_kept e d (parts_view e p) k.normal); each = (f, g) }

-- ---- where there can be tags

pub tags_above : (d : ℕ) → (ops d).has_tags ≡ true → 0 < d
unfolding ops
tags_above zero h = absurd (true≢false (sym h))
tags_above (suc d) h = omega arith

pub above_tags : (d : ℕ) → 0 < d → (ops d).has_tags ≡ true
unfolding ops
above_tags zero h = absurd (omega arith)
above_tags (suc d) h = refl

pub no_tags : (d : ℕ) → d ≤ 0 → (ops d).has_tags ≡ false
unfolding ops
no_tags zero h = refl
no_tags (suc d) h = absurd (omega arith)

-- ---- the tuples of one size

-- tags stand after at least one element, and above level 0
pub tags_fit : (d n : ℕ) (ts : List (TagOf Node)) → BodyFits d n (Tags ts) → ((m : ℕ) × TagsFit d m ts) × (0 < d)
tags_fit d zero ts k = absurd k.normal
tags_fit d (suc n) ts k = ((n, record { normal = k.normal.0; each = k.each }), tags_above d k.normal.2)

tags_both : (d : ℕ) (b : BodyOf Node) (ts : List (TagOf Node)) → b ≡ Tags ts → ((n : ℕ) × BodyFits d n b) → ((m : ℕ) × TagsFit d m ts) × (0 < d)
tags_both d b ts e k = tags_fit d k.0 ts (subst (BodyFits d k.0) e k.1)

pub tags_of : (d : ℕ) (b : BodyOf Node) (ts us : List (TagOf Node)) → b ≡ Tags ts → us ≡ ts → ((n : ℕ) × BodyFits d n b) → (m : ℕ) × TagsFit d m us
tags_of d b ts us e f k = subst (λ z. (m : ℕ) × TagsFit d m z) (sym f) (tags_both d b ts e k).0

-- tags stay tags where there can be some, and else become a product
module _ (e d : ℕ) where
  pub tags_kept : (b : BodyOf Node) (ts us : List (TagOf Node)) → b ≡ Tags ts → 0 < d → tags_view d us ≡ mapped (row_lower (cut e d) (ops e) (ops d)) (tags_view e ts)
      → tags (tags_view d us) ≡ body_lower (cut e d) (ops e) (ops d) (body_view e b)
  tags_kept b ts us x h q = grind (arith, above_tags)

  tags_lost : (ts : List (TagOf Node)) (r : List (TypeAt d)) → d ≤ 0 → r ≡ row_lower (cut e d) (ops e) (ops d) (elements (ops e) (tags (tags_view e ts))) → product r ≡ body_lower (cut e d) (ops e) (ops d) (tags (tags_view e ts))
  tags_lost ts r h p = grind (arith, no_tags)

-- ---- the items of lists

elements_at : (d : ℕ) (ns : List Node) → AreElements (NormalAt d) (ops d) (row_view d ns) → (i : ℕ) (x : Node) → i < length ns → (ops d).is_none (view d (slice_index_or ns i x)) ≡ false
elements_at d [] k i x h = grind arith
elements_at d (n ∷ ns) k i x h = grind (arith, elements_at d ns)

-- an element of a row has a value
pub element_fits : (d e : ℕ) (ns : List Node) → ((n : ℕ) × RowFits d n ns) → (i : ℕ) (x : Node) → i < length ns → x ≡ slice_index_or ns i x → Fits d x × ((1 ≤ e) ⊎ ((ops d).is_none (view d x) ≡ false))
element_fits d e ns k i x h q = grind (arith, each_at, elements_at)

pub rest_fits : (d : ℕ) (ts : List (TagOf Node)) → ((n : ℕ) × TagsFit d n ts) → (i : ℕ) (x : TagOf Node) (r : List Node) → i < length ts → x ≡ slice_index_or ts i x → r ≡ x.rest → (m : ℕ) × RowFits d m r
rest_fits d ts k i x r h e f = (k.0, subst (RowFits d k.0) (sym f) (rest_of_tag d k.0 ts k.1 i x h e))

pub tags_filled_there : (d : ℕ) (b : BodyOf Node) (ts us : List (TagOf Node)) → b ≡ Tags ts → us ≡ ts → ((n : ℕ) × BodyFits d n b) → 0 < length us
tags_filled_there d b ts us e f k = let g = tags_of d b ts us e f k in tags_filled d g.0 us g.1

-- at level 0 a body of tags is a product of one element more than what follows its first tag
pub every_body : (e d : ℕ) (b : BodyOf Node) (ts us : List (TagOf Node)) (t : TagOf Node) (rest r : List Node) → b ≡ Tags ts → us ≡ ts
    → ((n : ℕ) × BodyFits e n b) → d ≤ 0 → 0 < length us → t ≡ slice_index_or us 0 t
    → rest ≡ (slice_index_or us 0 t).rest → r ≡ replicate (length rest + 1) v.Any → product (row_view d r) ≡ body_lower (cut e d) (ops e) (ops d) (body_view e b)
every_body e (suc d) b ts us t rest r p q k z l h f g = absurd (omega (arith, z))
every_body e zero b ts us t rest r p q k z l h f g = subst (λ x. product (row_view 0 r) ≡ body_lower (cut e 0) (ops e) (ops 0) (body_view e x)) (sym p) (at k.0 (subst (BodyFits e k.0) p k.1))
  where
    at : (n : ℕ) → BodyFits e n (Tags ts) → product (row_view 0 r) ≡ body_lower (cut e 0) (ops e) (ops 0) (tags (tags_view e ts))
    at zero j = absurd j.normal
    at (suc m) j =
        let fit : TagsFit e m us = subst (TagsFit e m) (sym q) (record { normal = j.normal.0; each = j.each }) in
        let len : length rest + 1 ≡ suc m = omega (arith, row_length e m t.rest (rest_of_tag e m us fit 0 t l h), ap length f, ap (λ (x : TagOf Node). length x.rest) h) in
        tags_lost e 0 ts (row_view 0 r) z (every_for e (suc m) (elements (ops e) (tags (tags_view e ts))) r (elements_normal (level_laws e) (suc m) (tags (tags_view e ts)) j.normal) (g ∙ ap (λ i. replicate i v.Any) len))

pub body_fits : (d : ℕ) (ss : List (SizeOf Node)) → SizesFit d ss → (i : ℕ) (x : SizeOf Node) → i < length ss → x ≡ slice_index_or ss i x → (n : ℕ) × BodyFits d n x.body
body_fits d ss k i x h e = (x.size, size_fits d ss k i x h e)
