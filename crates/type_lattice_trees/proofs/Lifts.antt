-- A tree that stands for a type stands for the same type at each higher level.
use Rattle.std.proofs.Common.{[], ◌≡◌, ℕ, zero, suc, ◌≤◌, List, ◌∷◌, Option, None, refl, sym, ap, ◌∙◌, subst, arith}
use Rattle.type_lattice_model.specs.Tables.{mapped}
use Rattle.type_lattice_model.specs.Shapes.{Cell, Tuples, all_tuples, Parts, TypeAt}
use Rattle.type_lattice_model.specs.HasType.{HasAt}
use Rattle.type_lattice_model.specs.Operations.{plain_none, ops}
use Rattle.type_lattice_model.specs.Normal.{NormalCell, NormalSizes, NormalTuples, NormalAt}
use Rattle.type_lattice_model.specs.Cut.{row_lower, cell_lower, body_lower, tuples_lower, parts_lower, cut}
use Rattle.type_lattice_model.proofs.CutLaws.{cut_exact}
use Rattle.type_lattice_model.proofs.LevelLaws.{level_laws}
use Rattle.type_lattice_trees.specs.declared.node.Node.{Node, out-Node, roll-Node, roll-out-Node}
use Rattle.type_lattice_trees.specs.declared.node.Node.TheOpen.{Node-F}
use Rattle.type_lattice_trees.specs.declared.node.Node.TheVariants as v
use Rattle.type_lattice_trees.specs.declared.node.PartsOf.{PartsOf}
use Rattle.type_lattice_trees.specs.declared.node.CellOf.{CellOf}
use Rattle.type_lattice_trees.specs.declared.node.TuplesOf.{TuplesOf}
use Rattle.type_lattice_trees.specs.declared.node.SizeOf.{SizeOf}
use Rattle.type_lattice_trees.specs.declared.node.BodyOf.{BodyOf}
use Rattle.type_lattice_trees.specs.declared.node.TagOf.{TagOf}
use Rattle.type_lattice_trees.specs.View.{view, row_view, tags_view, body_view, sizes_view, tuples_view, cell_view, parts_view, Fits, EachNode, EachTag, EachSize, EachInBody, BodyFits, TuplesFit, CellFits, PartsFit}
use Rattle.type_lattice_trees.proofs.Views.{zero_fits, any_fits, view_of, fits_of, of_fits, parts_normal}
use Rattle.type_lattice_trees.proofs.CutTrees.{any_cut, parts_cut, parts_kept, cut_parts_fit, tags_kept, tags_fit}

-- ---- the parts of a type at another level are in normal form

module _ (e d : ℕ) where
  cell_kept : (c : Option (Cell (TypeAt e))) → NormalCell (NormalAt e) (ops e) c → NormalCell (NormalAt d) (ops d) (cell_lower (cut e d) (ops e) (ops d) c)
  cell_kept c k =
      let x : Parts (TypeAt e) = record { plain = plain_none; cell = c; tuples = all_tuples } in
      (parts_kept e d x (tt, k, tt)).1

  tuples_kept : (t : Tuples (TypeAt e)) → NormalTuples (NormalAt e) (ops e) t → NormalTuples (NormalAt d) (ops d) (tuples_lower (cut e d) (ops e) (ops d) t)
  tuples_kept t k =
      let x : Parts (TypeAt e) = record { plain = plain_none; cell = None; tuples = t } in
      (parts_kept e d x (tt, tt, k)).2

-- ---- one level up, from what holds of the elements

module _ (e d : ℕ) (le : e ≤ d) (up : (t : Node) → Fits e t → Fits d t × (view d t ≡ cut e d (view e t))) where
  nodes_up : (ns : List Node) → EachNode (Fits e) ns → EachNode (Fits d) ns × (row_view d ns ≡ row_lower (cut e d) (ops e) (ops d) (row_view e ns))
  nodes_up [] k = (tt, refl)
  nodes_up (n ∷ ns) k = grind (arith, nodes_up ns k.1)

  each_tag_up : (ts : List (TagOf Node)) → EachTag (Fits e) ts → EachTag (Fits d) ts × (tags_view d ts ≡ mapped (row_lower (cut e d) (ops e) (ops d)) (tags_view e ts))
  each_tag_up [] k = (tt, refl)
  each_tag_up (t ∷ ts) k = grind (arith, nodes_up, t.rest, each_tag_up ts k.1)

  each_body_up : (n : ℕ) (b : BodyOf Node) → BodyFits e n b → EachInBody (Fits d) b × (body_view d b ≡ body_lower (cut e d) (ops e) (ops d) (body_view e b))
  each_body_up x0 x1 x2 = grind (arith, nodes_up, each_tag_up, tags_kept e d, tags_fit e)

  each_size_up : (ss : List (SizeOf Node)) → NormalSizes (NormalAt e) (ops e) (sizes_view e ss) → EachSize (Fits e) ss → EachSize (Fits d) ss × (sizes_view d ss ≡ mapped (body_lower (cut e d) (ops e) (ops d)) (sizes_view e ss))
  each_size_up [] k f = (tt, refl)
  each_size_up (s ∷ ss) k f =
      let a = each_body_up s.size s.body (record { normal = k.0.1; each = f.0 }) in
      let b = each_size_up ss k.1 f.1 in
      ((a.0, b.0), cc (a.1, b.1))

  tuples_up : (t : TuplesOf Node) → TuplesFit e t → TuplesFit d t × (tuples_view d t ≡ tuples_lower (cut e d) (ops e) (ops d) (tuples_view e t))
  tuples_up x0 x1 = grind (arith, each_size_up, tuples_kept e d)

  cell_up : (c : Option (CellOf Node)) → CellFits e c → CellFits d c × (cell_view d c ≡ cell_lower (cut e d) (ops e) (ops d) (cell_view e c))
  cell_up x0 x1 = grind (arith, cell_kept e d)

  parts_up : (p : PartsOf Node) → PartsFit e p → PartsFit d p × (parts_view d p ≡ parts_lower (cut e d) (ops e) (ops d) (parts_view e p))
  parts_up p k =
      let a = cell_up p.cell (record { normal = k.normal.1; each = k.each.0 }) in
      let b = tuples_up p.tuples (record { normal = k.normal.2; each = k.each.1 }) in
      (cut_parts_fit e d p p k refl a.1 b.1 a.0.each b.0.each, cc (a.1, b.1))

-- ---- trees

of_is : (t : Node) (p : PartsOf Node) → out-Node t ≡ Node-F.Of p → t ≡ v.Of p
of_is t p q = sym (roll-out-Node t) ∙ ap roll-Node q ∙ v.rolls-Of p

any_is : (t : Node) → out-Node t ≡ Node-F.Any → t ≡ v.Any
any_is t q = sym (roll-out-Node t) ∙ ap roll-Node q ∙ v.rolls-Any

-- what is every value at a higher level was so before
pub any_before : (e d : ℕ) → e ≤ d → (x : TypeAt e) → NormalAt e x → cut e d x ≡ (ops d).any → x ≡ (ops e).any
any_before e d le x k q =
    let high = level_laws e in
    let low = level_laws d in
    high.lattice.same x (ops e).any k high.any_normal (λ w h. high.any_in w) (λ w h. cut_exact e d le x k w (subst (HasAt d w) (sym q) (low.any_in w)))

parts_before : (e d : ℕ) → e ≤ d → (x : TypeAt (suc e)) → NormalAt (suc e) x → parts_lower (cut e d) (ops e) (ops d) x ≡ (ops (suc d)).any → x ≡ (ops (suc e)).any
unfolding cut
parts_before e d le x k q = any_before (suc e) (suc d) (omega arith) x k q

-- from the parts of a tree to the tree
next_up : (e d : ℕ) → e ≤ d → ((t : Node) → Fits e t → Fits d t × (view d t ≡ cut e d (view e t))) → (t : Node) → Fits (suc e) t → Fits (suc d) t × (view (suc d) t ≡ cut (suc e) (suc d) (view (suc e) t))
next_up e d le up t k = go (out-Node t) refl
  where
    go : (y : Node-F Node) → out-Node t ≡ y → Fits (suc d) t × (view (suc d) t ≡ cut (suc e) (suc d) (view (suc e) t))
    go Node-F.Any q =
        let z = any_is t q in
        (any_fits t z (suc d), any_cut t t z z (suc e) (suc d))
    go (Node-F.Of p) q =
        let z = of_is t p q in
        let f = fits_of t p z e k in
        let a = parts_up e d le up p f.0 in (
          of_fits t p z d a.0 (λ x. f.1 (parts_before e d le (parts_view e p) (parts_normal e (parts_view e p) f.0.normal) (sym a.1 ∙ x))),
          parts_cut t t p p e d z a.1 (view_of t p z d),
        )

-- a tree that stands for a type of a level stands for it at each higher level
pub lift : (e d : ℕ) → e ≤ d → (t : Node) → Fits e t → Fits d t × (view d t ≡ cut e d (view e t))
lift zero d le t k = let z = zero_fits t k in (any_fits t z d, any_cut t t z z zero d)
lift (suc e) zero le t k = absurd (omega arith)
lift (suc e) (suc d) le t k = next_up e d (omega arith) (lift e d (omega arith)) t k
