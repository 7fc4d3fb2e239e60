-- Trees that stand at a lower level as they are: it is so of each part, one level below.
use Rattle.std.proofs.Common.{[], ◌≡◌, ℕ, zero, suc, ◌-◌, ◌≤◌, List, ◌∷◌, Option, Some, None, refl, sym, ap, ◌∙◌, subst, arith}
use Rattle.type_lattice_model.specs.Tables.{mapped}
use Rattle.type_lattice_model.specs.Shapes.{product, sizes}
use Rattle.type_lattice_model.specs.Operations.{ops, parts_any}
use Rattle.type_lattice_model.specs.Cut.{row_lower, cell_lower, body_lower, tuples_lower, parts_lower, cut}
use Rattle.type_lattice_trees.specs.declared.node.Node.{Node}
use Rattle.type_lattice_trees.specs.declared.node.Node.TheVariants as v
use Rattle.type_lattice_trees.specs.declared.node.PartsOf.{PartsOf}
use Rattle.type_lattice_trees.specs.declared.node.CellOf.{CellOf}
use Rattle.type_lattice_trees.specs.declared.node.TuplesOf.{TuplesOf}
use Rattle.type_lattice_trees.specs.declared.node.TuplesOf.TheVariants.{All, Sizes}
use Rattle.type_lattice_trees.specs.declared.node.SizeOf.{SizeOf}
use Rattle.type_lattice_trees.specs.declared.node.BodyOf.{BodyOf}
use Rattle.type_lattice_trees.specs.declared.node.BodyOf.TheVariants.{Product, Tags}
use Rattle.type_lattice_trees.specs.declared.node.TagOf.{TagOf}
use Rattle.type_lattice_trees.specs.LowTrees.{IsLow, IsLowBody, AreLowSizes, AreLowTuples, AreLowParts}
use Rattle.type_lattice_trees.specs.View.{row_view, tags_view, body_view, sizes_view, tuples_view, cell_view, parts_view, Fits, EachNode, EachTag, EachInBody, EachSize, EachInTuples, EachInCell, PartsFit}
use Rattle.type_lattice_trees.proofs.CutTrees.{any_cut, parts_cut, cut_parts_fit, tags_kept}
use Rattle.type_lattice_trees.proofs.Nodes.{any_is_full}
use Rattle.type_lattice_trees.proofs.Views.{any_fits, view_of, of_above, fits_of, of_fits, one_more}

pub any_is_low : (t : Node) → t ≡ v.Any → (d : ℕ) → IsLow d t
any_is_low t q d e f = (any_fits t q d, any_cut t t q q e d)

-- ---- the elements, from level e to level d

module _ (e d : ℕ) where
  low_row : (es : List Node) → EachNode (Fits e) es → EachNode (IsLow d) es → EachNode (Fits d) es × (row_view d es ≡ row_lower (cut e d) (ops e) (ops d) (row_view e es))
  low_row [] f l = (tt, refl)
  low_row (n ∷ ns) f l =
      let h = l.0 e f.0 in
      let k = low_row ns f.1 l.1 in
      ((h.0, k.0), cc)

  low_tags : (ts : List (TagOf Node)) → EachTag (Fits e) ts → EachTag (IsLow d) ts → EachTag (Fits d) ts × (tags_view d ts ≡ mapped (row_lower (cut e d) (ops e) (ops d)) (tags_view e ts))
  low_tags [] f l = (tt, refl)
  low_tags (t ∷ ts) f l =
      let h = low_row t.rest f.0 l.0 in
      let k = low_tags ts f.1 l.1 in
      ((h.0, k.0), cc)

  low_body : (b : BodyOf Node) → EachInBody (Fits e) b → IsLowBody d b → EachInBody (Fits d) b × (body_view d b ≡ body_lower (cut e d) (ops e) (ops d) (body_view e b))
  low_body (Product es) f l = let k = low_row es f l in (k.0, ap product k.1)
  low_body (Tags ts) f l = let k = low_tags ts f l.0 in (k.0, tags_kept e d (Tags ts) ts ts refl l.1 k.1)

  low_sizes : (ss : List (SizeOf Node)) → EachSize (Fits e) ss → AreLowSizes d ss → EachSize (Fits d) ss × (sizes_view d ss ≡ mapped (body_lower (cut e d) (ops e) (ops d)) (sizes_view e ss))
  low_sizes [] f l = (tt, refl)
  low_sizes (s ∷ ss) f l =
      let h = low_body s.body f.0 l.0 in
      let k = low_sizes ss f.1 l.1 in
      ((h.0, k.0), cc)

  low_tuples : (t : TuplesOf Node) → EachInTuples (Fits e) t → AreLowTuples d t → EachInTuples (Fits d) t × (tuples_view d t ≡ tuples_lower (cut e d) (ops e) (ops d) (tuples_view e t))
  low_tuples All f l = (tt, refl)
  low_tuples (Sizes ss) f l = let k = low_sizes ss f l in (k.0, ap sizes k.1)

  low_cell : (c : Option (CellOf Node)) → EachInCell (Fits e) c → EachInCell (IsLow d) c → EachInCell (Fits d) c × (cell_view d c ≡ cell_lower (cut e d) (ops e) (ops d) (cell_view e c))
  low_cell None f l = (tt, refl)
  low_cell (Some c) f l = let h = l e f in (h.0, cc)

  low_parts : (p : PartsOf Node) → PartsFit e p → AreLowParts d p → PartsFit d p × (parts_view d p ≡ parts_lower (cut e d) (ops e) (ops d) (parts_view e p))
  low_parts p k l =
      let c = low_cell p.cell k.each.0 l.0 in
      let t = low_tuples p.tuples k.each.1 l.1 in
      (cut_parts_fit e d p p k refl c.1 t.1 c.0 t.0, cc)

-- ---- the whole

parts_are_low : (t : Node) (p : PartsOf Node) → t ≡ v.Of p → (d : ℕ) → AreLowParts d p → ((k : ℕ) → PartsFit k p → parts_view k p ≡ parts_any (ops k) → ⊥) → IsLow (suc d) t
parts_are_low t p q d l some zero f = absurd (let h = of_above t p q zero f in omega arith)
parts_are_low t p q d l some (suc e) f =
    let k = low_parts e d p (fits_of t p q e f).0 l in
    (of_fits t p q d k.0 (λ h. some d k.0 (h ∙ any_is_full d)), parts_cut t t p p e d q k.1 (view_of t p q d))

pub of_is_low : (t : Node) (p : PartsOf Node) → t ≡ v.Of p → (d : ℕ) → 1 ≤ d → AreLowParts (d - 1) p → ((k : ℕ) → PartsFit k p → parts_view k p ≡ parts_any (ops k) → ⊥) → IsLow d t
of_is_low t p q d h l some = subst (λ n. IsLow n t) (sym (one_more d h)) (parts_are_low t p q (d - 1) l some)
