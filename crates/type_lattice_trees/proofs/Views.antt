-- What the trees of the code stand for, one level at a time.
use Rattle.std.proofs.Common.{[], ◌≡◌, ℕ, zero, suc, ◌-◌, ◌<◌, ◌≤◌, Bool, true, false, List, ◌∷◌, ◌++◌, Option, is_some, refl, sym, ap, ◌∙◌, subst, true≢false, arith}
use Rattle.std.specs.Prelude.{◌↔◌, IsTrue, slice_index_or, length}
use Rattle.type_lattice_model.specs.Tables.{EachOf}
use Rattle.type_lattice_model.specs.Shapes.{TypeAt}
use Rattle.type_lattice_model.specs.Operations.{ops, is_empty, parts_is_none, no_cell}
use Rattle.type_lattice_model.specs.Normal.{NormalAt, NormalParts}
use Rattle.type_lattice_model.specs.Values.{nil}
use Rattle.type_lattice_model.proofs.CellLaws.{filled-not_none}
use Rattle.type_lattice_model.proofs.LevelLaws.{level_laws}
use Rattle.type_lattice_trees.specs.declared.node.Node.{Node, out-Node, roll-Node, roll-out-Node}
use Rattle.type_lattice_trees.specs.declared.node.Node.TheOpen.{Node-F}
use Rattle.type_lattice_trees.specs.declared.node.Node.TheVariants as v
use Rattle.type_lattice_trees.specs.declared.node.PartsOf.{PartsOf}
use Rattle.type_lattice_trees.specs.declared.node.CellOf.{CellOf}
use Rattle.type_lattice_trees.specs.declared.node.SizeOf.{SizeOf}
use Rattle.type_lattice_trees.specs.declared.node.TagOf.{TagOf}
use Rattle.type_lattice_trees.specs.View.{view, is_any, layer, parts_view, cell_view, sizes_view, Fits, EachNode, EachTag, EachSize, EachInBody, PartsFit}

-- ---- the two forms of a tree

pub out_any : (t : Node) → t ≡ v.Any → out-Node t ≡ Node-F.Any
out_any t e = ap out-Node e ∙ v.outs-Any

pub out_of : (t : Node) (p : PartsOf Node) → t ≡ v.Of p → out-Node t ≡ Node-F.Of p
out_of t p e = ap out-Node e ∙ v.outs-Of p

pub any_is : (t : Node) → is_any (out-Node t) ≡ true → t ≡ v.Any
any_is t h = go (out-Node t) refl h
  where
    go : (y : Node-F Node) → out-Node t ≡ y → is_any y ≡ true → t ≡ v.Any
    go Node-F.Any e h = sym (roll-out-Node t) ∙ ap roll-Node e ∙ v.rolls-Any
    go (Node-F.Of p) e h = absurd (true≢false (sym h))

-- ---- what they stand for

pub view_any : (t : Node) → t ≡ v.Any → (d : ℕ) → view d t ≡ (ops d).any
unfolding view ops
view_any t e zero = ap is_any (out_any t e)
view_any t e (suc d) = ap (λ n. layer (ops (suc d)).any (view d) n) (out_any t e)

pub view_of : (t : Node) (p : PartsOf Node) → t ≡ v.Of p → (d : ℕ) → view (suc d) t ≡ parts_view d p
unfolding view
view_of t p e d = ap (λ n. layer (ops (suc d)).any (view d) n) (out_of t p e)

-- ---- which stand for a type

pub any_fits : (t : Node) → t ≡ v.Any → (d : ℕ) → Fits d t
unfolding Fits
any_fits x0 x1 x2 = grind (arith, out_any)

pub zero_fits : (t : Node) → Fits zero t → t ≡ v.Any
unfolding Fits
zero_fits t h = any_is t h

-- parts never stand at level 0
pub of_above : (t : Node) (p : PartsOf Node) → t ≡ v.Of p → (d : ℕ) → Fits d t → 1 ≤ d
unfolding Fits
of_above x0 x1 x2 x3 x4 = grind (arith, out_of)

pub normal_parts : (d : ℕ) (t : TypeAt (suc d)) → NormalAt (suc d) t → NormalParts (NormalAt d) (ops d) t
unfolding NormalAt
normal_parts d t k = k

pub parts_normal : (d : ℕ) (t : TypeAt (suc d)) → NormalParts (NormalAt d) (ops d) t → NormalAt (suc d) t
unfolding NormalAt
parts_normal d t k = k

-- what is kept of parts: they stand for a type, and it isn't every value
pub fits_of : (t : Node) (p : PartsOf Node) → t ≡ v.Of p → (d : ℕ) → Fits (suc d) t → PartsFit d p × (parts_view d p ≡ (ops (suc d)).any → ⊥)
unfolding Fits
fits_of t p e d h = grind (arith, out_of, normal_parts)

pub of_fits : (t : Node) (p : PartsOf Node) → t ≡ v.Of p → (d : ℕ) → PartsFit d p → (parts_view d p ≡ (ops (suc d)).any → ⊥) → Fits (suc d) t
unfolding Fits
of_fits t p e d k f = grind (arith, out_of, parts_normal)

one_less : (d : ℕ) → d ≡ suc d - 1
one_less d = omega arith

pub one_more : (d : ℕ) → 1 ≤ d → d ≡ suc (d - 1)
one_more d h = omega arith

-- the parts of a tree fit the level below
pub below_fits : (t : Node) (p : PartsOf Node) → t ≡ v.Of p → (d : ℕ) → Fits d t → PartsFit (d - 1) p
below_fits t p e zero h = absurd (let f = of_above t p e zero h in omega arith)
below_fits t p e (suc d) h = subst (λ n. PartsFit n p) (one_less d) (fits_of t p e d h).0

pub part_fits : (t : Node) (p : PartsOf Node) → t ≡ v.Of p → (d e : ℕ) → Fits d t → e ≡ d - 1 → PartsFit e p
part_fits t p e d n h s = subst (λ n. PartsFit n p) (sym s) (below_fits t p e d h)

-- a tree that stands for a type stands for one in normal form
pub fits_normal : (d : ℕ) (t : Node) → Fits d t → NormalAt d (view d t)
unfolding Fits view NormalAt ops
fits_normal zero t h = tt
fits_normal (suc d) t h = grind (arith, level_laws, (level_laws (suc d)).any_normal)

-- ---- the items of lists

module _ {A : Type 0} (Q : A → Type 0) where
  pub each_at : (xs : List A) → EachOf Q xs → (i : ℕ) (x : A) → i < length xs → Q (slice_index_or xs i x)
  each_at [] k i x h = grind arith
  each_at (y ∷ ys) k i x h = grind (arith, each_at ys)

  -- one item more at the end
  pub each_push : (xs : List A) (x : A) → EachOf Q xs → Q x → EachOf Q (xs ++ x ∷ [])
  each_push [] x k h = (h, tt)
  each_push (y ∷ ys) x k h = (k.0, each_push ys x k.1 h)

  pub each_more : (new xs : List A) (x : A) → new ≡ xs ++ x ∷ [] → EachOf Q xs → Q x → EachOf Q new
  each_more new xs x e k h = subst (EachOf Q) (sym e) (each_push xs x k h)

pub size_at : (P : Node → Type 0) (ss : List (SizeOf Node)) → EachSize P ss → (i : ℕ) (x : SizeOf Node) → i < length ss → EachInBody P (slice_index_or ss i x).body
size_at P = each_at (λ s. EachInBody P s.body)

pub tag_at : (P : Node → Type 0) (ts : List (TagOf Node)) → EachTag P ts → (i : ℕ) (x : TagOf Node) → i < length ts → EachNode P (slice_index_or ts i x).rest
tag_at P = each_at (λ t. EachNode P t.rest)

-- ---- whether there is a value

pub any_has : (t : Node) → t ≡ v.Any → (d : ℕ) → false ≡ (ops d).is_none (view d t)
any_has t e d = sym (ap (ops d).is_none (view_any t e d) ∙ filled-not_none (level_laws d) (ops d).any nil ((level_laws d).any_in nil))

pub of_has : (t : Node) (p : PartsOf Node) (r : Bool) → t ≡ v.Of p → ((d : ℕ) → r ≡ parts_is_none (ops d) (parts_view d p)) → (d : ℕ) → Fits d t → r ≡ (ops d).is_none (view d t)
unfolding ops
of_has t p r e f zero h = absurd (let k = of_above t p e zero h in omega arith)
of_has t p r e f (suc d) h = f d ∙ sym (ap (ops (suc d)).is_none (view_of t p e d))

pub no_sizes : (d : ℕ) (ss : List (SizeOf Node)) (b : Bool) → IsTrue b ↔ (ss ≡ []) → b ≡ is_empty (sizes_view d ss)
no_sizes d [] x2 h = grind arith
no_sizes d (s ∷ ss) x2 h = grind arith

pub no_cell_there : (d : ℕ) (c : Option (CellOf Node)) → is_some c ≡ false → no_cell (ops d) (cell_view d c) ≡ true
no_cell_there x0 x1 x2 = grind arith
