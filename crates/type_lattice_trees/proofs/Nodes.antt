-- What the code asks of one tree and of its parts.
use Rattle.std.proofs.Common.{[], ◌≡◌, ℕ, zero, suc, ◌+◌, ◌<◌, Bool, true, false, cond, ◌&&◌, List, ◌∷◌, Some, None, length, is_some, refl, sym, ap, ◌∙◌, arith, true≢false, add-one}
use Rattle.std.specs.Prelude.{◌↔◌, IsTrue, slice_index_or, drop}
use Rattle.std.specs.Ordering.{eq_by_cmp}
use Rattle.std.proofs.Math.Seq.{drop-cons}
use Rattle.std.proofs.lemmas.Bool.{false_from_ne_true}
use Rattle.std.proofs.lemmas.Option.{same_Some}
use Rattle.type_kinds_sets.specs.Names.{Name, name_cmp}
use Rattle.type_kinds_sets.specs.Names as names
use Rattle.type_kinds_sets.proofs.AscendingLaws.{is_it, itself}
use Rattle.type_kinds_sets.proofs.NameLaws.{name_total, name_same}
use Rattle.type_lattice_model.specs.Tables.{find}
use Rattle.type_lattice_model.specs.Operations.{ops, plain_all, parts_any, is_atoms, is_empty, no_cell, is_only_atoms}
use Rattle.type_lattice_model.proofs.LevelLaws.{level_laws}
use Rattle.type_lattice_trees.specs.declared.node.Node.{Node}
use Rattle.type_lattice_trees.specs.declared.node.Node.TheVariants as v
use Rattle.type_lattice_trees.specs.declared.node.PartsOf.{PartsOf}
use Rattle.type_lattice_trees.specs.declared.node.CellOf.{CellOf}
use Rattle.type_lattice_trees.specs.declared.node.TuplesOf.TheVariants.{All, Sizes}
use Rattle.type_lattice_trees.specs.declared.node.SizeOf.{SizeOf}
use Rattle.type_lattice_trees.specs.declared.node.TagOf.{TagOf}
use Rattle.type_lattice_trees.specs.View.{view, row_view, tags_view, parts_view, cell_view, tuples_view, sizes_view, Fits, PartsFit}
use Rattle.type_lattice_trees.proofs.Views.{view_any, view_of, of_above, fits_of, no_sizes, no_cell_there}

-- ---- whether every value is there

-- a tree of parts isn't every value
pub parts_not_any : (t : Node) (p : PartsOf Node) → t ≡ v.Of p → (d : ℕ) → Fits d t → view d t ≡ (ops d).any → ⊥
parts_not_any t p e zero h k = let f = of_above t p e zero h in omega arith
parts_not_any t p e (suc d) h k = (fits_of t p e d h).1 (sym (view_of t p e d) ∙ k)

-- so parts whose cell holds one aren't full
pub open_cell : (p : PartsOf Node) (c : CellOf Node) (q : PartsOf Node) → p.cell ≡ Some c → c.element ≡ v.Of q → (d : ℕ) → PartsFit d p → parts_view d p ≡ parts_any (ops d) → ⊥
open_cell p c q e f d k g = grind (arith, parts_not_any, same_Some)

-- parts that are all full are every value
pub full_parts : (p : PartsOf Node) (c : CellOf Node) → p.plain ≡ plain_all → p.cell ≡ Some c → c.is_proper ≡ false → c.element ≡ v.Any → p.tuples ≡ All → (d : ℕ) → parts_view d p ≡ parts_any (ops d)
full_parts p c a e b f g d = grind (arith, view_any)

pub any_is_full : (d : ℕ) → (ops (suc d)).any ≡ parts_any (ops d)
unfolding ops
any_is_full d = refl

-- ---- the atoms of a tree

pub any_has_atom : (t : Node) → t ≡ v.Any → (a : Name) (d : ℕ) → true ≡ (ops d).has_atom (view d t) a
any_has_atom t e a d = grind (arith, view_any, level_laws, (level_laws d).naming.atom_in, (level_laws d).any_in)

pub of_has_atom : (t : Node) (p : PartsOf Node) → t ≡ v.Of p → (a : Name) (b : Bool) → b ≡ names.has p.plain.atoms a → (d : ℕ) → Fits d t → b ≡ (ops d).has_atom (view d t) a
unfolding ops
of_has_atom t p e a b f zero h = let k = of_above t p e zero h in absurd (omega arith)
of_has_atom t p e a b f (suc d) h = f ∙ sym (ap (λ x. (ops (suc d)).has_atom x a) (view_of t p e d))

pub any_only : (t : Node) → t ≡ v.Any → (d : ℕ) → None ≡ (ops d).only (view d t)
unfolding ops
any_only t e zero = refl
any_only t e (suc d) = sym (ap (ops (suc d)).only (view_any t e (suc d)))

pub of_only : (t : Node) (p : PartsOf Node) → t ≡ v.Of p → ((d : ℕ) → is_only_atoms (ops d) (parts_view d p) ≡ true) → (d : ℕ) → Fits d t → names.members_of p.plain.atoms ≡ (ops d).only (view d t)
unfolding ops
of_only t p e f zero h = let k = of_above t p e zero h in absurd (omega arith)
of_only t p e f (suc d) h = sym (ap (ops (suc d)).only (view_of t p e d) ∙ ap (λ b. cond b (names.members_of p.plain.atoms) None) (f d))

pub of_not_only : (t : Node) (p : PartsOf Node) → t ≡ v.Of p → ((d : ℕ) → is_only_atoms (ops d) (parts_view d p) ≡ false) → (d : ℕ) → Fits d t → None ≡ (ops d).only (view d t)
unfolding ops
of_not_only t p e f zero h = let k = of_above t p e zero h in absurd (omega arith)
of_not_only t p e f (suc d) h = sym (ap (ops (suc d)).only (view_of t p e d) ∙ ap (λ b. cond b (names.members_of p.plain.atoms) None) (f d))

atoms_only : (a b c : Bool) → a ≡ true → b ≡ true → c ≡ ((a && b) && c)
atoms_only x0 x1 x2 x3 x4 = grind arith

-- there is nothing plain but atoms and no list, so it turns on the tuples
pub only_atoms_then : (p : PartsOf Node) (ss : List (SizeOf Node)) (b : Bool) → is_atoms p.plain ≡ true → is_some p.cell ≡ false → p.tuples ≡ Sizes ss → IsTrue b ↔ (ss ≡ []) → (d : ℕ)
    → b ≡ is_only_atoms (ops d) (parts_view d p)
only_atoms_then p ss b e f g h d =
    no_sizes d ss b h
    ∙ atoms_only (is_atoms p.plain) (no_cell (ops d) (cell_view d p.cell)) (is_empty (sizes_view d ss)) e (no_cell_there d p.cell f)
    ∙ ap (λ t. is_only_atoms (ops d) (record { plain = p.plain; cell = cell_view d p.cell; tuples = tuples_view d t })) (sym g)

-- ---- what stands after a tag

-- what is looked up from a position on turns on the tag there
tag_here : (ts : List (TagOf Node)) (i : ℕ) (t : TagOf Node) (a : Name) → i < length ts → t ≡ slice_index_or ts i t → (d : ℕ)
    → find name_cmp (tags_view d (drop i ts)) a ≡ cond (eq_by_cmp name_cmp a t.atom) (Some (row_view d t.rest)) (find name_cmp (tags_view d (drop (suc i) ts)) a)
tag_here ts i t a h is d = ap (λ us. find name_cmp (tags_view d us) a) (drop-cons ts i t h ∙ ap (λ u. u ∷ drop (suc i) ts) (sym is))

-- the tag of the atom, and one of another atom
pub tag_found : (ts : List (TagOf Node)) (i : ℕ) (t : TagOf Node) (es : List Node) (a : Name) → i < length ts → t ≡ slice_index_or ts i t → es ≡ t.rest → t.atom ≡ a → (d : ℕ)
    → find name_cmp (tags_view d ts) a ≡ find name_cmp (tags_view d (drop i ts)) a → Some (row_view d es) ≡ find name_cmp (tags_view d ts) a
tag_found ts i t es a h is e same d k =
    ap (λ r. Some (row_view d r)) e
    ∙ sym (k ∙ tag_here ts i t a h is d ∙ ap (λ b. cond b (Some (row_view d t.rest)) (find name_cmp (tags_view d (drop (suc i) ts)) a)) (ap (eq_by_cmp name_cmp a) same ∙ itself name_total name_same a))

pub tag_passed : (ts : List (TagOf Node)) (i : ℕ) (t : TagOf Node) (a : Name) (b : Bool) → i < length ts → t ≡ slice_index_or ts i t → IsTrue b ↔ (t.atom ≡ a) → b ≡ false → (d : ℕ)
    → find name_cmp (tags_view d (drop i ts)) a ≡ find name_cmp (tags_view d (drop (i + 1) ts)) a
tag_passed ts i t a b h is test f d =
    tag_here ts i t a h is d
    ∙ ap (λ c. cond c (Some (row_view d t.rest)) (find name_cmp (tags_view d (drop (suc i) ts)) a))
    (false_from_ne_true (eq_by_cmp name_cmp a t.atom) (λ e. true≢false (sym (test.1 (sym (is_it name_total name_same a t.atom e))) ∙ f)))
    ∙ ap (λ j. find name_cmp (tags_view d (drop j ts)) a) (sym (add-one i))
