-- The text of a type, from that of its parts.
use Rattle.std.proofs.Common.{◌≡◌, ℕ, zero, suc, ◌-◌, true, cond, List, [], ◌∷◌, ◌++◌, map, codes, refl, sym, ap, ◌∙◌, arith, append_assoc}
use Rattle.type_kinds.specs.Quoted.{quoted}
use Rattle.type_kinds_sets.specs.Names.{Name}
use Rattle.type_lattice_model.specs.Shapes.{Body}
use Rattle.type_lattice_model.specs.Operations.{ops}
use Rattle.type_lattice_model.proofs.FullLaws.{any_is_all, all_is_any}
use Rattle.type_lattice_trees.specs.declared.node.Node.{Node}
use Rattle.type_lattice_trees.specs.declared.node.Node.TheVariants as v
use Rattle.type_lattice_trees.specs.declared.node.PartsOf.{PartsOf}
use Rattle.type_lattice_trees.specs.View.{view, parts_view, Fits, EachInParts}
use Rattle.type_lattice_trees.proofs.Views.{view_of, of_above, fits_of, below_fits}
use Rattle.type_text.specs.Texts.{separated, tuple_word, tag_words, size_words, parts_words, text_at}

-- the elements of parts stand for types of the level below
pub each_below : (t : Node) (p : PartsOf Node) → t ≡ v.Of p → (d : ℕ) → Fits d t → EachInParts (Fits (d - 1)) p
each_below t p e d h = (below_fits t p e d h).each

-- ---- the text of a tree

pub any_text : (d : ℕ) → text_at d (ops d).any ≡ codes "any()"
unfolding ops
any_text zero = refl
any_text (suc d) = grind (arith, all_is_any)

text_above : (t : Node) (p : PartsOf Node) → t ≡ v.Of p → (d : ℕ) → Fits (suc d) t
    → text_at (suc d) (view (suc d) t) ≡ cond ((ops (suc d)).is_none (view (suc d) t)) (codes "none()") (separated (codes " | ") (parts_words (text_at d) (parts_view d p)))
text_above t p e d h = grind (arith, view_of, fits_of t p e d h, any_is_all (suc d) (parts_view d p))

-- what a tree of parts turns on
pub text_of_parts : (t : Node) (p : PartsOf Node) → t ≡ v.Of p → (d : ℕ) → Fits d t
    → text_at d (view d t) ≡ cond ((ops d).is_none (view d t)) (codes "none()") (separated (codes " | ") (parts_words (text_at (d - 1)) (parts_view (d - 1) p)))
text_of_parts t p e zero h = let f = of_above t p e zero h in absurd (omega arith)
text_of_parts t p e (suc d) h = grind (arith, text_above t p e d h)

pub text_of_none : (t : Node) (p : PartsOf Node) → t ≡ v.Of p → (d : ℕ) → Fits d t → true ≡ (ops d).is_none (view d t) → text_at d (view d t) ≡ codes "none()"
text_of_none t p e d h k = text_of_parts t p e d h ∙ ap (λ b. cond b (codes "none()") (separated (codes " | ") (parts_words (text_at (d - 1)) (parts_view (d - 1) p)))) (sym k)

-- ---- the words of longer lists

pub tag_words-append : {E : Type 0} (text : E → List ℕ) (m w : List (Name × List E)) → tag_words text (m ++ w) ≡ tag_words text m ++ tag_words text w
tag_words-append text [] w = refl
tag_words-append text (e ∷ m) w = ap (λ ws. tuple_word (quoted e.0 ∷ map text e.1) ∷ ws) (tag_words-append text m w)

pub size_words-append : {E : Type 0} (text : E → List ℕ) (m w : List (ℕ × Body E)) → size_words text (m ++ w) ≡ size_words text m ++ size_words text w
size_words-append text [] w = refl
size_words-append text (e ∷ m) w = grind (arith, size_words-append text m w, append_assoc)
