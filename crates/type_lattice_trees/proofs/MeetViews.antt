-- The type whose values are those of both, one part at a time.
use Rattle.std.proofs.Common.{[], ◌≡◌, ℕ, suc, ◌-◌, ◌<◌, Bool, true, false, ◌||◌, List, ◌∷◌, ◌++◌, Some, None, length, drop, sym, ap, ◌∙◌, subst, arith}
use Rattle.std.specs.Prelude.{slice_index_or}
use Rattle.std.proofs.lemmas.List.{map-append}
use Rattle.std.proofs.lemmas.Bool.{or_right}
use Rattle.type_kinds.proofs.Lists.{drop_next}
use Rattle.type_lattice_model.specs.Shapes.{TypeAt, sizes}
use Rattle.type_lattice_model.specs.HasType.{HasAt, HasRow}
use Rattle.type_lattice_model.specs.Operations.{Ops, ops, zip, has_none, row_meet, sizes_meet, parts_meet, tuples_meet}
use Rattle.type_lattice_model.specs.Normal.{NormalAt, NormalTuples}
use Rattle.type_lattice_model.specs.Laws.{BelowBy, Laws}
use Rattle.type_lattice_model.proofs.LatticeLaws.{meet-below, meet-above}
use Rattle.type_lattice_model.proofs.RowLaws.{row_lattice}
use Rattle.type_lattice_model.proofs.TupleLaws.{tuples_lattice}
use Rattle.type_lattice_model.proofs.LevelLaws.{level_laws}
use Rattle.type_lattice_trees.specs.declared.node.Node.{Node}
use Rattle.type_lattice_trees.specs.declared.node.Node.TheVariants as v
use Rattle.type_lattice_trees.specs.declared.node.PartsOf.{PartsOf}
use Rattle.type_lattice_trees.specs.declared.node.TuplesOf.{TuplesOf}
use Rattle.type_lattice_trees.specs.declared.node.TuplesOf.TheVariants.{Sizes}
use Rattle.type_lattice_trees.specs.declared.node.SizeOf.{SizeOf}
use Rattle.type_lattice_trees.specs.declared.node.TagOf.{TagOf}
use Rattle.type_lattice_trees.specs.View.{view, Fits, EachNode, EachTag, EachInBody, EachSize, row_view, sizes_view, tuples_view, parts_view, RowFits, TuplesFit, PartsFit}
use Rattle.type_lattice_trees.proofs.JoinLaws.{same_length}
use Rattle.type_lattice_trees.proofs.Views.{fits_normal, of_above, of_fits, fits_of, view_of, view_any, one_more, parts_normal, each_more}

-- ---- types

-- where one is part of the other, it is the meet
pub met_below : (d : ℕ) (a b m : Node) → Fits d a → Fits d b → BelowBy (HasAt d) (view d a) (view d b) → m ≡ a → view d m ≡ (ops d).meet (view d a) (view d b)
met_below d a b m f g h e = ap (view d) e ∙ meet-below (level_laws d).lattice (view d a) (view d b) (fits_normal d a f) (fits_normal d b g) h

pub met_above : (d : ℕ) (a b m : Node) → Fits d a → Fits d b → BelowBy (HasAt d) (view d b) (view d a) → m ≡ b → view d m ≡ (ops d).meet (view d a) (view d b)
met_above d a b m f g h e = ap (view d) e ∙ meet-above (level_laws d).lattice (view d a) (view d b) (fits_normal d a f) (fits_normal d b g) h

pub row_below : (d n : ℕ) (a b x j : List Node) → RowFits d n a → RowFits d n b → x ≡ a → BelowBy (HasRow (HasAt d)) (Some (row_view d x)) (Some (row_view d b)) → j ≡ a
    → Some (row_view d j) ≡ row_meet (ops d) (row_view d a) (row_view d b)
row_below d n a b x j f g p h e =
    ap (λ r. Some (row_view d r)) e ∙ meet-below (row_lattice (level_laws d) n) (Some (row_view d a)) (Some (row_view d b)) f.normal g.normal (subst (λ z. BelowBy (HasRow (HasAt d)) (Some (row_view d z)) (Some (row_view d b))) p h)

-- where the first of two types isn't every value, their meet isn't
meet-not_any : (d : ℕ) (s t : TypeAt d) → NormalAt d s → NormalAt d t → (s ≡ (ops d).any → ⊥) → (ops d).meet s t ≡ (ops d).any → ⊥
meet-not_any d s t j k f e =
    let l : Laws (HasAt d) (NormalAt d) (ops d) = level_laws d in
    f (l.lattice.same s (ops d).any j l.any_normal (λ v h. l.any_in v) (λ v h. l.lattice.meet_left s t j k v (subst (HasAt d v) (sym e) (l.any_in v))))

-- the meet of a tree that is every value, and of another
pub meet_of_any : (d : ℕ) (a b m : Node) → a ≡ v.Any → Fits d a → Fits d b → m ≡ b → view d m ≡ (ops d).meet (view d a) (view d b)
meet_of_any d a b m e f g k = met_above d a b m f g (λ u h. subst (HasAt d u) (sym (view_any a e d)) ((level_laws d).any_in u)) k

pub meet_with_any : (d : ℕ) (a b m : Node) → b ≡ v.Any → Fits d a → Fits d b → m ≡ a → view d m ≡ (ops d).meet (view d a) (view d b)
meet_with_any d a b m e f g k = met_below d a b m f g (λ u h. subst (HasAt d u) (sym (view_any b e d)) ((level_laws d).any_in u)) k

-- the meet of two trees that have parts
parts_value : (a b m : Node) (p q r : PartsOf Node) → a ≡ v.Of p → b ≡ v.Of q → m ≡ v.Of r → (d : ℕ) → parts_view d r ≡ parts_meet (ops d) (parts_view d p) (parts_view d q)
    → view (suc d) m ≡ (ops (suc d)).meet (view (suc d) a) (view (suc d) b)
unfolding ops
parts_value a b m p q r e f g d h = grind (arith, view_of)

pub meet_of_parts : (a b m : Node) (p q r : PartsOf Node) → a ≡ v.Of p → b ≡ v.Of q → m ≡ v.Of r → (d : ℕ) → Fits d a → parts_view (d - 1) r ≡ parts_meet (ops (d - 1)) (parts_view (d - 1) p) (parts_view (d - 1) q)
    → view d m ≡ (ops d).meet (view d a) (view d b)
meet_of_parts a b m p q r e f g d j h =
    subst (λ n. view n m ≡ (ops n).meet (view n a) (view n b)) (sym (one_more d (of_above a p e d j))) (parts_value a b m p q r e f g (d - 1) h)

-- it isn't every value, since neither of them is
parts_fit : (a b m : Node) (p q r : PartsOf Node) → a ≡ v.Of p → b ≡ v.Of q → m ≡ v.Of r → (d : ℕ) → Fits (suc d) a → Fits (suc d) b → PartsFit d r
    → parts_view d r ≡ parts_meet (ops d) (parts_view d p) (parts_view d q) → Fits (suc d) m
unfolding ops
parts_fit a b m p q r e f g d j k n h =
    let s = fits_of a p e d j in
    let t = fits_of b q f d k in
    of_fits m r g d n (λ full. meet-not_any (suc d) (parts_view d p) (parts_view d q) (parts_normal d (parts_view d p) s.0.normal) (parts_normal d (parts_view d q) t.0.normal) s.1 (sym h ∙ full))

pub meet_of_parts_fits : (a b m : Node) (p q r : PartsOf Node) → a ≡ v.Of p → b ≡ v.Of q → m ≡ v.Of r → (d : ℕ) → Fits d a → Fits d b → PartsFit (d - 1) r
    → parts_view (d - 1) r ≡ parts_meet (ops (d - 1)) (parts_view (d - 1) p) (parts_view (d - 1) q) → Fits d m
meet_of_parts_fits a b m p q r e f g d j k n h =
    let one = one_more d (of_above a p e d j) in
    subst (λ n. Fits n m) (sym one) (parts_fit a b m p q r e f g (d - 1) (subst (λ n. Fits n a) one j) (subst (λ n. Fits n b) one k) n h)

-- ---- lists of values

-- ---- lists, an item at a time

-- what each item had, and the one that is added, each has
pub each_tag_more : (P : Node → Type 0) (new ts : List (TagOf Node)) (t : TagOf Node) → new ≡ ts ++ t ∷ [] → EachTag P ts → EachNode P t.rest → EachTag P new
each_tag_more P = each_more (λ t. EachNode P t.rest)

pub each_size_more : (P : Node → Type 0) (new ss : List (SizeOf Node)) (s : SizeOf Node) → new ≡ ss ++ s ∷ [] → EachSize P ss → EachInBody P s.body → EachSize P new
each_size_more P = each_more (λ s. EachInBody P s.body)

-- ---- the same types after each of some atoms

-- ---- the types of two products, position by position

-- and still no position without a value
neither : (a b c : Bool) → (a || b) ≡ false → (b ≡ false → c ≡ false) → (a || c) ≡ false
neither x0 x1 x2 x3 x4 = grind arith

filled_end : {E : Type 0} (o : Ops E) (es : List E) (e : E) → has_none o es ≡ false → o.is_none e ≡ false → has_none o (es ++ e ∷ []) ≡ false
filled_end o [] e h k = ap (λ b. b || false) k
filled_end o (f ∷ es) e h k = neither (o.is_none f) (has_none o es) (has_none o (es ++ e ∷ [])) h (λ g. filled_end o es e g k)

pub filled_more : (d : ℕ) (new out : List Node) (m : Node) → new ≡ out ++ m ∷ [] → has_none (ops d) (row_view d out) ≡ false → (ops d).is_none (view d m) ≡ false → has_none (ops d) (row_view d new) ≡ false
filled_more d new out m e h k = ap (λ ns. has_none (ops d) (row_view d ns)) e ∙ ap (has_none (ops d)) (map-append (view d) out (m ∷ [])) ∙ filled_end (ops d) (row_view d out) (view d m) h k

none_among : {E : Type 0} (o : Ops E) (es : List E) (e : E) (fs : List E) → o.is_none e ≡ true → has_none o (es ++ e ∷ fs) ≡ true
none_among o [] e fs h = ap (λ b. b || has_none o fs) h
none_among o (g ∷ es) e fs h = or_right (o.is_none g) (has_none o (es ++ e ∷ fs)) (none_among o es e fs h)

-- where a position has no value, the product has none
pub row_none : (d n : ℕ) (a b out : List Node) (i : ℕ) (x y m : Node) → RowFits d n a → RowFits d n b → i < length a → x ≡ slice_index_or a i x → y ≡ slice_index_or b i y → view d m ≡ (ops d).meet (view d x) (view d y)
    → (ops d).is_none (view d m) ≡ true → row_view d out ++ zip (ops d).meet (row_view d (drop i a)) (row_view d (drop i b)) ≡ zip (ops d).meet (row_view d a) (row_view d b)
    → None ≡ row_meet (ops d) (row_view d a) (row_view d b)
row_none d n a b out i x y m j k h p q e z f = grind (arith, same_length, drop_next, none_among)

-- ---- tuples

-- the sizes that both have
pub sizes_fit : (d : ℕ) (a b : TuplesOf Node) (ss rs us : List (SizeOf Node)) → a ≡ Sizes ss → b ≡ Sizes rs → TuplesFit d a → TuplesFit d b → sizes_view d us ≡ sizes_meet (ops d) (sizes_view d ss) (sizes_view d rs)
    → EachSize (Fits d) us → TuplesFit d (Sizes us)
sizes_fit d a b ss rs us e f j k g h =
    let met : tuples_meet (ops d) (tuples_view d a) (tuples_view d b) ≡ tuples_view d (Sizes us) =
    ap (λ t. tuples_meet (ops d) (tuples_view d t) (tuples_view d b)) e ∙ ap (λ t. tuples_meet (ops d) (tuples_view d (Sizes ss)) (tuples_view d t)) f ∙ ap sizes (sym g) in
    record { normal = subst (NormalTuples (NormalAt d) (ops d)) met ((tuples_lattice (level_laws d)).meet_normal (tuples_view d a) (tuples_view d b) j.normal k.normal); each = h }
