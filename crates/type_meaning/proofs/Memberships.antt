-- Whether a value is in a type, part by part: what a test of its parts tells of the whole.
use Rattle.std.proofs.Common.{◌≡◌, ℕ, zero, suc, ◌-◌, ◌<◌, Bool, true, false, ◌==◌, not, List, [], ◌∷◌, length, Option}
use Rattle.std.proofs.Common.{Some, None, ◌↔◌, IsTrue, refl, sym, ap, ap₂, ◌∙◌, subst, subst₂, true≢false, arith}
use Rattle.std.specs.Prelude.{option_map}
use Rattle.std.specs.Ordering.{nat_cmp}
use Rattle.type_kinds.proofs.Truths.{refuted}
use borrow.Author.Tests.{ltb-true, eqb-true, eq-eqb}
use Rattle.type_kinds.specs.declared.atom.Atom.{Atom}
use Rattle.type_kinds_sets.specs.Names.{name_cmp}
use Rattle.type_lattice_model.specs.Values as m
use Rattle.type_lattice_model.specs.Shapes.{PlainParts}
use Rattle.type_lattice_model.specs.Tables.{find}
use Rattle.type_lattice_model.specs.HasType.{HasAt, HasParts, HasCell, HasAll, HasEach, HasRow, HasTag, HasBody, HasTuple}
use Rattle.type_lattice_model.specs.ValueShapes.{Shape, Leaf, leaf, shape, has_leaf, has-shape, HasShape}
use Rattle.type_lattice_model.proofs.LevelLaws.{level_laws}
use Rattle.type_lattice_model.proofs.TupleLaws.{small_at, some_at}
use Rattle.type_lattice_trees.specs.declared.node.Node.{Node}
use Rattle.type_lattice_trees.specs.declared.node.Node.TheVariants as n
use Rattle.type_lattice_trees.specs.declared.node.PartsOf.{PartsOf}
use Rattle.type_lattice_trees.specs.declared.node.CellOf.{CellOf}
use Rattle.type_lattice_trees.specs.declared.node.TuplesOf.{TuplesOf}
use Rattle.type_lattice_trees.specs.declared.node.TuplesOf.TheVariants as of_tuples
use Rattle.type_lattice_trees.specs.declared.node.SizeOf.{SizeOf}
use Rattle.type_lattice_trees.specs.declared.node.BodyOf.{BodyOf}
use Rattle.type_lattice_trees.specs.declared.node.BodyOf.TheVariants as of_body
use Rattle.type_lattice_trees.specs.declared.node.TagOf.{TagOf}
use Rattle.type_lattice_trees.specs.View.{view, Fits, EachNode, EachInCell, EachTag, row_view, tags_view, body_view, sizes_view, tuples_view, cell_view, parts_view, BodyFits, TuplesFit, PartsFit}
use Rattle.type_lattice_trees.proofs.Views.{view_any, view_of, of_above}
use Rattle.type_lattice_trees.proofs.Inclusions.{after_fits, row_length}
use Rattle.type_meaning.specs.declared.value.Value.{Value}
use Rattle.type_meaning.specs.declared.value.Value.TheVariants as v
use Rattle.type_meaning.specs.Values.{value_of}
use Rattle.type_meaning.proofs.Variants.{all_values, all_pairs, is_int, is_float, is_atom, is_bits, is_nil, is_cons, is_tuple, is_map, is_pid, is_port, is_reference, is_function, variant, is_leaf}
use Rattle.type_meaning.proofs.Variants.{value-Int, value-Float, value-Atom, value-Bits, value-Nil, value-Cons, value-Tuple, value-Map, value-Pid, value-Port, value-Reference, value-Function}

-- ---- plain values

same_test : (r b : Bool) → r ≡ b → IsTrue r ↔ (b ≡ true)
same_test r b e = (λ h. sym e ∙ h, λ h. e ∙ h)

-- a value has one leaf, so what is asked of that one is told
pub leaf_told : (x : Value) (a : Leaf) (p : PlainParts) (r : Bool) → shape (value_of x) ≡ leaf a → r ≡ has_leaf p a → (l : Leaf) → shape (value_of x) ≡ leaf l → IsTrue r ↔ (has_leaf p l ≡ true)
leaf_told x a p r f h l g =
    let same : leaf a ≡ leaf l = sym f ∙ g in
    let is : a ≡ l = cc in
    same_test r (has_leaf p l) (h ∙ ap (has_leaf p) is)

-- a value that holds others has none
pub no_leaf_told : (x : Value) (f : Shape) (p : PlainParts) (r : Bool) → shape (value_of x) ≡ f → ((l : Leaf) → f ≡ leaf l → ⊥) → (l : Leaf) → shape (value_of x) ≡ leaf l → IsTrue r ↔ (has_leaf p l ≡ true)
no_leaf_told x f p r e no_leaf l g = absurd (no_leaf l (sym e ∙ g))

pub same_number : (k j : ℕ) → (k == j) ≡ (j == k)
same_number k j = elim (k == j) as (λ b. (k == j) ≡ b → b ≡ (j == k)) [
  | true ↦ λ e. sym (eq-eqb j k (sym (eqb-true k j e)))
  | false ↦ λ e. elim (j == k) as (λ b. (j == k) ≡ b → false ≡ b) [ true ↦ λ f. absurd (true≢false (sym (eq-eqb k j (sym (eqb-true j k f))) ∙ e)) | false ↦ λ f. refl ] refl
] refl

-- ---- a type and its parts

pub any_has_it : (d : ℕ) (t : Node) (x : Value) → t ≡ n.Any → HasAt d (value_of x) (view d t)
any_has_it d t x e = subst (HasAt d (value_of x)) (sym (view_any t e d)) ((level_laws d).any_in (value_of x))

has_told : (d : ℕ) (t : Node) (p : PartsOf Node) → t ≡ n.Of p → Fits d t → (w : m.Value) → HasAt d w (view d t) ≡ HasParts (HasAt (d - 1)) w (parts_view (d - 1) p)
has_told zero t p e k w = absurd (let f = of_above t p e zero k in omega arith)
has_told (suc d) t p e k w =
    let less : d ≡ suc d - 1 = omega arith in
    ap (HasAt (suc d) w) (view_of t p e d) ∙ ap (λ j. HasParts (HasAt j) w (parts_view j p)) less

parts_tell : (d : ℕ) (t : Node) (p : PartsOf Node) (x : Value) (w : m.Value) (r : Bool) → t ≡ n.Of p → Fits d t → value_of x ≡ w → IsTrue r ↔ HasParts (HasAt (d - 1)) w (parts_view (d - 1) p)
    → IsTrue r ↔ HasAt d (value_of x) (view d t)
parts_tell d t p x w r e k f h =
    subst (λ T. IsTrue r ↔ T) (sym (has_told d t p e k (value_of x))) (subst (λ y. IsTrue r ↔ HasParts (HasAt (d - 1)) y (parts_view (d - 1) p)) (sym f) h)

-- a tuple is in a type by its tuples
pub tuples_tell : (d : ℕ) (t : Node) (p : PartsOf Node) (x : Value) (vs ws : List Value) (r : Bool) → t ≡ n.Of p → Fits d t → x ≡ v.Tuple vs → ws ≡ vs
    → IsTrue r ↔ HasTuple (HasAt (d - 1)) (all_values ws) (tuples_view (d - 1) p.tuples) → IsTrue r ↔ HasAt d (value_of x) (view d t)
tuples_tell d t p x vs ws r e k f g i =
    parts_tell d t p x (m.tuple (all_values vs)) r e k (ap value_of f ∙ value-Tuple vs) (subst (λ y. IsTrue r ↔ HasTuple (HasAt (d - 1)) (all_values y) (tuples_view (d - 1) p.tuples)) g i)

-- another value is in a type by its plain part
pub plain_tells : (d : ℕ) (t : Node) (p : PartsOf Node) (x : Value) (r : Bool) → t ≡ n.Of p → Fits d t → ((h w : Value) → x ≡ v.Cons h w → ⊥) → ((vs : List Value) → x ≡ v.Tuple vs → ⊥)
    → ((l : Leaf) → shape (value_of x) ≡ leaf l → IsTrue r ↔ (has_leaf p.plain l ≡ true)) → IsTrue r ↔ HasAt d (value_of x) (view d t)
plain_tells d t p x r e k no_cons no_tuple f =
    let l = is_leaf x no_cons no_tuple in
    parts_tell d t p x (value_of x) r e k refl (subst (λ T. IsTrue r ↔ T) (sym (has-shape (HasAt (d - 1)) (value_of x) (parts_view (d - 1) p) ∙ ap (λ y. HasShape (HasAt (d - 1)) y (parts_view (d - 1) p)) l.1)) (f l.0 l.1))

-- what is kept of the parts
pub cell_fits : (d : ℕ) (p : PartsOf Node) (c : CellOf Node) → p.cell ≡ Some c → PartsFit d p → Fits d c.element
cell_fits d p c e k = subst (EachInCell (Fits d)) e k.each.0

pub tuples_fit : (d : ℕ) (p : PartsOf Node) → PartsFit d p → TuplesFit d p.tuples
tuples_fit d p k = record { normal = k.normal.2; each = k.each.1 }

-- ---- lists that aren't empty

-- a head in the type, so it turns on what follows
pub head_tells : {A B C : Type 0} (a b : Bool) → IsTrue a ↔ A → a ≡ true → IsTrue b ↔ (B × C) → IsTrue b ↔ ((A × B) × C)
head_tells a b f e g = (λ h. ((f.0 e, (g.0 h).0), (g.0 h).1), λ k. g.1 (k.0.1, k.1))

pub head_fails : {A B C : Type 0} (a : Bool) → IsTrue a ↔ A → a ≡ false → IsTrue a ↔ ((A × B) × C)
head_fails a f e = (λ h. absurd (true≢false (sym h ∙ e)), λ k. f.1 k.0.0)

-- the value may follow a head of the list
abbrev pub Follows : (d : ℕ) → m.Value → CellOf Node → Type 0
Follows d w c = HasAll (HasAt d) (m.heads w) (view d c.element) × (IsTrue c.is_proper → m.end_of w ≡ m.nil)

-- a cons is in a type whose cell it may follow a head of
pub cell_tells : (d : ℕ) (t : Node) (p : PartsOf Node) (x h w : Value) (c : CellOf Node) (r : Bool) → t ≡ n.Of p → Fits d t → x ≡ v.Cons h w → p.cell ≡ Some c → IsTrue r ↔ Follows (d - 1) (value_of x) c
    → IsTrue r ↔ HasAt d (value_of x) (view d t)
cell_tells d t p x h w c r e k f g i =
    let is = ap value_of f ∙ value-Cons h w in
    let there : IsTrue r ↔ HasCell (HasAt (d - 1)) (value_of h, value_of w) (cell_view (d - 1) (Some c)) = subst (λ y. IsTrue r ↔ Follows (d - 1) y c) is i in
    parts_tell d t p x (m.cons (value_of h) (value_of w)) r e k is (subst (λ y. IsTrue r ↔ HasCell (HasAt (d - 1)) (value_of h, value_of w) (cell_view (d - 1) y)) (sym g) there)

pub no_cell_tells : (d : ℕ) (t : Node) (p : PartsOf Node) (x h w : Value) → t ≡ n.Of p → Fits d t → x ≡ v.Cons h w → p.cell ≡ None → IsTrue false ↔ HasAt d (value_of x) (view d t)
no_cell_tells d t p x h w e k f g =
    parts_tell d t p x (m.cons (value_of h) (value_of w)) false e k (ap value_of f ∙ value-Cons h w) (refuted (λ i. subst (λ y. HasCell (HasAt (d - 1)) (value_of h, value_of w) (cell_view (d - 1) y)) g i))

pub cons_follows : (d : ℕ) (x h w : Value) (c : CellOf Node) (r : Bool) → x ≡ v.Cons h w → IsTrue r ↔ Follows d (m.cons (value_of h) (value_of w)) c → IsTrue r ↔ Follows d (value_of x) c
cons_follows d x h w c r e f = subst (λ y. IsTrue r ↔ Follows d y c) (sym (ap value_of e ∙ value-Cons h w)) f

pub nil_follows : (d : ℕ) (x : Value) (c : CellOf Node) → x ≡ v.Nil → Follows d (value_of x) c
nil_follows d x c e = subst (λ y. Follows d y c) (sym (ap value_of e ∙ value-Nil)) (tt, λ i. refl)

-- what is no cons and no nil is an end of its own
ends_chain : (x : Value) → (x ≡ v.Nil → ⊥) → ((h w : Value) → x ≡ v.Cons h w → ⊥) → (m.heads (value_of x) ≡ m.no_value) × (m.end_of (value_of x) ≡ m.nil → ⊥)
ends_chain x no_nil no_cons =
    let by : (w : m.Value) → value_of x ≡ w → (m.heads w ≡ m.no_value) × (m.end_of w ≡ m.nil → ⊥) → (m.heads (value_of x) ≡ m.no_value) × (m.end_of (value_of x) ≡ m.nil → ⊥) =
    λ w e. subst (λ y. (m.heads y ≡ m.no_value) × (m.end_of y ≡ m.nil → ⊥)) (sym e) in
    elim (variant x) [
      | is_int n e ↦ by (m.int n) (ap value_of e ∙ value-Int n) (refl, λ h. cc)
      | is_float s e ↦ by (m.float s) (ap value_of e ∙ value-Float s) (refl, λ h. cc)
      | is_atom a e ↦ by (m.atom a) (ap value_of e ∙ value-Atom a) (refl, λ h. cc)
      | is_bits n e ↦ by (m.bits _) (ap value_of e ∙ value-Bits n) (refl, λ h. cc)
      | is_nil e ↦ absurd (no_nil e)
      | is_cons h t e ↦ absurd (no_cons h t e)
      | is_tuple vs e ↦ by (m.tuple (all_values vs)) (ap value_of e ∙ value-Tuple vs) (refl, λ h. cc)
      | is_map ps e ↦ by (m.map (all_pairs ps)) (ap value_of e ∙ value-Map ps) (refl, λ h. cc)
      | is_pid n e ↦ by (m.pid n) (ap value_of e ∙ value-Pid n) (refl, λ h. cc)
      | is_port n e ↦ by (m.port n) (ap value_of e ∙ value-Port n) (refl, λ h. cc)
      | is_reference n e ↦ by (m.reference n) (ap value_of e ∙ value-Reference n) (refl, λ h. cc)
      | is_function n e ↦ by (m.foreign 0 n) (ap value_of e ∙ value-Function n) (refl, λ h. cc)
    ]

-- so it may follow where the ends are free
pub end_follows : (d : ℕ) (x : Value) (c : CellOf Node) → (x ≡ v.Nil → ⊥) → ((h w : Value) → x ≡ v.Cons h w → ⊥) → IsTrue (not c.is_proper) ↔ Follows d (value_of x) c
end_follows d x c no_nil no_cons =
    let e = ends_chain x no_nil no_cons in
    let all : HasAll (HasAt d) (m.heads (value_of x)) (view d c.element) = subst (λ ws. HasAll (HasAt d) ws (view d c.element)) (sym e.0) tt in
    go c.is_proper refl all e.1
  where
    go : (b : Bool) → c.is_proper ≡ b → HasAll (HasAt d) (m.heads (value_of x)) (view d c.element) → (m.end_of (value_of x) ≡ m.nil → ⊥) → IsTrue (not c.is_proper) ↔ Follows d (value_of x) c
    go true f all no_end = (λ h. absurd (true≢false (sym h ∙ ap not f)), λ k. absurd (no_end (k.1 f)))
    go false f all no_end = (λ h. (all, λ i. absurd (true≢false (sym i ∙ f))), λ k. ap not f)

-- ---- tuples

count-all_values : (vs : List Value) → m.count (all_values vs) ≡ length vs
count-all_values [] = refl
count-all_values (x ∷ vs) = ap suc (count-all_values vs)

pub too_long : (d : ℕ) (vs : List Value) (t : TuplesOf Node) (ss : List (SizeOf Node)) → t ≡ of_tuples.Sizes ss → TuplesFit d t → 64 < length vs → HasTuple (HasAt d) (all_values vs) (tuples_view d t) → ⊥
too_long d vs t ss e k lt h =
    let f : TuplesFit d (of_tuples.Sizes ss) = subst (TuplesFit d) e k in
    let g : HasTuple (HasAt d) (all_values vs) (tuples_view d (of_tuples.Sizes ss)) = subst (λ y. HasTuple (HasAt d) (all_values vs) (tuples_view d y)) e h in
    let count = m.count (all_values vs) in
    let small = ltb-true count 65 (small_at (level_laws d) (sizes_view d ss) f.normal.2 count (some_at (level_laws d) (find nat_cmp (sizes_view d ss) count) (all_values vs) g)) in
    omega (arith, lt, small, count-all_values vs)

-- sizes have a tuple by the body of its size
pub size_tells : (d : ℕ) (vs : List Value) (t : TuplesOf Node) (ss ws : List (SizeOf Node)) (b : Option (BodyOf Node)) (r : Bool) → t ≡ of_tuples.Sizes ss → ws ≡ ss
    → option_map (body_view d) b ≡ find nat_cmp (sizes_view d ws) (length vs) → IsTrue r ↔ HasBody (HasAt d) (all_values vs) (option_map (body_view d) b) → IsTrue r ↔ HasTuple (HasAt d) (all_values vs) (tuples_view d t)
size_tells d vs t ss ws b r e s f h =
    let there : option_map (body_view d) b ≡ find nat_cmp (sizes_view d ss) (m.count (all_values vs)) = f ∙ ap₂ (λ us k. find nat_cmp (sizes_view d us) k) s (sym (count-all_values vs)) in
    subst (λ y. IsTrue r ↔ HasTuple (HasAt d) (all_values vs) (tuples_view d y)) (sym e) (subst (λ y. IsTrue r ↔ HasBody (HasAt d) (all_values vs) y) there h)

-- tags have a tuple that begins with one of them
pub tag_tells : (d : ℕ) (vs : List Value) (x : Value) (xs : List Value) (a : Atom) (b : BodyOf Node) (ts us : List (TagOf Node)) (q : Option (List Node)) (r : Bool) → b ≡ of_body.Tags ts → us ≡ ts → vs ≡ x ∷ xs
    → x ≡ v.Atom a → option_map (row_view d) q ≡ find name_cmp (tags_view d us) a → IsTrue r ↔ HasRow (HasAt d) (all_values xs) (option_map (row_view d) q)
    → IsTrue r ↔ HasBody (HasAt d) (all_values vs) (Some (body_view d b))
tag_tells d vs x xs a b ts us q r e s f g i h =
    let there : IsTrue r ↔ HasTag (HasAt d) (m.and_value (m.atom a) (all_values xs)) (tags_view d ts) = subst (λ y. IsTrue r ↔ HasRow (HasAt d) (all_values xs) y) (i ∙ ap (λ y. find name_cmp (tags_view d y) a) s) h in
    let first : IsTrue r ↔ HasTag (HasAt d) (all_values (x ∷ xs)) (tags_view d ts) = subst (λ y. IsTrue r ↔ HasTag (HasAt d) (m.and_value y (all_values xs)) (tags_view d ts)) (sym (ap value_of g ∙ value-Atom a)) there in
    subst₂ (λ y z. IsTrue r ↔ HasBody (HasAt d) (all_values y) (Some (body_view d z))) (sym f) (sym e) first

-- and no other
no_tag : (d : ℕ) (x : Value) (ws : m.Values) (ts : List (TagOf Node)) → ((a : Atom) → x ≡ v.Atom a → ⊥) → HasTag (HasAt d) (m.and_value (value_of x) ws) (tags_view d ts) → ⊥
no_tag d x ws ts no_atom =
    let by : (w : m.Value) → value_of x ≡ w → (HasTag (HasAt d) (m.and_value w ws) (tags_view d ts) → ⊥) → HasTag (HasAt d) (m.and_value (value_of x) ws) (tags_view d ts) → ⊥ =
    λ w e. subst (λ y. HasTag (HasAt d) (m.and_value y ws) (tags_view d ts) → ⊥) (sym e) in
    elim (variant x) [
      | is_int n e ↦ by (m.int n) (ap value_of e ∙ value-Int n) (λ h. h)
      | is_float s e ↦ by (m.float s) (ap value_of e ∙ value-Float s) (λ h. h)
      | is_atom a e ↦ absurd (no_atom a e)
      | is_bits n e ↦ by (m.bits _) (ap value_of e ∙ value-Bits n) (λ h. h)
      | is_nil e ↦ by m.nil (ap value_of e ∙ value-Nil) (λ h. h)
      | is_cons h t e ↦ by (m.cons (value_of h) (value_of t)) (ap value_of e ∙ value-Cons h t) (λ h. h)
      | is_tuple vs e ↦ by (m.tuple (all_values vs)) (ap value_of e ∙ value-Tuple vs) (λ h. h)
      | is_map ps e ↦ by (m.map (all_pairs ps)) (ap value_of e ∙ value-Map ps) (λ h. h)
      | is_pid n e ↦ by (m.pid n) (ap value_of e ∙ value-Pid n) (λ h. h)
      | is_port n e ↦ by (m.port n) (ap value_of e ∙ value-Port n) (λ h. h)
      | is_reference n e ↦ by (m.reference n) (ap value_of e ∙ value-Reference n) (λ h. h)
      | is_function n e ↦ by (m.foreign 0 n) (ap value_of e ∙ value-Function n) (λ h. h)
    ]

pub not_tagged : (d : ℕ) (vs : List Value) (x : Value) (xs : List Value) (b : BodyOf Node) (ts : List (TagOf Node)) → b ≡ of_body.Tags ts → vs ≡ x ∷ xs → ((a : Atom) → x ≡ v.Atom a → ⊥)
    → HasBody (HasAt d) (all_values vs) (Some (body_view d b)) → ⊥
not_tagged d vs x xs b ts e f no_atom h =
    no_tag d x (all_values xs) ts no_atom (subst₂ (λ y z. HasBody (HasAt d) (all_values y) (Some (body_view d z))) f e h)

pub each_tag_fits : (d n : ℕ) (b : BodyOf Node) (ts us : List (TagOf Node)) → b ≡ of_body.Tags ts → us ≡ ts → BodyFits d n b → EachTag (Fits d) us
each_tag_fits d n b ts us e s k = let fit : BodyFits d n (of_body.Tags ts) = subst (BodyFits d n) e k in subst (EachTag (Fits d)) (sym s) fit.each

-- what follows a tag is as long as the rest of the tuple
pub as_long : (d : ℕ) (vs : List Value) (x : Value) (xs : List Value) (a : Atom) (b : BodyOf Node) (ts us : List (TagOf Node)) (ns : List Node) → b ≡ of_body.Tags ts → us ≡ ts → vs ≡ x ∷ xs → BodyFits d (length vs) b
    → Some (row_view d ns) ≡ find name_cmp (tags_view d us) a → EachNode (Fits d) ns → length xs ≡ length ns
as_long d vs x xs a b ts us ns e s f k g each =
    let fit : BodyFits d (suc (length xs)) (of_body.Tags ts) = subst₂ (λ y z. BodyFits d (length y) z) f e k in
    sym (row_length d (length xs) ns (after_fits d (length xs) (of_body.Tags ts) a ns fit (g ∙ ap (λ y. find name_cmp (tags_view d y) a) s) each))

-- ---- elements in the types at their positions

abbrev pub EachIn : (d : ℕ) → List Value → List Node → Type 0
EachIn d vs ns = HasEach (HasAt d) (all_values vs) (row_view d ns)
