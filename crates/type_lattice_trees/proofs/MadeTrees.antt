-- What the trees of one part stand for, at every level.
use Rattle.std.proofs.Common.{[], ◌≡◌, ℕ, suc, ◌≤◌, Bool, false, List, ◌∷◌, ◌++◌, length, Option, Some, None, refl, sym, ap, ◌∙◌, subst, arith}
use borrow.Author.Tests.{lt-ltb}
use Rattle.std.proofs.lemmas.List.{length-map}
use Rattle.type_lattice_model.specs.declared.limits.TheConstants.{MAX_ELEMENTS}
use Rattle.type_lattice_model.specs.Shapes.{PlainParts, Cell, Body, Tuples, sizes, all_tuples, Parts, TypeAt}
use Rattle.type_lattice_model.specs.Operations.{ops, plain_none, of_plain, of_list, of_tuples, body_of}
use Rattle.type_lattice_model.specs.Normal.{NormalFunctions, AreElements, NormalParts, NormalAt, NormalBody}
use Rattle.type_lattice_model.proofs.BodyLaws.{body_of_normal}
use Rattle.type_lattice_model.proofs.LevelLaws.{level_laws}
use Rattle.type_lattice_trees.specs.declared.node.Node.{Node}
use Rattle.type_lattice_trees.specs.declared.node.Node.TheVariants as v
use Rattle.type_lattice_trees.specs.declared.node.PartsOf.{PartsOf}
use Rattle.type_lattice_trees.specs.declared.node.TuplesOf.TheVariants.{All, Sizes}
use Rattle.type_lattice_trees.specs.declared.node.SizeOf.{SizeOf}
use Rattle.type_lattice_trees.specs.declared.node.BodyOf.{BodyOf}
use Rattle.type_lattice_trees.specs.View.{view, body_view, row_view, parts_view, sizes_view, Fits, EachInTuples, EachInBody, EachSize, BodyFits}
use Rattle.type_lattice_trees.proofs.Views.{fits_normal, view_of, of_fits}

no_cell : {E : Type 0} (c : Option (Cell E)) (x : Cell E) → c ≡ None → c ≡ Some x → ⊥
no_cell c x e f = cc

not_all : {E : Type 0} (t : Tuples E) (m : List (ℕ × Body E)) → t ≡ sizes m → t ≡ all_tuples → ⊥
not_all t m e f = cc

-- parts with no list
without_list : (t : Node) (p : PartsOf Node) → t ≡ v.Of p → p.cell ≡ None → (d : ℕ) (u : Parts (TypeAt d)) → parts_view d p ≡ u → NormalParts (NormalAt d) (ops d) u → EachInTuples (Fits d) p.tuples → Fits (suc d) t
unfolding ops
without_list t p e f d u is k each = grind (arith, of_fits, no_cell)

plain_parts : (q : PlainParts) (ss : List (SizeOf Node)) → ss ≡ [] → (d : ℕ) → parts_view d (record { plain = q; cell = None; tuples = Sizes ss }) ≡ of_plain (ops d) q
plain_parts q ss e d = λ n. record { plain = q; cell = None; tuples = sizes (sizes_view d (e n)) }

pub plain_value : (t : Node) (q : PlainParts) (ss : List (SizeOf Node)) → t ≡ v.Of (record { plain = q; cell = None; tuples = Sizes ss }) → ss ≡ [] → (d : ℕ) → view (suc d) t ≡ of_plain (ops d) q
plain_value t q ss e f d = view_of t (record { plain = q; cell = None; tuples = Sizes ss }) e d ∙ plain_parts q ss f d

pub plain_fits : (t : Node) (q : PlainParts) (ss : List (SizeOf Node)) → t ≡ v.Of (record { plain = q; cell = None; tuples = Sizes ss }) → ss ≡ [] → NormalFunctions q.functions → (d : ℕ) → Fits (suc d) t
plain_fits t q ss e f k d =
    without_list t (record { plain = q; cell = None; tuples = Sizes ss }) e refl d (of_plain (ops d) q) (plain_parts q ss f d) (k, tt, (refl, refl, tt)) (subst (EachSize (Fits d)) (sym f) tt)

tuple_parts : (q : PlainParts) → q ≡ plain_none → (d : ℕ) → parts_view d (record { plain = q; cell = None; tuples = All }) ≡ of_tuples (ops d) all_tuples
tuple_parts q e d = λ n. record { plain = e n; cell = None; tuples = all_tuples }

pub every_tuple_value : (t : Node) (q : PlainParts) → t ≡ v.Of (record { plain = q; cell = None; tuples = All }) → q ≡ plain_none → (d : ℕ) → view (suc d) t ≡ of_tuples (ops d) all_tuples
every_tuple_value t q e f d = view_of t (record { plain = q; cell = None; tuples = All }) e d ∙ tuple_parts q f d

pub every_tuple_fits : (t : Node) (q : PlainParts) → t ≡ v.Of (record { plain = q; cell = None; tuples = All }) → q ≡ plain_none → (d : ℕ) → Fits (suc d) t
every_tuple_fits t q e f d = without_list t (record { plain = q; cell = None; tuples = All }) e refl d (of_tuples (ops d) all_tuples) (tuple_parts q f d) (tt, tt, tt) tt

size_parts : (q : PlainParts) (ss rs : List (SizeOf Node)) (n : ℕ) (b : BodyOf Node) → q ≡ plain_none → rs ≡ [] → ss ≡ rs ++ record { size = n; body = b } ∷ [] → (d : ℕ)
    → parts_view d (record { plain = q; cell = None; tuples = Sizes ss }) ≡ of_tuples (ops d) (sizes ((n, body_view d b) ∷ []))
size_parts q ss rs n b e f g d = grind arith

pub size_value : (t : Node) (q : PlainParts) (ss rs : List (SizeOf Node)) (n : ℕ) (b : BodyOf Node) → t ≡ v.Of (record { plain = q; cell = None; tuples = Sizes ss }) → q ≡ plain_none → rs ≡ []
    → ss ≡ rs ++ record { size = n; body = b } ∷ [] → (d : ℕ) → view (suc d) t ≡ of_tuples (ops d) (sizes ((n, body_view d b) ∷ []))
size_value t q ss rs n b i e f g d = view_of t (record { plain = q; cell = None; tuples = Sizes ss }) i d ∙ size_parts q ss rs n b e f g d

pub size_fits : (t : Node) (q : PlainParts) (ss rs : List (SizeOf Node)) (n : ℕ) (b : BodyOf Node) → t ≡ v.Of (record { plain = q; cell = None; tuples = Sizes ss }) → q ≡ plain_none → rs ≡ []
    → ss ≡ rs ++ record { size = n; body = b } ∷ [] → (d : ℕ) → n ≤ MAX_ELEMENTS → BodyFits d n b → Fits (suc d) t
size_fits t q ss rs n b i e f g d few k =
    without_list t (record { plain = q; cell = None; tuples = Sizes ss }) i refl d (of_tuples (ops d) (sizes ((n, body_view d b) ∷ []))) (size_parts q ss rs n b e f g d)
    (tt, tt, (refl, refl, ((lt-ltb n 65 (omega (arith, few)), k.normal), tt))) (grind arith)

list_parts : (q : PlainParts) (ss : List (SizeOf Node)) (c e : Node) (p : Bool) → q ≡ plain_none → ss ≡ [] → c ≡ e → (d : ℕ)
    → parts_view d (record { plain = q; cell = Some (record { element = c; is_proper = p }); tuples = Sizes ss }) ≡ of_list (ops d) (view d e) p
list_parts q ss c e p f g h d = λ n. record { plain = f n; cell = Some (record { element = view d (h n); is_proper = p }); tuples = sizes (sizes_view d (g n)) }

pub list_value : (t : Node) (q : PlainParts) (ss : List (SizeOf Node)) (c e : Node) (p : Bool) → t ≡ v.Of (record { plain = q; cell = Some (record { element = c; is_proper = p }); tuples = Sizes ss }) → q ≡ plain_none → ss ≡ []
    → c ≡ e → (d : ℕ) → view (suc d) t ≡ of_list (ops d) (view d e) p
list_value t q ss c e p i f g h d = view_of t (record { plain = q; cell = Some (record { element = c; is_proper = p }); tuples = Sizes ss }) i d ∙ list_parts q ss c e p f g h d

pub list_fits : (t : Node) (q : PlainParts) (ss : List (SizeOf Node)) (c e : Node) (p : Bool) → t ≡ v.Of (record { plain = q; cell = Some (record { element = c; is_proper = p }); tuples = Sizes ss }) → q ≡ plain_none → ss ≡ []
    → c ≡ e → (d : ℕ) → Fits d e → (ops d).is_none (view d e) ≡ false → Fits (suc d) t
unfolding ops
list_fits t q ss c e p i f g h d k some =
    of_fits t (record { plain = q; cell = Some (record { element = c; is_proper = p }); tuples = Sizes ss }) i d (record {
      normal = subst (NormalParts (NormalAt d) (ops d)) (sym (list_parts q ss c e p f g h d)) (tt, (fits_normal d e k, some), (refl, refl, tt));
      each = (subst (Fits d) (sym h) k, subst (EachSize (Fits d)) (sym g) tt);
    }) (λ x. not_all (sizes (sizes_view d ss)) (sizes_view d ss) refl (ap (λ (y : Parts (TypeAt d)). y.tuples) x))

-- the body of a row of element types
pub row_body : (d : ℕ) (row : List Node) (n : ℕ) (b : BodyOf Node) → n ≡ length row → AreElements (NormalAt d) (ops d) (row_view d row) → body_view d b ≡ body_of (ops d) (row_view d row) → EachInBody (Fits d) b
    → BodyFits d n b
row_body d row n b e k is each =
    record { normal = subst (λ (x : Body (TypeAt d)). NormalBody (NormalAt d) (ops d) n (Some x)) (sym is) (body_of_normal (level_laws d) n (row_view d row) (length-map row (view d) ∙ sym e, k)); each = each }
