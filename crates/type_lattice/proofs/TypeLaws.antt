-- The laws of the types of level 4, from the laws of each level.
use Rattle.std.proofs.Common.{◌≡◌, ℕ, ◌-◌, ◌≤◌, ◌<◌, suc, ℤ, pos, Bool, true, false, List, [], ◌∷◌, map, length, Some, refl, ap, ◌∙◌, subst, sym, inl, inr, arith}
use Rattle.std.specs.Prelude.{◌↔◌, IsTrue}
use Rattle.std.proofs.lemmas.Bool.{lt-ltb}
use Rattle.std.proofs.lemmas.List.{length-map}
use Rattle.type_kinds_sets.specs.Numbers as numbers
use Rattle.type_kinds_sets.specs.Numbers.{Numbers}
use Rattle.type_lattice_model.specs.Canonical.{IsCanonical}
use Rattle.type_lattice_model.specs.Values.{Value, int, nil, Values, no_value, and_value, count, heads, end_of, cons as cons_value, tuple as tuple_value}
use Rattle.type_lattice_model.specs.HasType.{HasAt, HasAll, HasEach}
use Rattle.type_lattice_model.specs.Cut as levels
use Rattle.type_lattice_model.specs.Parts.{value_at}
use Rattle.type_lattice_model.proofs.LevelLaws.{level_laws}
use Rattle.type_lattice_model.proofs.CutLaws.{cut_lowering, cut_exact}
use Rattle.type_lattice_model.proofs.MadeLaws as made
use Rattle.type_lattice_model.proofs.ProductLaws as products
use Rattle.type_lattice_model.proofs.ListLaws as lists
use Rattle.type_lattice_model.proofs.ElementLaws as elements
use Rattle.type_lattice_model.proofs.MoreLaws as more
use Rattle.type_lattice_model.proofs.RankLaws.{rank-lower}
use Rattle.type_lattice_model.proofs.CanonicalLaws as canonical
use Rattle.type_lattice.specs.Types.{Type4, same_type, HasType, HasTypes, Below, IsOfLevel, none, any, is_none, meet, join, cut, tuple, cons, project, elem, tail, are_normal, rank}
use Rattle.type_lattice.specs.Elements.{ints_of, elements_at}

pub record Laws : Type 0 where
  pub same : (s t : Type4) → Below s t → Below t s → s ≡ t
  pub rank-falls : (s t : Type4) → Below s t → (s ≡ t → ⊥) → rank s < rank t
  pub canonical-below : (s t : Type4) → ((v : Value) → IsCanonical v → HasType v s → HasType v t) → Below s t
  -- none and any
  pub none-empty : (v : Value) → HasType v none → ⊥
  pub filled : (t : Type4) → (t ≡ none → ⊥) → (v : Value) × HasType v t
  pub is_none-none : (t : Type4) → IsTrue (is_none t) ↔ (t ≡ none)
  pub any-every : (v : Value) → HasType v any
  -- meet and join
  pub meet-both : (s t : Type4) (v : Value) → HasType v (meet s t) ↔ (HasType v s × HasType v t)
  pub join-left : (s t : Type4) → Below s (join s t)
  pub join-right : (s t : Type4) → Below t (join s t)
  pub join-least : (s t u : Type4) → Below s u → Below t u → Below (join s t) u
  -- the cut to a level
  pub cut-level : (d : ℕ) (t : Type4) → IsOfLevel d (cut d t)
  pub cut-above : (d : ℕ) (t : Type4) → Below t (cut d t)
  pub cut-least : (d : ℕ) → d ≤ 4 → (t u : Type4) → IsOfLevel d u → Below t u → Below (cut d t) u
  pub cut-more : (d : ℕ) (s t : Type4) → Below s t → Below (cut d s) (cut d t)
  -- tuples, and what stands at a position of them
  pub tuple-has : (ts : List Type4) (vs : Values) → HasTypes vs ts → HasType (tuple_value vs) (tuple ts)
  pub tuple-least : (ts : List Type4) (u : Type4) → ((vs : Values) → HasTypes vs ts → HasType (tuple_value vs) u) → Below (tuple ts) u
  pub tuple-only : (ts : List Type4) (v : Value) → HasType v (tuple ts) → (vs : Values) × (v ≡ tuple_value vs)
  pub tuple-exact : (ts : List Type4) → length ts ≤ 64 → (vs : Values) → HasType (tuple_value vs) (tuple ts) ↔ HasTypes vs (map (cut 3) ts)
  pub project-holds : (t : Type4) (n i : ℕ) (vs : Values) (v : Value) → HasType (tuple_value vs) t → count vs ≡ n → value_at vs (i - 1) ≡ Some v → HasType v (project t n i)
  pub project-least : (t : Type4) (n i : ℕ) → n ≤ 64 → 1 ≤ i → i ≤ n → (u : Type4) → ((vs : Values) (v : Value) → HasType (tuple_value vs) t → count vs ≡ n → value_at vs (i - 1) ≡ Some v → HasType v u)
      → Below (project t n i) u
  pub project-more : (s t : Type4) (n i : ℕ) → Below s t → Below (project s n i) (project t n i)
  -- lists, and what stands in them
  pub cons-has : (h t : Type4) (proper : Bool) (x y : Value) → HasType x h → HasType y t → HasType (cons_value x y) (cons h t proper)
  pub cons-least : (h t u : Type4) → ((x y : Value) → HasType x h → HasType y t → HasType (cons_value x y) u) → Below (cons h t true) u
  pub cons-only : (h t : Type4) (proper : Bool) (v : Value) → HasType v (cons h t proper) → (x : Value) × ((y : Value) × (v ≡ cons_value x y))
  pub cons-ends : (h t : Type4) → (h ≡ none → ⊥) → ((v : Value) → HasType v (cons h t true) → end_of v ≡ nil) ↔ ((v : Value) → HasType v t → end_of v ≡ nil)
  pub cons-free : (h t : Type4) (x y : Value) → HasType (cons_value x y) (cons h t false) ↔ HasAll HasType (and_value x (heads y)) (elem (cons h t true))
  pub elem-holds : (t : Type4) (x y : Value) → HasType (cons_value x y) t → HasType x (elem t)
  pub tail-holds : (t : Type4) (x y : Value) → HasType (cons_value x y) t → HasType y (tail t)
  pub cons-parts : (t : Type4) (x y : Value) → HasType x (elem t) → HasType y (tail t) → HasType (cons_value x y) t
  pub elem-least : (t u : Type4) → ((x y : Value) → HasType (cons_value x y) t → HasType x u) → Below (elem t) u
  pub tail-least : (t u : Type4) → ((x y : Value) → HasType (cons_value x y) t → HasType y u) → Below (tail t) u
  -- integers, and elements at some positions
  pub ints-of_type : (t : Type4) (n : ℤ) → HasType (int n) t ↔ IsTrue (numbers.has (ints_of t) n)
  pub elements-hold : (t : Type4) (s : Numbers) (vs : Values) (i : ℕ) (v : Value) → HasType (tuple_value vs) t → value_at vs i ≡ Some v → IsTrue (numbers.has s (pos (suc i))) → HasType v (elements_at t s)
  pub elements-least : (t : Type4) (s : Numbers) (p : ℕ) → IsTrue (numbers.has s (pos (suc p))) → (u : Type4)
      → ((vs : Values) (i : ℕ) (v : Value) → HasType (tuple_value vs) t → value_at vs i ≡ Some v → IsTrue (numbers.has s (pos (suc i))) → HasType v u) → Below (elements_at t s) u
  pub elements-more : (t u : Type4) (s w : Numbers) → Below t u → numbers.Below s w → Below (elements_at t s) (elements_at u w)

-- ---- several values

each_type : (vs : Values) (ts : List Type4) → HasTypes vs ts ↔ HasEach (HasAt 4) vs (map (λ t. t.ty) ts)
unfolding HasType
each_type no_value [] = (λ h. h, λ h. h)
each_type no_value (t ∷ ts) = (λ h. h, λ h. h)
each_type (and_value v vs) [] = (λ h. h, λ h. h)
each_type (and_value v vs) (t ∷ ts) = let e = each_type vs ts in (λ h. (h.0, e.0 h.1), λ h. (h.0, e.1 h.1))

-- the values of a type cut to a level are those of the cut of its model
in_cut : (d : ℕ) → d ≤ 4 → (t : Type4) (v : Value) → HasType v (cut d t) ↔ HasAt d v (levels.cut 4 d t.ty)
unfolding HasType cut
in_cut d k t v =
    let normal = (cut_lowering 4 d).normal t.ty t.normal in
    (cut_exact d 4 k (levels.cut 4 d t.ty) normal v, (cut_lowering d 4).above (levels.cut 4 d t.ty) normal v)

each_cut : (ts : List Type4) (vs : Values) → HasTypes vs (map (cut 3) ts) ↔ HasEach (HasAt 3) vs (map (levels.cut 4 3) (map (λ t. t.ty) ts))
each_cut [] no_value = grind arith
each_cut [] (and_value v vs) = grind arith
each_cut (t ∷ ts) no_value = grind arith
each_cut (t ∷ ts) (and_value v vs) = grind (arith, in_cut 3 (omega arith) t v, each_cut ts vs)

all_type : (vs : Values) (t : Type4) → HasAll HasType vs t ↔ HasAll (HasAt 4) vs t.ty
unfolding HasType
all_type no_value t = grind arith
all_type (and_value v vs) t = grind (arith, all_type vs)

cut_least : (d : ℕ) → d ≤ 4 → (t u : Type4) → IsOfLevel d u → Below t u → Below (cut d t) u
unfolding HasType
cut_least d k t u w f v h =
    let inside = λ (x : Value) (y : HasType x t). cut_exact d 4 k w.0 w.1.0 x (subst (HasAt 4 x) w.1.1 (f x y)) in
    subst (HasAt 4 v) (sym w.1.1) ((cut_lowering d 4).above w.0 w.1.0 v ((cut_lowering 4 d).least t.ty w.0 t.normal w.1.0 inside v ((in_cut d k t v).0 h)))

tuple_exact : (ts : List Type4) → length ts ≤ 64 → (vs : Values) → HasType (tuple_value vs) (tuple ts) ↔ HasTypes vs (map (cut 3) ts)
unfolding HasType tuple
tuple_exact ts few vs =
    let es = map (λ t. t.ty) ts in
    let e = products.tuple-exact 3 es (are_normal ts) (lt-ltb (length es) 65 (omega (arith, length-map ts (λ t. t.ty)))) vs in
    (λ h. (each_cut ts vs).1 (e.0 h), λ h. e.1 ((each_cut ts vs).0 h))

cons_free : (h t : Type4) (x y : Value) → HasType (cons_value x y) (cons h t false) ↔ HasAll HasType (and_value x (heads y)) (elem (cons h t true))
unfolding HasType cons elem
cons_free h t x y =
    let e = lists.cons-free 3 h.ty t.ty h.normal t.normal x y in
    let all = all_type (and_value x (heads y)) (elem (cons h t true)) in
    (λ m. all.1 (e.0 m), λ m. e.1 (all.0 m))

filled : (t : Type4) → (t ≡ none → ⊥) → (v : Value) × HasType v t
unfolding HasType none
filled t f = elim ((level_laws 4).lattice.filled t.ty t.normal) [ inl e ↦ absurd (f (same_type t none e)) | inr h ↦ h ]

-- ---- the laws

pub laws : Laws
unfolding HasType none any is_none meet join cut tuple project cons elem tail rank ints_of elements_at
laws =
    let l = level_laws 4 in
    let s = l.lattice in
    let down = λ (d : ℕ). cut_lowering 4 d in
    let types = λ (ts : List Type4). map (λ t. t.ty) ts in
    record {
      same = λ t u f g. same_type t u (s.same t.ty u.ty t.normal u.normal f g);
      rank-falls = λ t u f g. rank-lower 4 t.ty u.ty t.normal u.normal f (λ e. g (same_type t u e));
      canonical-below = λ t u f. canonical.canonical_below 4 t.ty u.ty f;
      none-empty = s.none_empty;
      filled = filled;
      is_none-none = λ t. (λ h. same_type t none (l.none-is_none t.ty h), λ e. ap is_none e ∙ l.is_none-none);
      any-every = l.any_in;
      meet-both = λ t u v. (λ h. (s.meet_left t.ty u.ty t.normal u.normal v h, s.meet_right t.ty u.ty t.normal u.normal v h), λ h. s.meet_in t.ty u.ty t.normal u.normal v h.0 h.1);
      join-left = λ t u. s.join_left t.ty u.ty t.normal u.normal;
      join-right = λ t u. s.join_right t.ty u.ty t.normal u.normal;
      join-least = λ t u w. s.join_least t.ty u.ty w.ty t.normal u.normal w.normal;
      cut-level = λ d t. (levels.cut 4 d t.ty, ((down d).normal t.ty t.normal, refl));
      cut-above = λ d t v h. (cut_lowering d 4).above (levels.cut 4 d t.ty) ((down d).normal t.ty t.normal) v ((down d).above t.ty t.normal v h);
      cut-least = cut_least;
      cut-more = λ d t u f. more.cut-more d 4 (levels.cut 4 d t.ty) (levels.cut 4 d u.ty) ((down d).normal t.ty t.normal) ((down d).normal u.ty u.normal) (more.cut-more 4 d t.ty u.ty t.normal u.normal f);
      tuple-has = λ ts vs h. made.tuple-above 4 (types ts) (are_normal ts) vs ((each_type vs ts).0 h);
      tuple-least = λ ts u f. made.tuple-least 4 (types ts) (are_normal ts) u.ty u.normal (λ vs h. f vs ((each_type vs ts).1 h));
      tuple-only = λ ts. products.tuple-only 3 (types ts);
      tuple-exact = tuple_exact;
      project-holds = λ t n i vs v h e. made.project-in 3 t.ty t.normal n vs h e i v;
      project-least = λ t n i small one within u. elements.project-least 3 t.ty t.normal n i small one within u.ty u.normal;
      project-more = λ t u n i f. more.project-more 3 t.ty u.ty t.normal u.normal f n i;
      cons-has = λ h t proper. made.cons-above 3 h.ty t.ty proper h.normal t.normal;
      cons-least = λ h t u. made.cons-least 3 h.ty t.ty h.normal t.normal u.ty u.normal;
      cons-only = λ h t. lists.cons-only 3 h.ty t.ty;
      cons-ends = λ h t n. let w = filled h n in (λ f v m. f (cons_value w.0 v) (made.cons-above 3 h.ty t.ty true h.normal t.normal w.0 v w.1 m), lists.cons-lists 3 h.ty t.ty t.normal);
      cons-free = cons_free;
      elem-holds = λ t. made.elem-in 3 t.ty t.normal;
      tail-holds = λ t. made.tail-in 3 t.ty;
      cons-parts = λ t. lists.cons-parts 3 t.ty t.normal;
      elem-least = λ t u. lists.elem-least 3 t.ty t.normal u.ty;
      tail-least = λ t u. lists.tail-least 3 t.ty t.normal u.ty;
      ints-of_type = λ t n. (λ h. h, λ h. h);
      elements-hold = λ t s vs i v h. elements.elements-have 3 t.ty t.normal s vs h i v;
      elements-least = λ t s p a u f. elements.elements-least 3 t.ty t.normal s p a u.ty u.normal (λ vs h i v. f vs i v h);
      elements-more = λ t u s w f. elements.elements-more 3 t.ty u.ty t.normal u.normal f s w;
    }
