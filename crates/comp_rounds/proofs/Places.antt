-- Places in lists, and the last of some functions that has a name.
use Rattle.std.proofs.Common.{◌≡◌, ◌↔◌, ℕ, zero, suc, ◌<◌, ◌⊎◌, inl, inr, ◌||◌, Bool, true, false, cond, List, [], ◌∷◌, Some}
use Rattle.std.proofs.Common.{Contains, length, map, slice_get, slice_set, get_or, refl, sym, ap, ◌∙◌, subst, true≢false, arith}
use Rattle.std.specs.Option.{option_map}
use Rattle.std.proofs.Math.Nat.{suc_inj}
use Rattle.std.proofs.lemmas.Bool.{and_from, cases_eq, cases_lt}
use Rattle.std.proofs.lemmas.Option.{same_Some, slice_get-map, slice_get_read}
use Rattle.type_kinds.proofs.Lists.{contains_none, contains_first, contains_later, contains_cases}
use Rattle.type_kinds.proofs.Truths.{not_first, not_second}
use Rattle.type_kinds.specs.declared.atom.Atom.{Atom}
use Rattle.core_ast.specs.declared.syntax.FunName.{FunName}
use Rattle.call_graph.specs.Among.{IsLast}
use Rattle.call_graph.specs.Outside.{Called}
use Rattle.cons_tree.proofs.NameLaws.{home_itself, name_itself}
use Rattle.cons_tree.specs.Callees.{same_home, same_name}
use Rattle.cons_tree.specs.declared.parts.Callee.{Callee}
use Rattle.cons_tree.specs.declared.parts.Sig.{Sig}
use Rattle.comp_rounds.specs.Calls.{called_as}
use Rattle.comp_rounds.specs.Members.{function_of}
use Rattle.comp_rounds.specs.declared.members.Member.{Member}
use Rattle.comp_rounds.specs.Rounds.{Function, Callees, is_named, is_member, callee_of, of_one, with_function, with_signatures}
use Rattle.comp_rounds.specs.Turns.{AreEntered}
use Rattle.comp_rounds.proofs.Knowing.{kept}
use Rattle.comp_rounds.proofs.SameCallees.{named_is}
use Rattle.comp_rounds.proofs.SameCallees.{pointwise}

-- ---- places

pub has_or_not : (xs : List ℕ) (i : ℕ) → Contains xs i ⊎ (Contains xs i → ⊥)
has_or_not [] i = inr (λ c. contains_none i c)
has_or_not (x ∷ xs) i = by (cases_eq x i) (has_or_not xs i)
  where
    by : (x ≡ i) ⊎ (x ≡ i → ⊥) → Contains xs i ⊎ (Contains xs i → ⊥) → Contains (x ∷ xs) i ⊎ (Contains (x ∷ xs) i → ⊥)
    by (inl e) h = inl (subst (Contains (x ∷ xs)) e (contains_first x xs))
    by (inr d) (inl h) = inl (contains_later x i xs h)
    by (inr d) (inr n) = inr (λ c. elim (contains_cases x i xs c) [
      | inl e ↦ d e
      | inr h ↦ n h
    ])

pub set_here : {X : Type 0} (xs : List X) (j : ℕ) (x y : X) → slice_get xs j ≡ Some x → slice_get (slice_set xs j y) j ≡ Some y
set_here [] j x y e = absurd cc
set_here (z ∷ zs) zero x y e = refl
set_here (z ∷ zs) (suc j) x y e = set_here zs j x y e

pub set_other : {X : Type 0} (xs : List X) (i j : ℕ) (y : X) → (i ≡ j → ⊥) → slice_get (slice_set xs j y) i ≡ slice_get xs i
set_other [] i j y d = refl
set_other (z ∷ zs) zero zero y d = absurd (d refl)
set_other (z ∷ zs) zero (suc j) y d = refl
set_other (z ∷ zs) (suc i) zero y d = refl
set_other (z ∷ zs) (suc i) (suc j) y d = set_other zs i j y (λ e. d (ap suc e))

pub set_long : {X : Type 0} (xs : List X) (j : ℕ) (y : X) → length (slice_set xs j y) ≡ length xs
set_long [] j y = refl
set_long (z ∷ zs) zero y = refl
set_long (z ∷ zs) (suc j) y = ap suc (set_long zs j y)

pub set_same : {X : Type 0} (xs : List X) (j : ℕ) (x : X) → slice_get xs j ≡ Some x → slice_set xs j x ≡ xs
set_same [] j x e = refl
set_same (z ∷ zs) zero x e = ap (λ y. y ∷ zs) (sym (same_Some z x e))
set_same (z ∷ zs) (suc j) x e = ap (λ ys. z ∷ ys) (set_same zs j x e)

-- both lists have an item where one has
pub also_at : {X Y : Type 0} (xs : List X) (ys : List Y) (i : ℕ) (x : X) → length ys ≡ length xs → slice_get xs i ≡ Some x → (y : Y) × (slice_get ys i ≡ Some y)
also_at [] ys i x l e = absurd cc
also_at (x ∷ xs) [] i z l e = absurd (omega (arith, l))
also_at (x ∷ xs) (y ∷ ys) zero z l e = (y, refl)
also_at (x ∷ xs) (y ∷ ys) (suc i) z l e = also_at xs ys i z (suc_inj {m = length ys} {n = length xs} l) e

pub function_at : (ms : List Member) (i : ℕ) (m : Member) → slice_get ms i ≡ Some m → slice_get (map function_of ms) i ≡ Some (function_of m)
function_at ms i m e = slice_get-map function_of ms i ∙ ap (option_map function_of) e

-- what indexing read
pub function_read : (ms : List Member) (i : ℕ) (m : Member) → i < length ms → m ≡ get_or ms i m → slice_get (map function_of ms) i ≡ Some (function_of m)
function_read ms i m low is = function_at ms i m (slice_get_read ms (length ms) i m refl low is)

-- what a mapped list has at a place comes from the list
pub mapped_from : {X Y : Type 0} (f : X → Y) (xs : List X) (i : ℕ) (y : Y) → slice_get (map f xs) i ≡ Some y → (x : X) × (slice_get xs i ≡ Some x) × (f x ≡ y)
mapped_from f [] i y e = absurd cc
mapped_from f (x ∷ xs) zero y e = (x, refl, same_Some (f x) y e)
mapped_from f (x ∷ xs) (suc i) y e = mapped_from f xs i y e

-- ---- the last one of a name

later_last : (x : Called) (names : List Called) (j : ℕ) (h : Atom) (f : FunName) → IsLast names j h f → IsLast (x ∷ names) (suc j) h f
later_last x names j h f is = record { here = is.here; last = later }
  where
    later : (k : ℕ) → suc j < k → slice_get (x ∷ names) k ≡ Some (h, f) → ⊥
    later zero low e = omega (arith, low)
    later (suc k) low e = is.last k (omega (arith, low)) e

pub last_one : (names : List Called) (j k : ℕ) (h : Atom) (f : FunName) → IsLast names j h f → IsLast names k h f → j ≡ k
last_one names j k h f a b = elim (cases_lt j k) [
  | inl x ↦ absurd (a.last k x b.here)
  | inr x ↦ (elim (cases_lt k j) [
    | inl y ↦ absurd (b.last j y a.here)
    | inr y ↦ omega (arith, x, y)
  ])
]

pub same_named : (g : Function) (h : Atom) (f : FunName) → called_as g ≡ (h, f) → is_named g h f ≡ true
same_named g h f e =
    ap (λ x. is_named g x.0 x.1) (sym e) ∙ and_from (same_home g.home g.home) (same_name g.name g.name) (home_itself g.home) (name_itself g.name)

pub named_same : (g : Function) (h : Atom) (f : FunName) → is_named g h f ≡ true → called_as g ≡ (h, f)
named_same g h f e = let n = named_is g.home h g.name f e in λ i. (sym n.0 i, sym n.1 i)

not_there : (gs : List Function) (h : Atom) (f : FunName) → is_member gs h f ≡ false → (k : ℕ) → slice_get (map called_as gs) k ≡ Some (h, f) → ⊥
not_there [] h f off k e = absurd cc
not_there (g ∷ gs) h f off zero e =
    true≢false (sym (same_named g h f (same_Some (called_as g) (h, f) e)) ∙ not_first (is_named g h f) (is_member gs h f) off)
not_there (g ∷ gs) h f off (suc k) e = not_there gs h f (not_second (is_named g h f) (is_member gs h f) off) k e

first_last : (g : Function) (gs : List Function) (h : Atom) (f : FunName) → is_named g h f ≡ true → is_member gs h f ≡ false → IsLast (map called_as (g ∷ gs)) 0 h f
first_last g gs h f is off = record { here = ap Some (named_same g h f is); last = later }
  where
    later : (k : ℕ) → 0 < k → slice_get (map called_as (g ∷ gs)) k ≡ Some (h, f) → ⊥
    later zero low e = omega (arith, low)
    later (suc k) low e = not_there gs h f off k e

pub member_at : (gs : List Function) (p : ℕ) (g : Function) (h : Atom) (f : FunName) → slice_get gs p ≡ Some g → is_member gs h f ≡ false → is_named g h f ≡ false
member_at [] p g h f e off = absurd cc
member_at (k ∷ ks) zero g h f e off = ap (λ x. is_named x h f) (sym (same_Some k g e)) ∙ not_first (is_named k h f) (is_member ks h f) off
member_at (k ∷ ks) (suc p) g h f e off = member_at ks p g h f e (not_second (is_named k h f) (is_member ks h f) off)

-- ---- what is known under a name, with the signatures of functions

-- what is known under a name is this, if it is so of the last function of the name, or outside where there is none
pub laid_is : (gs : List Function) (ss : List Sig) (c : Callees) (h : Atom) (f : FunName) (x : Callee) → length ss ≡ length gs → (is_member gs h f ≡ false → c h f ≡ x)
    → ((j : ℕ) (g : Function) (s : Sig) → slice_get gs j ≡ Some g → slice_get ss j ≡ Some s → IsLast (map called_as gs) j h f → callee_of g (of_one s) ≡ x)
    → with_signatures c gs ss h f ≡ x
laid_is [] ss c h f x l o e = o refl
laid_is (g ∷ gs) [] c h f x l o e = absurd (omega (arith, l))
laid_is (g ∷ gs) (s ∷ ss) c h f x l o e =
    laid_is gs ss (with_function c g (of_one s)) h f x (suc_inj {m = length ss} {n = length gs} l) (by (is_named g h f) refl)
    (λ j k t a b last. e (suc j) k t a b (later_last (called_as g) (map called_as gs) j h f last))
  where
    by : (b : Bool) → is_named g h f ≡ b → is_member gs h f ≡ false → with_function c g (of_one s) h f ≡ x
    by true is off = ap (λ b. cond b (callee_of g (of_one s)) (c h f)) is ∙ e 0 g s refl refl (first_last g gs h f is off)
    by false is off = ap (λ b. cond b (callee_of g (of_one s)) (c h f)) is ∙ o (ap (λ b. b || is_member gs h f) is ∙ off)

pub at_last : (gs : List Function) (ss : List Sig) (c : Callees) (h : Atom) (f : FunName) (j : ℕ) (g : Function) (s : Sig) → length ss ≡ length gs → slice_get gs j ≡ Some g
    → slice_get ss j ≡ Some s → IsLast (map called_as gs) j h f → with_signatures c gs ss h f ≡ callee_of g (of_one s)
at_last gs ss c h f j g s l a b last =
    laid_is gs ss c h f (callee_of g (of_one s)) l (λ off. absurd (not_there gs h f off j last.here))
    (λ k m t d e other.
    let same : k ≡ j = last_one (map called_as gs) k j h f other last in
    let function : m ≡ g = same_Some m g (sym d ∙ ap (slice_get gs) same ∙ a) in
    let signature : t ≡ s = same_Some t s (sym e ∙ ap (slice_get ss) same ∙ b) in λ i. callee_of (function i) (of_one (signature i)))

pub laid_outside : (gs : List Function) (ss : List Sig) (c : Callees) (h : Atom) (f : FunName) → is_member gs h f ≡ false → with_signatures c gs ss h f ≡ c h f
laid_outside gs ss c h f off = kept gs (map of_one ss) c h f off

-- two ways of knowing agree under a name where the signatures of its last function do
pub laid_agree : (gs : List Function) (ss ts : List Sig) (c : Callees) (h : Atom) (f : FunName) → length ss ≡ length gs → length ts ≡ length gs
    → ((j : ℕ) → IsLast (map called_as gs) j h f → slice_get ts j ≡ slice_get ss j) → with_signatures c gs ss h f ≡ with_signatures c gs ts h f
laid_agree gs ss ts c h f l m same =
    laid_is gs ss c h f (with_signatures c gs ts h f) l (λ off. sym (laid_outside gs ts c h f off))
    (λ j g s a b last. sym (at_last gs ts c h f j g s m a (same j last ∙ b) last))

-- ---- signatures entered one after another

module _ (gs : List Function) (ss : List Sig) (p : ℕ) (k : Function) (u : Sig) (here : slice_get gs p ≡ Some k) (has : slice_get ss p ≡ Some u) where
  not_left : (rest : List ℕ) (j : ℕ) → (j ≡ p → ⊥) → (Contains rest j → ⊥) → Contains (p ∷ rest) j → ⊥
  not_left rest j d n c = elim (contains_cases p j rest c) [
    | inl e ↦ d (sym e)
    | inr h ↦ n h
  ]

  pub entered_one : (old new : Callees) (rest : List ℕ) → IsLast (map called_as gs) p k.home k.name → new ≡ with_function old k (of_one u) → AreEntered gs ss old (p ∷ rest) → AreEntered gs ss new rest
  entered_one old new rest own is before j g s n a b last = by (cases_eq j p)
    where
      other : (j ≡ p → ⊥) → (t : Bool) → is_named k g.home g.name ≡ t → cond t (callee_of k (of_one u)) (old g.home g.name) ≡ callee_of g (of_one s)
      other d true e =
          absurd (d (last_one (map called_as gs) j p g.home g.name last (subst (λ x. IsLast (map called_as gs) p x.0 x.1) (named_same k g.home g.name e) own)))
      other d false e = before j g s (not_left rest j d n) a b last

      by : (j ≡ p) ⊎ (j ≡ p → ⊥) → new g.home g.name ≡ callee_of g (of_one s)
      by (inl e) =
          let function : k ≡ g = same_Some k g (sym here ∙ ap (slice_get gs) (sym e) ∙ a) in
          let signature : u ≡ s = same_Some u s (sym has ∙ ap (slice_get ss) (sym e) ∙ b) in
          ap (λ c. c g.home g.name) is ∙ ap (λ t. cond t (callee_of k (of_one u)) (old g.home g.name)) (ap (λ x. is_named x g.home g.name) function ∙ same_named g g.home g.name refl)
          ∙ (λ i. callee_of (function i) (of_one (signature i)))
      by (inr d) = ap (λ c. c g.home g.name) is ∙ other d (is_named k g.home g.name) refl

  pub passed_one : (old : Callees) (rest : List ℕ) → (IsLast (map called_as gs) p k.home k.name → ⊥) → AreEntered gs ss old (p ∷ rest) → AreEntered gs ss old rest
  passed_one old rest none before j g s n a b last = by (cases_eq j p)
    where
      by : (j ≡ p) ⊎ (j ≡ p → ⊥) → old g.home g.name ≡ callee_of g (of_one s)
      by (inl e) =
          let function : k ≡ g = same_Some k g (sym here ∙ ap (slice_get gs) (sym e) ∙ a) in
          absurd (none (subst (λ x. IsLast (map called_as gs) p x.home x.name) (sym function) (subst (λ i. IsLast (map called_as gs) i g.home g.name) e last)))
      by (inr d) = before j g s (not_left rest j d n) a b last

  pub others_kept : (first old new : Callees) → new ≡ with_function old k (of_one u) → ((h : Atom) (f : FunName) → is_member gs h f ≡ false → old h f ≡ first h f)
      → (h : Atom) (f : FunName) → is_member gs h f ≡ false → new h f ≡ first h f
  others_kept first old new is before h f off =
      ap (λ c. c h f) is ∙ ap (λ t. cond t (callee_of k (of_one u)) (old h f)) (member_at gs p k h f here off) ∙ before h f off

  module _ (flags : List Bool) (b : Bool) (old new : Callees) (flag : slice_get flags p ≡ Some b)
      (tells : (j : ℕ) (g : Function) → slice_get gs j ≡ Some g → (slice_get flags j ≡ Some true) ↔ IsLast (map called_as gs) j g.home g.name)
      (entered : b ≡ true → new ≡ with_function old k (of_one u)) (passed : b ≡ false → new ≡ old) where
    pub entered_step : (left rest : List ℕ) → left ≡ p ∷ rest → AreEntered gs ss old left → AreEntered gs ss new rest
    entered_step left rest is left_before = by b refl
      where
        before : AreEntered gs ss old (p ∷ rest)
        before = subst (AreEntered gs ss old) is left_before

        by : (a : Bool) → b ≡ a → AreEntered gs ss new rest
        by true e = entered_one old new rest ((tells p k here).0 (flag ∙ ap Some e)) (entered e) before
        by false e =
            subst (λ c. AreEntered gs ss c rest) (sym (passed e))
            (passed_one old rest (λ own. true≢false (same_Some true b (sym ((tells p k here).1 own) ∙ flag) ∙ e)) before)

    pub others_step : (first : Callees) → ((h : Atom) (f : FunName) → is_member gs h f ≡ false → old h f ≡ first h f) → (h : Atom) (f : FunName) → is_member gs h f ≡ false → new h f ≡ first h f
    others_step first before h f off = by b refl
      where
        by : (a : Bool) → b ≡ a → new h f ≡ first h f
        by true e = others_kept first old new (entered e) before h f off
        by false e = ap (λ c. c h f) (passed e) ∙ before h f off

-- all are entered
pub all_entered : (gs : List Function) (ss : List Sig) (first now : Callees) → length ss ≡ length gs → ((h : Atom) (f : FunName) → is_member gs h f ≡ false → now h f ≡ first h f)
    → AreEntered gs ss now [] → now ≡ with_signatures first gs ss
all_entered gs ss first now l others entered =
    pointwise now (with_signatures first gs ss)
    (λ h f. sym
    (laid_is gs ss first h f (now h f) l (λ off. sym (others h f off))
    (λ j g s a b last.
    let same : called_as g ≡ (h, f) = same_Some (called_as g) (h, f) (sym (slice_get-map called_as gs j ∙ ap (option_map called_as) a) ∙ last.here) in
    let own : IsLast (map called_as gs) j g.home g.name = subst (λ x. IsLast (map called_as gs) j x.0 x.1) (sym same) last in
    sym (entered j g s (λ c. contains_none j c) a b own) ∙ ap (λ x. now x.0 x.1) same)))
