-- What second tables of callees answer, which are filled from the last entry to the first.
use Rattle.std.proofs.Common.{◌≡◌, ℕ, zero, suc, ◌<◌, ◌≤◌, Bool, true, false, cond, List, [], ◌∷◌, length, drop, slice_get, Some, refl, sym, ap, ◌∙◌, drop_of_length-le, arith}
use Rattle.std.specs.Prelude.{unwrap_or}
use Rattle.std.specs.Map.{lookup}
use Rattle.type_kinds.proofs.Truths.{same_tests}
use Rattle.type_kinds.specs.declared.atom.Atom.{Atom}
use Rattle.core_ast.specs.declared.syntax.FunName.{FunName}
use Rattle.cons_tree.specs.Callees.{same_home, same_name, callee_in, callees_of, found, HomeCallees, Tables}
use Rattle.cons_tree.specs.declared.parts.Callee.{Callee}
use Rattle.cons_tree.specs.declared.parts.Callee.TheVariants.{Unknown}
use Rattle.cons_tree.proofs.CalleeLaws.{put_value}
use Rattle.cons_tree.proofs.NameLaws.{home_is, home_itself, name_is, name_itself}

-- ---- lists

-- the entry at a position, with what is left from there on
pub record Opened {E : Type 0} (es : List E) (i : ℕ) : Type 0 where
  pub entry : E
  pub here : slice_get es i ≡ Some entry
  pub left : drop i es ≡ entry ∷ drop (suc i) es

pub opened : {E : Type 0} (es : List E) (i : ℕ) → i < length es → Opened es i
opened [] i h = absurd (omega (arith, h))
opened (e ∷ es) zero h = record { entry = e; here = refl; left = refl }
opened (e ∷ es) (suc i) h =
    let o = opened es i (omega (arith, h)) in record { entry = o.entry; here = o.here; left = o.left }

-- ---- equality of names, either way

name_either : (f g : FunName) → same_name f g ≡ same_name g f
name_either f g =
    same_tests (same_name f g) (same_name g f) (λ e. ap (λ k. same_name g k) (name_is f g e) ∙ name_itself g)
    (λ e. ap (λ k. same_name f k) (name_is g f e) ∙ name_itself f)

home_either : (h k : Atom) → same_home h k ≡ same_home k h
home_either h k =
    same_tests (same_home h k) (same_home k h) (λ e. ap (λ x. same_home k x) (home_is h k e) ∙ home_itself k)
    (λ e. ap (λ x. same_home h x) (home_is k h e) ∙ home_itself h)

-- ---- one module

pub none_in : (es : HomeCallees) (new : HomeCallees) (n : ℕ) → length es.0 ≤ n → ((f : FunName) → callee_in new f ≡ es.1) → (f : FunName) → callee_in new f ≡ callee_in (drop n es.0, es.1) f
none_in es new n h is f = is f ∙ ap (λ ds. callee_in (ds, es.1) f) (sym (drop_of_length-le es.0 h))

pub one_in : (es old new : HomeCallees) (i n : ℕ) → n ≡ suc i → i < length es.0 → ((e : FunName × Callee) → slice_get es.0 i ≡ Some e → (f : FunName) → callee_in new f ≡ cond (same_name e.0 f) e.1 (callee_in old f))
    → ((f : FunName) → callee_in old f ≡ callee_in (drop n es.0, es.1) f) → (f : FunName) → callee_in new f ≡ callee_in (drop i es.0, es.1) f
one_in es old new i n after h set is f =
    let o = opened es.0 i h in
    let e = o.entry in
    set e o.here f
    ∙ ap (λ c. cond (same_name e.0 f) e.1 c) (is f ∙ ap (λ m. callee_in (drop m es.0, es.1) f) after)
    ∙ ap (λ b. cond b e.1 (callee_in (drop (suc i) es.0, es.1) f)) (name_either e.0 f)
    ∙ sym (put_value (same_name f e.0) e.1 es.1 (lookup (same_name f) (drop (suc i) es.0)))
    ∙ ap (λ ds. callee_in (ds, es.1) f) (sym o.left)

pub all_in : (es new : HomeCallees) (n : ℕ) → n ≡ 0 → ((f : FunName) → callee_in new f ≡ callee_in (drop n es.0, es.1) f) → (f : FunName) → callee_in new f ≡ callee_in es f
all_in es new n none is f = is f ∙ ap (λ m. callee_in (drop m es.0, es.1) f) none

-- ---- all modules

pub none_found : (es new : Tables) (n : ℕ) → length es ≤ n → ((h : Atom) (f : FunName) → found new h f ≡ Unknown) → (h : Atom) (f : FunName) → found new h f ≡ found (drop n es) h f
unfolding found
none_found es new n k is h f = is h f ∙ ap (λ ds. found ds h f) (sym (drop_of_length-le es k))

-- a module's table was put, which answers as another one
pub table_put : (old new : Tables) (home : Atom) (t w : HomeCallees) → ((q : Atom) → lookup (same_home q) new ≡ cond (same_home home q) (Some w) (lookup (same_home q) old)) → ((f : FunName) → callee_in w f ≡ callee_in t f)
    → (h : Atom) (f : FunName) → found new h f ≡ cond (same_home home h) (callee_in t f) (found old h f)
unfolding found
table_put old new home t w put same h f = ap (λ o. callee_in (unwrap_or o ([], Unknown)) f) (put h) ∙ by (same_home home h)
  where
    by : (b : Bool) → callee_in (unwrap_or (cond b (Some w) (lookup (same_home h) old)) ([], Unknown)) f ≡ cond b (callee_in t f) (callee_in (callees_of old h) f)
    by true = same f
    by false = refl

-- the first table of a module counts
first_table : (e : Atom × HomeCallees) (es : Tables) (h : Atom) (f : FunName) → found (e ∷ es) h f ≡ cond (same_home e.0 h) (callee_in e.1 f) (found es h f)
unfolding found
first_table e es h f = by (same_home h e.0) ∙ ap (λ b. cond b (callee_in e.1 f) (callee_in (callees_of es h) f)) (home_either h e.0)
  where
    by : (b : Bool) → callee_in (unwrap_or (cond b (Some e.1) (lookup (same_home h) es)) ([], Unknown)) f ≡ cond b (callee_in e.1 f) (callee_in (callees_of es h) f)
    by true = refl
    by false = refl

pub one_found : (es old new : Tables) (i n : ℕ) → n ≡ suc i → i < length es → ((e : Atom × HomeCallees) → slice_get es i ≡ Some e → (h : Atom) (f : FunName)
    → found new h f ≡ cond (same_home e.0 h) (callee_in e.1 f) (found old h f)) → ((h : Atom) (f : FunName) → found old h f ≡ found (drop n es) h f) → (h : Atom) (f : FunName) → found new h f ≡ found (drop i es) h f
one_found es old new i n after k set is h f =
    let o = opened es i k in
    let e = o.entry in
    set e o.here h f
    ∙ ap (λ c. cond (same_home e.0 h) (callee_in e.1 f) c) (is h f ∙ ap (λ m. found (drop m es) h f) after)
    ∙ sym (first_table e (drop (suc i) es) h f)
    ∙ ap (λ ds. found ds h f) (sym o.left)

pub all_found : (es new : Tables) (n : ℕ) → n ≡ 0 → ((h : Atom) (f : FunName) → found new h f ≡ found (drop n es) h f) → found new ≡ found es
all_found es new n none is = λ i. λ h f. (is h f ∙ ap (λ m. found (drop m es) h f) none) i
