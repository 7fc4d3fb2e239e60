-- Names of functions, and what a function with its summary is under them.
use Rattle.std.proofs.Common.{◌≡◌, Bool, true, false, cond, ◌||◌, List, [], ◌∷◌, ◌++◌, refl, sym, ap, ap₂, ◌∙◌, subst}
use Rattle.std.proofs.Math.Bool.{or-false}
use Rattle.comp_rounds.proofs.SameCallees.{named_is, not_named, set_callee}
use Rattle.type_kinds.specs.declared.atom.Atom.{Atom}
use Rattle.core_ast.specs.declared.syntax.Expr.{Expr}
use Rattle.core_ast.specs.declared.syntax.FunDefOf.{FunDefOf}
use Rattle.core_ast.specs.declared.syntax.FunName.{FunName}
use Rattle.cons_tree.specs.Callees.{Fits, Takes}
use Rattle.cons_tree.specs.declared.parts.Callee.{Callee}
use Rattle.cons_tree.specs.declared.parts.Callee.TheVariants.{Known, Local}
use Rattle.cons_tree.specs.declared.parts.Summary.{Summary}
use Rattle.comp_rounds.specs.declared.members.Member.{Member}
use Rattle.comp_rounds.specs.Members.{function_of}
use Rattle.comp_rounds.specs.Rounds.{Function, Callees, arity, is_named, is_member, callee_of, with_callee, with_function}

-- ---- what is set under a name

pub callee_fits : (x : Member) (s : Summary) (c : Callee) (d : FunDefOf Expr) → c ≡ callee_of (function_of x) s → d ≡ x.def → Takes s (arity (function_of x)) → Fits c d.name.arity
callee_fits x s c d is same takes =
    subst (λ e. Fits e d.name.arity) (sym is) (subst (λ e. Fits (callee_of (function_of x) s) e.name.arity) (sym same) (by x.exported))
  where
    fits : Takes s x.def.name.arity
    fits = subst (Takes s) x.whole takes

    by : (b : Bool) → Fits (cond b (Known s) (Local s)) x.def.name.arity
    by true = fits
    by false = fits

pub set_function : (old new : Callees) (g : Function) (s : Summary) (callee : Callee) (name : FunName) → callee ≡ callee_of g s → name ≡ g.name → new g.home name ≡ callee
    → ((h : Atom) (f : FunName) → ((h ≡ g.home) × (f ≡ name) → ⊥) → new h f ≡ old h f) → new ≡ with_function old g s
set_function old new g s callee name is same set others =
    set_callee old new g.home name callee set others ∙ ap₂ (with_callee old g.home) same is

-- ---- members

member_append : (gs : List Function) (g : Function) (h : Atom) (f : FunName) → is_member (gs ++ g ∷ []) h f ≡ (is_member gs h f || is_named g h f)
member_append [] g h f = or-false (is_named g h f)
member_append (k ∷ ks) g h f = ap (λ b. is_named k h f || b) (member_append ks g h f) ∙ or_assoc (is_named k h f) (is_member ks h f) (is_named g h f)
  where
    or_assoc : (a b c : Bool) → (a || (b || c)) ≡ ((a || b) || c)
    or_assoc true b c = refl
    or_assoc false b c = refl

-- a function was added to those that are members
pub member_more : (old new : Atom → FunName → Bool) (gs : List Function) (g : Function) (name : FunName) → name ≡ g.name → ((h : Atom) (f : FunName) → old h f ≡ is_member gs h f) → new g.home name ≡ true
    → ((h : Atom) (f : FunName) → ((h ≡ g.home) × (f ≡ name) → ⊥) → new h f ≡ old h f) → (h : Atom) (f : FunName) → new h f ≡ is_member (gs ++ g ∷ []) h f
member_more old new gs g name same were added others h f = by (is_named g h f) refl ∙ sym (member_append gs g h f)
  where
    or_true : (a : Bool) → true ≡ (a || true)
    or_true true = refl
    or_true false = refl

    by : (b : Bool) → is_named g h f ≡ b → new h f ≡ (is_member gs h f || is_named g h f)
    by true e =
        ap (λ k. new k f) (named_is g.home h g.name f e).0 ∙ ap (new g.home) ((named_is g.home h g.name f e).1 ∙ sym same) ∙ added
        ∙ or_true (is_member gs h f) ∙ ap (λ b. is_member gs h f || b) (sym e)
    by false e =
        others h f (λ k. not_named g.home h g.name f e (k.0, k.1 ∙ same)) ∙ were h f ∙ sym (or-false (is_member gs h f))
        ∙ ap (λ b. is_member gs h f || b) (sym e)

pub same_members : (names : Atom → FunName → Bool) (gs ks : List Function) → ((h : Atom) (f : FunName) → names h f ≡ is_member gs h f) → gs ≡ ks → names ≡ is_member ks
same_members names gs ks is same = λ i. λ h f. (is h f ∙ ap (λ ms. is_member ms h f) same) i
