-- What tables of callees answer after one was set.
use Rattle.std.proofs.Common.{◌≡◌, Bool, true, false, cond, List, [], Option, Some, None, refl, sym, ap, ◌∙◌, subst}
use Rattle.std.specs.Prelude.{unwrap_or, Result, Ok, Err, OnOk, OnErr}
use Rattle.std.specs.Map.{lookup}
use Rattle.type_kinds.specs.declared.atom.Atom.{Atom}
use Rattle.core_ast.specs.declared.syntax.FunName.{FunName}
use Rattle.cons_tree.specs.Callees.{same_home, same_name, callee_in, callees_of, found, Fits, HomeCallees, Tables}
use Rattle.cons_tree.specs.declared.parts.Callee.{Callee}
use Rattle.cons_tree.specs.declared.parts.Callee.TheVariants.{Undefined, Unknown}
use Rattle.cons_tree.proofs.NameLaws.{home_is, home_itself, name_is, name_itself}

-- ---- one module

pub put_value : (b : Bool) (v r : Callee) (o : Option Callee) → unwrap_or (cond b (Some v) o) r ≡ cond b v (unwrap_or o r)
put_value true v r o = refl
put_value false v r o = refl

-- an entry under this name was put into the table
abbrev pub Puts : (old new : List (FunName × Callee)) (name : FunName) (v : Callee) → Type 0
Puts old new name v =
    (q : FunName) → lookup (same_name q) new ≡ cond (same_name name q) (Some v) (lookup (same_name q) old)

pub name_set : (old new : List (FunName × Callee)) (rest : Callee) (name : FunName) (v : Callee) → Puts old new name v
    → (f : FunName) → callee_in (new, rest) f ≡ cond (same_name name f) v (callee_in (old, rest) f)
name_set old new rest name v h f =
    ap (λ o. unwrap_or o rest) (h f) ∙ put_value (same_name name f) v rest (lookup (same_name f) old)

pub set_fits : (old new : HomeCallees) (name : FunName) (v : Callee) → ((f : FunName) → callee_in new f ≡ cond (same_name name f) v (callee_in old f)) → Fits v name.arity → ((f : FunName) → Fits (callee_in old f) f.arity)
    → (f : FunName) → Fits (callee_in new f) f.arity
set_fits old new name v h k l f = subst (λ c. Fits c f.arity) (sym (h f)) (by (same_name name f) refl)
  where
    by : (b : Bool) → same_name name f ≡ b → Fits (cond b v (callee_in old f)) f.arity
    by true e = subst (λ g. Fits v g.arity) (name_is name f e) k
    by false e = l f

pub same_fits : (old new : HomeCallees) → new ≡ old → ((f : FunName) → Fits (callee_in old f) f.arity) → (f : FunName) → Fits (callee_in new f) f.arity
same_fits old new e l f = subst (λ es. Fits (callee_in es f) f.arity) (sym e) (l f)

pub insert_fits : {A E U : Type 0} (r : Result A E) (old new : List (FunName × Callee)) (rest : Callee) (name : FunName) (v : Callee)
    → (U → Puts old new name v) → OnOk r U → OnErr r (new ≡ old) → Fits v name.arity
    → ((f : FunName) → Fits (callee_in (old, rest) f) f.arity) → (f : FunName) → Fits (callee_in (new, rest) f) f.arity
insert_fits (Ok x) old new rest name v opens u e k l =
    set_fits (old, rest) (new, rest) name v (name_set old new rest name v (opens u)) k l
insert_fits (Err x) old new rest name v opens u e k l = same_fits (old, rest) (new, rest) (ap (λ es. (es, rest)) e) l

-- what a look-up in the table of one module answers
pub in_there : (es : HomeCallees) (f : FunName) (c : Callee) → Some c ≡ lookup (same_name f) es.0 → c ≡ callee_in es f
in_there es f c e = ap (λ o. unwrap_or o es.1) e

pub not_there : (es : HomeCallees) (f : FunName) → None ≡ lookup (same_name f) es.0 → es.1 ≡ callee_in es f
not_there es f e = ap (λ o. unwrap_or o es.1) e

pub fits_there : (es : HomeCallees) (f : FunName) (c : Callee) → c ≡ callee_in es f → ((g : FunName) → Fits (callee_in es g) g.arity) → Fits c f.arity
fits_there es f c e h = subst (λ d. Fits d f.arity) (sym e) (h f)

-- ---- all modules

pub found_in : (tables : Tables) (h : Atom) (f : FunName) (es : HomeCallees) (c : Callee) → c ≡ callee_in es f → Some es ≡ lookup (same_home h) tables → c ≡ found tables h f
unfolding found
found_in tables h f es c k e = k ∙ ap (λ o. callee_in (unwrap_or o ([], Unknown)) f) e

pub found_nowhere : (tables : Tables) (h : Atom) (f : FunName) (c : Callee) → c ≡ Unknown → None ≡ lookup (same_home h) tables → c ≡ found tables h f
unfolding found
found_nowhere tables h f c u e = u ∙ ap (λ o. callee_in (unwrap_or o ([], Unknown)) f) e

-- the table of a module was replaced by one in which a callee was set
module _ (old new : Tables) (home : Atom) (name : FunName) (callee : Callee) (w : HomeCallees)
    (put : (q : Atom) → lookup (same_home q) new ≡ cond (same_home home q) (Some w) (lookup (same_home q) old))
    (set : (f : FunName) → callee_in w f ≡ cond (same_name name f) callee (callee_in (callees_of old home) f)) where
  after : (h : Atom) (f : FunName) → found new h f ≡ cond (same_home home h) (callee_in w f) (found old h f)
  unfolding found
  after h f = ap (λ o. callee_in (unwrap_or o ([], Unknown)) f) (put h) ∙ by (same_home home h)
    where
      by : (b : Bool) → callee_in (unwrap_or (cond b (Some w) (lookup (same_home h) old)) ([], Unknown)) f ≡ cond b (callee_in w f) (callee_in (callees_of old h) f)
      by true = refl
      by false = refl

  pub home_set : found new home name ≡ callee
  home_set =
      after home name ∙ ap (λ b. cond b (callee_in w name) (found old home name)) (home_itself home) ∙ set name ∙ ap (λ b. cond b callee (callee_in (callees_of old home) name)) (name_itself name)

  pub home_others : (h : Atom) (f : FunName) → ((h ≡ home) × (f ≡ name) → ⊥) → found new h f ≡ found old h f
  unfolding found
  home_others h f d = after h f ∙ by (same_home home h) refl
    where
      inside : (b : Bool) → same_name name f ≡ b → h ≡ home → cond b callee (callee_in (callees_of old home) f) ≡ callee_in (callees_of old h) f
      inside true e is = absurd (d (is, sym (name_is name f e)))
      inside false e is = ap (λ k. callee_in (callees_of old k) f) (sym is)

      by : (b : Bool) → same_home home h ≡ b → cond b (callee_in w f) (callee_in (callees_of old h) f) ≡ callee_in (callees_of old h) f
      by true e = set f ∙ inside (same_name name f) refl (sym (home_is home h e))
      by false e = refl

-- the table that a module had, and what a table of one callee is in position of none
pub had : (old : Tables) (home : Atom) (v w : HomeCallees) (name : FunName) (callee : Callee) → Some v ≡ lookup (same_home home) old → ((f : FunName) → callee_in w f ≡ cond (same_name name f) callee (callee_in v f))
    → (f : FunName) → callee_in w f ≡ cond (same_name name f) callee (callee_in (callees_of old home) f)
had old home v w name callee e h f = h f ∙ ap (λ o. cond (same_name name f) callee (callee_in (unwrap_or o ([], Unknown)) f)) e

pub had_none : (old : Tables) (home : Atom) (w : HomeCallees) (name : FunName) (callee : Callee) → None ≡ lookup (same_home home) old → ((f : FunName) → callee_in w f ≡ cond (same_name name f) callee Unknown) → (f : FunName)
    → callee_in w f ≡ cond (same_name name f) callee (callee_in (callees_of old home) f)
had_none old home w name callee e h f = h f ∙ ap (λ o. cond (same_name name f) callee (callee_in (unwrap_or o ([], Unknown)) f)) e

-- the table of a module was put
abbrev pub PutsTable : (old new : Tables) (home : Atom) (w : HomeCallees) → Type 0
PutsTable old new home w =
    (q : Atom) → lookup (same_home q) new ≡ cond (same_home home q) (Some w) (lookup (same_home q) old)

pub puts_there : (inside old new : Tables) (key home : Atom) (w : HomeCallees) → inside ≡ old → key ≡ home
    → PutsTable inside new key w → PutsTable old new home w
puts_there inside old new key home w e k h =
    subst (λ ts. PutsTable ts new home w) e (subst (λ h. PutsTable inside new h w) k h)

-- the table of a module was replaced by one in which every name is undefined
module _ (old new : Tables) (home : Atom) (w : HomeCallees) (put : PutsTable old new home w)
    (none : (f : FunName) → callee_in w f ≡ Undefined) where
  pub is_closed : (f : FunName) → found new home f ≡ Undefined
  unfolding found
  is_closed f =
      ap (λ o. callee_in (unwrap_or o ([], Unknown)) f) (put home)
      ∙ ap (λ b. callee_in (unwrap_or (cond b (Some w) (lookup (same_home home) old)) ([], Unknown)) f) (home_itself home)
      ∙ none f

  pub closed_alone : (h : Atom) (f : FunName) → (h ≡ home → ⊥) → found new h f ≡ found old h f
  unfolding found
  closed_alone h f d = ap (λ o. callee_in (unwrap_or o ([], Unknown)) f) (put h) ∙ by (same_home home h) refl
    where
      by : (b : Bool) → same_home home h ≡ b
          → callee_in (unwrap_or (cond b (Some w) (lookup (same_home h) old)) ([], Unknown)) f ≡ callee_in (callees_of old h) f
      by true e = absurd (d (sym (home_is home h e)))
      by false e = refl
