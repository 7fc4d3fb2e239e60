-- What sets of functions answer after one was added.
use Rattle.std.proofs.Common.{◌≡◌, Bool, true, false, cond, ◌||◌, List, [], Some, None, refl, sym, ap, ◌∙◌}
use Rattle.std.specs.Prelude.{unwrap_or}
use Rattle.std.specs.Map.{lookup}
use Rattle.std.proofs.Math.Bool.{or-false}
use Rattle.cons_tree.proofs.NameLaws.{home_is, home_itself, name_is, name_itself}
use Rattle.type_kinds.specs.declared.atom.Atom.{Atom}
use Rattle.core_ast.specs.declared.syntax.FunName.{FunName}
use Rattle.cons_tree.specs.Callees.{same_home, same_name}
use Rattle.cons_gen_rows.specs.Members.{has_name, names_of, is_member}

-- what a look-up answers
pub member_in : (tables : List (Atom × List FunName)) (h : Atom) (f : FunName) (names : List FunName) (b : Bool) → b ≡ has_name names f → Some names ≡ lookup (same_home h) tables → b ≡ is_member tables h f
unfolding is_member
member_in tables h f names b k e = k ∙ ap (λ o. has_name (unwrap_or o []) f) e

pub member_nowhere : (tables : List (Atom × List FunName)) (h : Atom) (f : FunName) → None ≡ lookup (same_home h) tables → false ≡ is_member tables h f
unfolding is_member
member_nowhere tables h f e = ap (λ o. has_name (unwrap_or o []) f) e

-- the functions of a module were replaced by others, one of which is new
module _ (old new : List (Atom × List FunName)) (home : Atom) (name : FunName) (w : List FunName)
    (put : (q : Atom) → lookup (same_home q) new ≡ cond (same_home home q) (Some w) (lookup (same_home q) old))
    (set : (f : FunName) → has_name w f ≡ (same_name name f || has_name (names_of old home) f)) where
  after : (h : Atom) (f : FunName) → is_member new h f ≡ cond (same_home home h) (has_name w f) (is_member old h f)
  unfolding is_member
  after h f = ap (λ o. has_name (unwrap_or o []) f) (put h) ∙ by (same_home home h)
    where
      by : (b : Bool) → has_name (unwrap_or (cond b (Some w) (lookup (same_home h) old)) []) f ≡ cond b (has_name w f) (has_name (names_of old h) f)
      by true = refl
      by false = refl

  pub member_added : is_member new home name ≡ true
  member_added =
      after home name ∙ ap (λ b. cond b (has_name w name) (is_member old home name)) (home_itself home) ∙ set name ∙ ap (λ b. b || has_name (names_of old home) name) (name_itself name)

  pub member_others : (h : Atom) (f : FunName) → ((h ≡ home) × (f ≡ name) → ⊥) → is_member new h f ≡ is_member old h f
  unfolding is_member
  member_others h f d = after h f ∙ by (same_home home h) refl
    where
      inside : (b : Bool) → same_name name f ≡ b → h ≡ home → (b || has_name (names_of old home) f) ≡ has_name (names_of old h) f
      inside true e is = absurd (d (is, sym (name_is name f e)))
      inside false e is = ap (λ k. has_name (names_of old k) f) (sym is)

      by : (b : Bool) → same_home home h ≡ b → cond b (has_name w f) (has_name (names_of old h) f) ≡ has_name (names_of old h) f
      by true e = set f ∙ inside (same_name name f) refl (sym (home_is home h e))
      by false e = refl

-- the functions that a module had, and those of a module that had none
pub had : (old : List (Atom × List FunName)) (home : Atom) (v w : List FunName) (name : FunName) → Some v ≡ lookup (same_home home) old → ((f : FunName) → has_name w f ≡ (same_name name f || has_name v f)) → (f : FunName)
    → has_name w f ≡ (same_name name f || has_name (names_of old home) f)
had old home v w name e h f = h f ∙ ap (λ o. same_name name f || has_name (unwrap_or o []) f) e

pub had_none : (old : List (Atom × List FunName)) (home : Atom) (w : List FunName) (name : FunName) → None ≡ lookup (same_home home) old → ((f : FunName) → has_name w f ≡ same_name name f) → (f : FunName)
    → has_name w f ≡ (same_name name f || has_name (names_of old home) f)
had_none old home w name e h f = h f ∙ sym (or-false (same_name name f)) ∙ ap (λ o. same_name name f || has_name (unwrap_or o []) f) e
