-- What is known of functions is the same where it is so of each, and what it is after one of them was set.
use Rattle.std.proofs.Common.{◌≡◌, Bool, true, false, cond, ◌&&◌, refl, sym, ap, ◌∙◌, true≢false}
use Rattle.std.proofs.lemmas.Bool.{and_from}
use Rattle.type_kinds.proofs.Truths.{first, second}
use Rattle.type_kinds.specs.declared.atom.Atom.{Atom}
use Rattle.core_ast.specs.declared.syntax.FunName.{FunName}
use Rattle.cons_tree.specs.Callees.{same_home, same_name}
use Rattle.cons_tree.specs.declared.parts.Callee.{Callee}
use Rattle.cons_tree.proofs.NameLaws.{home_is, home_itself, name_is, name_itself}
use Rattle.comp_rounds.specs.Rounds.{Callees, with_callee}

pub pointwise : (c d : Callees) → ((h : Atom) (f : FunName) → c h f ≡ d h f) → c ≡ d
pointwise c d e = λ i. λ h f. e h f i

pub named_is : (home h : Atom) (name f : FunName) → (same_home h home && same_name f name) ≡ true → (h ≡ home) × (f ≡ name)
named_is home h name f e =
    (home_is h home (first (same_home h home) (same_name f name) e), name_is f name (second (same_home h home) (same_name f name) e))

pub not_named : (home h : Atom) (name f : FunName) → (same_home h home && same_name f name) ≡ false → (h ≡ home) × (f ≡ name) → ⊥
not_named home h name f e same =
    true≢false
    (sym (and_from (same_home home home) (same_name name name) (home_itself home) (name_itself name))
    ∙ ap (λ k. same_home k home && same_name name name) (sym same.0)
    ∙ ap (λ n. same_home h home && same_name n name) (sym same.1)
    ∙ e)

-- one callee was set and all others are as before
pub set_callee : (old new : Callees) (home : Atom) (name : FunName) (callee : Callee) → new home name ≡ callee → ((h : Atom) (f : FunName) → ((h ≡ home) × (f ≡ name) → ⊥) → new h f ≡ old h f)
    → new ≡ with_callee old home name callee
set_callee old new home name callee set others =
    pointwise new (with_callee old home name callee) (λ h f. by h f (same_home h home && same_name f name) refl)
  where
    by : (h : Atom) (f : FunName) (b : Bool) → (same_home h home && same_name f name) ≡ b → new h f ≡ cond b callee (old h f)
    by h f true e = ap (λ k. new k f) (named_is home h name f e).0 ∙ ap (new home) (named_is home h name f e).1 ∙ set
    by h f false e = others h f (not_named home h name f e)
