-- Names that are found to be the same are equal, and equal names are found to be the same; names in a list.
use Rattle.std.proofs.Common.{◌≡◌, ℕ, suc, ◌<◌, ◌&&◌, ◌||◌, true, false, List, [], ◌∷◌, length, Contains, nat_eq, eqb-true, eq-eqb, inl, inr, refl, sym, ap, ◌∙◌, subst, arith}
use Rattle.std.specs.Cmp.Lexicographic.{bytes_decides}
use Rattle.std.proofs.lemmas.Bool.{and_parts, or_right, false_from_ne_true}
use Rattle.indexmap.proofs.CallerLemmas.{Contains-list_any}
use Rattle.type_kinds.proofs.Lists.{contains_none, contains_cases, position_of}
use Rattle.type_kinds.specs.declared.atom.Atom.{Atom}
use Rattle.core_ast.specs.declared.syntax.FunName.{FunName}
use Rattle.core_scope.specs.Names.{Distinct, same_atom, same_function, has_function}
use Rattle.core_scope.specs.Sets.{StandsEarlier}

pub not_same : (x y : Atom) → (x ≡ y → ⊥) → same_atom x y ≡ false
not_same x y differs = false_from_ne_true (same_atom x y) (λ e. differs ((bytes_decides x y).0 e))

pub function_is : (f g : FunName) → same_function f g ≡ true → f ≡ g
function_is f g h =
    let b = and_parts (same_atom f.name g.name) (nat_eq f.arity g.arity) h in
    let n : f.name ≡ g.name = (bytes_decides f.name g.name).0 b.0 in
    let a : f.arity ≡ g.arity = eqb-true f.arity g.arity b.1 in
    λ i. record { name = n i; arity = a i }

pub function_itself : (f : FunName) → same_function f f ≡ true
function_itself f = ap (λ s. s && nat_eq f.arity f.arity) ((bytes_decides f.name f.name).1 refl) ∙ eq-eqb f.arity f.arity refl

-- ---- lists of names

pub has_contained : (fs : List FunName) (f : FunName) → Contains fs f → has_function fs f ≡ true
has_contained [] f h = absurd (contains_none f h)
has_contained (g ∷ gs) f h = elim (contains_cases g f gs h) [
  | inl e ↦ ap (λ b. b || has_function gs f) (subst (λ x. same_function f x ≡ true) (sym e) (function_itself f))
  | inr c ↦ or_right (same_function f g) (has_function gs f) (has_contained gs f c)
]

pub contained_has : (fs : List FunName) (f : FunName) → has_function fs f ≡ true → Contains fs f
contained_has fs f h = Contains-list_any same_function function_is fs f h

-- names of which none stands earlier are distinct
pub none_earlier : (names : List Atom) → ((j : ℕ) → j < length names → StandsEarlier names j → ⊥) → Distinct names
none_earlier [] h = tt
none_earlier (x ∷ xs) h = (
  λ c. (let r = position_of xs x c in h (suc r.0) (omega (arith, r.1)) (0, omega arith, sym r.2)),
  none_earlier xs (λ j within before. h (suc j) (omega (arith, within)) (suc before.0, omega (arith, before.1), before.2)),
)
