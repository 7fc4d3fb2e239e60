-- Names that are found to be the same are equal, and equal names are found to be the same.
use Rattle.std.proofs.Common.{◌≡◌, true, ◌&&◌, refl, ap, ◌∙◌, nat_eq, eqb-true, eq-eqb}
use Rattle.std.specs.Cmp.Lexicographic.{pointwise, bytes_decides}
use Rattle.type_kinds.proofs.Truths.{first, second}
use Rattle.type_kinds.specs.declared.atom.Atom.{Atom}
use Rattle.core_ast.specs.declared.syntax.FunName.{FunName}
use Rattle.cons_tree.specs.Callees.{same_home, same_name}

pub home_is : (h k : Atom) → same_home h k ≡ true → h ≡ k
home_is h k e = (bytes_decides h k).0 e

pub home_itself : (h : Atom) → same_home h h ≡ true
home_itself h = (bytes_decides h h).1 refl

pub name_is : (f g : FunName) → same_name f g ≡ true → f ≡ g
name_is f g e =
    let n : f.name ≡ g.name = (bytes_decides f.name g.name).0 (first (pointwise nat_eq f.name g.name) (nat_eq f.arity g.arity) e) in
    let a : f.arity ≡ g.arity = eqb-true f.arity g.arity (second (pointwise nat_eq f.name g.name) (nat_eq f.arity g.arity) e) in
    λ i. record { name = n i; arity = a i }

pub name_itself : (f : FunName) → same_name f f ≡ true
name_itself f = ap (λ b. b && nat_eq f.arity f.arity) ((bytes_decides f.name f.name).1 refl) ∙ eq-eqb f.arity f.arity refl
