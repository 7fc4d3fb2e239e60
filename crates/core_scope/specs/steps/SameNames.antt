-- Names that are equal by `==` are the same value.
use Rattle.std.proofs.Common.{◌≡◌, true, nat_eq, eqb-true}
use Rattle.std.proofs.lemmas.Bool.{and_parts}
use Rattle.std.specs.Cmp.Lexicographic.{bytes_decides}
use Rattle.type_kinds.specs.declared.atom.Atom.{Atom}
use Rattle.core_ast.specs.declared.syntax.FunName.{FunName}
use Rattle.core_scope.specs.Names.{same_atom, same_function}

pub atoms_same : (a b : Atom) → same_atom a b ≡ true → a ≡ b
atoms_same a b h = (bytes_decides a b).0 h

pub functions_same : (f g : FunName) → same_function f g ≡ true → f ≡ g
functions_same f g h =
    let b = and_parts (same_atom f.name g.name) (nat_eq f.arity g.arity) h in
    let n : f.name ≡ g.name = atoms_same f.name g.name b.0 in
    let a : f.arity ≡ g.arity = eqb-true f.arity g.arity b.1 in
    λ i. record { name = n i; arity = a i }
