-- Where the names of modules differ, each module that is listed is the one that stands under its name.
use Rattle.std.proofs.Common.{◌≡◌, zero, suc, Bool, true, false, if◌then◌else◌, [], ◌∷◌, Contains, Some, refl, sym, ap, ◌∙◌, subst, arith}
use Rattle.std.specs.Prelude.{map}
use Rattle.std.specs.Cmp.Lexicographic.{bytes_decides}
use Rattle.type_kinds.specs.declared.atom.Atom.{Atom}
use Rattle.core_ast.specs.Model as m
use Rattle.core_scope.specs.Names.{Distinct, same_atom}
use Rattle.core_meaning.specs.Programs.{Program, HasModule, module_named}

abbrev name_of : m.Module → Atom
name_of p = p.name

named_in : (U : Program) (x : m.Module) → Contains U x → Contains (map name_of U) x.name
named_in [] x (k, within, is) = absurd (omega (arith, within))
named_in (p ∷ U) x (zero, within, is) = (zero, omega arith, ap name_of is)
named_in (p ∷ U) x (suc k, within, is) = let r = named_in U x (k, omega (arith, within), is) in (suc r.0, omega (arith, r.1), r.2)

pub is_under_its_name : (U : Program) (x : m.Module) → Distinct (map (λ p. p.name) U) → Contains U x → HasModule U x
is_under_its_name [] x d (k, within, is) = absurd (omega (arith, within))
is_under_its_name (p ∷ U) x d (zero, within, is) = ap (λ b. if b then Some p else module_named U x.name) ((bytes_decides p.name x.name).1 (ap name_of is)) ∙ ap Some is
is_under_its_name (p ∷ U) x d (suc k, within, is) = let there : Contains U x = (k, omega (arith, within), is) in by there (is_under_its_name U x d.1 there) (same_atom p.name x.name) refl
  where
    by : Contains U x → HasModule U x → (b : Bool) → same_atom p.name x.name ≡ b → (if b then Some p else module_named U x.name) ≡ Some x
    by there more true e = absurd (d.0 (subst (λ z. Contains (map (λ p. p.name) U) z) (sym ((bytes_decides p.name x.name).0 e)) (named_in U x there)))
    by there more false e = more
