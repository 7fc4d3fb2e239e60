-- The rules of a program have those of its definitions, and open what is exported.
use Rattle.std.proofs.Common.{◌≡◌, ◌||◌, Bool, true, false, if◌then◌else◌, List, [], ◌∷◌, ◌++◌, Option, Some, None, inl, inr, refl, sym, subst}
use Rattle.std.specs.Cmp.Lexicographic.{bytes_decides}
use Rattle.std.proofs.lemmas.Option.{same_Some}
use Rattle.type_kinds.specs.declared.atom.Atom.{Atom}
use Rattle.core_ast.specs.Model as m
use Rattle.core_ast.specs.declared.syntax.FunName.{FunName}
use Rattle.core_scope.specs.Names.{same_atom, same_function, has_function}
use Rattle.core_scope.proofs.NameLaws.{function_is}
use Rattle.core_meaning.specs.Programs.{Program, module_named, function_named, locals_of, exports_in, is_exported}
use Rattle.fun_flow_sets.specs.Items.{Rule, defined_in, defined_at}
use Rattle.fun_flow_sets.specs.Rules.{export_rules, module_rules, opens_definition, rules_of_definitions, rules_of_modules, IsAmong, IsRule}
use Rattle.fun_flow_sets.specs.Scopes.{no_place}

pub among_left : (rs qs : List Rule) (r : Rule) → IsAmong rs r → IsAmong (rs ++ qs) r
among_left [] qs r h = absurd h
among_left (p ∷ rs) qs r (inl e) = inl e
among_left (p ∷ rs) qs r (inr h) = inr (among_left rs qs r h)

pub among_right : (rs qs : List Rule) (r : Rule) → IsAmong qs r → IsAmong (rs ++ qs) r
among_right [] qs r h = h
among_right (p ∷ rs) qs r h = inr (among_right rs qs r h)

-- a module that is found is one of those of the list, and has the name
module_among : (U ps : Program) (home : Atom) (p : m.Module) → module_named ps home ≡ Some p → (p.name ≡ home) × ((r : Rule) → IsAmong (module_rules U p) r → IsAmong (rules_of_modules U ps) r)
module_among U [] home p e = absurd cc
module_among U (q ∷ ps) home p e = by (same_atom q.name home) refl (module_among U ps home p) e
  where
    by : (b : Bool) → same_atom q.name home ≡ b → (module_named ps home ≡ Some p → (p.name ≡ home) × ((r : Rule) → IsAmong (module_rules U p) r → IsAmong (rules_of_modules U ps) r))
        → (if b then Some q else module_named ps home) ≡ Some p → (p.name ≡ home) × ((r : Rule) → IsAmong (module_rules U p) r → IsAmong (module_rules U q ++ rules_of_modules U ps) r)
    by true n more w =
        let same : q ≡ p = same_Some _ _ w in
        (subst (λ z. z.name ≡ home) same ((bytes_decides q.name home).0 n), λ r i. among_left (module_rules U q) (rules_of_modules U ps) r (subst (λ z. IsAmong (module_rules U z) r) (sym same) i))
    by false n more w = let k = more w in (k.0, λ r i. among_right (module_rules U q) (rules_of_modules U ps) r (k.1 r i))

-- an exported function's parameters are opened
export_among : (home : Atom) (ds : m.Defs) (fs : List FunName) (f : FunName) (r : Rule) → has_function fs f ≡ true → IsAmong (opens_definition home (function_named (locals_of ds) f)) r → IsAmong (export_rules home ds fs) r
export_among home ds [] f r e i = absurd cc
export_among home ds (g ∷ fs) f r e i = by (same_function f g) refl e (λ h. export_among home ds fs f r h i)
  where
    by : (b : Bool) → same_function f g ≡ b → (b || has_function fs f) ≡ true → (has_function fs f ≡ true → IsAmong (export_rules home ds fs) r)
        → IsAmong (opens_definition home (function_named (locals_of ds) g) ++ export_rules home ds fs) r
    by true n h more = among_left (opens_definition home (function_named (locals_of ds) g)) (export_rules home ds fs) r (subst (λ z. IsAmong (opens_definition home (function_named (locals_of ds) z)) r) (function_is f g n) i)
    by false n h more = among_right (opens_definition home (function_named (locals_of ds) g)) (export_rules home ds fs) r (more h)

-- the rules of the definitions of a module that is found
pub definitions_there : (U : Program) (home : Atom) (p : m.Module) (r : Rule) → module_named U home ≡ Some p → IsAmong (rules_of_definitions U home no_place p.defs) r → IsRule U r
definitions_there U home p r e i =
    let k = module_among U U home p e in
    k.1 r (among_right (export_rules p.name p.defs p.exports) (rules_of_definitions U p.name no_place p.defs) r (subst (λ z. IsAmong (rules_of_definitions U z no_place p.defs) r) (sym k.0) i))

pub exports_there : (U : Program) (home : Atom) (f : FunName) (r : Rule) → is_exported U home f ≡ true → IsAmong (opens_definition home (defined_at U home f)) r → IsRule U r
exports_there U home f r e i = by (module_named U home) refl e i
  where
    by : (o : Option m.Module) → module_named U home ≡ o → exports_in o f ≡ true → IsAmong (opens_definition home (defined_in o f)) r → IsRule U r
    by None q h j = absurd cc
    by (Some p) q h j =
        let k = module_among U U home p q in
        k.1 r (among_left (export_rules p.name p.defs p.exports) (rules_of_definitions U p.name no_place p.defs) r
        (export_among p.name p.defs p.exports f r h (subst (λ z. IsAmong (opens_definition z (function_named (locals_of p.defs) f)) r) (sym k.0) j)))
