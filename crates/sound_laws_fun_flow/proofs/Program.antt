-- The rules of a program of accepted modules have those of all of its definitions, which stand at their labels, and open what is
-- exported.
use Rattle.std.proofs.Common.{◌≡◌, Bool, true, false, if◌then◌else◌, [], ◌∷◌, Some, refl, sym, ◌∙◌, subst}
use Rattle.std.specs.Cmp.Lexicographic.{bytes_decides}
use Rattle.std.proofs.lemmas.Option.{same_Some}
use Rattle.type_kinds.specs.declared.atom.Atom.{Atom}
use Rattle.core_ast.specs.Model as m
use Rattle.core_scope.specs.Checked.{tree_of}
use Rattle.core_scope.specs.Names.{same_atom}
use Rattle.core_scope.specs.declared.checked.Checked.{Checked}
use Rattle.core_meaning.specs.Programs.{Program, HasModule, module_named, AreAtLabels}
use Rattle.fun_flow_sets.proofs.RulesOf.{definitions_there, exports_there}
use Rattle.fun_flow_sets.specs.Items.{defined_at}
use Rattle.fun_flow_sets.specs.Rules.{opens_definition, rules_of_definitions, IsRule}
use Rattle.fun_flow_sets.specs.Scopes.{no_place}
use Rattle.sound_laws.specs.Accepted.{AreAccepted}
use Rattle.sound_laws_fun_flow.specs.steps.Setting.{HasProgram}
use Rattle.sound_laws_fun_flow.proofs.Lists.{all_of}

-- what is known of accepted modules: their definitions stand at their labels
abbrev pub AtLabels : Type 0
AtLabels = (c : Checked) (U : Program) → HasModule U (tree_of c) → AreAtLabels U (tree_of c).name (tree_of c).defs

accepted_at : (ps : Program) → AreAccepted ps → (home : Atom) (p : m.Module) → module_named ps home ≡ Some p → ((c : Checked) × (tree_of c ≡ p)) × (p.name ≡ home)
accepted_at [] h home p e = absurd cc
accepted_at (q ∷ ps) h home p e = by (same_atom q.name home) refl (accepted_at ps h.1 home p) e
  where
    by : (b : Bool) → same_atom q.name home ≡ b → (module_named ps home ≡ Some p → ((c : Checked) × (tree_of c ≡ p)) × (p.name ≡ home)) → (if b then Some q else module_named ps home) ≡ Some p
        → ((c : Checked) × (tree_of c ≡ p)) × (p.name ≡ home)
    by true n more w =
        let same : q ≡ p = same_Some _ _ w in
        ((h.0.0, h.0.1 ∙ same), subst (λ z. z.name ≡ home) same ((bytes_decides q.name home).0 n))
    by false n more w = more w

pub has_program : AtLabels → (U : Program) → AreAccepted U → HasProgram U (IsRule U)
has_program F U h = record {
  definitions = λ home p e. (at home p e, all_of U (IsRule U) (rules_of_definitions U home no_place p.defs) (λ r i. definitions_there U home p r e i));
  exports = λ home f e. all_of U (IsRule U) (opens_definition home (defined_at U home f)) (λ r i. exports_there U home f r e i);
}
  where
    at : (home : Atom) (p : m.Module) → module_named U home ≡ Some p → AreAtLabels U home p.defs
    at home p e =
        let k = accepted_at U h home p e in
        let named : module_named U p.name ≡ Some p = subst (λ z. module_named U z ≡ Some p) (sym k.1) e in
        let tree = k.0.1 in
        let there = F k.0.0 U (subst (λ z. module_named U z.name ≡ Some z) (sym tree) named) in
        subst (λ z. AreAtLabels U z p.defs) k.1 (subst (λ z. AreAtLabels U z.name z.defs) tree there)
