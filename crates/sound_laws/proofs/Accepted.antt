-- In a program of accepted modules each definition of a module is the function that is found at its label.
use Rattle.std.proofs.Common.{◌≡◌, Bool, true, false, if◌then◌else◌, [], ◌∷◌, Some, refl, sym, ◌∙◌, subst}
use Rattle.std.specs.Cmp.Lexicographic.{bytes_decides}
use Rattle.std.proofs.lemmas.Option.{same_Some}
use Rattle.type_kinds.specs.declared.atom.Atom.{Atom}
use Rattle.core_ast.specs.Model as m
use Rattle.core_scope.specs.Checked.{tree_of}
use Rattle.core_scope.specs.Names.{same_atom}
use Rattle.core_scope.specs.declared.checked.Checked.{Checked}
use Rattle.core_meaning.specs.Programs.{Program, HasModule, AreAtLabels, module_named}
use Rattle.sound_laws.specs.Accepted.{AreAccepted}
use Rattle.sound_laws.proofs.Summaries.{LabelsStand}

-- a module that is found is that of its name, and was accepted
record WasAccepted (home : Atom) (p : m.Module) : Type 0 where
  by : Checked
  is : tree_of by ≡ p
  named : p.name ≡ home

was_accepted : (ps : Program) (home : Atom) (p : m.Module) → AreAccepted ps → module_named ps home ≡ Some p → WasAccepted home p
was_accepted [] home p h e = absurd cc
was_accepted (q ∷ ps) home p h e = at (same_atom q.name home) refl (was_accepted ps home p h.1) e
  where
    at : (c : Bool) → same_atom q.name home ≡ c → (module_named ps home ≡ Some p → WasAccepted home p) → (if c then Some q else module_named ps home) ≡ Some p → WasAccepted home p
    at true n more i = record { by = h.0.0; is = h.0.1 ∙ same_Some _ _ i; named = subst (λ z. z.name ≡ home) (same_Some _ _ i) ((bytes_decides q.name home).0 n) }
    at false n more i = more i

pub labels_stand : ((c : Checked) (U : Program) → HasModule U (tree_of c) → AreAtLabels U (tree_of c).name (tree_of c).defs) → (U : Program) → AreAccepted U → LabelsStand U
labels_stand law U accepted home p e =
    let it = was_accepted U home p accepted e in
    let found : HasModule U p = subst (λ z. module_named U z ≡ Some p) (sym it.named) e in
    let at : AreAtLabels U p.name p.defs = subst (λ z. AreAtLabels U z.name z.defs) it.is (law it.by U (subst (HasModule U) (sym it.is) found)) in
    subst (λ z. AreAtLabels U z p.defs) it.named at
