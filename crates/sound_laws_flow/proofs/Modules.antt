-- In a program of accepted modules, what stands under a name is a module of that name, whose text is sound.
use Rattle.std.proofs.Common.{◌≡◌, Bool, true, false, if◌then◌else◌, [], ◌∷◌, Some, None, refl, sym, ap, ◌∙◌, subst}
use Rattle.std.specs.Cmp.Lexicographic.{bytes_decides}
use Rattle.std.proofs.lemmas.Option.{same_Some}
use Rattle.type_kinds.specs.declared.atom.Atom.{Atom}
use Rattle.core_ast.specs.Model as m
use Rattle.core_scope.proofs.Unbroken.{open_four, defined_once}
use Rattle.core_scope.specs.Breaks.{degree, new_functions, def_breaks, breaks}
use Rattle.core_scope.specs.Checked.{tree_of}
use Rattle.core_scope.specs.Names.{same_atom, defined_names, with_functions}
use Rattle.core_scope.specs.Places.{HaveArity}
use Rattle.core_scope.specs.Places.Piece.{expression}
use Rattle.core_scope.specs.declared.checked.Checked.{Checked}
use Rattle.core_meaning.specs.Programs.{Program, HasModule, AreAtLabels, module_named, in_module}
use Rattle.sound_laws.specs.Accepted.{AreAccepted}
use Rattle.sound_laws_flow.specs.Facts.{TextFacts}
use Rattle.sound_laws_flow.proofs.Text.{DefsAt, IsText}

-- a program that is one module has it
alone : (x : m.Module) → HasModule (x ∷ []) x
alone x = ap (λ b. if b then Some x else None) ((bytes_decides x.name x.name).1 refl)

at_labels : (x : m.Module) (ds : m.Defs) → AreAtLabels (x ∷ []) x.name ds → HaveArity ds → DefsAt x ds
at_labels x m.no_def h k = tt
at_labels x (m.and_def f i xs t ds) h k = (sym (ap (λ o. in_module o i.label) (alone x)) ∙ h.0, (k.0, at_labels x ds h.1 k.1))

module _ (F : TextFacts) where
  pub is_text : (c : Checked) → IsText (tree_of c)
  is_text c =
      let x = tree_of c in
      record {
        tops_at = at_labels x x.defs (F.definitions c (x ∷ []) (alone x)) (F.top_arities c);
        tops_once = F.once c;
        letrecs_at = λ s k i ds t h. at_labels x ds (F.letrecs c (x ∷ []) s k i ds t (alone x) h) (F.arities c s k i ds t h);
        letrecs_once = λ s k i ds t h. defined_once [] ds (open_four (degree k i (m.letrec i ds t)) (new_functions [] ds) (def_breaks (with_functions s (defined_names ds)) ds) (breaks (with_functions s (defined_names ds)) k t)
            (F.unbroken c (expression s k (m.letrec i ds t)) h)).1;
        labels_once = F.labels c;
        functions_once = F.functions c;
      }

  pub texts : (U : Program) → AreAccepted U → (home : Atom) (p : m.Module) → module_named U home ≡ Some p → IsText p × (p.name ≡ home)
  texts [] h home p e = absurd cc
  texts (q ∷ U) h home p e = by (texts U h.1 home p) (same_atom q.name home) refl e
    where
      by : (module_named U home ≡ Some p → IsText p × (p.name ≡ home)) → (b : Bool) → same_atom q.name home ≡ b → (if b then Some q else module_named U home) ≡ Some p → IsText p × (p.name ≡ home)
      by more true n w = (subst IsText (h.0.1 ∙ same_Some _ _ w) (is_text h.0.0), subst (λ z. z.name ≡ home) (same_Some _ _ w) ((bytes_decides q.name home).0 n))
      by more false n w = more w
