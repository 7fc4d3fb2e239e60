-- In a program with an accepted module, each exported function has a run with any values from outside, in every stage and with
-- any fuel.
use Rattle.std.proofs.Common.{◌≡◌, ℕ, suc, true, false, ◌||◌, inl, inr, List, [], ◌∷◌, ◌++◌, length, Some, Contains, sym, ap, ◌∙◌, subst, arith}
use Rattle.std.specs.Cmp.Lexicographic.{bytes_decides}
use Rattle.std.proofs.lemmas.Bool.{cases_Bool}
use Rattle.type_kinds.proofs.Lists.{contains_first, contains_later}
use Rattle.type_kinds.specs.declared.atom.Atom.{Atom}
use Rattle.core_ast.specs.declared.syntax.FunName.{FunName}
use Rattle.core_ast.specs.Model as m
use Rattle.core_scope.specs.Asks as asks
use Rattle.core_scope.specs.Names as scopes
use Rattle.core_scope.specs.Names.{same_atom, has_variable, bound_by, defined_names, module_scope}
use Rattle.core_scope.specs.Breaks.{new_functions, export_breaks, def_breaks, module_breaks}
use Rattle.core_scope.specs.Places.{HaveArity}
use Rattle.core_scope.specs.Places.StandsIn.{itself}
use Rattle.core_scope.proofs.NameLaws.{contained_has}
use Rattle.core_scope.proofs.Unbroken.{open_three, exports_stand}
use Rattle.type_lattice_model.specs.Canonical.{spelled}
use Rattle.type_lattice_model.specs.Values.{Value, closure, Values, no_value, and_value, count, no_variable}
use Rattle.bif_types.specs.Results.{one_value}
use Rattle.core_meaning.specs.Programs.{Program, HasModule, AreAtLabels, exports_in, is_exported, top_of_module, top_function, closure_of}
use Rattle.core_meaning.specs.Environments.{with_variables}
use Rattle.core_meaning.specs.Meaning.{Outcome, gives, fails, entered, gave, Trace, enter_gives, enter_fails, AreOutside}
use Rattle.core_meaning.specs.Runs.{IsOutside, Eval, EnterAt, HasRun}
use Rattle.core_meaning.proofs.Bound.{binds_none, grows_all, binds_all}
use Rattle.core_meaning.proofs.Placed.{Defined, is_defined, Fits, fits_grown}
use Rattle.core_meaning.proofs.Existing.{Text, Meets, all_end}

pub contained_variable : (xs : List Atom) (x : Atom) → has_variable xs x ≡ true → Contains xs x
contained_variable [] x h = absurd (by h)
  where
    by : false ≡ true → ⊥
    by e = cc
contained_variable (y ∷ ys) x h = elim (cases_Bool (same_atom x y)) [
  | inl same ↦ subst (λ z. Contains (y ∷ ys) z) (sym ((bytes_decides x y).0 same)) (contains_first y ys)
  | inr other ↦ contains_later y x ys (contained_variable ys x (sym (ap (λ b. b || has_variable ys x) other) ∙ h))
]

module _ (once : (v w : Value) → spelled v ≡ spelled w → v ≡ w) (U : Program) (p : m.Module) (text : Text U p)
    (known : HasModule U p) (sound : module_breaks p ≡ []) (arities : HaveArity p.defs) (labelled : AreAtLabels U p.name p.defs) where
  defined : (f : FunName) → Contains (defined_names p.defs) f → Defined U p (module_scope p) p.defs f
  defined f h = is_defined U p (module_scope p) p.defs f itself labelled arities h

  -- the closure of a function that the module defines
  top_is : (f : FunName) (d : Defined U p (module_scope p) p.defs f) → top_function U p.name f ≡ Some (closure p.name d.mark.label d.name.arity no_variable)
  top_is f d = ap (λ o. top_of_module p.name o f) known ∙ ap (λ o. closure_of p.name no_variable o) d.named

  module_fits : Fits U p.name (module_scope p) no_variable
  module_fits = record {
    binds = binds_none no_variable;
    names = λ f h. let d = defined f h in (closure p.name d.mark.label d.name.arity no_variable, top_is f d);
  }

  exported_stands : (f : FunName) → is_exported U p.name f ≡ true → Contains (defined_names p.defs) f
  exported_stands f h =
      exports_stand (defined_names p.defs) p.exports p.export_places (open_three (new_functions [] p.defs) (export_breaks (defined_names p.defs) p.exports p.export_places) (def_breaks (module_scope p) p.defs) sound).1 f
      (contained_has p.exports f (sym (ap (λ o. exports_in o f) known) ∙ h))

  module _ (stage fuel : ℕ) (f : FunName) (vs : Values) (exported : is_exported U p.name f ≡ true) (arity : count vs ≡ f.arity) (worldly : AreOutside (λ v. IsOutside U stage v) vs) where
    d : Defined U p (module_scope p) p.defs f
    d = defined f (exported_stands f exported)

    parameters : length d.parameters ≡ count vs
    parameters = d.arity ∙ ap (λ (g : FunName). g.arity) d.same ∙ sym arity

    abbrev start : Value
    start = closure p.name d.mark.label d.name.arity no_variable

    run_of : (o : Outcome) (tr : Trace) → EnterAt U stage fuel start vs o tr → HasRun U stage fuel p.name f vs
    run_of o tr h = record {
      start = start;
      outcome = o;
      trace = tr;
      under = top_is f d;
      enters = h;
      runs = record { start = start; args = vs; fuel = fuel; outcome = o; begins = inl (p.name, (f, (exported, top_is f d))); worldly = worldly; enters = h };
    }

    by_body : (o : Outcome) (tr : Trace) → Eval U stage fuel p.name (with_variables d.parameters vs no_variable) d.body o tr → Meets o asks.one_value → HasRun U stage fuel p.name f vs
    by_body (gives no_value) tr h e = let n : 0 ≡ 1 = e in absurd (omega (arith, n))
    by_body (gives (and_value v no_value)) tr h e = run_of (gives (one_value v)) (entered start vs ∷ (tr ++ (gave start vs v ∷ []))) (enter_gives (sym d.arity ∙ parameters) d.labelled parameters h)
    by_body (gives (and_value v (and_value w ws))) tr h e = let n : suc (suc (count ws)) ≡ 1 = e in absurd (omega (arith, n))
    by_body (fails g) tr h e = run_of (fails g) (entered start vs ∷ tr) (enter_fails (sym d.arity ∙ parameters) d.labelled parameters h)

    body_fits : Fits U p.name (scopes.with_variables (module_scope p) (bound_by d.parameters)) (with_variables d.parameters vs no_variable)
    body_fits = fits_grown U p.name (module_scope p) no_variable (with_variables d.parameters vs no_variable) (bound_by d.parameters) module_fits (grows_all U p.name d.parameters vs no_variable)
        (binds_all U p.name d.parameters vs no_variable parameters)

    pub has_run : HasRun U stage fuel p.name f vs
    has_run =
        let r = all_end once U p text (λ v. IsOutside U stage v) (tt, λ c h. absurd h) fuel (scopes.with_variables (module_scope p) (bound_by d.parameters)) asks.one_value d.body
        (with_variables d.parameters vs no_variable) d.stands body_fits in
        by_body r.outcome r.trace r.happens r.meets
