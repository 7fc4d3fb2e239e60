-- Names are found alike in scopes and in environments; where a function is found its text is among the rules.
use Rattle.std.proofs.Common.{◌≡◌, Bool, true, false, ◌&&◌, if◌then◌else◌, Option, Some, None, nat_eq, refl, sym, ap, ◌∙◌, subst}
use Rattle.std.proofs.lemmas.Option.{same_Some}
use Rattle.type_kinds.specs.declared.atom.Atom.{Atom}
use Rattle.core_ast.specs.Model as m
use Rattle.core_ast.specs.declared.syntax.FunName.{FunName}
use Rattle.core_scope.specs.Functions.{labelled_function}
use Rattle.core_scope.specs.Names.{same_atom}
use Rattle.type_lattice_model.specs.Values.{Value, closure, Env, no_variable, and_frame, Local}
use Rattle.core_meaning.specs.Environments.{local_function, function_of, or_outer}
use Rattle.core_meaning.specs.Programs.{Program, module_named, function_at, AreAtLabels, function_named, closure_of, locals_of, top_of_module, top_function}
use Rattle.fun_flow_sets.specs.Items.{Rule, defined_in, defined_at}
use Rattle.fun_flow_sets.specs.Rules.{rules_of_definitions}
use Rattle.fun_flow_sets.specs.Scopes.{Scope, no_place, in_frame, or_else, local_definition, definition_of}
use Rattle.sound_laws_fun_flow.specs.steps.Inside.{Fits, fits_nothing, fits_variable, fits_frame, AreRules, body_rules, StandsAt}
use Rattle.sound_laws_fun_flow.specs.steps.Setting.{HasProgram, IsCovEnv}
use Rattle.sound_laws_fun_flow.proofs.Lists.{all_left, all_right}

module _ (U : Program) (R : Rule → Type 0) where
  -- of definitions whose texts are among the rules, one that is found
  pub of_definitions : (home : Atom) (sc : Scope) (ds : m.Defs) (f : FunName) (d : Local) → AreRules U R (rules_of_definitions U home sc ds) → AreAtLabels U home ds → function_named (locals_of ds) f ≡ Some d
      → StandsAt U R home d.label sc
  of_definitions home sc m.no_def f d a at e = absurd cc
  of_definitions home sc (m.and_def g k xs t ds) f d a at e = by (same_atom g.name f.name && nat_eq g.arity f.arity)
      (of_definitions home sc ds f d (all_right U R (body_rules U R home k.label xs t sc) (rules_of_definitions U home sc ds) a) at.1) e
    where
      mine : AreRules U R (body_rules U R home k.label xs t sc)
      mine = all_left U R (body_rules U R home k.label xs t sc) (rules_of_definitions U home sc ds) a

      here : k.label ≡ d.label → StandsAt U R home d.label sc
      here label c q =
          let same : labelled_function k (Some g) xs t ≡ c = same_Some _ _ (sym at.0 ∙ ap (function_at U home) label ∙ q) in
          subst (λ z. AreRules U R (body_rules U R home d.label z.parameters z.body sc)) same (subst (λ l. AreRules U R (body_rules U R home l xs t sc)) label mine)

      by : (b : Bool) → (function_named (locals_of ds) f ≡ Some d → StandsAt U R home d.label sc) → (if b then Some (record { name = g.name; arity = g.arity; label = k.label }) else function_named (locals_of ds) f) ≡ Some d
          → StandsAt U R home d.label sc
      by true more q = here (ap (λ z. z.label) (same_Some _ _ q))
      by false more q = more q

  -- The closure of a definition that is found: what it has captured is covered and fits a scope, in which its text is among the
  -- rules.
  pub record IsFound (home : Atom) (c : Value) (d : Local) : Type 0 where
    pub around : Env
    pub is : c ≡ closure home d.label d.arity around
    pub covered : IsCovEnv U R home around
    pub scope : Scope
    pub fits : Fits U R scope around
    pub stands : StandsAt U R home d.label scope

  local_none : {sc : Scope} {env : Env} (home : Atom) (f : FunName) → Fits U R sc env → local_function home env f ≡ None → local_definition sc f ≡ None
  local_none home f fits_nothing e = refl
  local_none home f (fits_variable h r) e = local_none home f r e
  local_none home f (fits_frame {ls = ls} {sc = sc} {env = env} r) e = by (function_named ls f) (local_none home f r) e
    where
      by : (o : Option Local) → (local_function home env f ≡ None → local_definition sc f ≡ None) → or_outer (closure_of home (and_frame ls env) o) (local_function home env f) ≡ None
          → or_else o (local_definition sc f) ≡ None
      by None more q = more q
      by (Some d) more q = absurd cc

  local_some : {sc : Scope} {env : Env} (home : Atom) (f : FunName) (c : Value) → Fits U R sc env → IsCovEnv U R home env → local_function home env f ≡ Some c
      → (d : Local) × ((local_definition sc f ≡ Some d) × IsFound home c d)
  local_some home f c fits_nothing h e = absurd cc
  local_some home f c (fits_variable i r) h e = local_some home f c r h.1 e
  local_some home f c (fits_frame {ls = ls} {sc = sc} {env = env} r) h e = by (function_named ls f) refl (local_some home f c r h.0) e
    where
      by : (o : Option Local) → function_named ls f ≡ o → (local_function home env f ≡ Some c → (d : Local) × ((local_definition sc f ≡ Some d) × IsFound home c d))
          → or_outer (closure_of home (and_frame ls env) o) (local_function home env f) ≡ Some c → (d : Local) × ((or_else o (local_definition sc f) ≡ Some d) × IsFound home c d)
      by None q more i = more i
      by (Some d) q more i =
          let ds = h.1.0 in
          let frame = h.1.1 in
          let outer = frame.1.1.0 in (
            d,
            (
              refl,
              record {
                around = and_frame ls env;
                is = sym (same_Some _ _ i);
                covered = h;
                scope = in_frame ls outer;
                fits = fits_frame frame.1.1.1.0;
                stands = of_definitions home (in_frame ls outer) ds f d frame.1.1.1.1 frame.1.0 (subst (λ z. function_named z f ≡ Some d) (sym frame.0) q);
              },
            ),
          )

  module _ (P : HasProgram U R) where
    pub top_found : (home : Atom) (f : FunName) (c : Value) → top_function U home f ≡ Some c → (d : Local) × ((defined_at U home f ≡ Some d) × IsFound home c d)
    top_found home f c e = by (module_named U home) refl e
      where
        of_module : (p : m.Module) → module_named U home ≡ Some p → (o : Option Local) → function_named (locals_of p.defs) f ≡ o → closure_of home no_variable o ≡ Some c → (d : Local) × ((o ≡ Some d) × IsFound home c d)
        of_module p q None n i = absurd cc
        of_module p q (Some d) n i =
            let there = P.definitions home p q in (
              d,
              (
                refl,
                record {
                  around = no_variable;
                  is = sym (same_Some _ _ i);
                  covered = tt;
                  scope = no_place;
                  fits = fits_nothing;
                  stands = of_definitions home no_place p.defs f d there.1 there.0 n;
                },
              ),
            )

        by : (o : Option m.Module) → module_named U home ≡ o → top_of_module home o f ≡ Some c → (d : Local) × ((defined_in o f ≡ Some d) × IsFound home c d)
        by None q i = absurd cc
        by (Some p) q i = of_module p q (function_named (locals_of p.defs) f) refl i

    -- a name is found alike in the scope and in the environment
    pub function_found : (home : Atom) (sc : Scope) (env : Env) (f : FunName) (c : Value) → Fits U R sc env → IsCovEnv U R home env → function_of U home env f ≡ Some c
        → (d : Local) × ((definition_of U home sc f ≡ Some d) × IsFound home c d)
    function_found home sc env f c r h e = by (local_function home env f) refl e
      where
        in_module : local_definition sc f ≡ None → (d : Local) × ((defined_at U home f ≡ Some d) × IsFound home c d) → (d : Local) × ((definition_of U home sc f ≡ Some d) × IsFound home c d)
        in_module n k = (k.0, (ap (λ z. or_else z (defined_at U home f)) n ∙ k.1.0, k.1.1))

        in_letrec : (d : Local) × ((local_definition sc f ≡ Some d) × IsFound home c d) → (d : Local) × ((definition_of U home sc f ≡ Some d) × IsFound home c d)
        in_letrec k = (k.0, (ap (λ z. or_else z (defined_at U home f)) k.1.0, k.1.1))

        by : (o : Option Value) → local_function home env f ≡ o → or_outer o (top_function U home f) ≡ Some c → (d : Local) × ((definition_of U home sc f ≡ Some d) × IsFound home c d)
        by None q i = in_module (local_none home f r q) (top_found home f c i)
        by (Some w) q i = in_letrec (local_some home f c r h (q ∙ i))
