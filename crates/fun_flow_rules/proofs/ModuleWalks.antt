-- The walk through modules and programs.
use Rattle.std.proofs.Common.{◌≡◌, inl, inr, ℕ, ◌+◌, ◌<◌, ◌≤◌, List, [], ◌∷◌, ◌++◌, length, map, drop, get_or, Option, Some, None, slice_get, refl, sym, ap, ◌∙◌, subst, arith}
use Rattle.std.proofs.Math.ListN.{drop_of_length-le}
use Rattle.std.proofs.lemmas.List.{drop_more, length-map}
use Rattle.std.proofs.lemmas.Option.{slice_get-get_or, slice_get-map}
use Rattle.std.specs.Option.{option_map}
use Rattle.type_kinds.specs.declared.atom.Atom.{Atom}
use Rattle.core_ast.specs.declared.syntax.FunName.{FunName}
use Rattle.core_ast.specs.Model as m
use Rattle.core_scope.proofs.NameLaws.{none_earlier}
use Rattle.core_scope.specs.Checked.{module_of, tree_of}
use Rattle.core_scope.specs.Names.{Distinct, same_function}
use Rattle.core_scope.specs.Sets.{StandsEarlier}
use Rattle.core_scope.specs.declared.checked.Checked.{Checked}
use Rattle.type_lattice_model.specs.Values.{Local}
use Rattle.core_meaning.specs.Programs.{Program, function_named, locals_of, module_named}
use Rattle.fun_flow_places.specs.Bindings.{value_of}
use Rattle.fun_flow_places.specs.Naming.{AreRulesOf, module_names, name_of, place_named}
use Rattle.fun_flow_places.specs.Tables.{IsTableOf, frame, label_of}
use Rattle.fun_flow_places.proofs.TableLaws.{frame_value, map_both, module_at, name_of_is, outer_none}
use Rattle.fun_flow_places.specs.declared.places.FlowRule.{FlowRule}
use Rattle.fun_flow_rules.specs.declared.walk.RuleWalk.{RuleWalk}
use Rattle.fun_flow_rules.specs.steps.Walking.{Adds, Going, Makes, Part, Sees, WalksModule, no_rules, opened_rules, place_in, with_rules}
use Rattle.fun_flow_rules.proofs.Steps.{adds_none, adds_then, going_ends, going_on, makes_as, makes_none, makes_then}
use Rattle.fun_flow_rules.proofs.Forms.{definition_arity, none_found}
use Rattle.fun_flow_sets.specs.Items as s
use Rattle.fun_flow_sets.specs.Items.{defined_in}
use Rattle.fun_flow_sets.specs.Rules.{export_rules, module_rules, opens, opens_definition, rules_of_definitions, rules_of_modules}
use Rattle.fun_flow_sets.specs.Scopes.{definition_of, no_place}

-- ---- exports

opened_label : (home : Atom) (f : FunName) (label : ℕ) (o : Option Local) → ((d : Local) → o ≡ Some d → d.arity ≡ f.arity) → Some label ≡ label_of o → opens home label 0 f.arity ≡ opens_definition home o
opened_label home f label None h e = absurd cc
opened_label home f label (Some d) h e =
    let same : label ≡ d.label = cc in
    ap (λ l. opens home l 0 f.arity) same ∙ ap (opens home d.label 0) (sym (h d refl))

-- an export that is defined, and one that isn't
pub opens_export : (old new : RuleWalk) (f : FunName) (label arity : ℕ) → arity ≡ f.arity → Some label ≡ value_of same_function old.functions f → Makes old new (λ U home sc. opens home label 0 arity)
    → Makes old new (λ U home sc. opens_definition home (definition_of U home sc f))
opens_export old new f label arity count found h =
    makes_as old new (λ U home sc. opens home label 0 arity) (λ U home sc. opens_definition home (definition_of U home sc f)) h
    (λ U home sc s. ap (opens home label 0) count ∙ opened_label home f label (definition_of U home sc f) (definition_arity U home sc f) (found ∙ s.functions f))

pub opens_nothing : (w : RuleWalk) (f : FunName) → None ≡ value_of same_function w.functions f → Makes w w (λ U home sc. opens_definition home (definition_of U home sc f))
opens_nothing w f found = makes_as w w no_rules (λ U home sc. opens_definition home (definition_of U home sc f)) (makes_none w)
    (λ U home sc s. ap (opens_definition home) (sym (none_found (definition_of U home sc f) (found ∙ s.functions f))))

pub exports_round : (old now new : RuleWalk) (fs : List FunName) (i : ℕ) (f : FunName) (all : Part) → i < length fs → f ≡ get_or fs i f → Makes now new (λ U home sc. opens_definition home (definition_of U home sc f))
    → Going old now (λ U home sc. opened_rules U home sc (drop i fs)) all
    → Going old new (λ U home sc. opened_rules U home sc (drop (i + 1) fs)) all
exports_round old now new fs i f all within is step before =
    going_on old now new (λ U home sc. opened_rules U home sc (drop i fs)) (λ U home sc. opens_definition home (definition_of U home sc f)) (λ U home sc. opened_rules U home sc (drop (i + 1) fs)) all before step
    (λ U home sc. ap (opened_rules U home sc) (drop_more fs i f within ∙ ap (λ x. x ∷ drop (i + 1) fs) (sym is)))

pub exports_end : (old now : RuleWalk) (fs : List FunName) (i : ℕ) (all : Part) → length fs ≤ i → Going old now (λ U home sc. opened_rules U home sc (drop i fs)) all → Makes old now all
exports_end old now fs i all past h = going_ends old now (λ U home sc. opened_rules U home sc (drop i fs)) all h (λ U home sc. ap (opened_rules U home sc) (drop_of_length-le fs past))

opened_exports : (U : Program) (x : m.Module) (fs : List FunName) → module_named U x.name ≡ Some x → opened_rules U x.name no_place fs ≡ export_rules x.name x.defs fs
opened_exports U x [] e = refl
opened_exports U x (f ∷ fs) e =
    ap (λ o. opens_definition x.name (defined_in o f) ++ opened_rules U x.name no_place fs) e ∙ ap (λ l. opens_definition x.name (function_named (locals_of x.defs) f) ++ l) (opened_exports U x fs e)

-- ---- modules

abbrev pub begun : RuleWalk → ℕ → List (FunName × ℕ) → RuleWalk
begun w at fs = record w { home = at; functions = fs }

-- with these functions in place of its own
abbrev pub without_functions : RuleWalk → List (FunName × ℕ) → RuleWalk
without_functions w fs = record w { functions = fs }

sees_module : (U : Program) (w : RuleWalk) (at : ℕ) (x : m.Module) → Distinct (module_names U) → IsTableOf U w.table → w.variables ≡ [] → name_of U at ≡ x.name → module_named U x.name ≡ Some x
    → Sees U x.name no_place (begun w at ([] ++ frame (locals_of x.defs)))
sees_module U w at x apart table none named e =
    record {
      apart = apart;
      table = table;
      at_home = named;
      variables = λ y. ap (λ vs. place_named U (place_in vs y)) none;
      functions = λ f. frame_value [] (locals_of x.defs) f ∙ outer_none (label_of (function_named (locals_of x.defs) f)) ∙ ap (λ o. label_of (defined_in o f)) (sym e);
    }

pub module_walked : (w0 w1 w2 w3 w4 : RuleWalk) (at : ℕ) (x : m.Module) → w1 ≡ begun w0 at (w0.functions ++ frame (locals_of x.defs)) → Makes w1 w2 (λ U home sc. opened_rules U home sc x.exports)
    → Makes w2 w3 (λ U home sc. rules_of_definitions U home sc x.defs) → w4 ≡ record w3 { functions = [] } → WalksModule w0 w4 at x
module_walked w0 w1 w2 w3 w4 at x first one two left =
    let both : Makes w1 w3 (λ U home sc. opened_rules U home sc x.exports ++ rules_of_definitions U home sc x.defs) = makes_then w1 w2 w3 (λ U home sc. opened_rules U home sc x.exports)
    (λ U home sc. rules_of_definitions U home sc x.defs) one two in
    let whole : w3 ≡ with_rules (begun w0 at (w0.functions ++ frame (locals_of x.defs))) w3.rules = both.rest ∙ ap (λ w. with_rules w w3.rules) first in
    record {
      table = ap (λ w. w.table) left ∙ ap (λ w. w.table) whole;
      variables = λ none. ap (λ w. w.variables) left ∙ ap (λ w. w.variables) whole ∙ none;
      functions = ap (λ w. w.functions) left;
      adds = λ U apart table none nothing named e.
          let start : w1 ≡ begun w0 at ([] ++ frame (locals_of x.defs)) = first ∙ ap (λ fs. begun w0 at (fs ++ frame (locals_of x.defs))) nothing in
          let made = both.adds U x.name no_place (subst (Sees U x.name no_place) (sym start) (sees_module U w0 at x apart table none named e)) in
          subst (λ l. Adds U w0.rules l (module_rules U x)) (sym (ap (λ w. w.rules) left))
          (subst (λ l. Adds U l w3.rules (module_rules U x)) (ap (λ w. w.rules) first) (subst (λ l. Adds U w1.rules w3.rules (l ++ rules_of_definitions U x.name no_place x.defs)) (opened_exports U x x.exports e) made));
    }

-- ---- programs

-- What is left of the modules completes the rules of all.
pub record Passing (U : Program) (now : RuleWalk) (left : Program) : Type 0 where
  pub table : IsTableOf U now.table
  pub variables : now.variables ≡ []
  pub functions : now.functions ≡ []
  pub then : (rs : List FlowRule) → Adds U now.rules rs (rules_of_modules U left) → Adds U [] rs (rules_of_modules U U)

pub passing_begins : (U : Program) (w : RuleWalk) → IsTableOf U w.table → w.variables ≡ [] → w.functions ≡ [] → w.rules ≡ [] → Passing U w U
passing_begins U w table variables functions none = record { table = table; variables = variables; functions = functions; then = λ rs h. subst (λ l. Adds U l rs (rules_of_modules U U)) none h }

pub passing_on : (U : Program) (now new : RuleWalk) (at : ℕ) (x : m.Module) (left : Program) → Distinct (module_names U) → name_of U at ≡ x.name → module_named U x.name ≡ Some x → WalksModule now new at x
    → Passing U now (x ∷ left)
    → Passing U new left
passing_on U now new at x left apart named e step h =
    record {
      table = subst (IsTableOf U) (sym step.table) h.table;
      variables = step.variables h.variables;
      functions = step.functions;
      then = λ rs g. h.then rs (adds_then U now.rules new.rules rs (module_rules U x) (rules_of_modules U left) (step.adds U apart h.table h.variables h.functions named e) g);
    }

pub passing_ends : (U : Program) (w : RuleWalk) → Passing U w [] → AreRulesOf U w.rules
passing_ends U w h r =
    let all = h.then w.rules (adds_none U w.rules) r in
    (λ k. elim (all.0 k) [ inl j ↦ absurd j | inr j ↦ j ], λ k. all.1 (inr k))

-- the modules of a program, which the code has as values that stand for them
module _ {S : Type 0} (sf : S → Checked) (mods : List S) where
  abbrev pub program_of : Program
  program_of = map (λ s. tree_of (sf s)) mods

  pub distinct_names : ((j : ℕ) → j < length mods → StandsEarlier (map (λ s. (module_of (sf s)).name) mods) j → ⊥) → Distinct (module_names program_of)
  distinct_names h =
      subst Distinct (map_both (λ s. tree_of (sf s)) (λ (p : m.Module). p.name) mods)
      (none_earlier (map (λ s. (module_of (sf s)).name) mods) (λ j within. h j (let e : length (map (λ s. (module_of (sf s)).name) mods) ≡ length mods = length-map mods (λ s. (module_of (sf s)).name) in omega (arith, within, e))))

  pub passing_round : (now new : RuleWalk) (i : ℕ) (x : S) (y : m.Module) → Distinct (module_names program_of) → i < length mods → x ≡ get_or mods i x → y ≡ tree_of (sf x) → WalksModule now new i y
      → Passing program_of now (map (λ s. tree_of (sf s)) (drop i mods)) → Passing program_of new (map (λ s. tree_of (sf s)) (drop (i + 1) mods))
  passing_round now new i x y apart within is same step before =
      let f : S → m.Module = λ s. tree_of (sf s) in
      let at : slice_get program_of i ≡ Some (f x) = slice_get-map f mods i ∙ ap (option_map f) (slice_get-get_or mods i x within ∙ ap Some (sym is)) in
      passing_on program_of now new i (f x) (map f (drop (i + 1) mods)) apart (name_of_is program_of i (f x).name (slice_get-map (λ (p : m.Module). p.name) program_of i ∙ ap (option_map (λ (p : m.Module). p.name)) at))
      (module_at program_of i (f x) apart at)
      (subst (WalksModule now new i) same step) (subst (Passing program_of now) (ap (map f) (drop_more mods i x within ∙ ap (λ z. z ∷ drop (i + 1) mods) (sym is))) before)

  pub passing_all : (w : RuleWalk) (i : ℕ) (rules : List FlowRule) → length mods ≤ i → rules ≡ w.rules → Passing program_of w (map (λ s. tree_of (sf s)) (drop i mods)) → AreRulesOf program_of rules
  passing_all w i rules past is h = subst (AreRulesOf program_of) (sym is) (passing_ends program_of w (subst (Passing program_of w) (ap (map (λ s. tree_of (sf s))) (drop_of_length-le mods past)) h))
