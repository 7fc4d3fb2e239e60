-- The parts of a form stand in the module, and an environment that fits a scope fits what a form adds to it.
use Rattle.std.proofs.Common.{◌≡◌, true, false, inl, inr, List, length, Option, Some, None, Contains, refl, sym, ap, ◌∙◌, subst}
use Rattle.std.specs.Prelude.{if◌then◌else◌}
use Rattle.std.proofs.lemmas.Bool.{cases_Bool}
use Rattle.std.proofs.lemmas.List.Elements.{Contains-append_cases}
use Rattle.type_kinds.proofs.Lists.{contains_none, contains_cases}
use Rattle.type_kinds.specs.declared.atom.Atom.{Atom}
use Rattle.core_ast.specs.declared.syntax.Mark.{Mark}
use Rattle.core_ast.specs.declared.syntax.VarName.{VarName}
use Rattle.core_ast.specs.declared.syntax.FunName.{FunName}
use Rattle.core_ast.specs.Model as m
use Rattle.core_scope.specs.Asks as asks
use Rattle.core_scope.specs.Names.{same_function, bound_by, defined_names, Scope, with_variables, with_functions}
use Rattle.core_scope.specs.Places.{StandsInModule, HaveArity}
use Rattle.core_scope.specs.Places.Piece.{expression, expressions, pairs, segments, definitions}
use Rattle.core_scope.specs.Places.HasPart.{first_expression, other_expressions, first_key, first_value, other_pairs, first_segment, segment_arguments, other_segments, definition_body, other_definitions}
use Rattle.core_scope.specs.Places.StandsIn.{deeper}
use Rattle.core_scope.proofs.NameLaws.{function_is, function_itself}
use Rattle.type_lattice_model.specs.Values.{Value, Env, and_frame, closure, Local}
use Rattle.core_meaning.specs.Programs.{Program, IsAtLabel, AreAtLabels, locals_of, function_named, closure_of, top_function}
use Rattle.core_meaning.specs.Environments.{or_outer, local_function}
use Rattle.core_meaning.specs.Meaning.{with_last, both_rows, in_pairs, in_segments}
use Rattle.core_meaning.proofs.Bound.{BindsAll, binds_both, Names, NamesAll, Grows}

-- ---- parts

module _ (p : m.Module) where
  -- each of them stands in the module, sees the scope, and is asked for one value
  abbrev pub AllStand : Scope → m.Trees → Type 0
  AllStand s m.no_tree = Unit {0}
  AllStand s (m.and_tree t ts) = StandsInModule p (expression s asks.one_value t) × AllStand s ts

  pub stand_all : (s : Scope) (ts : m.Trees) → StandsInModule p (expressions s ts) → AllStand s ts
  stand_all s m.no_tree h = tt
  stand_all s (m.and_tree t ts) h = (deeper h first_expression, stand_all s ts (deeper h other_expressions))

  pub stand_last : (s : Scope) (ts : m.Trees) (t : m.Tree) → AllStand s ts → StandsInModule p (expression s asks.one_value t) → AllStand s (with_last ts t)
  stand_last s m.no_tree t h k = (k, tt)
  stand_last s (m.and_tree u ts) t h k = (h.0, stand_last s ts t h.1 k)

  stand_rows : (s : Scope) (ts us : m.Trees) → AllStand s ts → AllStand s us → AllStand s (both_rows ts us)
  stand_rows s m.no_tree us h k = k
  stand_rows s (m.and_tree t ts) us h k = (h.0, stand_rows s ts us h.1 k)

  pub stand_pairs : (s : Scope) (ps : m.Pairs) → StandsInModule p (pairs s ps) → AllStand s (in_pairs ps)
  stand_pairs s m.no_pair h = tt
  stand_pairs s (m.and_pair exact t u ps) h = (deeper h first_key, (deeper h first_value, stand_pairs s ps (deeper h other_pairs)))

  pub stand_segments : (s : Scope) (ss : m.Segments) → StandsInModule p (segments s ss) → AllStand s (in_segments ss)
  stand_segments s m.no_segment h = tt
  stand_segments s (m.and_segment t ts ss) h = (deeper h first_segment, stand_rows s ts (in_segments ss) (stand_all s ts (deeper h segment_arguments)) (stand_segments s ss (deeper h other_segments)))

-- ---- functions by their names

test_passes : (g f : FunName) → g ≡ f → same_function g f ≡ true
test_passes g f e = subst (λ x. same_function g x ≡ true) e (function_itself g)

no_test : (g f : FunName) → same_function g f ≡ false → g ≡ f → ⊥
no_test g f other e = by (sym (test_passes g f e) ∙ other)
  where
    by : true ≡ false → ⊥
    by k = cc

abbrev pub local_of : FunName → Mark → Local
local_of g k = record { name = g.name; arity = g.arity; label = k.label }

-- a name that definitions define names one of them
pub is_named : (ds : m.Defs) (f : FunName) → Contains (defined_names ds) f → (d : Local) × (function_named (locals_of ds) f ≡ Some d)
is_named m.no_def f h = absurd (contains_none f h)
is_named (m.and_def g k xs t ds) f h = elim (cases_Bool (same_function g f)) [
  | inl passes ↦ (local_of g k, ap (λ b. if b then Some (local_of g k) else function_named (locals_of ds) f) passes)
  | inr other ↦ elim (contains_cases g f (defined_names ds) h) [
    | inl e ↦ absurd (no_test g f other e)
    | inr later ↦ (let r = is_named ds f later in (r.0, ap (λ b. if b then Some (local_of g k) else function_named (locals_of ds) f) other ∙ r.1))
  ]
]

module _ (U : Program) (p : m.Module) where
  -- the first of the definitions under a name: it is found at its label, has the name's arity, and its body stands in the module
  pub record Defined (s : Scope) (ds : m.Defs) (f : FunName) : Type 0 where
    pub name : FunName
    pub mark : Mark
    pub parameters : List VarName
    pub body : m.Tree
    pub named : function_named (locals_of ds) f ≡ Some (local_of name mark)
    pub same : name ≡ f
    pub labelled : IsAtLabel U p.name mark (Some name) parameters body
    pub arity : length parameters ≡ name.arity
    pub stands : StandsInModule p (expression (with_variables s (bound_by parameters)) asks.one_value body)

  later_defined : (s : Scope) (g : FunName) (k : Mark) (xs : List VarName) (t : m.Tree) (ds : m.Defs) (f : FunName) → same_function g f ≡ false → Defined s ds f → Defined s (m.and_def g k xs t ds) f
  later_defined s g k xs t ds f other r = record {
    name = r.name;
    mark = r.mark;
    parameters = r.parameters;
    body = r.body;
    named = ap (λ b. if b then Some (local_of g k) else function_named (locals_of ds) f) other ∙ r.named;
    same = r.same;
    labelled = r.labelled;
    arity = r.arity;
    stands = r.stands;
  }

  pub is_defined : (s : Scope) (ds : m.Defs) (f : FunName) → StandsInModule p (definitions s ds) → AreAtLabels U p.name ds → HaveArity ds → Contains (defined_names ds) f → Defined s ds f
  is_defined s m.no_def f there at arities h = absurd (contains_none f h)
  is_defined s (m.and_def g k xs t ds) f there at arities h = elim (cases_Bool (same_function g f)) [
    | inl passes ↦ record {
      name = g;
      mark = k;
      parameters = xs;
      body = t;
      named = ap (λ b. if b then Some (local_of g k) else function_named (locals_of ds) f) passes;
      same = function_is g f passes;
      labelled = at.0;
      arity = arities.0;
      stands = deeper there definition_body;
    }
    | inr other ↦ elim (contains_cases g f (defined_names ds) h) [
      | inl e ↦ absurd (no_test g f other e)
      | inr later ↦ later_defined s g k xs t ds f other (is_defined s ds f (deeper there other_definitions) at.1 arities.1 later)
    ]
  ]

-- ---- environments that fit a scope

module _ (U : Program) (home : Atom) where
  pub record Fits (s : Scope) (env : Env) : Type 0 where
    pub binds : BindsAll s.variables env
    pub names : NamesAll U home s.functions env

  pub fits_grown : (s : Scope) (env to : Env) (xs : List Atom) → Fits s env → Grows U home env to → BindsAll xs to → Fits (with_variables s xs) to
  fits_grown s env to xs fit g b = record {
    binds = binds_both s.variables xs to (λ x h. g.binds x (fit.binds x h)) b;
    names = λ f h. g.names f (fit.names f h);
  }

  names_kept : (ds : m.Defs) (f : FunName) (env : Env) → Names U home env f → Names U home (and_frame (locals_of ds) env) f
  names_kept ds f env h = by (function_named (locals_of ds) f)
    where
      by : (o : Option Local) → (c : Value) × (or_outer (or_outer (closure_of home (and_frame (locals_of ds) env) o) (local_function home env f)) (top_function U home f) ≡ Some c)
      by None = h
      by (Some d) = (closure home d.label d.arity (and_frame (locals_of ds) env), refl)

  names_new : (ds : m.Defs) (f : FunName) (env : Env) → Contains (defined_names ds) f → Names U home (and_frame (locals_of ds) env) f
  names_new ds f env h =
      let r = is_named ds f h in
      (closure home r.0.label r.0.arity (and_frame (locals_of ds) env), ap (λ o. or_outer (or_outer (closure_of home (and_frame (locals_of ds) env) o) (local_function home env f)) (top_function U home f)) r.1)

  pub fits_frame : (s : Scope) (ds : m.Defs) (env : Env) → Fits s env → Fits (with_functions s (defined_names ds)) (and_frame (locals_of ds) env)
  fits_frame s ds env fit = record {
    binds = λ x h. fit.binds x h;
    names = λ f h. elim (Contains-append_cases s.functions (defined_names ds) f h) [ inl k ↦ names_kept ds f env (fit.names f k) | inr k ↦ names_new ds f env k ];
  }
