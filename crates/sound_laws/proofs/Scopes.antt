-- What a scope stands for while variables and functions come into it.
use Rattle.std.proofs.Common.{◌≡◌, ℕ, suc, ◌+◌, ◌<◌, ◌≤◌, ◌&&◌, ◌||◌, Bool, true, false, if◌then◌else◌, List, [], ◌∷◌, ◌++◌, length, Option, Some}
use Rattle.std.proofs.Common.{None, nat_eq, refl, sym, ap, ap₂, ◌∙◌, subst, arith, le_trans, append_assoc, append-nil, true≢false, eqb-true, eq-eqb}
use Rattle.std.specs.List.{list_any}
use Rattle.std.specs.Cmp.Lexicographic.{bytes_decides}
use Rattle.std.proofs.lemmas.Bool.{and_parts}
use Rattle.type_kinds.specs.declared.atom.Atom.{Atom}
use Rattle.core_ast.specs.declared.syntax.VarName.{VarName}
use Rattle.core_ast.specs.declared.syntax.FunName.{FunName}
use Rattle.core_ast.specs.Model as m
use Rattle.core_scope.specs.Names.{same_atom, same_function, has_function, wildcard, defined_names}
use Rattle.type_lattice_model.specs.Values.{Value, Values, no_value, and_value, Env, and_variable, and_frame, count}
use Rattle.cons_tree.specs.Environments.{Assignment}
use Rattle.cons_tree.specs.Satisfied.{values_of}
use Rattle.core_meaning.specs.Programs.{function_named, closure_of, locals_of}
use Rattle.core_meaning.specs.Environments as run
use Rattle.core_meaning.specs.Environments.{value_of, local_function, with_variable, with_variables}
use Rattle.cons_gen_rows.specs.Slots.{slots_from}
use Rattle.cons_gen_rows.specs.Scopes.{Scope, Binding, slot_of, or_outer, binding, bindings, with_bindings, with_functions}
use Rattle.sound_laws.specs.Assignments.{Alike, Extension}
use Rattle.sound_laws.specs.Scopes.{StandsFor}
use Rattle.sound_laws.proofs.Extensions.{and_next, mapped, wider, kept, set_one}

-- it stands for it in each assignment with the same values
pub stands_in : {home : Atom} {k n : ℕ} {a b : Assignment} {sc : Scope} {env : Env} → k ≤ n → Alike k a b → StandsFor home k a sc env → StandsFor home n b sc env
stands_in l h x = record {
  variables = λ y v e. let at = x.variables y v e in (at.0, (at.1.0, (le_trans at.1.1.0 l, sym (h at.0 at.1.1.0) ∙ at.1.1.1)));
  functions = x.functions;
}

-- ---- variables

pub outer_assoc : (o p q : Option ℕ) → or_outer (or_outer o p) q ≡ or_outer o (or_outer p q)
outer_assoc None p q = refl
outer_assoc (Some s) p q = refl

-- the inner bindings are looked at first
pub slot_appended : (bs cs : List Binding) (x : Atom) → slot_of (bs ++ cs) x ≡ or_outer (slot_of cs x) (slot_of bs x)
slot_appended [] cs x = none (slot_of cs x)
  where
    none : (o : Option ℕ) → o ≡ or_outer o None
    none None = refl
    none (Some s) = refl
slot_appended ((y, s) ∷ bs) cs x =
    ap (λ o. or_outer o (if same_atom y x then Some s else None)) (slot_appended bs cs x)
    ∙ outer_assoc (slot_of cs x) (slot_of bs x) (if same_atom y x then Some s else None)

-- one more variable
pub stands_with : {home : Atom} {k s n : ℕ} {a : Assignment} {sc : Scope} {env : Env} (x : Atom) (v : Value) → k ≤ n → s < n → a s ≡ v → StandsFor home k a sc env
    → StandsFor home n a (with_bindings sc (binding x s)) (with_variable x v env)
stands_with {home} {k} {s} {n} {a} {sc} {env} x v l below e st = by (same_atom x wildcard)
  where
    at : (c : Bool) (y : Atom) (w : Value) → (if c then Some v else value_of env y) ≡ Some w → (r : ℕ) × ((or_outer (if c then Some s else None) (slot_of sc.variables y) ≡ Some r) × ((r < n) × (a r ≡ w)))
    at true y w h = let same : v ≡ w = grind (arith, h) in (s, (refl, (below, e ∙ same)))
    at false y w h = let old = st.variables y w h in (old.0, (old.1.0, (le_trans old.1.1.0 l, old.1.1.1)))

    by : (c : Bool) → StandsFor home n a (with_bindings sc (if c then [] else (x, s) ∷ [])) (if c then env else and_variable x v env)
    by true = record {
      variables = λ y w h. let old = st.variables y w h in (old.0, (ap (λ bs. slot_of bs y) (append-nil sc.variables) ∙ old.1.0, (le_trans old.1.1.0 l, old.1.1.1)));
      functions = st.functions;
    }
    by false = record {
      variables = λ y w h. let it = at (same_atom x y) y w h in (it.0, (slot_appended sc.variables ((x, s) ∷ []) y ∙ it.1.0, it.1.1));
      functions = st.functions;
    }

-- the scope with two lists of bindings, one after the other
pub bindings_assoc : (sc : Scope) (bs cs : List Binding) → with_bindings (with_bindings sc bs) cs ≡ with_bindings sc (bs ++ cs)
bindings_assoc sc bs cs = ap (λ ds. record { variables = ds; functions = sc.functions }) (append_assoc sc.variables bs cs)

pub bindings_none : (sc : Scope) → with_bindings sc [] ≡ sc
bindings_none sc = ap (λ ds. record { variables = ds; functions = sc.functions }) (append-nil sc.variables)

-- variables that are bound one after another, each at a slot of its own
pub bound_in_turn : {home : Atom} (xs : List VarName) (vs : Values) (s : ℕ) (sc : Scope) (env : Env) (a : Assignment) → length xs ≡ count vs → StandsFor home s a sc env
    → Extension a s (s + length xs) (λ b. StandsFor home (s + length xs) b (with_bindings sc (bindings xs s)) (with_variables xs vs env) × (values_of b (slots_from s (length xs)) ≡ vs))
bound_in_turn {home} [] no_value s sc env a n st =
    wider (omega arith) (kept (λ b. StandsFor home (s + 0) b (with_bindings sc []) env × (◌≡◌ {A = Values} no_value no_value))
    (λ b h. (subst (λ z. StandsFor home (s + 0) b z env) (sym (bindings_none sc)) (stands_in (omega arith) h st), refl)))
bound_in_turn [] (and_value v vs) s sc env a n st = absurd (omega (arith, n))
bound_in_turn (x ∷ xs) no_value s sc env a n st = absurd (omega (arith, n))
bound_in_turn {home} (x ∷ xs) (and_value v vs) s sc env a n st =
    mapped
    (wider {n = s + 1 + length xs} (omega arith)
    (and_next (s + 1) (omega arith) (omega arith)
    (set_one a s v)
    (λ b h e. bound_in_turn xs vs (s + 1) (with_bindings sc (binding x.name s)) (with_variable x.name v env) b (omega (arith, n)) (stands_with {k = s} x.name v (omega arith) (omega arith) e (stands_in (omega arith) h st)))))
    (λ b h. (
      subst (λ z. StandsFor home (s + suc (length xs)) b z (with_variables xs vs (with_variable x.name v env))) (bindings_assoc sc (binding x.name s) (bindings xs (s + 1))) (stands_in (omega arith) (λ i g. refl) h.1.0),
      ap₂ and_value h.0 h.1.1,
    ))

-- ---- functions of `letrec`s

any_none : (p : FunName → Bool) (fs gs : List FunName) → list_any p (fs ++ gs) ≡ false → (list_any p fs ≡ false) × (list_any p gs ≡ false)
any_none p [] gs h = (refl, h)
any_none p (f ∷ fs) gs h = by (p f) (any_none p fs gs) h
  where
    by : (c : Bool) → (list_any p (fs ++ gs) ≡ false → (list_any p fs ≡ false) × (list_any p gs ≡ false)) → (c || list_any p (fs ++ gs)) ≡ false → ((c || list_any p fs) ≡ false) × (list_any p gs ≡ false)
    by true more e = absurd (true≢false e)
    by false more e = more e

-- the tests of two names, either way round
name_back : (f g : FunName) → (same_atom g.name f.name && nat_eq g.arity f.arity) ≡ true → same_function f g ≡ true
name_back f g h =
    let both = and_parts (same_atom g.name f.name) (nat_eq g.arity f.arity) h in
    let names : same_atom f.name g.name ≡ true = (bytes_decides f.name g.name).1 (sym ((bytes_decides g.name f.name).0 both.0)) in
    let arities : nat_eq f.arity g.arity ≡ true = eq-eqb f.arity g.arity (sym (eqb-true g.arity f.arity both.1)) in
    ap₂ (λ b c. b && c) names arities

-- a name that no definition has, none of them is found under
not_defined : (ds : m.Defs) (f : FunName) → has_function (defined_names ds) f ≡ false → function_named (locals_of ds) f ≡ None
not_defined m.no_def f h = refl
not_defined (m.and_def g k xs t ds) f h =
    let unlike = no_more (same_function f g) h in
    by (same_atom g.name f.name && nat_eq g.arity f.arity) refl unlike.0 (not_defined ds f unlike.1)
  where
    no_more : (c : Bool) → (c || has_function (defined_names ds) f) ≡ false → (c ≡ false) × (has_function (defined_names ds) f ≡ false)
    no_more true e = absurd (true≢false e)
    no_more false e = (refl, e)

    by : (c : Bool) → (same_atom g.name f.name && nat_eq g.arity f.arity) ≡ c → same_function f g ≡ false → function_named (locals_of ds) f ≡ None
        → (if c then Some (record { name = g.name; arity = g.arity; label = k.label }) else function_named (locals_of ds) f) ≡ None
    by true e unlike more = absurd (true≢false (sym (name_back f g e) ∙ unlike))
    by false e unlike more = more

-- the functions of one more `letrec`
pub stands_framed : {home : Atom} {k : ℕ} {a : Assignment} {sc : Scope} {env : Env} (ds : m.Defs) → StandsFor home k a sc env → StandsFor home k a (with_functions sc (defined_names ds)) (and_frame (locals_of ds) env)
stands_framed {home} {sc = sc} {env = env} ds st = record {
  variables = st.variables;
  functions = λ f h.
      let unlike = any_none (same_function f) sc.functions (defined_names ds) h in
      ap (λ o. run.or_outer (closure_of home (and_frame (locals_of ds) env) o) (local_function home env f)) (not_defined ds f unlike.1) ∙ st.functions f unlike.0;
}
