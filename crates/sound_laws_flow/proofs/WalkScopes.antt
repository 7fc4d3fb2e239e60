-- What is seen, while variables, functions and matched values come into it.
use Rattle.std.proofs.Common.{◌≡◌, ℕ, zero, suc, ◌+◌, ◌<◌, ◌≤◌, Bool, true, false, if◌then◌else◌, List, [], ◌∷◌, ◌++◌}
use Rattle.std.proofs.Common.{length, replicate, Option, Some, None, refl, sym, ap, ap₂, ◌∙◌, subst, arith, length-append}
use Rattle.type_kinds.specs.declared.atom.Atom.{Atom}
use Rattle.core_ast.specs.Model as m
use Rattle.core_ast.specs.declared.syntax.VarName.{VarName}
use Rattle.core_ast.specs.declared.syntax.FunName.{FunName}
use Rattle.core_scope.specs.Names.{same_atom, same_function, wildcard, defined_names}
use Rattle.type_lattice_model.specs.Values.{Value, closure, Values, no_value, and_value, Env, and_variable, and_frame, Local, count}
use Rattle.type_lattice.specs.Types.{Type4, HasType, HasTypes, any}
use Rattle.cons_tree.specs.Environments.{Types, Assignment, type_at, LiesIn}
use Rattle.cons_tree.specs.Facts.{TypeFacts}
use Rattle.cons_tree.specs.Satisfied.{values_of}
use Rattle.core_meaning.specs.Environments as run
use Rattle.core_meaning.specs.Environments.{value_of, local_function, with_variable}
use Rattle.core_meaning.specs.Matching.{Match, match_variable, match_literal, match_list, match_tuple, match_map, match_binary, match_alias, MatchEach, match_none}
use Rattle.core_meaning.specs.Matching.{match_next, MatchList, match_rest, match_head, MatchPairs, match_no_pair, match_pair, MatchSegments, match_no_segment, match_segment}
use Rattle.core_meaning.specs.Programs.{function_named, closure_of, locals_of}
use Rattle.cons_gen_rows.specs.Scopes.{Binding, or_outer}
use Rattle.cons_gen_rows.specs.Slots.{slots_from}
use Rattle.module_flow_calls.specs.Functions.{defined_labels, label_named}
use Rattle.module_flow_state.specs.Scopes.{WalkScope, scope_in, with_variables, with_functions, matching, slot_or, argument_slot, argument_slots}
use Rattle.module_flow_calls.specs.TypeLists.{as_many}
use Rattle.sound_laws.specs.Assignments.{Alike}
use Rattle.sound_laws.specs.Scopes.{StandsFor}
use Rattle.sound_laws.proofs.Extensions.{set_all, AreUnder, first_value, later_values}
use Rattle.sound_laws.proofs.Scopes.{stands_in, bound_in_turn, stands_framed}
use Rattle.sound_laws_flow.specs.steps.Seen.{FunctionsAre, IsSeen, label_found, NamesOnce}

-- ---- types of many values

pub has_length : (vs : Values) (ts : List Type4) → HasTypes vs ts → count vs ≡ length ts
has_length no_value [] h = refl
has_length no_value (t ∷ ts) h = absurd h
has_length (and_value v vs) [] h = absurd h
has_length (and_value v vs) (t ∷ ts) h = ap suc (has_length vs ts h.1)

pub as_many_have : (vs : Values) (ts : List Type4) → HasTypes vs ts → HasTypes vs (as_many (count vs) ts)
as_many_have no_value ts h = tt
as_many_have (and_value v vs) [] h = absurd h
as_many_have (and_value v vs) (t ∷ ts) h = (h.0, as_many_have vs ts h.1)

pub as_many_length : (n : ℕ) (ts : List Type4) → length (as_many n ts) ≡ n
as_many_length zero ts = refl
as_many_length (suc n) [] = ap suc (as_many_length n [])
as_many_length (suc n) (t ∷ ts) = ap suc (as_many_length n ts)

-- any types are as good as none
pub as_many_open : (k n : ℕ) → as_many k (replicate n any) ≡ as_many k []
as_many_open zero n = refl
as_many_open (suc k) zero = refl
as_many_open (suc k) (suc n) = ap (λ ts. any ∷ ts) (as_many_open k n)

module _ (T : TypeFacts) where
  pub any_have : (vs : Values) → HasTypes vs (as_many (count vs) [])
  any_have no_value = tt
  any_have (and_value v vs) = (T.every v, any_have vs)

  pub open_have : (vs : Values) (n : ℕ) → count vs ≡ n → HasTypes vs (replicate n any)
  open_have no_value zero e = tt
  open_have no_value (suc n) e = absurd (omega (arith, e))
  open_have (and_value v vs) zero e = absurd (omega (arith, e))
  open_have (and_value v vs) (suc n) e = (T.every v, open_have vs n (omega (arith, e)))

  -- ---- types of slots

  pub lies_alike : (ts : Types) (a b : Assignment) → Alike (length ts) a b → LiesIn a ts → LiesIn b ts
  lies_alike [] a b h l s = T.every (b s)
  lies_alike (t ∷ ts) a b h l zero = subst (λ v. HasType v t) (h 0 (omega arith)) (l 0)
  lies_alike (t ∷ ts) a b h l (suc s) = lies_alike ts (λ i. a (suc i)) (λ i. b (suc i)) (λ i g. h (suc i) (omega (arith, g))) (λ i. l (suc i)) s

  pub lies_behind : (ts us : Types) (a : Assignment) → LiesIn a ts → ((i : ℕ) → HasType (a (length ts + i)) (type_at us i)) → LiesIn a (ts ++ us)
  lies_behind [] us a l h s = let same : 0 + s ≡ s = omega arith in subst (λ j. HasType (a j) (type_at us s)) same (h s)
  lies_behind (t ∷ ts) us a l h zero = l 0
  lies_behind (t ∷ ts) us a l h (suc s) = lies_behind ts us (λ i. a (suc i)) (λ i. l (suc i)) (λ i. let same : suc (length ts) + i ≡ suc (length ts + i) = omega arith in subst (λ j. HasType (a j) (type_at us i)) same (h i)) s

  pub each_lies : (a : Assignment) (vs : Values) (us : Types) (s : ℕ) → values_of a (slots_from s (count vs)) ≡ vs → HasTypes vs us → (i : ℕ) → HasType (a (s + i)) (type_at us i)
  each_lies a no_value [] s e h i = T.every (a (s + i))
  each_lies a no_value (u ∷ us) s e h i = absurd h
  each_lies a (and_value v vs) [] s e h i = absurd h
  each_lies a (and_value v vs) (u ∷ us) s e h zero = let same : s ≡ s + 0 = omega arith in subst (λ j. HasType (a j) u) same (subst (λ z. HasType z u) (sym (first_value e)) h.0)
  each_lies a (and_value v vs) (u ∷ us) s e h (suc i) = let same : s + 1 + i ≡ s + suc i = omega arith in subst (λ j. HasType (a j) (type_at us i)) same (each_lies a vs us (s + 1) (later_values e) h.1 i)

  pub open_lies : (n i : ℕ) (v : Value) → HasType v (type_at (replicate n any) i)
  open_lies zero i v = T.every v
  open_lies (suc n) zero v = T.every v
  open_lies (suc n) (suc i) v = open_lies n i v

-- ---- functions

local_with : (home : Atom) (x : Atom) (v : Value) (env : Env) (f : FunName) → local_function home (with_variable x v env) f ≡ local_function home env f
local_with home x v env f = by (same_atom x wildcard)
  where
    by : (c : Bool) → local_function home (if c then env else and_variable x v env) f ≡ local_function home env f
    by true = refl
    by false = refl

pub local_after : (home : Atom) (xs : List VarName) (vs : Values) (env : Env) (f : FunName) → local_function home (run.with_variables xs vs env) f ≡ local_function home env f
local_after home [] vs env f = refl
local_after home (x ∷ xs) no_value env f = refl
local_after home (x ∷ xs) (and_value v vs) env f = local_after home xs vs (with_variable x.name v env) f ∙ local_with home x.name v env f

module _ (home : Atom) (W : Value → Type 0) where
  mutual
    local_matched : {p : m.Pattern} {v : Value} {env to : Env} (f : FunName) → Match W p v env to → local_function home to f ≡ local_function home env f
    local_matched f (match_variable {x = x} {v = v} {env = env}) = local_with home x v env f
    local_matched f (match_literal is) = refl
    local_matched f (match_list ms) = local_listed f ms
    local_matched f (match_tuple ms) = local_each f ms
    local_matched f (match_map ms) = local_pairs f ms
    local_matched f (match_binary ms) = local_segments f ms
    local_matched f (match_alias {x = x} {v = v} {env = env} mt) = local_matched f mt ∙ local_with home x.name v env f

    pub local_each : {ps : m.Patterns} {vs : Values} {env to : Env} (f : FunName) → MatchEach W ps vs env to → local_function home to f ≡ local_function home env f
    local_each f match_none = refl
    local_each f (match_next mt ms) = local_each f ms ∙ local_matched f mt

    local_listed : {ps : m.Patterns} {p : m.Pattern} {v : Value} {env to : Env} (f : FunName) → MatchList W ps p v env to → local_function home to f ≡ local_function home env f
    local_listed f (match_rest mt) = local_matched f mt
    local_listed f (match_head mt ms) = local_listed f ms ∙ local_matched f mt

    local_pairs : {ps : m.PatPairs} {qs : Rattle.type_lattice_model.specs.Values.ValuePairs} {env to : Env} (f : FunName) → MatchPairs W ps qs env to → local_function home to f ≡ local_function home env f
    local_pairs f match_no_pair = refl
    local_pairs f (match_pair key has mt ms) = local_pairs f ms ∙ local_matched f mt

    local_segments : {ss : m.PatSegments} {env to : Env} (f : FunName) → MatchSegments W ss env to → local_function home to f ≡ local_function home env f
    local_segments f match_no_segment = refl
    local_segments f (match_segment from is mt ms) = local_segments f ms ∙ local_matched f mt

pub functions_kept : {home : Atom} {sc : WalkScope} {env : Env} (to : Env) (bs : List Binding) (ts : Types) → ((f : FunName) → local_function home to f ≡ local_function home env f) → FunctionsAre home sc env
    → FunctionsAre home (record { variables = bs; functions = sc.functions; labels = sc.labels; types = ts }) to
functions_kept to bs ts same x = record { paired = x.paired; others = λ f e. x.others f (sym (same f) ∙ e); inner = λ f l n around e. x.inner f l n around (sym (same f) ∙ e) }

pub named_behind : (fs gs : List FunName) (ls ms : List ℕ) (f : FunName) → length fs ≡ length ls → label_named (fs ++ gs) (ls ++ ms) f ≡ or_outer (label_named gs ms f) (label_named fs ls f)
named_behind [] gs [] ms f e = at_end (label_named gs ms f)
  where
    at_end : (o : Option ℕ) → o ≡ or_outer o None
    at_end None = refl
    at_end (Some l) = refl
named_behind [] gs (l ∷ ls) ms f e = absurd (omega (arith, e))
named_behind (g ∷ fs) gs [] ms f e = absurd (omega (arith, e))
named_behind (g ∷ fs) gs (l ∷ ls) ms f e =
    ap (λ o. or_outer o (if same_function g f then Some l else None)) (named_behind fs gs ls ms f (omega (arith, e)))
    ∙ outer_assoc (label_named gs ms f) (label_named fs ls f) (if same_function g f then Some l else None)
  where
    outer_assoc : (o p q : Option ℕ) → or_outer (or_outer o p) q ≡ or_outer o (or_outer p q)
    outer_assoc None p q = refl
    outer_assoc (Some s) p q = refl

pub defined_paired : (ds : m.Defs) → length (defined_names ds) ≡ length (defined_labels ds)
defined_paired m.no_def = refl
defined_paired (m.and_def f i xs t ds) = ap suc (defined_paired ds)

abbrev label_in : Value → ℕ
label_in (closure home label arity env) = label
label_in v = 0

functions_framed : {home : Atom} {sc : WalkScope} {env : Env} (ds : m.Defs) → NamesOnce ds → FunctionsAre home sc env → FunctionsAre home (with_functions sc ds) (and_frame (locals_of ds) env)
functions_framed {home} {sc} {env} ds once x = record {
  paired = length-append sc.functions (defined_names ds) ∙ ap₂ (λ i j. i + j) x.paired (defined_paired ds) ∙ sym (length-append sc.labels (defined_labels ds));
  others = λ f e. named_behind sc.functions (defined_names ds) sc.labels (defined_labels ds) f x.paired ∙ nowhere f (function_named (locals_of ds) f) (once f) e;
  inner = λ f l n around e. named_behind sc.functions (defined_names ds) sc.labels (defined_labels ds) f x.paired ∙ somewhere f l n around (function_named (locals_of ds) f) (once f) e;
}
  where
    nowhere : (f : FunName) (o : Option Local) → label_named (defined_names ds) (defined_labels ds) f ≡ label_found o → run.or_outer (closure_of home (and_frame (locals_of ds) env) o) (local_function home env f) ≡ None
        → or_outer (label_named (defined_names ds) (defined_labels ds) f) (label_named sc.functions sc.labels f) ≡ None
    nowhere f None h e = ap (λ o. or_outer o (label_named sc.functions sc.labels f)) h ∙ x.others f e
    nowhere f (Some d) h e = absurd cc

    somewhere : (f : FunName) (l n : ℕ) (around : Env) (o : Option Local) → label_named (defined_names ds) (defined_labels ds) f ≡ label_found o
        → run.or_outer (closure_of home (and_frame (locals_of ds) env) o) (local_function home env f) ≡ Some (closure home l n around)
        → or_outer (label_named (defined_names ds) (defined_labels ds) f) (label_named sc.functions sc.labels f) ≡ Some l
    somewhere f l n around None h e = ap (λ o. or_outer o (label_named sc.functions sc.labels f)) h ∙ x.inner f l n around e
    somewhere f l n around (Some d) h e = ap (λ o. or_outer o (label_named sc.functions sc.labels f)) h ∙ ap Some (label_is (closure home d.label d.arity (and_frame (locals_of ds) env)) (closure home l n around) e)
      where
        label_is : (v w : Value) → Some v ≡ Some w → label_in v ≡ label_in w
        label_is v w q = let same : v ≡ w = cc in ap label_in same

-- ---- what is seen

module _ (T : TypeFacts) where
  -- variables with as many values of these types
  pub seen_with : {home : Atom} {sc : WalkScope} {env : Env} (xs : List VarName) (vs : Values) (ts : List Type4) → IsSeen home sc env → length xs ≡ count vs → HasTypes vs (as_many (length xs) ts)
      → IsSeen home (with_variables sc xs ts) (run.with_variables xs vs env)
  seen_with {home} {sc} {env} xs vs ts s n h =
      let start = length sc.types in
      let x = bound_in_turn xs vs start (scope_in sc) env s.at n s.stands in
      let k = x.holds x.to (λ i g. refl) in
      let long : length (sc.types ++ as_many (length xs) ts) ≡ start + length xs = length-append sc.types (as_many (length xs) ts) ∙ ap (λ i. start + i) (as_many_length (length xs) ts) in
      let held : values_of x.to (slots_from start (count vs)) ≡ vs = subst (λ i. values_of x.to (slots_from start i) ≡ vs) n k.1 in
      record {
        at = x.to;
        stands = stands_in (omega (arith, long)) (λ i g. refl) k.0;
        inside = lies_behind T sc.types (as_many (length xs) ts) x.to (lies_alike T sc.types s.at x.to x.same s.inside) (each_lies T x.to vs (as_many (length xs) ts) start held h);
        functions = functions_kept (run.with_variables xs vs env) (with_variables sc xs ts).variables (sc.types ++ as_many (length xs) ts) (λ f. local_after home xs vs env f) s.functions;
      }

  pub seen_framed : {home : Atom} {sc : WalkScope} {env : Env} (ds : m.Defs) → NamesOnce ds → IsSeen home sc env → IsSeen home (with_functions sc ds) (and_frame (locals_of ds) env)
  seen_framed ds once s = record { at = s.at; stands = stands_framed ds s.stands; inside = s.inside; functions = functions_framed ds once s.functions }

  -- ---- what a `case` matches

  -- which of the values are those of variables
  abbrev pub NameIs : Env → Option Atom → Value → Type 0
  NameIs env None v = Unit {0}
  NameIs env (Some x) v = value_of env x ≡ Some v

  abbrev pub NamesAre : Env → List (Option Atom) → Values → Type 0
  NamesAre env [] no_value = Unit {0}
  NamesAre env [] (and_value v vs) = ⊥
  NamesAre env (x ∷ xs) no_value = ⊥
  NamesAre env (x ∷ xs) (and_value v vs) = NameIs env x v × NamesAre env xs vs

  -- the slots of what is matched hold the values
  pub record IsReady (home : Atom) (sc : WalkScope) (env : Env) (vs : Values) (qs : List ℕ) : Type 0 where
    pub seen : IsSeen home sc env
    pub holds : values_of seen.at qs ≡ vs
    pub under : AreUnder (length sc.types) qs

  slot_ready : (home : Atom) (n s : ℕ) (b : Assignment) (sc : WalkScope) (env : Env) (x : Option Atom) (v : Value) → StandsFor home n b (scope_in sc) env → s < n → b s ≡ v → NameIs env x v
      → (argument_slot sc.variables s x < n) × (b (argument_slot sc.variables s x) ≡ v)
  slot_ready home n s b sc env None v st l e h = (l, e)
  slot_ready home n s b sc env (Some x) v st l e h =
      let k = st.variables x v h in
      subst (λ o. (slot_or o s < n) × (b (slot_or o s) ≡ v)) (sym k.1.0) (k.1.1.0, k.1.1.1)

  slots_ready : (home : Atom) (n s : ℕ) (b : Assignment) (sc : WalkScope) (env : Env) (xs : List (Option Atom)) (vs : Values) → StandsFor home n b (scope_in sc) env → s + count vs ≤ n → values_of b (slots_from s (count vs)) ≡ vs
      → NamesAre env xs vs → AreUnder n (argument_slots sc.variables s xs) × (values_of b (argument_slots sc.variables s xs) ≡ vs)
  slots_ready home n s b sc env [] no_value st l e h = (tt, refl)
  slots_ready home n s b sc env [] (and_value v vs) st l e h = absurd h
  slots_ready home n s b sc env (x ∷ xs) no_value st l e h = absurd h
  slots_ready home n s b sc env (x ∷ xs) (and_value v vs) st l e h =
      let k = slot_ready home n s b sc env x v st (omega (arith, l)) (first_value e) h.0 in
      let r = slots_ready home n (s + 1) b sc env xs vs st (omega (arith, l)) (later_values e) h.1 in
      ((k.0, r.0), ap₂ and_value k.1 r.1)

  pub ready : {home : Atom} {sc : WalkScope} {env : Env} {vs : Values} (ts : List Type4) (xs : List (Option Atom)) → IsSeen home sc env → HasTypes vs ts → NamesAre env xs vs
      → IsReady home (matching sc ts) env vs (argument_slots sc.variables (length sc.types) xs)
  ready {home} {sc} {env} {vs} ts xs s h names =
      let start = length sc.types in
      let x = set_all vs start s.at in
      let k = x.holds x.to (λ i g. refl) in
      let many = has_length vs ts h in
      let long : length (sc.types ++ ts) ≡ start + count vs = length-append sc.types ts ∙ ap (λ i. start + i) (sym many) in
      let st = stands_in {k = start} {n = length (sc.types ++ ts)} {a = s.at} {b = x.to} (omega (arith, long)) x.same s.stands in
      let slots = slots_ready home (length (sc.types ++ ts)) start x.to sc env xs vs st (omega (arith, long)) k names in
      record {
        seen = record {
          at = x.to;
          stands = st;
          inside = lies_behind T sc.types ts x.to (lies_alike T sc.types s.at x.to x.same s.inside) (each_lies T x.to vs ts start k h);
          functions = functions_kept env sc.variables (sc.types ++ ts) (λ f. refl) s.functions;
        };
        holds = slots.1;
        under = slots.0;
      }
