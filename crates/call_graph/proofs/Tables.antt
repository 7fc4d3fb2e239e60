-- A table whose entries are those of the functions of modules answers as it is to.
use Rattle.std.proofs.Common.{◌≡◌, ℕ, inl, inr, ◌||◌, Bool, true, false, if◌then◌else◌, List, [], ◌∷◌, Option, Some, None, Contains, length, map, slice_get, refl, sym, ap, ◌∙◌, subst, arith}
use Rattle.std.specs.List.{list_any}
use Rattle.std.specs.Map.{lookup}
use Rattle.std.specs.Cmp.Lexicographic.{bytes_decides}
use Rattle.std.proofs.lemmas.List.Elements.{Contains-append_cases}
use Rattle.std.proofs.lemmas.Bool.{or_right}
use Rattle.core_scope.proofs.NameLaws.{not_same, has_contained, contained_has}
use Rattle.type_kinds.proofs.Lists.{contains_none, contains_first, contains_at, contains_later, contains_cases}
use Rattle.indexmap.proofs.CallerLemmas.{Contains-list_any}
use Rattle.type_kinds.specs.declared.atom.Atom.{Atom}
use Rattle.core_ast.specs.declared.syntax.FunName.{FunName}
use Rattle.core_ast.specs.Model as m
use Rattle.core_scope.specs.Asks.{erlang}
use Rattle.core_scope.specs.Names.{Distinct, same_atom, has_function}
use Rattle.call_graph.specs.declared.keys.FunctionKey.{FunctionKey}
use Rattle.call_graph.specs.declared.table.FunctionEntry.{FunctionEntry}
use Rattle.call_graph.specs.declared.table.FunctionTable.{FunctionTable}
use Rattle.call_graph.specs.declared.table.Resolved.{Resolved}
use Rattle.call_graph.specs.declared.table.Resolved.TheVariants.{BuiltIn, NotPassed, NotExported, Function}
use Rattle.call_graph.specs.Calls.{ModuleFunction, functions_in, module_functions, functions_of}
use Rattle.call_graph.specs.Tables.{key_of, same_key, entry_at, number_in, own_number, reached, resolved, IsReached, IsTableOf}
use Rattle.call_graph.specs.steps.Building.{function_key, entry_of, numbered}
use Rattle.call_graph.proofs.Lookups.{Finds, look_up_finds, found_by_key, at_from, at_zero}
use Rattle.call_graph.proofs.DistinctKeys.{names}

-- ---- tests of names

any_contained : (xs : List Atom) (x : Atom) → Contains xs x → list_any (same_atom x) xs ≡ true
any_contained [] x h = absurd (contains_none x h)
any_contained (y ∷ ys) x h = elim (contains_cases y x ys h) [
  | inl e ↦ ap (λ b. b || list_any (same_atom x) ys) ((bytes_decides x y).1 (sym e))
  | inr c ↦ or_right (same_atom x y) (list_any (same_atom x) ys) (any_contained ys x c)
]

contained_any : (xs : List Atom) (x : Atom) → list_any (same_atom x) xs ≡ true → Contains xs x
contained_any xs x h = Contains-list_any same_atom (λ a b e. (bytes_decides a b).0 e) xs x h

pub other_atom : (x y : Atom) → same_atom x y ≡ false → x ≡ y → ⊥
other_atom x y h e = absurd (let t : same_atom x y ≡ true = (bytes_decides x y).1 e in cc)

-- ---- the homes of functions

home_in : (home : Atom) (exports : List FunName) (ds : m.Defs) (g : ModuleFunction) → Contains (functions_in home exports ds) g → g.home ≡ home
home_in home exports m.no_def g h = absurd (contains_none g h)
home_in home exports (m.and_def f i xs t ds) g h = elim (contains_cases (record { home = home; exports = exports; name = f; mark = i; params = xs; body = t }) g (functions_in home exports ds) h) [
  | inl e ↦ ap (λ x. x.home) (sym e)
  | inr c ↦ home_in home exports ds g c
]

home_of : (xs : List m.Module) (g : ModuleFunction) → Contains (functions_of xs) g → Contains (names xs) g.home
home_of [] g h = absurd (contains_none g h)
home_of (x ∷ xs) g h = elim (Contains-append_cases (module_functions x) (functions_of xs) g h) [
  | inl c ↦ subst (Contains (x.name ∷ names xs)) (sym (home_in x.name x.exports x.defs g c)) (contains_first x.name (names xs))
  | inr c ↦ contains_later x.name g.home (names xs) (home_of xs g c)
]

-- ---- keys and answers

named : (home : Atom) (f : FunName) (g : ModuleFunction) → function_key g ≡ key_of home f → (g.home ≡ home) × (g.name ≡ f)
named home f g e = (ap (λ k. k.home) e, λ i. record { name = (e i).name; arity = (e i).arity })

key_named : (home : Atom) (f : FunName) (g : ModuleFunction) → g.home ≡ home → g.name ≡ f → function_key g ≡ key_of home f
key_named home f g h n = λ i. key_of (h i) (n i)

exported_number : (e : FunctionEntry) (j : ℕ) → reached (Some e) ≡ Function j → (e.exported ≡ true) × (e.number ≡ j)
exported_number e j h = by e.exported refl h
  where
    by : (b : Bool) → e.exported ≡ b → (if b then Function e.number else NotExported) ≡ Function j → (e.exported ≡ true) × (e.number ≡ j)
    by true x h = (x, cc)
    by false x h = absurd cc

-- What is reached in a module that was passed.
handed_in : (r : Resolved) (o : Option FunctionEntry) → reached o ≡ r → (r ≡ NotPassed → ⊥) × (r ≡ BuiltIn → ⊥)
handed_in r None h = (λ e. absurd cc, λ e. absurd cc)
handed_in r (Some e) h = by e.exported h
  where
    by : (b : Bool) → (if b then Function e.number else NotExported) ≡ r → (r ≡ NotPassed → ⊥) × (r ≡ BuiltIn → ⊥)
    by true h = (λ e. absurd cc, λ e. absurd cc)
    by false h = (λ e. absurd cc, λ e. absurd cc)

-- ---- what a table answers

module _ (xs : List m.Module) (table : FunctionTable) (entries : table.functions.entries ≡ numbered 0 (functions_of xs)) (once : Distinct (map function_key (functions_of xs)))
    (modules : (h : Atom) → list_any (same_atom h) table.modules.keys ≡ list_any (same_atom h) (names xs)) where
  found : (k : FunctionKey) (e : FunctionEntry) → entry_at table k ≡ Some e → Finds 0 (functions_of xs) k e
  found k e h = look_up_finds 0 (functions_of xs) k e (ap (lookup (same_key k)) (sym entries) ∙ h)

  place : (k : FunctionKey) (e : FunctionEntry) (r : Finds 0 (functions_of xs) k e) (j : ℕ) → e.number ≡ j → slice_get (functions_of xs) j ≡ Some r.function
  place k e r j is = subst (λ i. slice_get (functions_of xs) i ≡ Some r.function) is (at_zero (functions_of xs) e.number r.function r.place)

  there : (j : ℕ) (g : ModuleFunction) → slice_get (functions_of xs) j ≡ Some g → entry_at table (function_key g) ≡ Some (entry_of j g)
  there j g h = ap (lookup (same_key (function_key g))) entries ∙ found_by_key 0 (functions_of xs) j g once (at_from 0 (functions_of xs) j j g (omega arith) h)

  own_is : (home : Atom) (f : FunName) (j : ℕ) → own_number table home f ≡ Some j → (g : ModuleFunction) × (slice_get (functions_of xs) j ≡ Some g) × (g.home ≡ home) × (g.name ≡ f)
  own_is home f j h = by (entry_at table (key_of home f)) refl h
    where
      by : (o : Option FunctionEntry) → entry_at table (key_of home f) ≡ o → number_in o ≡ Some j → (g : ModuleFunction) × (slice_get (functions_of xs) j ≡ Some g) × (g.home ≡ home) × (g.name ≡ f)
      by None is h = absurd cc
      by (Some e) is h =
          let r = found (key_of home f) e is in
          let n = named home f r.function r.key in
          (r.function, place (key_of home f) e r j cc, n.0, n.1)

  own_of : (home : Atom) (f : FunName) (j : ℕ) → (g : ModuleFunction) × (slice_get (functions_of xs) j ≡ Some g) × (g.home ≡ home) × (g.name ≡ f) → own_number table home f ≡ Some j
  own_of home f j h = ap (λ k. number_in (entry_at table k)) (sym (key_named home f h.0 h.2 h.3)) ∙ ap number_in (there j h.0 h.1)

  reaches_is : (home : Atom) (f : FunName) (j : ℕ) → resolved table home f ≡ Function j → (g : ModuleFunction) × (slice_get (functions_of xs) j ≡ Some g) × IsReached home f g
  reaches_is home f j h = by (same_atom home erlang) refl (list_any (same_atom home) table.modules.keys) (entry_at table (key_of home f)) refl h
    where
      by : (a : Bool) → same_atom home erlang ≡ a → (b : Bool) (o : Option FunctionEntry) → entry_at table (key_of home f) ≡ o → (if a then BuiltIn else if b then reached o else NotPassed) ≡ Function j
          → (g : ModuleFunction) × (slice_get (functions_of xs) j ≡ Some g) × IsReached home f g
      by true a b o is h = absurd cc
      by false a false o is h = absurd cc
      by false a true None is h = absurd cc
      by false a true (Some e) is h =
          let r = found (key_of home f) e is in
          let n = named home f r.function r.key in
          let both = exported_number e j h in
          let exported : has_function r.function.exports r.function.name ≡ true = sym (ap (λ x. x.exported) r.entry) ∙ both.0 in
          (r.function, place (key_of home f) e r j both.1, (n.0, other_atom home erlang a, subst (Contains r.function.exports) n.1 (contained_has r.function.exports r.function.name exported), n.1))

  reaches_of : (home : Atom) (f : FunName) (j : ℕ) → (g : ModuleFunction) × (slice_get (functions_of xs) j ≡ Some g) × IsReached home f g → resolved table home f ≡ Function j
  reaches_of home f j h =
      let g : ModuleFunction = h.0 in
      let r = h.2 in
      let here : entry_at table (key_of home f) ≡ Some (entry_of j g) = ap (entry_at table) (sym (key_named home f g r.0 r.3)) ∙ there j g h.1 in
      let listed : list_any (same_atom home) table.modules.keys ≡ true = modules home ∙ any_contained (names xs) home (subst (Contains (names xs)) r.0 (home_of xs g (contains_at (functions_of xs) j g h.1))) in
      let exported : has_function g.exports g.name ≡ true = has_contained g.exports g.name (subst (Contains g.exports) (sym r.3) r.2) in
      ap (λ a. if a then BuiltIn else if list_any (same_atom home) table.modules.keys then reached (entry_at table (key_of home f)) else NotPassed) (not_same home erlang r.1)
      ∙ ap (λ b. if b then reached (entry_at table (key_of home f)) else NotPassed) listed ∙ ap reached here ∙ ap (λ b. if b then Function j else NotExported) exported

  -- what a module's name answers: `erlang` or not, and whether it is among the modules
  abbrev answer : Bool → Bool → Option FunctionEntry → Resolved
  answer a b o = if a then BuiltIn else if b then reached o else NotPassed

  built_in_is : (home : Atom) (f : FunName) → resolved table home f ≡ BuiltIn → home ≡ erlang
  built_in_is home f h = by (same_atom home erlang) refl (list_any (same_atom home) table.modules.keys) h
    where
      by : (a : Bool) → same_atom home erlang ≡ a → (b : Bool) → answer a b (entry_at table (key_of home f)) ≡ BuiltIn → home ≡ erlang
      by true a b h = (bytes_decides home erlang).0 a
      by false a true h = absurd ((handed_in BuiltIn (entry_at table (key_of home f)) h).1 refl)
      by false a false h = absurd cc

  built_in_of : (home : Atom) (f : FunName) → home ≡ erlang → resolved table home f ≡ BuiltIn
  built_in_of home f e = ap (λ a. answer a (list_any (same_atom home) table.modules.keys) (entry_at table (key_of home f))) ((bytes_decides home erlang).1 e)

  elsewhere_is : (home : Atom) (f : FunName) → resolved table home f ≡ NotPassed → (home ≡ erlang → ⊥) × (Contains (names xs) home → ⊥)
  elsewhere_is home f h = by (same_atom home erlang) refl (list_any (same_atom home) table.modules.keys) refl h
    where
      by : (a : Bool) → same_atom home erlang ≡ a → (b : Bool) → list_any (same_atom home) table.modules.keys ≡ b → answer a b (entry_at table (key_of home f)) ≡ NotPassed
          → (home ≡ erlang → ⊥) × (Contains (names xs) home → ⊥)
      by true a b l h = absurd cc
      by false a true l h = absurd ((handed_in NotPassed (entry_at table (key_of home f)) h).0 refl)
      by false a false l h = (other_atom home erlang a, λ c. absurd (let t : list_any (same_atom home) table.modules.keys ≡ true = modules home ∙ any_contained (names xs) home c in cc))

  elsewhere_of : (home : Atom) (f : FunName) → (home ≡ erlang → ⊥) × (Contains (names xs) home → ⊥) → resolved table home f ≡ NotPassed
  elsewhere_of home f d =
      ap (λ a. answer a (list_any (same_atom home) table.modules.keys) (entry_at table (key_of home f))) (not_same home erlang d.0) ∙ by (list_any (same_atom home) table.modules.keys) refl
    where
      by : (b : Bool) → list_any (same_atom home) table.modules.keys ≡ b → answer false b (entry_at table (key_of home f)) ≡ NotPassed
      by true l = absurd (d.1 (contained_any (names xs) home (sym (modules home) ∙ l)))
      by false l = refl

  pub table_answers : table.count ≡ length (functions_of xs) → IsTableOf xs table
  table_answers count = record {
    count = count;
    own = λ home f j. (own_is home f j, own_of home f j);
    reaches = λ home f j. (reaches_is home f j, reaches_of home f j);
    built_in = λ home f. (built_in_is home f, built_in_of home f);
    elsewhere = λ home f. (elsewhere_is home f, elsewhere_of home f);
  }
