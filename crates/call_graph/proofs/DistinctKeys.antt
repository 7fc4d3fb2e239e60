-- Accepted modules with distinct names have no two functions of one key.
use Rattle.std.proofs.Common.{◌≡◌, ℕ, suc, ◌<◌, inl, inr, List, [], ◌∷◌, ◌++◌, Contains, length, map, refl, sym, ap, subst, arith}
use Rattle.std.proofs.lemmas.List.Elements.{Contains-append_cases}
use Rattle.std.proofs.lemmas.List.{map-append}
use Rattle.core_scope.proofs.NameLaws.{none_earlier}
use Rattle.type_kinds.proofs.Lists.{contains_none, contains_first, contains_later, contains_cases}
use Rattle.type_kinds.specs.declared.atom.Atom.{Atom}
use Rattle.core_ast.specs.declared.syntax.FunName.{FunName}
use Rattle.core_ast.specs.Model as m
use Rattle.core_scope.specs.declared.checked.Checked.{Checked}
use Rattle.core_scope.specs.Checked.{module_of, tree_of, is_accepted}
use Rattle.core_scope.specs.Names.{Distinct, defined_names}
use Rattle.core_scope.specs.Sets.{StandsEarlier}
use Rattle.core_scope.proofs.Unbroken.{module_defined_once}
use Rattle.call_graph.specs.declared.keys.FunctionKey.{FunctionKey}
use Rattle.call_graph.specs.Calls.{functions_in, module_functions, functions_of}
use Rattle.call_graph.specs.Tables.{key_of}
use Rattle.call_graph.specs.steps.Building.{function_key}

-- ---- keys

distinct_append : {X : Type 0} (xs ys : List X) → Distinct xs → Distinct ys → ((x : X) → Contains xs x → Contains ys x → ⊥) → Distinct (xs ++ ys)
distinct_append [] ys d e apart = e
distinct_append (x ∷ xs) ys d e apart = (
  λ c. elim (Contains-append_cases xs ys x c) [
    | inl h ↦ d.0 h
    | inr h ↦ apart x (contains_first x xs) h
  ],
  distinct_append xs ys d.1 e (λ y h k. apart y (contains_later x y xs h) k),
)

-- A key among those of a module has its name, and the rest is a name that is defined.
key_in : (home : Atom) (exports : List FunName) (ds : m.Defs) (q : FunctionKey) → Contains (map function_key (functions_in home exports ds)) q → (f : FunName) × Contains (defined_names ds) f × (key_of home f ≡ q)
key_in home exports m.no_def q h = absurd (contains_none q h)
key_in home exports (m.and_def f i xs t ds) q h = elim (contains_cases (key_of home f) q (map function_key (functions_in home exports ds)) h) [
  | inl e ↦ (f, contains_first f (defined_names ds), e)
  | inr c ↦ (let r = key_in home exports ds q c in (r.0, contains_later f r.0 (defined_names ds) r.1, r.2))
]

same_name : (home : Atom) (f g : FunName) → key_of home f ≡ key_of home g → f ≡ g
same_name home f g e = λ i. record { name = (e i).name; arity = (e i).arity }

distinct_in : (home : Atom) (exports : List FunName) (ds : m.Defs) → Distinct (defined_names ds) → Distinct (map function_key (functions_in home exports ds))
distinct_in home exports m.no_def d = tt
distinct_in home exports (m.and_def f i xs t ds) d = (
  λ c. (let r = key_in home exports ds (key_of home f) c in d.0 (subst (Contains (defined_names ds)) (same_name home r.0 f r.2) r.1)),
  distinct_in home exports ds d.1,
)

abbrev pub names : List m.Module → List Atom
names xs = map (λ x. x.name) xs

-- The home of a key of modules is the name of one.
home_of_key : (xs : List m.Module) (q : FunctionKey) → Contains (map function_key (functions_of xs)) q → Contains (names xs) q.home
home_of_key [] q h = absurd (contains_none q h)
home_of_key (x ∷ xs) q h =
    elim (Contains-append_cases (map function_key (module_functions x)) (map function_key (functions_of xs)) q (subst (λ l. Contains l q) (map-append function_key (module_functions x) (functions_of xs)) h)) [
      | inl c ↦ (let r = key_in x.name x.exports x.defs q c in subst (Contains (x.name ∷ names xs)) (ap (λ k. k.home) r.2) (contains_first x.name (names xs)))
      | inr c ↦ contains_later x.name q.home (names xs) (home_of_key xs q c)
    ]

-- Each module defines each of its names once.
abbrev pub DefineOnce : List m.Module → Type 0
DefineOnce [] = Unit {0}
DefineOnce (x ∷ xs) = Distinct (defined_names x.defs) × DefineOnce xs

pub distinct_keys : (xs : List m.Module) → Distinct (names xs) → DefineOnce xs → Distinct (map function_key (functions_of xs))
distinct_keys [] d once = tt
distinct_keys (x ∷ xs) d once =
    subst Distinct (sym (map-append function_key (module_functions x) (functions_of xs)))
    (distinct_append (map function_key (module_functions x)) (map function_key (functions_of xs)) (distinct_in x.name x.exports x.defs once.0) (distinct_keys xs d.1 once.1) (λ q here there.
    let r = key_in x.name x.exports x.defs q here in
    d.0 (subst (Contains (names xs)) (sym (ap (λ k. k.home) r.2)) (home_of_key xs q there))))

-- ---- accepted modules

module _ {S : Type 0} (stands_for : S → Checked) where
  abbrev pub modules : List S → List m.Module
  modules sources = map (λ s. tree_of (stands_for s)) sources

  pub accepted_once : (sources : List S) → DefineOnce (modules sources)
  accepted_once [] = tt
  accepted_once (s ∷ sources) = (module_defined_once (tree_of (stands_for s)) (is_accepted (stands_for s)).sound, accepted_once sources)

  pub names_of_modules : (sources : List S) → names (modules sources) ≡ map (λ s. (module_of (stands_for s)).name) sources
  names_of_modules [] = refl
  names_of_modules (s ∷ sources) = ap (λ l. (module_of (stands_for s)).name ∷ l) (names_of_modules sources)

  pub keys_stand_once : (sources : List S) → ((j : ℕ) → j < length sources → StandsEarlier (map (λ s. (module_of (stands_for s)).name) sources) j → ⊥) → Distinct (map function_key (functions_of (modules sources)))
  keys_stand_once sources h = distinct_keys (modules sources) (subst Distinct (sym (names_of_modules sources)) (none_earlier _ (λ j within. h j (omega (arith, within, mapped_length sources))))) (accepted_once sources)
    where
      mapped_length : (ss : List S) → length (map (λ s. (module_of (stands_for s)).name) ss) ≡ length ss
      mapped_length [] = refl
      mapped_length (s ∷ ss) = ap suc (mapped_length ss)
