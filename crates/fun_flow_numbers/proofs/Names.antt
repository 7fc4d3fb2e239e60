-- Names of modules by their positions: which values of the code stand for one place or item.
use Rattle.std.proofs.Common.{◌≡◌, ℕ, zero, suc, ◌+◌, ◌<◌, ◌≤◌, List, [], ◌∷◌, length, Some, None, Contains, slice_get, refl, sym, ap, ◌∙◌, subst, if◌then◌else◌, arith}
use Rattle.std.proofs.lemmas.List.{length-replicate}
use Rattle.std.proofs.lemmas.Option.{slice_get-map}
use Rattle.std.specs.Option.{option_map}
use Rattle.type_kinds.proofs.Lists.{contains_first, contains_later}
use Rattle.type_kinds.specs.declared.atom.Atom.{Atom}
use Rattle.core_ast.specs.Model as m
use Rattle.core_meaning.specs.Programs.{Program, module_named}
use Rattle.core_scope.specs.Names.{Distinct}
use Rattle.core_scope.proofs.NameLaws.{not_same}
use Rattle.fun_flow_places.proofs.TableLaws.{module_at, name_of_is}
use Rattle.fun_flow_places.specs.Naming.{bytes_of, module_names, name_at, name_of, place_named}
use Rattle.fun_flow_places.specs.declared.places.FlowPlace.{FlowPlace}
use Rattle.fun_flow_places.specs.declared.places.FlowPlace.TheVariants.{Nowhere, Anywhere, Part, Parameter, Returned}

-- ---- modules

-- past the end the name is longer than n bytes
longer : (n : ℕ) (xs : List Atom) (h : ℕ) → slice_get xs h ≡ None → n < length (name_at n xs h)
longer n [] h e = subst (λ k. n < k) (sym (length-replicate (suc (n + h)) 0)) (let e : n < suc (n + h) = omega arith in e)
longer n (x ∷ xs) zero e = absurd cc
longer n (x ∷ xs) (suc h) e = longer n xs h e

none_named : (U : Program) (x : Atom) → bytes_of (module_names U) < length x → module_named U x ≡ None
none_named [] x long = refl
none_named (p ∷ U) x long =
    let total : length p.name + bytes_of (module_names U) < length x = long in
    ap (λ b. if b then Some p else module_named U x) (not_same p.name x (λ is. let l : length p.name ≡ length x = ap length is in omega arith)) ∙ none_named U x (omega arith)

none_at : (U : Program) (h : ℕ) → slice_get U h ≡ None → slice_get (module_names U) h ≡ None
none_at U h e = slice_get-map (λ (p : m.Module). p.name) U h ∙ ap (option_map (λ (p : m.Module). p.name)) e

pub name_past : (U : Program) (h : ℕ) → slice_get U h ≡ None → module_named U (name_of U h) ≡ None
name_past U h e = none_named U (name_of U h) (longer (bytes_of (module_names U)) (module_names U) h (none_at U h e))

pub name_there : (U : Program) (h : ℕ) (x : m.Module) → Distinct (module_names U) → slice_get U h ≡ Some x → (name_of U h ≡ x.name) × (module_named U (name_of U h) ≡ Some x)
name_there U h x apart e =
    let named : name_of U h ≡ x.name = name_of_is U h x.name (slice_get-map (λ (p : m.Module). p.name) U h ∙ ap (option_map (λ (p : m.Module). p.name)) e) in
    (named, ap (module_named U) named ∙ module_at U h x apart e)

-- a name that is short and isn't among some is at no position
no_position : (n : ℕ) (x : Atom) (xs : List Atom) (h : ℕ) → (Contains xs x → ⊥) → length x ≤ n → x ≡ name_at n xs h → ⊥
no_position n x [] h none short e = let l : length x ≡ suc (n + h) = ap length e ∙ length-replicate (suc (n + h)) 0 in absurd (omega arith)
no_position n x (y ∷ xs) zero none short e = none (subst (Contains (y ∷ xs)) (sym e) (contains_first y xs))
no_position n x (y ∷ xs) (suc h) none short e = no_position n x xs h (λ c. none (contains_later y x xs c)) short e

one_at : (n : ℕ) (xs : List Atom) → Distinct xs → bytes_of xs ≤ n → (h k : ℕ) → name_at n xs h ≡ name_at n xs k → h ≡ k
one_at n [] apart short h k e =
    let l : suc (n + h) ≡ suc (n + k) = sym (length-replicate (suc (n + h)) 0) ∙ ap length e ∙ length-replicate (suc (n + k)) 0 in
    omega arith
one_at n (x ∷ xs) apart short zero zero e = refl
one_at n (x ∷ xs) apart short zero (suc k) e = let total : length x + bytes_of xs ≤ n = short in absurd (no_position n x xs k apart.0 (omega arith) e)
one_at n (x ∷ xs) apart short (suc h) zero e = let total : length x + bytes_of xs ≤ n = short in absurd (no_position n x xs h apart.0 (omega arith) (sym e))
one_at n (x ∷ xs) apart short (suc h) (suc k) e = let total : length x + bytes_of xs ≤ n = short in ap suc (one_at n xs apart.1 (omega arith) h k e)

pub one_position : (U : Program) (h k : ℕ) → Distinct (module_names U) → name_of U h ≡ name_of U k → h ≡ k
one_position U h k apart e = one_at (bytes_of (module_names U)) (module_names U) apart (omega arith) h k e

-- ---- places and items

module _ (U : Program) (apart : Distinct (module_names U)) where
  pub same_place : (p q : FlowPlace) → place_named U p ≡ place_named U q → p ≡ q
  same_place Nowhere Nowhere e = refl
  same_place Nowhere Anywhere e = absurd cc
  same_place Nowhere (Part h l i) e = absurd cc
  same_place Nowhere (Parameter h l i) e = absurd cc
  same_place Nowhere (Returned h l) e = absurd cc
  same_place Anywhere Nowhere e = absurd cc
  same_place Anywhere Anywhere e = refl
  same_place Anywhere (Part h l i) e = absurd cc
  same_place Anywhere (Parameter h l i) e = absurd cc
  same_place Anywhere (Returned h l) e = absurd cc
  same_place (Part h l i) Nowhere e = absurd cc
  same_place (Part h l i) Anywhere e = absurd cc
  same_place (Part h l i) (Part g k j) e = let at : h ≡ g = one_position U h g apart cc in cc
  same_place (Part h l i) (Parameter g k j) e = absurd cc
  same_place (Part h l i) (Returned g k) e = absurd cc
  same_place (Parameter h l i) Nowhere e = absurd cc
  same_place (Parameter h l i) Anywhere e = absurd cc
  same_place (Parameter h l i) (Part g k j) e = absurd cc
  same_place (Parameter h l i) (Parameter g k j) e = let at : h ≡ g = one_position U h g apart cc in cc
  same_place (Parameter h l i) (Returned g k) e = absurd cc
  same_place (Returned h l) Nowhere e = absurd cc
  same_place (Returned h l) Anywhere e = absurd cc
  same_place (Returned h l) (Part g k j) e = absurd cc
  same_place (Returned h l) (Parameter g k j) e = absurd cc
  same_place (Returned h l) (Returned g k) e = let at : h ≡ g = one_position U h g apart cc in cc
