-- The calls that go to none of a module's functions, without those into the module itself, are the calls that leave it.
use Rattle.std.proofs.Common.{◌≡◌, ◌&&◌, ◌||◌, not, Bool, true, false, if◌then◌else◌, List, [], ◌∷◌, ◌++◌, filter, map, refl, sym, ap, ◌∙◌, arith}
use Rattle.std.specs.List.{list_any, flat_map}
use Rattle.std.specs.Prelude.{Result, Ok, Err, IfOk}
use Rattle.std.proofs.lemmas.List.{append-nil, append_assoc}
use Rattle.std.proofs.lemmas.List.Elements.{filter-append}
use Rattle.type_kinds_sets.specs.Ascending.{merged}
use Rattle.type_kinds.specs.declared.atom.Atom.{Atom}
use Rattle.core_ast.specs.declared.syntax.FunName.{FunName}
use Rattle.core_ast.specs.Model as m
use Rattle.core_scope.specs.Asks.{erlang}
use Rattle.core_scope.specs.Names.{same_atom, same_function, has_function}
use Rattle.call_graph.specs.Calls.{functions_in, functions_of, module_functions}
use Rattle.call_graph.specs.Outside.{Called, is_exported_as, outside_call, outside_calls, outside_of}
use Rattle.call_graph.specs.Targets.{CallTarget, targets, def_targets}
use Rattle.call_graph.specs.Targets.CallTarget.{defined, inner, remote}
use Rattle.table_keep.specs.Calls.{leaving, all_leaving, called_cmp, called_functions}

-- those into other modules
abbrev pub others : (own : Atom) → List Called → List Called
others own cs = filter (λ c. not (same_atom c.0 own)) cs

all_leaving_append : (own : Atom) (ts us : List CallTarget) → all_leaving own (ts ++ us) ≡ all_leaving own ts ++ all_leaving own us
all_leaving_append own [] us = refl
all_leaving_append own (t ∷ ts) us = ap (λ cs. leaving own t ++ cs) (all_leaving_append own ts us) ∙ sym (append_assoc (leaving own t) (all_leaving own ts) (all_leaving own us))

-- ---- one module

module _ (own : Atom) (home : Atom) (name : FunName) (other : same_atom home own ≡ false) where
  none_in : (es : List FunName) (ds : m.Defs) → list_any (is_exported_as home name) (functions_in own es ds) ≡ false
  none_in es m.no_def = refl
  none_in es (m.and_def f i xs t ds) =
      let here : is_exported_as home name (record { home = own; exports = es; name = f; mark = i; params = xs; body = t }) ≡ false =
      ap (λ b. b && same_function name f && has_function es name) other in
      ap (λ b. b || list_any (is_exported_as home name) (functions_in own es ds)) here ∙ none_in es ds

module _ (x : m.Module) where
  none_of : (home : Atom) (name : FunName) → same_atom home x.name ≡ false → list_any (is_exported_as home name) (functions_of (x ∷ [])) ≡ false
  none_of home name other = ap (list_any (is_exported_as home name)) (append-nil (module_functions x)) ∙ none_in x.name home name other x.exports x.defs

  one_leaving : (t : CallTarget) → others x.name (outside_call (functions_of (x ∷ [])) t) ≡ leaving x.name t
  one_leaving (defined f n) = refl
  one_leaving (inner f n) = refl
  one_leaving (remote home name) = by (same_atom home erlang) (same_atom home x.name) refl (list_any (is_exported_as home name) (functions_of (x ∷ []))) (none_of home name)
    where
      by : (b own : Bool) → same_atom home x.name ≡ own → (c : Bool) → (same_atom home x.name ≡ false → c ≡ false)
          → others x.name (if b || c then [] else (home, name) ∷ []) ≡ (if b || own then [] else (home, name) ∷ [])
      by true own e c f = refl
      by false true e true f = refl
      by false true e false f = grind (arith, e)
      by false false e true f = let n = f e in absurd cc
      by false false e false f = grind (arith, e)

  body_leaving : (ts : List CallTarget) → others x.name (outside_calls (functions_of (x ∷ [])) ts) ≡ all_leaving x.name ts
  body_leaving [] = refl
  body_leaving (t ∷ ts) =
      filter-append (λ c. not (same_atom c.0 x.name)) (outside_call (functions_of (x ∷ [])) t) (outside_calls (functions_of (x ∷ [])) ts)
      ∙ (λ i. one_leaving t i ++ body_leaving ts i)

  defs_leaving : (es : List FunName) (ds : m.Defs) → flat_map (others x.name) (map (outside_of (x ∷ [])) (functions_in x.name es ds)) ≡ all_leaving x.name (def_targets [] ds)
  defs_leaving es m.no_def = refl
  defs_leaving es (m.and_def f i xs t ds) = (λ k. body_leaving (targets [] t) k ++ defs_leaving es ds k) ∙ sym (all_leaving_append x.name (targets [] t) (def_targets [] ds))

  pub module_leaving : flat_map (others x.name) (map (outside_of (x ∷ [])) (functions_of (x ∷ []))) ≡ all_leaving x.name (def_targets [] x.defs)
  module_leaving = ap (λ fs. flat_map (others x.name) (map (outside_of (x ∷ [])) fs)) (append-nil (module_functions x)) ∙ defs_leaving x.exports x.defs

-- What was found of the module's functions, left out what goes into the module, and merged.
called_are : (x : m.Module) (outside : List (List Called)) (ls r : List Called) → outside ≡ map (outside_of (x ∷ [])) (functions_of (x ∷ []))
    → ls ≡ flat_map (others x.name) outside → r ≡ merged called_cmp [] ls → r ≡ called_functions x
unfolding called_functions
called_are x outside ls r found made is = is ∙ ap (merged called_cmp []) (made ∙ ap (flat_map (others x.name)) found ∙ module_leaving x)

pub called_from : {E : Type 0} (x : m.Module) (outside : List (List Called)) (ls : List Called) (r : Result (List Called) E) → outside ≡ map (outside_of (x ∷ [])) (functions_of (x ∷ []))
    → ls ≡ flat_map (others x.name) outside → IfOk r (λ list. list ≡ merged called_cmp [] ls) → IfOk r (λ calls. calls ≡ called_functions x)
called_from x outside ls (Ok list) found made h = called_are x outside ls list found made h
called_from x outside ls (Err e) found made h = tt
