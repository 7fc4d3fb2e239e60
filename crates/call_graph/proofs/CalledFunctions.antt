-- The numbers that the walks find are the pairs of the graph.
use Rattle.std.proofs.Common.{◌≡◌, ◌↔◌, ℕ, ◌+◌, ◌<◌, ◌⊎◌, inl, inr, List, [], ◌∷◌, ◌++◌, Option, Some, None, Contains, length, slice_get, false, refl, sym, ap, subst, arith}
use Rattle.std.proofs.lemmas.List.Elements.{Contains-append_left, Contains-append_right, Contains-append_cases}
use Rattle.std.proofs.lemmas.Option.{slice_get_within}
use Rattle.type_kinds.proofs.Lists.{contains_none, contains_first, contains_cases}
use Rattle.type_kinds.specs.declared.atom.Atom.{Atom}
use Rattle.core_ast.specs.declared.syntax.Mark.{Mark}
use Rattle.core_ast.specs.Model as m
use Rattle.call_graph.specs.declared.table.FunctionTable.{FunctionTable}
use Rattle.call_graph.specs.declared.table.Resolved.{Resolved}
use Rattle.call_graph.specs.declared.table.Resolved.TheVariants.{BuiltIn, NotPassed, NotExported, Function}
use Rattle.call_graph.specs.Targets.{CallTarget, targets}
use Rattle.call_graph.specs.Targets.CallTarget.{defined, inner, remote}
use Rattle.call_graph.specs.Calls.{ModuleFunction, functions_of, GoesTo, Calls}
use Rattle.call_graph.specs.Tables.{own_number, resolved, IsTableOf}
use Rattle.call_graph.specs.steps.Walking.{reached_number, listed, callee, callees, callees_in, PairsFrom}
use Rattle.call_graph.proofs.Lookups.{At, at_from, at_zero}

-- ---- the functions that targets are

-- A function among the callees is what some target is.
pub record Among (table : FunctionTable) (home : Atom) (ts : List CallTarget) (j : ℕ) : Type 0 where
  pub target : CallTarget
  pub stands : Contains ts target
  pub called : Contains (callee table home target) j

among_later : (table : FunctionTable) (home : Atom) (t : CallTarget) (ts : List CallTarget) (j : ℕ) → Among table home ts j → Among table home (t ∷ ts) j
among_later table home t ts j a = record { target = a.target; stands = Contains-append_right (t ∷ []) ts a.target a.stands; called = a.called }

pub callees_among : (table : FunctionTable) (home : Atom) (ts : List CallTarget) (j : ℕ) → Contains (callees table home ts) j → Among table home ts j
callees_among table home [] j h = absurd (contains_none j h)
callees_among table home (t ∷ ts) j h = elim (Contains-append_cases (callee table home t) (callees table home ts) j h) [
  | inl c ↦ record { target = t; stands = contains_first t ts; called = c }
  | inr c ↦ among_later table home t ts j (callees_among table home ts j c)
]

pub among_callees : (table : FunctionTable) (home : Atom) (ts : List CallTarget) (j : ℕ) (t : CallTarget) → Contains ts t → Contains (callee table home t) j → Contains (callees table home ts) j
among_callees table home [] j t h c = absurd (contains_none t h)
among_callees table home (s ∷ ts) j t h c = elim (contains_cases s t ts h) [
  | inl e ↦ Contains-append_left (callee table home s) (callees table home ts) j (subst (λ u. Contains (callee table home u) j) (sym e) c)
  | inr d ↦ Contains-append_right (callee table home s) (callees table home ts) j (among_callees table home ts j t d c)
]

-- ---- one target

pub listed_is : (o : Option ℕ) (j : ℕ) → Contains (listed o) j → o ≡ Some j
listed_is None j h = absurd (contains_none j h)
listed_is (Some k) j h = elim (contains_cases k j [] h) [
  | inl e ↦ ap Some e
  | inr c ↦ absurd (contains_none j c)
]

pub reached_is : (r : Resolved) (j : ℕ) → Contains (reached_number r) j → r ≡ Function j
reached_is BuiltIn j h = absurd (contains_none j h)
reached_is NotPassed j h = absurd (contains_none j h)
reached_is NotExported j h = absurd (contains_none j h)
reached_is (Function k) j h = elim (contains_cases k j [] h) [
  | inl e ↦ ap Function e
  | inr c ↦ absurd (contains_none j c)
]

module _ (xs : List m.Module) (table : FunctionTable) (is : IsTableOf xs table) where
  pub callee_goes : (f : ModuleFunction) (t : CallTarget) (j : ℕ) → Contains (callee table f.home t) j → (g : ModuleFunction) × (slice_get (functions_of xs) j ≡ Some g) × GoesTo f t g
  callee_goes f (defined name n) j h = let r = (is.own f.home name j).0 (listed_is (own_number table f.home name) j h) in (r.0, r.1, (r.2, r.3))
  callee_goes f (inner name n) j h = absurd (contains_none j h)
  callee_goes f (remote home name) j h = (is.reaches home name j).0 (reached_is (resolved table home name) j h)

  goes_callee : (f : ModuleFunction) (t : CallTarget) (j : ℕ) (g : ModuleFunction) → slice_get (functions_of xs) j ≡ Some g → GoesTo f t g → Contains (callee table f.home t) j
  goes_callee f (defined name n) j g here goes = subst (λ o. Contains (listed o) j) (sym ((is.own f.home name j).1 (g, here, goes.0, goes.1))) (contains_first j [])
  goes_callee f (inner name n) j g here goes = absurd goes
  goes_callee f (remote home name) j g here goes = subst (λ r. Contains (reached_number r) j) (sym ((is.reaches home name j).1 (g, here, goes))) (contains_first j [])

  -- All numbers are those of functions.
  pub callees_within : (home : Atom) (ts : List CallTarget) (j : ℕ) → Contains (callees table home ts) j → j < length (functions_of xs)
  callees_within home ts j h =
      let a = callees_among table home ts j h in
      let f : ModuleFunction = record { home = home; exports = []; name = record { name = []; arity = 0 }; mark = mark; params = []; body = m.values mark m.no_tree } in
      let r = callee_goes f a.target j a.called in
      slice_get_within (functions_of xs) j r.0 r.1
    where
      mark : Mark
      mark = record { label = 0; place = record { byte = 0; line = 0 }; note = record { line = None; generated = false } }

  -- ---- all functions

  pairs_at : (n : ℕ) (fs : List ModuleFunction) (i j : ℕ) → PairsFrom table n fs i j → (f : ModuleFunction) × At n fs i f × Contains (callees_in table f) j
  pairs_at n [] i j h = absurd h
  pairs_at n (f ∷ fs) i j (inl h) = (f, inl (h.0, refl), h.1)
  pairs_at n (f ∷ fs) i j (inr h) = let r = pairs_at (n + 1) fs i j h in (r.0, inr r.1, r.2)

  at_pairs : (n : ℕ) (fs : List ModuleFunction) (i j : ℕ) (f : ModuleFunction) → At n fs i f → Contains (callees_in table f) j → PairsFrom table n fs i j
  at_pairs n [] i j f h c = absurd h
  at_pairs n (g ∷ fs) i j f (inl h) c = inl (h.0, subst (λ x. Contains (callees_in table x) j) (sym h.1) c)
  at_pairs n (g ∷ fs) i j f (inr h) c = inr (at_pairs (n + 1) fs i j f h c)

  pub pairs_are_calls : (i j : ℕ) → PairsFrom table 0 (functions_of xs) i j ↔ Calls xs i j
  pairs_are_calls i j = (there, back)
    where
      there : PairsFrom table 0 (functions_of xs) i j → Calls xs i j
      there h =
          let r = pairs_at 0 (functions_of xs) i j h in
          let a = callees_among table r.0.home (targets [] r.0.body) j r.2 in
          let g = callee_goes r.0 a.target j a.called in
          record { caller = r.0; callee = g.0; target = a.target; calling = at_zero (functions_of xs) i r.0 r.1; called = g.1; stands = a.stands; goes = g.2 }

      back : Calls xs i j → PairsFrom table 0 (functions_of xs) i j
      back c = at_pairs 0 (functions_of xs) i j c.caller (at_from 0 (functions_of xs) i i c.caller (omega arith) c.calling)
          (among_callees table c.caller.home (targets [] c.caller.body) j c.target c.stands (goes_callee c.caller c.target j c.callee c.called c.goes))

-- Pairs of functions one after another.
pub pairs_split : (table : FunctionTable) (n : ℕ) (fs gs : List ModuleFunction) (i j : ℕ) → PairsFrom table n (fs ++ gs) i j → PairsFrom table n fs i j ⊎ PairsFrom table (n + length fs) gs i j
pairs_split table n [] gs i j h = inr (subst (λ k. PairsFrom table k gs i j) (omega arith) h)
pairs_split table n (f ∷ fs) gs i j (inl h) = inl (inl h)
pairs_split table n (f ∷ fs) gs i j (inr h) = elim (pairs_split table (n + 1) fs gs i j h) [
  | inl a ↦ inl (inr a)
  | inr b ↦ inr (subst (λ k. PairsFrom table k gs i j) (omega arith) b)
]

pub pairs_joined : (table : FunctionTable) (n : ℕ) (fs gs : List ModuleFunction) (i j : ℕ) → PairsFrom table n fs i j ⊎ PairsFrom table (n + length fs) gs i j → PairsFrom table n (fs ++ gs) i j
pairs_joined table n [] gs i j (inl h) = absurd h
pairs_joined table n [] gs i j (inr h) = subst (λ k. PairsFrom table k gs i j) (omega arith) h
pairs_joined table n (f ∷ fs) gs i j (inl (inl h)) = inl h
pairs_joined table n (f ∷ fs) gs i j (inl (inr h)) = inr (pairs_joined table (n + 1) fs gs i j (inl h))
pairs_joined table n (f ∷ fs) gs i j (inr h) = inr (pairs_joined table (n + 1) fs gs i j (inr (subst (λ k. PairsFrom table k gs i j) (omega arith) h)))
