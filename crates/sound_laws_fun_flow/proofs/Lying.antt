-- Values that lie in the sets of places: where they flow, and what is made of them.
use Rattle.std.proofs.Common.{◌≡◌, ◌⊎◌, ℕ, zero, suc, ◌+◌, List, [], ◌∷◌, inl, inr, arith}
use Rattle.type_kinds.specs.declared.atom.Atom.{Atom}
use Rattle.type_lattice_model.specs.Values.{Value, Values, no_value, and_value, ValuePairs, count}
use Rattle.core_meaning.specs.Meaning.{IsMadeOf}
use Rattle.core_meaning.specs.Programs.{Program}
use Rattle.core_meaning_values.specs.Functions.{PairsHoldFunction, HoldFunction}
use Rattle.core_meaning_values.proofs.Held.{made_held}
use Rattle.fun_flow_sets.specs.Items.{Item, anything, Place, anywhere, Rule, flows, item_of}
use Rattle.fun_flow_sets.specs.Rules.{parts, all_into, into_parts, into_parameters, opens}
use Rattle.fun_flow_sets.specs.Scopes.{rest, fit, parameters}
use Rattle.fun_flow_sets.specs.Sets.{May, may_any, may_hold, may_flow}
use Rattle.sound_laws_fun_flow.specs.steps.Inside.{MayHave, IsIn, AreIn, PairsIn, LieIn, LieInEach, AreArguments, AreRules}

module _ (U : Program) (R : Rule → Type 0) where
  pub in_any : (p : Place) (v : Value) → May U R p anything → IsIn U R p v
  in_any p v a = λ c i. inl a

  pub in_world : (v : Value) → IsIn U R anywhere v
  in_world v = in_any anywhere v may_any

  -- what is in one set is in a larger one
  pub have_more : (p q : Place) (x : Item) → ((y : Item) → May U R p y → May U R q y) → MayHave U R p x → MayHave U R q x
  have_more p q x f (inl a) = inl (f anything a)
  have_more p q x f (inr i) = inr (f x i)

  pub in_more : (p q : Place) (v : Value) → ((y : Item) → May U R p y → May U R q y) → IsIn U R p v → IsIn U R q v
  in_more p q v f h = λ c i. have_more p q (item_of c) f (h c i)

  pub in_flow : (p q : Place) (v : Value) → R (flows p q) → IsIn U R p v → IsIn U R q v
  in_flow p q v r h = in_more p q v (λ y k. may_flow r k) h

  -- ---- values one by one

  pub lie_anywhere : (vs : Values) → LieIn U R [] vs
  lie_anywhere no_value = tt
  lie_anywhere (and_value v vs) = (in_world v, lie_anywhere vs)

  pub each_lies : (ps : List Place) (vs : Values) → LieInEach U R ps vs → LieIn U R ps vs
  each_lies [] no_value h = tt
  each_lies [] (and_value v vs) h = absurd h
  each_lies (p ∷ ps) no_value h = tt
  each_lies (p ∷ ps) (and_value v vs) h = (h.0, each_lies ps vs h.1)

  -- they flow into the values of a form
  pub into_lie : (home : Atom) (label i n : ℕ) (ps : List Place) (vs : Values) → LieIn U R ps vs → AreRules U R (into_parts home label i (fit n ps)) → LieIn U R (parts home label i n) vs
  into_lie home label i zero ps vs h a = lie_anywhere vs
  into_lie home label i (suc n) ps no_value h a = tt
  into_lie home label i (suc n) ps (and_value v vs) h a = (in_flow _ _ v a.0 h.0, into_lie home label (i + 1) n (rest ps) vs h.1 a.1)

  -- they flow into one place
  pub all_in : (ps : List Place) (q : Place) (vs : Values) → LieInEach U R ps vs → AreRules U R (all_into ps q) → AreIn U R q vs
  all_in [] q no_value h a = λ c i. absurd i
  all_in [] q (and_value v vs) h a = absurd h
  all_in (p ∷ ps) q no_value h a = absurd h
  all_in (p ∷ ps) q (and_value v vs) h a = both (in_flow p q v a.0 h.0) (all_in ps q vs h.1 a.1)
    where
      both : IsIn U R q v → AreIn U R q vs → AreIn U R q (and_value v vs)
      both k l c (inl i) = k c i
      both k l c (inr i) = l c i

  pub map_in : (q : Place) (vs : Values) (old qs : ValuePairs) → AreIn U R q vs → PairsIn U R q old → IsMadeOf vs old qs → PairsIn U R q qs
  map_in q vs old qs h k m = λ c i. either c (made_held vs old qs c m i)
    where
      either : (c : Value) → HoldFunction c vs ⊎ PairsHoldFunction c old → MayHave U R q (item_of c)
      either c (inl i) = h c i
      either c (inr i) = k c i

  -- ---- arguments

  pub arguments_flow : (home : Atom) (label i : ℕ) (ps : List Place) (vs : Values) → LieInEach U R ps vs → AreRules U R (into_parameters home label i ps) → AreArguments U R home label i vs
  arguments_flow home label i [] no_value h a = tt
  arguments_flow home label i [] (and_value v vs) h a = absurd h
  arguments_flow home label i (p ∷ ps) no_value h a = absurd h
  arguments_flow home label i (p ∷ ps) (and_value v vs) h a = (in_flow p _ v a.0 h.0, arguments_flow home label (i + 1) ps vs h.1 a.1)

  -- parameters that may be anything take any arguments, where they are as many
  pub open_arguments : (home : Atom) (label i n : ℕ) (vs : Values) → n ≡ count vs → AreRules U R (opens home label i n) → AreArguments U R home label i vs
  open_arguments home label i n no_value e a = tt
  open_arguments home label i zero (and_value v vs) e a = absurd (omega (arith, e))
  open_arguments home label i (suc n) (and_value v vs) e a = (in_any _ v (may_hold a.0), open_arguments home label (i + 1) n vs (omega (arith, e)) a.1)

  pub arguments_lie : (home : Atom) (label i n : ℕ) (vs : Values) → AreArguments U R home label i vs → LieIn U R (parameters home label i n) vs
  arguments_lie home label i n no_value h = tt
  arguments_lie home label i zero (and_value v vs) h = (in_world v, lie_anywhere vs)
  arguments_lie home label i (suc n) (and_value v vs) h = (h.0, arguments_lie home label (i + 1) n vs h.1)
