-- What is covered, by any two facts of closures and of frames: values by the closures that they hold, what patterns bind, and what
-- is made of values.
use Rattle.std.proofs.Common.{◌≡◌, ◌⊎◌, ℕ, Bool, true, false, if◌then◌else◌, List, [], ◌∷◌, Some, inl, inr, refl, sym, subst}
use Rattle.std.proofs.lemmas.Option.{same_Some}
use Rattle.type_kinds.specs.declared.atom.Atom.{Atom}
use Rattle.core_ast.specs.Model as m
use Rattle.core_ast.specs.declared.syntax.VarName.{VarName}
use Rattle.core_scope.specs.Names.{same_atom, wildcard}
use Rattle.type_lattice_model.specs.Canonical.{HoldsPair}
use Rattle.type_lattice_model.specs.Values.{Value, int, atom, bits, float, pid, port, reference, nil, cons, tuple, map, closure, external, foreign}
use Rattle.type_lattice_model.specs.Values.{Values, no_value, and_value, ValuePairs, no_pair, and_pair, Env, no_variable, and_variable, and_frame, Local}
use Rattle.bif_types.specs.Closures.{HoldsClosure, HoldClosure, PairsHoldClosure}
use Rattle.core_meaning.specs.Environments as run
use Rattle.core_meaning.specs.Environments.{value_of, with_variable}
use Rattle.core_meaning.specs.Matching.{Match, match_variable, match_literal, match_list, match_tuple, match_map, match_binary, match_alias, MatchEach, match_none}
use Rattle.core_meaning.specs.Matching.{match_next, MatchList, match_rest, match_head, MatchPairs, match_no_pair, match_pair, MatchSegments, match_no_segment, match_segment}
use Rattle.core_meaning.specs.Meaning.{IsAmong, IsMadeOf, keys_given, values_given, list_value, AreOutside}
use Rattle.core_meaning_values.specs.Covered.{Covered, AreCovered, PairsCovered, CoveredEnv}

module _ (OfClosure : Atom → (label arity : ℕ) → Env → Type 0) (OfFrame : Atom → List Local → Env → Type 0) where
  abbrev Cov : Value → Type 0
  Cov v = Covered OfClosure OfFrame v

  abbrev Covs : Values → Type 0
  Covs vs = AreCovered OfClosure OfFrame vs

  abbrev CovPairs : ValuePairs → Type 0
  CovPairs ps = PairsCovered OfClosure OfFrame ps

  abbrev CovEnv : Atom → Env → Type 0
  CovEnv home env = CoveredEnv OfClosure OfFrame home env

  -- ---- covered is: each closure that is held is covered

  mutual
    pub held_is : (v c : Value) → Cov v → HoldsClosure c v → Cov c
    held_is (int n) c h i = absurd i
    held_is (atom a) c h i = absurd i
    held_is (bits bs) c h i = absurd i
    held_is (float s) c h i = absurd i
    held_is (pid n) c h i = absurd i
    held_is (port n) c h i = absurd i
    held_is (reference n) c h i = absurd i
    held_is nil c h i = absurd i
    held_is (cons x y) c h (inl i) = held_is x c h.0 i
    held_is (cons x y) c h (inr i) = held_is y c h.1 i
    held_is (tuple vs) c h i = each_held_is vs c h i
    held_is (map ps) c h i = pair_held_is ps c h i
    held_is (closure home l n env) c h i = subst Cov (sym i) h
    held_is (external x f n) c h i = absurd i
    held_is (foreign x n) c h i = absurd i

    pub each_held_is : (vs : Values) (c : Value) → Covs vs → HoldClosure c vs → Cov c
    each_held_is no_value c h i = absurd i
    each_held_is (and_value v vs) c h (inl i) = held_is v c h.0 i
    each_held_is (and_value v vs) c h (inr i) = each_held_is vs c h.1 i

    pair_held_is : (ps : ValuePairs) (c : Value) → CovPairs ps → PairsHoldClosure c ps → Cov c
    pair_held_is no_pair c h i = absurd i
    pair_held_is (and_pair k v ps) c h (inl i) = held_is k c h.0 i
    pair_held_is (and_pair k v ps) c h (inr (inl i)) = held_is v c h.1.0 i
    pair_held_is (and_pair k v ps) c h (inr (inr i)) = pair_held_is ps c h.1.1 i

  mutual
    pub by_held : (v : Value) → ((c : Value) → HoldsClosure c v → Cov c) → Cov v
    by_held (int n) h = tt
    by_held (atom a) h = tt
    by_held (bits bs) h = tt
    by_held (float s) h = tt
    by_held (pid n) h = tt
    by_held (port n) h = tt
    by_held (reference n) h = tt
    by_held nil h = tt
    by_held (cons x y) h = (by_held x (λ c i. h c (inl i)), by_held y (λ c i. h c (inr i)))
    by_held (tuple vs) h = by_each_held vs h
    by_held (map ps) h = by_pair_held ps h
    by_held (closure home l n env) h = h (closure home l n env) refl
    by_held (external x f n) h = tt
    by_held (foreign x n) h = tt

    by_each_held : (vs : Values) → ((c : Value) → HoldClosure c vs → Cov c) → Covs vs
    by_each_held no_value h = tt
    by_each_held (and_value v vs) h = (by_held v (λ c i. h c (inl i)), by_each_held vs (λ c i. h c (inr i)))

    by_pair_held : (ps : ValuePairs) → ((c : Value) → PairsHoldClosure c ps → Cov c) → CovPairs ps
    by_pair_held no_pair h = tt
    by_pair_held (and_pair k v ps) h = (by_held k (λ c i. h c (inl i)), (by_held v (λ c i. h c (inr (inl i))), by_pair_held ps (λ c i. h c (inr (inr i)))))

  -- ---- maps and lists that are made

  pub pair_covered : (ps : ValuePairs) (k v : Value) → CovPairs ps → HoldsPair ps k v → Cov k × Cov v
  pair_covered no_pair k v h i = absurd i
  pair_covered (and_pair j w ps) k v h (inl i) = (subst Cov (sym i.0) h.0, subst Cov (sym i.1) h.1.0)
  pair_covered (and_pair j w ps) k v h (inr i) = pair_covered ps k v h.1.1 i

  among_covered : (v : Value) (vs : Values) → Covs vs → IsAmong v vs → Cov v
  among_covered v no_value h i = absurd i
  among_covered v (and_value w vs) h (inl e) = subst Cov (sym e) h.0
  among_covered v (and_value w vs) h (inr i) = among_covered v vs h.1 i

  keys_covered : (vs : Values) → Covs vs → Covs (keys_given vs)
  keys_covered no_value h = tt
  keys_covered (and_value k no_value) h = tt
  keys_covered (and_value k (and_value v vs)) h = (h.0, keys_covered vs h.1.1)

  values_covered : (vs : Values) → Covs vs → Covs (values_given vs)
  values_covered no_value h = tt
  values_covered (and_value k no_value) h = tt
  values_covered (and_value k (and_value v vs)) h = (h.1.0, values_covered vs h.1.1)

  pub made_covered : (vs : Values) (old qs : ValuePairs) → Covs vs → CovPairs old → IsMadeOf vs old qs → CovPairs qs
  made_covered vs old no_pair h k i = tt
  made_covered vs old (and_pair x v qs) h k i = (of_key i.0.0, (of_value i.0.1, made_covered vs old qs h k i.1))
    where
      of_key : IsAmong x (keys_given vs) ⊎ ((w : Value) × HoldsPair old x w) → Cov x
      of_key (inl j) = among_covered x (keys_given vs) (keys_covered vs h) j
      of_key (inr j) = (pair_covered old x j.0 k j.1).0

      of_value : IsAmong v (values_given vs) ⊎ ((j : Value) × HoldsPair old j v) → Cov v
      of_value (inl j) = among_covered v (values_given vs) (values_covered vs h) j
      of_value (inr j) = (pair_covered old j.0 v k j.1).1

  pub list_covered : (vs : Values) → Covs vs → Cov (list_value vs)
  list_covered no_value h = tt
  list_covered (and_value v no_value) h = h.0
  list_covered (and_value v (and_value w vs)) h = (h.0, list_covered (and_value w vs) h.1)

  -- ---- environments

  pub with_covered : (home : Atom) (x : Atom) (v : Value) (env : Env) → Cov v → CovEnv home env → CovEnv home (with_variable x v env)
  with_covered home x v env c h = by (same_atom x wildcard)
    where
      by : (b : Bool) → CovEnv home (if b then env else and_variable x v env)
      by true = h
      by false = (c, h)

  pub bound_covered : (home : Atom) (xs : List VarName) (vs : Values) (env : Env) → Covs vs → CovEnv home env → CovEnv home (run.with_variables xs vs env)
  bound_covered home [] vs env c h = h
  bound_covered home (x ∷ xs) no_value env c h = h
  bound_covered home (x ∷ xs) (and_value v vs) env c h = bound_covered home xs vs (with_variable x.name v env) c.1 (with_covered home x.name v env c.0 h)

  pub value_covered : (home : Atom) (env : Env) (x : Atom) (w : Value) → CovEnv home env → value_of env x ≡ Some w → Cov w
  value_covered home no_variable x w h e = absurd cc
  value_covered home (and_frame ls env) x w h e = value_covered home env x w h.0 e
  value_covered home (and_variable y v env) x w h e = by (same_atom y x) (value_covered home env x w h.1) e
    where
      by : (b : Bool) → (value_of env x ≡ Some w → Cov w) → (if b then Some v else value_of env x) ≡ Some w → Cov w
      by true more q = subst Cov (same_Some _ _ q) h.0
      by false more q = more q

  module _ (W : Value → Type 0) (world : (v : Value) → W v → Cov v) (home : Atom) where
    mutual
      pub match_covered : {p : m.Pattern} {v : Value} {env to : Env} → Match W p v env to → Cov v → CovEnv home env → CovEnv home to
      match_covered (match_variable {x = x} {v = v} {env = env}) c h = with_covered home x v env c h
      match_covered (match_literal is) c h = h
      match_covered (match_list ms) c h = listed_covered ms c h
      match_covered (match_tuple ms) c h = matches_covered ms c h
      match_covered (match_map ms) c h = pairs_covered ms c h
      match_covered (match_binary ms) c h = segments_covered ms h
      match_covered (match_alias {x = x} {v = v} {env = env} mt) c h = match_covered mt c (with_covered home x.name v env c h)

      pub matches_covered : {ps : m.Patterns} {vs : Values} {env to : Env} → MatchEach W ps vs env to → Covs vs → CovEnv home env → CovEnv home to
      matches_covered match_none c h = h
      matches_covered (match_next mt ms) c h = matches_covered ms c.1 (match_covered mt c.0 h)

      listed_covered : {ps : m.Patterns} {p : m.Pattern} {v : Value} {env to : Env} → MatchList W ps p v env to → Cov v → CovEnv home env → CovEnv home to
      listed_covered (match_rest mt) c h = match_covered mt c h
      listed_covered (match_head mt ms) c h = listed_covered ms c.1 (match_covered mt c.0 h)

      pairs_covered : {ps : m.PatPairs} {qs : ValuePairs} {env to : Env} → MatchPairs W ps qs env to → CovPairs qs → CovEnv home env → CovEnv home to
      pairs_covered match_no_pair c h = h
      pairs_covered (match_pair {qs = qs} key {v = v} has mt ms) c h = pairs_covered ms c (match_covered mt (pair_covered qs key v c has).1 h)

      segments_covered : {ss : m.PatSegments} {env to : Env} → MatchSegments W ss env to → CovEnv home env → CovEnv home to
      segments_covered match_no_segment h = h
      segments_covered (match_segment {v = v} from is mt ms) h = segments_covered ms (match_covered mt (world v from) h)

    pub outside_covered : (vs : Values) → AreOutside W vs → Covs vs
    outside_covered no_value h = tt
    outside_covered (and_value v vs) h = (world v h.0, outside_covered vs h.1)
