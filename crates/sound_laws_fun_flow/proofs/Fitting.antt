-- Environments that fit scopes: what is bound, matched and looked up.
use Rattle.std.proofs.Common.{◌≡◌, Bool, true, false, if◌then◌else◌, List, [], ◌∷◌, length, Some, inl, inr, subst, arith}
use Rattle.std.proofs.lemmas.Option.{same_Some}
use Rattle.type_kinds.specs.declared.atom.Atom.{Atom}
use Rattle.core_ast.specs.Model as m
use Rattle.core_ast.specs.declared.syntax.VarName.{VarName}
use Rattle.core_scope.specs.Names.{same_atom, wildcard}
use Rattle.type_lattice_model.specs.Values.{Value, Values, no_value, and_value, ValuePairs, Env, and_variable, count}
use Rattle.core_meaning.specs.Environments as run
use Rattle.core_meaning.specs.Environments.{value_of, with_variable}
use Rattle.core_meaning.specs.Matching.{Match, match_variable, match_literal, match_list, match_tuple, match_map, match_binary, match_alias, MatchEach, match_none}
use Rattle.core_meaning.specs.Matching.{match_next, MatchList, match_rest, match_head, MatchPairs, match_no_pair, match_pair, MatchSegments, match_no_segment, match_segment}
use Rattle.core_meaning.specs.Programs.{Program}
use Rattle.core_meaning_values.proofs.Held.{value_held}
use Rattle.fun_flow_sets.specs.Items.{Place, anywhere, Rule}
use Rattle.fun_flow_sets.specs.Scopes.{Scope, and_place, place_of, first, rest, with_place, with_places, with_pattern, with_patterns, with_pat_pairs, with_pat_segments, with_heads}
use Rattle.sound_laws_fun_flow.specs.steps.Inside.{IsIn, AreIn, PairsIn, LieIn, Fits, fits_nothing, fits_variable, fits_frame}
use Rattle.sound_laws_fun_flow.proofs.Lying.{in_world}

module _ (U : Program) (R : Rule → Type 0) where
  pub fits_with : (x : Atom) (p : Place) (v : Value) (sc : Scope) (env : Env) → IsIn U R p v → Fits U R sc env → Fits U R (with_place x p sc) (with_variable x v env)
  fits_with x p v sc env h r = by (same_atom x wildcard)
    where
      by : (b : Bool) → Fits U R (if b then sc else and_place x p sc) (if b then env else and_variable x v env)
      by true = r
      by false = fits_variable h r

  pub fits_bound : (xs : List VarName) (vs : Values) (ps : List Place) (sc : Scope) (env : Env) → length xs ≡ count vs → LieIn U R ps vs → Fits U R sc env → Fits U R (with_places xs ps sc) (run.with_variables xs vs env)
  fits_bound [] vs ps sc env n h r = r
  fits_bound (x ∷ xs) no_value ps sc env n h r = absurd (omega (arith, n))
  fits_bound (x ∷ xs) (and_value v vs) ps sc env n h r = fits_bound xs vs (rest ps) (with_place x.name (first ps) sc) (with_variable x.name v env) (omega (arith, n)) h.1 (fits_with x.name (first ps) v sc env h.0 r)

  pub fits_value : {sc : Scope} {env : Env} (x : Atom) (w : Value) → Fits U R sc env → value_of env x ≡ Some w → IsIn U R (place_of sc x) w
  fits_value x w fits_nothing e = absurd cc
  fits_value x w (fits_frame r) e = fits_value x w r e
  fits_value x w (fits_variable {x = y} {p = p} {v = v} {sc = sc} {env = env} h r) e = by (same_atom y x) (fits_value x w r) e
    where
      by : (b : Bool) → (value_of env x ≡ Some w → IsIn U R (place_of sc x) w) → (if b then Some v else value_of env x) ≡ Some w → IsIn U R (if b then p else place_of sc x) w
      by true more q = subst (IsIn U R p) (same_Some _ _ q) h
      by false more q = more q

  module _ (W : Value → Type 0) where
    mutual
      pub fits_match : {p : m.Pattern} {v : Value} {env to : Env} (q : Place) (sc : Scope) → Match W p v env to → IsIn U R q v → Fits U R sc env → Fits U R (with_pattern q p sc) to
      fits_match q sc (match_variable {x = x} {v = v} {env = env}) h r = fits_with x q v sc env h r
      fits_match q sc (match_literal is) h r = r
      fits_match q sc (match_list ms) h r = fits_listed q sc ms h r
      fits_match q sc (match_tuple ms) h r = fits_matches q sc ms h r
      fits_match q sc (match_map ms) h r = fits_pairs q sc ms h r
      fits_match q sc (match_binary ms) h r = fits_segments sc ms r
      fits_match q sc (match_alias {x = x} {v = v} {env = env} mt) h r = fits_match q (with_place x.name q sc) mt h (fits_with x.name q v sc env h r)

      fits_matches : {ps : m.Patterns} {vs : Values} {env to : Env} (q : Place) (sc : Scope) → MatchEach W ps vs env to → AreIn U R q vs → Fits U R sc env → Fits U R (with_patterns q ps sc) to
      fits_matches q sc match_none h r = r
      fits_matches q sc (match_next {p = p} mt ms) h r = fits_matches q (with_pattern q p sc) ms (λ c i. h c (inr i)) (fits_match q sc mt (λ c i. h c (inl i)) r)

      fits_listed : {ps : m.Patterns} {p : m.Pattern} {v : Value} {env to : Env} (q : Place) (sc : Scope) → MatchList W ps p v env to → IsIn U R q v → Fits U R sc env → Fits U R (with_pattern q p (with_patterns q ps sc)) to
      fits_listed q sc (match_rest mt) h r = fits_match q sc mt h r
      fits_listed q sc (match_head {p = p} mt ms) h r = fits_listed q (with_pattern q p sc) ms (λ c i. h c (inr i)) (fits_match q sc mt (λ c i. h c (inl i)) r)

      fits_pairs : {ps : m.PatPairs} {vs : ValuePairs} {env to : Env} (q : Place) (sc : Scope) → MatchPairs W ps vs env to → PairsIn U R q vs → Fits U R sc env → Fits U R (with_pat_pairs q ps sc) to
      fits_pairs q sc match_no_pair h r = r
      fits_pairs q sc (match_pair {p = p} {qs = vs} key {v = v} has mt ms) h r = fits_pairs q (with_pattern q p sc) ms h (fits_match q sc mt (λ c i. h c (value_held vs key v c has i)) r)

      fits_segments : {ss : m.PatSegments} {env to : Env} (sc : Scope) → MatchSegments W ss env to → Fits U R sc env → Fits U R (with_pat_segments ss sc) to
      fits_segments sc match_no_segment r = r
      fits_segments sc (match_segment {p = p} {v = v} from is mt ms) r = fits_segments (with_pattern anywhere p sc) ms (fits_match anywhere sc mt (in_world U R v) r)

    pub fits_heads : {ps : m.Patterns} {vs : Values} {env to : Env} (qs : List Place) (sc : Scope) → MatchEach W ps vs env to → LieIn U R qs vs → Fits U R sc env → Fits U R (with_heads qs ps sc) to
    fits_heads qs sc match_none h r = r
    fits_heads qs sc (match_next {p = p} mt ms) h r = fits_heads (rest qs) (with_pattern (first qs) p sc) ms h.1 (fits_match (first qs) sc mt h.0 r)
