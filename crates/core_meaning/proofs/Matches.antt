-- Each pattern matches a value, and then binds its variables, or misses it.
use Rattle.std.proofs.Common.{◌≡◌, true, false, ◌⊎◌, inl, inr, List, [], ◌++◌, refl, sym, ap, ◌∙◌, subst}
use Rattle.std.specs.Cmp.Lexicographic.{bytes_decides}
use Rattle.std.proofs.lemmas.Bool.{cases_Bool}
use Rattle.type_kinds.specs.declared.atom.Atom.{Atom}
use Rattle.core_ast.specs.declared.syntax.Mark.{Mark}
use Rattle.core_ast.specs.declared.syntax.VarName.{VarName}
use Rattle.core_ast.specs.declared.syntax.Literal.{Literal}
use Rattle.core_ast.specs.declared.syntax.Literal.TheVariants as l
use Rattle.core_ast.specs.Model as m
use Rattle.core_scope.specs.Names.{same_atom, bound, pattern_bound, patterns_bound}
use Rattle.type_lattice_model.specs.Canonical.{spelled}
use Rattle.type_lattice_model.specs.Values.{Value, int, atom, bits, float, pid, port, reference, nil, cons, tuple, map, closure, external, foreign, Values, no_value, and_value, Env}
use Rattle.core_meaning.specs.Programs.{Program}
use Rattle.core_meaning.specs.Environments.{with_variable}
use Rattle.core_meaning.specs.Matching.{LiteralIs, LiteralMisses, Match, match_variable, match_literal, match_list, match_tuple, match_alias, MatchEach, match_none, match_next, MatchList, match_rest, match_head}
use Rattle.core_meaning.specs.Matching.{Miss, miss_literal, miss_list, miss_no_tuple, miss_tuple, miss_map, miss_binary, miss_alias, MissEach}
use Rattle.core_meaning.specs.Matching.{miss_more, miss_fewer, miss_here, miss_later, MissList, miss_no_list, miss_head, miss_tail, miss_rest}
use Rattle.core_meaning.proofs.Bound.{BindsAll, binds_none, binds_both, binds_three, binds_new, Grows, grows_itself, grows_on, grows_one}

-- ---- which form a value has

as_cons : (v : Value) → ((h : Value) × ((t : Value) × (v ≡ cons h t))) ⊎ ((h t : Value) → v ≡ cons h t → ⊥)
as_cons (int n) = inr (λ h t e. cc)
as_cons (atom a) = inr (λ h t e. cc)
as_cons (bits bs) = inr (λ h t e. cc)
as_cons (float s) = inr (λ h t e. cc)
as_cons (pid n) = inr (λ h t e. cc)
as_cons (port n) = inr (λ h t e. cc)
as_cons (reference n) = inr (λ h t e. cc)
as_cons nil = inr (λ h t e. cc)
as_cons (cons h t) = inl (h, (t, refl))
as_cons (tuple vs) = inr (λ h t e. cc)
as_cons (map ps) = inr (λ h t e. cc)
as_cons (closure home label n env) = inr (λ h t e. cc)
as_cons (external home x n) = inr (λ h t e. cc)
as_cons (foreign x n) = inr (λ h t e. cc)

as_tuple : (v : Value) → ((vs : Values) × (v ≡ tuple vs)) ⊎ ((vs : Values) → v ≡ tuple vs → ⊥)
as_tuple (int n) = inr (λ vs e. cc)
as_tuple (atom a) = inr (λ vs e. cc)
as_tuple (bits bs) = inr (λ vs e. cc)
as_tuple (float s) = inr (λ vs e. cc)
as_tuple (pid n) = inr (λ vs e. cc)
as_tuple (port n) = inr (λ vs e. cc)
as_tuple (reference n) = inr (λ vs e. cc)
as_tuple nil = inr (λ vs e. cc)
as_tuple (cons h t) = inr (λ vs e. cc)
as_tuple (tuple ws) = inl (ws, refl)
as_tuple (map ps) = inr (λ vs e. cc)
as_tuple (closure home label n env) = inr (λ vs e. cc)
as_tuple (external home x n) = inr (λ vs e. cc)
as_tuple (foreign x n) = inr (λ vs e. cc)

true_no_false : true ≡ false → ⊥
true_no_false e = cc

module _ (once : (v w : Value) → spelled v ≡ spelled w → v ≡ w) where
  -- two values are one, or they aren't
  pub one_or_two : (v w : Value) → (v ≡ w) ⊎ (v ≡ w → ⊥)
  one_or_two v w = elim (cases_Bool (same_atom (spelled v) (spelled w))) [
    | inl same ↦ inl (once v w ((bytes_decides (spelled v) (spelled w)).0 same))
    | inr differ ↦ inr (λ e. true_no_false (sym ((bytes_decides (spelled v) (spelled w)).1 (ap spelled e)) ∙ differ))
  ]

  literal_or_miss : (c : Literal) (v : Value) → LiteralIs c v ⊎ LiteralMisses c v
  literal_or_miss (l.Int n) v = one_or_two v (int n)
  literal_or_miss (l.Float s) v = inr tt
  literal_or_miss (l.Atom a) v = one_or_two v (atom a)
  literal_or_miss l.Nil v = one_or_two v nil

  module _ (U : Program) (home : Atom) (W : Value → Type 0) where
    -- an environment in which these are bound, and what was bound before
    abbrev pub Reaches : Env → List Atom → (Env → Type 0) → Type 0
    Reaches env xs M = (to : Env) × M to × Grows U home env to × BindsAll xs to

    by_literal : (k : Mark) (c : Literal) (v : Value) (env : Env) → LiteralIs c v ⊎ LiteralMisses c v → Reaches env [] (λ to. Match W (m.equals k c) v env to) ⊎ Miss (m.equals k c) v
    by_literal k c v env (inl h) = inl (env, match_literal h, grows_itself U home env, binds_none env)
    by_literal k c v env (inr h) = inr (miss_literal h)

    by_list :
        (k : Mark) (ps : m.Patterns) (p : m.Pattern) (v : Value) (env : Env) →
        Reaches env (patterns_bound ps ++ pattern_bound p) (λ to. MatchList W ps p v env to) ⊎ MissList ps p v →
        Reaches env (patterns_bound ps ++ pattern_bound p) (λ to. Match W (m.list_of k ps p) v env to) ⊎ Miss (m.list_of k ps p) v
    by_list k ps p v env (inl (to, x, g, b)) = inl (to, match_list x, g, b)
    by_list k ps p v env (inr h) = inr (miss_list h)

    by_rest :
        (p : m.Pattern) (v : Value) (env : Env) →
        Reaches env (pattern_bound p) (λ to. Match W p v env to) ⊎ Miss p v →
        Reaches env (pattern_bound p) (λ to. MatchList W m.no_pattern p v env to) ⊎ MissList m.no_pattern p v
    by_rest p v env (inl (to, x, g, b)) = inl (to, match_rest x, g, b)
    by_rest p v env (inr h) = inr (miss_rest h)

    after_head :
        (q : m.Pattern) (ps : m.Patterns) (p : m.Pattern) (h t : Value) (env mid : Env) →
        Match W q h env mid → Grows U home env mid → BindsAll (pattern_bound q) mid →
        Reaches mid (patterns_bound ps ++ pattern_bound p) (λ to. MatchList W ps p t mid to) ⊎ MissList ps p t →
        Reaches env (pattern_bound q ++ patterns_bound ps ++ pattern_bound p) (λ to. MatchList W (m.and_pattern q ps) p (cons h t) env to) ⊎ MissList (m.and_pattern q ps) p (cons h t)
    after_head q ps p h t env mid x g b (inl (to, y, i, d)) =
        inl (to, match_head x y, grows_on U home env mid to g i, binds_three (pattern_bound q) (patterns_bound ps) (pattern_bound p) to (λ z n. i.binds z (b z n)) d)
    after_head q ps p h t env mid x g b (inr n) = inr (miss_tail n)

    by_head :
        (q : m.Pattern) (ps : m.Patterns) (p : m.Pattern) (h t : Value) (env : Env) →
        Reaches env (pattern_bound q) (λ to. Match W q h env to) ⊎ Miss q h →
        ((mid : Env) → Reaches mid (patterns_bound ps ++ pattern_bound p) (λ to. MatchList W ps p t mid to) ⊎ MissList ps p t) →
        Reaches env (pattern_bound q ++ patterns_bound ps ++ pattern_bound p) (λ to. MatchList W (m.and_pattern q ps) p (cons h t) env to) ⊎ MissList (m.and_pattern q ps) p (cons h t)
    by_head q ps p h t env (inl (mid, x, g, b)) rest = after_head q ps p h t env mid x g b (rest mid)
    by_head q ps p h t env (inr n) rest = inr (miss_head n)

    by_tuple :
        (k : Mark) (ps : m.Patterns) (vs : Values) (env : Env) →
        Reaches env (patterns_bound ps) (λ to. MatchEach W ps vs env to) ⊎ MissEach ps vs →
        Reaches env (patterns_bound ps) (λ to. Match W (m.tuple_of k ps) (tuple vs) env to) ⊎ Miss (m.tuple_of k ps) (tuple vs)
    by_tuple k ps vs env (inl (to, x, g, b)) = inl (to, match_tuple x, g, b)
    by_tuple k ps vs env (inr h) = inr (miss_tuple h)

    by_alias :
        (k : Mark) (x : VarName) (p : m.Pattern) (v : Value) (env : Env) →
        Reaches (with_variable x.name v env) (pattern_bound p) (λ to. Match W p v (with_variable x.name v env) to) ⊎ Miss p v →
        Reaches env (bound x.name ++ pattern_bound p) (λ to. Match W (m.alias k x p) v env to) ⊎ Miss (m.alias k x p) v
    by_alias k x p v env (inl (to, y, g, b)) =
        inl (to, match_alias y, grows_on U home env (with_variable x.name v env) to (grows_one U home x.name v env) g, binds_both (bound x.name) (pattern_bound p) to (λ z n. g.binds z (binds_new x.name v env z n)) b)
    by_alias k x p v env (inr h) = inr (miss_alias h)

    after_first :
        (p : m.Pattern) (ps : m.Patterns) (v : Value) (vs : Values) (env mid : Env) →
        Match W p v env mid → Grows U home env mid → BindsAll (pattern_bound p) mid →
        Reaches mid (patterns_bound ps) (λ to. MatchEach W ps vs mid to) ⊎ MissEach ps vs →
        Reaches env (pattern_bound p ++ patterns_bound ps) (λ to. MatchEach W (m.and_pattern p ps) (and_value v vs) env to) ⊎ MissEach (m.and_pattern p ps) (and_value v vs)
    after_first p ps v vs env mid x g b (inl (to, y, i, d)) =
        inl (to, match_next x y, grows_on U home env mid to g i, binds_both (pattern_bound p) (patterns_bound ps) to (λ z n. i.binds z (b z n)) d)
    after_first p ps v vs env mid x g b (inr n) = inr (miss_later n)

    by_first :
        (p : m.Pattern) (ps : m.Patterns) (v : Value) (vs : Values) (env : Env) →
        Reaches env (pattern_bound p) (λ to. Match W p v env to) ⊎ Miss p v →
        ((mid : Env) → Reaches mid (patterns_bound ps) (λ to. MatchEach W ps vs mid to) ⊎ MissEach ps vs) →
        Reaches env (pattern_bound p ++ patterns_bound ps) (λ to. MatchEach W (m.and_pattern p ps) (and_value v vs) env to) ⊎ MissEach (m.and_pattern p ps) (and_value v vs)
    by_first p ps v vs env (inl (mid, x, g, b)) rest = after_first p ps v vs env mid x g b (rest mid)
    by_first p ps v vs env (inr n) rest = inr (miss_here n)

    mutual
      match_or_miss : (p : m.Pattern) (v : Value) (env : Env) → Reaches env (pattern_bound p) (λ to. Match W p v env to) ⊎ Miss p v
      match_or_miss (m.binds k x) v env = inl (with_variable x v env, match_variable, grows_one U home x v env, binds_new x v env)
      match_or_miss (m.equals k c) v env = by_literal k c v env (literal_or_miss c v)
      match_or_miss (m.list_of k ps p) v env = by_list k ps p v env (list_or_miss ps p (λ x e. match_or_miss p x e) v env)
      match_or_miss (m.tuple_of k ps) v env = elim (as_tuple v) [
        | inl r ↦ subst (λ x. Reaches env (patterns_bound ps) (λ to. Match W (m.tuple_of k ps) x env to) ⊎ Miss (m.tuple_of k ps) x) (sym r.1) (by_tuple k ps r.0 env (each_or_miss ps r.0 env))
        | inr other ↦ inr (miss_no_tuple other)
      ]
      match_or_miss (m.map_of k ps) v env = inr miss_map
      match_or_miss (m.binary_of k ss) v env = inr miss_binary
      match_or_miss (m.alias k x p) v env = by_alias k x p v env (match_or_miss p v (with_variable x.name v env))

      pub each_or_miss : (ps : m.Patterns) (vs : Values) (env : Env) → Reaches env (patterns_bound ps) (λ to. MatchEach W ps vs env to) ⊎ MissEach ps vs
      each_or_miss m.no_pattern no_value env = inl (env, match_none, grows_itself U home env, binds_none env)
      each_or_miss m.no_pattern (and_value v vs) env = inr miss_more
      each_or_miss (m.and_pattern p ps) no_value env = inr miss_fewer
      each_or_miss (m.and_pattern p ps) (and_value v vs) env = by_first p ps v vs env (match_or_miss p v env) (λ mid. each_or_miss ps vs mid)

      list_or_miss :
          (ps : m.Patterns) (p : m.Pattern) →
          ((x : Value) (e : Env) → Reaches e (pattern_bound p) (λ to. Match W p x e to) ⊎ Miss p x) →
          (v : Value) (env : Env) → Reaches env (patterns_bound ps ++ pattern_bound p) (λ to. MatchList W ps p v env to) ⊎ MissList ps p v
      list_or_miss m.no_pattern p last v env = by_rest p v env (last v env)
      list_or_miss (m.and_pattern q ps) p last v env = elim (as_cons v) [
        | inl r ↦ subst (λ x. Reaches env (pattern_bound q ++ patterns_bound ps ++ pattern_bound p) (λ to. MatchList W (m.and_pattern q ps) p x env to) ⊎ MissList (m.and_pattern q ps) p x) (sym r.1.1)
            (by_head q ps p r.0 r.1.0 env (match_or_miss q r.0 env) (λ mid. list_or_miss ps p last r.1.0 mid))
        | inr other ↦ inr (miss_no_list other)
      ]
