-- What the rows of an expression rest on: of all that a pass knows, only on the rows that it makes of a call and of an application of
-- each name.
use Rattle.std.proofs.Common.{◌≡◌, ℕ, ◌+◌, Bool, List, [], ◌∷◌, ◌++◌, length, replicate, refl, ap, ap₂}
use Rattle.std.specs.Prelude.{Option, Some, None, eqb}
use Rattle.type_kinds.specs.declared.atom.Atom.{Atom}
use Rattle.type_lattice.specs.Types.{any}
use Rattle.core_ast.specs.declared.syntax.VarName.{VarName}
use Rattle.core_ast.specs.declared.syntax.FunName.{FunName}
use Rattle.core_ast.specs.Model as m
use Rattle.core_ast.specs.Lengths.{how_many}
use Rattle.core_ast.specs.Named.{local_name}
use Rattle.core_scope.specs.declared.ask.Ask.{Ask}
use Rattle.core_scope.specs.Asks.{one_value, call_gives, erlang, function_name}
use Rattle.core_scope.specs.Names.{same_atom, has_function}
use Rattle.bif_types.specs.declared.bif.Bif.{Bif}
use Rattle.bif_types.specs.Table.{looked_up}
use Rattle.cons_solve.specs.Environments.{solution}
use Rattle.cons_gen_rows.specs.Passes.{Knowledge, by_name, by_names, built_in_rows, with_result, called_rows, applied_rows}
use Rattle.cons_gen.specs.Rows.{rows, all_rows, pair_rows, segment_rows, step_rows, clause_rows, named_or}
use Rattle.cons_gen_rows.specs.Scopes.{Scope}
use Rattle.cons_gen_rows.specs.Slots.{slots_from}
use Rattle.cons_gen.specs.Spans.{span, value_slots}
use Rattle.cons_gen_rows.specs.Counts.{call_names, call_results}
use Rattle.cons_gen_rows.specs.Words.{Rows, bound, together, function_type}
use Rattle.cons_gen.specs.Made.{parameter_scope, definition_slots}
use Rattle.cons_gen_frame.specs.Frame.{knowing}
use Rattle.cons_gen_frame.proofs.Choices.{both_ways}
use Rattle.comp_rounds.specs.Rounds.{Callees}
use Rattle.sound_laws.specs.Summaries.{solved}

-- two passes make the same rows of a call and of an application of each name
pub record SameCalls (lenient : Bool) (own : Atom → FunName → Bool) (c d : Callees) : Type 0 where
  pub called : (h : Atom) (f : FunName) (s : ℕ) (ss : List ℕ) → by_names (knowing lenient own c) h f (c h f) s ss ≡ by_names (knowing lenient own d) h f (d h f) s ss
  pub applied : (h : Atom) (f : FunName) (s : ℕ) (ss : List ℕ) → by_name (knowing lenient own c) h f (c h f) s ss ≡ by_name (knowing lenient own d) h f (d h f) s ss

named_same : {A : Type 0} (o : Option A) (f g : A → Rows) (r q : Rows) → ((x : A) → f x ≡ g x) → r ≡ q → named_or o f r ≡ named_or o g q
named_same None f g r q some none = none
named_same (Some x) f g r q some none = some x

module _ (lenient : Bool) (own : Atom → FunName → Bool) (c d : Callees) (same : SameCalls lenient own c d) (home : Atom) where
  abbrev P : Knowledge
  P = knowing lenient own c

  abbrev Q : Knowledge
  Q = knowing lenient own d

  -- ---- one call

  built_in_same : (o : Option Bif) (rs ss : List ℕ) → built_in_rows P o rs ss ≡ built_in_rows Q o rs ss
  built_in_same None rs ss = refl
  built_in_same (Some bif) [] ss = refl
  built_in_same (Some bif) (r ∷ []) ss = refl
  built_in_same (Some bif) (r ∷ q ∷ rs) ss = refl

  with_result_same : (rs : List ℕ) (f g : ℕ → Rows) → ((s : ℕ) → f s ≡ g s) → with_result rs f ≡ with_result rs g
  with_result_same [] f g h = refl
  with_result_same (s ∷ rs) f g h = h s

  called_same : (h name : Atom) (n : ℕ) (rs ss : List ℕ) → called_rows P h name n rs ss ≡ called_rows Q h name n rs ss
  called_same h name n rs ss =
      both_ways (same_atom h erlang) (built_in_same (looked_up name n) rs ss)
      (with_result_same rs (λ s. by_names P h (function_name name n) (c h (function_name name n)) s ss) (λ s. by_names Q h (function_name name n) (d h (function_name name n)) s ss)
      (λ s. same.called h (function_name name n) s ss))

  applied_same : (locals : List FunName) (f : FunName) (n s : ℕ) (ss : List ℕ) → applied_rows P home locals f n s ss ≡ applied_rows Q home locals f n s ss
  applied_same locals f n s ss = both_ways (eqb f.arity n) (both_ways (has_function locals f) refl (same.applied home f s ss)) refl

  -- ---- all rows

  mutual
    rows_same : (t : m.Tree) (sc : Scope) (s : ℕ) (k : Ask) → rows P home sc s k t ≡ rows Q home sc s k t
    rows_same (m.variable i x) sc s k = refl
    rows_same (m.local i f) sc s k = refl
    rows_same (m.external i x f) sc s k = refl
    rows_same (m.literal i l) sc s k = refl
    rows_same (m.function i xs t) sc s k = refl
    rows_same (m.listed i ts t) sc s k = simp (all_same ts, rows_same t)
    rows_same (m.tuple i ts) sc s k = simp (all_same ts)
    rows_same (m.new_map i ps) sc s k = simp (pairs_same ps)
    rows_same (m.updated_map i ps t) sc s k = simp (pairs_same ps, rows_same t)
    rows_same (m.binary i ss) sc s k = simp (segments_same ss)
    rows_same (m.values i ts) sc s k = simp (all_same ts)
    rows_same (m.chain i ss t) sc s k = simp (steps_same ss, rows_same t)
    rows_same (m.case i t cs) sc s k = simp (rows_same t, clauses_same cs)
    rows_same (m.letrec i ds t) sc s k = simp (rows_same t)
    rows_same (m.apply i t ts) sc s k =
        let operator = rows_same t in
        let operands = all_same ts in
        named_same (local_name t)
        (λ f. all_rows P home sc (s + 1) ts ++ applied_rows P home sc.functions f (how_many ts) s (value_slots (s + 1) ts))
        (λ f. all_rows Q home sc (s + 1) ts ++ applied_rows Q home sc.functions f (how_many ts) s (value_slots (s + 1) ts))
        (rows P home sc (s + 1) one_value t ++ all_rows P home sc (s + 1 + span one_value t) ts ++ bound (s + 1) (function_type (how_many ts)))
        (rows Q home sc (s + 1) one_value t ++ all_rows Q home sc (s + 1 + span one_value t) ts ++ bound (s + 1) (function_type (how_many ts)))
        (λ f. ap₂ (λ x y. x ++ y) (operands sc (s + 1)) (applied_same sc.functions f (how_many ts) s (value_slots (s + 1) ts)))
        (ap₂ (λ x y. x ++ y ++ bound (s + 1) (function_type (how_many ts))) (operator sc (s + 1) one_value) (operands sc (s + 1 + span one_value t)))
    rows_same (m.call i t u ts) sc s k =
        let home_part = rows_same t in
        let name_part = rows_same u in
        let operands = all_same ts in
        let count = call_results k (call_gives t u (how_many ts)) in
        named_same (call_names t u)
        (λ f. all_rows P home sc (s + count) ts ++ called_rows P f.0 f.1 (how_many ts) (slots_from s count) (value_slots (s + count) ts))
        (λ f. all_rows Q home sc (s + count) ts ++ called_rows Q f.0 f.1 (how_many ts) (slots_from s count) (value_slots (s + count) ts))
        (rows P home sc (s + count) one_value t ++ rows P home sc (s + count + span one_value t) one_value u ++ all_rows P home sc (s + count + (span one_value t + span one_value u)) ts)
        (rows Q home sc (s + count) one_value t ++ rows Q home sc (s + count + span one_value t) one_value u ++ all_rows Q home sc (s + count + (span one_value t + span one_value u)) ts)
        (λ f. ap₂ (λ x y. x ++ y) (operands sc (s + count)) (called_same f.0 f.1 (how_many ts) (slots_from s count) (value_slots (s + count) ts)))
        (ap₂ (λ x y. x ++ y) (ap₂ (λ x y. x ++ y) (home_part sc (s + count) one_value) (name_part sc (s + count + span one_value t) one_value))
        (operands sc (s + count + (span one_value t + span one_value u))))
    rows_same (m.primop i x ts) sc s k = simp (all_same ts)
    rows_same (m.try i t xs u ys w) sc s k = simp (rows_same t, rows_same u, rows_same w)
    rows_same (m.receive i cs t u) sc s k = simp (clauses_same cs, rows_same t, rows_same u)
    rows_same (m.catch i t) sc s k = refl

    all_same : (ts : m.Trees) (sc : Scope) (s : ℕ) → all_rows P home sc s ts ≡ all_rows Q home sc s ts
    all_same m.no_tree sc s = refl
    all_same (m.and_tree t ts) sc s = simp (rows_same t, all_same ts)

    pairs_same : (ps : m.Pairs) (sc : Scope) (s : ℕ) → pair_rows P home sc s ps ≡ pair_rows Q home sc s ps
    pairs_same m.no_pair sc s = refl
    pairs_same (m.and_pair exact t u ps) sc s = simp (rows_same t, rows_same u, pairs_same ps)

    segments_same : (ss : m.Segments) (sc : Scope) (s : ℕ) → segment_rows P home sc s ss ≡ segment_rows Q home sc s ss
    segments_same m.no_segment sc s = refl
    segments_same (m.and_segment t ts ss) sc s = simp (rows_same t, all_same ts, segments_same ss)

    steps_same : (ss : m.Steps) (sc : Scope) (s : ℕ) → step_rows P home sc s ss ≡ step_rows Q home sc s ss
    steps_same m.no_step sc s = refl
    steps_same (m.and_let i xs t ss) sc s = simp (rows_same t, steps_same ss)
    steps_same (m.and_do i t ss) sc s = simp (rows_same t, steps_same ss)

    clauses_same : (cs : m.Clauses) (sc : Scope) (rs qs : List ℕ) (s : ℕ) (k : Ask) → clause_rows P home sc rs qs s k cs ≡ clause_rows Q home sc rs qs s k cs
    clauses_same m.no_clause sc rs qs s k = refl
    clauses_same (m.and_clause i ps g t cs) sc rs qs s k = simp (rows_same g, rows_same t, clauses_same cs)

  -- so a definition has one greatest solution by both
  pub solved_same : (xs : List VarName) (t : m.Tree) → solved P home xs t ≡ solved Q home xs t
  solved_same xs t = ap (λ rs. solution (together rs) (replicate (definition_slots xs t) any)) (rows_same t (parameter_scope xs) (length xs) one_value)
