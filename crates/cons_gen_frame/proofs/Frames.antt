-- What the rows of an expression and of the head of a clause rest on: of all that a pass knows, only on what is known of the functions that
-- the expression, or the guard, calls.
use Rattle.std.proofs.Common.{◌≡◌, ℕ, ◌+◌, Bool, true, false, List, [], ◌∷◌, ◌++◌, inl, inr, refl, ap, ap₂, ◌∙◌}
use Rattle.std.specs.Prelude.{Option, Some, None, eqb, if◌then◌else◌}
use Rattle.type_kinds.specs.declared.atom.Atom.{Atom}
use Rattle.core_ast.specs.declared.syntax.FunName.{FunName}
use Rattle.core_ast.specs.Model as m
use Rattle.core_ast.specs.Lengths.{how_many}
use Rattle.core_ast.specs.Named.{literal_atom, local_name}
use Rattle.core_scope.specs.declared.ask.Ask.{Ask}
use Rattle.core_scope.specs.Asks.{one_value, call_gives, erlang, function_name}
use Rattle.core_scope.specs.Names.{same_atom, has_function, defined_names}
use Rattle.call_graph.specs.Targets.CallTarget.{defined, inner, remote}
use Rattle.call_graph.specs.Targets.{targets_of, applied}
use Rattle.cons_tree.specs.Constraints.{only}
use Rattle.cons_tree.specs.Named.{just_true}
use Rattle.cons_tree.specs.declared.parts.Part.TheVariants.{Bound}
use Rattle.cons_tree.specs.declared.parts.Callee.{Callee}
use Rattle.cons_tree.specs.declared.parts.Callee.TheVariants.{Known, Local, Undefined, Unknown}
use Rattle.bif_types.specs.declared.bif.Bif.{Bif}
use Rattle.bif_types.specs.Table.{looked_up}
use Rattle.cons_gen_rows.specs.Passes.{Knowledge, by_name, by_names, built_in_rows, with_result, called_rows, applied_rows}
use Rattle.cons_gen.specs.Rows.{rows, all_rows, pair_rows, segment_rows, step_rows, clause_rows, named_or}
use Rattle.cons_gen_rows.specs.Scopes.{Scope, Binding, with_bindings}
use Rattle.cons_gen_rows.specs.Slots.{slots_from}
use Rattle.cons_gen.specs.Spans.{span, value_slots}
use Rattle.cons_gen_rows.specs.Counts.{call_names, call_results}
use Rattle.cons_gen_rows.specs.Words.{Rows, bound, together, function_type}
use Rattle.cons_gen_rows.specs.Patterns.{outer_span, outer_bindings, outer_rows}
use Rattle.cons_gen.specs.Made.{clause_result, head_rows}
use Rattle.cons_gen_frame.specs.Agreement.{GivesNothing, AreAlike, Agrees, EachAgrees}
use Rattle.cons_gen_frame.specs.Frame.{knowing, RowsFrame, HeadFrame}
use Rattle.cons_gen_frame.proofs.Targets.{TreeAgrees, TreesAgree, PairsAgree, SegmentsAgree, StepsAgree, ClausesAgree, tree_agrees, apply_target, call_target}
use Rattle.cons_gen_frame.proofs.Choices.{both_ways, first_way}

named_same : {A : Type 0} (o : Option A) (f g : A → Rows) (r q : Rows) → ((x : A) → o ≡ Some x → f x ≡ g x) → r ≡ q → named_or o f r ≡ named_or o g q
named_same None f g r q some none = none
named_same (Some x) f g r q some none = some x refl

module _ (lenient : Bool) (own : Atom → FunName → Bool) (c d : Atom → FunName → Callee) (home : Atom) where
  abbrev P : Knowledge
  P = knowing lenient own c

  abbrev Q : Knowledge
  Q = knowing lenient own d

  -- ---- one call

  by_names_pass : (h : Atom) (f : FunName) (x : Callee) (s : ℕ) (ss : List ℕ) → by_names P h f x s ss ≡ by_names Q h f x s ss
  by_names_pass h f (Known summary) s ss = refl
  by_names_pass h f (Local summary) s ss = refl
  by_names_pass h f Undefined s ss = refl
  by_names_pass h f Unknown s ss = refl

  by_name_pass : (h : Atom) (f : FunName) (x : Callee) (s : ℕ) (ss : List ℕ) → by_name P h f x s ss ≡ by_name Q h f x s ss
  by_name_pass h f (Known summary) s ss = refl
  by_name_pass h f (Local summary) s ss = refl
  by_name_pass h f Undefined s ss = refl
  by_name_pass h f Unknown s ss = refl

  nothing_given : (h : Atom) (f : FunName) (x y : Callee) (s : ℕ) (ss : List ℕ) → GivesNothing x → GivesNothing y → by_names P h f x s ss ≡ by_names Q h f y s ss
  nothing_given h f (Known summary) y s ss a b = absurd a
  nothing_given h f (Local summary) (Known other) s ss a b = absurd b
  nothing_given h f (Local summary) (Local other) s ss a b = refl
  nothing_given h f (Local summary) Undefined s ss a b = refl
  nothing_given h f (Local summary) Unknown s ss a b = absurd b
  nothing_given h f Undefined (Known other) s ss a b = absurd b
  nothing_given h f Undefined (Local other) s ss a b = refl
  nothing_given h f Undefined Undefined s ss a b = refl
  nothing_given h f Undefined Unknown s ss a b = absurd b
  nothing_given h f Unknown y s ss a b = absurd a

  by_names_same : (h : Atom) (f : FunName) (x y : Callee) (s : ℕ) (ss : List ℕ) → AreAlike x y → by_names P h f x s ss ≡ by_names Q h f y s ss
  by_names_same h f x y s ss (inl e) = by_names_pass h f x s ss ∙ ap (λ z. by_names Q h f z s ss) e
  by_names_same h f x y s ss (inr both) = nothing_given h f x y s ss both.0 both.1

  built_in_same : (o : Option Bif) (rs ss : List ℕ) → built_in_rows P o rs ss ≡ built_in_rows Q o rs ss
  built_in_same None rs ss = refl
  built_in_same (Some bif) [] ss = refl
  built_in_same (Some bif) (r ∷ []) ss = refl
  built_in_same (Some bif) (r ∷ q ∷ rs) ss = refl

  with_result_same : (rs : List ℕ) (f g : ℕ → Rows) → ((s : ℕ) → f s ≡ g s) → with_result rs f ≡ with_result rs g
  with_result_same [] f g h = refl
  with_result_same (s ∷ rs) f g h = h s

  called_same : (h name : Atom) (n : ℕ) (rs ss : List ℕ) → Agrees c d home (remote h (function_name name n)) → called_rows P h name n rs ss ≡ called_rows Q h name n rs ss
  called_same h name n rs ss (inl e) =
      first_way (same_atom h erlang) (built_in_rows P (looked_up name n) rs ss)
      (with_result rs (λ s. by_names P h (function_name name n) (c h (function_name name n)) s ss)) (built_in_rows Q (looked_up name n) rs ss)
      (with_result rs (λ s. by_names Q h (function_name name n) (d h (function_name name n)) s ss)) e (built_in_same (looked_up name n) rs ss)
  called_same h name n rs ss (inr alike) =
      both_ways (same_atom h erlang) (built_in_same (looked_up name n) rs ss)
      (with_result_same rs (λ s. by_names P h (function_name name n) (c h (function_name name n)) s ss) (λ s. by_names Q h (function_name name n) (d h (function_name name n)) s ss)
      (λ s. by_names_same h (function_name name n) (c h (function_name name n)) (d h (function_name name n)) s ss alike))

  applied_by : (t : Bool) (f : FunName) (n s : ℕ) (ss : List ℕ) → Agrees c d home (if t then inner f n else defined f n)
      → (if t then [] else by_name P home f (c home f) s ss) ≡ (if t then [] else by_name Q home f (d home f) s ss)
  applied_by true f n s ss h = refl
  applied_by false f n s ss h = by_name_pass home f (c home f) s ss ∙ ap (λ x. by_name Q home f x s ss) h

  applied_same : (locals : List FunName) (f : FunName) (n s : ℕ) (ss : List ℕ) → EachAgrees c d home (targets_of (applied locals n (Some f)))
      → applied_rows P home locals f n s ss ≡ applied_rows Q home locals f n s ss
  applied_same locals f n s ss h = both_ways (eqb f.arity n) (applied_by (has_function locals f) f n s ss h.0) refl

  -- ---- all rows

  abbrev scope : List Binding → List FunName → Scope
  scope vs fs = record { variables = vs; functions = fs }

  mutual
    rows_same : (fs : List FunName) (t : m.Tree) → TreeAgrees c d home fs t → (vs : List Binding) (s : ℕ) (k : Ask) → rows P home (scope vs fs) s k t ≡ rows Q home (scope vs fs) s k t
    rows_same fs (m.variable i x) h vs s k = refl
    rows_same fs (m.local i f) h vs s k = refl
    rows_same fs (m.external i x f) h vs s k = refl
    rows_same fs (m.literal i l) h vs s k = refl
    rows_same fs (m.function i xs t) h vs s k = refl
    rows_same fs (m.listed i ts t) h vs s k =
        simp (all_same fs ts h.0, rows_same fs t h.1)
    rows_same fs (m.tuple i ts) h vs s k = simp (all_same fs ts h)
    rows_same fs (m.new_map i ps) h vs s k = simp (pairs_same fs ps h)
    rows_same fs (m.updated_map i ps t) h vs s k =
        simp (pairs_same fs ps h.0, rows_same fs t h.1)
    rows_same fs (m.binary i ss) h vs s k = simp (segments_same fs ss h)
    rows_same fs (m.values i ts) h vs s k = simp (all_same fs ts h)
    rows_same fs (m.chain i ss t) h vs s k =
        simp (steps_same fs ss h.0, rows_same fs t h.1)
    rows_same fs (m.case i t cs) h vs s k =
        simp (rows_same fs t h.0, clauses_same fs cs h.1)
    rows_same fs (m.letrec i ds t) h vs s k =
        simp (rows_same (fs ++ defined_names ds) t h.1)
    rows_same fs (m.apply i t ts) h vs s k =
        let operator = rows_same fs t h.1 in
        let operands = all_same fs ts h.2 in
        named_same (local_name t)
        (λ f. all_rows P home (scope vs fs) (s + 1) ts ++ applied_rows P home fs f (how_many ts) s (value_slots (s + 1) ts))
        (λ f. all_rows Q home (scope vs fs) (s + 1) ts ++ applied_rows Q home fs f (how_many ts) s (value_slots (s + 1) ts))
        (rows P home (scope vs fs) (s + 1) one_value t ++ all_rows P home (scope vs fs) (s + 1 + span one_value t) ts ++ bound (s + 1) (function_type (how_many ts)))
        (rows Q home (scope vs fs) (s + 1) one_value t ++ all_rows Q home (scope vs fs) (s + 1 + span one_value t) ts ++ bound (s + 1) (function_type (how_many ts)))
        (λ f e. ap₂ (λ x y. x ++ y) (operands vs (s + 1)) (applied_same fs f (how_many ts) s (value_slots (s + 1) ts) (apply_target c d home fs (how_many ts) (local_name t) h.0 f e)))
        (ap₂ (λ x y. x ++ y ++ bound (s + 1) (function_type (how_many ts))) (operator vs (s + 1) one_value) (operands vs (s + 1 + span one_value t)))
    rows_same fs (m.call i t u ts) h vs s k =
        let home_part = rows_same fs t h.1 in
        let name_part = rows_same fs u h.2 in
        let operands = all_same fs ts h.3 in
        let count = call_results k (call_gives t u (how_many ts)) in
        named_same (call_names t u)
        (λ f. all_rows P home (scope vs fs) (s + count) ts ++ called_rows P f.0 f.1 (how_many ts) (slots_from s count) (value_slots (s + count) ts))
        (λ f. all_rows Q home (scope vs fs) (s + count) ts ++ called_rows Q f.0 f.1 (how_many ts) (slots_from s count) (value_slots (s + count) ts))
        (rows P home (scope vs fs) (s + count) one_value t ++ rows P home (scope vs fs) (s + count + span one_value t) one_value u ++ all_rows P home (scope vs fs) (s + count + (span one_value t + span one_value u)) ts)
        (rows Q home (scope vs fs) (s + count) one_value t ++ rows Q home (scope vs fs) (s + count + span one_value t) one_value u ++ all_rows Q home (scope vs fs) (s + count + (span one_value t + span one_value u)) ts)
        (λ x e. ap₂ (λ x y. x ++ y) (operands vs (s + count)) (called_same x.0 x.1 (how_many ts) (slots_from s count) (value_slots (s + count) ts) (call_target c d home (how_many ts) (literal_atom t) (literal_atom u) h.0 x e)))
        (ap₂ (λ x y. x ++ y) (ap₂ (λ x y. x ++ y) (home_part vs (s + count) one_value) (name_part vs (s + count + span one_value t) one_value))
        (operands vs (s + count + (span one_value t + span one_value u))))
    rows_same fs (m.primop i x ts) h vs s k = simp (all_same fs ts h)
    rows_same fs (m.try i t xs u ys w) h vs s k =
        simp (rows_same fs t h.0, rows_same fs u h.1, rows_same fs w h.2)
    rows_same fs (m.receive i cs t u) h vs s k =
        simp (clauses_same fs cs h.0, rows_same fs t h.1, rows_same fs u h.2)
    rows_same fs (m.catch i t) h vs s k = refl

    all_same : (fs : List FunName) (ts : m.Trees) → TreesAgree c d home fs ts → (vs : List Binding) (s : ℕ) → all_rows P home (scope vs fs) s ts ≡ all_rows Q home (scope vs fs) s ts
    all_same fs m.no_tree h vs s = refl
    all_same fs (m.and_tree t ts) h vs s =
        simp (rows_same fs t h.0, all_same fs ts h.1)

    pairs_same : (fs : List FunName) (ps : m.Pairs) → PairsAgree c d home fs ps → (vs : List Binding) (s : ℕ) → pair_rows P home (scope vs fs) s ps ≡ pair_rows Q home (scope vs fs) s ps
    pairs_same fs m.no_pair h vs s = refl
    pairs_same fs (m.and_pair exact t u ps) h vs s =
        simp (rows_same fs t h.0, rows_same fs u h.1, pairs_same fs ps h.2)

    segments_same : (fs : List FunName) (ss : m.Segments) → SegmentsAgree c d home fs ss → (vs : List Binding) (s : ℕ) → segment_rows P home (scope vs fs) s ss ≡ segment_rows Q home (scope vs fs) s ss
    segments_same fs m.no_segment h vs s = refl
    segments_same fs (m.and_segment t ts ss) h vs s =
        simp (rows_same fs t h.0, all_same fs ts h.1, segments_same fs ss h.2)

    steps_same : (fs : List FunName) (ss : m.Steps) → StepsAgree c d home fs ss → (vs : List Binding) (s : ℕ) → step_rows P home (scope vs fs) s ss ≡ step_rows Q home (scope vs fs) s ss
    steps_same fs m.no_step h vs s = refl
    steps_same fs (m.and_let i xs t ss) h vs s =
        simp (rows_same fs t h.0, steps_same fs ss h.1)
    steps_same fs (m.and_do i t ss) h vs s =
        simp (rows_same fs t h.0, steps_same fs ss h.1)

    clauses_same : (fs : List FunName) (cs : m.Clauses) → ClausesAgree c d home fs cs → (vs : List Binding) (rs qs : List ℕ) (s : ℕ) (k : Ask)
        → clause_rows P home (scope vs fs) rs qs s k cs ≡ clause_rows Q home (scope vs fs) rs qs s k cs
    clauses_same fs m.no_clause h vs rs qs s k = refl
    clauses_same fs (m.and_clause i ps g t cs) h vs rs qs s k =
        simp (rows_same fs g h.1, rows_same fs t h.2, clauses_same fs cs h.3)

-- the same, where they agree node by node
pub rows_by_nodes : (lenient : Bool) (own : Atom → FunName → Bool) (c d : Atom → FunName → Callee) (home : Atom) (sc : Scope) (t : m.Tree) → TreeAgrees c d home sc.functions t
    → (s : ℕ) (k : Ask) → rows (knowing lenient own c) home sc s k t ≡ rows (knowing lenient own d) home sc s k t
rows_by_nodes lenient own c d home sc t h s k = rows_same lenient own c d home sc.functions t h sc.variables s k

pub head_by_nodes : (lenient : Bool) (own : Atom → FunName → Bool) (c d : Atom → FunName → Callee) (home : Atom) (sc : Scope) (ps : m.Patterns) (g : m.Tree) → TreeAgrees c d home sc.functions g
    → (qs : List ℕ) (s : ℕ) → head_rows (knowing lenient own c) home sc qs s ps g ≡ head_rows (knowing lenient own d) home sc qs s ps g
head_by_nodes lenient own c d home sc ps g h qs s =
    ap (λ rs. together (outer_rows qs s ps) ∷ together rs ∷ only (Bound (clause_result s ps) just_true) ∷ [])
    (rows_by_nodes lenient own c d home (with_bindings sc (outer_bindings s ps)) g h (s + outer_span ps) one_value)

pub rows_frame : RowsFrame
rows_frame lenient own c d home sc t h = rows_by_nodes lenient own c d home sc t (tree_agrees c d home sc.functions t h)

pub head_frame : HeadFrame
head_frame lenient own c d home sc ps g h = head_by_nodes lenient own c d home sc ps g (tree_agrees c d home sc.functions g h)
