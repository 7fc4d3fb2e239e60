-- Each finding is tied to a place of the module's text: form by form, as the walk reports them.
use Rattle.std.proofs.Common.{◌≡◌, inl, inr, ℕ, suc, ◌+◌, Bool, true, false, cond, List, [], ◌∷◌, ◌++◌, length, Option, Some, None, Contains, refl, sym, ap, subst, arith}
use Rattle.std.specs.Prelude.{unwrap_or}
use Rattle.std.proofs.lemmas.List.Elements.{Contains-append_left, Contains-append_right, Contains-append_cases}
use Rattle.type_kinds.proofs.Lists.{contains_none, contains_first, contains_later, contains_cases}
use Rattle.type_kinds.specs.declared.atom.Atom.{Atom}
use Rattle.core_ast.specs.declared.syntax.Mark.{Mark}
use Rattle.core_ast.specs.declared.syntax.Note.{Note}
use Rattle.core_ast.specs.declared.syntax.FunName.{FunName}
use Rattle.core_ast.specs.Model as m
use Rattle.core_ast.specs.Lengths.{how_many}
use Rattle.core_ast.specs.Named.{local_name}
use Rattle.core_scope.specs.declared.ask.Ask.{Ask}
use Rattle.core_scope.specs.declared.ask.Ask.TheVariants.{AnyNumber, Exactly}
use Rattle.core_scope.specs.Asks.{one_value, function_name, width}
use Rattle.type_lattice.specs.Types.{Type4, is_none, meet}
use Rattle.cons_tree.specs.Environments.{Types, State}
use Rattle.cons_tree.specs.Named.{naturals}
use Rattle.cons_gen_rows.specs.Counts.{call_names}
use Rattle.cons_gen_rows.specs.Words.{function_type}
use Rattle.warn_list.specs.declared.finding.Finding.{Finding}
use Rattle.warn_list.specs.declared.finding.FindingKind.{FindingKind}
use Rattle.warn_list.specs.declared.finding.FindingKind.TheVariants.{NoReturn, DeadCall, DeadClause, NeverCalled}
use Rattle.warn_list.specs.declared.finding.CallText.TheVariants.{Local, Remote, Value}
use Rattle.module_flow_calls.specs.declared.node_context.NodeContext.{NodeContext}
use Rattle.module_flow_calls.specs.NodeContext.{under_steps, at_node}
use Rattle.module_flow_calls.specs.TypeLists.{Given, where_given, first}
use Rattle.module_flow_calls.specs.Calls.{called}
use Rattle.module_flow_state.specs.Applications.{may_apply, unless_given, unless_function}
use Rattle.module_flow_state.specs.Scopes.{WalkScope, with_functions, with_variables}
use Rattle.module_flow_state.specs.States.{parameters_of}
use Rattle.module_flow_state.specs.World.{World, lenient}
use Rattle.module_flow_walk.specs.Clauses.{head_solved, inside}
use Rattle.module_flow_walk.specs.Contributions.{listed_by, where_entered, where_limited, where_seen}
use Rattle.module_flow_walk.specs.Findings.{either_found, found, found_in_all, found_in_pairs, found_in_segments, found_in_steps, found_in_clauses, found_in_functions}
use Rattle.module_flow_walk.specs.Walk.{then as and_then, matched_slots, seen_by_clauses, seen_by_messages, see_steps, walk, walk_all}
use Rattle.module_flow.specs.Flow.{gives_nothing, unless_entered, functions_reported}
use Rattle.module_flow_frame.specs.Sites.{Speaks, definition, application, call, clause, Site, noted_line, is_generated, call_site, through, sites, sites_of_all, sites_of_pairs}
use Rattle.module_flow_frame.specs.Sites.{sites_of_segments, sites_of_steps, sites_of_clauses, sites_of_defs, sites_of_patterns, definition_sites, Fits, IsTied, AreTied}

-- the context of notes
abbrev pub context_of : List Note → NodeContext
context_of ns = record { quiet = is_generated ns; line = noted_line ns }

pub through_steps : (ns : List Note) (ss : m.Steps) → under_steps (context_of ns) ss ≡ context_of (through ns ss)
through_steps ns m.no_step = refl
through_steps ns (m.and_let i xs t ss) = through_steps (i.note ∷ ns) ss
through_steps ns (m.and_do i t ss) = through_steps (i.note ∷ ns) ss

-- ---- lists of findings

-- the places of the second list are among those of the first
pub record Holds (a b : List Site) : Type 0 where
  pub up : (s : Site) → Contains b s → Contains a s

abbrev own : Site → List Site
own s = s ∷ []

by_way : {a b c : List Site} → Holds a b → Holds b c → Holds a c
by_way x y = record { up = λ s h. x.up s (y.up s h) }

at_first : (s : Site) (a : List Site) → Holds (s ∷ a) (own s)
at_first s a = record {
  up = λ t h. elim (contains_cases s t [] h) [ inl e ↦ subst (λ x. Contains (s ∷ a) x) e (contains_first s a) | inr k ↦ absurd (contains_none t k) ];
}

pub after_first : (s : Site) (a : List Site) → Holds (s ∷ a) a
after_first s a = record { up = λ t h. contains_later s t a h }

pub in_left : (a b : List Site) → Holds (a ++ b) a
in_left a b = record { up = λ s h. Contains-append_left a b s h }

pub in_right : (a b : List Site) → Holds (a ++ b) b
in_right a b = record { up = λ s h. Contains-append_right a b s h }

pub within : {a b : List Site} {fs : List Finding} → Holds a b → AreTied b fs → AreTied a fs
within {a} {b} up x = record {
  each = λ f h. let t = x.each f h in record { site = t.site; stands = up.up t.site t.stands; label = t.label; line = t.line; fits = t.fits; written = t.written };
}

pub none_tied : (a : List Site) → AreTied a []
none_tied a = record { each = λ f h. absurd (contains_none f h) }

pub joined : {a : List Site} {fs gs : List Finding} → AreTied a fs → AreTied a gs → AreTied a (fs ++ gs)
joined {a} {fs} {gs} x y = record { each = λ f h. elim (Contains-append_cases fs gs f h) [ inl k ↦ x.each f k | inr k ↦ y.each f k ] }

in_both : {a b : List Site} {fs gs : List Finding} → AreTied a fs → AreTied b gs → AreTied (a ++ b) (fs ++ gs)
in_both {a} {b} x y = joined (within (in_left a b) x) (within (in_right a b) y)

-- what is found at a node
pub tied_at : (ns : List Note) (i : Mark) (kind : FindingKind) (s : Speaks) → Fits kind s → AreTied (own (record { mark = i; speaks = s; notes = ns })) (at_node (context_of ns) i kind)
tied_at ns i kind s fits = by (is_generated ns) refl
  where
    here : Site
    here = record { mark = i; speaks = s; notes = ns }

    one : Finding
    one = record { label = i.label; kind = kind; line = unwrap_or (noted_line ns) i.place.line }

    by : (b : Bool) → is_generated ns ≡ b → AreTied (own here) (cond b [] (one ∷ []))
    by true is = none_tied (own here)
    by false is = record {
      each = λ f h. elim (contains_cases one f [] h) [
        | inl e ↦ subst (λ x. IsTied (own here) x) e (record { site = here; stands = contains_first here []; label = refl; line = refl; fits = fits; written = is })
        | inr k ↦ absurd (contains_none f k)
      ];
    }

-- ---- what is found only where something is so

if_given : {a : List Site} (o : Given) (f : List Type4 → List Finding) → ((ts : List Type4) → o ≡ Some ts → AreTied a (f ts)) → AreTied a (where_given o f)
if_given {a} None f h = none_tied a
if_given (Some ts) f h = h ts refl

if_seen : {a : List Site} (o : Option WalkScope) (f : WalkScope → List Finding) → ((sc : WalkScope) → AreTied a (f sc)) → AreTied a (where_seen o f)
if_seen {a} None f h = none_tied a
if_seen (Some sc) f h = h sc

if_entered : {a : List Site} (o : Option (List Type4)) (f : List Type4 → List Finding) → ((ts : List Type4) → AreTied a (f ts)) → AreTied a (where_entered o f)
if_entered {a} None f h = none_tied a
if_entered (Some ts) f h = h ts

pub if_so : {a : List Site} (b : Bool) (fs : List Finding) → AreTied a fs → AreTied a (cond b fs [])
if_so true fs h = h
if_so {a} false fs h = none_tied a

if_not : {a : List Site} (b : Bool) (fs : List Finding) → AreTied a fs → AreTied a (cond b [] fs)
if_not {a} true fs h = none_tied a
if_not false fs h = h

if_limited : {a : List Site} (limit : List Type4) (fs : List Finding) → AreTied a fs → AreTied a (where_limited limit fs)
if_limited limit fs h = if_not (is_none (meet (first limit) naturals)) fs h

if_unless : {a : List Site} (o : Given) (fs : List Finding) → AreTied a fs → AreTied a (unless_given o fs)
if_unless None fs h = h
if_unless {a} (Some ts) fs h = none_tied a

if_unentered : {a : List Site} (o : Option (List Type4)) (fs : List Finding) → AreTied a fs → AreTied a (unless_entered o fs)
if_unentered None fs h = h
if_unentered {a} (Some ts) fs h = none_tied a

if_function : {a : List Site} (t : Type4) (n : ℕ) (fs : List Finding) → AreTied a fs → AreTied a (unless_function t n fs)
if_function t n fs h = if_so (is_none (meet t (function_type n))) fs h

if_either : {a : List Site} (o : State) (fs : List Finding) (f : Types → List Finding) → AreTied a fs → ((ts : Types) → AreTied a (f ts)) → AreTied a (either_found o fs f)
if_either None fs f h k = h
if_either (Some ts) fs f h k = k ts

-- ---- the walk

module _ (W : World) where
  -- as many types as expressions
  all_long : (sc : WalkScope) (ts : m.Trees) (us : List Type4) → walk_all W sc ts ≡ Some us → length us ≡ how_many ts
  all_long sc m.no_tree us e = let same : [] ≡ us = cc in ap length (sym same)
  all_long sc (m.and_tree t ts) us e = by (walk W sc one_value t) (walk_all W sc ts) refl e (all_long sc ts)
    where
      some_is : (xs : List Type4) → Some xs ≡ Some us → xs ≡ us
      some_is xs e = cc

      by : (g r : Given) → walk_all W sc ts ≡ r → and_then g (λ vs. and_then r (λ more. Some (first vs ∷ more))) ≡ Some us
          → ((ws : List Type4) → walk_all W sc ts ≡ Some ws → length ws ≡ how_many ts) → length us ≡ how_many ts + 1
      by None r is e rest = absurd cc
      by (Some vs) None is e rest = absurd cc
      by (Some vs) (Some ws) is e rest =
          let one_more : suc (length ws) ≡ length us = ap length (some_is (first vs ∷ ws) e) in
          omega (arith, sym one_more, rest ws is)

  -- an application: of a name, or of a value
  apply_tied :
      (ns : List Note) (sc : WalkScope) (i : Mark) (o : Option FunName) (operator : Given) (ts : m.Trees) (a b : List Site) (fs gs : List Finding) →
      AreTied a fs → AreTied b gs →
      AreTied (record { mark = i; speaks = application o (how_many ts); notes = ns } ∷ (a ++ b)) (
      listed_by o
      (λ f. gs ++ where_given (walk_all W sc ts) (λ us. unless_given (may_apply W sc f us) (at_node (context_of ns) i (DeadCall (Local f)))))
      (fs ++ gs ++ where_given operator (λ op. where_given (walk_all W sc ts) (λ us. unless_function (first op) (length us) (at_node (context_of ns) i (DeadCall (Value (length us))))))))
  apply_tied ns sc i (Some f) operator ts a b fs gs x y =
      let here : Site = record { mark = i; speaks = application (Some f) (how_many ts); notes = ns } in
      joined (within (by_way (after_first here (a ++ b)) (in_right a b)) y) (
      if_given (walk_all W sc ts) (λ us. unless_given (may_apply W sc f us) (at_node (context_of ns) i (DeadCall (Local f)))) (λ us e.
      if_unless (may_apply W sc f us) (at_node (context_of ns) i (DeadCall (Local f))) (within (at_first here (a ++ b)) (tied_at ns i (DeadCall (Local f)) (application (Some f) (how_many ts)) refl))))
  apply_tied ns sc i None operator ts a b fs gs x y =
      let here : Site = record { mark = i; speaks = application None (how_many ts); notes = ns } in
      joined (joined (within (by_way (after_first here (a ++ b)) (in_left a b)) x) (within (by_way (after_first here (a ++ b)) (in_right a b)) y)) (
      if_given operator (λ op. where_given (walk_all W sc ts) (λ us. unless_function (first op) (length us) (at_node (context_of ns) i (DeadCall (Value (length us)))))) (λ op e.
      if_given (walk_all W sc ts) (λ us. unless_function (first op) (length us) (at_node (context_of ns) i (DeadCall (Value (length us))))) (λ us long.
      if_function (first op) (length us) (at_node (context_of ns) i (DeadCall (Value (length us)))) (
      within (at_first here (a ++ b)) (tied_at ns i (DeadCall (Value (length us))) (application None (how_many ts)) (ap Value (all_long sc ts us long)))))))

  -- a call: by literal names, or by others, which isn't reported
  call_tied :
      (ns : List Note) (sc : WalkScope) (i : Mark) (o : Option (Atom × Atom)) (ts : m.Trees) (a b c : List Site) (fs gs hs : List Finding) →
      AreTied a fs → AreTied b gs → AreTied c hs →
      AreTied (call_site ns i o (how_many ts) ++ a ++ b ++ c) (
      listed_by o
      (λ names. hs ++ where_given (walk_all W sc ts) (λ us. unless_given (called (lenient W) names.0 names.1 us) (at_node (context_of ns) i (DeadCall (Remote names.0 (function_name names.1 (length us)))))))
      (fs ++ gs ++ hs))
  call_tied ns sc i (Some names) ts a b c fs gs hs x y z =
      let here : Site = record { mark = i; speaks = call names.0 (function_name names.1 (how_many ts)); notes = ns } in
      joined (within (in_right (own here ++ a ++ b) c) z) (
      if_given (walk_all W sc ts) (λ us. unless_given (called (lenient W) names.0 names.1 us) (at_node (context_of ns) i (DeadCall (Remote names.0 (function_name names.1 (length us)))))) (λ us long.
      if_unless (called (lenient W) names.0 names.1 us) (at_node (context_of ns) i (DeadCall (Remote names.0 (function_name names.1 (length us))))) (
      within (by_way (in_left (own here ++ a ++ b) c) (by_way (in_left (own here ++ a) b) (in_left (own here) a))) (
      tied_at ns i (DeadCall (Remote names.0 (function_name names.1 (length us)))) (call names.0 (function_name names.1 (how_many ts))) (
      ap (λ n. Remote names.0 (function_name names.1 n)) (all_long sc ts us long))))))
  call_tied ns sc i None ts a b c fs gs hs x y z = in_both (in_both x y) z

  mutual
    pub found_tied : (ns : List Note) (sc : WalkScope) (k : Ask) (t : m.Tree) → AreTied (sites ns t) (found W (context_of ns) sc k t)
    found_tied ns sc k (m.variable i x) = none_tied []
    found_tied ns sc k (m.local i f) = none_tied []
    found_tied ns sc k (m.external i x f) = none_tied []
    found_tied ns sc k (m.literal i l) = none_tied []
    found_tied ns sc k (m.function i xs t) = found_tied (i.note ∷ ns) (with_variables sc xs []) one_value t
    found_tied ns sc k (m.listed i ts t) = in_both (all_tied (i.note ∷ ns) sc ts) (found_tied (i.note ∷ ns) sc one_value t)
    found_tied ns sc k (m.tuple i ts) = all_tied (i.note ∷ ns) sc ts
    found_tied ns sc k (m.new_map i ps) = pairs_tied (i.note ∷ ns) sc ps
    found_tied ns sc k (m.updated_map i ps t) = in_both (pairs_tied (i.note ∷ ns) sc ps) (found_tied (i.note ∷ ns) sc one_value t)
    found_tied ns sc k (m.binary i ss) = segments_tied (i.note ∷ ns) sc ss
    found_tied ns sc k (m.values i ts) = all_tied (i.note ∷ ns) sc ts
    found_tied ns sc k (m.chain i ss t) =
        in_both (steps_tied (i.note ∷ ns) sc ss) (
        if_seen (see_steps W sc ss) (λ inner. found W (under_steps (context_of (i.note ∷ ns)) ss) inner k t) (λ inner.
        subst (λ a. AreTied (sites (through (i.note ∷ ns) ss) t) (found W a inner k t)) (sym (through_steps (i.note ∷ ns) ss)) (found_tied (through (i.note ∷ ns) ss) inner k t)))
    found_tied ns sc k (m.case i t cs) =
        in_both (found_tied (i.note ∷ ns) sc (Exactly (width cs)) t) (
        if_given (walk W sc (Exactly (width cs)) t) (λ ts. found_in_clauses W (context_of (i.note ∷ ns)) (seen_by_clauses sc cs ts) k (matched_slots sc t cs) cs) (λ ts e.
        clauses_tied (i.note ∷ ns) (seen_by_clauses sc cs ts) k (matched_slots sc t cs) cs))
    found_tied ns sc k (m.letrec i ds t) = in_both (functions_tied (i.note ∷ ns) (with_functions sc ds) ds) (found_tied (i.note ∷ ns) (with_functions sc ds) k t)
    found_tied ns sc k (m.apply i t ts) =
        apply_tied (i.note ∷ ns) sc i (local_name t) (walk W sc one_value t) ts (sites (i.note ∷ ns) t) (sites_of_all (i.note ∷ ns) ts)
        (found W (context_of (i.note ∷ ns)) sc one_value t) (found_in_all W (context_of (i.note ∷ ns)) sc ts)
        (found_tied (i.note ∷ ns) sc one_value t) (all_tied (i.note ∷ ns) sc ts)
    found_tied ns sc k (m.call i t u ts) =
        call_tied (i.note ∷ ns) sc i (call_names t u) ts (sites (i.note ∷ ns) t) (sites (i.note ∷ ns) u) (sites_of_all (i.note ∷ ns) ts)
        (found W (context_of (i.note ∷ ns)) sc one_value t) (found W (context_of (i.note ∷ ns)) sc one_value u) (found_in_all W (context_of (i.note ∷ ns)) sc ts)
        (found_tied (i.note ∷ ns) sc one_value t) (found_tied (i.note ∷ ns) sc one_value u) (all_tied (i.note ∷ ns) sc ts)
    found_tied ns sc k (m.primop i x ts) = all_tied (i.note ∷ ns) sc ts
    found_tied ns sc k (m.try i t xs u ys w) =
        in_both (in_both (found_tied (i.note ∷ ns) sc (Exactly (length xs)) t) (
        if_given (walk W sc (Exactly (length xs)) t) (λ ts. found W (context_of (i.note ∷ ns)) (with_variables sc xs ts) k u) (λ ts e. found_tied (i.note ∷ ns) (with_variables sc xs ts) k u)))
        (found_tied (i.note ∷ ns) (with_variables sc ys []) k w)
    found_tied ns sc k (m.receive i cs t u) =
        let a : List Site = sites_of_clauses (i.note ∷ ns) cs in
        let b : List Site = sites (i.note ∷ ns) t in
        let c : List Site = sites (i.note ∷ ns) u in
        joined (within (by_way (in_left (a ++ b) c) (in_right a b)) (found_tied (i.note ∷ ns) sc one_value t)) (
        if_given (walk W sc one_value t) (λ limit. found_in_clauses W (context_of (i.note ∷ ns)) (seen_by_messages sc) k (length sc.types ∷ []) cs ++ where_limited limit (found W (context_of (i.note ∷ ns)) sc k u)) (λ limit e.
        joined (within (by_way (in_left (a ++ b) c) (in_left a b)) (clauses_tied (i.note ∷ ns) (seen_by_messages sc) k (length sc.types ∷ []) cs))
        (if_limited limit (found W (context_of (i.note ∷ ns)) sc k u) (within (in_right (a ++ b) c) (found_tied (i.note ∷ ns) sc k u)))))
    found_tied ns sc k (m.catch i t) = found_tied (i.note ∷ ns) sc one_value t

    all_tied : (ns : List Note) (sc : WalkScope) (ts : m.Trees) → AreTied (sites_of_all ns ts) (found_in_all W (context_of ns) sc ts)
    all_tied ns sc m.no_tree = none_tied []
    all_tied ns sc (m.and_tree t ts) = in_both (found_tied ns sc one_value t) (all_tied ns sc ts)

    pairs_tied : (ns : List Note) (sc : WalkScope) (ps : m.Pairs) → AreTied (sites_of_pairs ns ps) (found_in_pairs W (context_of ns) sc ps)
    pairs_tied ns sc m.no_pair = none_tied []
    pairs_tied ns sc (m.and_pair exact t u ps) = in_both (in_both (found_tied ns sc one_value t) (found_tied ns sc one_value u)) (pairs_tied ns sc ps)

    segments_tied : (ns : List Note) (sc : WalkScope) (ss : m.Segments) → AreTied (sites_of_segments ns ss) (found_in_segments W (context_of ns) sc ss)
    segments_tied ns sc m.no_segment = none_tied []
    segments_tied ns sc (m.and_segment t ts ss) = in_both (in_both (found_tied ns sc one_value t) (all_tied ns sc ts)) (segments_tied ns sc ss)

    steps_tied : (ns : List Note) (sc : WalkScope) (ss : m.Steps) → AreTied (sites_of_steps ns ss) (found_in_steps W (context_of ns) sc ss)
    steps_tied ns sc m.no_step = none_tied []
    steps_tied ns sc (m.and_let i xs u ss) =
        in_both (found_tied (i.note ∷ ns) sc (Exactly (length xs)) u) (
        if_given (walk W sc (Exactly (length xs)) u) (λ us. found_in_steps W (context_of (i.note ∷ ns)) (with_variables sc xs us) ss) (λ us e. steps_tied (i.note ∷ ns) (with_variables sc xs us) ss))
    steps_tied ns sc (m.and_do i u ss) =
        in_both (found_tied (i.note ∷ ns) sc AnyNumber u) (
        if_given (walk W sc AnyNumber u) (λ us. found_in_steps W (context_of (i.note ∷ ns)) sc ss) (λ us e. steps_tied (i.note ∷ ns) sc ss))

    clauses_tied : (ns : List Note) (sc : WalkScope) (k : Ask) (qs : List ℕ) (cs : m.Clauses) → AreTied (sites_of_clauses ns cs) (found_in_clauses W (context_of ns) sc k qs cs)
    clauses_tied ns sc k qs m.no_clause = none_tied []
    clauses_tied ns sc k qs (m.and_clause i ps g t cs) =
        let here : Site = record { mark = i; speaks = clause; notes = i.note ∷ ns } in
        let a : List Site = sites_of_patterns (i.note ∷ ns) ps ++ sites (i.note ∷ ns) g in
        let b : List Site = sites (i.note ∷ ns) t in
        let c : List Site = sites_of_clauses ns cs in
        joined (
        if_either (head_solved W sc qs ps g) (at_node (context_of (i.note ∷ ns)) i DeadClause) (λ solved. found W (context_of (i.note ∷ ns)) (inside sc ps solved) k t)
        (within (at_first here (a ++ b ++ c)) (tied_at (i.note ∷ ns) i DeadClause clause refl))
        (λ solved. within (by_way (after_first here (a ++ b ++ c)) (by_way (in_left (a ++ b) c) (in_right a b))) (found_tied (i.note ∷ ns) (inside sc ps solved) k t)))
        (within (by_way (after_first here (a ++ b ++ c)) (in_right (a ++ b) c)) (clauses_tied ns sc k qs cs))

    pub functions_tied : (ns : List Note) (sc : WalkScope) (ds : m.Defs) → AreTied (sites_of_defs ns ds) (found_in_functions W (context_of ns) sc ds)
    functions_tied ns sc m.no_def = none_tied []
    functions_tied ns sc (m.and_def f i xs t ds) =
        in_both (if_entered (parameters_of W.state i.label) (λ ts. found W (context_of (i.note ∷ ns)) (with_variables sc xs ts) one_value t) (λ ts. found_tied (i.note ∷ ns) (with_variables sc xs ts) one_value t))
        (functions_tied ns sc ds)

  -- ---- the functions themselves

  pub definitions_tied : (ns : List Note) (ds : m.Defs) → AreTied (definition_sites ns ds) (functions_reported W (context_of ns) ds)
  definitions_tied ns m.no_def = none_tied []
  definitions_tied ns (m.and_def f i xs t ds) =
      let here : Site = record { mark = i; speaks = definition f; notes = i.note ∷ ns } in
      let a : List Site = definition_sites ns ds in
      joined (joined
      (if_so (gives_nothing (W.callee W.home f)) (at_node (context_of (i.note ∷ ns)) i (NoReturn f)) (within (at_first here a) (tied_at (i.note ∷ ns) i (NoReturn f) (definition f) refl)))
      (if_unentered (parameters_of W.state i.label) (at_node (context_of (i.note ∷ ns)) i (NeverCalled f)) (within (at_first here a) (tied_at (i.note ∷ ns) i (NeverCalled f) (definition f) refl))))
      (within (after_first here a) (definitions_tied ns ds))
