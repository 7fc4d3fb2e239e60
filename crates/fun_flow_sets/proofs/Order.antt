-- The rules of a text have its applications in the order of their labels, each once.
use Rattle.std.proofs.Common.{◌≡◌, ℕ, zero, suc, ◌+◌, Bool, true, false, if◌then◌else◌, List, [], ◌∷◌, ◌++◌, length, Option, Some, None, nat_eq, inl, inr, refl, sym, ap, ◌∙◌, subst, append_assoc}
use Rattle.std.specs.Prelude.{Contains}
use Rattle.type_kinds.proofs.Lists.{contains_first, contains_later, contains_cases}
use Rattle.type_kinds.specs.declared.atom.Atom.{Atom}
use Rattle.core_ast.specs.Lengths.{how_many}
use Rattle.core_ast.specs.Model as m
use Rattle.core_ast.specs.Named.{literal_atom, local_name}
use Rattle.core_ast.specs.declared.syntax.FunName.{FunName}
use Rattle.core_scope.specs.Asks.{function_name, one_value, width}
use Rattle.core_scope.specs.Labels.{labels, labels_of, labels_of_all, labels_of_pairs, labels_of_segments, labels_of_steps, labels_of_clauses}
use Rattle.core_scope.specs.Labels.{labels_of_defs, labels_of_pattern, labels_of_patterns, labels_of_pat_pairs, labels_of_pat_segments}
use Rattle.core_scope.specs.Names.{Distinct, has_function}
use Rattle.core_scope.specs.declared.ask.Ask.{Ask}
use Rattle.core_scope.specs.declared.ask.Ask.TheVariants.{AnyNumber, Exactly}
use Rattle.type_lattice_model.specs.Values.{Local}
use Rattle.core_meaning.specs.Programs.{Program, Found, built_in, exported, hidden, outside, found, function_named, locals_of}
use Rattle.fun_flow_sets.specs.Applications.{application_labels, IsLeftOf, left_none, left_here, left_out}
use Rattle.fun_flow_sets.specs.Items.{Place, anywhere, part, returned, Rule, holds, flows, applies}
use Rattle.fun_flow_sets.specs.Rules.{kept, places, places_of_all, places_of_pairs, after_steps, all_into, application_rules, argument_rules, call_rules, export_rules, found_rules, handing_on}
use Rattle.fun_flow_sets.specs.Rules.{in_function, into_parameters, into_parts, module_rules, name_rules, opens, opens_definition, passed_to, rules, rules_of_all, rules_of_clauses, rules_of_definitions}
use Rattle.fun_flow_sets.specs.Rules.{rules_of_heads, rules_of_pairs, rules_of_pat_pairs, rules_of_pat_segments, rules_of_pattern, rules_of_patterns, rules_of_segments, rules_of_steps}
use Rattle.fun_flow_sets.specs.Scopes.{Scope, definition_of, first, fit, in_frame, no_place, rest, with_heads, with_pattern, with_patterns, with_place, with_places}

-- ---- what is left of lists

none_left : (ys : List ℕ) → IsLeftOf [] ys
none_left [] = left_none
none_left (y ∷ ys) = left_out (none_left ys)

both_left : {xs ys zs ws : List ℕ} → IsLeftOf xs ys → IsLeftOf zs ws → IsLeftOf (xs ++ zs) (ys ++ ws)
both_left left_none h = h
both_left (left_here k) h = left_here (both_left k h)
both_left (left_out k) h = left_out (both_left k h)

left_contains : {xs ys : List ℕ} (z : ℕ) → IsLeftOf xs ys → Contains xs z → Contains ys z
left_contains z left_none h = h
left_contains z (left_out {y = y} {ys = ys} k) h = contains_later y z ys (left_contains z k h)
left_contains z (left_here {x = x} {xs = xs} {ys = ys} k) h = elim (contains_cases x z xs h) [
  | inl is ↦ subst (λ w. Contains (x ∷ ys) w) is (contains_first x ys)
  | inr more ↦ contains_later x z ys (left_contains z k more)
]

pub left_distinct : {xs ys : List ℕ} → IsLeftOf xs ys → Distinct ys → Distinct xs
left_distinct left_none h = h
left_distinct (left_out k) h = left_distinct k h.1
left_distinct (left_here {x = x} k) h = (λ i. h.0 (left_contains x k i), left_distinct k h.1)

labels_both : (rs qs : List Rule) → application_labels (rs ++ qs) ≡ application_labels rs ++ application_labels qs
labels_both [] qs = refl
labels_both (holds p x ∷ rs) qs = labels_both rs qs
labels_both (flows p q ∷ rs) qs = labels_both rs qs
labels_both (applies p n home label ∷ rs) qs = ap (λ ls. label ∷ ls) (labels_both rs qs)

-- the lists of a text are joined from the left
of_three : {xs : List ℕ} (ks ls ms : List ℕ) → IsLeftOf xs (ks ++ (ls ++ ms)) → IsLeftOf xs (ks ++ ls ++ ms)
of_three {xs} ks ls ms h = subst (IsLeftOf xs) (sym (append_assoc ks ls ms)) h

of_four : {xs : List ℕ} (ks ls ms ns : List ℕ) → IsLeftOf xs (ks ++ (ls ++ (ms ++ ns))) → IsLeftOf xs (ks ++ ls ++ ms ++ ns)
of_four {xs} ks ls ms ns h = subst (IsLeftOf xs) (sym (append_assoc (ks ++ ls) ms ns ∙ append_assoc ks ls (ms ++ ns))) h

-- ---- what is left of the labels of a text

abbrev InOrder : List Rule → List ℕ → Type 0
InOrder rs ls = IsLeftOf (application_labels rs) ls

both_in_order : (rs qs : List Rule) (ys zs : List ℕ) → InOrder rs ys → InOrder qs zs → InOrder (rs ++ qs) (ys ++ zs)
both_in_order rs qs ys zs h k = subst (λ ls. IsLeftOf ls (ys ++ zs)) (sym (labels_both rs qs)) (both_left h k)

all_quiet : (ps : List Place) (q : Place) → InOrder (all_into ps q) []
all_quiet [] q = left_none
all_quiet (p ∷ ps) q = all_quiet ps q

parts_quiet : (home : Atom) (label i : ℕ) (ps : List Place) → InOrder (into_parts home label i ps) []
parts_quiet home label i [] = left_none
parts_quiet home label i (p ∷ ps) = parts_quiet home label (i + 1) ps

parameters_quiet : (home : Atom) (label i : ℕ) (ps : List Place) → InOrder (into_parameters home label i ps) []
parameters_quiet home label i [] = left_none
parameters_quiet home label i (p ∷ ps) = parameters_quiet home label (i + 1) ps

opens_quiet : (home : Atom) (label i n : ℕ) → InOrder (opens home label i n) []
opens_quiet home label i zero = left_none
opens_quiet home label i (suc n) = opens_quiet home label (i + 1) n

opened_quiet : (home : Atom) (d : Option Local) → InOrder (opens_definition home d) []
opened_quiet home None = left_none
opened_quiet home (Some d) = opens_quiet home d.label 0 d.arity

name_quiet : (home : Atom) (label : ℕ) (d : Option Local) → InOrder (name_rules home label d) []
name_quiet home label None = left_none
name_quiet home label (Some d) = opens_quiet home d.label 0 d.arity

arguments_quiet : (home : Atom) (d : Option Local) (arity n : ℕ) (ps : List Place) → InOrder (argument_rules home d arity n ps) []
arguments_quiet home None arity n ps = left_none
arguments_quiet home (Some d) arity n ps = by (nat_eq arity n)
  where
    by : (b : Bool) → InOrder (if b then into_parameters home d.label 0 ps else []) []
    by true = parameters_quiet home d.label 0 ps
    by false = left_none

found_quiet : (home : Atom) (label : ℕ) (k : Found) (f : FunName) (ps : List Place) → InOrder (found_rules home label k f ps) []
found_quiet home label built_in f ps = by (has_function handing_on f)
  where
    by : (b : Bool) → InOrder (if b then all_into ps (part home label 0) else []) []
    by true = all_quiet ps (part home label 0)
    by false = left_none
found_quiet home label exported f ps = left_none
found_quiet home label hidden f ps = left_none
found_quiet home label outside f ps = left_none

call_quiet : (U : Program) (home : Atom) (label : ℕ) (x y : Option Atom) (n : ℕ) (ps : List Place) → InOrder (call_rules U home label x y n ps) []
call_quiet U home label None y n ps = left_none
call_quiet U home label (Some x) None n ps = left_none
call_quiet U home label (Some x) (Some y) n ps = found_quiet home label (found U x (function_name y n)) (function_name y n) ps

-- the application itself stands before what is in its operator and its arguments
application_in_order : (U : Program) (home : Atom) (sc : Scope) (label : ℕ) (o : Option FunName) (os : List Place) (rs : List Rule) (n : ℕ) (ps : List Place) (qs : List Rule) (ys zs : List ℕ) → InOrder rs ys → InOrder qs zs
    → InOrder (application_rules U home sc label o os rs n ps ++ qs) (label ∷ (ys ++ zs))
application_in_order U home sc label None os rs n ps qs ys zs h k = left_here (both_in_order rs qs ys zs h k)
application_in_order U home sc label (Some f) os rs n ps qs ys zs h k =
    let own = argument_rules home (definition_of U home sc f) f.arity n ps in
    left_out (subst (λ ls. IsLeftOf ls (ys ++ zs)) (sym (labels_both own qs)) (both_left (quiet_left (application_labels own) ys (arguments_quiet home (definition_of U home sc f) f.arity n ps)) k))
  where
    quiet_left : (xs ys : List ℕ) → IsLeftOf xs [] → IsLeftOf xs ys
    quiet_left _ ys left_none = none_left ys

module _ (U : Program) (home : Atom) where
  passed_in_order : (label : ℕ) (k : Ask) (ps : List Place) (rs : List Rule) (ys : List ℕ) → InOrder rs ys → InOrder (passed_to U home label k ps ++ rs) ys
  passed_in_order label k ps rs ys h = both_in_order (passed_to U home label k ps) rs [] ys (parts_quiet home label 0 (fit (kept k) ps)) h

  mutual
    in_order : (sc : Scope) (k : Ask) (t : m.Tree) → InOrder (rules U home sc k t) (labels t)
    in_order sc k (m.variable i x) = left_out left_none
    in_order sc k (m.local i f) = left_out (name_quiet home i.label (definition_of U home sc f))
    in_order sc k (m.external i x f) = left_out left_none
    in_order sc k (m.literal i l) = left_out left_none
    in_order sc k (m.function i xs t) =
        let inner = in_function U home i.label xs sc in
        left_out (both_in_order (opens home i.label 0 (length xs)) (flows (first (places U home inner one_value t)) (returned home i.label) ∷ rules U home inner one_value t) [] (labels t) (opens_quiet home i.label 0 (length xs))
        (in_order inner one_value t))
    in_order sc k (m.listed i ts t) =
        let q = part home i.label 0 in
        left_out (both_in_order (all_into (places_of_all U home sc ts) q) (flows (first (places U home sc one_value t)) q ∷ (rules_of_all U home sc ts ++ rules U home sc one_value t)) [] (labels_of_all ts ++ labels t)
        (all_quiet (places_of_all U home sc ts) q)
        (both_in_order (rules_of_all U home sc ts) (rules U home sc one_value t) (labels_of_all ts) (labels t) (all_in_order sc ts) (in_order sc one_value t)))
    in_order sc k (m.tuple i ts) = left_out (both_in_order (all_into (places_of_all U home sc ts) (part home i.label 0)) (rules_of_all U home sc ts) [] (labels_of_all ts) (all_quiet (places_of_all U home sc ts) (part home i.label 0))
        (all_in_order sc ts))
    in_order sc k (m.new_map i ps) = left_out (both_in_order (all_into (places_of_pairs U home sc ps) (part home i.label 0)) (rules_of_pairs U home sc ps) [] (labels_of_pairs ps)
        (all_quiet (places_of_pairs U home sc ps) (part home i.label 0)) (pairs_in_order sc ps))
    in_order sc k (m.updated_map i ps t) =
        let q = part home i.label 0 in
        left_out (both_in_order (all_into (places_of_pairs U home sc ps) q) (flows (first (places U home sc one_value t)) q ∷ (rules_of_pairs U home sc ps ++ rules U home sc one_value t)) [] (labels_of_pairs ps ++ labels t)
        (all_quiet (places_of_pairs U home sc ps) q)
        (both_in_order (rules_of_pairs U home sc ps) (rules U home sc one_value t) (labels_of_pairs ps) (labels t) (pairs_in_order sc ps) (in_order sc one_value t)))
    in_order sc k (m.binary i ss) = left_out (segments_in_order sc ss)
    in_order sc k (m.values i ts) = left_out (all_in_order sc ts)
    in_order sc k (m.chain i ss t) = left_out (both_in_order (rules_of_steps U home sc ss) (rules U home (after_steps U home sc ss) k t) (labels_of_steps ss) (labels t) (steps_in_order sc ss) (in_order (after_steps U home sc ss) k t))
    in_order sc k (m.case i t cs) = left_out (both_in_order (rules U home sc (Exactly (width cs)) t) (rules_of_clauses U home sc k i.label (places U home sc (Exactly (width cs)) t) cs) (labels t) (labels_of_clauses cs)
        (in_order sc (Exactly (width cs)) t) (clauses_in_order sc k i.label (places U home sc (Exactly (width cs)) t) cs))
    in_order sc k (m.letrec i ds t) = left_out (both_in_order (rules_of_definitions U home (in_frame (locals_of ds) sc) ds) (rules U home (in_frame (locals_of ds) sc) k t) (labels_of_defs ds) (labels t)
        (definitions_in_order (in_frame (locals_of ds) sc) ds) (in_order (in_frame (locals_of ds) sc) k t))
    in_order sc k (m.apply i t ts) = application_in_order U home sc i.label (local_name t) (places U home sc one_value t) (rules U home sc one_value t) (how_many ts) (places_of_all U home sc ts) (rules_of_all U home sc ts) (labels t)
        (labels_of_all ts) (in_order sc one_value t) (all_in_order sc ts)
    in_order sc k (m.call i t u ts) =
        let ps = places_of_all U home sc ts in
        left_out (of_three (labels t) (labels u) (labels_of_all ts) (both_in_order (call_rules U home i.label (literal_atom t) (literal_atom u) (how_many ts) ps)
        (rules U home sc one_value t ++ (rules U home sc one_value u ++ rules_of_all U home sc ts)) [] (labels t ++ (labels u ++ labels_of_all ts)) (call_quiet U home i.label (literal_atom t) (literal_atom u) (how_many ts) ps)
        (both_in_order (rules U home sc one_value t) (rules U home sc one_value u ++ rules_of_all U home sc ts) (labels t) (labels u ++ labels_of_all ts) (in_order sc one_value t)
        (both_in_order (rules U home sc one_value u) (rules_of_all U home sc ts) (labels u) (labels_of_all ts) (in_order sc one_value u) (all_in_order sc ts)))))
    in_order sc k (m.primop i x ts) = left_out (all_in_order sc ts)
    in_order sc k (m.try i t xs u ys w) =
        let q = Exactly (length xs) in
        let inner = with_places xs (places U home sc q t) sc in
        let handler = with_places ys [] sc in
        let body = passed_to U home i.label k (places U home inner k u) ++ rules U home inner k u in
        let handled = passed_to U home i.label k (places U home handler k w) ++ rules U home handler k w in
        left_out (of_three (labels t) (labels u) (labels w) (both_in_order (rules U home sc q t) (body ++ handled) (labels t) (labels u ++ labels w) (in_order sc q t)
        (both_in_order body handled (labels u) (labels w)
        (passed_in_order i.label k (places U home inner k u) (rules U home inner k u) (labels u) (in_order inner k u))
        (passed_in_order i.label k (places U home handler k w) (rules U home handler k w) (labels w) (in_order handler k w)))))
    in_order sc k (m.receive i cs t u) =
        let passing = passed_to U home i.label k (places U home sc k u) in
        left_out (of_three (labels_of_clauses cs) (labels t) (labels u) (both_in_order (rules_of_clauses U home sc k i.label [] cs) (rules U home sc one_value t ++ (passing ++ rules U home sc k u)) (labels_of_clauses cs)
        (labels t ++ labels u) (clauses_in_order sc k i.label [] cs)
        (both_in_order (rules U home sc one_value t) (passing ++ rules U home sc k u) (labels t) (labels u) (in_order sc one_value t) (passed_in_order i.label k (places U home sc k u) (rules U home sc k u) (labels u) (in_order sc k u)))))
    in_order sc k (m.catch i t) = left_out (in_order sc one_value t)

    all_in_order : (sc : Scope) (ts : m.Trees) → InOrder (rules_of_all U home sc ts) (labels_of_all ts)
    all_in_order sc m.no_tree = left_none
    all_in_order sc (m.and_tree t ts) = both_in_order (rules U home sc one_value t) (rules_of_all U home sc ts) (labels t) (labels_of_all ts) (in_order sc one_value t) (all_in_order sc ts)

    pairs_in_order : (sc : Scope) (ps : m.Pairs) → InOrder (rules_of_pairs U home sc ps) (labels_of_pairs ps)
    pairs_in_order sc m.no_pair = left_none
    pairs_in_order sc (m.and_pair e t u ps) = of_three (labels t) (labels u) (labels_of_pairs ps)
        (both_in_order (rules U home sc one_value t) (rules U home sc one_value u ++ rules_of_pairs U home sc ps) (labels t) (labels u ++ labels_of_pairs ps) (in_order sc one_value t)
        (both_in_order (rules U home sc one_value u) (rules_of_pairs U home sc ps) (labels u) (labels_of_pairs ps) (in_order sc one_value u) (pairs_in_order sc ps)))

    segments_in_order : (sc : Scope) (ss : m.Segments) → InOrder (rules_of_segments U home sc ss) (labels_of_segments ss)
    segments_in_order sc m.no_segment = left_none
    segments_in_order sc (m.and_segment t ts ss) = of_three (labels t) (labels_of_all ts) (labels_of_segments ss)
        (both_in_order (rules U home sc one_value t) (rules_of_all U home sc ts ++ rules_of_segments U home sc ss) (labels t) (labels_of_all ts ++ labels_of_segments ss) (in_order sc one_value t)
        (both_in_order (rules_of_all U home sc ts) (rules_of_segments U home sc ss) (labels_of_all ts) (labels_of_segments ss) (all_in_order sc ts) (segments_in_order sc ss)))

    steps_in_order : (sc : Scope) (ss : m.Steps) → InOrder (rules_of_steps U home sc ss) (labels_of_steps ss)
    steps_in_order sc m.no_step = left_none
    steps_in_order sc (m.and_let i xs t ss) =
        let inner = with_places xs (places U home sc (Exactly (length xs)) t) sc in
        left_out (both_in_order (rules U home sc (Exactly (length xs)) t) (rules_of_steps U home inner ss) (labels t) (labels_of_steps ss) (in_order sc (Exactly (length xs)) t) (steps_in_order inner ss))
    steps_in_order sc (m.and_do i t ss) = left_out (both_in_order (rules U home sc AnyNumber t) (rules_of_steps U home sc ss) (labels t) (labels_of_steps ss) (in_order sc AnyNumber t) (steps_in_order sc ss))

    clauses_in_order : (sc : Scope) (k : Ask) (label : ℕ) (qs : List Place) (cs : m.Clauses) → InOrder (rules_of_clauses U home sc k label qs cs) (labels_of_clauses cs)
    clauses_in_order sc k label qs m.no_clause = left_none
    clauses_in_order sc k label qs (m.and_clause i ps g t cs) =
        let inner = with_heads qs ps sc in
        let body = passed_to U home label k (places U home inner k t) ++ rules U home inner k t in
        let later = rules_of_clauses U home sc k label qs cs in
        left_out (of_four (labels_of_patterns ps) (labels g) (labels t) (labels_of_clauses cs)
        (both_in_order (rules_of_heads U home sc qs ps) (rules U home inner one_value g ++ (body ++ later)) (labels_of_patterns ps) (labels g ++ (labels t ++ labels_of_clauses cs)) (heads_in_order sc qs ps)
        (both_in_order (rules U home inner one_value g) (body ++ later) (labels g) (labels t ++ labels_of_clauses cs) (in_order inner one_value g)
        (both_in_order body later (labels t) (labels_of_clauses cs) (passed_in_order label k (places U home inner k t) (rules U home inner k t) (labels t) (in_order inner k t)) (clauses_in_order sc k label qs cs)))))

    definitions_in_order : (sc : Scope) (ds : m.Defs) → InOrder (rules_of_definitions U home sc ds) (labels_of_defs ds)
    definitions_in_order sc m.no_def = left_none
    definitions_in_order sc (m.and_def f i xs t ds) =
        let inner = in_function U home i.label xs sc in
        left_out (both_in_order (flows (first (places U home inner one_value t)) (returned home i.label) ∷ rules U home inner one_value t) (rules_of_definitions U home sc ds) (labels t) (labels_of_defs ds) (in_order inner one_value t)
        (definitions_in_order sc ds))

    pattern_in_order : (sc : Scope) (q : Place) (p : m.Pattern) → InOrder (rules_of_pattern U home sc q p) (labels_of_pattern p)
    pattern_in_order sc q (m.binds i x) = left_out left_none
    pattern_in_order sc q (m.equals i l) = left_out left_none
    pattern_in_order sc q (m.list_of i ps p) = left_out (both_in_order (rules_of_patterns U home sc q ps) (rules_of_pattern U home (with_patterns q ps sc) q p) (labels_of_patterns ps) (labels_of_pattern p) (patterns_in_order sc q ps)
        (pattern_in_order (with_patterns q ps sc) q p))
    pattern_in_order sc q (m.tuple_of i ps) = left_out (patterns_in_order sc q ps)
    pattern_in_order sc q (m.map_of i ps) = left_out (pat_pairs_in_order sc q ps)
    pattern_in_order sc q (m.binary_of i ss) = left_out (pat_segments_in_order sc ss)
    pattern_in_order sc q (m.alias i x p) = left_out (pattern_in_order (with_place x.name q sc) q p)

    patterns_in_order : (sc : Scope) (q : Place) (ps : m.Patterns) → InOrder (rules_of_patterns U home sc q ps) (labels_of_patterns ps)
    patterns_in_order sc q m.no_pattern = left_none
    patterns_in_order sc q (m.and_pattern p ps) = both_in_order (rules_of_pattern U home sc q p) (rules_of_patterns U home (with_pattern q p sc) q ps) (labels_of_pattern p) (labels_of_patterns ps) (pattern_in_order sc q p)
        (patterns_in_order (with_pattern q p sc) q ps)

    pat_pairs_in_order : (sc : Scope) (q : Place) (ps : m.PatPairs) → InOrder (rules_of_pat_pairs U home sc q ps) (labels_of_pat_pairs ps)
    pat_pairs_in_order sc q m.no_pat_pair = left_none
    pat_pairs_in_order sc q (m.and_pat_pair t p ps) =
        of_three (labels t) (labels_of_pattern p) (labels_of_pat_pairs ps) (both_in_order (rules U home sc one_value t) (rules_of_pattern U home sc q p ++ rules_of_pat_pairs U home (with_pattern q p sc) q ps) (labels t)
        (labels_of_pattern p ++ labels_of_pat_pairs ps) (in_order sc one_value t)
        (both_in_order (rules_of_pattern U home sc q p) (rules_of_pat_pairs U home (with_pattern q p sc) q ps) (labels_of_pattern p) (labels_of_pat_pairs ps) (pattern_in_order sc q p) (pat_pairs_in_order (with_pattern q p sc) q ps)))

    pat_segments_in_order : (sc : Scope) (ss : m.PatSegments) → InOrder (rules_of_pat_segments U home sc ss) (labels_of_pat_segments ss)
    pat_segments_in_order sc m.no_pat_segment = left_none
    pat_segments_in_order sc (m.and_pat_segment p ts ss) =
        let inner = with_pattern anywhere p sc in
        of_three (labels_of_pattern p) (labels_of_all ts) (labels_of_pat_segments ss)
        (both_in_order (rules_of_pattern U home sc anywhere p) (rules_of_all U home inner ts ++ rules_of_pat_segments U home inner ss) (labels_of_pattern p) (labels_of_all ts ++ labels_of_pat_segments ss)
        (pattern_in_order sc anywhere p)
        (both_in_order (rules_of_all U home inner ts) (rules_of_pat_segments U home inner ss) (labels_of_all ts) (labels_of_pat_segments ss) (all_in_order inner ts) (pat_segments_in_order inner ss)))

    heads_in_order : (sc : Scope) (qs : List Place) (ps : m.Patterns) → InOrder (rules_of_heads U home sc qs ps) (labels_of_patterns ps)
    heads_in_order sc qs m.no_pattern = left_none
    heads_in_order sc qs (m.and_pattern p ps) = both_in_order (rules_of_pattern U home sc (first qs) p) (rules_of_heads U home (with_pattern (first qs) p sc) (rest qs) ps) (labels_of_pattern p) (labels_of_patterns ps)
        (pattern_in_order sc (first qs) p) (heads_in_order (with_pattern (first qs) p sc) (rest qs) ps)

exports_quiet : (home : Atom) (ds : m.Defs) (fs : List FunName) → InOrder (export_rules home ds fs) []
exports_quiet home ds [] = left_none
exports_quiet home ds (f ∷ fs) = both_in_order (opens_definition home (function_named (locals_of ds) f)) (export_rules home ds fs) [] [] (opened_quiet home (function_named (locals_of ds) f)) (exports_quiet home ds fs)

pub module_in_order : (U : Program) (x : m.Module) → IsLeftOf (application_labels (module_rules U x)) (labels_of x)
module_in_order U x = both_in_order (export_rules x.name x.defs x.exports) (rules_of_definitions U x.name no_place x.defs) [] (labels_of x) (exports_quiet x.name x.defs x.exports) (definitions_in_order U x.name no_place x.defs)
