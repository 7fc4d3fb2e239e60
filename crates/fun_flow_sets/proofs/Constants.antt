-- No rule leads to the two places that are the same in every text: so nothing is nowhere, and anywhere is just `anything`.
use Rattle.std.proofs.Common.{◌≡◌, ℕ, zero, suc, ◌+◌, Bool, true, false, if◌then◌else◌, List, [], ◌∷◌, ◌++◌, length, Option, Some, None, nat_eq, refl}
use Rattle.type_kinds.specs.declared.atom.Atom.{Atom}
use Rattle.core_ast.specs.Lengths.{how_many}
use Rattle.core_ast.specs.Model as m
use Rattle.core_ast.specs.Named.{literal_atom, local_name}
use Rattle.core_ast.specs.declared.syntax.FunName.{FunName}
use Rattle.core_scope.specs.Asks.{function_name, one_value, width}
use Rattle.core_scope.specs.Names.{has_function}
use Rattle.core_scope.specs.declared.ask.Ask.{Ask}
use Rattle.core_scope.specs.declared.ask.Ask.TheVariants.{AnyNumber, Exactly}
use Rattle.type_lattice_model.specs.Values.{Local}
use Rattle.core_meaning.specs.Programs.{Program, Found, built_in, exported, hidden, outside, found, function_named, locals_of}
use Rattle.fun_flow_sets.specs.Items.{Item, anything, closure_at, external_function, Place, nowhere, anywhere, part, parameter, returned, Rule, holds, flows, applies}
use Rattle.fun_flow_sets.specs.Rules.{kept, places, places_of_all, places_of_pairs, after_steps, all_into, application_rules, argument_rules, call_rules, export_rules, found_rules, handing_on, in_function}
use Rattle.fun_flow_sets.specs.Rules.{into_parameters, into_parts, module_rules, name_rules, opens, opens_definition, passed_to, rules, rules_of, rules_of_all, rules_of_clauses, rules_of_definitions}
use Rattle.fun_flow_sets.specs.Rules.{rules_of_heads, rules_of_modules, rules_of_pairs, rules_of_pat_pairs, rules_of_pat_segments, rules_of_pattern, rules_of_patterns, rules_of_segments, rules_of_steps}
use Rattle.fun_flow_sets.specs.Scopes.{Scope, definition_of, first, fit, in_frame, no_place, rest, with_heads, with_pattern, with_patterns, with_place, with_places}
use Rattle.fun_flow_sets.specs.Sets.{Holds, IsMet, Meets}
use Rattle.fun_flow_sets.proofs.Each.{Each, of_each, each_both}
use Rattle.fun_flow_sets.proofs.Least.{are_least}

abbrev is_inner : Place → Bool
is_inner nowhere = false
is_inner anywhere = false
is_inner (part home label n) = true
is_inner (parameter home label n) = true
is_inner (returned home label) = true

abbrev LeadsInside : Rule → Type 0
LeadsInside (holds p x) = is_inner p ≡ true
LeadsInside (flows p q) = is_inner q ≡ true
LeadsInside (applies p n home label) = Unit {0}

abbrev Lead : List Rule → Type 0
Lead rs = Each LeadsInside rs

lead_both : (rs qs : List Rule) → Lead rs → Lead qs → Lead (rs ++ qs)
lead_both rs qs h k = each_both LeadsInside rs qs h k

all_lead : (ps : List Place) (q : Place) → is_inner q ≡ true → Lead (all_into ps q)
all_lead [] q e = tt
all_lead (p ∷ ps) q e = (e, all_lead ps q e)

parts_lead : (home : Atom) (label i : ℕ) (ps : List Place) → Lead (into_parts home label i ps)
parts_lead home label i [] = tt
parts_lead home label i (p ∷ ps) = (refl, parts_lead home label (i + 1) ps)

parameters_lead : (home : Atom) (label i : ℕ) (ps : List Place) → Lead (into_parameters home label i ps)
parameters_lead home label i [] = tt
parameters_lead home label i (p ∷ ps) = (refl, parameters_lead home label (i + 1) ps)

opens_lead : (home : Atom) (label i n : ℕ) → Lead (opens home label i n)
opens_lead home label i zero = tt
opens_lead home label i (suc n) = (refl, opens_lead home label (i + 1) n)

opened_lead : (home : Atom) (d : Option Local) → Lead (opens_definition home d)
opened_lead home None = tt
opened_lead home (Some d) = opens_lead home d.label 0 d.arity

name_leads : (home : Atom) (label : ℕ) (d : Option Local) → Lead (name_rules home label d)
name_leads home label None = tt
name_leads home label (Some d) = (refl, opens_lead home d.label 0 d.arity)

arguments_lead : (home : Atom) (d : Option Local) (arity n : ℕ) (ps : List Place) → Lead (argument_rules home d arity n ps)
arguments_lead home None arity n ps = tt
arguments_lead home (Some d) arity n ps = by (nat_eq arity n)
  where
    by : (b : Bool) → Lead (if b then into_parameters home d.label 0 ps else [])
    by true = parameters_lead home d.label 0 ps
    by false = tt

application_leads : (U : Program) (home : Atom) (sc : Scope) (label : ℕ) (o : Option FunName) (os : List Place) (rs : List Rule) (n : ℕ) (ps : List Place) → Lead rs → Lead (application_rules U home sc label o os rs n ps)
application_leads U home sc label None os rs n ps h = (tt, h)
application_leads U home sc label (Some f) os rs n ps h = arguments_lead home (definition_of U home sc f) f.arity n ps

found_leads : (home : Atom) (label : ℕ) (k : Found) (f : FunName) (ps : List Place) → Lead (found_rules home label k f ps)
found_leads home label built_in f ps = by (has_function handing_on f)
  where
    by : (b : Bool) → Lead (if b then all_into ps (part home label 0) else [])
    by true = all_lead ps (part home label 0) refl
    by false = tt
found_leads home label exported f ps = tt
found_leads home label hidden f ps = tt
found_leads home label outside f ps = tt

call_leads : (U : Program) (home : Atom) (label : ℕ) (x y : Option Atom) (n : ℕ) (ps : List Place) → Lead (call_rules U home label x y n ps)
call_leads U home label None y n ps = tt
call_leads U home label (Some x) None n ps = tt
call_leads U home label (Some x) (Some y) n ps = found_leads home label (found U x (function_name y n)) (function_name y n) ps

module _ (U : Program) (home : Atom) where
  passed_leads : (label : ℕ) (k : Ask) (ps : List Place) → Lead (passed_to U home label k ps)
  passed_leads label k ps = parts_lead home label 0 (fit (kept k) ps)

  mutual
    leads : (sc : Scope) (k : Ask) (t : m.Tree) → Lead (rules U home sc k t)
    leads sc k (m.variable i x) = tt
    leads sc k (m.local i f) = name_leads home i.label (definition_of U home sc f)
    leads sc k (m.external i x f) = (refl, tt)
    leads sc k (m.literal i l) = tt
    leads sc k (m.function i xs t) =
        let inner = in_function U home i.label xs sc in (
          refl,
          lead_both (opens home i.label 0 (length xs)) (flows (first (places U home inner one_value t)) (returned home i.label) ∷ rules U home inner one_value t) (opens_lead home i.label 0 (length xs)) (
            refl,
            leads inner one_value t,
          ),
        )
    leads sc k (m.listed i ts t) =
        let q = part home i.label 0 in
        lead_both (all_into (places_of_all U home sc ts) q) (flows (first (places U home sc one_value t)) q ∷ (rules_of_all U home sc ts ++ rules U home sc one_value t)) (all_lead (places_of_all U home sc ts) q refl) (
          refl,
          lead_both (rules_of_all U home sc ts) (rules U home sc one_value t) (all_leads sc ts) (leads sc one_value t),
        )
    leads sc k (m.tuple i ts) = lead_both (all_into (places_of_all U home sc ts) (part home i.label 0)) (rules_of_all U home sc ts) (all_lead (places_of_all U home sc ts) (part home i.label 0) refl) (all_leads sc ts)
    leads sc k (m.new_map i ps) = lead_both (all_into (places_of_pairs U home sc ps) (part home i.label 0)) (rules_of_pairs U home sc ps) (all_lead (places_of_pairs U home sc ps) (part home i.label 0) refl) (pairs_lead sc ps)
    leads sc k (m.updated_map i ps t) =
        let q = part home i.label 0 in
        lead_both (all_into (places_of_pairs U home sc ps) q) (flows (first (places U home sc one_value t)) q ∷ (rules_of_pairs U home sc ps ++ rules U home sc one_value t)) (all_lead (places_of_pairs U home sc ps) q refl) (
          refl,
          lead_both (rules_of_pairs U home sc ps) (rules U home sc one_value t) (pairs_lead sc ps) (leads sc one_value t),
        )
    leads sc k (m.binary i ss) = segments_lead sc ss
    leads sc k (m.values i ts) = all_leads sc ts
    leads sc k (m.chain i ss t) = lead_both (rules_of_steps U home sc ss) (rules U home (after_steps U home sc ss) k t) (steps_lead sc ss) (leads (after_steps U home sc ss) k t)
    leads sc k (m.case i t cs) = lead_both (rules U home sc (Exactly (width cs)) t) (rules_of_clauses U home sc k i.label (places U home sc (Exactly (width cs)) t) cs) (leads sc (Exactly (width cs)) t)
        (clauses_lead sc k i.label (places U home sc (Exactly (width cs)) t) cs)
    leads sc k (m.letrec i ds t) = lead_both (rules_of_definitions U home (in_frame (locals_of ds) sc) ds) (rules U home (in_frame (locals_of ds) sc) k t) (definitions_lead (in_frame (locals_of ds) sc) ds)
        (leads (in_frame (locals_of ds) sc) k t)
    leads sc k (m.apply i t ts) =
        let os = places U home sc one_value t in
        let ps = places_of_all U home sc ts in
        lead_both (application_rules U home sc i.label (local_name t) os (rules U home sc one_value t) (how_many ts) ps) (rules_of_all U home sc ts)
        (application_leads U home sc i.label (local_name t) os (rules U home sc one_value t) (how_many ts) ps (leads sc one_value t)) (all_leads sc ts)
    leads sc k (m.call i t u ts) =
        let ps = places_of_all U home sc ts in
        lead_both (call_rules U home i.label (literal_atom t) (literal_atom u) (how_many ts) ps) (rules U home sc one_value t ++ (rules U home sc one_value u ++ rules_of_all U home sc ts))
        (call_leads U home i.label (literal_atom t) (literal_atom u) (how_many ts) ps)
        (lead_both (rules U home sc one_value t) (rules U home sc one_value u ++ rules_of_all U home sc ts) (leads sc one_value t)
        (lead_both (rules U home sc one_value u) (rules_of_all U home sc ts) (leads sc one_value u) (all_leads sc ts)))
    leads sc k (m.primop i x ts) = all_leads sc ts
    leads sc k (m.try i t xs u ys w) =
        let q = Exactly (length xs) in
        let inner = with_places xs (places U home sc q t) sc in
        let handler = with_places ys [] sc in
        let body = passed_to U home i.label k (places U home inner k u) in
        let handled = passed_to U home i.label k (places U home handler k w) in
        lead_both (rules U home sc q t) ((body ++ rules U home inner k u) ++ (handled ++ rules U home handler k w)) (leads sc q t)
        (lead_both (body ++ rules U home inner k u) (handled ++ rules U home handler k w)
        (lead_both body (rules U home inner k u) (passed_leads i.label k (places U home inner k u)) (leads inner k u))
        (lead_both handled (rules U home handler k w) (passed_leads i.label k (places U home handler k w)) (leads handler k w)))
    leads sc k (m.receive i cs t u) =
        let passing = passed_to U home i.label k (places U home sc k u) in
        lead_both (rules_of_clauses U home sc k i.label [] cs) (rules U home sc one_value t ++ (passing ++ rules U home sc k u)) (clauses_lead sc k i.label [] cs)
        (lead_both (rules U home sc one_value t) (passing ++ rules U home sc k u) (leads sc one_value t) (lead_both passing (rules U home sc k u) (passed_leads i.label k (places U home sc k u)) (leads sc k u)))
    leads sc k (m.catch i t) = leads sc one_value t

    all_leads : (sc : Scope) (ts : m.Trees) → Lead (rules_of_all U home sc ts)
    all_leads sc m.no_tree = tt
    all_leads sc (m.and_tree t ts) = lead_both (rules U home sc one_value t) (rules_of_all U home sc ts) (leads sc one_value t) (all_leads sc ts)

    pairs_lead : (sc : Scope) (ps : m.Pairs) → Lead (rules_of_pairs U home sc ps)
    pairs_lead sc m.no_pair = tt
    pairs_lead sc (m.and_pair e t u ps) = lead_both (rules U home sc one_value t) (rules U home sc one_value u ++ rules_of_pairs U home sc ps) (leads sc one_value t)
        (lead_both (rules U home sc one_value u) (rules_of_pairs U home sc ps) (leads sc one_value u) (pairs_lead sc ps))

    segments_lead : (sc : Scope) (ss : m.Segments) → Lead (rules_of_segments U home sc ss)
    segments_lead sc m.no_segment = tt
    segments_lead sc (m.and_segment t ts ss) = lead_both (rules U home sc one_value t) (rules_of_all U home sc ts ++ rules_of_segments U home sc ss) (leads sc one_value t)
        (lead_both (rules_of_all U home sc ts) (rules_of_segments U home sc ss) (all_leads sc ts) (segments_lead sc ss))

    steps_lead : (sc : Scope) (ss : m.Steps) → Lead (rules_of_steps U home sc ss)
    steps_lead sc m.no_step = tt
    steps_lead sc (m.and_let i xs t ss) =
        let inner = with_places xs (places U home sc (Exactly (length xs)) t) sc in
        lead_both (rules U home sc (Exactly (length xs)) t) (rules_of_steps U home inner ss) (leads sc (Exactly (length xs)) t) (steps_lead inner ss)
    steps_lead sc (m.and_do i t ss) = lead_both (rules U home sc AnyNumber t) (rules_of_steps U home sc ss) (leads sc AnyNumber t) (steps_lead sc ss)

    clauses_lead : (sc : Scope) (k : Ask) (label : ℕ) (qs : List Place) (cs : m.Clauses) → Lead (rules_of_clauses U home sc k label qs cs)
    clauses_lead sc k label qs m.no_clause = tt
    clauses_lead sc k label qs (m.and_clause i ps g t cs) =
        let inner = with_heads qs ps sc in
        let passing = passed_to U home label k (places U home inner k t) in
        let later = rules_of_clauses U home sc k label qs cs in
        lead_both (rules_of_heads U home sc qs ps) (rules U home inner one_value g ++ ((passing ++ rules U home inner k t) ++ later)) (heads_lead sc qs ps)
        (lead_both (rules U home inner one_value g) ((passing ++ rules U home inner k t) ++ later) (leads inner one_value g)
        (lead_both (passing ++ rules U home inner k t) later (lead_both passing (rules U home inner k t) (passed_leads label k (places U home inner k t)) (leads inner k t)) (clauses_lead sc k label qs cs)))

    definitions_lead : (sc : Scope) (ds : m.Defs) → Lead (rules_of_definitions U home sc ds)
    definitions_lead sc m.no_def = tt
    definitions_lead sc (m.and_def f i xs t ds) =
        let inner = in_function U home i.label xs sc in
        lead_both (flows (first (places U home inner one_value t)) (returned home i.label) ∷ rules U home inner one_value t) (rules_of_definitions U home sc ds) (refl, leads inner one_value t) (definitions_lead sc ds)

    pattern_leads : (sc : Scope) (q : Place) (p : m.Pattern) → Lead (rules_of_pattern U home sc q p)
    pattern_leads sc q (m.binds i x) = tt
    pattern_leads sc q (m.equals i l) = tt
    pattern_leads sc q (m.list_of i ps p) = lead_both (rules_of_patterns U home sc q ps) (rules_of_pattern U home (with_patterns q ps sc) q p) (patterns_lead sc q ps) (pattern_leads (with_patterns q ps sc) q p)
    pattern_leads sc q (m.tuple_of i ps) = patterns_lead sc q ps
    pattern_leads sc q (m.map_of i ps) = pat_pairs_lead sc q ps
    pattern_leads sc q (m.binary_of i ss) = pat_segments_lead sc ss
    pattern_leads sc q (m.alias i x p) = pattern_leads (with_place x.name q sc) q p

    patterns_lead : (sc : Scope) (q : Place) (ps : m.Patterns) → Lead (rules_of_patterns U home sc q ps)
    patterns_lead sc q m.no_pattern = tt
    patterns_lead sc q (m.and_pattern p ps) = lead_both (rules_of_pattern U home sc q p) (rules_of_patterns U home (with_pattern q p sc) q ps) (pattern_leads sc q p) (patterns_lead (with_pattern q p sc) q ps)

    pat_pairs_lead : (sc : Scope) (q : Place) (ps : m.PatPairs) → Lead (rules_of_pat_pairs U home sc q ps)
    pat_pairs_lead sc q m.no_pat_pair = tt
    pat_pairs_lead sc q (m.and_pat_pair t p ps) =
        lead_both (rules U home sc one_value t) (rules_of_pattern U home sc q p ++ rules_of_pat_pairs U home (with_pattern q p sc) q ps) (leads sc one_value t)
        (lead_both (rules_of_pattern U home sc q p) (rules_of_pat_pairs U home (with_pattern q p sc) q ps) (pattern_leads sc q p) (pat_pairs_lead (with_pattern q p sc) q ps))

    pat_segments_lead : (sc : Scope) (ss : m.PatSegments) → Lead (rules_of_pat_segments U home sc ss)
    pat_segments_lead sc m.no_pat_segment = tt
    pat_segments_lead sc (m.and_pat_segment p ts ss) =
        let inner = with_pattern anywhere p sc in
        lead_both (rules_of_pattern U home sc anywhere p) (rules_of_all U home inner ts ++ rules_of_pat_segments U home inner ss) (pattern_leads sc anywhere p)
        (lead_both (rules_of_all U home inner ts) (rules_of_pat_segments U home inner ss) (all_leads inner ts) (pat_segments_lead inner ss))

    heads_lead : (sc : Scope) (qs : List Place) (ps : m.Patterns) → Lead (rules_of_heads U home sc qs ps)
    heads_lead sc qs m.no_pattern = tt
    heads_lead sc qs (m.and_pattern p ps) = lead_both (rules_of_pattern U home sc (first qs) p) (rules_of_heads U home (with_pattern (first qs) p sc) (rest qs) ps) (pattern_leads sc (first qs) p)
        (heads_lead (with_pattern (first qs) p sc) (rest qs) ps)

exports_lead : (home : Atom) (ds : m.Defs) (fs : List FunName) → Lead (export_rules home ds fs)
exports_lead home ds [] = tt
exports_lead home ds (f ∷ fs) = lead_both (opens_definition home (function_named (locals_of ds) f)) (export_rules home ds fs) (opened_lead home (function_named (locals_of ds) f)) (exports_lead home ds fs)

modules_lead : (U xs : Program) → Lead (rules_of_modules U xs)
modules_lead U [] = tt
modules_lead U (x ∷ xs) =
    lead_both (module_rules U x) (rules_of_modules U xs)
    (lead_both (export_rules x.name x.defs x.exports) (rules_of_definitions U x.name no_place x.defs) (exports_lead x.name x.defs x.exports) (definitions_lead U x.name no_place x.defs)) (modules_lead U xs)

-- ---- sets that hold what they may of the two constants, and all elsewhere

abbrev is_anything : Item → Bool
is_anything anything = true
is_anything (closure_at home label arity) = false
is_anything (external_function home name arity) = false

abbrev has : Place → Item → Bool
has nowhere x = false
has anywhere x = is_anything x
has (part home label n) x = true
has (parameter home label n) x = true
has (returned home label) x = true

inner_has : (p : Place) (x : Item) → is_inner p ≡ true → has p x ≡ true
inner_has nowhere x e = absurd cc
inner_has anywhere x e = absurd cc
inner_has (part home label n) x e = refl
inner_has (parameter home label n) x e = refl
inner_has (returned home label) x e = refl

inside_met : (U : Program) (r : Rule) → LeadsInside r → IsMet U has r
inside_met U (holds p x) h = inner_has p x h
inside_met U (flows p q) h = λ x k. inner_has q x h
inside_met U (applies p n home label) h = λ x k. (λ q y i j. refl, λ i. refl)

all_met : (U : Program) → Meets U has
all_met U = record {
  all_anywhere = refl;
  met = λ r i. inside_met U r (of_each LeadsInside (rules_of U) r (modules_lead U U) i);
}

pub nothing_nowhere : (U : Program) (x : Item) → Holds U nowhere x → ⊥
nothing_nowhere U x h = let e = are_least U has (all_met U) nowhere x h in absurd cc

pub anything_anywhere : (U : Program) (x : Item) → Holds U anywhere x → x ≡ anything
anything_anywhere U x h = is x (are_least U has (all_met U) anywhere x h)
  where
    is : (y : Item) → is_anything y ≡ true → y ≡ anything
    is anything e = refl
    is (closure_at home label arity) e = absurd cc
    is (external_function home name arity) e = absurd cc
