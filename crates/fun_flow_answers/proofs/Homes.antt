-- The rules of a module have its own applications and closures alone.
use Rattle.std.proofs.Common.{◌≡◌, ℕ, zero, suc, ◌+◌, ◌⊎◌, Bool, true, false, if◌then◌else◌, List, [], ◌∷◌, ◌++◌, length, Option, Some, None, nat_eq, inl, inr, refl, sym, subst}
use Rattle.std.specs.Prelude.{Contains}
use Rattle.type_kinds.specs.declared.atom.Atom.{Atom}
use Rattle.type_kinds.proofs.Lists.{contains_first, contains_later}
use Rattle.core_ast.specs.Lengths.{how_many}
use Rattle.core_ast.specs.Model as m
use Rattle.core_ast.specs.Named.{literal_atom, local_name}
use Rattle.core_ast.specs.declared.syntax.FunName.{FunName}
use Rattle.core_scope.specs.Asks.{function_name, one_value, width}
use Rattle.core_scope.specs.Names.{has_function}
use Rattle.core_scope.specs.declared.ask.Ask.{Ask}
use Rattle.core_scope.specs.declared.ask.Ask.TheVariants.{AnyNumber, Exactly}
use Rattle.type_lattice_model.specs.Values.{Local}
use Rattle.core_meaning.specs.Programs.{Program, Found, built_in, exported, hidden, outside, found, function_named, locals_of}
use Rattle.fun_flow_sets.specs.Items.{Item, anything, closure_at, external_function, Place, anywhere, part, Rule, holds, flows, applies}
use Rattle.fun_flow_sets.specs.Rules.{IsAmong, kept, places, places_of_all, places_of_pairs, after_steps, all_into, application_rules, argument_rules, call_rules, export_rules, found_rules, handing_on}
use Rattle.fun_flow_sets.specs.Rules.{in_function, into_parameters, into_parts, module_rules, name_rules, opens, opens_definition, passed_to, rules, rules_of_all, rules_of_clauses, rules_of_definitions}
use Rattle.fun_flow_sets.specs.Rules.{rules_of_heads, rules_of_modules, rules_of_pairs, rules_of_pat_pairs, rules_of_pat_segments, rules_of_pattern, rules_of_patterns, rules_of_segments, rules_of_steps}
use Rattle.fun_flow_sets.specs.Sets.{Holds, may_any, may_hold, may_flow, may_enter, may_give}
use Rattle.fun_flow_sets.specs.Scopes.{Scope, definition_of, first, fit, in_frame, no_place, rest, with_heads, with_pattern, with_patterns, with_place, with_places}

-- a closure is of a function of this module
abbrev IsOf : Atom → Item → Type 0
IsOf home anything = Unit {0}
IsOf home (closure_at other l n) = other ≡ home
IsOf home (external_function other name n) = Unit {0}

-- a closure that the rule puts at a place is of this module, and so is an application
abbrev IsAt : Atom → Rule → Type 0
IsAt home (holds p x) = IsOf home x
IsAt home (flows p q) = Unit {0}
IsAt home (applies p n other label) = other ≡ home

data AllAt (home : Atom) : List Rule → Type 0 where
  none_at : AllAt home []
  more_at : {r : Rule} {rs : List Rule} → IsAt home r → AllAt home rs → AllAt home (r ∷ rs)

both : (home : Atom) (rs qs : List Rule) → AllAt home rs → AllAt home qs → AllAt home (rs ++ qs)
both home [] qs none_at k = k
both home (r ∷ rs) qs (more_at a h) k = more_at a (both home rs qs h k)

into_at : (home : Atom) (ps : List Place) (q : Place) → AllAt home (all_into ps q)
into_at home [] q = none_at
into_at home (p ∷ ps) q = more_at tt (into_at home ps q)

parts_at : (home : Atom) (label i : ℕ) (ps : List Place) → AllAt home (into_parts home label i ps)
parts_at home label i [] = none_at
parts_at home label i (p ∷ ps) = more_at tt (parts_at home label (i + 1) ps)

parameters_at : (home : Atom) (label i : ℕ) (ps : List Place) → AllAt home (into_parameters home label i ps)
parameters_at home label i [] = none_at
parameters_at home label i (p ∷ ps) = more_at tt (parameters_at home label (i + 1) ps)

opens_at : (home : Atom) (label i n : ℕ) → AllAt home (opens home label i n)
opens_at home label i zero = none_at
opens_at home label i (suc n) = more_at tt (opens_at home label (i + 1) n)

opened_at : (home : Atom) (d : Option Local) → AllAt home (opens_definition home d)
opened_at home None = none_at
opened_at home (Some d) = opens_at home d.label 0 d.arity

name_at : (home : Atom) (label : ℕ) (d : Option Local) → AllAt home (name_rules home label d)
name_at home label None = none_at
name_at home label (Some d) = more_at refl (opens_at home d.label 0 d.arity)

arguments_at : (home : Atom) (d : Option Local) (arity n : ℕ) (ps : List Place) → AllAt home (argument_rules home d arity n ps)
arguments_at home None arity n ps = none_at
arguments_at home (Some d) arity n ps = by (nat_eq arity n)
  where
    by : (b : Bool) → AllAt home (if b then into_parameters home d.label 0 ps else [])
    by true = parameters_at home d.label 0 ps
    by false = none_at

found_at : (home : Atom) (label : ℕ) (k : Found) (f : FunName) (ps : List Place) → AllAt home (found_rules home label k f ps)
found_at home label built_in f ps = by (has_function handing_on f)
  where
    by : (b : Bool) → AllAt home (if b then all_into ps (part home label 0) else [])
    by true = into_at home ps (part home label 0)
    by false = none_at
found_at home label exported f ps = none_at
found_at home label hidden f ps = none_at
found_at home label outside f ps = none_at

call_at : (U : Program) (home : Atom) (label : ℕ) (x y : Option Atom) (n : ℕ) (ps : List Place) → AllAt home (call_rules U home label x y n ps)
call_at U home label None y n ps = none_at
call_at U home label (Some x) None n ps = none_at
call_at U home label (Some x) (Some y) n ps = found_at home label (found U x (function_name y n)) (function_name y n) ps

application_at : (U : Program) (home : Atom) (sc : Scope) (label : ℕ) (o : Option FunName) (os : List Place) (rs : List Rule) (n : ℕ) (ps : List Place) → AllAt home rs → AllAt home (application_rules U home sc label o os rs n ps)
application_at U home sc label None os rs n ps h = more_at refl h
application_at U home sc label (Some f) os rs n ps h = arguments_at home (definition_of U home sc f) f.arity n ps

module _ (U : Program) (home : Atom) where
  passed_at : (label : ℕ) (k : Ask) (ps : List Place) → AllAt home (passed_to U home label k ps)
  passed_at label k ps = parts_at home label 0 (fit (kept k) ps)

  mutual
    at : (sc : Scope) (k : Ask) (t : m.Tree) → AllAt home (rules U home sc k t)
    at sc k (m.variable i x) = none_at
    at sc k (m.local i f) = name_at home i.label (definition_of U home sc f)
    at sc k (m.external i x f) = more_at tt none_at
    at sc k (m.literal i l) = none_at
    at sc k (m.function i xs t) = more_at refl (both home _ _ (opens_at home i.label 0 _) (more_at tt (at (in_function U home i.label xs sc) one_value t)))
    at sc k (m.listed i ts t) = both home _ _ (into_at home (places_of_all U home sc ts) (part home i.label 0)) (more_at tt (both home _ _ (at_all sc ts) (at sc one_value t)))
    at sc k (m.tuple i ts) = both home _ _ (into_at home (places_of_all U home sc ts) (part home i.label 0)) (at_all sc ts)
    at sc k (m.new_map i ps) = both home _ _ (into_at home (places_of_pairs U home sc ps) (part home i.label 0)) (at_pairs sc ps)
    at sc k (m.updated_map i ps t) = both home _ _ (into_at home (places_of_pairs U home sc ps) (part home i.label 0)) (more_at tt (both home _ _ (at_pairs sc ps) (at sc one_value t)))
    at sc k (m.binary i ss) = at_segments sc ss
    at sc k (m.values i ts) = at_all sc ts
    at sc k (m.chain i ss t) = both home _ _ (at_steps sc ss) (at (after_steps U home sc ss) k t)
    at sc k (m.case i t cs) = both home _ _ (at sc (Exactly (width cs)) t) (at_clauses sc k i.label (places U home sc (Exactly (width cs)) t) cs)
    at sc k (m.letrec i ds t) = both home _ _ (at_definitions (in_frame (locals_of ds) sc) ds) (at (in_frame (locals_of ds) sc) k t)
    at sc k (m.apply i t ts) =
        both home _ _ (application_at U home sc i.label (local_name t) (places U home sc one_value t) (rules U home sc one_value t) (how_many ts) (places_of_all U home sc ts) (at sc one_value t)) (at_all sc ts)
    at sc k (m.call i t u ts) =
        both home _ _ (call_at U home i.label (literal_atom t) (literal_atom u) (how_many ts) (places_of_all U home sc ts)) (both home _ _ (at sc one_value t) (both home _ _ (at sc one_value u) (at_all sc ts)))
    at sc k (m.primop i x ts) = at_all sc ts
    at sc k (m.try i t xs u ys w) =
        let inner = with_places xs (places U home sc (Exactly (length xs)) t) sc in
        both home _ _ (at sc (Exactly (length xs)) t)
        (both home _ _ (both home _ _ (passed_at i.label k (places U home inner k u)) (at inner k u)) (both home _ _ (passed_at i.label k (places U home (with_places ys [] sc) k w)) (at (with_places ys [] sc) k w)))
    at sc k (m.receive i cs t u) = both home _ _ (at_clauses sc k i.label [] cs) (both home _ _ (at sc one_value t) (both home _ _ (passed_at i.label k (places U home sc k u)) (at sc k u)))
    at sc k (m.catch i t) = at sc one_value t

    at_all : (sc : Scope) (ts : m.Trees) → AllAt home (rules_of_all U home sc ts)
    at_all sc m.no_tree = none_at
    at_all sc (m.and_tree t ts) = both home _ _ (at sc one_value t) (at_all sc ts)

    at_pairs : (sc : Scope) (ps : m.Pairs) → AllAt home (rules_of_pairs U home sc ps)
    at_pairs sc m.no_pair = none_at
    at_pairs sc (m.and_pair exact t u ps) = both home _ _ (at sc one_value t) (both home _ _ (at sc one_value u) (at_pairs sc ps))

    at_segments : (sc : Scope) (ss : m.Segments) → AllAt home (rules_of_segments U home sc ss)
    at_segments sc m.no_segment = none_at
    at_segments sc (m.and_segment t ts ss) = both home _ _ (at sc one_value t) (both home _ _ (at_all sc ts) (at_segments sc ss))

    at_steps : (sc : Scope) (ss : m.Steps) → AllAt home (rules_of_steps U home sc ss)
    at_steps sc m.no_step = none_at
    at_steps sc (m.and_let i xs t ss) = both home _ _ (at sc (Exactly (length xs)) t) (at_steps (with_places xs (places U home sc (Exactly (length xs)) t) sc) ss)
    at_steps sc (m.and_do i t ss) = both home _ _ (at sc AnyNumber t) (at_steps sc ss)

    at_clauses : (sc : Scope) (k : Ask) (label : ℕ) (qs : List Place) (cs : m.Clauses) → AllAt home (rules_of_clauses U home sc k label qs cs)
    at_clauses sc k label qs m.no_clause = none_at
    at_clauses sc k label qs (m.and_clause i ps g t cs) =
        both home _ _ (at_heads sc qs ps)
        (both home _ _ (at (with_heads qs ps sc) one_value g)
        (both home _ _ (both home _ _ (passed_at label k (places U home (with_heads qs ps sc) k t)) (at (with_heads qs ps sc) k t)) (at_clauses sc k label qs cs)))

    at_definitions : (sc : Scope) (ds : m.Defs) → AllAt home (rules_of_definitions U home sc ds)
    at_definitions sc m.no_def = none_at
    at_definitions sc (m.and_def f i xs t ds) = both home _ _ (more_at tt (at (in_function U home i.label xs sc) one_value t)) (at_definitions sc ds)

    at_pattern : (sc : Scope) (q : Place) (p : m.Pattern) → AllAt home (rules_of_pattern U home sc q p)
    at_pattern sc q (m.binds i x) = none_at
    at_pattern sc q (m.equals i l) = none_at
    at_pattern sc q (m.list_of i ps p) = both home _ _ (at_patterns sc q ps) (at_pattern (with_patterns q ps sc) q p)
    at_pattern sc q (m.tuple_of i ps) = at_patterns sc q ps
    at_pattern sc q (m.map_of i ps) = at_pat_pairs sc q ps
    at_pattern sc q (m.binary_of i ss) = at_pat_segments sc ss
    at_pattern sc q (m.alias i x p) = at_pattern (with_place x.name q sc) q p

    at_patterns : (sc : Scope) (q : Place) (ps : m.Patterns) → AllAt home (rules_of_patterns U home sc q ps)
    at_patterns sc q m.no_pattern = none_at
    at_patterns sc q (m.and_pattern p ps) = both home _ _ (at_pattern sc q p) (at_patterns (with_pattern q p sc) q ps)

    at_pat_pairs : (sc : Scope) (q : Place) (ps : m.PatPairs) → AllAt home (rules_of_pat_pairs U home sc q ps)
    at_pat_pairs sc q m.no_pat_pair = none_at
    at_pat_pairs sc q (m.and_pat_pair t p ps) = both home _ _ (at sc one_value t) (both home _ _ (at_pattern sc q p) (at_pat_pairs (with_pattern q p sc) q ps))

    at_pat_segments : (sc : Scope) (ss : m.PatSegments) → AllAt home (rules_of_pat_segments U home sc ss)
    at_pat_segments sc m.no_pat_segment = none_at
    at_pat_segments sc (m.and_pat_segment p ts ss) = both home _ _ (at_pattern sc anywhere p) (both home _ _ (at_all (with_pattern anywhere p sc) ts) (at_pat_segments (with_pattern anywhere p sc) ss))

    at_heads : (sc : Scope) (qs : List Place) (ps : m.Patterns) → AllAt home (rules_of_heads U home sc qs ps)
    at_heads sc qs m.no_pattern = none_at
    at_heads sc qs (m.and_pattern p ps) = both home _ _ (at_pattern sc (first qs) p) (at_heads (with_pattern (first qs) p sc) (rest qs) ps)

exports_at : (home : Atom) (ds : m.Defs) (fs : List FunName) → AllAt home (export_rules home ds fs)
exports_at home ds [] = none_at
exports_at home ds (f ∷ fs) = both home _ _ (opened_at home (function_named (locals_of ds) f)) (exports_at home ds fs)

module_at : (U : Program) (x : m.Module) → AllAt x.name (module_rules U x)
module_at U x = both x.name _ _ (exports_at x.name x.defs x.exports) (at_definitions U x.name no_place x.defs)

home_is : (home other : Atom) (rs : List Rule) (p : Place) (n l : ℕ) → AllAt home rs → IsAmong rs (applies p n other l) → other ≡ home
home_is home other [] p n l none_at h = absurd h
home_is home other (r ∷ rs) p n l (more_at a k) (inl e) = subst (IsAt home) (sym e) a
home_is home other (r ∷ rs) p n l (more_at a k) (inr h) = home_is home other rs p n l k h

among_cases : (rs qs : List Rule) (r : Rule) → IsAmong (rs ++ qs) r → IsAmong rs r ⊎ IsAmong qs r
among_cases [] qs r h = inr h
among_cases (x ∷ rs) qs r (inl e) = inl (inl e)
among_cases (x ∷ rs) qs r (inr h) = by (among_cases rs qs r h)
  where
    by : IsAmong rs r ⊎ IsAmong qs r → IsAmong (x ∷ rs) r ⊎ IsAmong qs r
    by (inl i) = inl (inr i)
    by (inr i) = inr i

-- an application of a program stands in the rules of a module that has its name
pub module_of_application : (U ps : Program) (home : Atom) (p : Place) (n l : ℕ) → IsAmong (rules_of_modules U ps) (applies p n home l)
    → (x : m.Module) × Contains ps x × (x.name ≡ home) × IsAmong (module_rules U x) (applies p n home l)
module_of_application U [] home p n l h = absurd h
module_of_application U (x ∷ ps) home p n l h = by (among_cases (module_rules U x) (rules_of_modules U ps) (applies p n home l) h) (λ i. module_of_application U ps home p n l i)
  where
    by : IsAmong (module_rules U x) (applies p n home l) ⊎ IsAmong (rules_of_modules U ps) (applies p n home l)
        → (IsAmong (rules_of_modules U ps) (applies p n home l) → (y : m.Module) × Contains ps y × (y.name ≡ home) × IsAmong (module_rules U y) (applies p n home l))
        → (y : m.Module) × Contains (x ∷ ps) y × (y.name ≡ home) × IsAmong (module_rules U y) (applies p n home l)
    by (inl i) more = (x, contains_first x ps, sym (home_is x.name home (module_rules U x) p n l (module_at U x) i), i)
    by (inr i) more = let k = more i in (k.0, contains_later x k.0 ps k.1, k.2, k.3)

-- ---- closures in sets

-- the closure is of a function of a module of the program
abbrev pub InProgram : Program → Item → Type 0
InProgram U anything = Unit {0}
InProgram U (closure_at home l n) = (x : m.Module) × Contains U x × (x.name ≡ home)
InProgram U (external_function home name n) = Unit {0}

item_is : (U : Program) (x : m.Module) (rs : List Rule) (p : Place) (y : Item) → Contains U x → AllAt x.name rs → IsAmong rs (holds p y) → InProgram U y
item_is U x [] p y c none_at h = absurd h
item_is U x (r ∷ rs) p y c (more_at a k) (inl e) = by y (subst (IsAt x.name) (sym e) a)
  where
    by : (z : Item) → IsOf x.name z → InProgram U z
    by anything i = tt
    by (closure_at home l n) i = (x, c, sym i)
    by (external_function home name n) i = tt
item_is U x (r ∷ rs) p y c (more_at a k) (inr h) = item_is U x rs p y c k h

item_in : (U ps : Program) (p : Place) (y : Item) → ((x : m.Module) → Contains ps x → Contains U x) → IsAmong (rules_of_modules U ps) (holds p y) → InProgram U y
item_in U [] p y among h = absurd h
item_in U (x ∷ ps) p y among h = by (among_cases (module_rules U x) (rules_of_modules U ps) (holds p y) h) (λ i. item_in U ps p y (λ z c. among z (contains_later x z ps c)) i)
  where
    by : IsAmong (module_rules U x) (holds p y) ⊎ IsAmong (rules_of_modules U ps) (holds p y) → (IsAmong (rules_of_modules U ps) (holds p y) → InProgram U y) → InProgram U y
    by (inl i) more = item_is U x (module_rules U x) p y (among x (contains_first x ps)) (module_at U x) i
    by (inr i) more = more i

pub held_in : (U : Program) (p : Place) (y : Item) → Holds U p y → InProgram U y
held_in U p y may_any = tt
held_in U p y (may_hold r) = item_in U U p y (λ z c. c) r
held_in U p y (may_flow {p = q} r k) = held_in U q y k
held_in U p y (may_enter {q = q} r k e j) = held_in U q y j
held_in U p y (may_give r k e) = tt
