-- Where the values of each expression are, and the rules that a program's text makes: one recursion over the text, each part of
-- which makes its rules whether it is reached or not. No type is looked at.
use Rattle.std.specs.Prelude.{◌≡◌, ◌⊎◌, ℕ, zero, suc, ◌+◌, if◌then◌else◌, List, [], ◌∷◌, ◌++◌, length, Option, Some, None, nat_eq, codes}
use Rattle.type_kinds.specs.declared.atom.Atom.{Atom}
use Rattle.core_ast.specs.declared.syntax.FunName.{FunName}
use Rattle.core_ast.specs.declared.syntax.VarName.{VarName}
use Rattle.core_ast.specs.Lengths.{how_many}
use Rattle.core_ast.specs.Model as m
use Rattle.core_ast.specs.Named.{literal_atom, local_name}
use Rattle.core_scope.specs.Asks.{function_name, one_value, width}
use Rattle.core_scope.specs.Names.{has_function}
use Rattle.core_scope.specs.declared.ask.Ask.{Ask}
use Rattle.core_scope.specs.declared.ask.Ask.TheVariants.{AnyNumber, Exactly}
use Rattle.type_lattice_model.specs.Values.{Local}
use Rattle.core_meaning.specs.Programs.{Program, locals_of, function_named, Found, built_in, exported, hidden, outside, found}
use Rattle.fun_flow_sets.specs.Items.{anything, closure_at, external_function, Place, nowhere, anywhere, part, parameter, returned, Rule, holds, flows, applies, defined_at}
use Rattle.fun_flow_sets.specs.Scopes.{Scope, no_place, in_frame, place_of, definition_of, first, fit, with_place, with_places, parameters, rest, with_pattern, with_patterns, with_heads}

-- ---- where values are

-- how many values are kept: those that are asked, and none where any number may come, since they are dropped
abbrev pub kept : Ask → ℕ
kept AnyNumber = 0
kept (Exactly n) = n

-- n values of the expression at a label, from the i-th on
abbrev pub parts : Atom → ℕ → (i n : ℕ) → List Place
parts home label i zero = []
parts home label i (suc n) = part home label i ∷ parts home label (i + 1) n

-- what a definition gives, which is nothing where there is none
abbrev pub given_by : Atom → Option Local → Place
given_by home None = nowhere
given_by home (Some d) = returned home d.label

-- the functions of `erlang` that hand on parts of their arguments
abbrev pub handing_on : List FunName
handing_on = function_name (codes "hd") 1 ∷ function_name (codes "tl") 1 ∷ function_name (codes "element") 2 ∷ []

-- where the value of a call is, by what its literal names find: of `hd`, `tl` and `element` a place of its own, of an exported
-- function what it gives, and of every other one anywhere
abbrev pub found_place : Program → Atom → ℕ → Found → Atom → FunName → Place
found_place U home label built_in x f = if has_function handing_on f then part home label 0 else anywhere
found_place U home label exported x f = given_by x (defined_at U x f)
found_place U home label hidden x f = anywhere
found_place U home label outside x f = anywhere

-- where the value of a call to n arguments is; names that are computed may find anything
abbrev pub call_place : Program → Atom → ℕ → Option Atom → Option Atom → ℕ → Place
call_place U home label None y n = anywhere
call_place U home label (Some x) None n = anywhere
call_place U home label (Some x) (Some y) n = found_place U home label (found U x (function_name y n)) x (function_name y n)

-- where the value of an application to n arguments is: of a name what its function gives, or nowhere with a wrong number of
-- arguments; of another operator a place of its own
abbrev pub application_place : Program → Atom → Scope → ℕ → Option FunName → ℕ → Place
application_place U home sc label None n = part home label 0
application_place U home sc label (Some f) n = if nat_eq f.arity n then given_by home (definition_of U home sc f) else nowhere

module _ (U : Program) (home : Atom) where
  -- Where the values of an expression are that stands in a scope and is asked for some values. Forms that pass values on have the
  -- places of what they pass on.
  abbrev mutual
    pub places : Scope → Ask → m.Tree → List Place
    places sc k (m.variable i x) = place_of sc x ∷ []
    places sc k (m.local i f) = part home i.label 0 ∷ []
    places sc k (m.external i x f) = part home i.label 0 ∷ []
    places sc k (m.literal i l) = nowhere ∷ []
    places sc k (m.function i xs t) = part home i.label 0 ∷ []
    places sc k (m.listed i ts t) = part home i.label 0 ∷ []
    places sc k (m.tuple i ts) = part home i.label 0 ∷ []
    places sc k (m.new_map i ps) = part home i.label 0 ∷ []
    places sc k (m.updated_map i ps t) = part home i.label 0 ∷ []
    places sc k (m.binary i ss) = nowhere ∷ []
    places sc k (m.values i ts) = places_of_all sc ts
    places sc k (m.chain i ss t) = places (after_steps sc ss) k t
    places sc k (m.case i t cs) = parts home i.label 0 (kept k)
    places sc k (m.letrec i ds t) = places (in_frame (locals_of ds) sc) k t
    places sc k (m.apply i t ts) = application_place U home sc i.label (local_name t) (how_many ts) ∷ []
    places sc k (m.call i t u ts) = call_place U home i.label (literal_atom t) (literal_atom u) (how_many ts) ∷ []
    places sc k (m.primop i x ts) = []
    places sc k (m.try i t xs u ys w) = parts home i.label 0 (kept k)
    places sc k (m.receive i cs t u) = parts home i.label 0 (kept k)
    places sc k (m.catch i t) = anywhere ∷ []

    -- one of each
    pub places_of_all : Scope → m.Trees → List Place
    places_of_all sc m.no_tree = []
    places_of_all sc (m.and_tree t ts) = first (places sc one_value t) ∷ places_of_all sc ts

    -- what is seen after the steps of a chain
    pub after_steps : Scope → m.Steps → Scope
    after_steps sc m.no_step = sc
    after_steps sc (m.and_let i xs t ss) = after_steps (with_places xs (places sc (Exactly (length xs)) t) sc) ss
    after_steps sc (m.and_do i t ss) = after_steps sc ss

  -- the keys and the values of a map
  abbrev pub places_of_pairs : Scope → m.Pairs → List Place
  places_of_pairs sc m.no_pair = []
  places_of_pairs sc (m.and_pair exact t u ps) = first (places sc one_value t) ∷ first (places sc one_value u) ∷ places_of_pairs sc ps

-- ---- rules

-- what each of the places holds the last one holds
abbrev pub all_into : List Place → Place → List Rule
all_into [] q = []
all_into (p ∷ ps) q = flows p q ∷ all_into ps q

-- each flows to the value of its number, from the i-th on
abbrev pub into_parts : Atom → ℕ → (i : ℕ) → List Place → List Rule
into_parts home label i [] = []
into_parts home label i (p ∷ ps) = flows p (part home label i) ∷ into_parts home label (i + 1) ps

-- each flows to the parameter of its number, from the i-th on
abbrev pub into_parameters : Atom → ℕ → (i : ℕ) → List Place → List Rule
into_parameters home label i [] = []
into_parameters home label i (p ∷ ps) = flows p (parameter home label i) ∷ into_parameters home label (i + 1) ps

-- n parameters of a function, from the i-th on, may be anything: who has the function as a value may enter it with anything
abbrev pub opens : Atom → ℕ → (i n : ℕ) → List Rule
opens home label i zero = []
opens home label i (suc n) = holds (parameter home label i) anything ∷ opens home label (i + 1) n

abbrev pub opens_definition : Atom → Option Local → List Rule
opens_definition home None = []
opens_definition home (Some d) = opens home d.label 0 d.arity

-- a name that stands as a value has itself, and its parameters may be anything
abbrev pub name_rules : Atom → ℕ → Option Local → List Rule
name_rules home label None = []
name_rules home label (Some d) = holds (part home label 0) (closure_at home d.label d.arity) ∷ opens home d.label 0 d.arity

-- the arguments of an application of a name flow to the parameters, where they are as many
abbrev pub argument_rules : Atom → Option Local → (arity n : ℕ) → List Place → List Rule
argument_rules home None arity n ps = []
argument_rules home (Some d) arity n ps = if nat_eq arity n then into_parameters home d.label 0 ps else []

-- what an application makes: the arguments of a name flow to its parameters, and another operator is applied
abbrev pub application_rules : Program → Atom → Scope → ℕ → Option FunName → (operator : List Place) (of_operator : List Rule) (n : ℕ) (arguments : List Place) → List Rule
application_rules U home sc label (Some f) os rs n ps = argument_rules home (definition_of U home sc f) f.arity n ps
application_rules U home sc label None os rs n ps = applies (first os) n home label ∷ rs

-- what a call makes: the arguments of `hd`, `tl` and `element` are joined. Those of an exported function add nothing, since its
-- parameters may be anything
abbrev pub found_rules : Atom → ℕ → Found → FunName → List Place → List Rule
found_rules home label built_in f ps = if has_function handing_on f then all_into ps (part home label 0) else []
found_rules home label exported f ps = []
found_rules home label hidden f ps = []
found_rules home label outside f ps = []

abbrev pub call_rules : Program → Atom → ℕ → Option Atom → Option Atom → (n : ℕ) → List Place → List Rule
call_rules U home label None y n ps = []
call_rules U home label (Some x) None n ps = []
call_rules U home label (Some x) (Some y) n ps = found_rules home label (found U x (function_name y n)) (function_name y n) ps

module _ (U : Program) (home : Atom) where
  -- what is seen in the body of the function at a label: its parameters, beside what is seen around it
  abbrev pub in_function : ℕ → List VarName → Scope → Scope
  in_function label xs sc = with_places xs (parameters home label 0 (length xs)) sc

  -- where an expression's values are flows to the values of a form, of which some are asked
  abbrev pub passed_to : ℕ → Ask → List Place → List Rule
  passed_to label k ps = into_parts home label 0 (fit (kept k) ps)

  -- The rules of an expression that stands in a scope and is asked for some values: its own, and then those of its parts in the
  -- order of the text.
  abbrev mutual
    pub rules : Scope → Ask → m.Tree → List Rule
    rules sc k (m.variable i x) = []
    rules sc k (m.local i f) = name_rules home i.label (definition_of U home sc f)
    rules sc k (m.external i x f) = holds (part home i.label 0) (external_function x f.name f.arity) ∷ []
    rules sc k (m.literal i l) = []
    rules sc k (m.function i xs t) =
        holds (part home i.label 0) (closure_at home i.label (length xs)) ∷ (opens home i.label 0 (length xs)
        ++ (flows (first (places U home (in_function i.label xs sc) one_value t)) (returned home i.label) ∷ rules (in_function i.label xs sc) one_value t))
    rules sc k (m.listed i ts t) = all_into (places_of_all U home sc ts) (part home i.label 0) ++ (flows (first (places U home sc one_value t)) (part home i.label 0) ∷ (rules_of_all sc ts ++ rules sc one_value t))
    rules sc k (m.tuple i ts) = all_into (places_of_all U home sc ts) (part home i.label 0) ++ rules_of_all sc ts
    rules sc k (m.new_map i ps) = all_into (places_of_pairs U home sc ps) (part home i.label 0) ++ rules_of_pairs sc ps
    rules sc k (m.updated_map i ps t) = all_into (places_of_pairs U home sc ps) (part home i.label 0) ++ (flows (first (places U home sc one_value t)) (part home i.label 0) ∷ (rules_of_pairs sc ps ++ rules sc one_value t))
    rules sc k (m.binary i ss) = rules_of_segments sc ss
    rules sc k (m.values i ts) = rules_of_all sc ts
    rules sc k (m.chain i ss t) = rules_of_steps sc ss ++ rules (after_steps U home sc ss) k t
    rules sc k (m.case i t cs) = rules sc (Exactly (width cs)) t ++ rules_of_clauses sc k i.label (places U home sc (Exactly (width cs)) t) cs
    rules sc k (m.letrec i ds t) = rules_of_definitions (in_frame (locals_of ds) sc) ds ++ rules (in_frame (locals_of ds) sc) k t
    rules sc k (m.apply i t ts) = application_rules U home sc i.label (local_name t) (places U home sc one_value t) (rules sc one_value t) (how_many ts) (places_of_all U home sc ts) ++ rules_of_all sc ts
    rules sc k (m.call i t u ts) = call_rules U home i.label (literal_atom t) (literal_atom u) (how_many ts) (places_of_all U home sc ts) ++ (rules sc one_value t ++ (rules sc one_value u ++ rules_of_all sc ts))
    rules sc k (m.primop i x ts) = rules_of_all sc ts
    -- what the handler's variables stand for may be anything
    rules sc k (m.try i t xs u ys w) =
        rules sc (Exactly (length xs)) t
        ++ ((passed_to i.label k (places U home (with_places xs (places U home sc (Exactly (length xs)) t) sc) k u) ++ rules (with_places xs (places U home sc (Exactly (length xs)) t) sc) k u)
        ++ (passed_to i.label k (places U home (with_places ys [] sc) k w) ++ rules (with_places ys [] sc) k w))
    -- so may a message
    rules sc k (m.receive i cs t u) = rules_of_clauses sc k i.label [] cs ++ (rules sc one_value t ++ (passed_to i.label k (places U home sc k u) ++ rules sc k u))
    rules sc k (m.catch i t) = rules sc one_value t

    pub rules_of_all : Scope → m.Trees → List Rule
    rules_of_all sc m.no_tree = []
    rules_of_all sc (m.and_tree t ts) = rules sc one_value t ++ rules_of_all sc ts

    pub rules_of_pairs : Scope → m.Pairs → List Rule
    rules_of_pairs sc m.no_pair = []
    rules_of_pairs sc (m.and_pair exact t u ps) = rules sc one_value t ++ (rules sc one_value u ++ rules_of_pairs sc ps)

    pub rules_of_segments : Scope → m.Segments → List Rule
    rules_of_segments sc m.no_segment = []
    rules_of_segments sc (m.and_segment t ts ss) = rules sc one_value t ++ (rules_of_all sc ts ++ rules_of_segments sc ss)

    pub rules_of_steps : Scope → m.Steps → List Rule
    rules_of_steps sc m.no_step = []
    rules_of_steps sc (m.and_let i xs t ss) = rules sc (Exactly (length xs)) t ++ rules_of_steps (with_places xs (places U home sc (Exactly (length xs)) t) sc) ss
    rules_of_steps sc (m.and_do i t ss) = rules sc AnyNumber t ++ rules_of_steps sc ss

    -- the clauses of the form at a label, tried with values at these places
    pub rules_of_clauses : Scope → Ask → ℕ → List Place → m.Clauses → List Rule
    rules_of_clauses sc k label qs m.no_clause = []
    rules_of_clauses sc k label qs (m.and_clause i ps g t cs) =
        rules_of_heads sc qs ps
        ++ (rules (with_heads qs ps sc) one_value g
        ++ ((passed_to label k (places U home (with_heads qs ps sc) k t) ++ rules (with_heads qs ps sc) k t)
        ++ rules_of_clauses sc k label qs cs))

    -- the functions of a `letrec` or of a module, each of which sees all of them
    pub rules_of_definitions : Scope → m.Defs → List Rule
    rules_of_definitions sc m.no_def = []
    rules_of_definitions sc (m.and_def f i xs t ds) =
        (flows (first (places U home (in_function i.label xs sc) one_value t)) (returned home i.label) ∷ rules (in_function i.label xs sc) one_value t)
        ++ rules_of_definitions sc ds

    -- Keys of map patterns and arguments of pattern segments are text that isn't evaluated; yet the names in them stand as values.
    pub rules_of_pattern : Scope → Place → m.Pattern → List Rule
    rules_of_pattern sc q (m.binds i x) = []
    rules_of_pattern sc q (m.equals i l) = []
    rules_of_pattern sc q (m.list_of i ps p) = rules_of_patterns sc q ps ++ rules_of_pattern (with_patterns q ps sc) q p
    rules_of_pattern sc q (m.tuple_of i ps) = rules_of_patterns sc q ps
    rules_of_pattern sc q (m.map_of i ps) = rules_of_pat_pairs sc q ps
    rules_of_pattern sc q (m.binary_of i ss) = rules_of_pat_segments sc ss
    rules_of_pattern sc q (m.alias i x p) = rules_of_pattern (with_place x.name q sc) q p

    pub rules_of_patterns : Scope → Place → m.Patterns → List Rule
    rules_of_patterns sc q m.no_pattern = []
    rules_of_patterns sc q (m.and_pattern p ps) = rules_of_pattern sc q p ++ rules_of_patterns (with_pattern q p sc) q ps

    pub rules_of_pat_pairs : Scope → Place → m.PatPairs → List Rule
    rules_of_pat_pairs sc q m.no_pat_pair = []
    rules_of_pat_pairs sc q (m.and_pat_pair t p ps) = rules sc one_value t ++ (rules_of_pattern sc q p ++ rules_of_pat_pairs (with_pattern q p sc) q ps)

    pub rules_of_pat_segments : Scope → m.PatSegments → List Rule
    rules_of_pat_segments sc m.no_pat_segment = []
    rules_of_pat_segments sc (m.and_pat_segment p ts ss) =
        rules_of_pattern sc anywhere p ++ (rules_of_all (with_pattern anywhere p sc) ts ++ rules_of_pat_segments (with_pattern anywhere p sc) ss)

    -- the patterns of a clause, one for each place
    pub rules_of_heads : Scope → List Place → m.Patterns → List Rule
    rules_of_heads sc qs m.no_pattern = []
    rules_of_heads sc qs (m.and_pattern p ps) = rules_of_pattern sc (first qs) p ++ rules_of_heads (with_pattern (first qs) p sc) (rest qs) ps

-- ---- a program

-- the parameters of exported functions may be anything
abbrev pub export_rules : Atom → m.Defs → List FunName → List Rule
export_rules home ds [] = []
export_rules home ds (f ∷ fs) = opens_definition home (function_named (locals_of ds) f) ++ export_rules home ds fs

abbrev pub module_rules : Program → m.Module → List Rule
module_rules U x = export_rules x.name x.defs x.exports ++ rules_of_definitions U x.name no_place x.defs

abbrev pub rules_of_modules : Program → List m.Module → List Rule
rules_of_modules U [] = []
rules_of_modules U (x ∷ xs) = module_rules U x ++ rules_of_modules U xs

-- the rules that the text of a program makes
abbrev pub rules_of : Program → List Rule
rules_of U = rules_of_modules U U

abbrev pub IsAmong : List Rule → Rule → Type 0
IsAmong [] r = ⊥
IsAmong (q ∷ qs) r = (r ≡ q) ⊎ IsAmong qs r

-- the text of the program makes the rule
abbrev pub IsRule : Program → Rule → Type 0
IsRule U r = IsAmong (rules_of U) r
