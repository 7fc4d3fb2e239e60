-- What an expression may do (Core Erlang 1.0.3): its outcome and its trace, over what its parts may do. One row for each form
-- and each way that it may go.
use Rattle.std.specs.Prelude.{◌≡◌, ◌≢◌, ◌⊎◌, ℕ, pos, Bool, true, List, [], ◌∷◌, ◌++◌, length, Option, Some, None}
use Rattle.type_kinds.specs.declared.atom.Atom.{Atom}
use Rattle.core_ast.specs.declared.syntax.Mark.{Mark}
use Rattle.core_ast.specs.declared.syntax.VarName.{VarName}
use Rattle.core_ast.specs.declared.syntax.FunName.{FunName}
use Rattle.core_ast.specs.declared.syntax.Literal.{Literal}
use Rattle.core_ast.specs.Model as m
use Rattle.core_ast.specs.Lengths.{how_many}
use Rattle.core_ast.specs.Named.{local_name}
use Rattle.core_scope.specs.Asks.{is_raising, width}
use Rattle.core_scope.specs.Functions.{LabelledFunction}
use Rattle.type_lattice_model.specs.Canonical.{HoldsPair, AreAscending}
use Rattle.type_lattice_model.specs.Values.{Value, int, atom, bits, nil, cons, tuple, map, closure, external, foreign, Values, no_value, and_value, ValuePairs, no_pair, and_pair, Env, and_frame, count}
use Rattle.cons_tree.specs.Satisfied.{true_value}
use Rattle.bif_types.specs.Results.{one_value, BifMay, is_exact}
use Rattle.core_meaning.specs.Programs.{Program, function_at, IsAtLabel, AreAtLabels, locals_of, built_in, exported, outside, found, top_function}
use Rattle.core_meaning.specs.Environments.{with_variables, value_of, function_of}
use Rattle.core_meaning.specs.Matching.{LiteralIs, MatchEach, MissEach}

-- ---- outcomes and traces

-- how an expression ends that doesn't return: it raises, or it goes on for longer than the fuel lasts or waits for ever
pub data Failure : Type 0 where
  raised stopped : Failure

pub data Outcome : Type 0 where
  gives : (vs : Values) → Outcome
  fails : (f : Failure) → Outcome

-- what happens on the way. A function, a clause, a call or an application is named by its module and its label
pub data Event : Type 0 where
  -- a closure was made
  made : (c : Value) → Event
  -- a clause was chosen
  chosen : (home : Atom) (label : ℕ) → Event
  -- a value that is no name was applied
  applied : (home : Atom) (label : ℕ) (c : Value) → Event
  -- a closure was entered with arguments, and gave a value for them
  entered : (c : Value) (vs : Values) → Event
  gave : (c : Value) (vs : Values) (v : Value) → Event
  -- a call or an application gave a value
  back : (home : Atom) (label : ℕ) (v : Value) → Event

abbrev pub Trace : Type 0
Trace = List Event

-- the event is one of the trace
abbrev pub Among : Event → Trace → Type 0
Among x [] = ⊥
Among x (y ∷ tr) = (x ≡ y) ⊎ Among x tr

-- what expressions of one module may do
abbrev pub Relation : Type 1
Relation = Env → m.Tree → Outcome → Trace → Type 0

-- a meaning for each module in which an expression may stand
abbrev pub Meanings : Type 1
Meanings = Atom → Relation

-- what a call or an application that gives a value adds at its end
abbrev pub back_by : Atom → ℕ → Outcome → Trace
back_by home label (gives (and_value v no_value)) = back home label v ∷ []
back_by home label o = []

-- ---- the parts that a form evaluates first, from left to right

abbrev pub with_last : m.Trees → m.Tree → m.Trees
with_last m.no_tree u = m.and_tree u m.no_tree
with_last (m.and_tree t ts) u = m.and_tree t (with_last ts u)

abbrev pub both_rows : m.Trees → m.Trees → m.Trees
both_rows m.no_tree us = us
both_rows (m.and_tree t ts) us = m.and_tree t (both_rows ts us)

abbrev pub in_pairs : m.Pairs → m.Trees
in_pairs m.no_pair = m.no_tree
in_pairs (m.and_pair exact t u ps) = m.and_tree t (m.and_tree u (in_pairs ps))

abbrev pub in_segments : m.Segments → m.Trees
in_segments m.no_segment = m.no_tree
in_segments (m.and_segment t ts ss) = m.and_tree t (both_rows ts (in_segments ss))

-- the operator is a part where it is no name
abbrev pub in_application : Option FunName → m.Tree → m.Trees → m.Trees
in_application (Some f) t ts = ts
in_application None t ts = m.and_tree t ts

-- those of the forms that use one value of each part; the other forms have rows of their own
abbrev pub operands : m.Tree → m.Trees
operands (m.listed k ts t) = with_last ts t
operands (m.tuple k ts) = ts
operands (m.new_map k ps) = in_pairs ps
operands (m.updated_map k ps t) = with_last (in_pairs ps) t
operands (m.binary k ss) = in_segments ss
operands (m.values k ts) = ts
operands (m.apply k t ts) = in_application (local_name t) t ts
operands (m.call k t u ts) = m.and_tree t (m.and_tree u ts)
operands (m.primop k x ts) = ts
operands t = m.no_tree

-- ---- what is made of the values of parts

-- the list of these elements, the last value being what follows them
abbrev pub list_value : Values → Value
list_value no_value = nil
list_value (and_value v no_value) = v
list_value (and_value v vs) = cons v (list_value vs)

abbrev pub IsAmong : Value → Values → Type 0
IsAmong v no_value = ⊥
IsAmong v (and_value w vs) = (v ≡ w) ⊎ IsAmong v vs

-- the values of a map's pairs that are written, without and with the value after the bar
abbrev pub keys_given : Values → Values
keys_given (and_value k (and_value v vs)) = and_value k (keys_given vs)
keys_given vs = no_value

abbrev pub values_given : Values → Values
values_given (and_value k (and_value v vs)) = and_value v (values_given vs)
values_given vs = no_value

-- each key and each value of the map is one of these, or stands in the other map
abbrev pub IsMadeOf : Values → ValuePairs → ValuePairs → Type 0
IsMadeOf vs old no_pair = Unit {0}
IsMadeOf vs old (and_pair k v ps) = ((IsAmong k (keys_given vs) ⊎ ((w : Value) × HoldsPair old k w)) × (IsAmong v (values_given vs) ⊎ ((j : Value) × HoldsPair old j v))) × IsMadeOf vs old ps

-- ---- parts, over any meaning E

module _ (E : Env → m.Tree → Outcome → Trace → Type 0) where
  -- each gives one value
  pub data AllGive (env : Env) : m.Trees → Values → Trace → Type 0 where
    give_none : AllGive env m.no_tree no_value []
    give_next :
        {t : m.Tree} {ts : m.Trees} {v : Value} {vs : Values} {tr more : Trace} →
        E env t (gives (one_value v)) tr →
        AllGive env ts vs more →
        AllGive env (m.and_tree t ts) (and_value v vs) (tr ++ more)

  -- the first ones give a value each, and then one fails
  pub data OneFails (env : Env) : m.Trees → Failure → Trace → Type 0 where
    fail_here : {t : m.Tree} {ts : m.Trees} {f : Failure} {tr : Trace} → E env t (fails f) tr → OneFails env (m.and_tree t ts) f tr
    fail_later :
        {t : m.Tree} {ts : m.Trees} {v : Value} {f : Failure} {tr more : Trace} →
        E env t (gives (one_value v)) tr →
        OneFails env ts f more →
        OneFails env (m.and_tree t ts) f (tr ++ more)

  -- the steps of a chain, and then its last expression
  pub data Chained : Env → m.Steps → m.Tree → Outcome → Trace → Type 0 where
    chain_ends : {env : Env} {t : m.Tree} {o : Outcome} {tr : Trace} → E env t o tr → Chained env m.no_step t o tr
    let_gives :
        {env : Env} {k : Mark} {xs : List VarName} {u t : m.Tree} {ss : m.Steps} {vs : Values} {o : Outcome}
        {tr more : Trace} →
        E env u (gives vs) tr →
        length xs ≡ count vs →
        Chained (with_variables xs vs env) ss t o more →
        Chained env (m.and_let k xs u ss) t o (tr ++ more)
    let_fails :
        {env : Env} {k : Mark} {xs : List VarName} {u t : m.Tree} {ss : m.Steps} {f : Failure} {tr : Trace} →
        E env u (fails f) tr →
        Chained env (m.and_let k xs u ss) t (fails f) tr
    do_gives :
        {env : Env} {k : Mark} {u t : m.Tree} {ss : m.Steps} {vs : Values} {o : Outcome} {tr more : Trace} →
        E env u (gives vs) tr →
        Chained env ss t o more →
        Chained env (m.and_do k u ss) t o (tr ++ more)
    do_fails :
        {env : Env} {k : Mark} {u t : m.Tree} {ss : m.Steps} {f : Failure} {tr : Trace} →
        E env u (fails f) tr →
        Chained env (m.and_do k u ss) t (fails f) tr

  -- the first clause that matches and whose guard gives `'true'`. A guard that gives another value or raises passes to the
  -- next clause; one that fails may also make the whole fail. Where no clause is chosen the whole ends as `none` says
  pub data Choose (W : Value → Type 0) (none : Failure) (home : Atom) (env : Env) (vs : Values) : m.Clauses → Outcome → Trace → Type 0 where
    choose_none : Choose W none home env vs m.no_clause (fails none) []
    choose_missed :
        {k : Mark} {ps : m.Patterns} {g t : m.Tree} {cs : m.Clauses} {o : Outcome} {tr : Trace} →
        MissEach ps vs →
        Choose W none home env vs cs o tr →
        Choose W none home env vs (m.and_clause k ps g t cs) o tr
    choose_refused :
        {k : Mark} {ps : m.Patterns} {g t : m.Tree} {cs : m.Clauses} {inner : Env} {w : Value} {o : Outcome}
        {tr more : Trace} →
        MatchEach W ps vs env inner →
        E inner g (gives (one_value w)) tr →
        w ≢ true_value →
        Choose W none home env vs cs o more →
        Choose W none home env vs (m.and_clause k ps g t cs) o (tr ++ more)
    choose_raised :
        {k : Mark} {ps : m.Patterns} {g t : m.Tree} {cs : m.Clauses} {inner : Env} {o : Outcome} {tr more : Trace} →
        MatchEach W ps vs env inner →
        E inner g (fails raised) tr →
        Choose W none home env vs cs o more →
        Choose W none home env vs (m.and_clause k ps g t cs) o (tr ++ more)
    choose_failed :
        {k : Mark} {ps : m.Patterns} {g t : m.Tree} {cs : m.Clauses} {inner : Env} {f : Failure} {tr : Trace} →
        MatchEach W ps vs env inner →
        E inner g (fails f) tr →
        Choose W none home env vs (m.and_clause k ps g t cs) (fails f) tr
    choose_this :
        {k : Mark} {ps : m.Patterns} {g t : m.Tree} {cs : m.Clauses} {inner : Env} {o : Outcome} {tr more : Trace} →
        MatchEach W ps vs env inner →
        E inner g (gives (one_value true_value)) tr →
        E inner t o more →
        Choose W none home env vs (m.and_clause k ps g t cs) o (tr ++ (chosen home k.label ∷ more))

-- ---- entering, calling, applying. W says which values come from outside

module _ (U : Program) (W : Value → Type 0) (E : Atom → Env → m.Tree → Outcome → Trace → Type 0) where
  -- a closure is entered with as many arguments as its arity: its body stands in its own module, and gives one value
  pub data Enter : Value → Values → Outcome → Trace → Type 0 where
    enter_gives :
        {home : Atom} {label arity : ℕ} {env : Env} {c : LabelledFunction} {vs : Values} {v : Value} {tr : Trace} →
        arity ≡ count vs →
        function_at U home label ≡ Some c →
        length c.parameters ≡ count vs →
        E home (with_variables c.parameters vs env) c.body (gives (one_value v)) tr →
        Enter (closure home label arity env) vs (gives (one_value v))
        (entered (closure home label arity env) vs ∷ (tr ++ (gave (closure home label arity env) vs v ∷ [])))
    enter_fails :
        {home : Atom} {label arity : ℕ} {env : Env} {c : LabelledFunction} {vs : Values} {f : Failure} {tr : Trace} →
        arity ≡ count vs →
        function_at U home label ≡ Some c →
        length c.parameters ≡ count vs →
        E home (with_variables c.parameters vs env) c.body (fails f) tr →
        Enter (closure home label arity env) vs (fails f) (entered (closure home label arity env) vs ∷ tr)

  -- a function is called by its module and its name with some arguments. A built-in function that isn't exact gives what
  -- comes from outside
  pub data Called : Atom → Atom → Values → Outcome → Trace → Type 0 where
    call_built_in :
        {home name : Atom} {vs : Values} {v : Value} →
        found U home (record { name = name; arity = count vs }) ≡ built_in →
        BifMay name vs v →
        (is_exact name (count vs) ≡ true) ⊎ W v →
        Called home name vs (gives (one_value v)) []
    call_enters :
        {home name : Atom} {vs : Values} {c : Value} {o : Outcome} {tr : Trace} →
        found U home (record { name = name; arity = count vs }) ≡ exported →
        top_function U home (record { name = name; arity = count vs }) ≡ Some c →
        Enter c vs o tr →
        Called home name vs o tr
    call_outside :
        {home name : Atom} {vs : Values} {v : Value} →
        found U home (record { name = name; arity = count vs }) ≡ outside →
        W v →
        Called home name vs (gives (one_value v)) []
    -- at any arguments, and always where the module doesn't export the function
    call_raises : {home name : Atom} {vs : Values} → Called home name vs (fails raised) []

  -- a value is applied
  pub data Apply : Value → Values → Outcome → Trace → Type 0 where
    apply_closure : {c : Value} {vs : Values} {o : Outcome} {tr : Trace} → Enter c vs o tr → Apply c vs o tr
    apply_external :
        {home name : Atom} {arity : ℕ} {vs : Values} {o : Outcome} {tr : Trace} →
        arity ≡ count vs →
        Called home name vs o tr →
        Apply (external home name arity) vs o tr
    apply_foreign : {x arity : ℕ} {vs : Values} {v : Value} → arity ≡ count vs → W v → Apply (foreign x arity) vs (gives (one_value v)) []
    -- at any arguments, and always where the value is no function of that many
    apply_raises : {c : Value} {vs : Values} → Apply c vs (fails raised) []

-- each value comes from outside
abbrev pub AreOutside : (Value → Type 0) → Values → Type 0
AreOutside W no_value = Unit {0}
AreOutside W (and_value v vs) = W v × AreOutside W vs

-- ---- the table of forms

module _ (U : Program) (W : Value → Type 0) (E : Atom → Env → m.Tree → Outcome → Trace → Type 0) (home : Atom) where
  pub data Step : Env → m.Tree → Outcome → Trace → Type 0 where
    step_variable : {env : Env} {k : Mark} {x : Atom} {v : Value} → value_of env x ≡ Some v → Step env (m.variable k x) (gives (one_value v)) []
    step_literal : {env : Env} {k : Mark} {c : Literal} {v : Value} → LiteralIs c v → Step env (m.literal k c) (gives (one_value v)) []
    -- the module has this fun at this label: no two labels of a module are equal
    step_function :
        {env : Env} {k : Mark} {xs : List VarName} {t : m.Tree} →
        IsAtLabel U home k None xs t →
        Step env (m.function k xs t) (gives (one_value (closure home k.label (length xs) env))) (made (closure home k.label (length xs) env) ∷ [])
    step_name :
        {env : Env} {k : Mark} {f : FunName} {c : Value} →
        function_of U home env f ≡ Some c →
        Step env (m.local k f) (gives (one_value c)) (made c ∷ [])
    step_external : {env : Env} {k : Mark} {x : Atom} {f : FunName} → Step env (m.external k x f) (gives (one_value (external x f.name f.arity))) []
    -- a part fails
    step_part_fails : {env : Env} {t : m.Tree} {f : Failure} {tr : Trace} → OneFails (E home) env (operands t) f tr → Step env t (fails f) tr
    step_list :
        {env : Env} {k : Mark} {ts : m.Trees} {t : m.Tree} {vs : Values} {tr : Trace} →
        AllGive (E home) env (with_last ts t) vs tr →
        Step env (m.listed k ts t) (gives (one_value (list_value vs))) tr
    step_tuple :
        {env : Env} {k : Mark} {ts : m.Trees} {vs : Values} {tr : Trace} →
        AllGive (E home) env ts vs tr →
        Step env (m.tuple k ts) (gives (one_value (tuple vs))) tr
    step_values :
        {env : Env} {k : Mark} {ts : m.Trees} {vs : Values} {tr : Trace} →
        AllGive (E home) env ts vs tr →
        Step env (m.values k ts) (gives vs) tr
    -- any map whose keys and values are among those given, and those of the map after the bar
    step_new_map :
        {env : Env} {k : Mark} {ps : m.Pairs} {vs : Values} {qs : ValuePairs} {tr : Trace} →
        AllGive (E home) env (in_pairs ps) vs tr →
        IsMadeOf vs no_pair qs →
        AreAscending qs →
        Step env (m.new_map k ps) (gives (one_value (map qs))) tr
    step_new_map_raises :
        {env : Env} {k : Mark} {ps : m.Pairs} {vs : Values} {tr : Trace} →
        AllGive (E home) env (in_pairs ps) vs tr →
        Step env (m.new_map k ps) (fails raised) tr
    step_map :
        {env : Env} {k : Mark} {ps : m.Pairs} {t : m.Tree} {vs : Values} {old qs : ValuePairs} {tr more : Trace} →
        AllGive (E home) env (in_pairs ps) vs tr →
        E home env t (gives (one_value (map old))) more →
        IsMadeOf vs old qs →
        AreAscending qs →
        Step env (m.updated_map k ps t) (gives (one_value (map qs))) (tr ++ more)
    -- also where the value after the bar is no map
    step_map_raises :
        {env : Env} {k : Mark} {ps : m.Pairs} {t : m.Tree} {vs : Values} {tr : Trace} →
        AllGive (E home) env (with_last (in_pairs ps) t) vs tr →
        Step env (m.updated_map k ps t) (fails raised) tr
    step_binary :
        {env : Env} {k : Mark} {ss : m.Segments} {vs : Values} {bs : List Bool} {tr : Trace} →
        AllGive (E home) env (in_segments ss) vs tr →
        Step env (m.binary k ss) (gives (one_value (bits bs))) tr
    step_binary_raises :
        {env : Env} {k : Mark} {ss : m.Segments} {vs : Values} {tr : Trace} →
        AllGive (E home) env (in_segments ss) vs tr →
        Step env (m.binary k ss) (fails raised) tr
    step_chain :
        {env : Env} {k : Mark} {ss : m.Steps} {t : m.Tree} {o : Outcome} {tr : Trace} →
        Chained (E home) env ss t o tr →
        Step env (m.chain k ss t) o tr
    step_case :
        {env : Env} {k : Mark} {t : m.Tree} {cs : m.Clauses} {vs : Values} {o : Outcome} {tr more : Trace} →
        E home env t (gives vs) tr →
        count vs ≡ width cs →
        Choose (E home) W raised home env vs cs o more →
        Step env (m.case k t cs) o (tr ++ more)
    step_case_fails :
        {env : Env} {k : Mark} {t : m.Tree} {cs : m.Clauses} {f : Failure} {tr : Trace} →
        E home env t (fails f) tr →
        Step env (m.case k t cs) (fails f) tr
    -- the functions of a `letrec` see themselves and what stands outside
    step_letrec :
        {env : Env} {k : Mark} {ds : m.Defs} {t : m.Tree} {o : Outcome} {tr : Trace} →
        AreAtLabels U home ds →
        E home (and_frame (locals_of ds) env) t o tr →
        Step env (m.letrec k ds t) o tr
    -- a name is applied: no closure is made
    step_apply_name :
        {env : Env} {k i : Mark} {f : FunName} {ts : m.Trees} {c : Value} {vs : Values} {o : Outcome} {tr more : Trace} →
        f.arity ≡ how_many ts →
        function_of U home env f ≡ Some c →
        AllGive (E home) env ts vs tr →
        Enter U W E c vs o more →
        Step env (m.apply k (m.local i f) ts) o (tr ++ (more ++ back_by home k.label o))
    step_apply_name_raises :
        {env : Env} {k i : Mark} {f : FunName} {ts : m.Trees} {vs : Values} {tr : Trace} →
        AllGive (E home) env ts vs tr →
        Step env (m.apply k (m.local i f) ts) (fails raised) tr
    step_apply :
        {env : Env} {k : Mark} {t : m.Tree} {ts : m.Trees} {c : Value} {vs : Values} {o : Outcome} {tr more : Trace} →
        local_name t ≡ None →
        AllGive (E home) env (m.and_tree t ts) (and_value c vs) tr →
        Apply U W E c vs o more →
        Step env (m.apply k t ts) o (tr ++ (applied home k.label c ∷ (more ++ back_by home k.label o)))
    step_call :
        {env : Env} {k : Mark} {t u : m.Tree} {ts : m.Trees} {x name : Atom} {vs : Values} {o : Outcome}
        {tr more : Trace} →
        AllGive (E home) env (m.and_tree t (m.and_tree u ts)) (and_value (atom x) (and_value (atom name) vs)) tr →
        Called U W E x name vs o more →
        Step env (m.call k t u ts) o (tr ++ (more ++ back_by home k.label o))
    -- also where the module or the name is no atom
    step_call_raises :
        {env : Env} {k : Mark} {t u : m.Tree} {ts : m.Trees} {vs : Values} {tr : Trace} →
        AllGive (E home) env (m.and_tree t (m.and_tree u ts)) vs tr →
        Step env (m.call k t u ts) (fails raised) tr
    -- as many values as the place uses
    step_primop :
        {env : Env} {k : Mark} {x : Atom} {ts : m.Trees} {vs ws : Values} {tr : Trace} →
        (is_raising x ≡ true → ⊥) →
        AllGive (E home) env ts vs tr →
        AreOutside W ws →
        Step env (m.primop k x ts) (gives ws) tr
    step_primop_raises :
        {env : Env} {k : Mark} {x : Atom} {ts : m.Trees} {vs : Values} {tr : Trace} →
        AllGive (E home) env ts vs tr →
        Step env (m.primop k x ts) (fails raised) tr
    step_try :
        {env : Env} {k : Mark} {t u w : m.Tree} {xs ys : List VarName} {vs : Values} {o : Outcome} {tr more : Trace} →
        E home env t (gives vs) tr →
        length xs ≡ count vs →
        E home (with_variables xs vs env) u o more →
        Step env (m.try k t xs u ys w) o (tr ++ more)
    step_handle :
        {env : Env} {k : Mark} {t u w : m.Tree} {xs ys : List VarName} (vs : Values) {o : Outcome} {tr more : Trace} →
        E home env t (fails raised) tr →
        length ys ≡ count vs →
        AreOutside W vs →
        E home (with_variables ys vs env) w o more →
        Step env (m.try k t xs u ys w) o (tr ++ more)
    step_try_stops :
        {env : Env} {k : Mark} {t u w : m.Tree} {xs ys : List VarName} {tr : Trace} →
        E home env t (fails stopped) tr →
        Step env (m.try k t xs u ys w) (fails stopped) tr
    step_catch :
        {env : Env} {k : Mark} {t : m.Tree} {v : Value} {tr : Trace} →
        E home env t (gives (one_value v)) tr →
        Step env (m.catch k t) (gives (one_value v)) tr
    step_caught :
        {env : Env} {k : Mark} {t : m.Tree} {v : Value} {tr : Trace} →
        E home env t (fails raised) tr →
        W v →
        Step env (m.catch k t) (gives (one_value v)) tr
    step_catch_stops : {env : Env} {k : Mark} {t : m.Tree} {tr : Trace} → E home env t (fails stopped) tr → Step env (m.catch k t) (fails stopped) tr
    -- the timeout is evaluated; then a message comes, or the action follows, or it waits for ever
    step_receive :
        {env : Env} {k : Mark} {cs : m.Clauses} {t u : m.Tree} {limit v : Value} {o : Outcome} {tr more : Trace} →
        E home env t (gives (one_value limit)) tr →
        W v →
        Choose (E home) W stopped home env (one_value v) cs o more →
        Step env (m.receive k cs t u) o (tr ++ more)
    step_timeout :
        {env : Env} {k : Mark} {cs : m.Clauses} {t u : m.Tree} {n : ℕ} {o : Outcome} {tr more : Trace} →
        E home env t (gives (one_value (int (pos n)))) tr →
        E home env u o more →
        Step env (m.receive k cs t u) o (tr ++ more)
    step_waits :
        {env : Env} {k : Mark} {cs : m.Clauses} {t u : m.Tree} {limit : Value} {tr : Trace} →
        E home env t (gives (one_value limit)) tr →
        Step env (m.receive k cs t u) (fails stopped) tr
    step_receive_fails :
        {env : Env} {k : Mark} {cs : m.Clauses} {t u : m.Tree} {f : Failure} {tr : Trace} →
        E home env t (fails f) tr →
        Step env (m.receive k cs t u) (fails f) tr
