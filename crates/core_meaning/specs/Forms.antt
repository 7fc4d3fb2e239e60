-- Forms worked by hand: what small expressions may do, each row of the table of forms at least once. `docs/MEANING.md` says
-- which row is in which.
use Rattle.std.specs.Prelude.{◌≡◌, ℕ, suc, pos, Bool, false, List, [], ◌∷◌, codes}
use Rattle.type_kinds.specs.declared.atom.Atom.{Atom}
use Rattle.core_ast.specs.declared.syntax.Mark.{Mark}
use Rattle.core_ast.specs.declared.syntax.VarName.{VarName}
use Rattle.core_ast.specs.declared.syntax.Literal.TheVariants as l
use Rattle.core_ast.specs.Model as m
use Rattle.core_scope.specs.Asks.{erlang}
use Rattle.type_lattice_model.specs.Values.{Value, int, bits, nil, cons, tuple, map, external, foreign, Values, no_pair, and_pair, Env, and_variable}
use Rattle.bif_types.specs.Results.{one_value, two_values}
use Rattle.core_meaning.specs.Programs.{Program, outside, found}
use Rattle.core_meaning.specs.Meaning.{Outcome, gives, fails, raised, stopped, applied, chosen, back, Trace, Called}
use Rattle.core_meaning.specs.Runs.{EvalWith}
use Rattle.core_meaning.specs.Worked.{name_of}

-- the expression may end so, with any fuel from three on
abbrev pub May : Program → (Value → Type 0) → Atom → Env → m.Tree → Outcome → Trace → Type 0
May U W home env t o tr = (n : ℕ) → EvalWith U W (suc (suc (suc n))) home env t o tr

abbrev pub number : ℕ → Value
number n = int (pos n)

-- the map of one pair of numbers
abbrev pub number_pair : ℕ → ℕ → Value
number_pair i j = map (and_pair (number i) (number j) no_pair)

-- ---- trees, whose nodes all have one mark

module _ (k : Mark) where
  abbrev pub num : ℕ → m.Tree
  num n = m.literal k (l.Int (pos n))

  abbrev pub word : Atom → m.Tree
  word x = m.literal k (l.Atom x)

  abbrev pub var : Atom → VarName
  var x = record { name = x; place = k.place; note = k.note }

  abbrev pub seen : Atom → m.Tree
  seen x = m.variable k x

  abbrev pub bind : Atom → m.Pattern
  bind x = m.binds k x

  -- `primop 'match_fail'()`, which raises, and `receive after 'infinity' -> 1`, which waits for ever
  abbrev pub raising : m.Tree
  raising = m.primop k (codes "match_fail") m.no_tree

  abbrev pub waiting : m.Tree
  waiting = m.receive k m.no_clause (word (codes "infinity")) (num 1)

  abbrev pub two_trees : m.Tree → m.Tree → m.Trees
  two_trees t u = m.and_tree t (m.and_tree u m.no_tree)

  -- `let <X> = t in u`
  abbrev pub let_x : m.Tree → m.Tree → m.Tree
  let_x t u = m.chain k (m.and_let k (var (codes "X") ∷ []) t m.no_step) u

  -- `do t u`
  abbrev pub do_both : m.Tree → m.Tree → m.Tree
  do_both t u = m.chain k (m.and_do k t m.no_step) u

  -- a clause of one pattern, and the last
  abbrev pub one_of : m.Pattern → m.Tree → m.Tree → m.Clauses → m.Clauses
  one_of p g t cs = m.and_clause k (m.and_pattern p m.no_pattern) g t cs

  abbrev pub last_of : m.Pattern → m.Tree → m.Tree → m.Clauses
  last_of p g t = one_of p g t m.no_clause

  -- `try t of <X> -> X catch <X,Y> -> Y`
  abbrev pub try_x : m.Tree → m.Tree
  try_x t = m.try k t (var (codes "X") ∷ []) (seen (codes "X")) (var (codes "X") ∷ var (codes "Y") ∷ []) (seen (codes "Y"))

  -- `~{1=>n}~`, and with a tree after the bar
  abbrev pub pair_of : ℕ → m.Pairs
  pair_of n = m.and_pair false (num 1) (num n) m.no_pair

module _ (U : Program) (W : Value → Type 0) (home : Atom) (env : Env) (k : Mark) where
  -- it gives this value, on the way with this trace; it raises; it stops
  abbrev To : m.Tree → Value → Trace → Type 0
  To t v tr = May U W home env t (gives (one_value v)) tr

  abbrev Raises : m.Tree → Trace → Type 0
  Raises t tr = May U W home env t (fails raised) tr

  abbrev Stops : m.Tree → Type 0
  Stops t = May U W home env t (fails stopped) []

  -- forms that bind, and forms that gather the values of their parts
  pub record WorkedParts : Type 0 where
    -- `let <X> = 1 in X`, `let <X,Y> = <1,2> in Y`, `do 1 2`
    pub a_let : To (let_x k (num k 1) (seen k (codes "X"))) (number 1) []
    pub two_variables : To (m.chain k (m.and_let k (var k (codes "X") ∷ var k (codes "Y") ∷ []) (m.values k (two_trees k (num k 1) (num k 2))) m.no_step) (seen k (codes "Y"))) (number 2) []
    pub a_do : To (do_both k (num k 1) (num k 2)) (number 2) []
    -- with an argument that raises
    pub let_raises : Raises (let_x k (raising k) (num k 1)) []
    pub do_raises : Raises (do_both k (raising k) (num k 1)) []
    -- `fun 'm':'f'/1`
    pub an_external : To (m.external k (codes "m") (name_of (codes "f") 1)) (external (codes "m") (codes "f") 1) []
    -- `{1,2}`, `[1|2]`, `[1,2]`
    pub a_tuple : To (m.tuple k (two_trees k (num k 1) (num k 2))) (tuple (two_values (number 1) (number 2))) []
    pub improper_list : To (m.listed k (m.and_tree (num k 1) m.no_tree) (num k 2)) (cons (number 1) (number 2)) []
    pub proper_list : To (m.listed k (two_trees k (num k 1) (num k 2)) (m.literal k l.Nil)) (cons (number 1) (cons (number 2) nil)) []
    -- `{1, primop 'match_fail'()}`
    pub tuple_raises : Raises (m.tuple k (two_trees k (num k 1) (raising k))) []
    -- `~{1=>2}~` gives it, or raises
    pub a_map : To (m.new_map k (pair_of k 2)) (number_pair 1 2) []
    pub map_raises : Raises (m.new_map k (pair_of k 2)) []
    -- `~{1=>3|~{1=>2}~}~` gives the map of 1 to 3; `~{1=>3|1}~` raises
    pub new_value : To (m.updated_map k (pair_of k 3) (m.new_map k (pair_of k 2))) (number_pair 1 3) []
    pub no_map : Raises (m.updated_map k (pair_of k 3) (num k 1)) []
    -- `#{}#` gives any bit string, or raises
    pub a_binary : (bs : List Bool) → To (m.binary k m.no_segment) (bits bs) []
    pub binary_raises : Raises (m.binary k m.no_segment) []

  -- forms that choose, and forms that catch
  pub record WorkedChoices : Type 0 where
    -- `case 1 of <2> when 'true' -> 3  <X> when 'true' -> X end`; without the second clause; with an argument that raises
    pub a_case : To (m.case k (num k 1) (one_of k (m.equals k (l.Int (pos 2))) (word k (codes "true")) (num k 3) (last_of k (bind k (codes "X")) (word k (codes "true")) (seen k (codes "X"))))) (number 1) (chosen home k.label ∷ [])
    pub no_clause_fits : Raises (m.case k (num k 1) (last_of k (m.equals k (l.Int (pos 2))) (word k (codes "true")) (num k 3))) []
    pub case_raises : Raises (m.case k (raising k) (last_of k (bind k (codes "X")) (word k (codes "true")) (num k 3))) []
    -- `case 1 of <X> when 'false' -> 3  <X> when 'true' -> X end`
    pub guard_refuses : To (m.case k (num k 1) (one_of k (bind k (codes "X")) (word k (codes "false")) (num k 3) (last_of k (bind k (codes "X")) (word k (codes "true")) (seen k (codes "X"))))) (number 1) (chosen home k.label ∷ [])
    -- `case 1 of <X> when primop 'match_fail'() -> 3  <X> when 'true' -> X end` passes to the next clause, or raises
    pub guard_passes : To (m.case k (num k 1) (one_of k (bind k (codes "X")) (raising k) (num k 3) (last_of k (bind k (codes "X")) (word k (codes "true")) (seen k (codes "X"))))) (number 1) (chosen home k.label ∷ [])
    pub guard_raises : Raises (m.case k (num k 1) (one_of k (bind k (codes "X")) (raising k) (num k 3) (last_of k (bind k (codes "X")) (word k (codes "true")) (seen k (codes "X"))))) []
    -- `try t of <X> -> X catch <X,Y> -> Y`, of what gives a value, of what raises, and of what waits
    pub a_try : To (try_x k (num k 1)) (number 1) []
    pub a_handler : (v : Value) → W v → To (try_x k (raising k)) v []
    pub try_waits : Stops (try_x k (waiting k))
    -- `catch t`, of the same
    pub a_catch : To (m.catch k (num k 1)) (number 1) []
    pub caught : (v : Value) → W v → To (m.catch k (raising k)) v []
    pub catch_waits : Stops (m.catch k (waiting k))
    -- `receive <X> when 'true' -> X after 'infinity' -> 1` gives a message
    pub a_message : (v : Value) → W v → To (m.receive k (last_of k (bind k (codes "X")) (word k (codes "true")) (seen k (codes "X"))) (word k (codes "infinity")) (num k 1)) v (chosen home k.label ∷ [])
    -- `receive after 1 -> 2` gives 2; `receive after 'infinity' -> 1` waits; with a timeout that raises it raises
    pub timeout : To (m.receive k m.no_clause (num k 1) (num k 2)) (number 2) []
    pub waits : Stops (waiting k)
    pub timeout_raises : Raises (m.receive k m.no_clause (raising k) (num k 2)) []

  -- calls, applications and primops
  pub record WorkedCalls : Type 0 where
    -- `call 'erlang':'+'(1,2)` gives 3, in every program
    pub built_in_gives : To (m.call k (word k erlang) (word k (codes "+")) (two_trees k (num k 1) (num k 2))) (number 3) (back home k.label (number 3) ∷ [])
    -- `call 'm':'f'()` gives any value from outside, where the program has no module `'m'`
    pub outside_gives : (v : Value) → W v → found U (codes "m") (name_of (codes "f") 0) ≡ outside → To (m.call k (word k (codes "m")) (word k (codes "f")) m.no_tree) v (back home k.label v ∷ [])
    -- `call 1:2()` raises
    pub no_name : Raises (m.call k (num k 1) (num k 2) m.no_tree) []
    -- a call may raise, whatever it finds
    pub call_may_raise : (n : ℕ) (x name : Atom) (vs : Values) → Called U W (EvalWith U W n) x name vs (fails raised) []
    -- `let <X> = fun 'erlang':'+'/2 in apply X(1,2)`
    pub external_gives : To (let_x k (m.external k erlang (name_of (codes "+") 2)) (m.apply k (seen k (codes "X")) (two_trees k (num k 1) (num k 2)))) (number 3)
        (applied home k.label (external erlang (codes "+") 2) ∷ back home k.label (number 3) ∷ [])
    -- `apply X()`, where X is a foreign function
    pub foreign_gives : (n : ℕ) (v : Value) → W v → May U W home (and_variable (codes "X") (foreign n 0) env) (m.apply k (seen k (codes "X")) m.no_tree) (gives (one_value v))
        (applied home k.label (foreign n 0) ∷ back home k.label v ∷ [])
    -- `let <X> = 1 in apply X()` raises, and so may `apply 'f'/0(1)`
    pub no_function : Raises (let_x k (num k 1) (m.apply k (seen k (codes "X")) m.no_tree)) (applied home k.label (number 1) ∷ [])
    pub wrong_arity : Raises (m.apply k (m.local k (name_of (codes "f") 0)) (m.and_tree (num k 1) m.no_tree)) []
    -- `primop 'x'()` gives any value from outside; `primop 'match_fail'()` raises
    pub a_primop : (v : Value) → W v → To (m.primop k (codes "x") m.no_tree) v []
    pub primop_raises : Raises (raising k) []
