-- Forms worked by hand.
use Rattle.std.proofs.Common.{◌≡◌, ℕ, suc, pos, [], ◌∷◌, refl}
use Rattle.std.specs.Prelude.{codes}
use Rattle.type_kinds.specs.declared.atom.Atom.{Atom}
use Rattle.core_ast.specs.declared.syntax.Mark.{Mark}
use Rattle.core_ast.specs.declared.syntax.VarName.{VarName}
use Rattle.core_ast.specs.declared.syntax.FunName.{FunName}
use Rattle.core_ast.specs.declared.syntax.Literal.TheVariants as l
use Rattle.core_ast.specs.Model as m
use Rattle.type_lattice_model.specs.Values.{Value, int, cons, nil, tuple, Values, no_value, and_value, count, Env, no_variable, and_variable, and_frame, closure}
use Rattle.bif_types.specs.Results.{one_value, two_values}
use Rattle.core_meaning.specs.Programs.{Program}
use Rattle.core_meaning.specs.Matching.{Match, match_variable, match_literal, match_list, match_head, match_rest, Miss, miss_list, miss_no_list, MissEach, miss_tuple, miss_fewer, miss_here, miss_later, miss_literal, miss_map}
use Rattle.core_meaning.specs.Meaning.{gives, fails, raised, stopped, Trace, entered, gave, back, give_none, give_next, chain_ends, let_gives, do_gives, Choose, choose_none}
use Rattle.core_meaning.specs.Meaning.{choose_missed, choose_refused, choose_raised, choose_this, Enter, enter_gives, Apply, apply_closure, Step, step_variable, step_literal}
use Rattle.core_meaning.specs.Meaning.{step_list, step_tuple, step_chain, step_case, step_letrec, step_apply_name, step_primop, step_primop_raises, step_caught, step_handle, step_receive, step_timeout}
use Rattle.core_meaning.specs.Runs.{EvalWith}
use Rattle.core_meaning.specs.Worked.{mark, name_of}

module _ (U : Program) (W : Value → Type 0) (k : Mark) (home : Atom) (env : Env) (n : ℕ) where
  abbrev one : m.Tree
  one = m.literal k (l.Int (pos 1))

  abbrev two : m.Tree
  two = m.literal k (l.Int (pos 2))

  abbrev fails_to_match : m.Tree
  fails_to_match = m.primop k (codes "match_fail") m.no_tree

  abbrev x_name : VarName
  x_name = record { name = codes "X"; place = k.place; note = k.note }

  abbrev blank : VarName
  blank = record { name = codes "_"; place = k.place; note = k.note }

  -- `{1,2}`
  a_tuple : EvalWith U W (suc (suc n)) home env (m.tuple k (m.and_tree one (m.and_tree two m.no_tree))) (gives (one_value (tuple (two_values (int (pos 1)) (int (pos 2)))))) []
  a_tuple = step_tuple (give_next (step_literal refl) (give_next (step_literal refl) give_none))

  -- `[1|2]`, and `[1,2]`, whose tail is the literal nil
  improper_list : EvalWith U W (suc (suc n)) home env (m.listed k (m.and_tree one m.no_tree) two) (gives (one_value (cons (int (pos 1)) (int (pos 2))))) []
  improper_list = step_list (give_next (step_literal refl) (give_next (step_literal refl) give_none))

  proper_list : EvalWith U W (suc (suc n)) home env (m.listed k (m.and_tree one (m.and_tree two m.no_tree)) (m.literal k l.Nil)) (gives (one_value (cons (int (pos 1)) (cons (int (pos 2)) nil)))) []
  proper_list = step_list (give_next (step_literal refl) (give_next (step_literal refl) (give_next (step_literal refl) give_none)))

  -- `let <X> = 1 in X`, and `let <_> = 1 in do 2 2`
  a_let : EvalWith U W (suc (suc n)) home env (m.chain k (m.and_let k (x_name ∷ []) one m.no_step) (m.variable k (codes "X"))) (gives (one_value (int (pos 1)))) []
  a_let = step_chain (let_gives (step_literal refl) refl (chain_ends (step_variable refl)))

  a_do : EvalWith U W (suc (suc n)) home env (m.chain k (m.and_let k (blank ∷ []) one (m.and_do k two m.no_step)) two) (gives (one_value (int (pos 2)))) []
  a_do = step_chain (let_gives (step_literal refl) refl (do_gives (step_literal refl) (chain_ends (step_literal refl))))

  -- `catch primop 'match_fail'()` gives some value from outside
  a_catch : (v : Value) → W v → EvalWith U W (suc (suc n)) home env (m.catch k fails_to_match) (gives (one_value v)) []
  a_catch v w = step_caught (step_primop_raises give_none) w

  -- `try primop 'match_fail'() of <> -> 1 catch <X> -> X` gives it too
  a_try : (v : Value) → W v → EvalWith U W (suc (suc n)) home env (m.try k fails_to_match [] one (x_name ∷ []) (m.variable k (codes "X"))) (gives (one_value v)) []
  a_try v w = step_handle (one_value v) (step_primop_raises give_none) refl (w, tt) (step_variable refl)

  -- a primop that raises doesn't return
  gives_nothing : (vs : Values) (tr : Trace) → Step U W (EvalWith U W n) home env fails_to_match (gives vs) tr → ⊥
  gives_nothing vs _ (step_primop not_raising xs ws) = not_raising refl

  -- `case 1 of <2> when .. -> ..` raises
  one_no_two : int (pos 1) ≡ int (pos 2) → ⊥
  one_no_two e = cc

  no_clause_fits : (g t : m.Tree) → EvalWith U W (suc (suc n)) home env (m.case k one (m.and_clause k (m.and_pattern (m.equals k (l.Int (pos 2))) m.no_pattern) g t m.no_clause)) (fails raised) []
  no_clause_fits g t = step_case (step_literal refl) refl (choose_missed (miss_here (miss_literal one_no_two)) choose_none)

  -- `receive after 1 -> 2` gives 2 or waits for ever
  no_message : EvalWith U W (suc (suc n)) home env (m.receive k m.no_clause one two) (gives (one_value (int (pos 2)))) []
  no_message = step_timeout (step_literal refl) (step_literal refl)

  waits : (v : Value) → W v → EvalWith U W (suc (suc n)) home env (m.receive k m.no_clause one two) (fails stopped) []
  waits v w = step_receive (step_literal refl) w choose_none

  -- `[X|2]` matches `[1|2]` and binds X, and it misses the tuple of no elements; `{1}` misses it too
  abbrev list_pattern : m.Pattern
  list_pattern = m.list_of k (m.and_pattern (m.binds k (codes "X")) m.no_pattern) (m.equals k (l.Int (pos 2)))

  binds_head : Match W list_pattern (cons (int (pos 1)) (int (pos 2))) env (and_variable (codes "X") (int (pos 1)) env)
  binds_head = match_list (match_head match_variable (match_rest (match_literal refl)))

  tuple_no_list : (h t : Value) → tuple no_value ≡ cons h t → ⊥
  tuple_no_list h t e = cc

  misses_tuple : Miss list_pattern (tuple no_value)
  misses_tuple = miss_list (miss_no_list tuple_no_list)

  too_short : Miss (m.tuple_of k (m.and_pattern (m.equals k (l.Int (pos 1))) m.no_pattern)) (tuple no_value)
  too_short = miss_tuple miss_fewer

  -- a float pattern may miss any value, and a map pattern too
  a_float_may_miss : (s : Atom) (v : Value) → Miss (m.equals k (l.Float s)) v
  a_float_may_miss s v = miss_literal tt

  a_map_may_miss : (v : Value) → Miss (m.map_of k m.no_pat_pair) v
  a_map_may_miss v = miss_map

  gives_nothing_there : (inner : Env) (vs : Values) (tr : Trace) → EvalWith U W (suc n) home inner fails_to_match (gives vs) tr → ⊥
  gives_nothing_there inner vs _ (step_primop not_raising xs ws) = not_raising refl

  -- `case 1 of <X> when primop 'match_fail'() -> 1` gives nothing: a guard that raises doesn't choose its clause
  abbrev x_pattern : m.Patterns
  x_pattern = m.and_pattern (m.binds k (codes "X")) m.no_pattern

  never_misses : (vs : Values) → count vs ≡ 1 → MissEach x_pattern vs → ⊥
  never_misses no_value e h = absurd cc
  never_misses (and_value v no_value) e (miss_here h) = elim h [ ]
  never_misses (and_value v no_value) e (miss_later h) = elim h [ ]
  never_misses (and_value v (and_value w vs)) e h = absurd cc

  not_chosen : (vs ws : Values) (tr : Trace) → count vs ≡ 1 → Choose (EvalWith U W (suc n) home) W raised home env vs (m.and_clause k x_pattern fails_to_match one m.no_clause) (gives ws) tr → ⊥
  not_chosen vs ws tr e (choose_missed h rest) = never_misses vs e h
  not_chosen vs ws _ e (choose_refused h guard other rest) = elim rest [ ]
  not_chosen vs ws _ e (choose_raised h guard rest) = elim rest [ ]
  not_chosen vs ws _ e (choose_this h guard body) = gives_nothing_there _ _ _ guard

  -- a closure isn't entered with another number of arguments than its arity
  not_entered : (l : ℕ) (v : Value) (tr : Trace) → Apply U W (EvalWith U W n) (closure home l 1 env) no_value (gives (one_value v)) tr → ⊥
  not_entered l v _ (apply_closure (enter_gives e f g h)) = absurd cc

-- ---- a `letrec`:
--
--     module 'w' ['f'/0] attributes []
--     'f'/0 = fun () -> letrec 'g'/0 = fun () -> 7 in apply 'g'/0()
--     end

abbrev g_name : FunName
g_name = name_of (codes "g") 0

abbrev seven : m.Tree
seven = m.literal (mark 3 0 0) (l.Int (pos 7))

abbrev f_body : m.Tree
f_body = m.letrec (mark 1 0 0) (m.and_def g_name (mark 2 0 0) [] seven m.no_def) (m.apply (mark 4 0 0) (m.local (mark 5 0 0) g_name) m.no_tree)

abbrev w : m.Module
w = record { name = codes "w"; exports = name_of (codes "f") 0 ∷ []; export_places = []; defs = m.and_def (name_of (codes "f") 0) (mark 0 0 0) [] f_body m.no_def; note = (mark 0 0 0).note }

abbrev f_closure : Value
f_closure = closure (codes "w") 0 0 no_variable

-- it sees itself
abbrev g_closure : Value
g_closure = closure (codes "w") 2 0 (and_frame (record { name = codes "g"; arity = 0; label = 2 } ∷ []) no_variable)

abbrev letrec_trace : Trace
letrec_trace = entered f_closure no_value ∷ entered g_closure no_value ∷ gave g_closure no_value (int (pos 7)) ∷ back (codes "w") 4 (int (pos 7)) ∷ gave f_closure no_value (int (pos 7)) ∷ []

letrec_runs : (W : Value → Type 0) (n : ℕ) →
    Enter (w ∷ []) W (EvalWith (w ∷ []) W (suc (suc (suc n)))) f_closure no_value (gives (one_value (int (pos 7)))) letrec_trace
letrec_runs W n = enter_gives refl refl refl (step_letrec (refl, tt) (step_apply_name refl refl give_none (enter_gives refl refl refl (step_literal refl))))
