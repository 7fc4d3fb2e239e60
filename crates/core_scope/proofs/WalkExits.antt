-- The loops of the walk, and what ends again: what each round keeps, and each way out.
use Rattle.std.proofs.Common.{◌≡◌, ℕ, ◌+◌, ◌<◌, ◌||◌, Bool, List, [], ◌∷◌, ◌++◌, Some, OnOk, slice_get, length, take, drop, get_or, eqb, refl, sym, ap, ◌∙◌, subst}
use Rattle.std.proofs.Math.Seq.{take-append_seam, take-length}
use Rattle.std.proofs.lemmas.List.{append_assoc, append-nil}
use Rattle.std.proofs.lemmas.Result.{on_ok_weaker}
use Rattle.type_kinds.proofs.Lists.{drop_next}
use Rattle.type_kinds.specs.declared.atom.Atom.{Atom}
use Rattle.core_ast.specs.declared.syntax.Mark.{Mark}
use Rattle.core_ast.specs.declared.syntax.VarName.{VarName}
use Rattle.core_ast.specs.declared.syntax.FunName.{FunName}
use Rattle.core_ast.specs.declared.syntax.Expr.{Expr}
use Rattle.core_ast.specs.declared.syntax.Pattern.{Pattern}
use Rattle.core_ast.specs.declared.syntax.Clause.{Clause, out-Clause}
use Rattle.core_ast.specs.declared.syntax.MapPair.{MapPair}
use Rattle.core_ast.specs.declared.syntax.Segment.{Segment, out-Segment}
use Rattle.core_ast.specs.declared.syntax.FunDefOf.{FunDefOf}
use Rattle.core_ast.specs.declared.syntax.TryOf.{TryOf}
use Rattle.core_ast.specs.declared.syntax.StepOf.{StepOf}
use Rattle.core_ast.specs.declared.syntax.StepOf.TheVariants.{Let, Do}
use Rattle.core_ast.specs.declared.syntax.Form.TheVariants as f
use Rattle.core_ast.specs.Model as m
use Rattle.core_ast.specs.Tree.{tree, clauses, clause_parts, pair_parts, segment_parts, all_trees, all_pairs, all_segments, all_steps, all_clauses, all_defs, all_patterns}
use Rattle.core_ast.specs.Lengths.{how_many_patterns}
use Rattle.core_ast.proofs.Forms.{chain_tree, letrec_tree}
use Rattle.core_ast.proofs.Trees.{clause-is, pair-is, segment-is}
use Rattle.core_ast.proofs.Items.{all_trees-next, all_pairs-next, all_segments-next, all_clauses-next, all_defs-next, how_many_patterns-length}
use Rattle.core_scope.specs.declared.ask.Ask.{Ask}
use Rattle.core_scope.specs.declared.ask.Ask.TheVariants.{AnyNumber, Exactly}
use Rattle.core_scope.specs.declared.fault.ScopeRule.TheVariants.{Degrees}
use Rattle.core_scope.specs.declared.fault.Break.{Break}
use Rattle.core_scope.specs.declared.walk.Walk.{Walk}
use Rattle.core_scope.specs.Names.{Scope, bound_by, patterns_bound, steps_bound, defined_names, with_variables, with_functions}
use Rattle.core_scope.specs.Asks.{one_value, width}
use Rattle.core_scope.specs.Breaks.{unless, degree, arity_of, catches, new_variables, new_functions, breaks, all_breaks, pair_breaks, segment_breaks, step_breaks, clause_breaks, def_breaks, patterns_breaks}
use Rattle.core_scope.specs.steps.State.{scope_of, scope_around, noting, binding, defining}
use Rattle.core_scope.proofs.States.{first_of-append, noted_twice, bound_twice, noted_as_bound}
use Rattle.core_scope.proofs.ExpressionExits.{Answer, next_step}

pub drop_all : {X : Type 0} (xs : List X) → drop (length xs) xs ≡ []
drop_all [] = refl
drop_all (x ∷ xs) = drop_all xs

-- The width of clauses is that of the first.
pub first_width : (cs : List Clause) (c : Clause) (n : ℕ) → slice_get cs 0 ≡ Some c → n ≡ length (out-Clause c).patterns → n ≡ width (all_clauses cs)
first_width [] c n got count = absurd cc
first_width (d ∷ cs) c n got count =
    let here : c ≡ d = cc in
    count ∙ ap (λ x. length (out-Clause x).patterns) here ∙ sym (how_many_patterns-length (out-Clause d).patterns) ∙ sym (ap (λ x. how_many_patterns x.patterns) (clause-is d))

-- One round: what is met here, and what is left.
pub round : (w w1 goal : Walk) (here rest whole : Scope → List Break) → w1 ≡ noting w (here (scope_of w)) → whole (scope_of w) ≡ here (scope_of w) ++ rest (scope_of w) → noting w (whole (scope_of w)) ≡ goal
    → noting w1 (rest (scope_of w1)) ≡ goal
round w w1 goal here rest whole step is before =
    ap (λ v. noting v (rest (scope_of v))) step ∙ noted_twice w (here (scope_of w)) (rest (scope_of w)) ∙ ap (noting w) (sym is) ∙ before

pub all_round : (w w1 goal : Walk) (es : List Expr) (i : ℕ) (e : Expr) → i < length es → e ≡ get_or es i e → w1 ≡ noting w (breaks (scope_of w) one_value (tree e))
    → noting w (all_breaks (scope_of w) (all_trees (drop i es))) ≡ goal
    → noting w1 (all_breaks (scope_of w1) (all_trees (drop (i + 1) es))) ≡ goal
all_round w w1 goal es i e within is step before =
    round w w1 goal (λ s. breaks s one_value (tree e)) (λ s. all_breaks s (all_trees (drop (i + 1) es))) (λ s. all_breaks s (all_trees (drop i es))) step
    (ap (all_breaks (scope_of w)) (all_trees-next es i e within) ∙ ap (λ x. breaks (scope_of w) one_value (tree x) ++ all_breaks (scope_of w) (all_trees (drop (i + 1) es))) (sym is)) before

pub pairs_round : (w w1 w2 goal : Walk) (ps : List MapPair) (i : ℕ) (p : MapPair) → i < length ps → p ≡ get_or ps i p → w1 ≡ noting w (breaks (scope_of w) one_value (tree p.key))
    → w2 ≡ noting w1 (breaks (scope_of w1) one_value (tree p.value))
    → noting w (pair_breaks (scope_of w) (all_pairs (drop i ps))) ≡ goal → noting w2 (pair_breaks (scope_of w2) (all_pairs (drop (i + 1) ps))) ≡ goal
pairs_round w w1 w2 goal ps i p within is one two before =
    let rest : m.Pairs = all_pairs (drop (i + 1) ps) in
    round w w2 goal (λ s. breaks s one_value (tree p.key) ++ breaks s one_value (tree p.value)) (λ s. pair_breaks s rest) (λ s. pair_breaks s (all_pairs (drop i ps)))
    (next_step w w1 w2 (breaks (scope_of w) one_value (tree p.key)) (λ s. breaks s one_value (tree p.value)) one two)
    (ap (pair_breaks (scope_of w)) (all_pairs-next ps i p within ∙ ap (λ x. let y = pair_parts x in m.and_pair y.exact y.key y.value rest) (sym is) ∙ ap (λ y. m.and_pair y.exact y.key y.value rest) (pair-is p))) before

pub segments_round : (w w1 w2 goal : Walk) (ss : List Segment) (i : ℕ) (x : Segment) (args : List Expr) → i < length ss → x ≡ get_or ss i x → w1 ≡ noting w (breaks (scope_of w) one_value (tree (out-Segment x).value))
    → args ≡ (out-Segment x).args → w2 ≡ noting w1 (all_breaks (scope_of w1) (all_trees args))
    → noting w (segment_breaks (scope_of w) (all_segments (drop i ss))) ≡ goal → noting w2 (segment_breaks (scope_of w2) (all_segments (drop (i + 1) ss))) ≡ goal
segments_round w w1 w2 goal ss i x args within is one args_are two before =
    let rest : m.Segments = all_segments (drop (i + 1) ss) in
    round w w2 goal (λ s. breaks s one_value (tree (out-Segment x).value) ++ all_breaks s (all_trees args)) (λ s. segment_breaks s rest) (λ s. segment_breaks s (all_segments (drop i ss)))
    (next_step w w1 w2 (breaks (scope_of w) one_value (tree (out-Segment x).value)) (λ s. all_breaks s (all_trees args)) one two)
    (ap (segment_breaks (scope_of w)) (all_segments-next ss i x within ∙ ap (λ z. let y = segment_parts z in m.and_segment y.value y.args rest) (sym is) ∙ ap (λ y. m.and_segment y.value y.args rest) (segment-is x)
    ∙ ap (λ as1. m.and_segment (tree (out-Segment x).value) (all_trees as1) rest) (sym args_are))) before

pub clauses_round : (w w1 goal : Walk) (k : Ask) (n : ℕ) (cs : List Clause) (i : ℕ) (c : Clause) → i < length cs → c ≡ get_or cs i c → w1 ≡ noting w (clause_breaks (scope_of w) k n (all_clauses (c ∷ [])))
    → noting w (clause_breaks (scope_of w) k n (all_clauses (drop i cs))) ≡ goal → noting w1 (clause_breaks (scope_of w1) k n (all_clauses (drop (i + 1) cs))) ≡ goal
clauses_round w w1 goal k n cs i c within is step before =
    let rest : m.Clauses = all_clauses (drop (i + 1) cs) in
    round w w1 goal (λ s. clause_breaks s k n (all_clauses (c ∷ []))) (λ s. clause_breaks s k n rest) (λ s. clause_breaks s k n (all_clauses (drop i cs))) step
    (ap (clause_breaks (scope_of w) k n) (all_clauses-next cs i c within ∙ ap (λ x. let y = clause_parts x in m.and_clause y.mark y.patterns y.guard y.body rest) (sym is))
    ∙ ap (λ l. l ++ clause_breaks (scope_of w) k n rest) (sym (append-nil _))) before

pub defs_round : (w w1 w2 goal : Walk) (ds : List (FunDefOf Expr)) (i : ℕ) (d : FunDefOf Expr) (params : List VarName) (body : Expr) → i < length ds → d ≡ get_or ds i d → w1 ≡ noting w (arity_of d.name d.mark d.fun.params)
    → params ≡ d.fun.params → body ≡ d.fun.body
    → w2 ≡ noting w1 (new_variables [] params ++ breaks (with_variables (scope_of w1) (bound_by params)) one_value (tree body))
    → noting w (def_breaks (scope_of w) (all_defs (drop i ds))) ≡ goal → noting w2 (def_breaks (scope_of w2) (all_defs (drop (i + 1) ds))) ≡ goal
defs_round w w1 w2 goal ds i d params body within is one params_are body_is two before =
    let rest : m.Defs = all_defs (drop (i + 1) ds) in
    let here : Scope → List Break = λ s. new_variables [] params ++ breaks (with_variables s (bound_by params)) one_value (tree body) in
    round w w2 goal (λ s. arity_of d.name d.mark d.fun.params ++ here s) (λ s. def_breaks s rest) (λ s. def_breaks s (all_defs (drop i ds)))
    (next_step w w1 w2 (arity_of d.name d.mark d.fun.params) here one two)
    (ap (def_breaks (scope_of w)) (all_defs-next ds i d within ∙ ap (λ x. m.and_def x.name x.mark x.fun.params (tree x.fun.body) rest) (sym is) ∙ ap (λ ps. m.and_def d.name d.mark ps (tree d.fun.body) rest) (sym params_are)
    ∙ ap (λ b. m.and_def d.name d.mark params (tree b) rest) (sym body_is))
    ∙ ap (λ ps. arity_of d.name d.mark ps ++ new_variables [] params ++ breaks (with_variables (scope_of w) (bound_by params)) one_value (tree body) ++ def_breaks (scope_of w) rest) params_are
    ∙ ap (λ l. l ++ def_breaks (scope_of w) rest) (append_assoc (arity_of d.name d.mark d.fun.params) (new_variables [] params) (breaks (with_variables (scope_of w) (bound_by params)) one_value (tree body)))) before

-- ---- steps of a chain

pub bound_noted : (w : Walk) (xs : List Atom) (ps qs : List Break) → noting (binding w xs ps) qs ≡ binding w xs (ps ++ qs)
bound_noted w xs ps qs = λ i. record { variables = w.variables ++ xs; functions = w.functions; first = first_of-append w.first ps qs i }

pub noted_bound : (w : Walk) (xs : List Atom) (ps qs : List Break) → binding (noting w ps) xs qs ≡ binding w xs (ps ++ qs)
noted_bound w xs ps qs = λ i. record { variables = w.variables ++ xs; functions = w.functions; first = first_of-append w.first ps qs i }

pub let_exit : (r : Answer) (w w1 w2 : Walk) (step : StepOf Expr) (k : Mark) (xs ys : List VarName) (e : Expr) (n : ℕ) → step ≡ Let k xs e → n ≡ length xs → ys ≡ xs
    → w1 ≡ noting w (breaks (scope_of w) (Exactly n) (tree e)) → OnOk r (w2 ≡ binding w1 (bound_by ys) (new_variables [] ys))
    → OnOk r (w2 ≡ binding w (steps_bound (all_steps (step ∷ []))) (step_breaks (scope_of w) (all_steps (step ∷ []))))
let_exit r w w1 w2 step k xs ys e n is count same one =
    on_ok_weaker r (λ two. two ∙ ap (λ v. binding v (bound_by ys) (new_variables [] ys)) one ∙ noted_bound w (bound_by ys) (breaks (scope_of w) (Exactly n) (tree e)) (new_variables [] ys)
    ∙ ap (λ z. binding w (bound_by z) (breaks (scope_of w) (Exactly n) (tree e) ++ new_variables [] z)) same ∙ ap (λ z. binding w (bound_by xs) (breaks (scope_of w) (Exactly z) (tree e) ++ new_variables [] xs)) count
    ∙ nil_ended (bound_by xs) (breaks (scope_of w) (Exactly (length xs)) (tree e) ++ new_variables [] xs)
    ∙ ap (λ z. binding w (steps_bound (all_steps (z ∷ []))) (step_breaks (scope_of w) (all_steps (z ∷ [])))) (sym is))
  where
    nil_ended : (ys : List Atom) (bs : List Break) → binding w ys bs ≡ binding w (ys ++ []) (bs ++ [])
    nil_ended ys bs = ap (λ z. binding w z bs) (sym (append-nil ys)) ∙ ap (binding w (ys ++ [])) (sym (append-nil bs))

pub do_exit : (r : Answer) (w w1 : Walk) (step : StepOf Expr) (k : Mark) (e : Expr) → step ≡ Do k e → OnOk r (w1 ≡ noting w (breaks (scope_of w) AnyNumber (tree e)))
    → OnOk r (w1 ≡ binding w (steps_bound (all_steps (step ∷ []))) (step_breaks (scope_of w) (all_steps (step ∷ []))))
do_exit r w w1 step k e is =
    on_ok_weaker r (λ one. one ∙ noted_as_bound w (breaks (scope_of w) AnyNumber (tree e)) ∙ ap (binding w []) (sym (append-nil (breaks (scope_of w) AnyNumber (tree e))))
    ∙ ap (λ z. binding w (steps_bound (all_steps (z ∷ []))) (step_breaks (scope_of w) (all_steps (z ∷ [])))) (sym is))

pub ruleset step_exits = (let_exit, do_exit)

pub steps_round : (w w1 goal : Walk) (ss : List (StepOf Expr)) (i : ℕ) (x : StepOf Expr) → i < length ss → x ≡ get_or ss i x → w1 ≡ binding w (steps_bound (all_steps (x ∷ []))) (step_breaks (scope_of w) (all_steps (x ∷ [])))
    → binding w (steps_bound (all_steps (drop i ss))) (step_breaks (scope_of w) (all_steps (drop i ss))) ≡ goal
    → binding w1 (steps_bound (all_steps (drop (i + 1) ss))) (step_breaks (scope_of w1) (all_steps (drop (i + 1) ss))) ≡ goal
steps_round w w1 goal ss i x within is step before =
    ap (λ v. binding v (steps_bound (all_steps rest)) (step_breaks (scope_of v) (all_steps rest))) step
    ∙ bound_twice w (steps_bound (all_steps (x ∷ []))) (steps_bound (all_steps rest)) (step_breaks (scope_of w) (all_steps (x ∷ []))) (step_breaks (with_variables (scope_of w) (steps_bound (all_steps (x ∷ [])))) (all_steps rest))
    ∙ split x ∙ ap (λ l. binding w (steps_bound (all_steps l)) (step_breaks (scope_of w) (all_steps l))) (sym (drop_next ss i x within is)) ∙ before
  where
    rest : List (StepOf Expr)
    rest = drop (i + 1) ss

    split : (x : StepOf Expr) → binding w (steps_bound (all_steps (x ∷ [])) ++ steps_bound (all_steps rest))
        (step_breaks (scope_of w) (all_steps (x ∷ [])) ++ step_breaks (with_variables (scope_of w) (steps_bound (all_steps (x ∷ [])))) (all_steps rest))
        ≡ binding w (steps_bound (all_steps (x ∷ rest))) (step_breaks (scope_of w) (all_steps (x ∷ rest)))
    split (Let k xs e) =
        ap (λ z. binding w (z ++ steps_bound (all_steps rest)) (step_breaks (scope_of w) (all_steps (Let k xs e ∷ [])) ++ step_breaks (with_variables (scope_of w) z) (all_steps rest))) (append-nil (bound_by xs))
        ∙ ap (λ z. binding w (bound_by xs ++ steps_bound (all_steps rest)) (z ++ step_breaks (with_variables (scope_of w) (bound_by xs)) (all_steps rest)))
        (append-nil (breaks (scope_of w) (Exactly (length xs)) (tree e) ++ new_variables [] xs))
    split (Do k e) =
        ap (λ z. binding w (steps_bound (all_steps rest)) (step_breaks (scope_of w) (all_steps (Do k e ∷ [])) ++ step_breaks z (all_steps rest))) (λ i. record { variables = append-nil w.variables i; functions = w.functions })
        ∙ ap (λ z. binding w (steps_bound (all_steps rest)) (z ++ step_breaks (scope_of w) (all_steps rest))) (append-nil (breaks (scope_of w) AnyNumber (tree e)))

-- ---- what is bound and ends again

abbrev pub with_left : Walk → List Atom → Walk
with_left w vs = record { variables = vs; functions = w.functions; first = w.first }

pub under_exit : (w0 w1 w2 : Walk) (around : ℕ) (vars xs : List Atom) (here : List Break) (rest : Scope → List Break) → around ≡ length w0.variables → w1 ≡ binding w0 xs here → w2 ≡ noting w1 (rest (scope_of w1))
    → vars ≡ take around w2.variables
    → with_left w2 vars ≡ noting w0 (here ++ rest (with_variables (scope_of w0) xs))
under_exit w0 w1 w2 around vars xs here rest at one two left_is =
    let all : w2 ≡ binding w0 xs (here ++ rest (with_variables (scope_of w0) xs)) = two ∙ ap (λ w. noting w (rest (scope_of w))) one ∙ bound_noted w0 xs here (rest (with_variables (scope_of w0) xs)) in
    ap (with_left w2) (left_is ∙ ap (λ n. take n w2.variables) at ∙ ap (λ w. take (length w0.variables) w.variables) all ∙ take-append_seam w0.variables xs) ∙ ap (λ w. with_left w w0.variables) all

abbrev pub with_functions_left : Walk → List FunName → Walk
with_functions_left w fs = record { variables = w.variables; functions = fs; first = w.first }

pub defined_exit : (w0 w1 w2 : Walk) (around : ℕ) (left fs : List FunName) (here : List Break) (rest : Scope → List Break) → around ≡ length w0.functions → w1 ≡ defining w0 fs here → w2 ≡ noting w1 (rest (scope_of w1))
    → left ≡ take around w2.functions
    → with_functions_left w2 left ≡ noting w0 (here ++ rest (with_functions (scope_of w0) fs))
defined_exit w0 w1 w2 around left fs here rest at one two left_is =
    let all : w2 ≡ defining w0 fs (here ++ rest (with_functions (scope_of w0) fs)) =
    two ∙ ap (λ w. noting w (rest (scope_of w))) one ∙ (λ i. record { variables = w0.variables; functions = w0.functions ++ fs; first = first_of-append w0.first here (rest (with_functions (scope_of w0) fs)) i }) in
    ap (with_functions_left w2) (left_is ∙ ap (λ n. take n w2.functions) at ∙ ap (λ w. take (length w0.functions) w.functions) all ∙ take-append_seam w0.functions fs) ∙ ap (λ w. with_functions_left w w0.functions) all

pub chain_exit : (w0 w1 w2 w3 : Walk) (k : Ask) (e : Expr) (ss ss1 : List (StepOf Expr)) (x x1 : Expr) (around : ℕ) (vars : List Atom) → w1 ≡ noting w0 (degree k e.mark (tree e)) → e.form ≡ f.Chain ss x
    → around ≡ length w1.variables → ss1 ≡ ss
    → w2 ≡ binding w1 (steps_bound (all_steps ss1)) (step_breaks (scope_of w1) (all_steps ss1)) → x1 ≡ x → w3 ≡ noting w2 (breaks (scope_of w2) k (tree x1)) → vars ≡ take around w3.variables
    → with_left w3 vars ≡ noting w0 (breaks (scope_of w0) k (tree e))
chain_exit w0 w1 w2 w3 k e ss ss1 x x1 around vars tested is at steps_are one last_is two left_is =
    let rest : Scope → List Break = λ s. step_breaks s (all_steps ss1) ++ breaks (with_variables s (steps_bound (all_steps ss1))) k (tree x1) in
    next_step w0 w1 (with_left w3 vars) (degree k e.mark (tree e)) rest tested (under_exit w1 w2 w3 around vars (steps_bound (all_steps ss1)) (step_breaks (scope_of w1) (all_steps ss1)) (λ s. breaks s k (tree x1)) at one two left_is)
    ∙ ap (noting w0) (ap (λ z. degree k e.mark (tree e) ++ (step_breaks (scope_of w0) (all_steps z) ++ breaks (with_variables (scope_of w0) (steps_bound (all_steps z))) k (tree x1))) steps_are
    ∙ ap (λ z. degree k e.mark (tree e) ++ (step_breaks (scope_of w0) (all_steps ss) ++ breaks (with_variables (scope_of w0) (steps_bound (all_steps ss))) k (tree z))) last_is
    ∙ sym (append_assoc (degree k e.mark (tree e)) (step_breaks (scope_of w0) (all_steps ss)) (breaks (with_variables (scope_of w0) (steps_bound (all_steps ss))) k (tree x)))
    ∙ (let P : m.Tree → Type 0 = λ t. degree k e.mark t ++ step_breaks (scope_of w0) (all_steps ss) ++ breaks (with_variables (scope_of w0) (steps_bound (all_steps ss))) k (tree x)
    ≡ breaks (scope_of w0) k t in subst P (sym (chain_tree e ss x is)) refl))

pub letrec_exit : (w0 w1 w2 w3 w4 : Walk) (k : Ask) (e : Expr) (ds ds1 ds2 : List (FunDefOf Expr)) (x x1 : Expr) (around : ℕ) (fs : List FunName) → w1 ≡ noting w0 (degree k e.mark (tree e)) → e.form ≡ f.Letrec ds x
    → around ≡ length w1.functions → ds1 ≡ ds
    → w2 ≡ defining w1 (defined_names (all_defs ds1)) (new_functions [] (all_defs ds1)) → ds2 ≡ ds → w3 ≡ noting w2 (def_breaks (scope_of w2) (all_defs ds2)) → x1 ≡ x → w4 ≡ noting w3 (breaks (scope_of w3) k (tree x1))
    → fs ≡ take around w4.functions
    → with_functions_left w4 fs ≡ noting w0 (breaks (scope_of w0) k (tree e))
letrec_exit w0 w1 w2 w3 w4 k e ds ds1 ds2 x x1 around fs tested is at first_are one second_are two last_is three left_is =
    let own : List Break = degree k e.mark (tree e) in
    let P : List (FunDefOf Expr) → Type 0 = λ z. w2 ≡ defining w1 (defined_names (all_defs z)) (new_functions [] (all_defs z)) in
    let Q : List (FunDefOf Expr) → Type 0 = λ z. w3 ≡ noting w2 (def_breaks (scope_of w2) (all_defs z)) in
    let R : Expr → Type 0 = λ z. w4 ≡ noting w3 (breaks (scope_of w3) k (tree z)) in
    let inner : Scope → List Break = λ s. def_breaks s (all_defs ds) ++ breaks s k (tree x) in
    let fns : Scope → Scope = λ s. with_functions s (defined_names (all_defs ds)) in
    next_step w0 w1 (with_functions_left w4 fs) own (λ s. new_functions [] (all_defs ds) ++ inner (fns s)) tested
    (defined_exit w1 w2 w4 around fs (defined_names (all_defs ds)) (new_functions [] (all_defs ds)) inner at (subst P first_are one)
    (next_step w2 w3 w4 (def_breaks (scope_of w2) (all_defs ds)) (λ s. breaks s k (tree x)) (subst Q second_are two) (subst R last_is three)) left_is)
    ∙ ap (noting w0) (sym (append_assoc own (new_functions [] (all_defs ds)) (inner (fns (scope_of w0))))
    ∙ sym (append_assoc (own ++ new_functions [] (all_defs ds)) (def_breaks (fns (scope_of w0)) (all_defs ds)) (breaks (fns (scope_of w0)) k (tree x)))
    ∙ (let S : m.Tree → Type 0 = λ t. degree k e.mark t ++ new_functions [] (all_defs ds) ++ def_breaks (fns (scope_of w0)) (all_defs ds) ++ breaks (fns (scope_of w0)) k (tree x)
    ≡ breaks (scope_of w0) k t in subst S (sym (letrec_tree e ds x is)) refl))

pub try_parts_exit : (r : Answer) (w0 w1 w2 w3 w4 : Walk) (k : Ask) (i : Mark) (p : TryOf Expr) (n : ℕ) (arg body handler : Expr) (xs ys zs : List VarName) (holds : Bool) → zs ≡ p.catch_vars
    → holds ≡ (eqb (length zs) 2 || eqb (length zs) 3) → w1 ≡ noting w0 (unless holds Degrees i.place)
    → n ≡ length p.vars → arg ≡ p.arg → w2 ≡ noting w1 (breaks (scope_of w1) (Exactly n) (tree arg)) → xs ≡ p.vars → body ≡ p.body
    → w3 ≡ noting w2 (new_variables [] xs ++ breaks (with_variables (scope_of w2) (bound_by xs)) k (tree body))
    → ys ≡ p.catch_vars → handler ≡ p.handler → OnOk r (w4 ≡ noting w3 (new_variables [] ys ++ breaks (with_variables (scope_of w3) (bound_by ys)) k (tree handler)))
    → OnOk r (w4 ≡ noting w0 (catches i p.catch_vars ++ breaks (scope_of w0) (Exactly (length p.vars)) (tree p.arg) ++ new_variables [] p.vars ++ breaks (with_variables (scope_of w0) (bound_by p.vars)) k (tree p.body)
    ++ new_variables [] p.catch_vars ++ breaks (with_variables (scope_of w0) (bound_by p.catch_vars)) k (tree p.handler)))
try_parts_exit r w0 w1 w2 w3 w4 k i p n arg body handler xs ys zs holds zs_are holds_is tested n_is arg_is one xs_are body_is two ys_are handler_is =
    let T : Bool → Type 0 = λ b. w1 ≡ noting w0 (unless b Degrees i.place) in
    let first1 : w1 ≡ noting w0 (catches i p.catch_vars) = subst T (holds_is ∙ ap (λ z. eqb (length z) 2 || eqb (length z) 3) zs_are) tested in
    let second : w2 ≡ noting w1 (breaks (scope_of w1) (Exactly (length p.vars)) (tree p.arg)) =
    one ∙ ap (λ z. noting w1 (breaks (scope_of w1) (Exactly z) (tree arg))) n_is ∙ ap (λ z. noting w1 (breaks (scope_of w1) (Exactly (length p.vars)) (tree z))) arg_is in
    let body_rest : Scope → List Break = λ s. new_variables [] p.vars ++ breaks (with_variables s (bound_by p.vars)) k (tree p.body) in
    let handler_rest : Scope → List Break = λ s. new_variables [] p.catch_vars ++ breaks (with_variables s (bound_by p.catch_vars)) k (tree p.handler) in
    let third : w3 ≡ noting w2 (body_rest (scope_of w2)) = two ∙ ap (λ z. noting w2 (new_variables [] z ++ breaks (with_variables (scope_of w2) (bound_by z)) k (tree body))) xs_are
    ∙ ap (λ z. noting w2 (new_variables [] p.vars ++ breaks (with_variables (scope_of w2) (bound_by p.vars)) k (tree z))) body_is in
    let c : List Break = catches i p.catch_vars in
    let a : List Break = breaks (scope_of w0) (Exactly (length p.vars)) (tree p.arg) in
    let v : List Break = new_variables [] p.vars in
    let b : List Break = breaks (with_variables (scope_of w0) (bound_by p.vars)) k (tree p.body) in
    let q : List Break = new_variables [] p.catch_vars in
    let h : List Break = breaks (with_variables (scope_of w0) (bound_by p.catch_vars)) k (tree p.handler) in
    on_ok_weaker r (λ three.
    next_step w0 w3 w4 (c ++ a ++ (v ++ b)) handler_rest (next_step w0 w2 w3 (c ++ a) body_rest (next_step w0 w1 w2 c (λ s. breaks s (Exactly (length p.vars)) (tree p.arg)) first1 second) third)
    (three ∙ ap (λ z. noting w3 (new_variables [] z ++ breaks (with_variables (scope_of w3) (bound_by z)) k (tree handler))) ys_are
    ∙ ap (λ z. noting w3 (new_variables [] p.catch_vars ++ breaks (with_variables (scope_of w3) (bound_by p.catch_vars)) k (tree z))) handler_is)
    ∙ ap (noting w0) (ap (λ l. l ++ (q ++ h)) (sym (append_assoc (c ++ a) v b)) ∙ sym (append_assoc (c ++ a ++ v ++ b) q h)))

pub clause_exit : (w0 w1 w2 w3 w4 : Walk) (c : Clause) (k : Ask) (n len around : ℕ) (ps : List Pattern) (vars : List Atom) → len ≡ length (out-Clause c).patterns
    → w1 ≡ noting w0 (unless (eqb len n) Degrees ((out-Clause c).mark).place) → around ≡ length w1.variables → ps ≡ (out-Clause c).patterns
    → w2 ≡ binding w1 (patterns_bound (all_patterns ps)) (patterns_breaks (scope_around around w1) (drop around w1.variables) (all_patterns ps)) → w3 ≡ noting w2 (breaks (scope_of w2) one_value (tree (out-Clause c).guard))
    → w4 ≡ noting w3 (breaks (scope_of w3) k (tree (out-Clause c).body)) → vars ≡ take around w4.variables
    → with_left w4 vars ≡ noting w0 (clause_breaks (scope_of w0) k n (all_clauses (c ∷ [])))
clause_exit w0 w1 w2 w3 w4 c k n len around ps vars len_is tested at ps_are one two three left_is =
    let qs : m.Patterns = all_patterns (out-Clause c).patterns in
    let xs : List Atom = patterns_bound qs in
    let guard : Scope → List Break = λ s. breaks s one_value (tree (out-Clause c).guard) in
    let body : Scope → List Break = λ s. breaks s k (tree (out-Clause c).body) in
    let own : List Break = unless (eqb (how_many_patterns qs) n) Degrees ((out-Clause c).mark).place in
    let tested1 : w1 ≡ noting w0 own = tested ∙ ap (λ z. noting w0 (unless (eqb z n) Degrees ((out-Clause c).mark).place)) (len_is ∙ sym (how_many_patterns-length (out-Clause c).patterns)) in
    let whole_scope : scope_around around w1 ≡ scope_of w1 = (λ j. record { variables = (ap (λ z. take z w1.variables) at ∙ take-length w1.variables) j; functions = w1.functions }) in
    let one1 : w2 ≡ binding w1 xs (patterns_breaks (scope_of w1) [] qs) =
    one ∙ ap (λ z. binding w1 (patterns_bound (all_patterns z)) (patterns_breaks (scope_around around w1) (drop around w1.variables) (all_patterns z))) ps_are
    ∙ ap (λ z. binding w1 xs (patterns_breaks z (drop around w1.variables) qs)) whole_scope ∙ ap (λ z. binding w1 xs (patterns_breaks (scope_of w1) z qs)) (ap (λ z. drop z w1.variables) at ∙ drop_all w1.variables) in
    let pats : Scope → List Break = λ s. patterns_breaks s [] qs in
    let rest : Scope → List Break = λ s. guard s ++ body s in
    next_step w0 w1 (with_left w4 vars) own (λ s. pats s ++ rest (with_variables s xs)) tested1
    (under_exit w1 w2 w4 around vars xs (pats (scope_of w1)) rest at one1 (next_step w2 w3 w4 (guard (scope_of w2)) body two three) left_is)
    ∙ ap (noting w0) (sym (append_assoc own (pats (scope_of w0)) (rest (with_variables (scope_of w0) xs)))
    ∙ sym (append_assoc (own ++ pats (scope_of w0)) (guard (with_variables (scope_of w0) xs)) (body (with_variables (scope_of w0) xs)))
    ∙ sym (append-nil (own ++ pats (scope_of w0) ++ guard (with_variables (scope_of w0) xs) ++ body (with_variables (scope_of w0) xs)))
    ∙ ap (λ y. clause_breaks (scope_of w0) k n (clauses (y ∷ []))) (sym (clause-is c)))
