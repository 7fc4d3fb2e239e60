-- The forms that bind variables, choose and wait: the rules that their steps make together, and their places.
use Rattle.std.proofs.Common.{◌≡◌, ℕ, ◌+◌, ◌<◌, ◌≤◌, List, [], ◌∷◌, ◌++◌, length, map, take, drop, get_or, Option, Some, None, refl, sym, ap, ◌∙◌, subst}
use Rattle.std.proofs.Math.ListN.{drop_of_length-le}
use Rattle.std.proofs.Math.Seq.{take-append_seam}
use Rattle.std.proofs.lemmas.List.{append_assoc, append-nil}
use Rattle.type_kinds.specs.declared.atom.Atom.{Atom}
use Rattle.core_ast.specs.declared.syntax.Clause.{Clause, out-Clause}
use Rattle.core_ast.specs.declared.syntax.Pattern.{Pattern}
use Rattle.core_ast.specs.declared.syntax.Expr.{Expr}
use Rattle.core_ast.specs.declared.syntax.FunDefOf.{FunDefOf}
use Rattle.core_ast.specs.declared.syntax.FunName.{FunName}
use Rattle.core_ast.specs.declared.syntax.Mark.{Mark}
use Rattle.core_ast.specs.declared.syntax.StepOf.{StepOf}
use Rattle.core_ast.specs.declared.syntax.StepOf.TheVariants.{Let, Do}
use Rattle.core_ast.specs.declared.syntax.VarName.{VarName}
use Rattle.core_ast.specs.Model as m
use Rattle.core_ast.specs.Tree.{ClauseParts, all_clauses, all_defs, all_patterns, all_steps, clause_parts, tree}
use Rattle.core_ast.proofs.Trees.{clause-is}
use Rattle.core_ast.proofs.Items.{all_clauses-next, all_defs-next, all_steps-next}
use Rattle.core_scope.specs.Asks.{one_value, width}
use Rattle.core_scope.specs.declared.ask.Ask.{Ask}
use Rattle.core_scope.specs.declared.ask.Ask.TheVariants.{AnyNumber, Exactly}
use Rattle.type_lattice_model.specs.Values.{Local}
use Rattle.core_meaning.specs.Programs.{Program, function_named, locals_of}
use Rattle.fun_flow_places.specs.Bindings.{or_outer}
use Rattle.fun_flow_places.specs.Naming.{place_named}
use Rattle.fun_flow_places.specs.Tables.{frame, label_of}
use Rattle.fun_flow_places.proofs.TableLaws.{frame_value}
use Rattle.fun_flow_places.specs.declared.places.FlowPlace.{FlowPlace}
use Rattle.fun_flow_rules.specs.declared.walk.RuleWalk.{RuleWalk}
use Rattle.fun_flow_rules.specs.steps.Walking.{Adds, Binding, Binds, Entering, Gives, Going, Makes, Part, PlacesOf, Sees, body_rules, clause_rules, joined_rules, no_rules, with_rules, with_variables}
use Rattle.fun_flow_rules.proofs.Steps.{binds_as, binds_leave, binds_then, entering_ends, entering_on, going_ends, going_on, makes_as, makes_before, makes_binds, makes_then, sees_back, sees_on}
use Rattle.fun_flow_sets.specs.Items as s
use Rattle.fun_flow_sets.specs.Items.{defined_at}
use Rattle.fun_flow_sets.specs.Rules.{after_steps, passed_to, places, rules, rules_of_clauses, rules_of_definitions, rules_of_heads, rules_of_steps}
use Rattle.fun_flow_sets.specs.Scopes.{Scope, in_frame, local_definition, or_else, with_heads, with_places}

-- an expression whose values are those of a form
pub joined_step : (w0 w1 w2 : RuleWalk) (label : ℕ) (k : Ask) (t : m.Tree) (ps : List FlowPlace) → Makes w0 w1 (λ U home sc. rules U home sc k t) → Gives w0 ps (λ U home sc. places U home sc k t)
    → Makes w1 w2 (λ U home sc. passed_to U home label k (map (place_named U) ps)) → Makes w0 w2 (λ U home sc. joined_rules U home sc label k t)
joined_step w0 w1 w2 label k t ps one given two =
    makes_before w0 w1 w2 (λ U home sc. rules U home sc k t) (λ U home sc. passed_to U home label k (places U home sc k t)) one
    (makes_as w1 w2 (λ U home sc. passed_to U home label k (map (place_named U) ps)) (λ U home sc. passed_to U home label k (places U home sc k t)) two
    (λ U home sc h. ap (passed_to U home label k) (given U home sc (sees_back U home sc w0 w1 one.rest h))))

-- it sees variables of its own
pub under_step : (w0 w1 w2 w3 : RuleWalk) (around label : ℕ) (k : Ask) (xs : List VarName) (ps : List FlowPlace) (t : m.Tree) → around ≡ length w0.variables
    → Binds w0 w1 no_rules (λ U home sc. with_places xs (map (place_named U) ps) sc)
    → Makes w1 w2 (λ U home sc. joined_rules U home sc label k t)
    → w3 ≡ with_variables w2 (take around w2.variables) → Makes w0 w3 (λ U home sc. joined_rules U home (with_places xs (map (place_named U) ps) sc) label k t)
under_step w0 w1 w2 w3 around label k xs ps t at bound one left =
    binds_leave w0 w2 w3 (λ U home sc. joined_rules U home (with_places xs (map (place_named U) ps) sc) label k t) (λ U home sc. with_places xs (map (place_named U) ps) sc) around
    (binds_then w0 w1 w2 no_rules (λ U home sc. joined_rules U home sc label k t) (λ U home sc. with_places xs (map (place_named U) ps) sc) (λ U home sc. sc) bound
    (makes_binds w1 w2 (λ U home sc. joined_rules U home sc label k t) one)) at left

-- ---- chains

pub let_step : (w0 w1 w2 : RuleWalk) (i : Mark) (xs : List VarName) (e : Expr) (n : ℕ) (ps : List FlowPlace) → n ≡ length xs → Makes w0 w1 (λ U home sc. rules U home sc (Exactly n) (tree e))
    → Gives w0 ps (λ U home sc. places U home sc (Exactly n) (tree e)) → Binds w1 w2 no_rules (λ U home sc. with_places xs (map (place_named U) ps) sc)
    → Binds w0 w2 (λ U home sc. rules_of_steps U home sc (all_steps (Let i xs e ∷ []))) (λ U home sc. after_steps U home sc (all_steps (Let i xs e ∷ [])))
let_step w0 w1 w2 i xs e n ps count one given bound =
    binds_as w0 w2 (λ U home sc. rules U home sc (Exactly n) (tree e) ++ []) (λ U home sc. rules_of_steps U home sc (all_steps (Let i xs e ∷ []))) (λ U home sc. with_places xs (map (place_named U) ps) sc)
    (λ U home sc. after_steps U home sc (all_steps (Let i xs e ∷ [])))
    (binds_then w0 w1 w2 (λ U home sc. rules U home sc (Exactly n) (tree e)) no_rules (λ U home sc. sc) (λ U home sc. with_places xs (map (place_named U) ps) sc)
    (makes_binds w0 w1 (λ U home sc. rules U home sc (Exactly n) (tree e)) one) bound)
    (λ U home sc h. ap (λ k. rules U home sc (Exactly k) (tree e) ++ []) count) (λ U home sc h. ap (λ l. with_places xs l sc) (given U home sc h) ∙ ap (λ k. with_places xs (places U home sc (Exactly k) (tree e)) sc) count)

pub do_step : (w0 w1 : RuleWalk) (i : Mark) (e : Expr) → Makes w0 w1 (λ U home sc. rules U home sc AnyNumber (tree e))
    → Binds w0 w1 (λ U home sc. rules_of_steps U home sc (all_steps (Do i e ∷ []))) (λ U home sc. after_steps U home sc (all_steps (Do i e ∷ [])))
do_step w0 w1 i e one =
    binds_as w0 w1 (λ U home sc. rules U home sc AnyNumber (tree e)) (λ U home sc. rules_of_steps U home sc (all_steps (Do i e ∷ []))) (λ U home sc. sc) (λ U home sc. after_steps U home sc (all_steps (Do i e ∷ [])))
    (makes_binds w0 w1 (λ U home sc. rules U home sc AnyNumber (tree e)) one)
    (λ U home sc h. sym (append-nil (rules U home sc AnyNumber (tree e)))) (λ U home sc h. refl)

-- steps whose parts were read
pub let_told : (w0 w1 w2 : RuleWalk) (x : StepOf Expr) (i : Mark) (xs ys : List VarName) (e : Expr) (n : ℕ) (ps qs : List FlowPlace) → x ≡ Let i xs e → ys ≡ xs → n ≡ length xs → qs ≡ ps
    → Makes w0 w1 (λ U home sc. rules U home sc (Exactly n) (tree e)) → Gives w0 ps (λ U home sc. places U home sc (Exactly n) (tree e))
    → Binds w1 w2 no_rules (λ U home sc. with_places ys (map (place_named U) qs) sc) → Binds w0 w2 (λ U home sc. rules_of_steps U home sc (all_steps (x ∷ []))) (λ U home sc. after_steps U home sc (all_steps (x ∷ [])))
let_told w0 w1 w2 x i xs ys e n ps qs is vars count values one given two =
    subst (λ z. Binds w0 w2 (λ U home sc. rules_of_steps U home sc (all_steps (z ∷ []))) (λ U home sc. after_steps U home sc (all_steps (z ∷ [])))) (sym is)
    (let_step w0 w1 w2 i xs e n ps count one given (subst (λ l. Binds w1 w2 no_rules (λ U home sc. with_places l (map (place_named U) ps) sc)) vars
    (subst (λ l. Binds w1 w2 no_rules (λ U home sc. with_places ys (map (place_named U) l) sc)) values two)))

pub do_told : (w0 w1 : RuleWalk) (x : StepOf Expr) (i : Mark) (e : Expr) → x ≡ Do i e → Makes w0 w1 (λ U home sc. rules U home sc AnyNumber (tree e))
    → Binds w0 w1 (λ U home sc. rules_of_steps U home sc (all_steps (x ∷ []))) (λ U home sc. after_steps U home sc (all_steps (x ∷ [])))
do_told w0 w1 x i e is one = subst (λ z. Binds w0 w1 (λ U home sc. rules_of_steps U home sc (all_steps (z ∷ []))) (λ U home sc. after_steps U home sc (all_steps (z ∷ [])))) (sym is) (do_step w0 w1 i e one)

first_step : (U : Program) (home : Atom) (sc : Scope) (x : StepOf Expr) (rest : List (StepOf Expr)) → rules_of_steps U home sc (all_steps (x ∷ rest)) ≡ rules_of_steps U home sc (all_steps (x ∷ []))
    ++ rules_of_steps U home (after_steps U home sc (all_steps (x ∷ []))) (all_steps rest)
first_step U home sc (Let i xs e) rest = ap (λ l. l ++ rules_of_steps U home (with_places xs (places U home sc (Exactly (length xs)) (tree e)) sc) (all_steps rest)) (sym (append-nil (rules U home sc (Exactly (length xs)) (tree e))))
first_step U home sc (Do i e) rest = ap (λ l. l ++ rules_of_steps U home sc (all_steps rest)) (sym (append-nil (rules U home sc AnyNumber (tree e))))

after_first : (U : Program) (home : Atom) (sc : Scope) (x : StepOf Expr) (rest : List (StepOf Expr)) → after_steps U home sc (all_steps (x ∷ rest)) ≡ after_steps U home (after_steps U home sc (all_steps (x ∷ []))) (all_steps rest)
after_first U home sc (Let i xs e) rest = refl
after_first U home sc (Do i e) rest = refl

pub steps_round : (old now new : RuleWalk) (ss : List (StepOf Expr)) (i : ℕ) (x : StepOf Expr) (all : Part) (whole : Binding) → i < length ss → x ≡ get_or ss i x
    → Binds now new (λ U home sc. rules_of_steps U home sc (all_steps (x ∷ []))) (λ U home sc. after_steps U home sc (all_steps (x ∷ [])))
    → Entering old now (λ U home sc. rules_of_steps U home sc (all_steps (drop i ss))) all (λ U home sc. after_steps U home sc (all_steps (drop i ss))) whole
    → Entering old new (λ U home sc. rules_of_steps U home sc (all_steps (drop (i + 1) ss))) all (λ U home sc. after_steps U home sc (all_steps (drop (i + 1) ss))) whole
steps_round old now new ss i x all whole within is step before =
    let next : all_steps (drop i ss) ≡ all_steps (x ∷ drop (i + 1) ss) = all_steps-next ss i x within ∙ ap (λ z. all_steps (z ∷ drop (i + 1) ss)) (sym is) in
    entering_on old now new (λ U home sc. rules_of_steps U home sc (all_steps (drop i ss))) (λ U home sc. rules_of_steps U home sc (all_steps (x ∷ []))) (λ U home sc. rules_of_steps U home sc (all_steps (drop (i + 1) ss))) all
    (λ U home sc. after_steps U home sc (all_steps (drop i ss))) (λ U home sc. after_steps U home sc (all_steps (x ∷ []))) (λ U home sc. after_steps U home sc (all_steps (drop (i + 1) ss))) whole before step
    (λ U home sc. ap (rules_of_steps U home sc) next ∙ first_step U home sc x (drop (i + 1) ss)) (λ U home sc. ap (after_steps U home sc) next ∙ after_first U home sc x (drop (i + 1) ss))

pub chain_makes : (w0 w1 w2 w3 : RuleWalk) (around : ℕ) (k : Ask) (ss : m.Steps) (t : m.Tree) → around ≡ length w0.variables → Binds w0 w1 (λ U home sc. rules_of_steps U home sc ss) (λ U home sc. after_steps U home sc ss)
    → Makes w1 w2 (λ U home sc. rules U home sc k t) → w3 ≡ with_variables w2 (take around w2.variables)
    → Makes w0 w3 (λ U home sc. rules_of_steps U home sc ss ++ rules U home (after_steps U home sc ss) k t)
chain_makes w0 w1 w2 w3 around k ss t at bound one left =
    binds_leave w0 w2 w3 (λ U home sc. rules_of_steps U home sc ss ++ rules U home (after_steps U home sc ss) k t) (λ U home sc. after_steps U home sc ss) around
    (binds_then w0 w1 w2 (λ U home sc. rules_of_steps U home sc ss) (λ U home sc. rules U home sc k t) (λ U home sc. after_steps U home sc ss) (λ U home sc. sc) bound (makes_binds w1 w2 (λ U home sc. rules U home sc k t) one)) at left

-- what is given inside of bindings
pub gives_inside : (w0 w1 : RuleWalk) (f : Part) (x : Binding) (ps : List FlowPlace) (g : PlacesOf) → Binds w0 w1 f x → Gives w1 ps g → Gives w0 ps (λ U home sc. g U home (x U home sc))
gives_inside w0 w1 f x ps g h given U home sc s = given U home (x U home sc) (h.sees U home sc s)

-- ---- clauses

pub clause_step : (w0 w1 w2 w3 w4 : RuleWalk) (around label : ℕ) (k : Ask) (ps : List FlowPlace) (c : ClauseParts) → around ≡ length w0.variables
    → Binds w0 w1 (λ U home sc. rules_of_heads U home sc (map (place_named U) ps) c.patterns) (λ U home sc. with_heads (map (place_named U) ps) c.patterns sc) → Makes w1 w2 (λ U home sc. rules U home sc one_value c.guard)
    → Makes w2 w3 (λ U home sc. joined_rules U home sc label k c.body) → w4 ≡ with_variables w3 (take around w3.variables)
    → Makes w0 w4 (λ U home sc. clause_rules U home sc k label (map (place_named U) ps) c)
clause_step w0 w1 w2 w3 w4 around label k ps c at bound one two left =
    binds_leave w0 w3 w4 (λ U home sc. clause_rules U home sc k label (map (place_named U) ps) c) (λ U home sc. with_heads (map (place_named U) ps) c.patterns sc) around
    (binds_then w0 w1 w3 (λ U home sc. rules_of_heads U home sc (map (place_named U) ps) c.patterns) (λ U home sc. rules U home sc one_value c.guard ++ joined_rules U home sc label k c.body)
    (λ U home sc. with_heads (map (place_named U) ps) c.patterns sc) (λ U home sc. sc) bound
    (makes_binds w1 w3 (λ U home sc. rules U home sc one_value c.guard ++ joined_rules U home sc label k c.body)
    (makes_then w1 w2 w3 (λ U home sc. rules U home sc one_value c.guard) (λ U home sc. joined_rules U home sc label k c.body) one two))) at left

pub clause_told : (w0 w1 w2 w3 w4 : RuleWalk) (around label : ℕ) (k : Ask) (qs : List FlowPlace) (c : Clause) (ps : List Pattern) → around ≡ length w0.variables → ps ≡ (out-Clause c).patterns
    → Binds w0 w1 (λ U home sc. rules_of_heads U home sc (map (place_named U) qs) (all_patterns ps)) (λ U home sc. with_heads (map (place_named U) qs) (all_patterns ps) sc)
    → Makes w1 w2 (λ U home sc. rules U home sc one_value (tree (out-Clause c).guard)) → Makes w2 w3 (λ U home sc. joined_rules U home sc label k (tree (out-Clause c).body))
    → w4 ≡ with_variables w3 (take around w3.variables) → Makes w0 w4 (λ U home sc. clause_rules U home sc k label (map (place_named U) qs) (clause_parts c))
clause_told w0 w1 w2 w3 w4 around label k qs c ps at is bound one two left =
    let y = out-Clause c in
    subst (λ x. Makes w0 w4 (λ U home sc. clause_rules U home sc k label (map (place_named U) qs) x)) (sym (clause-is c))
    (clause_step w0 w1 w2 w3 w4 around label k qs (record { mark = y.mark; patterns = all_patterns y.patterns; guard = tree y.guard; body = tree y.body }) at
    (subst (λ l. Binds w0 w1 (λ U home sc. rules_of_heads U home sc (map (place_named U) qs) (all_patterns l)) (λ U home sc. with_heads (map (place_named U) qs) (all_patterns l) sc)) is bound) one two left)

pub clauses_round : (old now new : RuleWalk) (label : ℕ) (k : Ask) (ps : List FlowPlace) (cs : List Clause) (i : ℕ) (c : Clause) (all : Part) → i < length cs → c ≡ get_or cs i c
    → Makes now new (λ U home sc. clause_rules U home sc k label (map (place_named U) ps) (clause_parts c))
    → Going old now (λ U home sc. rules_of_clauses U home sc k label (map (place_named U) ps) (all_clauses (drop i cs))) all
    → Going old new (λ U home sc. rules_of_clauses U home sc k label (map (place_named U) ps) (all_clauses (drop (i + 1) cs))) all
clauses_round old now new label k ps cs i c all within is step before =
    let x = clause_parts c in
    let rest : m.Clauses = all_clauses (drop (i + 1) cs) in
    going_on old now new (λ U home sc. rules_of_clauses U home sc k label (map (place_named U) ps) (all_clauses (drop i cs))) (λ U home sc. clause_rules U home sc k label (map (place_named U) ps) x)
    (λ U home sc. rules_of_clauses U home sc k label (map (place_named U) ps) rest) all before step
    (λ U home sc.
    let qs = map (place_named U) ps in
    let inner : Scope = with_heads qs x.patterns sc in
    let left : List s.Rule = rules_of_clauses U home sc k label qs rest in
    ap (rules_of_clauses U home sc k label qs) (all_clauses-next cs i c within ∙ ap (λ z. let y = clause_parts z in m.and_clause y.mark y.patterns y.guard y.body rest) (sym is))
    ∙ ap (λ l. rules_of_heads U home sc qs x.patterns ++ l) (sym (append_assoc (rules U home inner one_value x.guard) (joined_rules U home inner label k x.body) left))
    ∙ sym (append_assoc (rules_of_heads U home sc qs x.patterns) (rules U home inner one_value x.guard ++ joined_rules U home inner label k x.body) left))

pub case_makes : (w0 w1 w2 : RuleWalk) (i : Mark) (k : Ask) (n : ℕ) (t : m.Tree) (cs : m.Clauses) (ps : List FlowPlace) → n ≡ width cs → Makes w0 w1 (λ U home sc. rules U home sc (Exactly n) t)
    → Gives w0 ps (λ U home sc. places U home sc (Exactly n) t) → Makes w1 w2 (λ U home sc. rules_of_clauses U home sc k i.label (map (place_named U) ps) cs)
    → Makes w0 w2 (λ U home sc. rules U home sc k (m.case i t cs))
case_makes w0 w1 w2 i k n t cs ps count one given two =
    makes_as w0 w2 (λ U home sc. rules U home sc (Exactly n) t ++ rules_of_clauses U home sc k i.label (places U home sc (Exactly n) t) cs) (λ U home sc. rules U home sc k (m.case i t cs))
    (makes_then w0 w1 w2 (λ U home sc. rules U home sc (Exactly n) t) (λ U home sc. rules_of_clauses U home sc k i.label (places U home sc (Exactly n) t) cs) one
    (makes_as w1 w2 (λ U home sc. rules_of_clauses U home sc k i.label (map (place_named U) ps) cs) (λ U home sc. rules_of_clauses U home sc k i.label (places U home sc (Exactly n) t) cs) two
    (λ U home sc h. ap (λ qs. rules_of_clauses U home sc k i.label qs cs) (given U home sc (sees_back U home sc w0 w1 one.rest h)))))
    (λ U home sc h. ap (λ x. rules U home sc (Exactly x) t ++ rules_of_clauses U home sc k i.label (places U home sc (Exactly x) t) cs) count)

pub receive_makes : (w0 w1 w2 w3 : RuleWalk) (i : Mark) (k : Ask) (cs : m.Clauses) (t u : m.Tree) → Makes w0 w1 (λ U home sc. rules_of_clauses U home sc k i.label [] cs) → Makes w1 w2 (λ U home sc. rules U home sc one_value t)
    → Makes w2 w3 (λ U home sc. joined_rules U home sc i.label k u) → Makes w0 w3 (λ U home sc. rules U home sc k (m.receive i cs t u))
receive_makes w0 w1 w2 w3 i k cs t u one two three =
    makes_then w0 w1 w3 (λ U home sc. rules_of_clauses U home sc k i.label [] cs) (λ U home sc. rules U home sc one_value t ++ joined_rules U home sc i.label k u) one
    (makes_then w1 w2 w3 (λ U home sc. rules U home sc one_value t) (λ U home sc. joined_rules U home sc i.label k u) two three)

pub try_makes : (w0 w1 w2 w3 : RuleWalk) (i : Mark) (k : Ask) (n : ℕ) (t : m.Tree) (xs : List VarName) (u : m.Tree) (ys : List VarName) (w : m.Tree) (ps : List FlowPlace) → n ≡ length xs
    → Makes w0 w1 (λ U home sc. rules U home sc (Exactly n) t) → Gives w0 ps (λ U home sc. places U home sc (Exactly n) t)
    → Makes w1 w2 (λ U home sc. joined_rules U home (with_places xs (map (place_named U) ps) sc) i.label k u) → Makes w2 w3 (λ U home sc. joined_rules U home (with_places ys [] sc) i.label k w)
    → Makes w0 w3 (λ U home sc. rules U home sc k (m.try i t xs u ys w))
try_makes w0 w1 w2 w3 i k n t xs u ys w ps count one given two three =
    makes_as w0 w3 (λ U home sc. rules U home sc (Exactly n) t ++ (joined_rules U home (with_places xs (places U home sc (Exactly n) t) sc) i.label k u ++ joined_rules U home (with_places ys [] sc) i.label k w))
    (λ U home sc. rules U home sc k (m.try i t xs u ys w))
    (makes_then w0 w1 w3 (λ U home sc. rules U home sc (Exactly n) t) (λ U home sc. joined_rules U home (with_places xs (places U home sc (Exactly n) t) sc) i.label k u ++ joined_rules U home (with_places ys [] sc) i.label k w) one
    (makes_then w1 w2 w3 (λ U home sc. joined_rules U home (with_places xs (places U home sc (Exactly n) t) sc) i.label k u) (λ U home sc. joined_rules U home (with_places ys [] sc) i.label k w)
    (makes_as w1 w2 (λ U home sc. joined_rules U home (with_places xs (map (place_named U) ps) sc) i.label k u) (λ U home sc. joined_rules U home (with_places xs (places U home sc (Exactly n) t) sc) i.label k u) two
    (λ U home sc h. ap (λ qs. joined_rules U home (with_places xs qs sc) i.label k u) (given U home sc (sees_back U home sc w0 w1 one.rest h)))) three))
    (λ U home sc h. ap (λ x. rules U home sc (Exactly x) t ++ (joined_rules U home (with_places xs (places U home sc (Exactly x) t) sc) i.label k u ++ joined_rules U home (with_places ys [] sc) i.label k w)) count)

-- ---- definitions

-- a definition whose parameters and body were read
pub definition_told : (now new : RuleWalk) (d : FunDefOf Expr) (xs : List VarName) (e : Expr) → xs ≡ d.fun.params → e ≡ d.fun.body → Makes now new (λ U home sc. body_rules U home sc d.mark.label xs (tree e))
    → Makes now new (λ U home sc. body_rules U home sc d.mark.label d.fun.params (tree d.fun.body))
definition_told now new d xs e params body h =
    makes_as now new (λ U home sc. body_rules U home sc d.mark.label xs (tree e)) (λ U home sc. body_rules U home sc d.mark.label d.fun.params (tree d.fun.body)) h
    (λ U home sc s. ap (λ l. body_rules U home sc d.mark.label l (tree e)) params ∙ ap (λ z. body_rules U home sc d.mark.label d.fun.params (tree z)) body)

pub definitions_round : (old now new : RuleWalk) (ds : List (FunDefOf Expr)) (i : ℕ) (d : FunDefOf Expr) (all : Part) → i < length ds → d ≡ get_or ds i d
    → Makes now new (λ U home sc. body_rules U home sc d.mark.label d.fun.params (tree d.fun.body))
    → Going old now (λ U home sc. rules_of_definitions U home sc (all_defs (drop i ds))) all → Going old new (λ U home sc. rules_of_definitions U home sc (all_defs (drop (i + 1) ds))) all
definitions_round old now new ds i d all within is step before =
    let rest : m.Defs = all_defs (drop (i + 1) ds) in
    going_on old now new (λ U home sc. rules_of_definitions U home sc (all_defs (drop i ds))) (λ U home sc. body_rules U home sc d.mark.label d.fun.params (tree d.fun.body))
    (λ U home sc. rules_of_definitions U home sc rest) all before step
    (λ U home sc. ap (rules_of_definitions U home sc) (all_defs-next ds i d within ∙ ap (λ x. m.and_def x.name x.mark x.fun.params (tree x.fun.body) rest) (sym is)))

abbrev pub with_functions : RuleWalk → List (FunName × ℕ) → RuleWalk
with_functions w fs = record w { functions = fs }

either_label : (a b c : Option Local) → or_outer (label_of a) (label_of (or_else b c)) ≡ label_of (or_else (or_else a b) c)
either_label None b c = refl
either_label (Some d) b c = refl

sees_frame : (U : Program) (home : Atom) (sc : Scope) (w : RuleWalk) (ls : List Local) → Sees U home sc w → Sees U home (in_frame ls sc) (with_functions w (w.functions ++ frame ls))
sees_frame U home sc w ls h =
    record {
      apart = h.apart;
      table = h.table;
      at_home = h.at_home;
      variables = h.variables;
      functions = λ f. frame_value w.functions ls f ∙ ap (or_outer (label_of (function_named ls f))) (h.functions f) ∙ either_label (function_named ls f) (local_definition sc f) (defined_at U home f);
    }

module _ (w0 w1 w2 w3 w4 : RuleWalk) (around : ℕ) (ds : m.Defs) (at : around ≡ length w0.functions) (defined : w1 ≡ with_functions w0 (w0.functions ++ frame (locals_of ds))) where
  sees_in : (U : Program) (home : Atom) (sc : Scope) → Sees U home sc w0 → Sees U home (in_frame (locals_of ds) sc) w1
  sees_in U home sc s = subst (Sees U home (in_frame (locals_of ds) sc)) (sym defined) (sees_frame U home sc w0 (locals_of ds) s)

  pub letrec_makes : (k : Ask) (t : m.Tree) → Makes w1 w2 (λ U home sc. rules_of_definitions U home sc ds) → Makes w2 w3 (λ U home sc. rules U home sc k t) → w4 ≡ with_functions w3 (take around w3.functions)
      → Makes w0 w4 (λ U home sc. rules_of_definitions U home (in_frame (locals_of ds) sc) ds ++ rules U home (in_frame (locals_of ds) sc) k t)
  letrec_makes k t one two left =
      let both : Makes w1 w3 (λ U home sc. rules_of_definitions U home sc ds ++ rules U home sc k t) = makes_then w1 w2 w3 (λ U home sc. rules_of_definitions U home sc ds) (λ U home sc. rules U home sc k t) one two in
      let inside : w3 ≡ with_rules (with_functions w0 (w0.functions ++ frame (locals_of ds))) w3.rules = both.rest ∙ ap (λ w. with_rules w w3.rules) defined in
      let back : take around w3.functions ≡ w0.functions = ap (λ n. take n w3.functions) at ∙ ap (λ w. take (length w0.functions) w.functions) inside ∙ take-append_seam w0.functions (frame (locals_of ds)) in
      let rules_are : w4.rules ≡ w3.rules = ap (λ w. w.rules) left in
      let before : w1.rules ≡ w0.rules = ap (λ w. w.rules) defined in
      record {
        rest = left ∙ ap (with_functions w3) back ∙ ap (λ w. with_functions w w0.functions) inside ∙ ap (with_rules w0) (sym rules_are);
        adds = λ U home sc s.
            let made = both.adds U home (in_frame (locals_of ds) sc) (sees_in U home sc s) in
            λ r. subst (λ l. Adds U w0.rules l (rules_of_definitions U home (in_frame (locals_of ds) sc) ds ++ rules U home (in_frame (locals_of ds) sc) k t)) (sym rules_are)
            (subst (λ l. Adds U l w3.rules (rules_of_definitions U home (in_frame (locals_of ds) sc) ds ++ rules U home (in_frame (locals_of ds) sc) k t)) before made) r;
      }

  pub letrec_gives : (k : Ask) (t : m.Tree) (ps : List FlowPlace) → Makes w1 w2 (λ U home sc. rules_of_definitions U home sc ds) → Gives w2 ps (λ U home sc. places U home sc k t)
      → Gives w0 ps (λ U home sc. places U home (in_frame (locals_of ds) sc) k t)
  letrec_gives k t ps one given U home sc s = given U home (in_frame (locals_of ds) sc) (sees_on U home (in_frame (locals_of ds) sc) w1 w2 one.rest (sees_in U home sc s))

-- ---- the ends of these loops

pub steps_end : (old now : RuleWalk) (ss : List (StepOf Expr)) (i : ℕ) (all : Part) (whole : Binding) → length ss ≤ i
    → Entering old now (λ U home sc. rules_of_steps U home sc (all_steps (drop i ss))) all (λ U home sc. after_steps U home sc (all_steps (drop i ss))) whole → Binds old now all whole
steps_end old now ss i all whole past h =
    entering_ends old now (λ U home sc. rules_of_steps U home sc (all_steps (drop i ss))) all (λ U home sc. after_steps U home sc (all_steps (drop i ss))) whole h
    (λ U home sc. ap (λ l. rules_of_steps U home sc (all_steps l)) (drop_of_length-le ss past)) (λ U home sc. ap (λ l. after_steps U home sc (all_steps l)) (drop_of_length-le ss past))

pub clauses_end : (old now : RuleWalk) (label : ℕ) (k : Ask) (ps : List FlowPlace) (cs : List Clause) (i : ℕ) (all : Part) → length cs ≤ i
    → Going old now (λ U home sc. rules_of_clauses U home sc k label (map (place_named U) ps) (all_clauses (drop i cs))) all → Makes old now all
clauses_end old now label k ps cs i all past h =
    going_ends old now (λ U home sc. rules_of_clauses U home sc k label (map (place_named U) ps) (all_clauses (drop i cs))) all h
    (λ U home sc. ap (λ l. rules_of_clauses U home sc k label (map (place_named U) ps) (all_clauses l)) (drop_of_length-le cs past))

pub definitions_end : (old now : RuleWalk) (ds : List (FunDefOf Expr)) (i : ℕ) (all : Part) → length ds ≤ i → Going old now (λ U home sc. rules_of_definitions U home sc (all_defs (drop i ds))) all → Makes old now all
definitions_end old now ds i all past h = going_ends old now (λ U home sc. rules_of_definitions U home sc (all_defs (drop i ds))) all h (λ U home sc. ap (λ l. rules_of_definitions U home sc (all_defs l)) (drop_of_length-le ds past))
