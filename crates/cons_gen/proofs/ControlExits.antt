-- The forms that bind variables, choose and wait: what each way out says.
use Rattle.std.proofs.Common.{◌≡◌, ℕ, ◌+◌, List, [], ◌∷◌, ◌++◌, length, take, OnOk, refl, sym, ap, ◌∙◌, subst, append_assoc, arith}
use Rattle.std.proofs.Math.Seq.{take-append_seam}
use Rattle.std.proofs.lemmas.Result.{on_ok_weaker}
use Rattle.std.proofs.lemmas.List.{append-nil}
use Rattle.type_lattice.specs.Types.{Type4}
use Rattle.core_ast.specs.declared.syntax.FunName.{FunName}
use Rattle.core_ast.specs.declared.syntax.VarName.{VarName}
use Rattle.core_ast.specs.declared.syntax.Mark.{Mark}
use Rattle.core_ast.specs.declared.syntax.Expr.{Expr}
use Rattle.core_ast.specs.declared.syntax.Clause.{Clause, out-Clause}
use Rattle.core_ast.specs.declared.syntax.Pattern.{Pattern}
use Rattle.core_ast.specs.declared.syntax.StepOf.{StepOf}
use Rattle.core_ast.specs.declared.syntax.StepOf.TheVariants.{Let, Do}
use Rattle.core_ast.specs.Model as m
use Rattle.core_ast.specs.Tree.{tree, all_clauses, all_patterns, all_steps, clause_parts}
use Rattle.core_ast.proofs.Trees.{clause-is}
use Rattle.core_scope.specs.declared.ask.Ask.{Ask}
use Rattle.core_scope.specs.declared.ask.Ask.TheVariants.{AnyNumber, Exactly}
use Rattle.core_scope.specs.Asks.{one_value}
use Rattle.cons_tree.specs.Named.{just_true, naturals}
use Rattle.cons_gen_rows.specs.Counts.{passed_on, results}
use Rattle.cons_gen_rows.specs.Patterns.{outer_bindings, outer_rows, outer_span}
use Rattle.cons_gen_rows.specs.Scopes.{Binding, Scope, bindings, with_bindings, with_functions}
use Rattle.cons_gen_rows.specs.Slots.{slots_from}
use Rattle.cons_gen_rows.specs.Walking.{Adds, Binds, Defines, Gathers, bindings_at, knowing, rows_of, scope_of}
use Rattle.cons_gen_rows.specs.Words.{Rows, bound, equals, one_of, together}
use Rattle.cons_gen_rows.specs.declared.generator.Generator.{Generator}
use Rattle.cons_gen_rows.specs.declared.passes.Surroundings.{Surroundings}
use Rattle.cons_gen_rows.proofs.Adding.{adds_as, adds_binds, adds_then, behind, binds_adds, binds_as, binds_none, gathered, left, more}
use Rattle.cons_gen_rows.proofs.Runs.{bindings_run}
use Rattle.cons_gen.specs.Rows.{clause_rows, rows, step_bindings, step_rows}
use Rattle.cons_gen.specs.Spans.{clause_spans, span, step_spans}
use Rattle.cons_gen.specs.steps.Choosing.{Leaves, handler_rows, tried_rows}
use Rattle.cons_gen.specs.steps.Generating.{Generates, rows_at}
use Rattle.cons_gen.proofs.FormExits.{Answer, bounded}

module _ (context : Surroundings) where
  -- what an expression adds, where its slots begin at `s`
  abbrev pub given : Ask → m.Tree → Scope → ℕ → Rows
  given k t sc s = rows (knowing context) context.home.now sc s k t

  -- and that its results are passed on
  abbrev pub handing : Ask → m.Tree → List ℕ → Scope → ℕ → Rows
  handing k t to sc s = given k t sc s ++ equals to (results k s t)

  pub passed_rows : (r : Answer) (a b c : Generator) (k : Ask) (t : m.Tree) (to values right : List ℕ) → values ≡ results k a.next t → Generates context a b k t → right ≡ values → OnOk r (Adds b c 0 (equals to right))
      → OnOk r (Adds a c (span k t) (handing k t to (scope_of a) a.next))
  passed_rows r a b c k t to values right values_are one right_is = on_ok_weaker r
      (λ two. more a b c (span k t) (rows_at context a k t) (equals to (results k a.next t)) one (subst (λ l. Adds b c 0 (equals to l)) (right_is ∙ values_are) two))

  -- ---- variables

  pub under_rows : (a b c d : Generator) (k : Ask) (t : m.Tree) (to : List ℕ) (bs : List Binding) (around : ℕ) → around ≡ length a.variables → Binds a b 0 [] bs → Adds b c (span k t) (handing k t to (scope_of b) b.next)
      → d.next ≡ c.next → d.members ≡ c.members → d.variables ≡ take around c.variables → d.functions ≡ c.functions
      → Adds a d (span k t) (handing k t to (with_bindings (scope_of a) bs) a.next)
  under_rows a b c d k t to bs around is one two next members variables functions =
      left a c d (span k t) around (handing k t to (with_bindings (scope_of a) bs) a.next) bs (binds_adds a b c 0 (span k t) (span k t) a.next [] (handing k t to) bs one two (omega arith) (omega arith)) is next members variables functions

  pub let_rows : (r : Answer) (a b c d : Generator) (xs : List VarName) (t : m.Tree) (slots one_is other_is : List ℕ) → slots ≡ slots_from a.next (length xs) → Adds a b (length xs) [] → one_is ≡ slots
      → Adds b c (span (Exactly (length xs)) t) (handing (Exactly (length xs)) t one_is (scope_of b) b.next) → other_is ≡ slots
      → OnOk r (Binds c d 0 [] (bindings_at xs other_is))
      → OnOk r (Binds a d (length xs + span (Exactly (length xs)) t) (handing (Exactly (length xs)) t (slots_from a.next (length xs)) (scope_of a) (a.next + length xs)) (bindings xs a.next))
  let_rows r a b c d xs t slots one_is other_is slots_are one same two other = on_ok_weaker r (λ three.
      let n : ℕ = length xs in
      let k : Ask = Exactly n in
      let whole : Adds a c (n + span k t) (handing k t (slots_from a.next n) (scope_of a) (a.next + n)) =
      behind a b c n (span k t) (handing k t (slots_from a.next n)) one (subst (λ l. Adds b c (span k t) (handing k t l (scope_of b) b.next)) (same ∙ slots_are) two) in
      binds_as a d (n + span k t) (n + span k t) _ _ (bindings_at xs other_is) (bindings xs a.next) refl (append-nil (handing k t (slots_from a.next n) (scope_of a) (a.next + n)))
      (ap (bindings_at xs) (other ∙ slots_are) ∙ bindings_run xs a.next)
      (adds_binds a c d (n + span k t) 0 (n + span k t) (a.next + (n + span k t)) (handing k t (slots_from a.next n) (scope_of a) (a.next + n)) (λ sc s. []) (λ s. bindings_at xs other_is) whole three refl (omega arith)))

  -- ---- steps

  abbrev pub Stepped : (a b : Generator) → m.Steps → Type 0
  Stepped a b ss = Binds a b (step_spans ss) (step_rows (knowing context) context.home.now (scope_of a) a.next ss) (step_bindings a.next ss)

  pub let_step : (r : Answer) (a b : Generator) (x : StepOf Expr) (i : Mark) (ys xs : List VarName) (e : Expr) → x ≡ Let i ys e → xs ≡ ys
      → OnOk r (Binds a b (length xs + span (Exactly (length xs)) (tree e)) (handing (Exactly (length xs)) (tree e) (slots_from a.next (length xs)) (scope_of a) (a.next + length xs)) (bindings xs a.next))
      → OnOk r (Stepped a b (all_steps (x ∷ [])))
  let_step r a b x i ys xs e is same = on_ok_weaker r (λ h.
      subst (λ z. Stepped a b (all_steps (z ∷ []))) (sym (is ∙ ap (λ z. Let i z e) (sym same)))
      (binds_as a b _ _ _ _ _ _ (omega arith) (sym (append-nil _)) (sym (append-nil _)) h))

  pub do_step : (r : Answer) (a b : Generator) (x : StepOf Expr) (i : Mark) (e : Expr) → x ≡ Do i e → OnOk r (Generates context a b AnyNumber (tree e)) → OnOk r (Stepped a b (all_steps (x ∷ [])))
  do_step r a b x i e is = on_ok_weaker r (λ h.
      subst (λ z. Stepped a b (all_steps (z ∷ []))) (sym is)
      (binds_as a b _ _ _ _ [] [] (omega arith) (sym (append-nil _)) refl (binds_none a b (span AnyNumber (tree e)) (rows_at context a AnyNumber (tree e)) h)))

  pub steps_rows : (a b c : Generator) (n : ℕ) (ss : m.Steps) → Adds a b n [] → Stepped b c ss
      → Binds a c (n + step_spans ss) (step_rows (knowing context) context.home.now (scope_of a) (a.next + n) ss) (step_bindings (a.next + n) ss)
  steps_rows a b c n ss one two = adds_binds a b c n (step_spans ss) (n + step_spans ss) (a.next + n) [] (λ sc s. step_rows (knowing context) context.home.now sc s ss) (λ s. step_bindings s ss) one two refl refl

  pub leaves : (a b c : Generator) (n around : ℕ) (r : Rows) → Adds a b n r → c.next ≡ b.next → c.members ≡ b.members → c.variables ≡ take around b.variables → c.functions ≡ b.functions → Leaves around a c n r
  leaves a b c n around r h next members variables functions = record {
    next = next ∙ h.next;
    rows = ap (λ z. rows_of (record a { members = z })) members ∙ h.rows;
    variables = variables ∙ ap (take around) h.variables;
    functions = functions ∙ h.functions;
  }

  -- ---- choices

  pub argument_values : (a b : Generator) (n : ℕ) (k : Ask) (t : m.Tree) (values : List ℕ) → Adds a b n [] → values ≡ results k b.next t → values ≡ results k (a.next + n) t
  argument_values a b n k t values one is = is ∙ ap (λ s. results k s t) one.next

  pub argument_rows : (a b c : Generator) (n : ℕ) (k : Ask) (t : m.Tree) → Adds a b n [] → Generates context b c k t → Adds a c (n + span k t) (given k t (scope_of a) (a.next + n))
  argument_rows a b c n k t one two = behind a b c n (span k t) (given k t) one two

  -- the alternatives of clauses
  abbrev pub alternatives : List ℕ → List ℕ → Ask → m.Clauses → Scope → ℕ → Rows
  alternatives to qs k cs sc s = clause_rows (knowing context) context.home.now sc to qs s k cs

  pub alternatives_rows : (r : Answer) (a b c : Generator) (k : Ask) (cs : m.Clauses) (start : ℕ) (to told qs read : List ℕ) → start ≡ length a.members.items → told ≡ to → read ≡ qs
      → Adds a b (clause_spans k cs) (alternatives told read k cs (scope_of a) a.next) → OnOk r (Gathers one_of start b c)
      → OnOk r (Adds a c (clause_spans k cs) (one_of (alternatives to qs k cs (scope_of a) a.next)))
  alternatives_rows r a b c k cs start to told qs read is told_is read_is one = on_ok_weaker r (λ two.
      gathered a b c (clause_spans k cs) start (alternatives to qs k cs (scope_of a) a.next) one_of is
      (subst (λ l. Adds a b (clause_spans k cs) (alternatives l qs k cs (scope_of a) a.next)) told_is (subst (λ l. Adds a b (clause_spans k cs) (alternatives told l k cs (scope_of a) a.next)) read_is one)) two)

  pub guard_rows : (r : Answer) (a b c : Generator) (slot : ℕ) (t : m.Tree) → slot ≡ a.next → Generates context a b one_value t → OnOk r (Adds b c 0 (bound slot just_true))
      → OnOk r (Adds a c (span one_value t) (given one_value t (scope_of a) a.next ++ bound a.next just_true))
  guard_rows r a b c slot t slot_is one = on_ok_weaker r (λ two. more a b c (span one_value t) (rows_at context a one_value t) (bound a.next just_true) one (subst (λ s. Adds b c 0 (bound s just_true)) slot_is two))

  pub clause_opened : (x : Clause) (rest : m.Clauses) → (let c = clause_parts x in m.and_clause c.mark c.patterns c.guard c.body rest)
      ≡ m.and_clause (out-Clause x).mark (all_patterns (out-Clause x).patterns) (tree (out-Clause x).guard) (tree (out-Clause x).body) rest
  clause_opened x rest = ap (λ c. m.and_clause c.mark c.patterns c.guard c.body rest) (clause-is x)

  pub one_clause : (r : Answer) (a b c d e f : Generator) (x : Clause) (k : Ask) (to qs : List ℕ) (ps : List Pattern) (around start : ℕ) → around ≡ length a.variables → start ≡ length a.members.items
      → ps ≡ (out-Clause x).patterns
      → Binds a b (outer_span (all_patterns ps)) (outer_rows qs a.next (all_patterns ps)) (outer_bindings a.next (all_patterns ps))
      → Adds b c (span one_value (tree (out-Clause x).guard)) (given one_value (tree (out-Clause x).guard) (scope_of b) b.next ++ bound b.next just_true)
      → Adds c d (span k (tree (out-Clause x).body)) (handing k (tree (out-Clause x).body) to (scope_of c) c.next)
      → e.next ≡ d.next → e.members ≡ d.members → e.variables ≡ take around d.variables → e.functions ≡ d.functions
      → OnOk r (Gathers (λ rs. together rs ∷ []) start e f)
      → OnOk r (Adds a f (clause_spans k (all_clauses (x ∷ []))) (alternatives to qs k (all_clauses (x ∷ [])) (scope_of a) a.next))
  one_clause r a b c d e f x k to qs ps around start around_is start_is ps_are one two three next members variables functions = on_ok_weaker r (λ four.
      let ts : m.Patterns = all_patterns (out-Clause x).patterns in
      let g : m.Tree = tree (out-Clause x).guard in
      let t : m.Tree = tree (out-Clause x).body in
      let s : ℕ = a.next in
      let inner : Scope = with_bindings (scope_of a) (outer_bindings s ts) in
      let guard : ℕ = s + outer_span ts in
      let body : ℕ = guard + span one_value g in
      let outer : Rows = outer_rows qs s ts in
      let guarding : Rows = given one_value g inner guard in
      let said : Rows = given k t inner body in
      let first : Binds a b (outer_span ts) outer (outer_bindings s ts) = subst (λ z. Binds a b (outer_span (all_patterns z)) (outer_rows qs s (all_patterns z)) (outer_bindings s (all_patterns z))) ps_are one in
      let second : Binds a c (outer_span ts + span one_value g) (outer ++ (guarding ++ bound guard just_true)) (outer_bindings s ts) =
      binds_adds a b c (outer_span ts) (span one_value g) (outer_span ts + span one_value g) guard outer (λ sc at. given one_value g sc at ++ bound at just_true) (outer_bindings s ts) first two refl refl in
      let third : Binds a d (outer_span ts + span one_value g + span k t) (outer ++ (guarding ++ bound guard just_true) ++ (said ++ equals to (results k body t))) (outer_bindings s ts) =
      binds_adds a c d (outer_span ts + span one_value g) (span k t) (outer_span ts + span one_value g + span k t) body (outer ++ (guarding ++ bound guard just_true)) (handing k t to) (outer_bindings s ts) second three (omega arith) refl in
      let flat : outer ++ (guarding ++ bound guard just_true) ++ (said ++ equals to (results k body t)) ≡ outer ++ guarding ++ bound guard just_true ++ said ++ equals to (results k body t) =
      ap (λ l. l ++ (said ++ equals to (results k body t))) (sym (append_assoc outer guarding (bound guard just_true))) ∙ sym (append_assoc (outer ++ guarding ++ bound guard just_true) said (equals to (results k body t))) in
      let whole : Adds a e (outer_span ts + span one_value g + span k t) (outer ++ guarding ++ bound guard just_true ++ said ++ equals to (results k body t)) =
      left a d e (outer_span ts + span one_value g + span k t) around _ (outer_bindings s ts) (binds_as a d _ _ _ _ _ _ refl flat refl third) around_is next members variables functions in
      subst (λ z. Adds a f (clause_spans k z) (alternatives to qs k z (scope_of a) s)) (sym (clause_opened x m.no_clause))
      (adds_as a f _ _ _ _ (omega arith) refl (gathered a e f (outer_span ts + span one_value g + span k t) start _ (λ rs. together rs ∷ []) start_is whole four)))

  -- ---- functions of a `letrec`

  pub letrec_rows : (a b c d e : Generator) (n : ℕ) (k : Ask) (t : m.Tree) (rs left_is : List ℕ) (fs : List FunName) (around : ℕ) → rs ≡ slots_from a.next n → Adds a b n [] → around ≡ length b.functions → Defines b c fs
      → left_is ≡ rs → Adds c d (span k t) (handing k t left_is (scope_of c) c.next)
      → e.next ≡ d.next → e.members ≡ d.members → e.variables ≡ d.variables → e.functions ≡ take around d.functions
      → Adds a e (n + span k t) (handing k t (slots_from a.next n) (with_functions (scope_of a) fs) (a.next + n))
  letrec_rows a b c d e n k t rs left_is fs around rs_are one around_is defined left_are two next members variables functions =
      let inside : scope_of c ≡ with_functions (scope_of a) fs = λ i. record { variables = (defined.variables ∙ one.variables) i; functions = (defined.functions ∙ ap (λ l. l ++ fs) one.functions) i } in
      let at : c.next ≡ a.next + n = defined.next ∙ one.next in
      record {
        next = next ∙ two.next ∙ ap (λ z. z + span k t) at ∙ (let q : a.next + n + span k t ≡ a.next + (n + span k t) = omega arith in q);
        rows = ap (λ z. rows_of (record a { members = z })) members ∙ two.rows
            ∙ ap (λ l. l ++ handing k t left_is (scope_of c) c.next) (defined.rows ∙ one.rows ∙ append-nil (rows_of a))
            ∙ ap (λ l. rows_of a ++ handing k t l (scope_of c) c.next) (left_are ∙ rs_are)
            ∙ ap (λ sc. rows_of a ++ handing k t (slots_from a.next n) sc c.next) inside
            ∙ ap (λ z. rows_of a ++ handing k t (slots_from a.next n) (with_functions (scope_of a) fs) z) at;
        variables = variables ∙ two.variables ∙ defined.variables ∙ one.variables;
        functions = functions ∙ ap (take around) (two.functions ∙ defined.functions) ∙ ap (λ z. take z (b.functions ++ fs)) around_is ∙ take-append_seam b.functions fs ∙ one.functions;
      }

  -- ---- `try`

  pub first_slots : (a b : Generator) (n : ℕ) (t : m.Tree) (slots : List ℕ) → Generates context a b (Exactly n) t → slots ≡ slots_from b.next n → slots ≡ slots_from (a.next + span (Exactly n) t) n
  first_slots a b n t slots one is = is ∙ ap (λ s. slots_from s n) one.next

  pub first_rows : (r : Answer) (a b c : Generator) (n : ℕ) (t : m.Tree) (values right : List ℕ) → values ≡ results (Exactly n) a.next t → Generates context a b (Exactly n) t → right ≡ values
      → OnOk r (Adds b c n (equals (slots_from b.next n) right))
      → OnOk r (Adds a c (span (Exactly n) t + n) (given (Exactly n) t (scope_of a) a.next ++ equals (slots_from (a.next + span (Exactly n) t) n) (results (Exactly n) a.next t)))
  first_rows r a b c n t values right values_are one right_is = on_ok_weaker r (λ two.
      let k : Ask = Exactly n in
      adds_then a b c (span k t) n (span k t + n) (a.next + span k t) (rows_at context a k t) (λ sc s. equals (slots_from s n) (results k a.next t)) one
      (subst (λ l. Adds b c n (equals (slots_from b.next n) l)) (right_is ∙ values_are) two) refl refl)

  pub tried_exit : (r : Answer) (a b c d : Generator) (k : Ask) (to : List ℕ) (t u : m.Tree) (xs ys : List VarName) (n start : ℕ) (slots other : List ℕ) → start ≡ length a.members.items → n ≡ length xs
      → slots ≡ slots_from (a.next + span (Exactly n) t) n
      → Adds a b (span (Exactly n) t + n) (given (Exactly n) t (scope_of a) a.next ++ equals (slots_from (a.next + span (Exactly n) t) n) (results (Exactly n) a.next t))
      → ys ≡ xs → other ≡ slots → Adds b c (span k u) (handing k u to (with_bindings (scope_of b) (bindings_at ys other)) b.next) → OnOk r (Gathers (λ rs. together rs ∷ []) start c d)
      → OnOk r (Adds a d (span (Exactly (length xs)) t + length xs + span k u) (together (tried_rows context a k to t xs u) ∷ []))
  tried_exit r a b c d k to t u xs ys n start slots other start_is count slots_are one ys_are other_is two = on_ok_weaker r (λ three.
      let w : Ask = Exactly (length xs) in
      let vars : ℕ = a.next + span w t in
      let body : ℕ = vars + length xs in
      let arg : Rows = given w t (scope_of a) a.next in
      let given_vars : Rows = equals (slots_from vars (length xs)) (results w a.next t) in
      let first : Adds a b (span w t + length xs) (arg ++ given_vars) =
      subst (λ j. Adds a b (span (Exactly j) t + j) (given (Exactly j) t (scope_of a) a.next ++ equals (slots_from (a.next + span (Exactly j) t) j) (results (Exactly j) a.next t))) count one in
      let named : bindings_at ys other ≡ bindings xs vars = ap (λ z. bindings_at z other) ys_are ∙ ap (bindings_at xs) (other_is ∙ slots_are ∙ ap (λ j. slots_from (a.next + span (Exactly j) t) j) count) ∙ bindings_run xs vars in
      let f : Scope → ℕ → Rows = λ sc s. handing k u to (with_bindings sc (bindings xs vars)) s in
      let second : Adds b c (span k u) (f (scope_of b) b.next) = subst (λ z. Adds b c (span k u) (handing k u to (with_bindings (scope_of b) z) b.next)) named two in
      let whole : Adds a c (span w t + length xs + span k u) (arg ++ given_vars ++ f (scope_of a) body) =
      adds_then a b c (span w t + length xs) (span k u) (span w t + length xs + span k u) body (arg ++ given_vars) f first second (omega arith) refl in
      gathered a c d (span w t + length xs + span k u) start (tried_rows context a k to t xs u) (λ rs. together rs ∷ []) start_is
      (adds_as a c _ _ _ _ refl (sym (append_assoc (arg ++ given_vars) (given k u (with_bindings (scope_of a) (bindings xs vars)) body) (equals to (results k body u)))) whole) three)

  pub handler_exit : (r : Answer) (a b c d : Generator) (k : Ask) (to : List ℕ) (u : m.Tree) (xs ys : List VarName) (n start : ℕ) (slots other : List ℕ) → start ≡ length a.members.items → n ≡ length xs
      → slots ≡ slots_from a.next n → Adds a b n []
      → ys ≡ xs → other ≡ slots → Adds b c (span k u) (handing k u to (with_bindings (scope_of b) (bindings_at ys other)) b.next) → OnOk r (Gathers (λ rs. together rs ∷ []) start c d)
      → OnOk r (Adds a d (length xs + span k u) (together (handler_rows context a k to xs u) ∷ []))
  handler_exit r a b c d k to u xs ys n start slots other start_is count slots_are one ys_are other_is two = on_ok_weaker r (λ three.
      let named : bindings_at ys other ≡ bindings xs a.next = ap (λ z. bindings_at z other) ys_are ∙ ap (bindings_at xs) (other_is ∙ slots_are ∙ ap (slots_from a.next) count) ∙ bindings_run xs a.next in
      let f : Scope → ℕ → Rows = λ sc s. handing k u to (with_bindings sc (bindings xs a.next)) s in
      let second : Adds b c (span k u) (f (scope_of b) b.next) = subst (λ z. Adds b c (span k u) (handing k u to (with_bindings (scope_of b) z) b.next)) named two in
      gathered a c d (length xs + span k u) start (handler_rows context a k to xs u) (λ rs. together rs ∷ []) start_is (behind a b c (length xs) (span k u) f (subst (λ j. Adds a b j []) count one) second) three)

  pub try_exit : (r : Answer) (a b c d e : Generator) (k : Ask) (t u w : m.Tree) (xs ys : List VarName) (rs one_is other_is : List ℕ) (start n : ℕ) → n ≡ passed_on k → rs ≡ slots_from a.next n → Adds a b n []
      → start ≡ length b.members.items → one_is ≡ rs
      → Adds b c (span (Exactly (length xs)) t + length xs + span k u) (together (tried_rows context b k one_is t xs u) ∷ []) → other_is ≡ rs
      → Adds c d (length ys + span k w) (together (handler_rows context c k other_is ys w) ∷ []) → OnOk r (Gathers one_of start d e)
      → OnOk r ((i : Mark) → Generates context a e k (m.try i t xs u ys w))
  try_exit r a b c d e k t u w xs ys rs one_is other_is start n count rs_are one start_is one_same two other_same three = on_ok_weaker r (λ four i.
      let q : Ask = Exactly (length xs) in
      let to : List ℕ = slots_from a.next (passed_on k) in
      let is_to : rs ≡ to = rs_are ∙ ap (slots_from a.next) count in
      let x : ℕ = span q t + length xs + span k u in
      let y : ℕ = length ys + span k w in
      -- the two alternatives, where the first one's slots begin at `s`
      let tried : Scope → ℕ → Rows = λ sc s. (let vars = s + span q t in given q t sc s ++ equals (slots_from vars (length xs)) (results q s t) ++ given k u (with_bindings sc (bindings xs vars)) (vars + length xs)
      ++ equals to (results k (vars + length xs) u)) in
      let handled : Scope → ℕ → Rows = λ sc s. given k w (with_bindings sc (bindings ys s)) (s + length ys) ++ equals to (results k (s + length ys) w) in
      let second : Adds b c x (together (tried (scope_of b) b.next) ∷ []) = subst (λ l. Adds b c x (together (tried_rows context b k l t xs u) ∷ [])) (one_same ∙ is_to) two in
      let third : Adds c d y (together (handled (scope_of c) c.next) ∷ []) = subst (λ l. Adds c d y (together (handler_rows context c k l ys w) ∷ [])) (other_same ∙ is_to) three in
      let both : Adds b d (x + y) (together (tried (scope_of b) b.next) ∷ together (handled (scope_of b) (b.next + x)) ∷ []) =
      adds_then b c d x y (x + y) (b.next + x) (together (tried (scope_of b) b.next) ∷ []) (λ sc s. together (handled sc s) ∷ []) second third refl refl in
      let f : Scope → ℕ → Rows = λ sc s. one_of (together (tried sc s) ∷ together (handled sc (s + x)) ∷ []) in
      let chosen : Adds b e (x + y) (f (scope_of b) b.next) = gathered b d e (x + y) start _ one_of start_is both four in
      let whole : Adds a e (passed_on k + (x + y)) (f (scope_of a) (a.next + passed_on k)) = behind a b e (passed_on k) (x + y) f (subst (λ j. Adds a b j []) count one) chosen in
      let later : a.next + passed_on k + x ≡ a.next + passed_on k + span q t + length xs + span k u = omega arith in
      adds_as a e _ _ _ _ (omega arith) (ap (λ s. one_of (together (tried (scope_of a) (a.next + passed_on k)) ∷ together (handled (scope_of a) s) ∷ [])) later) whole)

  -- ---- `receive`

  pub messages_rows : (a b c d : Generator) (n j : ℕ) (k : Ask) (cs : m.Clauses) (rs told qs : List ℕ) (message : ℕ) → n ≡ passed_on k → rs ≡ slots_from a.next n → Adds a b n [] → message ≡ b.next → Adds b c 1 []
      → told ≡ rs → qs ≡ message ∷ [] → Adds c d (clause_spans k cs) (alternatives told qs k cs (scope_of c) c.next)
      → Adds a d (passed_on k + 1 + clause_spans k cs) (alternatives (slots_from a.next (passed_on k)) ((a.next + passed_on k) ∷ []) k cs (scope_of a) (a.next + passed_on k + 1))
  messages_rows a b c d n j k cs rs told qs message count rs_are one message_is two told_is qs_are three =
      let h : ℕ = passed_on k in
      let first : Adds a b h [] = subst (λ z. Adds a b z []) count one in
      let tos : told ≡ slots_from a.next h = told_is ∙ rs_are ∙ ap (slots_from a.next) count in
      let asked : qs ≡ (a.next + h) ∷ [] = qs_are ∙ ap (λ z. z ∷ []) (message_is ∙ first.next) in
      let third : Adds c d (clause_spans k cs) (alternatives (slots_from a.next h) ((a.next + h) ∷ []) k cs (scope_of c) c.next) =
      subst (λ l. Adds c d (clause_spans k cs) (alternatives l ((a.next + h) ∷ []) k cs (scope_of c) c.next)) tos (subst (λ l. Adds c d (clause_spans k cs) (alternatives told l k cs (scope_of c) c.next)) asked three) in
      adds_then a c d (h + 1) (clause_spans k cs) (h + 1 + clause_spans k cs) (a.next + h + 1) [] (alternatives (slots_from a.next h) ((a.next + h) ∷ []) k cs) (behind a b c h 1 (λ sc s. []) first two) third (omega arith) refl

  pub action_rows : (r : Answer) (a b c d : Generator) (k : Ask) (t : m.Tree) (to told : List ℕ) (timeout start : ℕ) (u : Type4) → start ≡ length a.members.items → told ≡ to
      → Adds a b (span k t) (handing k t told (scope_of a) a.next) → u ≡ naturals → Adds b c 0 (bound timeout u) → OnOk r (Gathers (λ rs. together rs ∷ []) start c d)
      → OnOk r (Adds a d (span k t) (together (rows_at context a k t ++ equals to (results k a.next t) ++ bound timeout naturals) ∷ []))
  action_rows r a b c d k t to told timeout start u start_is told_is one u_is two = on_ok_weaker r (λ three.
      gathered a c d (span k t) start (handing k t to (scope_of a) a.next ++ bound timeout naturals) (λ rs. together rs ∷ []) start_is
      (more a b c (span k t) (handing k t to (scope_of a) a.next) (bound timeout naturals) (subst (λ l. Adds a b (span k t) (handing k t l (scope_of a) a.next)) told_is one) (bounded context b c timeout timeout u naturals refl u_is two))
      three)

  -- the parts of a `try` as the code read them
  pub tried_told : (r : Answer) (a d : Generator) (k : Ask) (to : List ℕ) (xs : List VarName) (p q read_p read_q : Expr) → read_p ≡ p → read_q ≡ q
      → OnOk r (Adds a d (span (Exactly (length xs)) (tree read_p) + length xs + span k (tree read_q)) (together (tried_rows context a k to (tree read_p) xs (tree read_q)) ∷ []))
      → OnOk r (Adds a d (span (Exactly (length xs)) (tree p) + length xs + span k (tree q)) (together (tried_rows context a k to (tree p) xs (tree q)) ∷ []))
  tried_told r a d k to xs p q read_p read_q p_is q_is h =
      subst (λ z. OnOk r (Adds a d (span (Exactly (length xs)) (tree p) + length xs + span k (tree z)) (together (tried_rows context a k to (tree p) xs (tree z)) ∷ []))) q_is
      (subst (λ z. OnOk r (Adds a d (span (Exactly (length xs)) (tree z) + length xs + span k (tree read_q)) (together (tried_rows context a k to (tree z) xs (tree read_q)) ∷ []))) p_is h)

  pub handler_told : (r : Answer) (a d : Generator) (k : Ask) (to : List ℕ) (xs : List VarName) (q read_q : Expr) → read_q ≡ q
      → OnOk r (Adds a d (length xs + span k (tree read_q)) (together (handler_rows context a k to xs (tree read_q)) ∷ []))
      → OnOk r (Adds a d (length xs + span k (tree q)) (together (handler_rows context a k to xs (tree q)) ∷ []))
  handler_told r a d k to xs q read_q q_is = subst (λ z. OnOk r (Adds a d (length xs + span k (tree z)) (together (handler_rows context a k to xs (tree z)) ∷ []))) q_is
