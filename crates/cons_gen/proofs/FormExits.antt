-- The forms of data and of calls: what each way out says.
use Rattle.std.proofs.Common.{◌≡◌, ℕ, suc, ◌+◌, ◌≤◌, List, [], ◌∷◌, ◌++◌, length, Result, OnOk, refl, sym, ap, ◌∙◌, subst, arith}
use Rattle.std.specs.Prelude.{if◌then◌else◌}
use Rattle.std.proofs.lemmas.Result.{on_ok_weaker}
use Rattle.type_kinds.specs.declared.atom.Atom.{Atom}
use Rattle.type_kinds.specs.declared.memory.Memory.{Memory}
use Rattle.type_lattice.specs.Types.{Type4}
use Rattle.type_lattice.specs.Kinds.{of_kind}
use Rattle.type_lattice.specs.declared.kinds.Kind.TheVariants.{Bitstring, Map}
use Rattle.core_ast.specs.declared.syntax.FunName.{FunName}
use Rattle.core_ast.specs.declared.syntax.Expr.{Expr}
use Rattle.core_ast.specs.Model as m
use Rattle.core_ast.specs.Lengths.{how_many}
use Rattle.core_ast.specs.Tree.{all_trees}
use Rattle.core_ast.proofs.Items.{how_many-length}
use Rattle.core_scope.specs.Asks.{is_raising, one_value}
use Rattle.cons_tree.specs.Constraints.{only}
use Rattle.cons_tree.specs.declared.parts.Part.TheVariants.{Tuple}
use Rattle.cons_gen_rows.specs.Passes.{applied_rows, called_rows}
use Rattle.cons_gen_rows.specs.Scopes.{Scope}
use Rattle.cons_gen_rows.specs.Slots.{slots_from}
use Rattle.cons_gen_rows.specs.Walking.{Adds, knowing, scope_of}
use Rattle.cons_gen_rows.specs.Words.{Rows, bound, equals, function_type, inner_cells, list_rows, never}
use Rattle.cons_gen_rows.specs.declared.generator.Generator.{Generator}
use Rattle.cons_gen_rows.specs.declared.passes.Surroundings.{Surroundings}
use Rattle.cons_gen_rows.proofs.Adding.{adds_then, behind, behind_more, more}
use Rattle.cons_gen.specs.Rows.{all_rows, rows, segment_rows}
use Rattle.cons_gen.specs.Spans.{segment_spans, span, spans, value_slots}
use Rattle.cons_gen.specs.steps.Generating.{Generates, rows_at}

abbrev pub Answer : Type 0
Answer = Result (Unit {0}) Memory

-- the slots of values are as many as the expressions
pub values_length : (s : ℕ) (ts : m.Trees) → length (value_slots s ts) ≡ how_many ts
values_length s m.no_tree = refl
values_length s (m.and_tree t ts) = ap suc (values_length (s + span one_value t) ts) ∙ (let e : suc (how_many ts) ≡ how_many ts + 1 = omega arith in e)

pub as_many : (s : ℕ) (es : List Expr) (slots : List ℕ) → slots ≡ value_slots s (all_trees es) → length slots ≡ length es
as_many s es slots is = ap length is ∙ values_length s (all_trees es) ∙ how_many-length es

module _ (context : Surroundings) where
  -- what expressions add, and those of segments
  abbrev pub every : m.Trees → Scope → ℕ → Rows
  every ts s k = all_rows (knowing context) context.home.now s k ts

  abbrev pub each_segment : m.Segments → Scope → ℕ → Rows
  each_segment ss s k = segment_rows (knowing context) context.home.now s k ss

  -- ---- lists

  pub elements_slots : (a b c : Generator) (inner n : ℕ) (ts : m.Trees) (slots : List ℕ) → Adds a b 1 [] → Adds b c inner [] → inner ≡ inner_cells n → slots ≡ value_slots c.next ts
      → slots ≡ value_slots (a.next + 1 + inner_cells n) ts
  elements_slots a b c inner n ts slots one two inner_is is = is ∙ ap (λ k. value_slots k ts) (two.next ∙ ap (λ k. k + inner) one.next ∙ ap (λ k. a.next + 1 + k) inner_is)

  pub elements_rows : (a b c d : Generator) (inner n : ℕ) (ts : m.Trees) → Adds a b 1 [] → Adds b c inner [] → inner ≡ inner_cells n → Adds c d (spans ts) (every ts (scope_of c) c.next)
      → Adds a d (1 + inner_cells n + spans ts) (every ts (scope_of a) (a.next + 1 + inner_cells n))
  elements_rows a b c d inner n ts one two inner_is three =
      subst (λ k. Adds a d (1 + k + spans ts) (every ts (scope_of a) (a.next + 1 + k))) inner_is
      (adds_then a c d (1 + inner) (spans ts) (1 + inner + spans ts) (a.next + 1 + inner) [] (every ts) (behind a b c 1 inner (λ s k. []) one two) three (omega arith) refl)

  pub elements_within : (a b c d : Generator) (inner cells : ℕ) (es : List Expr) (slots : List ℕ) → Adds a b 1 [] → cells ≡ b.next → Adds b c inner [] → inner ≡ inner_cells (length es)
      → slots ≡ value_slots c.next (all_trees es)
      → Adds c d (spans (all_trees es)) (every (all_trees es) (scope_of c) c.next) → cells + inner_cells (length slots) ≤ d.next
  elements_within a b c d inner cells es slots one cells_are two inner_is slots_are three =
      let same : inner_cells (length slots) ≡ inner = ap inner_cells (as_many c.next es slots slots_are) ∙ sym inner_is in
      let next : c.next ≡ b.next + inner = two.next in
      let further : d.next ≡ c.next + spans (all_trees es) = three.next in
      omega arith

  pub tail_rows : (r : Answer) (a b c : Generator) (value cells rest : ℕ) (slots : List ℕ) (t : m.Tree) → rest ≡ a.next → Generates context a b one_value t → OnOk r (Adds b c 0 (list_rows value cells slots rest))
      → OnOk r (Adds a c (span one_value t) (rows_at context a one_value t ++ list_rows value cells slots a.next))
  tail_rows r a b c value cells rest slots t is one = on_ok_weaker r (λ two. more a b c (span one_value t) (rows_at context a one_value t) (list_rows value cells slots a.next) one
      (subst (λ k. Adds b c 0 (list_rows value cells slots k)) is two))

  -- ---- tuples, binaries, value lists

  pub tuple_rows : (r : Answer) (a b c d : Generator) (ts : m.Trees) (value : ℕ) (slots : List ℕ) → value ≡ a.next → Adds a b 1 [] → slots ≡ value_slots b.next ts → Adds b c (spans ts) (every ts (scope_of b) b.next)
      → OnOk r (Adds c d 0 (only (Tuple value slots) ∷ []))
      → OnOk r (Adds a d (1 + spans ts) (every ts (scope_of a) (a.next + 1) ++ only (Tuple a.next (value_slots (a.next + 1) ts)) ∷ []))
  tuple_rows r a b c d ts value slots value_is one slots_are two = on_ok_weaker r (λ three.
      behind_more a b c d 1 (spans ts) (every ts) (only (Tuple a.next (value_slots (a.next + 1) ts)) ∷ []) one two
      (subst (λ ss. Adds c d 0 (only (Tuple a.next ss) ∷ [])) (slots_are ∙ ap (λ k. value_slots k ts) one.next) (subst (λ k. Adds c d 0 (only (Tuple k slots) ∷ [])) value_is three)))

  pub bounded : (c d : Generator) (value at : ℕ) (t u : Type4) → value ≡ at → t ≡ u → Adds c d 0 (bound value t) → Adds c d 0 (bound at u)
  bounded c d value at t u value_is type_is h = subst (λ k. Adds c d 0 (bound k u)) value_is (subst (λ x. Adds c d 0 (bound value x)) type_is h)

  pub binary_rows : (r : Answer) (a b c d : Generator) (ss : m.Segments) (value : ℕ) (t : Type4) → value ≡ a.next → Adds a b 1 [] → Adds b c (segment_spans ss) (each_segment ss (scope_of b) b.next) → t ≡ of_kind Bitstring
      → OnOk r (Adds c d 0 (bound value t))
      → OnOk r (Adds a d (1 + segment_spans ss) (each_segment ss (scope_of a) (a.next + 1) ++ bound a.next (of_kind Bitstring)))
  binary_rows r a b c d ss value t value_is one two type_is = on_ok_weaker r (λ three.
      behind_more a b c d 1 (segment_spans ss) (each_segment ss) (bound a.next (of_kind Bitstring)) one two (bounded c d value a.next t (of_kind Bitstring) value_is type_is three))

  -- the slots of what was taken, and of what follows
  pub values_rows : (r : Answer) (a b c d : Generator) (n : ℕ) (ts : m.Trees) (rs left values right : List ℕ) → rs ≡ slots_from a.next n → Adds a b n [] → values ≡ value_slots b.next ts
      → Adds b c (spans ts) (every ts (scope_of b) b.next) → left ≡ rs → right ≡ values → OnOk r (Adds c d 0 (equals left right))
      → OnOk r (Adds a d (n + spans ts) (every ts (scope_of a) (a.next + n) ++ equals (slots_from a.next n) (value_slots (a.next + n) ts)))
  values_rows r a b c d n ts rs left values right rs_are one values_are two left_is right_is = on_ok_weaker r (λ three.
      behind_more a b c d n (spans ts) (every ts) (equals (slots_from a.next n) (value_slots (a.next + n) ts)) one two
      (subst (λ l. Adds c d 0 (equals l (value_slots (a.next + n) ts))) (left_is ∙ rs_are) (subst (λ l. Adds c d 0 (equals left l)) (right_is ∙ values_are ∙ ap (λ k. value_slots k ts) one.next) three)))

  -- ---- maps

  pub updated_rows : (r : Answer) (a b c d : Generator) (old value : ℕ) (t u : Type4) (x : m.Tree) → old ≡ a.next → Generates context a b one_value x → t ≡ of_kind Map → Adds b c 0 (bound old t) → u ≡ of_kind Map
      → OnOk r (Adds c d 0 (bound value u))
      → OnOk r (Adds a d (span one_value x) (rows_at context a one_value x ++ bound a.next (of_kind Map) ++ bound value (of_kind Map)))
  updated_rows r a b c d old value t u x old_is one t_is two u_is = on_ok_weaker r (λ three.
      more a c d (span one_value x) (rows_at context a one_value x ++ bound a.next (of_kind Map)) (bound value (of_kind Map))
      (more a b c (span one_value x) (rows_at context a one_value x) (bound a.next (of_kind Map)) one (bounded b c old a.next t (of_kind Map) old_is t_is two)) (bounded c d value value u (of_kind Map) refl u_is three))

  -- ---- calls

  pub application_rows : (r : Answer) (a b c d : Generator) (f : FunName) (es : List Expr) (value : ℕ) (slots args : List ℕ) → value ≡ a.next → Adds a b 1 [] → slots ≡ value_slots b.next (all_trees es)
      → Adds b c (spans (all_trees es)) (every (all_trees es) (scope_of b) b.next) → args ≡ slots
      → OnOk r (Adds c d 0 (applied_rows (knowing context) context.home.now c.functions f (length args) value args))
      → OnOk r (Adds a d (1 + spans (all_trees es)) (every (all_trees es) (scope_of a) (a.next + 1) ++ applied_rows (knowing context) context.home.now a.functions f (length es) a.next (value_slots (a.next + 1) (all_trees es))))
  application_rows r a b c d f es value slots args value_is one slots_are two args_are = on_ok_weaker r (λ three.
      let ts : m.Trees = all_trees es in
      let q : List FunName → ℕ → ℕ → List ℕ → Rows = λ fs n k ss. applied_rows (knowing context) context.home.now fs f n k ss in
      let many : length args ≡ length es = ap length args_are ∙ as_many b.next es slots slots_are in
      behind_more a b c d 1 (spans ts) (every ts) (q a.functions (length es) a.next (value_slots (a.next + 1) ts)) one two
      (subst (λ fs. Adds c d 0 (q fs (length es) a.next (value_slots (a.next + 1) ts))) (two.functions ∙ one.functions)
      (subst (λ n. Adds c d 0 (q c.functions n a.next (value_slots (a.next + 1) ts))) many
      (subst (λ k. Adds c d 0 (q c.functions (length args) k (value_slots (a.next + 1) ts))) value_is
      (subst (λ ss. Adds c d 0 (q c.functions (length args) value ss)) (args_are ∙ slots_are ∙ ap (λ k. value_slots k ts) one.next) three)))))

  pub operator_slot : (a b : Generator) (slot : ℕ) → slot ≡ b.next → Adds a b 1 [] → slot ≡ a.next + 1
  operator_slot a b slot is one = is ∙ one.next

  pub operator_rows : (a b c : Generator) (t : m.Tree) → Adds a b 1 [] → Generates context b c one_value t → Adds a c (1 + span one_value t) (rows (knowing context) context.home.now (scope_of a) (a.next + 1) one_value t)
  operator_rows a b c t one two = behind a b c 1 (span one_value t) (λ s k. rows (knowing context) context.home.now s k one_value t) one two

  pub operands_rows : (r : Answer) (a b c : Generator) (operator : ℕ) (es : List Expr) (t : Type4) → Adds a b (spans (all_trees es)) (every (all_trees es) (scope_of a) a.next) → t ≡ function_type (length es)
      → OnOk r (Adds b c 0 (bound operator t))
      → OnOk r (Adds a c (spans (all_trees es)) (every (all_trees es) (scope_of a) a.next ++ bound operator (function_type (length es))))
  operands_rows r a b c operator es t one type_is = on_ok_weaker r (λ two. more a b c (spans (all_trees es)) (every (all_trees es) (scope_of a) a.next) (bound operator (function_type (length es))) one
      (bounded b c operator operator t (function_type (length es)) refl type_is two))

  pub named_call_rows : (r : Answer) (a b c d : Generator) (n : ℕ) (home name : Atom) (es : List Expr) (rs left slots args : List ℕ) → rs ≡ slots_from a.next n → Adds a b n [] → slots ≡ value_slots b.next (all_trees es)
      → Adds b c (spans (all_trees es)) (every (all_trees es) (scope_of b) b.next) → left ≡ rs → args ≡ slots
      → OnOk r (Adds c d 0 (called_rows (knowing context) home name (length args) left args))
      → OnOk r (Adds a d (n + spans (all_trees es)) (every (all_trees es) (scope_of a) (a.next + n) ++ called_rows (knowing context) home name (length es) (slots_from a.next n) (value_slots (a.next + n) (all_trees es))))
  named_call_rows r a b c d n home name es rs left slots args rs_are one slots_are two left_is args_are = on_ok_weaker r (λ three.
      let ts : m.Trees = all_trees es in
      let q : ℕ → List ℕ → List ℕ → Rows = λ k ls ss. called_rows (knowing context) home name k ls ss in
      let many : length args ≡ length es = ap length args_are ∙ as_many b.next es slots slots_are in
      behind_more a b c d n (spans ts) (every ts) (q (length es) (slots_from a.next n) (value_slots (a.next + n) ts)) one two
      (subst (λ k. Adds c d 0 (q k (slots_from a.next n) (value_slots (a.next + n) ts))) many
      (subst (λ ls. Adds c d 0 (q (length args) ls (value_slots (a.next + n) ts))) (left_is ∙ rs_are)
      (subst (λ ss. Adds c d 0 (q (length args) left ss)) (args_are ∙ slots_are ∙ ap (λ k. value_slots k ts) one.next) three))))

  pub primop_rows : (r : Answer) (a b c d : Generator) (n : ℕ) (x : Atom) (ts : m.Trees) (rs left : List ℕ) → rs ≡ slots_from a.next n → Adds a b n [] → Adds b c (spans ts) (every ts (scope_of b) b.next) → left ≡ rs
      → OnOk r (Adds c d 0 (if is_raising x then never left else []))
      → OnOk r (Adds a d (n + spans ts) (every ts (scope_of a) (a.next + n) ++ (if is_raising x then never (slots_from a.next n) else [])))
  primop_rows r a b c d n x ts rs left rs_are one two left_is = on_ok_weaker r (λ three.
      behind_more a b c d n (spans ts) (every ts) (if is_raising x then never (slots_from a.next n) else []) one two
      (subst (λ l. Adds c d 0 (if is_raising x then never l else [])) (left_is ∙ rs_are) three))
