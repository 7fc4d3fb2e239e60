-- The constraint of a definition and of a clause: what the last steps come to.
use Rattle.std.proofs.Common.{◌≡◌, ℕ, ◌+◌, ◌≤◌, List, [], ◌∷◌, ◌++◌, length, map, take, drop, refl, sym, ap, ap₂, ◌∙◌, arith}
use Rattle.std.proofs.lemmas.List.{append-nil}
use Rattle.type_kinds.specs.declared.atom.Atom.{Atom}
use Rattle.core_ast.specs.declared.syntax.VarName.{VarName}
use Rattle.core_ast.specs.declared.syntax.Clause.{Clause, out-Clause}
use Rattle.core_ast.specs.declared.syntax.Pattern.{Pattern}
use Rattle.core_ast.specs.Model as m
use Rattle.core_ast.specs.Tree.{all_patterns, clause_parts, tree}
use Rattle.core_ast.proofs.Trees.{clause-is}
use Rattle.core_scope.specs.Asks.{one_value}
use Rattle.cons_tree.specs.Constraints.{constraint}
use Rattle.cons_tree.specs.Named.{just_true}
use Rattle.cons_gen_rows.specs.Passes.{Knowledge}
use Rattle.cons_gen_rows.specs.Patterns.{outer_bindings, outer_rows, outer_span}
use Rattle.cons_gen_rows.specs.Scopes.{Binding, Scope, bindings, with_bindings}
use Rattle.cons_gen_rows.specs.Slots.{slots_from}
use Rattle.cons_gen_rows.specs.Walking.{Adds, Binds, Gathers, bindings_at, knowing, rows_of, scope_of}
use Rattle.cons_gen_rows.specs.Words.{bound, together}
use Rattle.cons_gen_rows.specs.declared.generator.Generator.{Generator}
use Rattle.cons_gen_rows.specs.declared.passes.Surroundings.{Surroundings}
use Rattle.cons_gen_rows.proofs.Adding.{drop_seam, mapped_length}
use Rattle.cons_gen_rows.proofs.Runs.{bindings_run}
use Rattle.cons_gen.specs.Made.{clause_constraint, clause_params, clause_result, clause_slots, definition_constraint, head_rows, parameter_scope}
use Rattle.cons_gen.specs.Rows.{rows}
use Rattle.cons_gen.specs.Spans.{span}
use Rattle.cons_gen.specs.steps.Generating.{Generates, rows_at}
use Rattle.cons_gen.specs.steps.Heading.{Heads}

module _ (context : Surroundings) where
  -- ---- a definition

  pub definition_rows : (a b c d : Generator) (xs : List VarName) (slots : List ℕ) (t : m.Tree) → a.members.items ≡ [] → a.variables ≡ [] → a.functions ≡ [] → a.next ≡ 0 → Adds a b (length xs) []
      → slots ≡ slots_from a.next (length xs) → Binds b c 0 [] (bindings_at xs slots) → Generates context c d one_value t
      → together (rows_of d) ≡ definition_constraint (knowing context) context.home.now xs t
  definition_rows a b c d xs slots t empty unbound unnamed begins one slots_are two three =
      let none : rows_of c ≡ [] = two.rows ∙ append-nil (rows_of b) ∙ one.rows ∙ append-nil (rows_of a) ∙ ap (map constraint) empty in
      let vars : c.variables ≡ bindings xs 0 = two.variables ∙ ap (λ l. l ++ bindings_at xs slots) (one.variables ∙ unbound) ∙ ap (bindings_at xs) (slots_are ∙ ap (λ s. slots_from s (length xs)) begins) ∙ bindings_run xs 0 in
      let seen : scope_of c ≡ parameter_scope xs = λ i. record { variables = vars i; functions = (two.functions ∙ one.functions ∙ unnamed) i } in
      let at : c.next ≡ length xs = two.next ∙ ap (λ n. n + 0) (one.next ∙ ap (λ n. n + length xs) begins) ∙ (let e : 0 + length xs + 0 ≡ length xs = omega arith in e) in
      ap together (three.rows ∙ ap (λ l. l ++ rows_at context c one_value t) none ∙ ap (λ sc. rows (knowing context) context.home.now sc c.next one_value t) seen
      ∙ ap (λ n. rows (knowing context) context.home.now (parameter_scope xs) n one_value t) at)

  -- ---- a clause

  module _ (a b c d e : Generator) (sc : Scope) (qs : List ℕ) (s : ℕ) (x : Clause) (ps : List Pattern) (scoped : scope_of a ≡ sc) (begins : a.next ≡ s) (empty : a.members.items ≡ []) (ps_are : ps ≡ (out-Clause x).patterns)
      (one : Binds a b (outer_span (all_patterns ps)) (outer_rows qs a.next (all_patterns ps)) (outer_bindings a.next (all_patterns ps)))
      (two : Gathers (λ rs. together rs ∷ []) 0 b c) where
    abbrev heads : m.Patterns
    heads = (clause_parts x).patterns

    abbrev guard : m.Tree
    guard = (clause_parts x).guard

    heads_are : all_patterns ps ≡ heads
    heads_are = ap all_patterns ps_are ∙ sym (ap (λ y. y.patterns) (clause-is x))

    named : c.variables ≡ a.variables ++ outer_bindings s heads
    named = two.variables ∙ one.variables ∙ ap (λ n. a.variables ++ outer_bindings n (all_patterns ps)) begins ∙ ap (λ ts. a.variables ++ outer_bindings s ts) heads_are

    pub clause_slot : c.next ≡ clause_result s heads
    clause_slot = two.next ∙ one.next ∙ ap (λ n. n + outer_span (all_patterns ps)) begins ∙ ap (λ ts. s + outer_span ts) heads_are

    pub clause_variables : (around : ℕ) (params : List ℕ) → around ≡ length a.variables → params ≡ map (λ b. b.1) (drop around c.variables) → params ≡ clause_params s heads
    clause_variables around params is params_are =
        params_are ∙ ap (λ n. map (λ (b : Binding). b.1) (drop n c.variables)) is ∙ ap (λ l. map (λ (b : Binding). b.1) (drop (length a.variables) l)) named
        ∙ ap (map (λ (b : Binding). b.1)) (drop_seam a.variables (outer_bindings s heads))

    headed : rows_of c ≡ together (outer_rows qs s heads) ∷ []
    headed = two.rows ∙ ap (λ l. together l ∷ []) (one.rows ∙ ap (λ l. map constraint l ++ outer_rows qs a.next (all_patterns ps)) empty ∙ ap (λ n. outer_rows qs n (all_patterns ps)) begins ∙ ap (outer_rows qs s) heads_are)

    inside : scope_of c ≡ with_bindings sc (outer_bindings s heads)
    inside = (λ i. record { variables = named i; functions = (two.functions ∙ one.functions) i }) ∙ ap (λ z. with_bindings z (outer_bindings s heads)) scoped

    module _ (three : Generates context c d one_value (tree (out-Clause x).guard)) where
      guarded : rows_of d ≡ together (outer_rows qs s heads) ∷ rows (knowing context) context.home.now (with_bindings sc (outer_bindings s heads)) (s + outer_span heads) one_value guard
      guarded =
          three.rows ∙ ap (λ l. l ++ rows_at context c one_value (tree (out-Clause x).guard)) headed
          ∙ ap (λ t. together (outer_rows qs s heads) ∷ rows_at context c one_value t) (sym (ap (λ y. y.guard) (clause-is x)))
          ∙ ap (λ z. together (outer_rows qs s heads) ∷ rows (knowing context) context.home.now z c.next one_value guard) inside
          ∙ ap (λ n. together (outer_rows qs s heads) ∷ rows (knowing context) context.home.now (with_bindings sc (outer_bindings s heads)) n one_value guard) clause_slot

      pub clause_within : 1 ≤ length d.members.items
      clause_within = let e : length d.members.items ≡ length (rows_of d) = sym (mapped_length constraint d.members.items) in let f = ap length guarded in omega arith

      pub clause_end : d.next ≡ clause_slots s heads guard
      clause_end = three.next ∙ ap (λ n. n + span one_value (tree (out-Clause x).guard)) clause_slot ∙ ap (λ t. s + outer_span heads + span one_value t) (sym (ap (λ y. y.guard) (clause-is x)))

      pub clause_rows_are : Gathers (λ rs. together rs ∷ []) 1 d e → together (rows_of e) ≡ clause_constraint (knowing context) context.home.now sc qs s heads guard
      clause_rows_are four = ap together (four.rows ∙ ap (λ l. take 1 l ++ together (drop 1 l) ∷ []) guarded)

      -- and that the guard is true, as the head of a clause says
      module _ (f : Generator) (slot : ℕ) (four : Gathers (λ rs. together rs ∷ []) 1 d e) (at : slot ≡ c.next) (five : Adds e f 0 (bound slot just_true)) where
        headed_rows : rows_of f ≡ head_rows (knowing context) context.home.now sc qs s heads guard
        headed_rows =
            five.rows
            ∙ ap (λ l. l ++ bound slot just_true) (four.rows ∙ ap (λ l. take 1 l ++ together (drop 1 l) ∷ []) guarded)
            ∙ ap (λ n. together (outer_rows qs s heads) ∷ together (rows (knowing context) context.home.now (with_bindings sc (outer_bindings s heads)) (s + outer_span heads) one_value guard) ∷ bound n just_true) (at ∙ clause_slot)

        headed_end : f.next ≡ clause_slots s heads guard
        headed_end = let same : e.next + 0 ≡ e.next = omega arith in five.next ∙ same ∙ four.next ∙ clause_end

        headed_variables : f.variables ≡ a.variables ++ outer_bindings s heads
        headed_variables = five.variables ∙ four.variables ∙ three.variables ∙ named

        headed_functions : f.functions ≡ a.functions
        headed_functions = five.functions ∙ four.functions ∙ three.functions ∙ two.functions ∙ one.functions

  pub heads_so : (a b c d e f : Generator) (qs : List ℕ) (x : Clause) (ps : List Pattern) (slot : ℕ) → a.members.items ≡ [] → ps ≡ (out-Clause x).patterns
      → Binds a b (outer_span (all_patterns ps)) (outer_rows qs a.next (all_patterns ps)) (outer_bindings a.next (all_patterns ps)) → Gathers (λ rs. together rs ∷ []) 0 b c
      → Generates context c d one_value (tree (out-Clause x).guard) → Gathers (λ rs. together rs ∷ []) 1 d e → slot ≡ c.next → Adds e f 0 (bound slot just_true)
      → Heads (knowing context) context.home.now a f qs (clause_parts x).patterns (clause_parts x).guard
  heads_so a b c d e f qs x ps slot empty ps_are one two three four at five =
      record {
        next = headed_end a b c d e (scope_of a) qs a.next x ps refl refl empty ps_are one two three f slot four at five;
        rows = headed_rows a b c d e (scope_of a) qs a.next x ps refl refl empty ps_are one two three f slot four at five;
        variables = headed_variables a b c d e (scope_of a) qs a.next x ps refl refl empty ps_are one two three f slot four at five;
        functions = headed_functions a b c d e (scope_of a) qs a.next x ps refl refl empty ps_are one two three f slot four at five;
      }

-- the same told of the scope that was moved out, and of the first slot
module _ (P : Knowledge) (home : Atom) (a f : Generator) (sc : Scope) (qs : List ℕ) (s : ℕ) (ps : m.Patterns) (g : m.Tree) (scoped : scope_of a ≡ sc) (begins : a.next ≡ s) (made : Heads P home a f qs ps g) where
  pub told_rows : rows_of f ≡ head_rows P home sc qs s ps g
  told_rows = made.rows ∙ ap₂ (λ z n. head_rows P home z qs n ps g) scoped begins

  pub told_end : f.next ≡ clause_slots s ps g
  told_end = made.next ∙ ap (λ n. clause_slots n ps g) begins

  pub told_variables : f.variables ≡ sc.variables ++ outer_bindings s ps
  told_variables = made.variables ∙ ap₂ (λ z n. z.variables ++ outer_bindings n ps) scoped begins

  pub told_functions : f.functions ≡ sc.functions
  told_functions = made.functions ∙ ap (λ z. z.functions) scoped
