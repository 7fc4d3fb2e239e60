-- The constraint of a definition, and that of a clause by itself.
use Rattle.std.specs.Prelude.{ℕ, ◌+◌, List, [], ◌∷◌, length, map}
use Rattle.type_kinds.specs.declared.atom.Atom.{Atom}
use Rattle.core_ast.specs.declared.syntax.Clause.{Clause}
use Rattle.core_ast.specs.declared.syntax.Expr.{Expr}
use Rattle.core_ast.specs.declared.syntax.FunDefOf.{FunDefOf}
use Rattle.core_ast.specs.declared.syntax.VarName.{VarName}
use Rattle.core_ast.specs.Model as m
use Rattle.core_ast.specs.Tree.{clause_parts, tree}
use Rattle.core_scope.specs.Asks.{one_value}
use Rattle.cons_tree.specs.Constraints.{Cons, only}
use Rattle.cons_tree.specs.Named.{just_true}
use Rattle.cons_tree.specs.declared.parts.Part.{Part}
use Rattle.cons_tree.specs.declared.parts.Part.TheVariants.{Bound}
use Rattle.cons_gen_rows.specs.Passes.{Knowledge}
use Rattle.cons_gen_rows.specs.Patterns.{outer_span, outer_bindings, outer_rows}
use Rattle.cons_gen_rows.specs.Scopes.{Scope, bindings, with_bindings}
use Rattle.cons_gen_rows.specs.Words.{Rows, together}
use Rattle.cons_gen.specs.Rows.{rows}
use Rattle.cons_gen.specs.Spans.{span}
use Rattle.cons_gen.specs.declared.heads.InScope.{InScope}
use Rattle.cons_gen.specs.declared.making.Scope as made

-- ---- a definition: its parameters have the first slots, and its result the next one

abbrev pub parameter_scope : List VarName → Scope
parameter_scope xs = record { variables = bindings xs 0; functions = [] }

abbrev pub definition_constraint : Knowledge → Atom → List VarName → m.Tree → Cons Part
definition_constraint P home xs t = together (rows P home (parameter_scope xs) (length xs) one_value t)

abbrev pub definition_slots : List VarName → m.Tree → ℕ
definition_slots xs t = length xs + span one_value t

-- that of a definition in the tree
abbrev pub constraint_of_definition : Knowledge → Atom → FunDefOf Expr → Cons Part
constraint_of_definition P home d = definition_constraint P home d.fun.params (tree d.fun.body)

-- what a clause sees that is taken by itself, and what one sees who walks
abbrev pub seen : made.Scope → Scope
seen scope = record { variables = scope.vars; functions = scope.locals }

abbrev pub seen_in : InScope → Scope
seen_in scope = record { variables = scope.variables; functions = scope.functions }

-- ---- a clause, for slots from s on: its patterns, at the slots qs of what is matched, and then its guard

abbrev pub clause_constraint : Knowledge → Atom → Scope → List ℕ → ℕ → m.Patterns → m.Tree → Cons Part
clause_constraint P home sc qs s ps g =
    together
    (together (outer_rows qs s ps)
    ∷ together (rows P home (with_bindings sc (outer_bindings s ps)) (s + outer_span ps) one_value g)
    ∷ [])

-- that of a clause in the tree, in what it sees
abbrev pub constraint_of_clause : Knowledge → Atom → made.Scope → Clause → Cons Part
constraint_of_clause P home scope c =
    clause_constraint P home (seen scope) scope.args scope.slots (clause_parts c).patterns (clause_parts c).guard

abbrev pub clause_result : ℕ → m.Patterns → ℕ
clause_result s ps = s + outer_span ps

-- the slots of the clause's variables, in the order of the text
abbrev pub clause_params : ℕ → m.Patterns → List ℕ
clause_params s ps = map (λ b. b.1) (outer_bindings s ps)

abbrev pub clause_slots : ℕ → m.Patterns → m.Tree → ℕ
clause_slots s ps g = s + outer_span ps + span one_value g

-- the head of a clause: its patterns, its guard, and that the guard is true
abbrev pub head_rows : Knowledge → Atom → Scope → List ℕ → ℕ → m.Patterns → m.Tree → Rows
head_rows P home sc qs s ps g =
    together (outer_rows qs s ps)
    ∷ together (rows P home (with_bindings sc (outer_bindings s ps)) (s + outer_span ps) one_value g)
    ∷ only (Bound (clause_result s ps) just_true)
    ∷ []

-- that of a clause in the tree, in what one sees who walks
abbrev pub rows_of_head : Knowledge → Atom → InScope → List ℕ → ℕ → Clause → Rows
rows_of_head P home scope qs s c = head_rows P home (seen_in scope) qs s (clause_parts c).patterns (clause_parts c).guard
