-- What the walk adds behind a node's own line, and the parts of a step.
use Rattle.std.specs.Prelude.{ℕ, List, [], ◌++◌, Option}
use Rattle.core_ast.specs.declared.syntax.Expr.{Expr}
use Rattle.core_ast.specs.declared.syntax.Mark.{Mark}
use Rattle.core_ast.specs.declared.syntax.StepOf.{StepOf}
use Rattle.core_ast.specs.declared.syntax.StepOf.TheVariants.{Let, Do}
use Rattle.core_ast.specs.Model as m
use Rattle.core_lines.specs.Lines.{behind, lines, lines_of_all, lines_of_clauses, lines_of_defs, lines_of_pairs, lines_of_segments, lines_of_steps, lines_of_pattern, lines_of_patterns, lines_of_pat_pairs, lines_of_pat_segments}

-- the lines of the parts of an expression, where the innermost note around them has this line
abbrev pub below : (inner : Option ℕ) → m.Tree → List ℕ
below a (m.variable k x) = []
below a (m.local k f) = []
below a (m.external k x f) = []
below a (m.literal k l) = []
below a (m.function k xs t) = lines a t
below a (m.listed k ts t) = lines_of_all a ts ++ lines a t
below a (m.tuple k ts) = lines_of_all a ts
below a (m.new_map k ps) = lines_of_pairs a ps
below a (m.updated_map k ps t) = lines_of_pairs a ps ++ lines a t
below a (m.binary k ss) = lines_of_segments a ss
below a (m.values k ts) = lines_of_all a ts
below a (m.chain k ss t) = lines_of_steps a ss ++ lines (behind a ss) t
below a (m.case k t cs) = lines a t ++ lines_of_clauses a cs
below a (m.letrec k ds t) = lines_of_defs a ds ++ lines a t
below a (m.apply k t ts) = lines a t ++ lines_of_all a ts
below a (m.call k t u ts) = lines a t ++ lines a u ++ lines_of_all a ts
below a (m.primop k x ts) = lines_of_all a ts
below a (m.try k t xs u ys w) = lines a t ++ lines a u ++ lines a w
below a (m.receive k cs t u) = lines_of_clauses a cs ++ lines a t ++ lines a u
below a (m.catch k t) = lines a t

-- the same of a pattern
abbrev pub below_pattern : (inner : Option ℕ) → m.Pattern → List ℕ
below_pattern a (m.binds k x) = []
below_pattern a (m.equals k l) = []
below_pattern a (m.list_of k ps p) = lines_of_patterns a ps ++ lines_of_pattern a p
below_pattern a (m.tuple_of k ps) = lines_of_patterns a ps
below_pattern a (m.map_of k ps) = lines_of_pat_pairs a ps
below_pattern a (m.binary_of k ss) = lines_of_pat_segments a ss
below_pattern a (m.alias k x p) = lines_of_pattern a p

abbrev pub step_mark : StepOf Expr → Mark
step_mark (Let k xs e) = k
step_mark (Do k e) = k

abbrev pub step_expression : StepOf Expr → Expr
step_expression (Let k xs e) = e
step_expression (Do k e) = e
