-- What is compared of the parts of trees, one by one.
use Rattle.std.specs.Prelude.{◌≡◌, Bool, Option, Some, None, map}
use Rattle.core_ast.specs.declared.syntax.Expr.{Expr}
use Rattle.core_ast.specs.declared.syntax.TryOf.{TryOf}
use Rattle.core_ast.specs.declared.syntax.FunDefOf.{FunDefOf}
use Rattle.core_ast.specs.declared.syntax.StepOf.{StepOf}
use Rattle.core_ast.specs.declared.syntax.StepOf.TheVariants.{Let, Do}
use Rattle.core_ast.specs.Model as m
use Rattle.core_ast.specs.Tree.{tree, ClauseParts, PairParts, PatPairParts, SegmentParts, PatSegmentParts}
use Rattle.core_ast.specs.Compared.{compared_mark, compared_variable, compared, compared_all, compared_pattern, compared_patterns}

-- What is compared of the parts of a list's item.
abbrev pub compared_pair : Bool → PairParts → PairParts
compared_pair places p = record { exact = p.exact; key = compared places p.key; value = compared places p.value }

abbrev pub compared_segment : Bool → SegmentParts → SegmentParts
compared_segment places s = record { value = compared places s.value; args = compared_all places s.args }

abbrev pub compared_step : Bool → StepOf m.Tree → StepOf m.Tree
compared_step places (Let k xs t) = Let (compared_mark places k) (map (compared_variable places) xs) (compared places t)
compared_step places (Do k t) = Do (compared_mark places k) (compared places t)

abbrev pub compared_clause : Bool → ClauseParts → ClauseParts
compared_clause places c = record { mark = compared_mark places c.mark; patterns = compared_patterns places c.patterns; guard = compared places c.guard; body = compared places c.body }

abbrev pub compared_def : Bool → FunDefOf m.Tree → FunDefOf m.Tree
compared_def places d = record { name = d.name; mark = compared_mark places d.mark; fun = record { params = map (compared_variable places) d.fun.params; body = compared places d.fun.body } }

abbrev pub compared_pat_pair : Bool → PatPairParts → PatPairParts
compared_pat_pair places p = record { key = compared places p.key; value = compared_pattern places p.value }

abbrev pub compared_pat_segment : Bool → PatSegmentParts → PatSegmentParts
compared_pat_segment places s = record { value = compared_pattern places s.value; args = compared_all places s.args }

-- The parts of two `try`s, and the maps that two maps update, are the same.
abbrev pub SameTry : Bool → TryOf Expr → TryOf Expr → Type 0
SameTry places x y = (compared places (tree x.arg) ≡ compared places (tree y.arg)) × (compared places (tree x.body) ≡ compared places (tree y.body)) × (compared places (tree x.handler) ≡ compared places (tree y.handler))
    × (map (compared_variable places) x.vars ≡ map (compared_variable places) y.vars) × (map (compared_variable places) x.catch_vars ≡ map (compared_variable places) y.catch_vars)

abbrev pub SameUpdated : Bool → Option Expr → Option Expr → Type 0
SameUpdated places (Some x) (Some y) = compared places (tree x) ≡ compared places (tree y)
SameUpdated places None None = Unit {0}
SameUpdated places x y = ⊥

-- An expression that is no variable, name, literal, tuple, value list or binary; and one that is no fun,
-- list, map, application, primitive operation or `catch` either.
abbrev pub IsComposed : m.Tree → Type 0
IsComposed (m.variable k x) = ⊥
IsComposed (m.local k x) = ⊥
IsComposed (m.external k x f) = ⊥
IsComposed (m.literal k x) = ⊥
IsComposed (m.tuple k ts) = ⊥
IsComposed (m.values k ts) = ⊥
IsComposed (m.binary k ss) = ⊥
IsComposed t = Unit {0}

abbrev pub IsControl : m.Tree → Type 0
IsControl (m.chain k ss t) = Unit {0}
IsControl (m.case k t cs) = Unit {0}
IsControl (m.letrec k ds t) = Unit {0}
IsControl (m.call k t u ts) = Unit {0}
IsControl (m.try k t xs u ys w) = Unit {0}
IsControl (m.receive k cs t u) = Unit {0}
IsControl t = ⊥
