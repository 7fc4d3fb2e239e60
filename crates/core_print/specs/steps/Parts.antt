-- The words of the parts that the printer writes one by one.
use Rattle.std.specs.Prelude.{Option, Some, None, List, ◌∷◌, true, if◌then◌else◌, codes}
use Rattle.type_kinds.specs.declared.atom.Atom.{Atom}
use Rattle.core_ast.specs.declared.syntax.FunName.{FunName}
use Rattle.core_ast.specs.declared.syntax.Expr.{Expr}
use Rattle.core_ast.specs.declared.syntax.TryOf.{TryOf}
use Rattle.core_ast.specs.declared.syntax.FunDefOf.{FunDefOf}
use Rattle.core_ast.specs.declared.syntax.StepOf.{StepOf}
use Rattle.core_ast.specs.declared.syntax.StepOf.TheVariants.{Let, Do}
use Rattle.core_ast.specs.Model as m
use Rattle.core_ast.specs.Tree.{tree, ClauseParts, PairParts, SegmentParts, PatPairParts, PatSegmentParts}
use Rattle.core_print.specs.Words.{reserved, symbol, atom}
use Rattle.core_print.specs.Canonical.{Words, expression, pattern, expressions, variables, patterns, opened, closed, exports, function_name}

-- What stands between the word `module` and the definitions.
abbrev pub header : Atom → List FunName → Words
header name fs rest = atom name ∷ symbol (codes "[") ∷ exports true fs (symbol (codes "]") ∷ reserved (codes "attributes") ∷ symbol (codes "[") ∷ symbol (codes "]") ∷ rest)

-- The map after the bar, where there is one, and what closes the map.
abbrev pub map_end : Option Expr → Words
map_end None rest = symbol (codes "}~") ∷ rest
map_end (Some e) rest = symbol (codes "|") ∷ expression (tree e) (symbol (codes "}~") ∷ rest)

abbrev pub try_words : TryOf Expr → Words
try_words x rest =
    reserved (codes "try") ∷ expression (tree x.arg)
    (reserved (codes "of") ∷ symbol (codes "<") ∷ variables true x.vars (symbol (codes ">") ∷ symbol (codes "->") ∷ expression (tree x.body)
    (reserved (codes "catch") ∷ symbol (codes "<") ∷ variables true x.catch_vars (symbol (codes ">") ∷ symbol (codes "->") ∷ expression (tree x.handler) rest))))

abbrev pub pair_words : PairParts → Words
pair_words p rest = expression p.key (symbol (if p.exact then codes ":=" else codes "=>") ∷ expression p.value rest)

abbrev pub segment_words : SegmentParts → Words
segment_words s rest = symbol (codes "#<") ∷ expression s.value (symbol (codes ">") ∷ symbol (codes "(") ∷ expressions true s.args (symbol (codes ")") ∷ rest))

abbrev pub pat_pair_words : PatPairParts → Words
pat_pair_words p rest = expression p.key (symbol (codes ":=") ∷ pattern p.value rest)

abbrev pub pat_segment_words : PatSegmentParts → Words
pat_segment_words s rest = symbol (codes "#<") ∷ pattern s.value (symbol (codes ">") ∷ symbol (codes "(") ∷ expressions true s.args (symbol (codes ")") ∷ rest))

abbrev pub clause_words : ClauseParts → Words
clause_words c rest = opened c.mark.note (symbol (codes "<") ∷ patterns true c.patterns (symbol (codes ">") ∷ reserved (codes "when") ∷ expression c.guard (symbol (codes "->") ∷ expression c.body (closed c.mark.note rest))))

abbrev pub definition_words : FunDefOf m.Tree → Words
definition_words d rest =
    function_name d.name (symbol (codes "=") ∷ opened d.mark.note (reserved (codes "fun") ∷ symbol (codes "(")
    ∷ variables true d.fun.params (symbol (codes ")") ∷ symbol (codes "->") ∷ expression d.fun.body (closed d.mark.note rest))))

-- A step but for what closes its annotation, and what closes it.
abbrev pub step_front : StepOf m.Tree → Words
step_front (Let k xs t) rest = opened k.note (reserved (codes "let") ∷ symbol (codes "<") ∷ variables true xs (symbol (codes ">") ∷ symbol (codes "=") ∷ expression t (reserved (codes "in") ∷ rest)))
step_front (Do k t) rest = opened k.note (reserved (codes "do") ∷ expression t rest)

abbrev pub step_end : StepOf m.Tree → Words
step_end (Let k xs t) = closed k.note
step_end (Do k t) = closed k.note

-- All steps of a chain, and all that closes them, the last step first.
abbrev pub fronts : m.Steps → Words
fronts m.no_step rest = rest
fronts (m.and_let k xs t ss) rest = step_front (Let k xs t) (fronts ss rest)
fronts (m.and_do k t ss) rest = step_front (Do k t) (fronts ss rest)

abbrev pub ends : m.Steps → Words
ends m.no_step rest = rest
ends (m.and_let k xs t ss) rest = ends ss (closed k.note rest)
ends (m.and_do k t ss) rest = ends ss (closed k.note rest)
