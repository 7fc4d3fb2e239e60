-- What a tree looks like that some text spells, whose nodes are at most so deep.
use Rattle.std.specs.Prelude.{ℕ, ◌+◌, ◌≤◌, ◌<◌, ◌≡◌, List, [], ◌∷◌, Option, Some, None, false, unsigned_abs, ⊤}
use Rattle.type_kinds.specs.declared.digits.TheConstants.{MAGNITUDE_LIMIT}
use Rattle.core_ast.specs.declared.syntax.Note.{Note}
use Rattle.core_ast.specs.declared.syntax.VarName.{VarName}
use Rattle.core_ast.specs.declared.syntax.FunName.{FunName}
use Rattle.core_ast.specs.declared.syntax.Literal.{Literal}
use Rattle.core_ast.specs.declared.syntax.Literal.TheVariants as l
use Rattle.core_ast.specs.Model as m
use Rattle.core_scan.specs.Spells.{IsName, IsFloat, is_variable_start}
use Rattle.core_parse_grammar.specs.Build.{no_note, is_chain}

-- A line is from 1 to 2^31 - 1.
abbrev pub LineFits : Option ℕ → Type 0
LineFits None = ⊤
LineFits (Some n) = (0 < n) × (n < 2147483648)

abbrev pub NoteFits : Note → Type 0
NoteFits n = LineFits n.line

abbrev pub LiteralFits : Literal → Type 0
LiteralFits (l.Int n) = unsigned_abs n < MAGNITUDE_LIMIT
LiteralFits (l.Float s) = IsFloat s
LiteralFits (l.Atom x) = ⊤
LiteralFits l.Nil = ⊤

abbrev pub NameFits : FunName → Type 0
NameFits f = f.arity ≤ 255

abbrev pub NamesFit : List FunName → Type 0
NamesFit [] = ⊤
NamesFit (f ∷ fs) = NameFits f × NamesFit fs

abbrev pub VariableFits : VarName → Type 0
VariableFits x = IsName is_variable_start x.name × NoteFits x.note

abbrev pub VariablesFit : List VarName → Type 0
VariablesFit [] = ⊤
VariablesFit (x ∷ xs) = VariableFits x × VariablesFit xs

abbrev pub SomeTrees : m.Trees → Type 0
SomeTrees m.no_tree = ⊥
SomeTrees (m.and_tree t ts) = ⊤

abbrev pub SomePatterns : m.Patterns → Type 0
SomePatterns m.no_pattern = ⊥
SomePatterns (m.and_pattern p ps) = ⊤

abbrev pub SomeSteps : m.Steps → Type 0
SomeSteps m.no_step = ⊥
SomeSteps ss = ⊤

abbrev pub SomeClauses : m.Clauses → Type 0
SomeClauses m.no_clause = ⊥
SomeClauses (m.and_clause k ps g t cs) = ⊤

module _ (deepest : ℕ) where
  -- The node is at depth d, and what is inside it deeper. A chain's own note is empty, it has a step, and
  -- what comes last is no chain; a list has an element, and a `case` a clause.
  abbrev mutual
    pub Fits : ℕ → m.Tree → Type 0
    Fits d (m.variable k x) = (d ≤ deepest) × NoteFits k.note × IsName is_variable_start x
    Fits d (m.local k f) = (d ≤ deepest) × NoteFits k.note × NameFits f
    Fits d (m.external k x f) = (d ≤ deepest) × NoteFits k.note × NameFits f
    Fits d (m.literal k x) = (d ≤ deepest) × NoteFits k.note × LiteralFits x
    Fits d (m.function k xs t) = (d ≤ deepest) × NoteFits k.note × VariablesFit xs × Fits (d + 1) t
    Fits d (m.listed k ts t) = (d ≤ deepest) × NoteFits k.note × SomeTrees ts × AllFit (d + 1) ts × Fits (d + 1) t
    Fits d (m.tuple k ts) = (d ≤ deepest) × NoteFits k.note × AllFit (d + 1) ts
    Fits d (m.new_map k ps) = (d ≤ deepest) × NoteFits k.note × PairsFit (d + 1) ps
    Fits d (m.updated_map k ps t) = (d ≤ deepest) × NoteFits k.note × PairsFit (d + 1) ps × Fits (d + 1) t
    Fits d (m.binary k ss) = (d ≤ deepest) × NoteFits k.note × SegmentsFit (d + 1) ss
    Fits d (m.values k ts) = (d ≤ deepest) × NoteFits k.note × AllFit (d + 1) ts
    Fits d (m.chain k ss t) = (d ≤ deepest) × (k.note ≡ no_note) × SomeSteps ss × StepsFit (d + 1) ss × (is_chain t ≡ false) × Fits d t
    Fits d (m.case k t cs) = (d ≤ deepest) × NoteFits k.note × SomeClauses cs × Fits (d + 1) t × ClausesFit (d + 1) cs
    Fits d (m.letrec k ds t) = (d ≤ deepest) × NoteFits k.note × DefsFit (d + 1) ds × Fits (d + 1) t
    Fits d (m.apply k t ts) = (d ≤ deepest) × NoteFits k.note × Fits (d + 1) t × AllFit (d + 1) ts
    Fits d (m.call k t u ts) = (d ≤ deepest) × NoteFits k.note × Fits (d + 1) t × Fits (d + 1) u × AllFit (d + 1) ts
    Fits d (m.primop k x ts) = (d ≤ deepest) × NoteFits k.note × AllFit (d + 1) ts
    Fits d (m.try k t xs u ys w) = (d ≤ deepest) × NoteFits k.note × Fits (d + 1) t × VariablesFit xs × Fits (d + 1) u × VariablesFit ys × Fits (d + 1) w
    Fits d (m.receive k cs t u) = (d ≤ deepest) × NoteFits k.note × ClausesFit (d + 1) cs × Fits (d + 1) t × Fits (d + 1) u
    Fits d (m.catch k t) = (d ≤ deepest) × NoteFits k.note × Fits (d + 1) t

    pub AllFit : ℕ → m.Trees → Type 0
    AllFit d m.no_tree = ⊤
    AllFit d (m.and_tree t ts) = Fits d t × AllFit d ts

    pub PairsFit : ℕ → m.Pairs → Type 0
    PairsFit d m.no_pair = ⊤
    PairsFit d (m.and_pair e t u ps) = Fits d t × Fits d u × PairsFit d ps

    pub SegmentsFit : ℕ → m.Segments → Type 0
    SegmentsFit d m.no_segment = ⊤
    SegmentsFit d (m.and_segment t ts ss) = Fits d t × AllFit d ts × SegmentsFit d ss

    pub StepsFit : ℕ → m.Steps → Type 0
    StepsFit d m.no_step = ⊤
    StepsFit d (m.and_let k xs t ss) = NoteFits k.note × VariablesFit xs × Fits d t × StepsFit d ss
    StepsFit d (m.and_do k t ss) = NoteFits k.note × Fits d t × StepsFit d ss

    pub ClausesFit : ℕ → m.Clauses → Type 0
    ClausesFit d m.no_clause = ⊤
    ClausesFit d (m.and_clause k ps g t cs) = NoteFits k.note × PatternsFit d ps × Fits d g × Fits d t × ClausesFit d cs

    pub DefsFit : ℕ → m.Defs → Type 0
    DefsFit d m.no_def = ⊤
    DefsFit d (m.and_def f k xs t ds) = NameFits f × NoteFits k.note × VariablesFit xs × Fits d t × DefsFit d ds

    pub PatternFits : ℕ → m.Pattern → Type 0
    PatternFits d (m.binds k x) = (d ≤ deepest) × NoteFits k.note × IsName is_variable_start x
    PatternFits d (m.equals k x) = (d ≤ deepest) × NoteFits k.note × LiteralFits x
    PatternFits d (m.list_of k ps p) = (d ≤ deepest) × NoteFits k.note × SomePatterns ps × PatternsFit (d + 1) ps × PatternFits (d + 1) p
    PatternFits d (m.tuple_of k ps) = (d ≤ deepest) × NoteFits k.note × PatternsFit (d + 1) ps
    PatternFits d (m.map_of k ps) = (d ≤ deepest) × NoteFits k.note × PatPairsFit (d + 1) ps
    PatternFits d (m.binary_of k ss) = (d ≤ deepest) × NoteFits k.note × PatSegmentsFit (d + 1) ss
    PatternFits d (m.alias k x p) = (d ≤ deepest) × NoteFits k.note × VariableFits x × PatternFits (d + 1) p

    pub PatternsFit : ℕ → m.Patterns → Type 0
    PatternsFit d m.no_pattern = ⊤
    PatternsFit d (m.and_pattern p ps) = PatternFits d p × PatternsFit d ps

    pub PatPairsFit : ℕ → m.PatPairs → Type 0
    PatPairsFit d m.no_pat_pair = ⊤
    PatPairsFit d (m.and_pat_pair t p ps) = Fits d t × PatternFits d p × PatPairsFit d ps

    pub PatSegmentsFit : ℕ → m.PatSegments → Type 0
    PatSegmentsFit d m.no_pat_segment = ⊤
    PatSegmentsFit d (m.and_pat_segment p ts ss) = PatternFits d p × AllFit d ts × PatSegmentsFit d ss

  pub record ModuleFits (x : m.Module) : Type 0 where
    pub note : NoteFits x.note
    pub exports : NamesFit x.exports
    pub defs : DefsFit 1 x.defs
