-- Clauses under way.
use Rattle.std.specs.Prelude.{◌≡◌, ℕ, List, [], ◌∷◌, Bool, true, false}
use Rattle.type_kinds.specs.declared.place.Place.{Place}
use Rattle.core_scan.specs.declared.token.Token.{Token}
use Rattle.core_scan.specs.declared.sort.Sort.{Sort}
use Rattle.core_scan.specs.declared.sort.Sort.TheVariants as s
use Rattle.core_ast.specs.Model as m
use Rattle.core_ast.specs.Tree as t
use Rattle.core_ast.specs.declared.syntax.Expr.{Expr}
use Rattle.core_ast.specs.declared.syntax.Mark.{Mark}
use Rattle.core_ast.specs.declared.syntax.Note.{Note}
use Rattle.core_ast.specs.declared.syntax.Pattern.{Pattern}
use Rattle.core_ast.specs.Notes.{noted_clause, noted_pattern}
use Rattle.core_parse_grammar.specs.declared.fault.PartFault.{PartFault}
use Rattle.core_parse_grammar.specs.declared.fault.PartFault.TheVariants as fault
use Rattle.core_parse_grammar.specs.Build.{at}
use Rattle.core_parse_grammar.specs.Grammar.{Part, a, the, Action, many, annotation, expression, clauses_to, clause, pattern}
use Rattle.core_parse_grammar.specs.Labels.{number_clauses, number_patterns}
use Rattle.core_parse_grammar.specs.Track.{Branch, Goes, Passes, itself}
use Rattle.core_parse_grammar.specs.Faults.{Takes, Misses, MissesOrMemory, Refuses}
use Rattle.core_parse_grammar.specs.Readings.{ReadsAnnotation}
use Rattle.core_parse_grammar.specs.Starters.{opens_with}

-- The tokens that close clauses and definitions.
abbrev pub ends_clauses : Sort → Bool
ends_clauses s.End = true
ends_clauses s.After = true
ends_clauses _ = false

abbrev pub ends_definitions : Sort → Bool
ends_definitions s.In = true
ends_definitions s.End = true
ends_definitions _ = false

-- A clause that is read, as its parts.
abbrev pub read_clause : Mark → List Pattern → Expr → Expr → t.ClauseParts
read_clause mark patterns guard body = record { mark = mark; patterns = t.all_patterns patterns; guard = t.tree guard; body = t.tree body }

abbrev pub joined : m.Clauses → m.Clauses → m.Clauses
joined m.no_clause cs = cs
joined (m.and_clause k ps g b ds) cs = m.and_clause k ps g b (joined ds cs)

-- Clauses up to and with the closing token, behind those that are read.
pub record ReadsMoreClauses (c : Sort) (d n : ℕ) (before : m.Clauses) (ts : List Token) (made : m.Clauses) (left : List Token) (p : ℕ) : Type 0 where
  pub says : List t.ClauseParts
  pub passes : Passes (clauses_to c d) ts says left
  pub more : m.Clauses
  pub made_is : made ≡ joined before more
  pub agrees : number_clauses n (t.clauses says) ≡ (more, p)

-- What a clause still wants behind the word `when`, and the annotation of its brackets.
abbrev pub noted_end : Bool → List Part
noted_end true = the annotation ∷ []
noted_end false = []

abbrev pub clause_end : (noted : Bool) → t.ClauseParts → Action (noted_end noted) t.ClauseParts
clause_end true c = λ n. noted_clause n c
clause_end false c = c

abbrev pub behind_head : (d : ℕ) → Bool → Place → List m.Pattern → Branch (clause d)
behind_head d noted place ps = record { parts = the (expression d) ∷ a s.Arrow ∷ the (expression d) ∷ noted_end noted; build = λ g _ b. clause_end noted (record { mark = at place; patterns = t.patterns ps; guard = g; body = b }) }

-- The patterns of a clause are read, and the word `when`.
pub record ReadsHead (d n : ℕ) (ts : List Token) (made : m.Patterns) (place : Place) (noted : Bool) (left : List Token) (p : ℕ) : Type 0 where
  pub says : List m.Pattern
  pub goes : Goes (clause d) (itself (clause d)) (behind_head d noted place says ∷ []) ts left
  pub agrees : number_patterns n (t.patterns says) ≡ (made, p)

-- Patterns up to a closing bracket, and the word `when`.
pub record ReadsSeveral (d n : ℕ) (ts : List Token) (made : m.Patterns) (left : List Token) (p : ℕ) : Type 0 where
  pub says : List m.Pattern
  pub between : List Token
  pub passes : Passes (many s.Greater (the (pattern d))) ts says between
  pub then_when : Takes s.When between left
  pub agrees : number_patterns n (t.patterns says) ≡ (made, p)

pub data RefusesSeveral (d : ℕ) (ts : List Token) (e : PartFault) : Type 0 where
  in_patterns : Refuses (many s.Greater (the (pattern d))) ts e → RefusesSeveral d ts e
  no_when : (says : List m.Pattern) (between : List Token) → Passes (many s.Greater (the (pattern d))) ts says between → MissesOrMemory s.When between e → RefusesSeveral d ts e

-- Behind a pattern comes the annotation of its brackets and the word `when`, or that word alone.
abbrev pub ReadsEither : List Token → m.Pattern → Place → Place → m.Patterns → Place → Bool → List Token → Type 0
ReadsEither ts x outer inner made place true left = (made ≡ t.patterns (x ∷ [])) × (place ≡ inner) × Takes s.When ts left
ReadsEither ts x outer inner made place false left = (n : Note) × (us : List Token) × (made ≡ t.patterns (noted_pattern n x ∷ [])) × (place ≡ outer) × ReadsAnnotation ts n us × Takes s.When us left

pub data RefusesEither (ts : List Token) (e : PartFault) : Type 0 where
  neither : MissesOrMemory s.When ts e → Misses s.Noted ts e → RefusesEither ts e
  memory : e ≡ fault.Memory → RefusesEither ts e
  in_annotation : Refuses annotation ts e → opens_with s.Noted ts ≡ true → RefusesEither ts e
  no_when_behind : (n : Note) (us : List Token) → ReadsAnnotation ts n us → MissesOrMemory s.When us e → RefusesEither ts e
