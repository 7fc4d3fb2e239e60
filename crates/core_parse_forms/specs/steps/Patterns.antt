-- Patterns that begin with a bracket, and what comes behind a variable there.
use Rattle.std.specs.Prelude.{◌≡◌, ℕ, ◌+◌, List, [], ◌∷◌, Bool, true, false}
use Rattle.type_kinds.specs.declared.place.Place.{Place}
use Rattle.core_scan.specs.declared.token.Token.{Token}
use Rattle.core_scan.specs.declared.sort.Sort.TheVariants as s
use Rattle.core_ast.specs.declared.syntax.Mark.{Mark}
use Rattle.core_ast.specs.declared.syntax.VarName.{VarName}
use Rattle.core_ast.specs.Model as m
use Rattle.core_ast.specs.Notes.{noted_pattern}
use Rattle.core_parse_grammar.specs.declared.fault.PartFault.{PartFault}
use Rattle.core_parse_grammar.specs.Build.{at, text, variable_name}
use Rattle.core_parse_grammar.specs.Grammar.{a, first, the, Nonterminal, annotation, pattern, bare_pattern, other_pattern}
use Rattle.core_parse_grammar.specs.Labels.{number_pattern}
use Rattle.core_parse_grammar.specs.Track.{Branch, Goes, Passes, Then, passed, itself, Guarded}
use Rattle.core_parse_grammar.specs.Faults.{Refuses}

pub record ReadsOtherPattern (d n : ℕ) (ts : List Token) (made : m.Pattern) (left : List Token) (p : ℕ) : Type 0 where
  pub says : m.Pattern
  pub passes : Passes (other_pattern d) ts says left
  pub agrees : number_pattern n says ≡ (made, p)

-- Behind a bracket at this place: a pattern in annotation brackets, or a variable in annotation brackets
-- that names a pattern.
abbrev pub in_annotation : (d : ℕ) (n : Nonterminal) → Then (pattern d) n → Branch n
in_annotation d n h = record { parts = the (bare_pattern d) ∷ the annotation ∷ h.parts; build = λ x k. h.build (noted_pattern k x) }

abbrev pub alias_in_brackets : (d : ℕ) → Place → (n : Nonterminal) → List (Then (pattern d) n) → List (Branch n)
alias_in_brackets d place n [] = []
alias_in_brackets d place n (h ∷ hs) =
    record { parts = first d s.Variable ∷ the annotation ∷ a s.Equals ∷ the (pattern (d + 1)) ∷ h.parts; build = λ t k _ p. h.build (m.alias (at place) (variable_name t.place t k) p) } ∷ alias_in_brackets d place n hs

abbrev pub in_brackets : (d : ℕ) → Place → (n : Nonterminal) → Then (pattern d) n → List (Then (pattern d) n) → List (Branch n)
in_brackets d place n h hs = in_annotation d n h ∷ alias_in_brackets d place n hs

abbrev pub closed : (d : ℕ) (n : Nonterminal) → Bool → m.Pattern → Then (pattern d) n → List (Then (pattern d) n) → List (Branch n)
closed d n true x h hs = passed (pattern d) n x hs
closed d n false x h hs = passed (pattern d) n x (h ∷ [])

-- A pattern that begins with a bracket is read, behind the bracket, in whatever part it stands. It is alone
-- where the brackets are the variable's that names it.
pub record ReadsInBrackets (d n : ℕ) (place : Place) (ts : List Token) (made : m.Pattern) (alone : Bool) (left : List Token) (p : ℕ) : Type 0 where
  pub says : m.Pattern
  pub goes : (o : Nonterminal) (h : Then (pattern d) o) (hs : List (Then (pattern d) o)) → Guarded (pattern d) o (h ∷ hs) → Goes o (in_brackets d place o h hs) (closed d o alone says h hs) ts left
  pub agrees : number_pattern n says ≡ (made, p)

abbrev pub RefusesInBrackets : ℕ → Place → List Token → PartFault → Type 0
RefusesInBrackets d place us e = (o : Nonterminal) (h i : Then (pattern d) o) (hs : List (Then (pattern d) o)) → Guarded (pattern d) o (h ∷ i ∷ hs) → (ts : List Token) → Goes o (itself o) (in_brackets d place o h (i ∷ hs)) ts us
    → Refuses o ts e

-- The same behind the variable.
abbrev pub variable_noted : (d : ℕ) → Token → (n : Nonterminal) → Then (pattern d) n → Branch n
variable_noted d t n h = record { parts = the annotation ∷ h.parts; build = λ k. h.build (noted_pattern k (m.binds (at t.place) (text t))) }

abbrev pub alias_behind : (d : ℕ) → Place → Token → (n : Nonterminal) → List (Then (pattern d) n) → List (Branch n)
alias_behind d place t n [] = []
alias_behind d place t n (h ∷ hs) =
    record { parts = the annotation ∷ a s.Equals ∷ the (pattern (d + 1)) ∷ h.parts; build = λ k _ p. h.build (m.alias (at place) (variable_name t.place t k) p) } ∷ alias_behind d place t n hs

pub record ReadsNotedVariable (d n : ℕ) (place : Place) (t : Token) (ts : List Token) (made : m.Pattern) (alone : Bool) (left : List Token) (p : ℕ) : Type 0 where
  pub says : m.Pattern
  pub goes : (o : Nonterminal) (h : Then (pattern d) o) (hs : List (Then (pattern d) o)) → Guarded (pattern d) o (h ∷ hs) → Goes o (variable_noted d t o h ∷ alias_behind d place t o hs) (closed d o alone says h hs) ts left
  pub agrees : number_pattern n says ≡ (made, p)

abbrev pub RefusesNotedVariable : ℕ → Place → Token → List Token → PartFault → Type 0
RefusesNotedVariable d place t us e = (o : Nonterminal) (h i : Then (pattern d) o) (hs : List (Then (pattern d) o)) → Guarded (pattern d) o (h ∷ i ∷ hs) → (ts : List Token)
    → Goes o (itself o) (variable_noted d t o h ∷ alias_behind d place t o (i ∷ hs)) ts us → Refuses o ts e

-- The pattern that a variable names, behind the equals sign.
pub record ReadsNamed (k : Mark) (x : VarName) (d n : ℕ) (ts : List Token) (made : m.Pattern) (left : List Token) (p : ℕ) : Type 0 where
  pub says : m.Pattern
  pub passes : Passes (pattern (d + 1)) ts says left
  pub inner : m.Pattern
  pub made_is : made ≡ m.alias k x inner
  pub agrees : number_pattern (n + 1) says ≡ (inner, p)
