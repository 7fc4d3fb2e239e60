-- What tokens begin, and where tokens that spell no module are at fault: what `parse` promises.
use Rattle.std.specs.Prelude.{◌⊎◌, ◌≡◌, ℕ, ◌≤◌, List, [], ◌∷◌, ◌++◌, IsTrue}
use Rattle.type_kinds.specs.declared.place.Place.{Place}
use Rattle.core_scan.specs.declared.token.Token.{Token}
use Rattle.core_ast.specs.Model as m
use Rattle.core_scan.specs.declared.sort.Sort.{Sort}
use Rattle.core_parse_grammar.specs.declared.leaves.TheConstants.{DEEPEST}
use Rattle.core_parse_grammar.specs.declared.fault.ParseFault.{ParseFault}
use Rattle.core_parse_grammar.specs.declared.fault.ParseFault.TheVariants as f
use Rattle.core_parse_grammar.specs.declared.fault.PartFault.{PartFault}
use Rattle.core_parse_grammar.specs.declared.fault.PartFault.TheVariants as g
use Rattle.core_scan.specs.Sorts.{sort, fits}
use Rattle.core_parse_grammar.specs.Grammar.{Part, a, first, the, Nonterminal, SaidBy, Said, Way, ways, annotated_module}
use Rattle.core_parse_grammar.specs.Spells.{Reads, SpellsTo, SpellsModule}

-- Beginnings whose nodes are at most so deep.
module _ (deepest : ℕ) where
  mutual
    -- A beginning of one token is nothing or that token, and a beginning of a nonterminal is one of a way.
    pub data Prefixes : Part → List Token → Type 0 where
      nothing : {p : Part} → Prefixes p []
      token_ : {c : Sort} {t : Token} → IsTrue (fits c (sort t)) → Prefixes (a c) (t ∷ [])
      node_ : {d : ℕ} {c : Sort} {t : Token} → IsTrue (fits c (sort t)) → d ≤ deepest → Prefixes (first d c) (t ∷ [])
      part_ : {n : Nonterminal} {ts : List Token} → PrefixesOne n (ways n) ts → Prefixes (the n) ts

    pub data PrefixesOne : (n : Nonterminal) → List (Way (Said n)) → List Token → Type 0 where
      here_ : {n : Nonterminal} {w : Way (Said n)} {ws : List (Way (Said n))} {ts : List Token} → PrefixesAll w.parts ts → PrefixesOne n (w ∷ ws) ts
      later_ : {n : Nonterminal} {w : Way (Said n)} {ws : List (Way (Said n))} {ts : List Token} → PrefixesOne n ws ts → PrefixesOne n (w ∷ ws) ts

    -- A beginning of parts is none, some or all of the first of them whole, and then a beginning of the
    -- next.
    pub data PrefixesAll : List Part → List Token → Type 0 where
      none_ : {ps : List Part} → PrefixesAll ps []
      inside : {p : Part} {ps : List Part} {ts : List Token} → Prefixes p ts → PrefixesAll (p ∷ ps) ts
      whole : {p : Part} {ps : List Part} {x : SaidBy p} {ts us : List Token} → Reads deepest p ts x us → PrefixesAll ps us → PrefixesAll (p ∷ ps) ts

-- Some module's tokens begin so, and their nodes are at most so deep.
abbrev pub BeginsTo : ℕ → List Token → Type 0
BeginsTo deepest ts = Prefixes deepest (the annotated_module) ts

-- Some module's tokens begin so.
abbrev pub Begins : List Token → Type 0
Begins ts = (deepest : ℕ) × BeginsTo deepest ts

-- How deep nodes may stand in one another.
abbrev pub depth_limit : ℕ
depth_limit = DEEPEST

-- The token at the place is the first up to which no module's tokens go, and no node before it is too
-- deep.
pub record FailsAt (ts : List Token) (place : Place) : Type 0 where
  pub before : List Token
  pub at : Token
  pub after : List Token
  pub split : ts ≡ before ++ at ∷ after
  pub place_is : place ≡ at.place
  pub begun : BeginsTo depth_limit before
  pub first_bad : Begins (before ++ at ∷ []) → ⊥

-- All tokens begin a module, without a node too deep, and spell none.
pub record TooShort (ts : List Token) : Type 0 where
  pub begun : BeginsTo depth_limit ts
  pub none : (x : m.Module) → SpellsModule ts x → ⊥

-- A node too deep begins at the token at the place, and none before it; some module's tokens go up to it.
pub record SinksAt (ts : List Token) (place : Place) : Type 0 where
  pub before : List Token
  pub at : Token
  pub after : List Token
  pub split : ts ≡ before ++ at ∷ after
  pub place_is : place ≡ at.place
  pub begun : BeginsTo depth_limit before
  pub goes_on : Begins (before ++ at ∷ [])
  pub too_deep : BeginsTo depth_limit (before ++ at ∷ []) → ⊥

-- The tokens spell the module, without a node too deep, and no other.
pub record IsModule (ts : List Token) (made : m.Module) : Type 0 where
  pub spelled : SpellsTo depth_limit ts made
  pub alone : (x : m.Module) → SpellsModule ts x → x ≡ made

-- What each refusal says of the tokens and of the end of the text.
abbrev pub Refused : List Token → Place → ParseFault → Type 0
Refused ts end (f.Syntax place) = FailsAt ts place ⊎ ((place ≡ end) × TooShort ts)
Refused ts end (f.TooDeep place) = SinksAt ts place
Refused ts end f.Memory = Unit {0}

-- A part's fault, in a text that ends there.
abbrev pub in_text : Place → PartFault → ParseFault
in_text end (g.Syntax place) = f.Syntax place
in_text end g.End = f.Syntax end
in_text end (g.TooDeep place) = f.TooDeep place
in_text end g.Memory = f.Memory
