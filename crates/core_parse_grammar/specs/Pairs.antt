-- Pairs of maps, and what comes behind their keys.
use Rattle.std.specs.Prelude.{◌≡◌, ℕ, List, [], ◌∷◌, Bool, true, false, Option, Some, None}
use Rattle.type_kinds.specs.declared.place.Place.{Place}
use Rattle.core_scan.specs.declared.token.Token.{Token}
use Rattle.core_scan.specs.declared.sort.Sort.{Sort}
use Rattle.core_scan.specs.declared.sort.Sort.TheVariants as s
use Rattle.core_ast.specs.declared.syntax.Expr.{Expr}
use Rattle.core_ast.specs.declared.syntax.Pattern.{Pattern}
use Rattle.core_ast.specs.Model as m
use Rattle.core_ast.specs.Tree as t
use Rattle.core_parse_grammar.specs.declared.fault.PartFault.{PartFault}
use Rattle.core_parse_grammar.specs.declared.fault.PartFault.TheVariants as f
use Rattle.core_parse_grammar.specs.Build.{MapParts}
use Rattle.core_parse_grammar.specs.Grammar.{Part, a, the, Nonterminal, Said, Action, expression, pattern, pairs, bare_pair, bare_pattern_pair}
use Rattle.core_parse_grammar.specs.Labels.{number, number_pattern, number_pairs, number_pat_pairs}
use Rattle.core_parse_grammar.specs.Track.{Goes, Passes, itself, Guarded}
use Rattle.core_parse_grammar.specs.Faults.{Refuses, Takes}
use Rattle.core_parse_grammar.specs.Readings.{ReadsExpression}

abbrev pub updated_tree : Option Expr → Option m.Tree
updated_tree None = None
updated_tree (Some e) = Some (t.tree e)

abbrev pub number_updated : ℕ → Option m.Tree → Option m.Tree × ℕ
number_updated n None = (None, n)
number_updated n (Some t) = let r = number n t in (Some r.0, r.1)

-- The signs between a key and its value: whether the pair is exact.
abbrev pub exact_sign : Sort → Option Bool
exact_sign s.Exact = Some true
exact_sign s.Assoc = Some false
exact_sign _ = None

-- A pair that is read, as its parts.
abbrev pub read_pair : Bool → Expr → Expr → t.PairParts
read_pair exact key value = record { exact = exact; key = t.tree key; value = t.tree value }

abbrev pub read_pattern_pair : Expr → Pattern → t.PatPairParts
read_pattern_pair key value = record { key = t.tree key; value = t.pattern_tree value }

-- A pair starts at once where it is the first, and else behind a comma.
abbrev pub PairStart : Bool → Sort → List Token → List Token → List Token → Type 0
PairStart true q ts rest start = start ≡ ts
PairStart false q ts rest start = (q ≡ s.Comma) × (start ≡ rest)

abbrev pub NoPairStart : Bool → Sort → Place → PartFault → Type 0
NoPairStart false q place (f.Syntax p) = (q ≡ s.Comma → ⊥) × (p ≡ place)
NoPairStart _ q place e = ⊥

-- The pairs of a map, whose labels begin at n, and the map after the bar.
pub record ReadsMapPairs (d n : ℕ) (ts : List Token) (made : m.Pairs) (updated : Option m.Tree) (left : List Token) (p : ℕ) : Type 0 where
  pub says : MapParts
  pub passes : Passes (pairs d) ts says left
  pub between : ℕ
  pub pairs_are : number_pairs n (t.pairs says.pairs) ≡ (made, between)
  pub updated_is : number_updated between says.updated ≡ (updated, p)

-- What comes behind the bar: the map that is updated, and the token that closes the pairs.
pub record ReadsUpdated (d n : ℕ) (ts : List Token) (updated : Option m.Tree) (left : List Token) (p : ℕ) : Type 0 where
  pub made : m.Tree
  pub behind : List Token
  pub made_is : updated ≡ Some made
  pub reads : ReadsExpression d n ts made behind p
  pub closes : Takes s.CloseMap behind left

abbrev pub RefusesUpdated : ℕ → List Token → PartFault → Type 0
RefusesUpdated d us e = (o : Nonterminal) (f : m.Tree → Action (a s.CloseMap ∷ []) (Said o)) (ts : List Token) → Goes o (itself o) (record { parts = the (expression d) ∷ a s.CloseMap ∷ []; build = f } ∷ []) ts us
    → Refuses o ts e

pub record ReadsBarePair (d n : ℕ) (ts : List Token) (made : t.PairParts) (left : List Token) (p : ℕ) : Type 0 where
  pub says : t.PairParts
  pub passes : Passes (bare_pair d) ts says left
  pub agrees : number_pairs n (t.pairs (says ∷ [])) ≡ (t.pairs (made ∷ []), p)

pub record ReadsBarePatternPair (d n : ℕ) (ts : List Token) (made : t.PatPairParts) (left : List Token) (p : ℕ) : Type 0 where
  pub says : t.PatPairParts
  pub passes : Passes (bare_pattern_pair d) ts says left
  pub agrees : number_pat_pairs n (t.pat_pairs (says ∷ [])) ≡ (t.pat_pairs (made ∷ []), p)

-- What comes behind a key: an arrow or an equals sign, and the value; p follows the value's last label.
pub record ReadsValue (d n : ℕ) (ts : List Token) (exact : Bool) (made : m.Tree) (left : List Token) (p : ℕ) : Type 0 where
  pub says : m.Tree
  pub goes : (o : Nonterminal) (qs : List Part) (f : Bool → m.Tree → Action qs (Said o)) → Guarded (expression d) o (record { parts = qs; build = f exact } ∷ [])
      → Goes o (record { parts = a s.Assoc ∷ the (expression d) ∷ qs; build = λ _. f false } ∷ record { parts = a s.Exact ∷ the (expression d) ∷ qs; build = λ _. f true } ∷ [])
      (record { parts = qs; build = f exact says } ∷ []) ts left
  pub agrees : number n says ≡ (made, p)

abbrev pub RefusesValue : ℕ → List Token → PartFault → Type 0
RefusesValue d us e = (o : Nonterminal) (qs : List Part) (f : Bool → m.Tree → Action qs (Said o)) → ((exact : Bool) → Guarded (expression d) o (record { parts = qs; build = f exact } ∷ [])) → (ts : List Token)
    → Goes o (itself o) (record { parts = a s.Assoc ∷ the (expression d) ∷ qs; build = λ _. f false } ∷ record { parts = a s.Exact ∷ the (expression d) ∷ qs; build = λ _. f true } ∷ []) ts us → Refuses o ts e

pub record ReadsPatternValue (d n : ℕ) (ts : List Token) (made : m.Pattern) (left : List Token) (p : ℕ) : Type 0 where
  pub says : m.Pattern
  pub goes : (o : Nonterminal) (qs : List Part) (f : m.Pattern → Action qs (Said o)) → Guarded (pattern d) o (record { parts = qs; build = f } ∷ [])
      → Goes o (record { parts = a s.Exact ∷ the (pattern d) ∷ qs; build = λ _. f } ∷ []) (record { parts = qs; build = f says } ∷ []) ts left
  pub agrees : number_pattern n says ≡ (made, p)

abbrev pub RefusesPatternValue : ℕ → List Token → PartFault → Type 0
RefusesPatternValue d us e = (o : Nonterminal) (qs : List Part) (f : m.Pattern → Action qs (Said o)) → Guarded (pattern d) o (record { parts = qs; build = f } ∷ []) → (ts : List Token)
    → Goes o (itself o) (record { parts = a s.Exact ∷ the (pattern d) ∷ qs; build = λ _. f } ∷ []) ts us → Refuses o ts e

-- The pair of this key, which is read behind the key.
pub record ReadsValueOf (d n : ℕ) (key : m.Tree) (ts : List Token) (made : t.PairParts) (left : List Token) (p : ℕ) : Type 0 where
  pub value : ReadsValue d n ts made.exact made.value left p
  pub key_is : made.key ≡ key

pub record ReadsPatternValueOf (d n : ℕ) (key : m.Tree) (ts : List Token) (made : t.PatPairParts) (left : List Token) (p : ℕ) : Type 0 where
  pub value : ReadsPatternValue d n ts made.value left p
  pub key_is : made.key ≡ key
