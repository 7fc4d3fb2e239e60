-- What a function that reads a part answers.
use Rattle.std.specs.Prelude.{◌≡◌, ℕ, zero, suc, ◌+◌, nat_lt, List, [], ◌∷◌, Bool, true, false, Option, Some, None}
use Rattle.type_kinds.specs.declared.place.Place.{Place}
use Rattle.core_scan.specs.declared.token.Token.{Token}
use Rattle.core_scan.specs.declared.sort.Sort.{Sort}
use Rattle.core_scan.specs.declared.sort.Sort.TheVariants as s
use Rattle.core_scan.specs.Sorts.{sort, fits}
use Rattle.core_parse_grammar.specs.declared.leaves.TheConstants.{DEEPEST}
use Rattle.core_parse_grammar.specs.declared.fault.PartFault.{PartFault}
use Rattle.core_parse_grammar.specs.declared.fault.PartFault.TheVariants as f
use Rattle.core_parse_grammar.specs.declared.notes.Constant.{Constant}
use Rattle.core_parse_grammar.specs.declared.notes.Constant.TheVariants.{Number, Another}
use Rattle.core_parse_grammar.specs.Build.{atom_constant, text, value}
use Rattle.core_parse_grammar.specs.Grammar.{Part, a, Nonterminal}
use Rattle.core_parse_grammar.specs.Track.{Stops, Wants, Sinks, itself}

-- Lack of memory says nothing of the text.
abbrev pub Refuses : Nonterminal → List Token → PartFault → Type 0
Refuses n ts (f.Syntax place) = Stops n (itself n) ts place
Refuses n ts f.End = Wants n (itself n) ts
Refuses n ts (f.TooDeep place) = Sinks n (itself n) ts place
Refuses n ts f.Memory = Unit {0}

-- The first token, its sort and its place.
pub record Starts (ts : List Token) (t : Token) (c : Sort) (place : Place) (left : List Token) : Type 0 where
  pub are : ts ≡ t ∷ left
  pub sort_is : c ≡ sort t
  pub place_is : place ≡ t.place

-- The tokens begin with one that stands for the sort.
pub record Takes (c : Sort) (ts left : List Token) : Type 0 where
  pub first : Token
  pub are : ts ≡ first ∷ left
  pub fits_it : fits c (sort first) ≡ true

-- The tokens begin with another one.
pub record Lacks (c : Sort) (ts : List Token) (place : Place) : Type 0 where
  pub first : Token
  pub left : List Token
  pub are : ts ≡ first ∷ left
  pub place_is : place ≡ first.place
  pub other : fits c (sort first) ≡ false

abbrev pub Misses : Sort → List Token → PartFault → Type 0
Misses c ts (f.Syntax place) = Lacks c ts place
Misses c ts f.End = ts ≡ []
Misses c ts _ = ⊥

-- The same, of a reader that allocates.
abbrev pub MissesOrMemory : Sort → List Token → PartFault → Type 0
MissesOrMemory c ts f.Memory = Unit {0}
MissesOrMemory c ts e = Misses c ts e

abbrev pub RanOut : List Token → PartFault → Type 0
RanOut ts f.End = ts ≡ []
RanOut ts _ = ⊥

-- A node that begins with a token of this sort, at this depth, is too deep, or the bytes of a string are,
-- which are nodes inside it.
abbrev pub too_deep : Sort → ℕ → Bool
too_deep s.Text d = nat_lt DEEPEST (d + 1)
too_deep q d = nat_lt DEEPEST d

-- A constant begins with a token of this sort.
abbrev pub begins_constant : Sort → Bool
begins_constant s.Small = true
begins_constant s.Integer = true
begins_constant s.Float = true
begins_constant s.Char = true
begins_constant s.Atom = true
begins_constant s.EmptyText = true
begins_constant s.Text = true
begins_constant s.OpenSquare = true
begins_constant s.OpenCurly = true
begins_constant s.Fun = true
begins_constant s.OpenBinary = true
begins_constant s.OpenMap = true
begins_constant _ = false

-- The constant that a token is by itself.
abbrev pub single_constant : Sort → Token → Option Constant
single_constant s.Small t = Some (Number (value t))
single_constant s.Integer t = Some (Number (value t))
single_constant s.Char t = Some (Number (value t))
single_constant s.Atom t = Some (atom_constant (text t))
single_constant s.Float t = Some Another
single_constant s.EmptyText t = Some Another
single_constant _ t = None

-- One of the tokens that close a list with commas.
abbrev pub closing : Sort → Bool
closing s.CloseRound = true
closing s.CloseCurly = true
closing s.CloseSquare = true
closing s.Greater = true
closing s.CloseBinary = true
closing s.CloseMap = true
closing _ = false

-- That many closing brackets.
abbrev pub closers : ℕ → List Part
closers zero = []
closers (suc k) = a s.CloseSquare ∷ closers k
