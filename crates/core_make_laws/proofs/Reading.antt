-- A reading of tokens by the ways of the grammar, found by trying each way in turn.
use Rattle.std.proofs.Common.{◌≡◌, ℕ, zero, suc, ◌≤◌, List, [], ◌∷◌, refl, Bool, true, false, Option, Some, None, nat_le, arith}
use Rattle.std.proofs.lemmas.Bool.Decides.{nat_tests}
use Rattle.core_scan.specs.declared.token.Token.{Token}
use Rattle.core_scan.specs.declared.sort.Sort.{Sort}
use Rattle.core_scan.specs.Sorts.{sort, fits}
use Rattle.core_parse_grammar.specs.Grammar.{Part, a, first, the, Nonterminal, SaidBy, Said, Action, Way, ways}
use Rattle.core_parse_grammar.specs.Spells.{Reads, ReadsOne, ReadsAll, token, node, part, here, later, none, one}

-- What a part says, what is left, and the reading.
pub record Read (deepest : ℕ) (p : Part) (ts : List Token) : Type 0 where
  pub says : SaidBy p
  pub left : List Token
  pub reads : Reads deepest p ts says left

pub record ReadOne (deepest : ℕ) (n : Nonterminal) (ws : List (Way (Said n))) (ts : List Token) : Type 0 where
  pub says : Said n
  pub left : List Token
  pub reads : ReadsOne deepest n ws ts says left

pub record ReadAll (deepest : ℕ) (n : Nonterminal) (ps : List Part) (f : Action ps (Said n)) (ts : List Token) : Type 0 where
  pub says : Said n
  pub left : List Token
  pub reads : ReadsAll deepest n ps f ts says left

pub at_most : (d k : ℕ) → nat_le d k ≡ true → d ≤ k
at_most d k e = grind (arith, nat_tests)

abbrev pub fitting : (deepest : ℕ) (c : Sort) (t : Token) (ts : List Token) (b : Bool) → fits c (sort t) ≡ b → Option (Read deepest (a c) (t ∷ ts))
fitting deepest c t ts true e = Some (record { says = t; left = ts; reads = token e })
fitting deepest c t ts false e = None

abbrev pub beginning : (deepest d : ℕ) (c : Sort) (t : Token) (ts : List Token) (b : Bool) → fits c (sort t) ≡ b → (k : Bool) → nat_le d deepest ≡ k → Option (Read deepest (first d c) (t ∷ ts))
beginning deepest d c t ts true e true g = Some (record { says = t; left = ts; reads = node e (at_most d deepest g) })
beginning deepest d c t ts b e k g = None

abbrev pub whole : {deepest : ℕ} {n : Nonterminal} {ts : List Token} → Option (ReadOne deepest n (ways n) ts) → Option (Read deepest (the n) ts)
whole None = None
whole (Some r) = Some (record { says = r.says; left = r.left; reads = part r.reads })

abbrev pub either : {deepest : ℕ} {n : Nonterminal} {w : Way (Said n)} {ws : List (Way (Said n))} {ts : List Token} → Option (ReadAll deepest n w.parts w.says ts) → Option (ReadOne deepest n ws ts)
    → Option (ReadOne deepest n (w ∷ ws) ts)
either (Some r) more = Some (record { says = r.says; left = r.left; reads = here r.reads })
either None None = None
either None (Some r) = Some (record { says = r.says; left = r.left; reads = later r.reads })

abbrev pub added : {deepest : ℕ} {n : Nonterminal} {p : Part} {ps : List Part} {f : Action (p ∷ ps) (Said n)} {ts : List Token} (r : Read deepest p ts)
    → Option (ReadAll deepest n ps (f r.says) r.left) → Option (ReadAll deepest n (p ∷ ps) f ts)
added r None = None
added r (Some s) = Some (record { says = s.says; left = s.left; reads = one r.reads s.reads })

abbrev pub behind : {deepest : ℕ} {n : Nonterminal} {p : Part} {ps : List Part} {f : Action (p ∷ ps) (Said n)} {ts : List Token} → Option (Read deepest p ts) → ((r : Read deepest p ts)
    → Option (ReadAll deepest n ps (f r.says) r.left)) → Option (ReadAll deepest n (p ∷ ps) f ts)
behind None more = None
behind (Some r) more = added r (more r)

unfoldable mutual
  -- within so many steps into parts
  pub read : ℕ → (deepest : ℕ) (p : Part) (ts : List Token) → Option (Read deepest p ts)
  read zero deepest p ts = None
  read (suc k) deepest (a c) [] = None
  read (suc k) deepest (a c) (t ∷ ts) = fitting deepest c t ts (fits c (sort t)) refl
  read (suc k) deepest (first d c) [] = None
  read (suc k) deepest (first d c) (t ∷ ts) = beginning deepest d c t ts (fits c (sort t)) refl (nat_le d deepest) refl
  read (suc k) deepest (the n) ts = whole (read_one k deepest n (ways n) ts)

  pub read_one : ℕ → (deepest : ℕ) (n : Nonterminal) (ws : List (Way (Said n))) (ts : List Token) → Option (ReadOne deepest n ws ts)
  read_one zero deepest n ws ts = None
  read_one (suc k) deepest n [] ts = None
  read_one (suc k) deepest n (w ∷ ws) ts = either (read_all k deepest n w.parts w.says ts) (read_one k deepest n ws ts)

  pub read_all : ℕ → (deepest : ℕ) (n : Nonterminal) (ps : List Part) (f : Action ps (Said n)) (ts : List Token) → Option (ReadAll deepest n ps f ts)
  read_all zero deepest n ps f ts = None
  read_all (suc k) deepest n [] f ts = Some (record { says = f; left = ts; reads = none })
  read_all (suc k) deepest n (p ∷ ps) f ts = behind (read k deepest p ts) (λ r. read_all k deepest n ps (f r.says) r.left)
