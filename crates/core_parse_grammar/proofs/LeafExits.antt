-- Single tokens: each way out.
use Rattle.std.proofs.Common.{◌≡◌, ℕ, ◌+◌, ◌≤◌, List, [], ◌∷◌, Bool, true, false, refl, sym, ap, ◌∙◌, arith, length}
use Rattle.type_kinds.specs.declared.place.Place.{Place}
use Rattle.core_scan.specs.declared.token.TokenKind.{TokenKind}
use Rattle.core_scan.specs.declared.token.TokenKind.TheVariants as k
use Rattle.core_scan.specs.declared.token.Token.{Token}
use Rattle.core_scan.specs.declared.sort.Sort.{Sort}
use Rattle.core_scan.specs.declared.sort.Sort.TheVariants as s
use Rattle.core_scan.specs.Sorts.{sort, fits}
use Rattle.core_parse_grammar.specs.declared.fault.PartFault.{PartFault}
use Rattle.core_parse_grammar.specs.declared.fault.PartFault.TheVariants.{Syntax, End, TooDeep, Memory}
use Rattle.core_parse_grammar.specs.Build.{text}
use Rattle.core_parse_grammar.specs.Faults.{Starts, Takes, Lacks, Misses, MissesOrMemory, RanOut}
use Rattle.core_parse_grammar.specs.Readings.{ReadsAtom}
use Rattle.core_parse_grammar.specs.Weights.{kind_weight, weight}

pub none_left : (ts : List Token) → length ts ≡ 0 → ts ≡ []
none_left [] e = refl
none_left (t ∷ ts) e = absurd (omega arith)

pub begins_it : (ts us : List Token) (t : Token) (q : Sort) → ts ≡ t ∷ us → q ≡ sort t → Starts ts t q t.place us
begins_it ts us t q e h = record { are = e; sort_is = h; place_is = refl }

pub first_shorter : (ts us : List Token) (t : Token) → ts ≡ t ∷ us → length us + 1 ≡ length ts
first_shorter ts us t e = omega (arith, ap (λ x. length x) e)

pub first_lighter : (ts us : List Token) (t : Token) → ts ≡ t ∷ us → weight us + kind_weight t.kind ≡ weight ts
first_lighter ts us t e = omega (arith, ap (λ x. weight x) e)

pub ruleset next_exits = (none_left, begins_it, first_shorter, first_lighter)

-- a token weighs two at least
pub two_at_least : (k : TokenKind) → 2 ≤ kind_weight k
two_at_least (k.Text bytes) = omega arith
two_at_least _ = omega arith

module _ (c : Sort) (ts us : List Token) (t : Token) (q : Sort) (place : Place) (b : Starts ts t q place us) where
  abbrev pub take_it : (x : Bool) → x ≡ fits c q → x ≡ true → Takes c ts us
  take_it x e h = record { first = t; are = b.are; fits_it = ap (fits c) (sym b.sort_is) ∙ sym e ∙ h }

  abbrev pub take_not : (x : Bool) → x ≡ fits c q → x ≡ false → Lacks c ts place
  take_not x e h = record { first = t; left = us; are = b.are; place_is = b.place_is; other = ap (fits c) (sym b.sort_is) ∙ sym e ∙ h }

pub take_end : (c : Sort) (ts : List Token) (f : PartFault) → RanOut ts f → Misses c ts f
take_end c ts End h = h
take_end c ts (Syntax p) h = absurd h
take_end c ts (TooDeep p) h = absurd h
take_end c ts Memory h = absurd h

pub atom_end : (c : Sort) (ts : List Token) (f : PartFault) → RanOut ts f → MissesOrMemory c ts f
atom_end c ts End h = h
atom_end c ts (Syntax p) h = absurd h
atom_end c ts (TooDeep p) h = absurd h
atom_end c ts Memory h = absurd h

pub atom_read : (ts us : List Token) (t : Token) (q : Sort) (place : Place) → Starts ts t q place us → (x : Bool) → x ≡ fits s.Atom q → x ≡ true → (name : List ℕ) → name ≡ text t → ReadsAtom ts name place us
atom_read ts us t q place b x e h name g = record { first = t; are = b.are; fits_it = ap (fits s.Atom) (sym b.sort_is) ∙ sym e ∙ h; agrees = sym g; place_is = sym b.place_is }

pub ruleset take_exits = (take_it, take_not, take_end, atom_end, atom_read, two_at_least)
