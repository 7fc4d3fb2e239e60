-- Each token that a text has is of the language.
use Rattle.std.proofs.Common.{◌≡◌, ◌≢◌, ℕ, ◌<◌, List, [], ◌∷◌, length, get_or, Bool, true, false, refl, sym, ap, ◌∙◌, pos, if◌then◌else◌, nat_le}
use Rattle.std.proofs.lemmas.Bool.{false≢true}
use Rattle.type_kinds.specs.declared.place.Place.{Place}
use Rattle.core_scan.specs.declared.sort.TheConstants.{LARGEST_ARITY}
use Rattle.core_scan.specs.declared.sort.Sort.TheVariants as s
use Rattle.core_scan.specs.declared.token.Token.{Token}
use Rattle.core_scan.specs.declared.token.TokenKind.{TokenKind}
use Rattle.core_scan.specs.declared.token.TokenKind.TheVariants.{Word, Variable, Integer, Float, Char, Atom, Text, Symbol}
use Rattle.core_scan.specs.Vocabulary.{words, symbols, sort_in}
use Rattle.core_scan.specs.Sorts.{kind_sort, sort}
use Rattle.core_scan.specs.steps.Fronts.{is_known}
use Rattle.core_scan.specs.Spells.{Spells, IsToken}
use Rattle.core_scan.specs.Lexed.{Lexed}
use Rattle.core_scan.proofs.Tables.{known_of_one, words_known, symbols_known}
use Rattle.core_scan.proofs.PassLemmas.{each_token}

either_known : (b : Bool) → is_known (if b then s.Small else s.Integer) ≡ true
either_known true = refl
either_known false = refl

known_kind : (kind : TokenKind) (piece rest : List ℕ) → Spells kind piece rest → IsToken kind → is_known (kind_sort kind) ≡ true
known_kind (Word w) piece rest spells is = known_of_one words w words_known is
known_kind (Variable x) piece rest spells is = refl
known_kind (Integer (pos n) true) piece rest spells is = either_known (nat_le n LARGEST_ARITY)
known_kind (Integer n bare) piece rest spells is = refl
known_kind (Float t) piece rest spells is = refl
known_kind (Char c) piece rest spells is = refl
known_kind (Atom x) piece rest spells is = refl
known_kind (Text []) piece rest spells is = refl
known_kind (Text (b ∷ bs)) piece rest spells is = refl
known_kind (Symbol t) piece rest spells is = ap (λ x. is_known (sort_in symbols x)) spells.1 ∙ known_of_one symbols piece symbols_known spells.0

known_not_other : (kind : TokenKind) → is_known (kind_sort kind) ≡ true → kind_sort kind ≢ s.Other
known_not_other kind known other = false≢true (sym (ap is_known other) ∙ known)

pub all_known : (place : Place) (bytes : List ℕ) (ts : List Token) → Lexed place bytes ts → (k : ℕ) (d : Token) → k < length ts → sort (get_or ts k d) ≢ s.Other
all_known place bytes ts (end, passes) = each_token (λ kind. kind_sort kind ≢ s.Other) (λ kind piece rest spells is. known_not_other kind (known_kind kind piece rest spells is)) passes
