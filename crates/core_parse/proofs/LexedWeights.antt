-- The tokens of a text weigh at most two for each of its bytes.
use Rattle.std.proofs.Common.{◌≡◌, ℕ, ◌+◌, ◌*◌, ◌≤◌, nat_lt, inl, inr, List, [], ◌∷◌, Bool, true, false, if◌then◌else◌, length, refl, ap, arith, length-append}
use Rattle.std.proofs.lemmas.Bool.Decides.{nat_tests}
use Rattle.type_kinds.specs.declared.place.Place.{Place}
use Rattle.core_scan.specs.declared.sort.Sort.{Sort}
use Rattle.core_scan.specs.declared.token.Token.{Token}
use Rattle.core_scan.specs.declared.token.TokenKind.{TokenKind}
use Rattle.core_scan.specs.declared.token.TokenKind.TheVariants as k
use Rattle.core_scan.specs.Escapes.{Inside, Quoted, nothing, plain, escaped}
use Rattle.core_scan.specs.Lexed.{Passes, Lexed, here, blank, comment, token}
use Rattle.core_scan.specs.Spells.{IsName, IsDigits, IsFloat, IsChar, Spells, sign_text}
use Rattle.core_scan.specs.Vocabulary.{IsOneOf, symbols}
use Rattle.core_parse_grammar.specs.Weights.{kind_weight, weight}

inside_short : (q : ℕ) (piece text rest : List ℕ) → Inside q piece text rest → length text ≤ length piece
inside_short q piece text rest (nothing e f) = omega (arith, ap (λ x. length x) f)
inside_short q piece text rest (plain b more letters x y e f h) =
    let i : length letters ≤ length more = inside_short q more letters rest h in omega (arith, i, ap (λ x. length x) e, ap (λ x. length x) f)
inside_short q piece text rest (escaped escape more letters value x e f h) =
    let i : length letters ≤ length more = inside_short q more letters rest h in omega (arith, i, ap (λ x. length x) e, ap (λ x. length x) f, length-append escape more)

quoted_short : (q : ℕ) (text piece rest : List ℕ) → Quoted q text piece rest → length text + 2 ≤ length piece
quoted_short q text piece rest (inside, e, h) =
    let i : length text ≤ length inside = inside_short q inside text (q ∷ rest) h in omega (arith, i, ap (λ x. length x) e, length-append inside (q ∷ []))

name_some : (first : ℕ → Bool) (piece : List ℕ) → IsName first piece → 1 ≤ length piece
name_some first [] h = absurd h
name_some first (b ∷ bs) h = omega arith

abbrev all_some : List (List ℕ × Sort) → Bool
all_some [] = true
all_some (e ∷ table) = if nat_lt 0 (length e.0) then all_some table else false

if_both : (p q : Bool) → (if p then q else false) ≡ true → (p ≡ true) × (q ≡ true)
if_both true q e = (refl, e)
if_both false q e = absurd cc

above_none : (n : ℕ) → nat_lt 0 n ≡ true → 1 ≤ n
above_none n e = grind (arith, nat_tests)

one_some : (table : List (List ℕ × Sort)) (x : List ℕ) → all_some table ≡ true → IsOneOf table x → 1 ≤ length x
one_some [] x e h = absurd h
one_some (entry ∷ table) x e (inl h) = let i : 1 ≤ length entry.0 = above_none (length entry.0) (if_both _ (all_some table) e).0 in omega (arith, i, ap (λ y. length y) h)
one_some (entry ∷ table) x e (inr h) = one_some table x (if_both (nat_lt 0 (length entry.0)) _ e).1 h

digits_some : (digits : List ℕ) → IsDigits digits → 1 ≤ length digits
digits_some [] h = absurd h
digits_some (b ∷ bs) h = omega arith

char_some : (c : ℕ) (piece rest : List ℕ) → IsChar c piece rest → 1 ≤ length piece
char_some c piece rest (inl h) = omega (arith, ap (λ x. length x) h.0)
char_some c piece rest (inr h) = omega (arith, ap (λ x. length x) h.1)

float_some : (piece : List ℕ) → IsFloat piece → 1 ≤ length piece
float_some piece (sign, whole, part, exponent, d, p, x, e) = omega (arith, simp length-append at (ap (λ x. length x) e))

-- a token weighs at most two for each byte of its spelling
piece_weight : (kind : TokenKind) (piece rest : List ℕ) → Spells kind piece rest → kind_weight kind ≤ 2 * length piece
piece_weight (k.Word w) piece rest h = let i : 1 ≤ length piece = name_some _ piece h.0 in omega (arith, i)
piece_weight (k.Variable x) piece rest h = let i : 1 ≤ length piece = name_some _ piece h.0 in omega (arith, i)
piece_weight (k.Integer n bare) piece rest (sign, digits, d, e, f, g) =
    let i : 1 ≤ length digits = digits_some digits d in omega (arith, i, ap (λ x. length x) e, length-append (sign_text sign) digits)
piece_weight (k.Float s) piece rest h = let i : 1 ≤ length piece = float_some piece h.0 in omega (arith, i)
piece_weight (k.Char c) piece rest h = let i : 1 ≤ length piece = char_some c piece rest h in omega (arith, i)
piece_weight (k.Atom x) piece rest h = let i : length x + 2 ≤ length piece = quoted_short 39 x piece rest h in omega (arith, i)
piece_weight (k.Text x) piece rest h = let i : length x + 2 ≤ length piece = quoted_short 34 x piece rest h in omega (arith, i)
piece_weight (k.Symbol s) piece rest h = let i : 1 ≤ length piece = one_some symbols piece refl h.0 in omega (arith, i)

module _ (end : Place) (left : List ℕ) where
  passes_weight : (place : Place) (bytes : List ℕ) (ts : List Token) → Passes end left place bytes ts → weight ts ≤ 2 * length bytes
  passes_weight place bytes ts (here e f g) = omega (arith, ap (λ x. weight x) g)
  passes_weight place bytes ts (blank b rest e x h) =
      let i : weight ts ≤ 2 * length rest = passes_weight _ rest ts h in omega (arith, i, ap (λ x. length x) e)
  passes_weight place bytes ts (comment line rest e x y h) =
      let i : weight ts ≤ 2 * length rest = passes_weight _ rest ts h in omega (arith, i, ap (λ x. length x) e, length-append line rest)
  passes_weight place bytes ts (token kind piece rest others l x e h) =
      let i : weight others ≤ 2 * length rest = passes_weight _ rest others h in
      let j : kind_weight kind ≤ 2 * length piece = piece_weight kind piece rest l.spells in
      omega (arith, i, j, ap (λ x. weight x) e, ap (λ x. length x) l.splits, length-append piece rest)

pub lexed_weight : (place : Place) (bytes : List ℕ) (ts : List Token) → Lexed place bytes ts → weight ts ≤ 2 * length bytes
lexed_weight place bytes ts (end, h) = passes_weight end [] place bytes ts h
