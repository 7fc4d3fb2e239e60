-- What is known of the tokens of a text.
use Rattle.std.proofs.Common.{ℕ, ◌≤◌, inl, inr, List, [], ◌∷◌, ◌++◌, Bool, true, false, cond, Option, Some, None, sym, subst, arith}
use Rattle.std.specs.Prelude.{◌==◌, ⊤}
use Rattle.type_kinds.specs.declared.place.Place.{Place}
use Rattle.core_scan.specs.Bytes.{past}
use Rattle.core_scan.specs.declared.token.Token.{Token}
use Rattle.core_scan.specs.declared.token.TokenKind.{TokenKind}
use Rattle.core_scan.specs.declared.token.TokenKind.TheVariants as k
use Rattle.core_scan.specs.Escapes.{Escape, octal, control, letter, lettered, Inside, nothing, plain, escaped}
use Rattle.core_scan.specs.Spells.{IsName, IsFloat, Spells, IsToken, is_variable_start}
use Rattle.core_scan.specs.Lexed.{Passes, Lexed}
use Rattle.core_scan.specs.Lexed as p
use Rattle.core_print.specs.Tokens.{AreBytes}
use Rattle.core_print.proofs.Spelled.{KindGood, TokensGood}

split_bytes : (xs ys : List ℕ) → AreBytes (xs ++ ys) → AreBytes xs × AreBytes ys
split_bytes [] ys h = (tt, h)
split_bytes (x ∷ xs) ys h = let z = split_bytes xs ys h.1 in ((h.0, z.0), z.1)

abbrev SomeByte : Option ℕ → Type 0
SomeByte None = ⊤
SomeByte (Some v) = v ≤ 255

pick : (t : Bool) (n : ℕ) (o : Option ℕ) → n ≤ 255 → SomeByte o → SomeByte (cond t (Some n) o)
pick true n o h rest = h
pick false n o h rest = rest

lettered_byte : (b : ℕ) → SomeByte (lettered b)
lettered_byte b =
    pick (b == 98) 8 _ (omega arith) (pick (b == 100) 127 _ (omega arith) (pick (b == 101) 27 _ (omega arith) (pick (b == 102) 12 _ (omega arith)
    (pick (b == 110) 10 _ (omega arith) (pick (b == 114) 13 _ (omega arith) (pick (b == 115) 32 _ (omega arith) (pick (b == 116) 9 _ (omega arith)
    (pick (b == 118) 11 _ (omega arith) (pick (b == 34) 34 _ (omega arith) (pick (b == 39) 39 _ (omega arith) (pick (b == 92) 92 None (omega arith) tt)))))))))))

escape_byte : (piece : List ℕ) (value : ℕ) (rest : List ℕ) → Escape piece value rest → value ≤ 255
escape_byte piece value rest (octal some short digits end is small) = small
escape_byte piece value rest (control b text low high is) = omega arith
escape_byte piece value rest (letter b text is) = subst SomeByte is (lettered_byte b)

inside_bytes : (q : ℕ) (piece text rest : List ℕ) → AreBytes piece → Inside q piece text rest → AreBytes text
inside_bytes q piece text rest h (nothing none is) = subst AreBytes (sym is) tt
inside_bytes q piece text rest h (plain b more letters other apart front is inside) =
    let z = subst AreBytes front h in
    subst AreBytes (sym is) (z.0, inside_bytes q more letters rest z.1 inside)
inside_bytes q piece text rest h (escaped escape more letters value one front is inside) =
    let z = subst AreBytes front h in
    subst AreBytes (sym is) (escape_byte escape value (more ++ rest) one, inside_bytes q more letters rest (split_bytes escape more z.1).1 inside)

kind_good : (kind : TokenKind) (piece rest : List ℕ) → AreBytes piece → Spells kind piece rest → IsToken kind → KindGood kind
kind_good (k.Word w) piece rest h is token = tt
kind_good (k.Variable x) piece rest h is token = subst (IsName is_variable_start) (sym is.1) is.0
kind_good (k.Integer n bare) piece rest h is token = token
kind_good (k.Float f) piece rest h is token = subst IsFloat (sym is.1) is.0
kind_good (k.Char c) piece rest h (inl is) token = (subst AreBytes is.0 h).1.0
kind_good (k.Char c) piece rest h (inr is) token = escape_byte is.0 c rest is.2
kind_good (k.Atom x) piece rest h is token = tt
kind_good (k.Text x) piece rest h is token = inside_bytes 34 is.0 x (34 ∷ rest) (split_bytes is.0 (34 ∷ []) (subst AreBytes is.1 h).1).0 is.2
kind_good (k.Symbol x) piece rest h is token = tt

passes_good : (end : Place) (left : List ℕ) (place : Place) (bytes : List ℕ) (tokens : List Token) → AreBytes bytes → Passes end left place bytes tokens → TokensGood tokens
passes_good end left place bytes tokens h (p.here at text none) = subst TokensGood (sym none) tt
passes_good end left place bytes tokens h (p.blank b rest text is more) = passes_good end left (past place (b ∷ [])) rest tokens (subst AreBytes text h).1 more
passes_good end left place bytes tokens h (p.comment line rest text all_ stop more) =
    passes_good end left (past place (37 ∷ line)) rest tokens (split_bytes line rest (subst AreBytes text h).1).1 more
passes_good end left place bytes tokens h (p.token kind piece rest others front is text more) =
    let z = split_bytes piece rest (subst AreBytes front.splits h) in
    subst TokensGood (sym text) (kind_good kind piece rest z.0 front.spells is, passes_good end left (past place piece) rest others z.1 more)

pub lexed_good : (place : Place) (bytes : List ℕ) (tokens : List Token) → AreBytes bytes → Lexed place bytes tokens → TokensGood tokens
lexed_good place bytes tokens h is = passes_good is.0 [] place bytes tokens h is.1
