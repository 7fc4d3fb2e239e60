-- What the grammar makes of a text, by evaluation: for worked texts.
use Rattle.std.proofs.Common.{ℕ, ◌+◌, ◌-◌, ◌*◌, pos, List, [], ◌∷◌, ◌++◌, map, reverse, Option, Bool, true, false, if◌then◌else◌}
use Rattle.std.specs.Prelude.{nat_eq, nat_lt}
use Rattle.type_kinds.specs.declared.place.Place.{Place}
use Rattle.core_ast.specs.declared.syntax.Note.{Note}
use Rattle.core_ast.specs.declared.syntax.Mark.{Mark}
use Rattle.core_ast.specs.declared.syntax.VarName.{VarName}
use Rattle.core_ast.specs.declared.syntax.FunName.{FunName}
use Rattle.core_ast.specs.Model as m
use Rattle.core_scan.specs.declared.token.TokenKind.{TokenKind}
use Rattle.core_scan.specs.declared.token.TokenKind.TheVariants as k
use Rattle.core_scan.specs.declared.token.Token.{Token}
use Rattle.core_scan.specs.Sorts.{sort}
use Rattle.core_parse_grammar.specs.Labels.{number, numbered}
use Rattle.core_parse_grammar.specs.Build.{no_note}
use Rattle.core_parse_grammar.specs.Grammar.{Part, Nonterminal, Said, Action, expression, annotated_module}
use Rattle.core_parse_grammar.specs.Track.{Branch, itself, next}

-- Tokens written with blanks between them, on one line

abbrev drop_last : List ℕ → List ℕ
drop_last [] = []
drop_last (b ∷ []) = []
drop_last (b ∷ c ∷ bs) = b ∷ drop_last (c ∷ bs)

abbrev number_from : ℕ → List ℕ → ℕ
number_from n [] = n
number_from n (b ∷ bs) = number_from (n * 10 + (b - 48)) bs

abbrev has_dot : List ℕ → Bool
has_dot [] = false
has_dot (b ∷ bs) = if nat_eq b 46 then true else has_dot bs

abbrev within : ℕ → ℕ → ℕ → Bool
within low high b = if nat_lt b low then false else if nat_lt high b then false else true

abbrev char_of : List ℕ → ℕ
char_of [] = 0
char_of (b ∷ bs) = b

-- quoted text, a character, a variable, a number, a word, and else a symbol
abbrev kind_of : ℕ → List ℕ → TokenKind
kind_of b bs =
    if nat_eq b 39 then k.Atom (drop_last bs)
    else if nat_eq b 34 then k.Text (drop_last bs)
    else if nat_eq b 36 then k.Char (char_of bs)
    else if within 65 90 b then k.Variable (b ∷ bs)
    else if nat_eq b 95 then k.Variable (b ∷ bs)
    else if within 48 57 b then (if has_dot bs then k.Float (b ∷ bs) else k.Integer (pos (number_from 0 (b ∷ bs))) true)
    else if within 97 122 b then k.Word (b ∷ bs)
    else k.Symbol (b ∷ bs)

abbrev token_at : ℕ → List ℕ → List Token
token_at n [] = []
token_at n (b ∷ bs) = record { kind = kind_of b bs; place = record { byte = n; line = 1 } } ∷ []

abbrev words : (begin now : ℕ) → List ℕ → List ℕ → List Token
words begin now held [] = token_at begin (reverse held)
words begin now held (b ∷ bs) = if nat_eq b 32 then token_at begin (reverse held) ++ words (now + 1) (now + 1) [] bs else words begin (now + 1) (b ∷ held) bs

abbrev pub tokens : List ℕ → List Token
tokens text = words 0 0 [] text

-- All that a name says of the whole of some tokens

abbrev run : (n : Nonterminal) → List Token → List (Branch n) → List (Branch n)
run n [] bs = bs
run n (t ∷ ts) bs = run n ts (next 12 n t (sort t) bs)

abbrev ended_one : (n : Nonterminal) (ps : List Part) → Action ps (Said n) → List (Said n)
ended_one n [] x = x ∷ []
ended_one n (p ∷ ps) b = []

abbrev pub results : (n : Nonterminal) → List (Branch n) → List (Said n)
results n [] = []
results n (b ∷ bs) = ended_one n b.parts b.build ++ results n bs

abbrev pub all_said : (n : Nonterminal) → List Token → List (Said n)
all_said n ts = results n (run n ts (itself n))

-- the expressions and the modules that a text spells, with labels from 0 on
abbrev pub expressions : List ℕ → List m.Tree
expressions text = map (λ x. (number 0 x).0) (all_said (expression 1) (tokens text))

abbrev pub modules : List ℕ → List m.Module
modules text = map (λ x. numbered x) (all_said annotated_module (tokens text))

-- Marks and names as they stand in worked texts

abbrev pub place : ℕ → Place
place byte = record { byte = byte; line = 1 }

abbrev pub note : Option ℕ → Bool → Note
note line generated = record { line = line; generated = generated }

abbrev pub mark : ℕ → ℕ → Mark
mark label byte = record { label = label; place = place byte; note = no_note }

abbrev pub noted : ℕ → ℕ → Note → Mark
noted label byte n = record { label = label; place = place byte; note = n }

abbrev pub var : List ℕ → ℕ → VarName
var x byte = record { name = x; place = place byte; note = no_note }

abbrev pub name : List ℕ → ℕ → FunName
name x arity = record { name = x; arity = arity }
