-- A module that tokens of a text spell is one that some text spells.
use Rattle.std.proofs.Common.{◌≡◌, ℕ, List, subst}
use Rattle.core_ast.specs.Model as m
use Rattle.core_scan.specs.declared.token.Token.{Token}
use Rattle.core_scan.specs.Bytes.{start}
use Rattle.core_scan.specs.Lexed.{Lexed}
use Rattle.core_parse_grammar.specs.Spells.{SpellsModule}
use Rattle.core_parse_grammar.specs.Begins.{IsModule}
use Rattle.core_scope.specs.Accepted.{IsSpelled}

pub is_spelled : (x : m.Module) (text : List ℕ) (ts : List Token) → Lexed start text ts → SpellsModule ts x → IsSpelled x
is_spelled x text ts lexed spells = ∣ record { text = text; tokens = ts; lexed = lexed; spells = spells } ∣₁

-- So is what is parsed of the tokens that were scanned.
pub parsed_is_spelled : (x : m.Module) (text : List ℕ) (ts us : List Token) → Lexed start text ts → us ≡ ts → IsModule us x → IsSpelled x
parsed_is_spelled x text ts us lexed same parsed = is_spelled x text ts lexed (subst (λ z. SpellsModule z x) same (_, parsed.spelled))
