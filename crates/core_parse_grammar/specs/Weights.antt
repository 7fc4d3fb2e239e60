-- How many labels tokens may give: two for each token, as for `let` and `do`, and one for each byte of a
-- string.
use Rattle.std.specs.Prelude.{ℕ, ◌+◌, List, [], ◌∷◌, length}
use Rattle.core_scan.specs.declared.token.TokenKind.{TokenKind}
use Rattle.core_scan.specs.declared.token.TokenKind.TheVariants as k
use Rattle.core_scan.specs.declared.token.Token.{Token}

abbrev pub kind_weight : TokenKind → ℕ
kind_weight (k.Text bytes) = length bytes + 2
kind_weight _ = 2

abbrev pub weight : List Token → ℕ
weight [] = 0
weight (t ∷ ts) = kind_weight t.kind + weight ts
