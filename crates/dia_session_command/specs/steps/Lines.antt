-- How a script is read, line by line.
use Rattle.std.specs.Prelude.{◌≡◌, ◌<◌, ◌+◌, ℕ, List, ◌∷◌, ◌++◌, All, Contains, drop, length, take}
use Rattle.dia_session_command.specs.Script.{Request, IsGood, lines_of}

-- The first end of a line stands here.
pub record IsEnd (bytes : List ℕ) (end : ℕ) : Type 0 where
  pub within : end < length bytes
  pub split : bytes ≡ take end bytes ++ 10 ∷ drop (end + 1) bytes
  pub first : Contains (take end bytes) 10 → ⊥

-- The bytes begin with the lines of these requests, and the rest stands behind them.
pub record BeginsWith (bytes : List ℕ) (requests : List Request) (rest : List ℕ) : Type 0 where
  pub good : All IsGood requests
  pub spelled : bytes ≡ lines_of requests ++ rest
