-- When names are those of definitions of which no two have one name.
use Rattle.std.specs.Prelude.{◌≡◌, List, length, Contains}
use Rattle.core_ast.specs.declared.syntax.FunName.{FunName}

-- as many as there are definitions, and each the name of one
pub record ListsDefined (names defined : List FunName) : Type 0 where
  pub as_many : length names ≡ length defined
  pub alone : (f : FunName) → Contains names f → Contains defined f
