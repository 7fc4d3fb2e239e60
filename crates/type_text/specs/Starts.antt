-- How words begin, for a reader that tells them apart by that.
use Rattle.std.specs.Prelude.{◌≡◌, ◌==◌, ◌&&◌, ◌||◌, ℕ, nat_le, Bool, false, List, [], ◌∷◌, ◌++◌, codes}

-- a minus or a digit
abbrev pub is_number : ℕ → Bool
is_number b = b == 45 || (nat_le 48 b && nat_le b 57)

-- whether a text begins with one
abbrev pub begins_number : List ℕ → Bool
begins_number [] = false
begins_number (b ∷ t) = is_number b

-- the text doesn't begin so
abbrev pub Lacks : List ℕ → List ℕ → Type 0
Lacks now start = (more : List ℕ) → now ≡ start ++ more → ⊥

-- it begins with no word for a part that is no or yes
pub record NoFlag (now : List ℕ) : Type 0 where
  pub float : Lacks now (codes "float()")
  pub pid : Lacks now (codes "pid()")
  pub port : Lacks now (codes "port()")
  pub reference : Lacks now (codes "reference()")
  pub map : Lacks now (codes "map()")
  pub nil : Lacks now (codes "[]")

-- with none for bits, functions or intervals
pub record NoBits (now : List ℕ) : Type 0 where
  pub whole : Lacks now (codes "binary()")
  pub every : Lacks now (codes "bitstring()")

pub record NoFunction (now : List ℕ) : Type 0 where
  pub every : Lacks now (codes "fun()")
  pub arity : Lacks now (codes "fun(")

pub record NoInterval (now : List ℕ) : Type 0 where
  pub every : Lacks now (codes "integer()")
  pub range : Lacks now (codes "integer(")

-- with none of these, and none for every tuple or every atom
pub record NoTypeName (now : List ℕ) : Type 0 where
  pub every_tuple : Lacks now (codes "tuple()")
  pub every_atom : Lacks now (codes "atom()")
  pub flag : NoFlag now
  pub bits : NoBits now
  pub function : NoFunction now
  pub interval : NoInterval now
