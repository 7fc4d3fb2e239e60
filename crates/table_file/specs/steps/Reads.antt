-- What readers answer: a value and what stands behind it, or nothing.
use Rattle.std.specs.Prelude.{◌≡◌, ℕ, Bool, true, List, ◌++◌, length, IsTrue}
use Rattle.std.specs.List.{flat_map, list_all}

-- every value will do
abbrev pub anything : {X : Type 0} → X → Bool
anything x = true

-- the value passes the test, and the bytes are its spelling and a rest
pub record Found {X : Type 0} (test : X → Bool) (spelling : X → List ℕ) (bytes : List ℕ) (x : X)
    (rest : List ℕ) : Type 0 where
  pub kept : IsTrue (test x)
  pub spelled : bytes ≡ spelling x ++ rest

-- the bytes begin with the spelling of no value that passes the test
pub record NoneFirst {X : Type 0} (test : X → Bool) (spelling : X → List ℕ) (bytes : List ℕ) : Type 0 where
  pub never : (x : X) (rest : List ℕ) → IsTrue (test x) → bytes ≡ spelling x ++ rest → ⊥

-- no spelling begins another, and each is the spelling of one value, among those that pass the test
pub record Once {X : Type 0} (test : X → Bool) (spelling : X → List ℕ) : Type 0 where
  pub only : (x y : X) (a b : List ℕ) → IsTrue (test x) → IsTrue (test y) → spelling x ++ a ≡ spelling y ++ b
      → (x ≡ y) × (a ≡ b)

-- n items were read, each passes the test, and the bytes are their spellings and a rest
pub record SoFar {X : Type 0} (test : X → Bool) (spelling : X → List ℕ) (bytes : List ℕ) (xs : List X)
    (rest : List ℕ) (n : ℕ) : Type 0 where
  pub count : length xs ≡ n
  pub kept : IsTrue (list_all test xs)
  pub spelled : bytes ≡ flat_map spelling xs ++ rest
