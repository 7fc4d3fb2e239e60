-- What the readers of a line's types do.
use Rattle.std.specs.Prelude.{◌≡◌, ℕ, List, [], ◌∷◌, ◌++◌, codes, length, map, Option}
use Rattle.std.specs.Option.{IsSomeAnd}
use Rattle.std.specs.Borrow.{Bor}
use Rattle.type_lattice.specs.Types.{Type4}
use Rattle.type_text.specs.Texts.{after, separated, text_of}
use Rattle.type_text.specs.Words.{TypeStop}

-- what is left of the text is the rest, and these types were added
abbrev pub Adds : (before now added : List Type4) (rest : List ℕ) → Option (Bor (List ℕ)) → Type 0
Adds before now added rest r = IsSomeAnd r (λ left. left.now ≡ rest) × (now ≡ before ++ added)

-- where a type stands first, it is added
abbrev pub ReadsOne : (text : List ℕ) (before now : List Type4) → Option (Bor (List ℕ)) → Type 0
ReadsOne text before now r = (t : Type4) (rest : List ℕ) → TypeStop rest → text ≡ text_of t ++ rest → Adds before now (t ∷ []) rest r

-- where so many types stand first, with commas between, they are added
abbrev pub ReadsTypes : (count : ℕ) (text : List ℕ) (before now : List Type4) → Option (Bor (List ℕ)) → Type 0
ReadsTypes count text before now r =
    (ts : List Type4) (rest : List ℕ) → length ts ≡ count → TypeStop rest → text ≡ separated (codes ",") (map text_of ts) ++ rest → Adds before now ts rest r

-- the same with a comma before each
abbrev pub ReadsMore : (count : ℕ) (text : List ℕ) (before now : List Type4) → Option (Bor (List ℕ)) → Type 0
ReadsMore count text before now r =
    (ts : List Type4) (rest : List ℕ) → length ts ≡ count → TypeStop rest → text ≡ after (codes ",") (map text_of ts) ++ rest → Adds before now ts rest r
