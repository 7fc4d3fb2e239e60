-- What is printed of types, one after another.
use Rattle.std.proofs.Common.{◌≡◌, ℕ, ◌+◌, ◌<◌, List, [], ◌∷◌, ◌++◌, length, map, take, append_assoc, arith}
use Rattle.std.specs.Prelude.{codes, slice_index_or}
use Rattle.std.proofs.lemmas.List.{take_more, append-nil}
use Rattle.type_lattice.specs.Types.{Type4}
use Rattle.type_text.specs.Texts.{after, text_of}

-- types with a comma before each, and one more
one_behind : (ts : List Type4) (t : Type4) → after (codes ",") (map text_of (ts ++ t ∷ [])) ≡ after (codes ",") (map text_of ts) ++ codes "," ++ text_of t
one_behind [] t = simp append-nil
one_behind (s ∷ ts) t = rw (one_behind ts t) (simp append_assoc)

pub one_more : (ts : List Type4) (i : ℕ) (d t : Type4) → i < length ts → t ≡ slice_index_or ts i d → (before now comma then : List ℕ)
    → now ≡ before ++ after (codes ",") (map text_of (take i ts)) → comma ≡ now ++ codes "," → then ≡ comma ++ text_of t
    → then ≡ before ++ after (codes ",") (map text_of (take (i + 1) ts))
one_more ts i d t h is before now comma then e f g = grind (arith, take_more, one_behind (take i ts) t, append_assoc)
