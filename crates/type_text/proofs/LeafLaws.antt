-- What the readers of words, atoms and numbers rest on, and that these are read in one way.
use Rattle.std.proofs.Common.{◌≡◌, ℕ, ◌+◌, ◌^◌, ◌<◌, true, List, [], ◌∷◌, ◌++◌, drop, ℤ, Option, Some, None, Bor, refl, ap, arith, append_assoc}
use Rattle.std.specs.Prelude.{codes}
use Rattle.std.specs.Option.{IsSomeAnd}
use borrow.Author.Tests.{ltb-true}
use Rattle.type_kinds.proofs.DigitLaws.{number_in_front}
use Rattle.std.specs.Fmt.{decimal, signed_decimal}
use Rattle.std.specs.List.{prefix_len}
use Rattle.std.specs.Cmp.Lexicographic.{same_text, other_text}
use Rattle.std.proofs.lemmas.List.{take_at, drop_at, take-append-drop, append-nil}
use Rattle.type_kinds.specs.Quoted.{escaped, all_escaped, quoted}
use Rattle.type_kinds.specs.Digits.{is_digit}
use Rattle.type_kinds_sets.specs.Numbers.{is_narrow}
use Rattle.type_text.proofs.WordStarts.{list_cases, decimal-start}
use Rattle.type_kinds_sets.specs.declared.ends.Low.{Low}
use Rattle.type_kinds_sets.specs.declared.ends.High.{High}
use Rattle.type_text.specs.Words.{WordStop}
use Rattle.type_text.specs.Texts.{low_text, high_text}

-- ---- words

-- what the text begins with, and what is behind it
pub ruleset words_in_front = (same_text, other_text, take_at, drop_at, take-append-drop)

-- ---- atoms

-- what is still to be read of an atom, where some bytes are read: the others, the quote, and what stands behind it
pub record AtomLeft (bytes left atom rest : List ℕ) : Type 0 where
  pub more : List ℕ
  pub all : atom ≡ bytes ++ more
  pub text : left ≡ all_escaped more ++ 39 ∷ rest

abbrev pub ByteRead : List ℕ → Option (ℕ × Bor (List ℕ)) → Type 0
ByteRead text o = (byte : ℕ) (rest : List ℕ) → text ≡ escaped byte ++ rest → IsSomeAnd o (λ p. (p.0 ≡ byte) × (p.1.now ≡ rest))

-- one byte more
pub atom_further : (bytes next left atom rest : List ℕ) (byte : ℕ) (after : Bor (List ℕ))
    → AtomLeft bytes left atom rest → next ≡ bytes ++ byte ∷ [] → ByteRead left (Some (byte, after)) → ((behind : List ℕ) → left ≡ 39 ∷ behind → ⊥) → AtomLeft next after.now atom rest
atom_further bytes next left atom rest byte after so_far is reads no_quote = grind (arith, append_assoc, list_cases so_far.more)

pub atom_ends : (bytes left atom rest : List ℕ) → AtomLeft bytes left atom rest → ByteRead left None → (bytes ≡ atom) × (left ≡ 39 ∷ rest)
atom_ends bytes left atom rest so_far reads = grind (arith, append-nil bytes, append_assoc, list_cases so_far.more)

-- atoms are read in one way: two with one text, each with something behind it, are one, and so is what stands behind. So
-- are numbers and the ends of intervals, below
bytes_once : (a b r q : List ℕ) → all_escaped a ++ 39 ∷ r ≡ all_escaped b ++ 39 ∷ q → (a ≡ b) × (r ≡ q)
bytes_once [] [] r q e = (refl, ap (drop 1) e)
bytes_once [] (c ∷ cs) r q e = grind arith
bytes_once (b ∷ bs) [] r q e = grind arith
bytes_once (b ∷ bs) (c ∷ cs) r q e = grind (arith, bytes_once bs cs)

pub quoted_once : (a b r q : List ℕ) → quoted a ++ r ≡ quoted b ++ q → (a ≡ b) × (r ≡ q)
quoted_once a b r q e = grind (arith, bytes_once, append_assoc)

-- ---- numbers

-- what may follow a number begins with no digit
pub no_digits : (rest : List ℕ) → WordStop rest → prefix_len is_digit rest ≡ 0
no_digits rest stops = grind arith

-- no number begins with a minus, and what stands behind one is a magnitude
pub number_no_minus : (n : ℕ) (rest after : List ℕ) → n < 2 ^ 127 → decimal n ++ rest ≡ 45 ∷ after → ⊥
number_no_minus n rest after narrow minus = let s = decimal-start n (omega arith) in grind (arith, s.1.1.0, s.1.1.1)

pub decimal_once : (m n : ℕ) (r q : List ℕ) → m < 2 ^ 128 → n < 2 ^ 128 → WordStop r → WordStop q → decimal m ++ r ≡ decimal n ++ q → (m ≡ n) × (r ≡ q)
decimal_once m n r q j k f g e = grind (arith, number_in_front m (decimal m ++ r) r, number_in_front n (decimal m ++ r) q)

pub signed_once : (m n : ℤ) (r q : List ℕ) → is_narrow m ≡ true → is_narrow n ≡ true → WordStop r → WordStop q → signed_decimal m ++ r ≡ signed_decimal n ++ q → (m ≡ n) × (r ≡ q)
signed_once m n r q j k f g e = grind (arith, decimal_once, number_no_minus, ltb-true)

-- ---- the ends of an interval

pub ends_once : (l m : Low) (h k : High) (r q : List ℕ) → low_text l ++ codes ".." ++ high_text h ++ codes ")" ++ r ≡ low_text m ++ codes ".." ++ high_text k ++ codes ")" ++ q → (l ≡ m) × ((h ≡ k) × (r ≡ q))
ends_once l m h k r q e = grind arith
