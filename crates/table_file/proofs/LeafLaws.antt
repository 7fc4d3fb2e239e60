-- Numbers, names and digests, as they are read.
use Rattle.std.proofs.Common.{◌≡◌, ℕ, ◌/◌, ◌%◌, ◌^◌, ◌+◌, ◌<◌, ◌≤◌, List, [], ◌∷◌, ◌++◌, length, take, drop, get_or, refl, sym, ap, ◌∙◌, append_assoc, inl, inr, arith}
use Rattle.std.specs.Int.{w32, to_be_bytes, from_be_bytes}
use Rattle.std.proofs.lemmas.List.{take-append-drop, length-append, length-take, get_or-take, get_or_past}
use Rattle.std.proofs.lemmas.Bool.{cases_lt}
use Rattle.std.proofs.lemmas.Nat.{be_bytes_4}
use Rattle.table_file.specs.Spelling.{four_bytes, text_bytes}
use Rattle.table_file.specs.steps.Reads.{anything, Found, NoneFirst}
use Rattle.table_file.proofs.OnceLaws.{four_once}

first_byte : (n : ℕ) → n < 2 ^ 32 → n / 2 ^ 24 ≡ n / 2 ^ 24 % 256
first_byte n small = omega arith

-- what a number below 2 ^ 32 is written as
pub four_bytes-be : (n : ℕ) → n < 2 ^ 32 → four_bytes n ≡ to_be_bytes w32 n
unfolding four_bytes
four_bytes-be n small = ap (λ b. b ∷ n / 2 ^ 16 % 256 ∷ n / 2 ^ 8 % 256 ∷ n % 256 ∷ []) (first_byte n small)

pub four_bytes-length : (n : ℕ) → length (four_bytes n) ≡ 4
unfolding four_bytes
four_bytes-length n = refl

bytes_fit : (k : ℕ) (bytes : List ℕ) → ((i : ℕ) → get_or bytes i 0 < 256) → (i : ℕ) → get_or (take k bytes) i 0 < 256
bytes_fit k bytes fits i =
    elim (cases_lt i k) [
      | inl lt ↦ rw (get_or-take k bytes i 0 lt) (fits i)
      | inr le ↦ rw (get_or_past (take k bytes) i 0 (omega (arith, length-take k bytes))) (omega arith)
    ]

pub number_found : (bytes front rest : List ℕ) (n : ℕ) → front ≡ take 4 bytes → rest ≡ drop 4 bytes
    → length rest + 4 ≡ length bytes → ((i : ℕ) → get_or bytes i 0 < 256) → n < 2 ^ 32 → n ≡ from_be_bytes w32 front
    → Found anything four_bytes bytes n rest
number_found bytes front rest n f r long fits small is =
    let len : length front ≡ 4 = ap length f ∙ omega (arith, length-take 4 bytes) in
    let front_fits : (i : ℕ) → get_or front i 0 < 256 = λ i. rw f (bytes_fit 4 bytes fits i) in
    let written : four_bytes n ≡ front = four_bytes-be n small ∙ be_bytes_4 front n len front_fits is in
    record { kept = refl; spelled = sym (take-append-drop 4 bytes) ∙ cc }

pub number_none : (bytes : List ℕ) → length bytes < 4 → NoneFirst anything four_bytes bytes
number_none bytes short = record {
  never = λ n rest _ e. omega (arith, ap length e ∙ length-append (four_bytes n) rest, four_bytes-length n);
}

pub text_uncounted : (bytes : List ℕ) → NoneFirst anything four_bytes bytes → NoneFirst anything text_bytes bytes
unfolding text_bytes
text_uncounted bytes none =
    record {
      never = λ text rest _ e. none.never (length text) (text ++ rest) refl
          (e ∙ append_assoc (four_bytes (length text)) text rest);
    }

pub text_cut : (bytes after : List ℕ) (n : ℕ) → Found anything four_bytes bytes n after → length after < n
    → NoneFirst anything text_bytes bytes
unfolding text_bytes
text_cut bytes after n found short = record {
  never = λ text rest _ e.
      let both = four_once.only n (length text) after (text ++ rest) refl refl
      (sym found.spelled ∙ e ∙ append_assoc (four_bytes (length text)) text rest) in
      omega (arith, both.0, ap length both.1 ∙ length-append text rest);
}

pub text_found : (bytes after text rest : List ℕ) (n : ℕ) → Found anything four_bytes bytes n after
    → n ≤ length after → text ≡ take n after → rest ≡ drop n after
    → Found anything text_bytes bytes text rest
unfolding text_bytes
text_found bytes after text rest n found long t r =
    let len : length text ≡ n = ap length t ∙ omega (arith, length-take n after) in
    let parts : after ≡ text ++ rest = sym (take-append-drop n after) ∙ cc in
    record {
      kept = refl;
      spelled = found.spelled ∙ ap (λ k. four_bytes k ++ after) (sym len)
          ∙ ap (λ bs. four_bytes (length text) ++ bs) parts ∙ sym (append_assoc (four_bytes (length text)) text rest);
    }

-- the first k bytes
pub front_found : (k : ℕ) (bytes front rest : List ℕ) → front ≡ take k bytes → rest ≡ drop k bytes
    → bytes ≡ front ++ rest
front_found k bytes front rest f r = sym (take-append-drop k bytes) ∙ cc

pub front_whole : (k : ℕ) (bytes front rest : List ℕ) → front ≡ take k bytes → length rest + k ≡ length bytes
    → length front ≡ k
front_whole k bytes front rest f long = ap length f ∙ omega (arith, length-take k bytes)
