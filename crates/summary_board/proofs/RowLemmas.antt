-- Rows of words: one word replaced, and what the row above is then.
use Rattle.std.proofs.Common.{true, false, ◌≡◌, ◌≢◌, ◌↔◌, ◌⊎◌, inl, inr, ℕ, zero, suc, ◌+◌, ◌*◌, ◌/◌, ◌%◌, ◌^◌, ◌<◌, ◌≤◌}
use Rattle.std.proofs.Common.{List, [], ◌∷◌, length, replicate, get_or, set, slice_get, refl, sym, ap, ◌∙◌, subst, arith, w64}
use Rattle.std.proofs.lemmas.Bool.{cases_eq}
use Rattle.std.proofs.lemmas.Bool.Decides.{nat_tests}
use Rattle.std.proofs.lemmas.List.{get_or-set_same, get_or-set_other, length-replicate}
use Rattle.std.proofs.lemmas.Nat.Bits.{bit_at-zero, bit_at-trailing_zeros, bit_at_set_same, bit_at_set_other, bit_at_clear_same, bit_at_clear_other}
use Rattle.std.specs.Int.{bit_at, bit_not, trailing_zeros}
use Rattle.std.specs.Int.Count.{count_trailing_zeros}
use Rattle.std.proofs.lemmas.Nat.{trailing_le}
use Rattle.std.specs.Prelude.{◌==◌, bit_or, bit_and}
use Rattle.std.specs.declared.option.Option.TheVariants.{None}
use Rattle.summary_board.specs.steps.Rows.{word_at, IsUsed, IsMarked, IsLeastMarked, lowest, IsUnder, AreTied}

same_number : (n m : ℕ) → n / 64 ≡ m / 64 → n % 64 ≡ m % 64 → n ≡ m
same_number n m word bit = omega (arith, word, bit)

-- a word is replaced
same_word : (row : List ℕ) (n m x : ℕ) → m < 64 * length row → n / 64 ≡ m / 64 → word_at (set row (m / 64) x) (n / 64) ≡ x
same_word row n m x within same = ap (λ k. get_or (set row (m / 64) x) k 0) same ∙ get_or-set_same row (m / 64) x 0 (omega (arith, within))

abbrev pub OtherBits : ℕ → ℕ → ℕ → Type 0
OtherBits k old new = (i : ℕ) → i < 64 → i ≢ k → bit_at new i ≡ bit_at old i

other_bit : (row : List ℕ) (n m x : ℕ) → m < 64 * length row → OtherBits (m % 64) (word_at row (m / 64)) x → n / 64 ≡ m / 64 → n % 64 ≢ m % 64
    → bit_at (word_at (set row (m / 64) x) (n / 64)) (n % 64) ≡ bit_at (word_at row (n / 64)) (n % 64)
other_bit row n m x within others same other =
    ap (λ w. bit_at w (n % 64)) (same_word row n m x within same) ∙ (others (n % 64) (omega arith) other ∙ ap (λ k. bit_at (word_at row k) (n % 64)) (sym same))

other_word : (row : List ℕ) (n m x : ℕ) → n / 64 ≢ m / 64
    → bit_at (word_at (set row (m / 64) x) (n / 64)) (n % 64) ≡ bit_at (word_at row (n / 64)) (n % 64)
other_word row n m x other = ap (λ w. bit_at w (n % 64)) (get_or-set_other row (m / 64) (n / 64) x 0 other)

-- what is marked of another number doesn't change
others_stay : (row : List ℕ) (n m x : ℕ) → m < 64 * length row → OtherBits (m % 64) (word_at row (m / 64)) x → n ≢ m
    → bit_at (word_at (set row (m / 64) x) (n / 64)) (n % 64) ≡ bit_at (word_at row (n / 64)) (n % 64)
others_stay row n m x within others apart =
    elim (cases_eq (n / 64) (m / 64)) [
      | inl same ↦ other_bit row n m x within others same (λ bit. apart (same_number n m same bit))
      | inr other ↦ other_word row n m x other
    ]

pub set_marks : (row : List ℕ) (m x : ℕ) → m < 64 * length row → bit_at x (m % 64) ≡ 1 → OtherBits (m % 64) (word_at row (m / 64)) x
    → (n : ℕ) → IsMarked (set row (m / 64) x) n ↔ ((n ≡ m) ⊎ IsMarked row n)
set_marks row m x within bit others n =
    let here : IsMarked (set row (m / 64) x) m = ap (λ w. bit_at w (m % 64)) (same_word row m m x within refl) ∙ bit in
    elim (cases_eq n m) [
      | inl same ↦ ((λ _. inl same), (λ _. subst (IsMarked (set row (m / 64) x)) (sym same) here))
      | inr apart ↦
          let stays = others_stay row n m x within others apart in
          ((λ marked. inr (sym stays ∙ marked)), (λ either. elim either [ inl same ↦ absurd (apart same) | inr marked ↦ stays ∙ marked ]))
    ]

pub clear_marks : (row : List ℕ) (m x : ℕ) → m < 64 * length row → bit_at x (m % 64) ≡ 0 → OtherBits (m % 64) (word_at row (m / 64)) x
    → (n : ℕ) → IsMarked (set row (m / 64) x) n ↔ ((n ≢ m) × IsMarked row n)
clear_marks row m x within bit others n =
    let here : bit_at (word_at (set row (m / 64) x) (m / 64)) (m % 64) ≡ 0 = ap (λ w. bit_at w (m % 64)) (same_word row m m x within refl) ∙ bit in
    elim (cases_eq n m) [
      | inl same ↦ (
        (λ marked. let there : IsMarked (set row (m / 64) x) m = subst (IsMarked (set row (m / 64) x)) same marked in absurd (omega (arith, here, there))),
        (λ both. absurd (both.0 same)),
      )
      | inr apart ↦
          let stays = others_stay row n m x within others apart in
          ((λ marked. (apart, sym stays ∙ marked)), (λ both. stays ∙ both.1))
    ]

-- a word with a set bit isn't 0
pub bit_used : (word k : ℕ) → bit_at word k ≡ 1 → 0 < word
bit_used zero k bit = absurd (omega (arith, bit, bit_at-zero k))
bit_used (suc n) k bit = omega arith

pub set_uses : (row : List ℕ) (m x : ℕ) → m < 64 * length row → 0 < x → (w : ℕ) → IsUsed (set row (m / 64) x) w ↔ ((w ≡ m / 64) ⊎ IsUsed row w)
set_uses row m x within some w =
    elim (cases_eq w (m / 64)) [
      | inl same ↦
          let is : word_at (set row (m / 64) x) w ≡ x = ap (λ k. get_or (set row (m / 64) x) k 0) same ∙ get_or-set_same row (m / 64) x 0 (omega (arith, within)) in
          ((λ _. inl same), (λ _. omega (arith, is, some)))
      | inr apart ↦
          let is : word_at (set row (m / 64) x) w ≡ word_at row w = get_or-set_other row (m / 64) w x 0 apart in
          ((λ used. inr (omega (arith, is, used))), (λ either. elim either [ inl same ↦ absurd (apart same) | inr used ↦ omega (arith, is, used) ]))
    ]

-- the word of a number with its bit set, and with its bit cleared
pub set_bit_marks : (row : List ℕ) (m old : ℕ) → m < 64 * length row → old ≡ word_at row (m / 64)
    → (n : ℕ) → IsMarked (set row (m / 64) (bit_or old (1 * 2 ^ (m % 64) % 2 ^ 64))) n ↔ ((n ≡ m) ⊎ IsMarked row n)
set_bit_marks row m old within is =
    let low : m % 64 < 64 = omega arith in
    set_marks row m (bit_or old (1 * 2 ^ (m % 64) % 2 ^ 64)) within (bit_at_set_same w64 old (m % 64) low)
    (λ i less other. bit_at_set_other w64 old (m % 64) low i other ∙ ap (λ w. bit_at w i) is)

pub set_bit_uses : (row : List ℕ) (m old : ℕ) → m < 64 * length row
    → (w : ℕ) → IsUsed (set row (m / 64) (bit_or old (1 * 2 ^ (m % 64) % 2 ^ 64))) w ↔ ((w ≡ m / 64) ⊎ IsUsed row w)
set_bit_uses row m old within =
    let low : m % 64 < 64 = omega arith in
    let new : ℕ = bit_or old (1 * 2 ^ (m % 64) % 2 ^ 64) in
    set_uses row m new within (bit_used new (m % 64) (bit_at_set_same w64 old (m % 64) low))

pub clear_bit_marks : (row : List ℕ) (m old : ℕ) → m < 64 * length row → old ≡ word_at row (m / 64)
    → (n : ℕ) → IsMarked (set row (m / 64) (bit_and old (bit_not w64 (1 * 2 ^ (m % 64) % 2 ^ 64)))) n ↔ ((n ≢ m) × IsMarked row n)
clear_bit_marks row m old within is =
    let low : m % 64 < 64 = omega arith in
    clear_marks row m (bit_and old (bit_not w64 (1 * 2 ^ (m % 64) % 2 ^ 64))) within (bit_at_clear_same w64 old (m % 64) low)
    (λ i less other. bit_at_clear_other w64 old (m % 64) low i less other ∙ ap (λ w. bit_at w i) is)

pub word_missing : (row : List ℕ) (w : ℕ) → None ≡ slice_get row w → 0 ≡ word_at row w
word_missing [] w is = refl
word_missing (x ∷ row) zero is = absurd (cc is)
word_missing (x ∷ row) (suc w) is = word_missing row w is

-- a word that isn't 0 is there
pub used_within : (row : List ℕ) (w : ℕ) → IsUsed row w → w < length row
used_within [] w used = absurd (omega (arith, used))
used_within (x ∷ row) zero used = omega arith
used_within (x ∷ row) (suc w) used = omega (arith, used_within row w used)

-- ---- the row above, after a number was marked
pub under_marked : (row row' : List ℕ) (above above' : List (List ℕ)) (w : ℕ) → IsUnder row above → 0 < length above → length above' ≡ length above
    → length row' ≡ length row → length (lowest above') ≡ length (lowest above)
    → ((k : ℕ) → IsUsed row' k ↔ ((k ≡ w) ⊎ IsUsed row k)) → ((k : ℕ) → IsMarked (lowest above') k ↔ ((k ≡ w) ⊎ IsMarked (lowest above) k))
    → IsUnder row' above'
under_marked row row' [] above' w under some count long room used marked = absurd (omega (arith, some))
under_marked row row' (a ∷ rest) [] w under some count long room used marked = absurd (omega (arith, count))
under_marked row row' (a ∷ rest) (b ∷ others_above) w under some count long room used marked = (
  let fits : length row ≤ 64 * length a = under.0 in omega (arith, long, room, fits),
  λ k. (
    (λ is. elim ((marked k).0 is) [ inl same ↦ (used k).1 (inl same) | inr old ↦ (used k).1 (inr ((under.1 k).0 old)) ]),
    (λ is. elim ((used k).0 is) [ inl same ↦ (marked k).1 (inl same) | inr old ↦ (marked k).1 (inr ((under.1 k).1 old)) ]),
  ),
)

-- the word wasn't 0 before, or there is no row above
pub under_kept : (row row' : List ℕ) (above : List (List ℕ)) (w : ℕ) → IsUnder row above → length row' ≡ length row
    → ((k : ℕ) → IsUsed row' k ↔ ((k ≡ w) ⊎ IsUsed row k)) → (above ≡ []) ⊎ IsUsed row w → IsUnder row' above
under_kept row row' [] w under long used either = long ∙ under
under_kept row row' (a ∷ rest) w under long used either =
    let was : IsUsed row w = elim either [ inl none ↦ absurd (cc none) | inr was ↦ was ] in (
      let fits : length row ≤ 64 * length a = under.0 in omega (arith, long, fits),
      λ k. (
        (λ is. (used k).1 (inr ((under.1 k).0 is))),
        (λ is. elim ((used k).0 is) [ inl same ↦ (under.1 k).1 (subst (IsUsed row) (sym same) was) | inr old ↦ (under.1 k).1 old ]),
      ),
    )

-- ---- the row above, after a number was cleared
abbrev pub OtherWords : ℕ → List ℕ → List ℕ → Type 0
OtherWords w row row' = (k : ℕ) → k ≢ w → word_at row' k ≡ word_at row k

pub under_cleared : (row row' : List ℕ) (above above' : List (List ℕ)) (w : ℕ) → IsUnder row above → 0 < length above → length above' ≡ length above
    → length row' ≡ length row → length (lowest above') ≡ length (lowest above)
    → OtherWords w row row' → word_at row' w ≡ 0 → ((k : ℕ) → IsMarked (lowest above') k ↔ ((k ≢ w) × IsMarked (lowest above) k))
    → IsUnder row' above'
under_cleared row row' [] above' w under some count long room others none marked = absurd (omega (arith, some))
under_cleared row row' (a ∷ rest) [] w under some count long room others none marked = absurd (omega (arith, count))
under_cleared row row' (a ∷ rest) (b ∷ others_above) w under some count long room others none marked = (
  let fits : length row ≤ 64 * length a = under.0 in omega (arith, long, room, fits),
  λ k. (
    (λ is. let both = (marked k).0 is in let used = (under.1 k).0 both.1 in omega (arith, used, others k both.0)),
    (λ is. elim (cases_eq k w) [
      | inl same ↦ let there : 0 < word_at row' w = subst (IsUsed row') same is in absurd (omega (arith, there, none))
      | inr apart ↦ (marked k).1 (apart, (under.1 k).1 (omega (arith, is, others k apart)))
    ]),
  ),
)

-- the word isn't 0 after it, or there is no row above
pub under_left : (row row' : List ℕ) (above : List (List ℕ)) (w : ℕ) → IsUnder row above → length row' ≡ length row
    → OtherWords w row row' → (above ≡ []) ⊎ (IsUsed row w × IsUsed row' w) → IsUnder row' above
under_left row row' [] w under long others either = long ∙ under
under_left row row' (a ∷ rest) w under long others either =
    let both : IsUsed row w × IsUsed row' w = elim either [ inl none ↦ absurd (cc none) | inr both ↦ both ] in (
      let fits : length row ≤ 64 * length a = under.0 in omega (arith, long, fits),
      λ k. elim (cases_eq k w) [
        | inl same ↦ ((λ is. subst (IsUsed row') (sym same) both.1), (λ is. (under.1 k).1 (subst (IsUsed row) (sym same) both.0)))
        | inr apart ↦ ((λ is. let used = (under.1 k).0 is in omega (arith, used, others k apart)), (λ is. (under.1 k).1 (omega (arith, is, others k apart))))
      ],
    )

-- ---- the least number

-- the lowest bit of the first used word
pub least_marked : (row : List ℕ) (at : ℕ) → ((w : ℕ) → w < at → IsUsed row w → ⊥) → 0 < word_at row at → word_at row at < 2 ^ 64
    → IsLeastMarked row (64 * at + trailing_zeros w64 (word_at row at))
least_marked row at none some small =
    let word = word_at row at in
    let low = trailing_zeros w64 word in
    let known = bit_at-trailing_zeros w64 word some small in
    let within : low < 64 = known.0 in
    let position : (64 * at + low) / 64 ≡ at = omega (arith, within) in
    let bit : (64 * at + low) % 64 ≡ low = omega (arith, within) in (
      rw (position, bit) known.1,
      λ k below marked.
          elim (cases_eq (k / 64) at) [
            | inl same ↦
                let lower : k % 64 < low = omega (arith, same, below, within) in
                let none_here : bit_at word (k % 64) ≡ 0 = known.2 (k % 64) lower in
                let here : bit_at word (k % 64) ≡ 1 = subst (λ (w : ℕ). bit_at (word_at row w) (k % 64) ≡ 1) same marked in
                omega (arith, none_here, here)
            | inr apart ↦
                let before : k / 64 < at = omega (arith, apart, below, within) in
                none (k / 64) before (bit_used (word_at row (k / 64)) (k % 64) marked)
          ],
    )

pub first_used : (row : List ℕ) (above : List (List ℕ)) (at : ℕ) → IsUnder row above → 0 < length above → IsLeastMarked (lowest above) at
    → IsUsed row at × ((w : ℕ) → w < at → IsUsed row w → ⊥)
first_used row [] at under some least = absurd (omega (arith, some))
first_used row (a ∷ rest) at under some least = ((under.1 at).0 least.0, λ w before used. least.1 w before ((under.1 w).1 used))

-- ---- rows of words that are 0
pub none_in_zeros : (n k : ℕ) → word_at (replicate n 0) k ≡ 0
none_in_zeros zero k = refl
none_in_zeros (suc n) zero = refl
none_in_zeros (suc n) (suc k) = none_in_zeros n k

pub zeros_mark_none : (n k : ℕ) → IsMarked (replicate n 0) k → ⊥
zeros_mark_none n k marked = let none = none_in_zeros n (k / 64) in let used = bit_used (word_at (replicate n 0) (k / 64)) (k % 64) marked in omega (arith, none, used)

zeros_under : (words above : ℕ) (rows : List (List ℕ)) → words ≤ 64 * above → 0 < above → lowest rows ≡ replicate above 0 → IsUnder (replicate words 0) rows
zeros_under words above [] room some is = let none : 0 ≡ above = ap length is ∙ length-replicate above 0 in absurd (omega (arith, none, some))
zeros_under words above (a ∷ rest) room some is =
    let long : length a ≡ above = ap length is ∙ length-replicate above 0 in (
      let it = length-replicate {A = ℕ} words 0 in omega (arith, long, it, room),
      λ k. (
        (λ marked. absurd (zeros_mark_none above k (subst (λ (r : List ℕ). IsMarked r k) is marked))),
        (λ used. let none = none_in_zeros words k in absurd (omega (arith, none, used))),
      ),
    )

pub one_zero_tied : (rows : List (List ℕ)) (words : ℕ) → words ≡ 1 → rows ≡ [] → AreTied (replicate words 0 ∷ rows)
one_zero_tied rows words one none = rw (one, none) (omega arith, refl, tt)

pub zeros_tied : (rows : List (List ℕ)) (words above : ℕ) → words ≤ 2 ^ 26 → words ≤ 64 * above → 0 < above → AreTied rows → lowest rows ≡ replicate above 0
    → AreTied (replicate words 0 ∷ rows)
zeros_tied rows words above few room some tied is =
    ((let it = length-replicate {A = ℕ} words 0 in omega (arith, it, few)), zeros_under words above rows room some is, tied)

-- ---- lists that are empty or not
pub some_there : (n : ℕ) → (n == 0) ≡ false → 0 < n
some_there zero is = absurd (cc is)
some_there (suc n) is = omega arith

zero_test : (n : ℕ) → (n == 0) ≡ true → n ≡ 0
zero_test n is = grind (arith, nat_tests)

pub none_there : {X : Type 0} (xs : List X) → (length xs == 0) ≡ true → xs ≡ []
none_there [] is = refl
none_there (x ∷ xs) is = absurd (omega (arith, zero_test (length (x ∷ xs)) is))

-- the least number of rows, by the first used word of the lowest
pub least_of_rows : (rows above : List (List ℕ)) (row : List ℕ) (at word : ℕ) → rows ≡ row ∷ above → word ≡ word_at row at → (word ≡ 0 → ⊥) → word < 2 ^ 64
    → ((w : ℕ) → w < at → IsUsed row w → ⊥) → IsLeastMarked (lowest rows) (64 * at + trailing_zeros w64 word)
least_of_rows rows above row at word is read some small none =
    rw (is, read) (least_marked row at none (omega (arith, read, some)) (omega (arith, read, small)))

-- the position of a word that isn't 0, and of a bit in it, is no large number
pub position_small : (row : List ℕ) (at word : ℕ) → word ≡ word_at row at → (word ≡ 0 → ⊥) → length row ≤ 2 ^ 26 → 64 * at + count_trailing_zeros 64 word < 2 ^ 64
position_small row at word read some few = omega (arith, used_within row at (omega (arith, read, some)), few, trailing_le 64 word)
