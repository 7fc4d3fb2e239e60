-- The bits of a mask.
use Rattle.std.proofs.Common.{◌≡◌, ℕ, zero, suc, ◌+◌, ◌*◌, ◌/◌, ◌<◌, ◌≤◌, Bool, true, false, cond, refl, arith}
use Rattle.std.specs.Prelude.{◌==◌}
use Rattle.std.specs.Int.{bit_at}
use Rattle.std.proofs.lemmas.Bool.{false_from_ne_true}
use borrow.Author.Tests.{eqb-true, eq-eqb}

-- what a bit adds
abbrev pub one_if : Bool → ℕ
one_if b = cond b 1 0

few : (b : Bool) → one_if b ≤ 1
few true = omega arith
few false = omega arith

bit_is : (b : Bool) (n : ℕ) → n ≡ one_if b → (n == 1) ≡ b
bit_is true n e = eq-eqb n 1 e
bit_is false n e = false_from_ne_true (n == 1) (λ h. let one = eqb-true n 1 h in absurd (omega arith))

pub bit_adds : (n : ℕ) → n < 2 → one_if (n == 1) ≡ n
bit_adds zero h = refl
bit_adds (suc zero) h = refl
bit_adds (suc (suc n)) h = absurd (omega arith)

-- the number of twelve bits, the first the lowest
abbrev pub number_of : (a b c d e f g h i j k l : Bool) → ℕ
number_of a b c d e f g h i j k l = one_if a + 2 * (one_if b + 2 * (one_if c + 2
    * (one_if d + 2 * (one_if e + 2 * (one_if f + 2 * (one_if g + 2 * (one_if h + 2 * (one_if i + 2 * (one_if j + 2 * (one_if k + 2 * (one_if l + 2 * (0))))))))))))

-- each is the bit of the number
pub record AreBits (m : ℕ) (a b c d e f g h i j k l : Bool) : Type 0 where
  pub bit_0 : (bit_at m 0 == 1) ≡ a
  pub bit_1 : (bit_at m 1 == 1) ≡ b
  pub bit_2 : (bit_at m 2 == 1) ≡ c
  pub bit_3 : (bit_at m 3 == 1) ≡ d
  pub bit_4 : (bit_at m 4 == 1) ≡ e
  pub bit_5 : (bit_at m 5 == 1) ≡ f
  pub bit_6 : (bit_at m 6 == 1) ≡ g
  pub bit_7 : (bit_at m 7 == 1) ≡ h
  pub bit_8 : (bit_at m 8 == 1) ≡ i
  pub bit_9 : (bit_at m 9 == 1) ≡ j
  pub bit_10 : (bit_at m 10 == 1) ≡ k
  pub bit_11 : (bit_at m 11 == 1) ≡ l
  pub some : m < 4096

pub bits_of : (a b c d e f g h i j k l : Bool) → AreBits (number_of a b c d e f g h i j k l) a b c d e f g h i j k l
bits_of a b c d e f g h i j k l =
    let few_a = few a in
    let few_b = few b in
    let few_c = few c in
    let few_d = few d in
    let few_e = few e in
    let few_f = few f in
    let few_g = few g in
    let few_h = few h in
    let few_i = few i in
    let few_j = few j in
    let few_k = few k in
    let few_l = few l in
    record {
      bit_0 = bit_is a (bit_at (number_of a b c d e f g h i j k l) 0) (omega arith);
      bit_1 = bit_is b (bit_at (number_of a b c d e f g h i j k l) 1) (omega arith);
      bit_2 = bit_is c (bit_at (number_of a b c d e f g h i j k l) 2) (omega arith);
      bit_3 = bit_is d (bit_at (number_of a b c d e f g h i j k l) 3) (omega arith);
      bit_4 = bit_is e (bit_at (number_of a b c d e f g h i j k l) 4) (omega arith);
      bit_5 = bit_is f (bit_at (number_of a b c d e f g h i j k l) 5) (omega arith);
      bit_6 = bit_is g (bit_at (number_of a b c d e f g h i j k l) 6) (omega arith);
      bit_7 = bit_is h (bit_at (number_of a b c d e f g h i j k l) 7) (omega arith);
      bit_8 = bit_is i (bit_at (number_of a b c d e f g h i j k l) 8) (omega arith);
      bit_9 = bit_is j (bit_at (number_of a b c d e f g h i j k l) 9) (omega arith);
      bit_10 = bit_is k (bit_at (number_of a b c d e f g h i j k l) 10) (omega arith);
      bit_11 = bit_is l (bit_at (number_of a b c d e f g h i j k l) 11) (omega arith);
      some = omega arith;
    }

-- a number of twelve bits is that of its bits
pub of_bits : (m : ℕ) → m < 4096 → number_of (bit_at m 0 == 1) (bit_at m 1 == 1) (bit_at m 2 == 1) (bit_at m 3 == 1) (bit_at m 4 == 1) (bit_at m 5 == 1) (bit_at m 6 == 1) (bit_at m 7 == 1) (bit_at m 8 == 1) (bit_at m 9 == 1)
    (bit_at m 10 == 1) (bit_at m 11 == 1) ≡ m
of_bits m h =
    let add_0 = bit_adds (bit_at m 0) (omega arith) in
    let add_1 = bit_adds (bit_at m 1) (omega arith) in
    let add_2 = bit_adds (bit_at m 2) (omega arith) in
    let add_3 = bit_adds (bit_at m 3) (omega arith) in
    let add_4 = bit_adds (bit_at m 4) (omega arith) in
    let add_5 = bit_adds (bit_at m 5) (omega arith) in
    let add_6 = bit_adds (bit_at m 6) (omega arith) in
    let add_7 = bit_adds (bit_at m 7) (omega arith) in
    let add_8 = bit_adds (bit_at m 8) (omega arith) in
    let add_9 = bit_adds (bit_at m 9) (omega arith) in
    let add_10 = bit_adds (bit_at m 10) (omega arith) in
    let add_11 = bit_adds (bit_at m 11) (omega arith) in
    let step_0 : m ≡ bit_at m 0 + 2 * (m / 2) = omega arith in
    let step_1 : m / 2 ≡ bit_at m 1 + 2 * (m / 4) = omega arith in
    let step_2 : m / 4 ≡ bit_at m 2 + 2 * (m / 8) = omega arith in
    let step_3 : m / 8 ≡ bit_at m 3 + 2 * (m / 16) = omega arith in
    let step_4 : m / 16 ≡ bit_at m 4 + 2 * (m / 32) = omega arith in
    let step_5 : m / 32 ≡ bit_at m 5 + 2 * (m / 64) = omega arith in
    let step_6 : m / 64 ≡ bit_at m 6 + 2 * (m / 128) = omega arith in
    let step_7 : m / 128 ≡ bit_at m 7 + 2 * (m / 256) = omega arith in
    let step_8 : m / 256 ≡ bit_at m 8 + 2 * (m / 512) = omega arith in
    let step_9 : m / 512 ≡ bit_at m 9 + 2 * (m / 1024) = omega arith in
    let step_10 : m / 1024 ≡ bit_at m 10 + 2 * (m / 2048) = omega arith in
    let step_11 : m / 2048 ≡ bit_at m 11 + 2 * (m / 4096) = omega arith in
    omega arith
