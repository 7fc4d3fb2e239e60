-- Sets of atoms and of integers, bit strings and functions are read as they are spelled, and nothing else.
use Rattle.std.proofs.Common.{◌≡◌, inl, inr, ℕ, zero, suc, ◌+◌, ◌*◌, ◌-◌, ◌/◌, ◌%◌, ◌<◌, ◌^◌, ℤ, pos, negsuc, true, false, cond, ◌&&◌, List}
use Rattle.std.proofs.Common.{[], ◌∷◌, ◌++◌, Option, Some, None, length, take, drop, get_or, refl, sym, ap, ◌∙◌, subst, arith, true≢false}
use Rattle.std.specs.Prelude.{IsTrue, nat_lt, nat_le, ◌==◌}
use Rattle.std.specs.List.{flat_map, list_all, AllByRecursion as Each}
use Rattle.std.specs.Int.{w128, from_be_bytes, to_be_bytes, cast_signed, cast_unsigned}
use Rattle.std.specs.Ordering.{int_cmp}
use Rattle.std.proofs.lemmas.List.{take-append-drop, length-append, length-take}
use Rattle.std.proofs.lemmas.Int.{to_z-of_z, of_z-to_z}
use Rattle.std.proofs.lemmas.Nat.{div-mul-add, mod-mul-add}
use Rattle.std.proofs.Math.Seq.{drop-append_seam, take-append_seam}
use Rattle.std.proofs.Math.Facts as facts
use Rattle.std.proofs.lemmas.Bool.{false_from_ne_true}
use Rattle.std.proofs.lemmas.Option.{some_pair_parts}
use Rattle.type_kinds.proofs.Truths.{first as first_true, second as second_true}
use mir.Val.{SFits}
use native.Mathlib.Nat as nat
use borrow.Author.Tests.{ltb-true, ltb-false, lt-ltb, le-ltb, eqb-true, eqb-false, leb-true, le-leb}
use Rattle.type_kinds.specs.declared.digits.TheConstants.{MAGNITUDE_LIMIT}
use Rattle.type_kinds_sets.specs.Ascending.{is_ascending}
use Rattle.type_kinds_sets.specs.Few.{are_few}
use Rattle.type_kinds_sets.specs.Ends.{is_range}
use Rattle.type_kinds_sets.specs.Names as names
use Rattle.type_kinds_sets.specs.Names.{Name, Names, name_cmp}
use Rattle.type_kinds_sets.specs.Numbers as numbers
use Rattle.type_kinds_sets.specs.Numbers.{Numbers, is_narrow}
use Rattle.type_kinds_sets.specs.declared.ends.Low.{Low}
use Rattle.type_kinds_sets.specs.declared.ends.Low.TheVariants as low
use Rattle.type_kinds_sets.specs.declared.ends.High.{High}
use Rattle.type_kinds_sets.specs.declared.ends.High.TheVariants as high
use Rattle.type_kinds_sets.specs.declared.bits.Bits.{Bits}
use Rattle.type_kinds_sets.specs.declared.bits.Bits.TheVariants.{No, Whole, Any}
use Rattle.type_lattice_model.specs.Shapes.{Functions, no_function, of_arity, all_functions}
use Rattle.type_lattice_model.specs.Operations.{is_no_bits, is_no_function}
use Rattle.type_lattice_model.specs.Normal.{NormalFunctions}
use Rattle.type_bytes.specs.Spelling.{int_bytes, name_bytes, four_bytes, atoms_bytes, ints_bytes, bits_bytes, functions_bytes, low_number, high_number}
use Rattle.type_bytes.specs.ShortNames.{is_short, are_short}
use Rattle.type_bytes.specs.steps.Reading.{◌>>=◌, first, many, given, number_at, name_at, int_at, names_at, atoms_at, low_at, high_at, interval_at, numbers_at, ints_at, bits_at, functions_at}
use Rattle.type_bytes.proofs.FormatLaws.{AreBytes, bytes_front, byte_at, Format, bound, was_given, chosen, never, passed, granted, many_format, number_format, name_format, short_each, each_short}

-- ---- integers of sixteen bytes

byte_in : (low p x high n : ℕ) → low < p → x < 256 → n ≡ (high * 256 + x) * p + low → n / p % 256 ≡ x
byte_in low p x high n below small is = ap (λ m. m / p % 256) is ∙ ap (λ m. m % 256) (div-mul-add (high * 256 + x) p low below) ∙ mod-mul-add high 256 x small

bytes_16 : (a b c d e f g h i j k l m n o p v : ℕ) → a < 256 → b < 256 → c < 256 → d < 256 → e < 256 → f < 256 → g < 256 → h < 256 → i < 256 → j < 256 → k < 256 → l < 256 → m < 256 → n < 256 → o < 256
    → p < 256 → v ≡ a + b * 256 + c * 65536 + d * 16777216 + e * 4294967296 + f * 1099511627776 + g * 281474976710656 + h * 72057594037927936 + i * 18446744073709551616 + j * 4722366482869645213696 + k * 1208925819614629174706176 + l
    * 309485009821345068724781056 + m * 79228162514264337593543950336 + n * 20282409603651670423947251286016 + o * 5192296858534827628530496329220096 + p * 1329227995784915872903807060280344576
    → (v / 1329227995784915872903807060280344576 % 256) ∷ (v / 5192296858534827628530496329220096 % 256) ∷ (v / 20282409603651670423947251286016 % 256) ∷ (v / 79228162514264337593543950336 % 256)
    ∷ (v / 309485009821345068724781056 % 256) ∷ (v / 1208925819614629174706176 % 256) ∷ (v / 4722366482869645213696 % 256) ∷ (v / 18446744073709551616 % 256) ∷ (v / 72057594037927936 % 256) ∷ (v / 281474976710656 % 256)
    ∷ (v / 1099511627776 % 256) ∷ (v / 4294967296 % 256) ∷ (v / 16777216 % 256) ∷ (v / 65536 % 256) ∷ (v / 256 % 256) ∷ (v % 256) ∷ []
    ≡ p ∷ o ∷ n ∷ m ∷ l ∷ k ∷ j ∷ i ∷ h ∷ g ∷ f ∷ e ∷ d ∷ c ∷ b ∷ a ∷ []
bytes_16 a b c d e f g h i j k l m n o p v a' b' c' d' e' f' g' h' i' j' k' l' m' n' o' p' is =
    let split : v ≡ (b + c * 256 + d * 65536 + e * 16777216 + f * 4294967296 + g * 1099511627776 + h * 281474976710656 + i * 72057594037927936 + j * 18446744073709551616 + k * 4722366482869645213696 + l * 1208925819614629174706176 + m
    * 309485009821345068724781056 + n * 79228162514264337593543950336 + o * 20282409603651670423947251286016 + p * 5192296858534827628530496329220096) * 256 + a = omega arith in
    let at_a : v % 256 ≡ a = ap (λ m. m % 256) split ∙ mod-mul-add (b + c * 256 + d * 65536 + e * 16777216 + f * 4294967296 + g * 1099511627776 + h * 281474976710656 + i * 72057594037927936 + j * 18446744073709551616 + k
    * 4722366482869645213696 + l * 1208925819614629174706176 + m * 309485009821345068724781056 + n * 79228162514264337593543950336 + o * 20282409603651670423947251286016 + p * 5192296858534827628530496329220096) 256 a a' in
    let at_b = byte_in (a) 256 b (c + d * 256 + e * 65536 + f * 16777216 + g * 4294967296 + h * 1099511627776 + i * 281474976710656 + j * 72057594037927936 + k * 18446744073709551616 + l * 4722366482869645213696 + m
    * 1208925819614629174706176 + n * 309485009821345068724781056 + o * 79228162514264337593543950336 + p * 20282409603651670423947251286016) v (omega arith) b' (omega arith) in
    let at_c = byte_in (a + b * 256) 65536 c (d + e * 256 + f * 65536 + g * 16777216 + h * 4294967296 + i * 1099511627776 + j * 281474976710656 + k * 72057594037927936 + l * 18446744073709551616 + m * 4722366482869645213696 + n
    * 1208925819614629174706176 + o * 309485009821345068724781056 + p * 79228162514264337593543950336) v (omega arith) c' (omega arith) in
    let at_d = byte_in (a + b * 256 + c * 65536) 16777216 d (e + f * 256 + g * 65536 + h * 16777216 + i * 4294967296 + j * 1099511627776 + k * 281474976710656 + l * 72057594037927936 + m * 18446744073709551616 + n * 4722366482869645213696
    + o * 1208925819614629174706176 + p * 309485009821345068724781056) v (omega arith) d' (omega arith) in
    let at_e = byte_in (a + b * 256 + c * 65536 + d * 16777216) 4294967296 e (f + g * 256 + h * 65536 + i * 16777216 + j * 4294967296 + k * 1099511627776 + l * 281474976710656 + m * 72057594037927936 + n * 18446744073709551616 + o
    * 4722366482869645213696 + p * 1208925819614629174706176) v (omega arith) e' (omega arith) in
    let at_f = byte_in (a + b * 256 + c * 65536 + d * 16777216 + e * 4294967296) 1099511627776 f
    (g + h * 256 + i * 65536 + j * 16777216 + k * 4294967296 + l * 1099511627776 + m * 281474976710656 + n * 72057594037927936 + o * 18446744073709551616 + p * 4722366482869645213696) v (omega arith) f' (omega arith) in
    let at_g = byte_in (a + b * 256 + c * 65536 + d * 16777216 + e * 4294967296 + f * 1099511627776) 281474976710656 g
    (h + i * 256 + j * 65536 + k * 16777216 + l * 4294967296 + m * 1099511627776 + n * 281474976710656 + o * 72057594037927936 + p * 18446744073709551616) v (omega arith) g' (omega arith) in
    let at_h = byte_in (a + b * 256 + c * 65536 + d * 16777216 + e * 4294967296 + f * 1099511627776 + g * 281474976710656) 72057594037927936 h
    (i + j * 256 + k * 65536 + l * 16777216 + m * 4294967296 + n * 1099511627776 + o * 281474976710656 + p * 72057594037927936) v (omega arith) h' (omega arith) in
    let at_i = byte_in (a + b * 256 + c * 65536 + d * 16777216 + e * 4294967296 + f * 1099511627776 + g * 281474976710656 + h * 72057594037927936) 18446744073709551616 i
    (j + k * 256 + l * 65536 + m * 16777216 + n * 4294967296 + o * 1099511627776 + p * 281474976710656) v (omega arith) i' (omega arith) in
    let at_j = byte_in (a + b * 256 + c * 65536 + d * 16777216 + e * 4294967296 + f * 1099511627776 + g * 281474976710656 + h * 72057594037927936 + i * 18446744073709551616) 4722366482869645213696 j
    (k + l * 256 + m * 65536 + n * 16777216 + o * 4294967296 + p * 1099511627776) v (omega arith) j' (omega arith) in
    let at_k = byte_in (a + b * 256 + c * 65536 + d * 16777216 + e * 4294967296 + f * 1099511627776 + g * 281474976710656 + h * 72057594037927936 + i * 18446744073709551616 + j * 4722366482869645213696) 1208925819614629174706176 k
    (l + m * 256 + n * 65536 + o * 16777216 + p * 4294967296) v (omega arith) k' (omega arith) in
    let at_l = byte_in (a + b * 256 + c * 65536 + d * 16777216 + e * 4294967296 + f * 1099511627776 + g * 281474976710656 + h * 72057594037927936 + i * 18446744073709551616 + j * 4722366482869645213696 + k
    * 1208925819614629174706176) 309485009821345068724781056 l (m + n * 256 + o * 65536 + p * 16777216) v (omega arith) l' (omega arith) in
    let at_m = byte_in (a + b * 256 + c * 65536 + d * 16777216 + e * 4294967296 + f * 1099511627776 + g * 281474976710656 + h * 72057594037927936 + i * 18446744073709551616 + j * 4722366482869645213696 + k * 1208925819614629174706176 + l
    * 309485009821345068724781056) 79228162514264337593543950336 m (n + o * 256 + p * 65536) v (omega arith) m' (omega arith) in
    let at_n = byte_in (a + b * 256 + c * 65536 + d * 16777216 + e * 4294967296 + f * 1099511627776 + g * 281474976710656 + h * 72057594037927936 + i * 18446744073709551616 + j * 4722366482869645213696 + k * 1208925819614629174706176 + l
    * 309485009821345068724781056 + m * 79228162514264337593543950336) 20282409603651670423947251286016 n (o + p * 256) v (omega arith) n' (omega arith) in
    let at_o = byte_in (a + b * 256 + c * 65536 + d * 16777216 + e * 4294967296 + f * 1099511627776 + g * 281474976710656 + h * 72057594037927936 + i * 18446744073709551616 + j * 4722366482869645213696 + k * 1208925819614629174706176 + l
    * 309485009821345068724781056 + m * 79228162514264337593543950336 + n * 20282409603651670423947251286016) 5192296858534827628530496329220096 o (p) v (omega arith) o' (omega arith) in
    let at_p = byte_in (a + b * 256 + c * 65536 + d * 16777216 + e * 4294967296 + f * 1099511627776 + g * 281474976710656 + h * 72057594037927936 + i * 18446744073709551616 + j * 4722366482869645213696 + k * 1208925819614629174706176 + l
    * 309485009821345068724781056 + m * 79228162514264337593543950336 + n * 20282409603651670423947251286016 + o * 5192296858534827628530496329220096) 1329227995784915872903807060280344576 p (0) v (omega arith) p' (omega arith) in
    λ i. at_p i ∷ at_o i ∷ at_n i ∷ at_m i ∷ at_l i ∷ at_k i ∷ at_j i ∷ at_i i ∷ at_h i ∷ at_g i ∷ at_f i ∷ at_e i ∷ at_d i ∷ at_c i ∷ at_b i ∷ at_a i ∷ []

written_16 : (bs : List ℕ) → length bs ≡ 16 → get_or bs 0 0 ∷ get_or bs 1 0 ∷ get_or bs 2 0 ∷ get_or bs 3 0 ∷ get_or bs 4 0 ∷ get_or bs 5 0 ∷ get_or bs 6 0 ∷ get_or bs 7 0 ∷ get_or bs 8 0 ∷ get_or bs 9 0
    ∷ get_or bs 10 0 ∷ get_or bs 11 0 ∷ get_or bs 12 0 ∷ get_or bs 13 0 ∷ get_or bs 14 0 ∷ get_or bs 15 0 ∷ [] ≡ bs
written_16 [] l = absurd (omega arith)
written_16 (x0 ∷ []) l = absurd (omega arith)
written_16 (x0 ∷ x1 ∷ []) l = absurd (omega arith)
written_16 (x0 ∷ x1 ∷ x2 ∷ []) l = absurd (omega arith)
written_16 (x0 ∷ x1 ∷ x2 ∷ x3 ∷ []) l = absurd (omega arith)
written_16 (x0 ∷ x1 ∷ x2 ∷ x3 ∷ x4 ∷ []) l = absurd (omega arith)
written_16 (x0 ∷ x1 ∷ x2 ∷ x3 ∷ x4 ∷ x5 ∷ []) l = absurd (omega arith)
written_16 (x0 ∷ x1 ∷ x2 ∷ x3 ∷ x4 ∷ x5 ∷ x6 ∷ []) l = absurd (omega arith)
written_16 (x0 ∷ x1 ∷ x2 ∷ x3 ∷ x4 ∷ x5 ∷ x6 ∷ x7 ∷ []) l = absurd (omega arith)
written_16 (x0 ∷ x1 ∷ x2 ∷ x3 ∷ x4 ∷ x5 ∷ x6 ∷ x7 ∷ x8 ∷ []) l = absurd (omega arith)
written_16 (x0 ∷ x1 ∷ x2 ∷ x3 ∷ x4 ∷ x5 ∷ x6 ∷ x7 ∷ x8 ∷ x9 ∷ []) l = absurd (omega arith)
written_16 (x0 ∷ x1 ∷ x2 ∷ x3 ∷ x4 ∷ x5 ∷ x6 ∷ x7 ∷ x8 ∷ x9 ∷ x10 ∷ []) l = absurd (omega arith)
written_16 (x0 ∷ x1 ∷ x2 ∷ x3 ∷ x4 ∷ x5 ∷ x6 ∷ x7 ∷ x8 ∷ x9 ∷ x10 ∷ x11 ∷ []) l = absurd (omega arith)
written_16 (x0 ∷ x1 ∷ x2 ∷ x3 ∷ x4 ∷ x5 ∷ x6 ∷ x7 ∷ x8 ∷ x9 ∷ x10 ∷ x11 ∷ x12 ∷ []) l = absurd (omega arith)
written_16 (x0 ∷ x1 ∷ x2 ∷ x3 ∷ x4 ∷ x5 ∷ x6 ∷ x7 ∷ x8 ∷ x9 ∷ x10 ∷ x11 ∷ x12 ∷ x13 ∷ []) l = absurd (omega arith)
written_16 (x0 ∷ x1 ∷ x2 ∷ x3 ∷ x4 ∷ x5 ∷ x6 ∷ x7 ∷ x8 ∷ x9 ∷ x10 ∷ x11 ∷ x12 ∷ x13 ∷ x14 ∷ []) l = absurd (omega arith)
written_16 (x0 ∷ x1 ∷ x2 ∷ x3 ∷ x4 ∷ x5 ∷ x6 ∷ x7 ∷ x8 ∷ x9 ∷ x10 ∷ x11 ∷ x12 ∷ x13 ∷ x14 ∷ x15 ∷ []) l = refl
written_16 (x0 ∷ x1 ∷ x2 ∷ x3 ∷ x4 ∷ x5 ∷ x6 ∷ x7 ∷ x8 ∷ x9 ∷ x10 ∷ x11 ∷ x12 ∷ x13 ∷ x14 ∷ x15 ∷ x16 ∷ bs) l = absurd (omega arith)

from_16 : (bs : List ℕ) → length bs ≡ 16 → AreBytes bs → to_be_bytes w128 (from_be_bytes w128 bs) ≡ bs
from_16 bs l k = bytes_16 (get_or bs 15 0) (get_or bs 14 0) (get_or bs 13 0) (get_or bs 12 0) (get_or bs 11 0) (get_or bs 10 0) (get_or bs 9 0) (get_or bs 8 0) (get_or bs 7 0) (get_or bs 6 0) (get_or bs 5 0) (get_or bs 4 0) (get_or bs 3 0)
    (get_or bs 2 0) (get_or bs 1 0) (get_or bs 0 0) (from_be_bytes w128 bs) (byte_at bs k 15) (byte_at bs k 14) (byte_at bs k 13) (byte_at bs k 12) (byte_at bs k 11) (byte_at bs k 10) (byte_at bs k 9) (byte_at bs k 8) (byte_at bs k 7)
    (byte_at bs k 6) (byte_at bs k 5) (byte_at bs k 4) (byte_at bs k 3) (byte_at bs k 2) (byte_at bs k 1) (byte_at bs k 0) (omega arith) ∙ written_16 bs l

small_16 : (bs : List ℕ) → AreBytes bs → from_be_bytes w128 bs < 2 ^ 128
small_16 bs k = omega (
  arith,
  byte_at bs k 0,
  byte_at bs k 1,
  byte_at bs k 2,
  byte_at bs k 3,
  byte_at bs k 4,
  byte_at bs k 5,
  byte_at bs k 6,
  byte_at bs k 7,
  byte_at bs k 8,
  byte_at bs k 9,
  byte_at bs k 10,
  byte_at bs k 11,
  byte_at bs k 12,
  byte_at bs k 13,
  byte_at bs k 14,
  byte_at bs k 15,
)

byte_and_rest : (n p : ℕ) → n / p ≡ n / p % 256 + n / (p * 256) * 256
byte_and_rest n p = omega (arith, nat.div-div-eq-div-mul n p 256)

joined_16 : (a b c d e f g h i j k l m n o p v q1 q2 q3 q4 q5 q6 q7 q8 q9 q10 q11 q12 q13 q14 q15 : ℕ) → v ≡ a + q1 * 256 → q1 ≡ b + q2 * 256 → q2 ≡ c + q3 * 256 → q3 ≡ d + q4 * 256 → q4 ≡ e + q5 * 256
    → q5 ≡ f + q6 * 256 → q6 ≡ g + q7 * 256 → q7 ≡ h + q8 * 256 → q8 ≡ i + q9 * 256 → q9 ≡ j + q10 * 256 → q10 ≡ k + q11 * 256 → q11 ≡ l + q12 * 256 → q12 ≡ m + q13 * 256 → q13 ≡ n + q14 * 256
    → q14 ≡ o + q15 * 256 → q15 ≡ p → p * 1329227995784915872903807060280344576 + o * 5192296858534827628530496329220096 + n * 20282409603651670423947251286016 + m * 79228162514264337593543950336 + l * 309485009821345068724781056
    + k * 1208925819614629174706176 + j * 4722366482869645213696 + i * 18446744073709551616 + h * 72057594037927936 + g * 281474976710656 + f * 1099511627776 + e * 4294967296 + d * 16777216 + c * 65536 + b * 256 + a ≡ v
joined_16 a b c d e f g h i j k l m n o p v q1 q2 q3 q4 q5 q6 q7 q8 q9 q10 q11 q12 q13 q14 q15 at_0 at_1 at_2 at_3 at_4 at_5 at_6 at_7 at_8 at_9 at_10 at_11 at_12 at_13 at_14 at_15 = omega arith

to_16 : (n : ℕ) → n < 2 ^ 128 → from_be_bytes w128 (to_be_bytes w128 n) ≡ n
to_16 n fits =
    let low : n ≡ n % 256 + n / 256 * 256 = omega arith in
    let high : n / 1329227995784915872903807060280344576 ≡ n / 1329227995784915872903807060280344576 % 256 = omega arith in
    joined_16 _ _ _ _ _ _ _ _ _ _ _ _ _ _ _ _ n _ _ _ _ _ _ _ _ _ _ _ _ _ _ _ low (byte_and_rest n 256) (byte_and_rest n 65536) (byte_and_rest n 16777216) (byte_and_rest n 4294967296) (byte_and_rest n 1099511627776)
    (byte_and_rest n 281474976710656) (byte_and_rest n 72057594037927936) (byte_and_rest n 18446744073709551616) (byte_and_rest n 4722366482869645213696) (byte_and_rest n 1208925819614629174706176)
    (byte_and_rest n 309485009821345068724781056) (byte_and_rest n 79228162514264337593543950336) (byte_and_rest n 20282409603651670423947251286016) (byte_and_rest n 5192296858534827628530496329220096) high

pub int_format : Format (λ n. SFits w128 n) int_bytes int_at
unfolding int_at int_bytes
int_format = record {
  complete = λ n rest fits.
      let spelled = to_be_bytes w128 (cast_unsigned w128 n) in
      let bytes = spelled ++ rest in
      let l : length spelled ≡ 16 = refl in
      let long : nat_lt (length bytes) 16 ≡ false = le-ltb (length bytes) 16 (omega (arith, length-append spelled rest)) in
      let front : take 16 bytes ≡ spelled = take-append_seam spelled rest in
      let back : drop 16 bytes ≡ rest = drop-append_seam spelled rest in
      ap (λ b. cond b None (Some (cast_signed w128 (from_be_bytes w128 (take 16 bytes)), drop 16 bytes))) long
      ∙ (λ i. Some (cast_signed w128 (from_be_bytes w128 (front i)), back i))
      ∙ ap (λ m. Some (cast_signed w128 m, rest)) (to_16 (cast_unsigned w128 n) (facts.Fits-of_z fits).fits)
      ∙ ap (λ m. Some (m, rest)) (to_z-of_z w128 n fits);
  sound = λ bytes n rest k e.
      let p = passed (nat_lt (length bytes) 16) (Some (cast_signed w128 (from_be_bytes w128 (take 16 bytes)), drop 16 bytes)) (n, rest) e in
      let s = some_pair_parts (cast_signed w128 (from_be_bytes w128 (take 16 bytes))) n (drop 16 bytes) rest p.1 in
      let long = ltb-false (length bytes) 16 p.0 in
      let l : length (take 16 bytes) ≡ 16 = omega (arith, length-take 16 bytes) in
      let front = bytes_front (take 16 bytes) (drop 16 bytes) (subst AreBytes (sym (take-append-drop 16 bytes)) k) in
      let small = small_16 (take 16 bytes) front in
      let whole = ap (to_be_bytes w128) (of_z-to_z w128 (from_be_bytes w128 (take 16 bytes)) small) ∙ from_16 (take 16 bytes) l front in
      (subst (SFits w128) s.0 (facts.sfits_to_z {w = w128} (record { fits = small })), sym (take-append-drop 16 bytes) ∙ (λ i. sym whole i ++ s.1 i) ∙ ap (λ m. to_be_bytes w128 (cast_unsigned w128 m) ++ rest) s.0);
}

-- ---- sets of atoms

names_complete : (xs : List Name) (e : names.are_listed xs ≡ true) (rest : List ℕ) → Each (λ a. IsTrue (is_short a)) xs → names_at (length xs) (flat_map name_bytes xs ++ rest) ≡ Some (names.some xs e, rest)
unfolding names_at
names_complete xs e rest k =
    ap (λ r. r >>= λ ys. given (names.are_listed ys.0) (names.listed ys.0, ys.1)) ((many_format name_format (length xs)).complete xs rest (refl, k))
    ∙ ap (λ b. given b (names.listed xs, rest)) e
    ∙ ap (λ s. Some (s, rest)) (names.or_else-yes xs names.none e)

names_sound : (n : ℕ) (bytes : List ℕ) (s : Names) (rest : List ℕ) → AreBytes bytes → names_at n bytes ≡ Some (s, rest)
    → (xs : List Name) × ((e : names.are_listed xs ≡ true) × ((s ≡ names.some xs e) × (((length xs ≡ n) × Each (λ a. IsTrue (is_short a)) xs) × (bytes ≡ flat_map name_bytes xs ++ rest))))
unfolding names_at
names_sound n bytes s rest k e =
    let ys = bound (many n name_at bytes) (λ ys. given (names.are_listed ys.0) (names.listed ys.0, ys.1)) (s, rest) e in
    let g = was_given (names.are_listed ys.0.0) (names.listed ys.0.0, ys.0.1) (s, rest) ys.1.1 in
    let all = (many_format name_format n).sound bytes ys.0.0 ys.0.1 k ys.1.0 in
    (ys.0.0, (g.0, (sym (ap (λ p. p.0) g.1) ∙ names.or_else-yes ys.0.0 names.none g.0, (all.0, all.1 ∙ ap (λ r. flat_map name_bytes ys.0.0 ++ r) (ap (λ p. p.1) g.1)))))

few : (n : ℕ) → nat_lt n 14 ≡ true → nat_le n 13 ≡ true
few n h = let k = ltb-true n 14 h in le-leb n 13 (omega arith)

pub atoms_format : Format (λ s. (names.is_none s ≡ false) × IsTrue (are_short s)) atoms_bytes atoms_at
unfolding atoms_at
atoms_format = record { complete = complete; sound = sound }
  where
    complete : (s : Names) (rest : List ℕ) → (names.is_none s ≡ false) × IsTrue (are_short s)
        → first (λ b rest. cond (b == 0) (Some (names.every, rest)) (cond (nat_le b 13) (names_at b rest) None)) (atoms_bytes s ++ rest) ≡ Some (s, rest)
    complete names.every rest k = refl
    complete (names.some [] e) rest k = absurd (true≢false k.0)
    complete (names.some (x ∷ xs) e) rest k =
        let n = length (x ∷ xs) in
        let later = flat_map name_bytes (x ∷ xs) ++ rest in
        let some : (n == 0) ≡ false = false_from_ne_true (n == 0) (λ h. let z = eqb-true n 0 h in absurd (omega arith)) in
        ap (λ b. cond b (Some (names.every, later)) (cond (nat_le n 13) (names_at n later) None)) some
        ∙ ap (λ b. cond b (names_at n later) None) (few n (second_true (is_ascending name_cmp (x ∷ xs)) (are_few (x ∷ xs)) e))
        ∙ names_complete (x ∷ xs) e rest (short_each (x ∷ xs) k.1)

    sound : (bytes : List ℕ) (s : Names) (rest : List ℕ) → AreBytes bytes → first (λ b rest. cond (b == 0) (Some (names.every, rest)) (cond (nat_le b 13) (names_at b rest) None)) bytes ≡ Some (s, rest)
        → ((names.is_none s ≡ false) × IsTrue (are_short s)) × (bytes ≡ atoms_bytes s ++ rest)
    sound [] s rest k e = never (s, rest) e
    sound (b ∷ bytes) s rest k e = elim (chosen (b == 0) (Some (names.every, bytes)) (cond (nat_le b 13) (names_at b bytes) None) (Some (s, rest)) e) [
      | inl c ↦
          let f = some_pair_parts names.every s bytes rest c.1 in
          subst (λ t. ((names.is_none t ≡ false) × IsTrue (are_short t)) × (b ∷ bytes ≡ atoms_bytes t ++ rest)) f.0 ((refl, refl), (λ i. eqb-true b 0 c.0 i ∷ f.1 i))
      | inr c ↦
          let g = granted (nat_le b 13) (names_at b bytes) (s, rest) c.1 in
          let xs = names_sound b bytes s rest k.1 g.1 in
          let some : (names.is_none (names.some xs.0 xs.1.0)) ≡ false = filled xs.0 xs.1.0 (λ z. eqb-false b 0 c.0 (sym xs.1.1.1.0.0 ∙ z)) in
          subst (λ t. ((names.is_none t ≡ false) × IsTrue (are_short t)) × (b ∷ bytes ≡ atoms_bytes t ++ rest)) (sym xs.1.1.0) ((some, each_short xs.0 xs.1.1.1.0.1), (λ i. sym xs.1.1.1.0.0 i ∷ xs.1.1.1.1 i))
    ]
      where
        filled : (xs : List Name) (e : names.are_listed xs ≡ true) → (length xs ≡ 0 → ⊥) → names.is_none (names.some xs e) ≡ false
        filled [] e h = absurd (h refl)
        filled (x ∷ xs) e h = refl

-- ---- sets of integers

narrow_fits : (n : ℤ) → is_narrow n ≡ true → SFits w128 n
narrow_fits (pos n) h = let k = ltb-true n MAGNITUDE_LIMIT h in record { sfits = omega arith }
narrow_fits (negsuc n) h = let k = ltb-true (n + 1) MAGNITUDE_LIMIT h in record { sfits = omega arith }

fits_each : (xs : List ℤ) → list_all is_narrow xs ≡ true → Each (λ n. SFits w128 n) xs
fits_each [] k = tt
fits_each (x ∷ xs) k = (narrow_fits x (first_true (is_narrow x) (list_all is_narrow xs) k), fits_each xs (second_true (is_narrow x) (list_all is_narrow xs) k))

numbers_complete : (xs : List ℤ) (e : numbers.are_listed xs ≡ true) (rest : List ℕ) → numbers_at (length xs) (flat_map int_bytes xs ++ rest) ≡ Some (numbers.some xs e, rest)
unfolding numbers_at
numbers_complete xs e rest =
    ap (λ r. r >>= λ ys. given (numbers.are_listed ys.0) (numbers.listed ys.0, ys.1))
    ((many_format int_format (length xs)).complete xs rest (refl, fits_each xs (second_true (is_ascending int_cmp xs && are_few xs) (list_all is_narrow xs) e)))
    ∙ ap (λ b. given b (numbers.listed xs, rest)) e
    ∙ ap (λ s. Some (s, rest)) (numbers.or_else-yes xs numbers.none e)

numbers_sound : (n : ℕ) (bytes : List ℕ) (s : Numbers) (rest : List ℕ) → AreBytes bytes → numbers_at n bytes ≡ Some (s, rest)
    → (xs : List ℤ) × ((e : numbers.are_listed xs ≡ true) × ((s ≡ numbers.some xs e) × ((length xs ≡ n) × (bytes ≡ flat_map int_bytes xs ++ rest))))
unfolding numbers_at
numbers_sound n bytes s rest k e =
    let ys = bound (many n int_at bytes) (λ ys. given (numbers.are_listed ys.0) (numbers.listed ys.0, ys.1)) (s, rest) e in
    let g = was_given (numbers.are_listed ys.0.0) (numbers.listed ys.0.0, ys.0.1) (s, rest) ys.1.1 in
    let all = (many_format int_format n).sound bytes ys.0.0 ys.0.1 k ys.1.0 in
    (ys.0.0, (g.0, (sym (ap (λ p. p.0) g.1) ∙ numbers.or_else-yes ys.0.0 numbers.none g.0, (all.0.0, all.1 ∙ ap (λ r. flat_map int_bytes ys.0.0 ++ r) (ap (λ p. p.1) g.1)))))

interval_complete : (l : Low) (h : High) (e : is_range l h ≡ true) (rest : List ℕ) → interval_at (4 * low_number l + high_number h) rest ≡ Some (numbers.between l h e, rest)
unfolding interval_at low_at high_at
interval_complete l h e rest = ends l h ∙ ap (λ b. given b (numbers.range l h, rest)) e ∙ ap (λ s. Some (s, rest)) (numbers.range-yes l h e)
  where
    ends : (l : Low) (h : High) → interval_at (4 * low_number l + high_number h) rest ≡ given (is_range l h) (numbers.range l h, rest)
    ends low.Min high.MinusOne = refl
    ends low.Min high.Byte = refl
    ends low.Min high.Unicode = refl
    ends low.Min high.Max = refl
    ends low.Zero high.MinusOne = refl
    ends low.Zero high.Byte = refl
    ends low.Zero high.Unicode = refl
    ends low.Zero high.Max = refl
    ends low.One high.MinusOne = refl
    ends low.One high.Byte = refl
    ends low.One high.Unicode = refl
    ends low.One high.Max = refl

abbrev number_of : {X : Type 0} → (X → ℕ) → Option X → ℕ
number_of f None = 0
number_of f (Some x) = f x

low_sound : (n : ℕ) (l : Low) → low_at n ≡ Some l → n ≡ low_number l
unfolding low_at
low_sound zero l e = ap (number_of low_number) e
low_sound (suc zero) l e = ap (number_of low_number) e
low_sound (suc (suc zero)) l e = ap (number_of low_number) e
low_sound (suc (suc (suc n))) l e = never l e

high_sound : (n : ℕ) (h : High) → high_at n ≡ Some h → n ≡ high_number h
unfolding high_at
high_sound zero h e = ap (number_of high_number) e
high_sound (suc zero) h e = ap (number_of high_number) e
high_sound (suc (suc zero)) h e = ap (number_of high_number) e
high_sound (suc (suc (suc zero))) h e = ap (number_of high_number) e
high_sound (suc (suc (suc (suc n)))) h e = never h e

interval_sound : (n : ℕ) (bytes : List ℕ) (s : Numbers) (rest : List ℕ) → interval_at n bytes ≡ Some (s, rest)
    → (l : Low) × ((h : High) × ((e : is_range l h ≡ true) × ((s ≡ numbers.between l h e) × ((n ≡ 4 * low_number l + high_number h) × (bytes ≡ rest)))))
unfolding interval_at
interval_sound n bytes s rest e =
    let l = bound (low_at (n / 4)) (λ l. high_at (n % 4) >>= λ h. given (is_range l h) (numbers.range l h, bytes)) (s, rest) e in
    let h = bound (high_at (n % 4)) (λ h. given (is_range l.0 h) (numbers.range l.0 h, bytes)) (s, rest) l.1.1 in
    let g = was_given (is_range l.0 h.0) (numbers.range l.0 h.0, bytes) (s, rest) h.1.1 in
    let low_is = low_sound (n / 4) l.0 l.1.0 in
    let high_is = high_sound (n % 4) h.0 h.1.0 in
    (l.0, (h.0, (g.0, (sym (ap (λ p. p.0) g.1) ∙ numbers.range-yes l.0 h.0 g.0, (omega arith, ap (λ p. p.1) g.1)))))

abbrev behind : ℕ → List ℕ → Option (Numbers × List ℕ)
behind b rest = cond (nat_le 128 b) (interval_at (b - 128) rest) (cond (b == 0) None (cond (nat_le b 13) (numbers_at b rest) None))

listed : (x : ℤ) (xs : List ℤ) (e : numbers.are_listed (x ∷ xs) ≡ true) (rest : List ℕ) → behind (length (x ∷ xs)) (flat_map int_bytes (x ∷ xs) ++ rest) ≡ Some (numbers.some (x ∷ xs) e, rest)
listed x xs e rest =
    let n = length (x ∷ xs) in
    let later = flat_map int_bytes (x ∷ xs) ++ rest in
    let are_few_here = second_true (is_ascending int_cmp (x ∷ xs)) (are_few (x ∷ xs)) (first_true (is_ascending int_cmp (x ∷ xs) && are_few (x ∷ xs)) (list_all is_narrow (x ∷ xs)) e) in
    let below = ltb-true n 14 are_few_here in
    let no_interval : nat_le 128 n ≡ false = false_from_ne_true (nat_le 128 n) (λ h. let k = leb-true 128 n h in absurd (omega arith)) in
    let some : (n == 0) ≡ false = false_from_ne_true (n == 0) (λ h. let z = eqb-true n 0 h in absurd (omega arith)) in
    ap (λ b. cond b (interval_at (n - 128) later) (cond (n == 0) None (cond (nat_le n 13) (numbers_at n later) None))) no_interval
    ∙ ap (λ b. cond b None (cond (nat_le n 13) (numbers_at n later) None)) some
    ∙ ap (λ b. cond b (numbers_at n later) None) (few n are_few_here)
    ∙ numbers_complete (x ∷ xs) e rest

interval : (l : Low) (h : High) (e : is_range l h ≡ true) (rest : List ℕ) → behind (128 + 4 * low_number l + high_number h) rest ≡ Some (numbers.between l h e, rest)
interval l h e rest =
    let n = 128 + 4 * low_number l + high_number h in
    let less : n - 128 ≡ 4 * low_number l + high_number h = omega arith in
    ap (λ b. cond b (interval_at (n - 128) rest) (cond (n == 0) None (cond (nat_le n 13) (numbers_at n rest) None))) (le-leb 128 n (omega arith))
    ∙ ap (λ m. interval_at m rest) less
    ∙ interval_complete l h e rest

pub ints_format : Format (λ s. numbers.is_none s ≡ false) ints_bytes ints_at
unfolding ints_at
ints_format = record { complete = complete; sound = sound }
  where
    complete : (s : Numbers) (rest : List ℕ) → numbers.is_none s ≡ false → first (λ b rest. cond (nat_le 128 b) (interval_at (b - 128) rest) (cond (b == 0) None (cond (nat_le b 13) (numbers_at b rest) None))) (ints_bytes s ++ rest)
        ≡ Some (s, rest)
    complete (numbers.some [] e) rest k = absurd (true≢false k)
    complete (numbers.some (x ∷ xs) e) rest k = listed x xs e rest
    complete (numbers.between l h e) rest k = interval l h e rest

    filled : (xs : List ℤ) (e : numbers.are_listed xs ≡ true) → (length xs ≡ 0 → ⊥) → numbers.is_none (numbers.some xs e) ≡ false
    filled [] e h = absurd (h refl)
    filled (x ∷ xs) e h = refl

    sound : (bytes : List ℕ) (s : Numbers) (rest : List ℕ) → AreBytes bytes → first (λ b rest. cond (nat_le 128 b) (interval_at (b - 128) rest) (cond (b == 0) None (cond (nat_le b 13) (numbers_at b rest) None))) bytes
        ≡ Some (s, rest) → (numbers.is_none s ≡ false) × (bytes ≡ ints_bytes s ++ rest)
    sound [] s rest k e = never (s, rest) e
    sound (b ∷ bytes) s rest k e = elim (chosen (nat_le 128 b) (interval_at (b - 128) bytes) (cond (b == 0) None (cond (nat_le b 13) (numbers_at b bytes) None)) (Some (s, rest)) e) [
      | inl c ↦
          let i = interval_sound (b - 128) bytes s rest c.1 in
          let least = leb-true 128 b c.0 in
          let is = i.1.1.1.1.0 in
          let code : b ≡ 128 + 4 * low_number i.0 + high_number i.1.0 = omega arith in
          subst (λ t. (numbers.is_none t ≡ false) × (b ∷ bytes ≡ ints_bytes t ++ rest)) (sym i.1.1.1.0) (refl, (λ j. code j ∷ i.1.1.1.1.1 j))
      | inr c ↦
          let p = passed (b == 0) (cond (nat_le b 13) (numbers_at b bytes) None) (s, rest) c.1 in
          let g = granted (nat_le b 13) (numbers_at b bytes) (s, rest) p.1 in
          let xs = numbers_sound b bytes s rest k.1 g.1 in
          let some = filled xs.0 xs.1.0 (λ z. eqb-false b 0 p.0 (sym xs.1.1.1.0 ∙ z)) in
          subst (λ t. (numbers.is_none t ≡ false) × (b ∷ bytes ≡ ints_bytes t ++ rest)) (sym xs.1.1.0) (some, (λ i. sym xs.1.1.1.0 i ∷ xs.1.1.1.1 i))
    ]

-- ---- bit strings and functions

pub bits_format : Format (λ s. is_no_bits s ≡ false) bits_bytes bits_at
unfolding bits_at
bits_format = record { complete = complete; sound = sound }
  where
    complete : (s : Bits) (rest : List ℕ) → is_no_bits s ≡ false → first {X = Bits × List ℕ} (λ b rest. cond (b == 1) (Some (Whole, rest)) (cond (b == 2) (Some (Any, rest)) None)) (bits_bytes s ++ rest) ≡ Some (s, rest)
    complete No rest k = absurd (true≢false k)
    complete Whole rest k = refl
    complete Any rest k = refl

    sound : (bytes : List ℕ) (s : Bits) (rest : List ℕ) → AreBytes bytes → first {X = Bits × List ℕ} (λ b rest. cond (b == 1) (Some (Whole, rest)) (cond (b == 2) (Some (Any, rest)) None)) bytes ≡ Some (s, rest)
        → (is_no_bits s ≡ false) × (bytes ≡ bits_bytes s ++ rest)
    sound [] s rest k e = never (s, rest) e
    sound (b ∷ bytes) s rest k e = elim (chosen (b == 1) (Some (Whole, bytes)) (cond (b == 2) (Some (Any, bytes)) None) (Some (s, rest)) e) [
      | inl c ↦ let f = some_pair_parts Whole s bytes rest c.1 in subst (λ t. (is_no_bits t ≡ false) × (b ∷ bytes ≡ bits_bytes t ++ rest)) f.0 (refl, (λ i. eqb-true b 1 c.0 i ∷ f.1 i))
      | inr c ↦
          let g = granted (b == 2) (Some (Any, bytes)) (s, rest) c.1 in
          let f = some_pair_parts Any s bytes rest g.1 in
          subst (λ t. (is_no_bits t ≡ false) × (b ∷ bytes ≡ bits_bytes t ++ rest)) f.0 (refl, (λ i. eqb-true b 2 g.0 i ∷ f.1 i))
    ]

pub functions_format : Format (λ s. (is_no_function s ≡ false) × NormalFunctions s) functions_bytes functions_at
unfolding functions_at
functions_format = record { complete = complete; sound = sound }
  where
    complete : (s : Functions) (rest : List ℕ) → (is_no_function s ≡ false) × NormalFunctions s
        → first {X = Functions × List ℕ} (λ b rest. cond (b == 0) (Some (all_functions, rest)) (cond (b == 1) (number_at rest >>= λ n. Some (of_arity n.0, n.1)) None)) (functions_bytes s ++ rest) ≡ Some (s, rest)
    complete no_function rest k = absurd (true≢false k.0)
    complete (of_arity n) rest k = ap (λ r. r >>= λ m. Some (of_arity m.0, m.1)) (number_format.complete n rest (ltb-true n (2 ^ 32) k.1))
    complete all_functions rest k = refl

    sound : (bytes : List ℕ) (s : Functions) (rest : List ℕ) → AreBytes bytes → first {X = Functions × List ℕ}
        (λ b rest. cond (b == 0) (Some (all_functions, rest)) (cond (b == 1) (number_at rest >>= λ n. Some (of_arity n.0, n.1)) None)) bytes ≡ Some (s, rest)
        → ((is_no_function s ≡ false) × NormalFunctions s) × (bytes ≡ functions_bytes s ++ rest)
    sound [] s rest k e = never (s, rest) e
    sound (b ∷ bytes) s rest k e = elim (chosen (b == 0) (Some (all_functions, bytes)) (cond (b == 1) (number_at bytes >>= λ n. Some (of_arity n.0, n.1)) None) (Some (s, rest)) e) [
      | inl c ↦ let f = some_pair_parts all_functions s bytes rest c.1 in subst (λ t. ((is_no_function t ≡ false) × NormalFunctions t) × (b ∷ bytes ≡ functions_bytes t ++ rest)) f.0 (
        (refl, tt),
        (λ i. eqb-true b 0 c.0 i ∷ f.1 i),
      )
      | inr c ↦
          let g = granted (b == 1) (number_at bytes >>= λ n. Some (of_arity n.0, n.1)) (s, rest) c.1 in
          let n = bound (number_at bytes) (λ n. Some (of_arity n.0, n.1)) (s, rest) g.1 in
          let f = some_pair_parts (of_arity n.0.0) s n.0.1 rest n.1.1 in
          let number = number_format.sound bytes n.0.0 n.0.1 k.1 n.1.0 in
          subst (λ t. ((is_no_function t ≡ false) × NormalFunctions t) × (b ∷ bytes ≡ functions_bytes t ++ rest)) f.0 (
            (refl, lt-ltb n.0.0 (2 ^ 32) number.0),
            (λ i. eqb-true b 1 g.0 i ∷ (number.1 ∙ ap (λ r. four_bytes n.0.0 ++ r) f.1) i),
          )
    ]
