-- What it says that things are read as they are spelled, and nothing else.
use Rattle.std.proofs.Common.{◌≡◌, ◌⊎◌, inl, inr, ℕ, zero, suc, ◌<◌, ◌^◌, Bool, true, false, cond, List, [], ◌∷◌, ◌++◌}
use Rattle.std.proofs.Common.{Option, Some, None, length, take, drop, get_or, refl, sym, ap, ◌∙◌, subst, arith, append_assoc}
use Rattle.std.specs.Prelude.{IsTrue, nat_lt}
use Rattle.std.specs.List.{flat_map, list_all, AllByRecursion as Each}
use Rattle.std.specs.Int.{w32, from_be_bytes}
use Rattle.std.proofs.lemmas.List.{take-append-drop, length-append, length-take}
use Rattle.std.proofs.lemmas.Nat.{be_bytes_4, from_be_bytes-to_be_bytes_4}
use Rattle.std.proofs.Math.Seq.{drop-append_seam, take-append_seam}
use Rattle.std.proofs.lemmas.Bool.{and_from}
use Rattle.std.proofs.lemmas.Option.{some_pair_parts}
use Rattle.type_kinds.proofs.Truths.{first, second}
use borrow.Author.Tests.{ltb-true, ltb-false, lt-ltb, le-ltb}
use Rattle.type_kinds_sets.specs.Names.{Name}
use Rattle.type_bytes.specs.Spelling.{four_bytes, name_bytes}
use Rattle.type_bytes.specs.ShortNames.{is_short}
use Rattle.type_bytes.specs.steps.Reading.{◌>>=◌, many, given, number_at, name_at}

-- each is below 256
abbrev pub AreBytes : List ℕ → Type 0
AreBytes [] = Unit {0}
AreBytes (b ∷ bs) = (b < 256) × AreBytes bs

pub bytes_front : (x y : List ℕ) → AreBytes (x ++ y) → AreBytes x
bytes_front [] y k = tt
bytes_front (b ∷ x) y k = (k.0, bytes_front x y k.1)

pub bytes_back : (x y : List ℕ) → AreBytes (x ++ y) → AreBytes y
bytes_back [] y k = k
bytes_back (b ∷ x) y k = bytes_back x y k.1

pub byte_at : (bs : List ℕ) → AreBytes bs → (i : ℕ) → get_or bs i 0 < 256
byte_at [] k i = omega arith
byte_at (b ∷ bs) k zero = k.0
byte_at (b ∷ bs) k (suc i) = byte_at bs k.1 i

pub are_bytes : (bs : List ℕ) → ((i : ℕ) → get_or bs i 0 < 256) → AreBytes bs
are_bytes [] h = tt
are_bytes (b ∷ bs) h = (h 0, are_bytes bs (λ i. h (suc i)))

pub record Format {X : Type 0} (Good : X → Type 0) (spelled : X → List ℕ) (f : List ℕ → Option (X × List ℕ)) : Type 0 where
  -- what is spelled is read, whatever follows
  pub complete : (x : X) (rest : List ℕ) → Good x → f (spelled x ++ rest) ≡ Some (x, rest)
  -- what is read is spelled so
  pub sound : (bytes : List ℕ) (x : X) (rest : List ℕ) → AreBytes bytes → f bytes ≡ Some (x, rest) → Good x × (bytes ≡ spelled x ++ rest)

-- what is left of bytes are bytes
pub bytes_left : {X : Type 0} {Good : X → Type 0} {spelled : X → List ℕ} {f : List ℕ → Option (X × List ℕ)} → Format Good spelled f → (bytes : List ℕ) (x : X) (rest : List ℕ) → AreBytes bytes
    → f bytes ≡ Some (x, rest) → AreBytes rest
bytes_left {spelled = spelled} t bytes x rest k e = bytes_back (spelled x) rest (subst AreBytes (t.sound bytes x rest k e).1 k)

-- ---- steps

pub bound : {A B : Type 0} (r : Option A) (g : A → Option B) (y : B) → (r >>= g) ≡ Some y → (x : A) × ((r ≡ Some x) × (g x ≡ Some y))
bound (Some x) g y e = (x, (refl, e))
bound None g y e = absurd (let none : None ≡ Some y = e in cc)

pub was_given : {X : Type 0} (b : Bool) (x y : X) → given b x ≡ Some y → (b ≡ true) × (x ≡ y)
was_given true x y e = (refl, let same : Some x ≡ Some y = e in cc)
was_given false x y e = absurd (let none : None ≡ Some y = e in cc)

pub chosen : {A : Type 0} (b : Bool) (r s t : A) → cond b r s ≡ t → ((b ≡ true) × (r ≡ t)) ⊎ ((b ≡ false) × (s ≡ t))
chosen true r s t e = inl (refl, e)
chosen false r s t e = inr (refl, e)

pub never : {A : Type 0} {P : Type 0} (x : A) → None ≡ Some x → P
never x e = absurd (let none : None ≡ Some x = e in cc)

-- the second where the first is refused
pub passed : {A : Type 0} (b : Bool) (r : Option A) (y : A) → cond b None r ≡ Some y → (b ≡ false) × (r ≡ Some y)
passed true r y e = never y e
passed false r y e = (refl, e)

pub granted : {A : Type 0} (b : Bool) (r : Option A) (y : A) → cond b r None ≡ Some y → (b ≡ true) × (r ≡ Some y)
granted true r y e = (refl, e)
granted false r y e = never y e

-- ---- n items

module _ {X : Type 0} {Good : X → Type 0} {spelled : X → List ℕ} {f : List ℕ → Option (X × List ℕ)} (t : Format Good spelled f) where
  many_complete : (n : ℕ) (xs : List X) (rest : List ℕ) → length xs ≡ n → Each Good xs → many n f (flat_map spelled xs ++ rest) ≡ Some (xs, rest)
  many_complete zero [] rest l k = refl
  many_complete zero (x ∷ xs) rest l k = absurd (omega arith)
  many_complete (suc n) [] rest l k = absurd (omega arith)
  many_complete (suc n) (x ∷ xs) rest l k =
      let later = flat_map spelled xs ++ rest in
      ap (many (suc n) f) (append_assoc (spelled x) (flat_map spelled xs) rest)
      ∙ ap (λ r. r >>= λ y. many n f y.1 >>= λ ys. Some (y.0 ∷ ys.0, ys.1)) (t.complete x later k.0)
      ∙ ap (λ r. r >>= λ ys. Some (x ∷ ys.0, ys.1)) (many_complete n xs rest (omega arith) k.1)

  many_sound : (n : ℕ) (bytes : List ℕ) (xs : List X) (rest : List ℕ) → AreBytes bytes → many n f bytes ≡ Some (xs, rest) → ((length xs ≡ n) × Each Good xs) × (bytes ≡ flat_map spelled xs ++ rest)
  many_sound zero bytes xs rest k e =
      let s = some_pair_parts [] xs bytes rest e in
      subst (λ ys. ((length ys ≡ 0) × Each Good ys) × (bytes ≡ flat_map spelled ys ++ rest)) s.0 ((refl, tt), s.1)
  many_sound (suc n) bytes xs rest k e =
      let x = bound (f bytes) (λ y. many n f y.1 >>= λ ys. Some (y.0 ∷ ys.0, ys.1)) (xs, rest) e in
      let ys = bound (many n f x.0.1) (λ ys. Some (x.0.0 ∷ ys.0, ys.1)) (xs, rest) x.1.1 in
      let head = t.sound bytes x.0.0 x.0.1 k x.1.0 in
      let tail = many_sound n x.0.1 ys.0.0 ys.0.1 (bytes_left t bytes x.0.0 x.0.1 k x.1.0) ys.1.0 in
      let s = some_pair_parts (x.0.0 ∷ ys.0.0) xs ys.0.1 rest ys.1.1 in
      subst (λ zs. ((length zs ≡ suc n) × Each Good zs) × (bytes ≡ flat_map spelled zs ++ rest)) s.0
      ((ap suc tail.0.0, (head.0, tail.0.1)), head.1 ∙ ap (λ b. spelled x.0.0 ++ b) (tail.1 ∙ ap (λ r. flat_map spelled ys.0.0 ++ r) s.1) ∙ sym (append_assoc (spelled x.0.0) (flat_map spelled ys.0.0) rest))

  pub many_format : (n : ℕ) → Format (λ xs. (length xs ≡ n) × Each Good xs) (flat_map spelled) (many n f)
  many_format n = record { complete = λ xs rest k. many_complete n xs rest k.0 k.1; sound = many_sound n }

-- ---- numbers

length-four : (n : ℕ) → length (four_bytes n) ≡ 4
unfolding four_bytes
length-four n = refl

four_from : (n : ℕ) → n < 2 ^ 32 → from_be_bytes w32 (four_bytes n) ≡ n
unfolding four_bytes
four_from n h = from_be_bytes-to_be_bytes_4 n h

from_four : (bs : List ℕ) → length bs ≡ 4 → AreBytes bs → four_bytes (from_be_bytes w32 bs) ≡ bs
unfolding four_bytes
from_four bs l k = be_bytes_4 bs (from_be_bytes w32 bs) l (byte_at bs k) refl

from_small : (bs : List ℕ) → AreBytes bs → from_be_bytes w32 bs < 2 ^ 32
from_small bs k = omega (arith, byte_at bs k 0, byte_at bs k 1, byte_at bs k 2, byte_at bs k 3)

pub number_format : Format (λ n. n < 2 ^ 32) four_bytes number_at
unfolding number_at
number_format = record {
  complete = λ n rest h.
      let bytes = four_bytes n ++ rest in
      let long : nat_lt (length bytes) 4 ≡ false = le-ltb (length bytes) 4 (omega (arith, length-append (four_bytes n) rest, length-four n)) in
      let front : take 4 bytes ≡ four_bytes n = ap (λ k. take k bytes) (sym (length-four n)) ∙ take-append_seam (four_bytes n) rest in
      let back : drop 4 bytes ≡ rest = ap (λ k. drop k bytes) (sym (length-four n)) ∙ drop-append_seam (four_bytes n) rest in
      ap (λ b. cond b None (Some (from_be_bytes w32 (take 4 bytes), drop 4 bytes))) long ∙ (λ i. Some (from_be_bytes w32 (front i), back i)) ∙ ap (λ m. Some (m, rest)) (four_from n h);
  sound = λ bytes n rest k e.
      let p = passed (nat_lt (length bytes) 4) (Some (from_be_bytes w32 (take 4 bytes), drop 4 bytes)) (n, rest) e in
      let s = some_pair_parts (from_be_bytes w32 (take 4 bytes)) n (drop 4 bytes) rest p.1 in
      let long = ltb-false (length bytes) 4 p.0 in
      let l : length (take 4 bytes) ≡ 4 = omega (arith, length-take 4 bytes) in
      let front = bytes_front (take 4 bytes) (drop 4 bytes) (subst AreBytes (sym (take-append-drop 4 bytes)) k) in
      (subst (λ m. m < 2 ^ 32) s.0 (from_small (take 4 bytes) front), sym (take-append-drop 4 bytes) ∙ (λ i. sym (from_four (take 4 bytes) l front) i ++ s.1 i) ∙ ap (λ m. four_bytes m ++ rest) s.0);
}

-- ---- atoms

pub name_format : Format (λ a. IsTrue (is_short a)) name_bytes name_at
unfolding name_at
name_format = record {
  complete = λ a rest k.
      let after = a ++ rest in
      let long : nat_lt (length after) (length a) ≡ false = le-ltb (length after) (length a) (omega (arith, length-append a rest)) in
      ap (λ b. number_at b >>= λ n. cond (nat_lt (length n.1) n.0) None (Some (take n.0 n.1, drop n.0 n.1))) (append_assoc (four_bytes (length a)) a rest)
      ∙ ap (λ r. r >>= λ n. cond (nat_lt (length n.1) n.0) None (Some (take n.0 n.1, drop n.0 n.1))) (number_format.complete (length a) after (ltb-true (length a) (2 ^ 32) k))
      ∙ ap (λ b. cond b None (Some (take (length a) after, drop (length a) after))) long
      ∙ (λ i. Some (take-append_seam a rest i, drop-append_seam a rest i));
  sound = λ bytes a rest k e.
      let n = bound (number_at bytes) (λ n. cond (nat_lt (length n.1) n.0) None (Some (take n.0 n.1, drop n.0 n.1))) (a, rest) e in
      let p = passed (nat_lt (length n.0.1) n.0.0) (Some (take n.0.0 n.0.1, drop n.0.0 n.0.1)) (a, rest) n.1.1 in
      let s = some_pair_parts (take n.0.0 n.0.1) a (drop n.0.0 n.0.1) rest p.1 in
      let number = number_format.sound bytes n.0.0 n.0.1 k n.1.0 in
      let long = ltb-false (length n.0.1) n.0.0 p.0 in
      let l : length a ≡ n.0.0 = ap length (sym s.0) ∙ omega (arith, length-take n.0.0 n.0.1) in
      let small = number.0 in
      (lt-ltb (length a) (2 ^ 32) (omega arith), number.1 ∙ (λ i. four_bytes (sym l i) ++ sym (take-append-drop n.0.0 n.0.1) i) ∙ (λ i. four_bytes (length a) ++ (s.0 i ++ s.1 i)) ∙ sym (append_assoc (four_bytes (length a)) a rest));
}

-- each name of a list is short
pub short_each : (xs : List Name) → IsTrue (list_all is_short xs) → Each (λ a. IsTrue (is_short a)) xs
short_each [] k = tt
short_each (x ∷ xs) k = (first (is_short x) (list_all is_short xs) k, short_each xs (second (is_short x) (list_all is_short xs) k))

pub each_short : (xs : List Name) → Each (λ a. IsTrue (is_short a)) xs → IsTrue (list_all is_short xs)
each_short [] k = refl
each_short (x ∷ xs) k = and_from (is_short x) (list_all is_short xs) k.0 (each_short xs k.1)
