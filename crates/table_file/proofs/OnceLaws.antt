-- No spelling begins another, and each is the spelling of one value: numbers, names and lists.
use Rattle.std.proofs.Common.{◌≡◌, ℕ, ◌/◌, ◌%◌, ◌^◌, ◌<◌, Bool, true, List, [], ◌∷◌, ◌++◌, length, refl, sym, ap, ◌∙◌, append_assoc, arith}
use Rattle.std.specs.List.{flat_map, list_all}
use Rattle.type_kinds.proofs.Truths.{first, second}
use Rattle.table_file.specs.Spelling.{four_bytes, counted, text_bytes}
use Rattle.table_file.specs.steps.Reads.{anything, NoneFirst, Once}

-- ---- pieces of lists

-- lists that go on from prefixes of the same length
pub apart : {X : Type 0} (xs ys a b : List X) → length xs ≡ length ys → xs ++ a ≡ ys ++ b → (xs ≡ ys) × (a ≡ b)
apart [] [] a b n e = (refl, e)
apart [] (y ∷ ys) a b n e = absurd (omega arith)
apart (x ∷ xs) [] a b n e = absurd (omega arith)
apart (x ∷ xs) (y ∷ ys) a b n e =
    let head : x ≡ y = cc in
    let tail : xs ++ a ≡ ys ++ b = cc in
    let same : length xs ≡ length ys = omega arith in
    let rest = apart xs ys a b same tail in
    (cc, rest.1)

-- a field, and then the others
pub fields : (whole a rest more : List ℕ) → whole ≡ a ++ rest → whole ++ more ≡ a ++ (rest ++ more)
fields whole a rest more e = ap (λ w. w ++ more) e ∙ append_assoc a rest more

-- ---- numbers

number_is : (m n : ℕ) → m / 2 ^ 24 ≡ n / 2 ^ 24 → m / 2 ^ 16 % 256 ≡ n / 2 ^ 16 % 256
    → m / 2 ^ 8 % 256 ≡ n / 2 ^ 8 % 256 → m % 256 ≡ n % 256 → m ≡ n
number_is m n p q r s = omega arith

pub four_once : Once anything four_bytes
unfolding four_bytes
four_once = record {
  only = λ m n a b _ _ e.
      let p : m / 2 ^ 24 ≡ n / 2 ^ 24 = cc in
      let q : m / 2 ^ 16 % 256 ≡ n / 2 ^ 16 % 256 = cc in
      let r : m / 2 ^ 8 % 256 ≡ n / 2 ^ 8 % 256 = cc in
      let s : m % 256 ≡ n % 256 = cc in
      (number_is m n p q r s, cc);
}

-- ---- names

pub text_once : Once anything text_bytes
unfolding text_bytes
text_once = record {
  only = λ x y a b _ _ e.
      let n = four_once.only (length x) (length y) (x ++ a) (y ++ b) refl refl
      (sym (append_assoc (four_bytes (length x)) x a) ∙ e ∙ append_assoc (four_bytes (length y)) y b) in
      apart x y a b n.0 n.1;
}

-- ---- lists

-- lists of one length
pub flat_once : {X : Type 0} {test : X → Bool} {f : X → List ℕ} → Once test f → (xs ys : List X) (a b : List ℕ)
    → length xs ≡ length ys → list_all test xs ≡ true → list_all test ys ≡ true
    → flat_map f xs ++ a ≡ flat_map f ys ++ b → (xs ≡ ys) × (a ≡ b)
flat_once o [] [] a b n p q e = (refl, e)
flat_once o [] (y ∷ ys) a b n p q e = absurd (omega arith)
flat_once o (x ∷ xs) [] a b n p q e = absurd (omega arith)
flat_once {X} {test} {f} o (x ∷ xs) (y ∷ ys) a b n p q e =
    let head = o.only x y (flat_map f xs ++ a) (flat_map f ys ++ b) (first (test x) (list_all test xs) p)
    (first (test y) (list_all test ys) q)
    (sym (append_assoc (f x) (flat_map f xs) a) ∙ e ∙ append_assoc (f y) (flat_map f ys) b) in
    let same : length xs ≡ length ys = omega arith in
    let rest = flat_once o xs ys a b same (second (test x) (list_all test xs) p)
    (second (test y) (list_all test ys) q) head.1 in
    let is : x ≡ y = head.0 in
    let are : xs ≡ ys = rest.0 in
    (cc, rest.1)

pub counted_once : {X : Type 0} {test : X → Bool} {f : X → List ℕ} → Once test f → Once (list_all test) (counted f)
unfolding counted
counted_once {X} {test} {f} o = record {
  only = λ xs ys a b p q e.
      let n = four_once.only (length xs) (length ys) (flat_map f xs ++ a) (flat_map f ys ++ b) refl refl
      (sym (append_assoc (four_bytes (length xs)) (flat_map f xs) a) ∙ e
      ∙ append_assoc (four_bytes (length ys)) (flat_map f ys) b) in
      flat_once o xs ys a b n.0 p q n.1;
}

-- Where some of a longer list were read, and none stands first behind them, the list isn't there.
pub flat_none : {X : Type 0} {test : X → Bool} {f : X → List ℕ} → Once test f → (xs ys : List X) (r b : List ℕ)
    → length xs < length ys → list_all test xs ≡ true → list_all test ys ≡ true → NoneFirst test f r
    → flat_map f xs ++ r ≡ flat_map f ys ++ b → ⊥
flat_none o [] [] r b n p q none e = omega arith
flat_none o (x ∷ xs) [] r b n p q none e = omega arith
flat_none {X} {test} {f} o [] (y ∷ ys) r b n p q none e =
    none.never y (flat_map f ys ++ b) (first (test y) (list_all test ys) q) (e ∙ append_assoc (f y) (flat_map f ys) b)
flat_none {X} {test} {f} o (x ∷ xs) (y ∷ ys) r b n p q none e =
    let head = o.only x y (flat_map f xs ++ r) (flat_map f ys ++ b) (first (test x) (list_all test xs) p)
    (first (test y) (list_all test ys) q)
    (sym (append_assoc (f x) (flat_map f xs) r) ∙ e ∙ append_assoc (f y) (flat_map f ys) b) in
    flat_none o xs ys r b (omega arith) (second (test x) (list_all test xs) p)
    (second (test y) (list_all test ys) q) none head.1
