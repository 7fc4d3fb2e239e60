-- Values of several fields, read one field after the other.
use Rattle.std.proofs.Common.{◌≡◌, ℕ, ◌+◌, ◌<◌, Bool, true, ◌&&◌, List, [], ◌∷◌, ◌++◌, length, refl, sym, ap, ◌∙◌, append_assoc, arith}
use Rattle.std.specs.Prelude.{nat_eq}
use Rattle.std.specs.List.{flat_map, list_all}
use Rattle.std.proofs.lemmas.Bool.{eqb-true, eq-eqb, and_from}
use Rattle.std.proofs.lemmas.List.{length_push}
use Rattle.type_kinds.proofs.Truths.{first, second}
use Rattle.table_file.specs.Spelling.{four_bytes, counted}
use Rattle.table_file.specs.steps.Reads.{anything, Found, NoneFirst, Once, SoFar}
use Rattle.table_file.proofs.OnceLaws.{four_once, flat_none}

-- ---- fields of a value

-- The first field isn't there.
pub none_here : {P X : Type 0} {fit : P → Bool} {test : X → Bool} {f : X → List ℕ} {bytes : List ℕ} (get : P → X)
    (tail whole : P → List ℕ)
    → ((p : P) → fit p ≡ true → test (get p) ≡ true) → ((p : P) → whole p ≡ f (get p) ++ tail p)
    → NoneFirst test f bytes → NoneFirst fit whole bytes
none_here {f = f} get tail whole fits parts none = record {
  never = λ p rest ok e. none.never (get p) (tail p ++ rest) (fits p ok)
      (e ∙ ap (λ w. w ++ rest) (parts p) ∙ append_assoc (f (get p)) (tail p) rest);
}

-- The first field is there, and what is behind it isn't.
pub none_later : {P X : Type 0} {fit : P → Bool} {test : X → Bool} {f : X → List ℕ} {bytes after : List ℕ} {x : X}
    (get : P → X) (tail whole : P → List ℕ)
    → ((p : P) → fit p ≡ true → test (get p) ≡ true) → ((p : P) → whole p ≡ f (get p) ++ tail p) → Once test f
    → Found test f bytes x after → NoneFirst fit tail after → NoneFirst fit whole bytes
none_later {f = f} {after = after} {x = x} get tail whole fits parts once found none = record {
  never = λ p rest ok e.
      let same = once.only x (get p) after (tail p ++ rest) found.kept (fits p ok)
      (sym found.spelled ∙ e ∙ ap (λ w. w ++ rest) (parts p) ∙ append_assoc (f (get p)) (tail p) rest) in
      none.never p rest ok same.1;
}

-- what a value's first field is, where the first field was read
pub first_field : {P X : Type 0} {test : X → Bool} {f : X → List ℕ} {bytes after : List ℕ} {x : X} (get : P → X)
    (tail whole : P → List ℕ) (p : P) (rest : List ℕ)
    → test (get p) ≡ true → whole p ≡ f (get p) ++ tail p → Once test f → Found test f bytes x after
    → bytes ≡ whole p ++ rest → (x ≡ get p) × (after ≡ tail p ++ rest)
first_field {f = f} {after = after} {x = x} get tail whole p rest ok parts once found e =
    once.only x (get p) after (tail p ++ rest) found.kept ok
    (sym found.spelled ∙ e ∙ ap (λ w. w ++ rest) parts ∙ append_assoc (f (get p)) (tail p) rest)

-- a field, and what follows it
pub behind : (bytes a after b rest : List ℕ) → bytes ≡ a ++ after → after ≡ b ++ rest → bytes ≡ (a ++ b) ++ rest
behind bytes a after b rest e g = e ∙ ap (λ w. a ++ w) g ∙ sym (append_assoc a b rest)

-- ---- items of a list

pub so_far_none : {X : Type 0} {test : X → Bool} {f : X → List ℕ} (bytes : List ℕ) (xs : List X) → xs ≡ []
    → SoFar test f bytes xs bytes 0
so_far_none {test = test} {f = f} bytes xs e =
    record { count = ap length e; kept = ap (list_all test) e; spelled = sym (ap (λ ys. flat_map f ys ++ bytes) e) }

flat_more : {X : Type 0} (f : X → List ℕ) (xs : List X) (x : X) (rest : List ℕ)
    → flat_map f xs ++ (f x ++ rest) ≡ flat_map f (xs ++ x ∷ []) ++ rest
flat_more f [] x rest = sym (append_assoc (f x) [] rest)
flat_more f (y ∷ ys) x rest =
    append_assoc (f y) (flat_map f ys) (f x ++ rest) ∙ ap (λ w. f y ++ w) (flat_more f ys x rest)
    ∙ sym (append_assoc (f y) (flat_map f (ys ++ x ∷ [])) rest)

all_more : {X : Type 0} (test : X → Bool) (xs : List X) (x : X) → list_all test xs ≡ true → test x ≡ true
    → list_all test (xs ++ x ∷ []) ≡ true
all_more test [] x p q = and_from (test x) true q refl
all_more test (y ∷ ys) x p q =
    and_from (test y) (list_all test (ys ++ x ∷ [])) (first (test y) (list_all test ys) p)
    (all_more test ys x (second (test y) (list_all test ys) p) q)

pub so_far_more : {X : Type 0} {test : X → Bool} {f : X
    → List ℕ} {bytes : List ℕ} {xs : List X} {rest : List ℕ} {n : ℕ} {x : X} {left : List ℕ} (ys : List X)
    → ys ≡ xs ++ x ∷ [] → SoFar test f bytes xs rest n → Found test f rest x left → SoFar test f bytes ys left (n + 1)
so_far_more {test = test} {f = f} {xs = xs} {x = x} {left = left} ys e s found = record {
  count = ap length e ∙ length_push xs x ∙ ap (λ k. k + 1) s.count;
  kept = ap (list_all test) e ∙ all_more test xs x s.kept found.kept;
  spelled = s.spelled ∙ ap (λ w. flat_map f xs ++ w) found.spelled ∙ flat_more f xs x left
      ∙ ap (λ zs. flat_map f zs ++ left) (sym e);
}

-- ---- a list whose length is known before

pub listed_none : {X : Type 0} {test : X → Bool} {f : X
    → List ℕ} {bytes : List ℕ} {xs : List X} {rest : List ℕ} {n : ℕ} (count : ℕ)
    → Once test f → SoFar test f bytes xs rest n → n < count → NoneFirst test f rest
    → NoneFirst (λ ys. list_all test ys && nat_eq (length ys) count) (flat_map f) bytes
listed_none {test = test} {xs = xs} {rest = rest} count once s lt none = record {
  never = λ ys more ok e.
      let long : length ys ≡ count =
      eqb-true (length ys) count (second (list_all test ys) (nat_eq (length ys) count) ok) in
      flat_none once xs ys rest more (omega (arith, s.count)) s.kept
      (first (list_all test ys) (nat_eq (length ys) count) ok) none (sym s.spelled ∙ e);
}

pub listed_found : {X : Type 0} {test : X → Bool} {f : X
    → List ℕ} {bytes : List ℕ} {xs : List X} {rest : List ℕ} {n : ℕ} (count : ℕ)
    → SoFar test f bytes xs rest n → n ≡ count
    → Found (λ ys. list_all test ys && nat_eq (length ys) count) (flat_map f) bytes xs rest
listed_found {test = test} {xs = xs} count s is =
    record {
      kept = and_from (list_all test xs) (nat_eq (length xs) count) s.kept
          (eq-eqb (length xs) count (s.count ∙ is));
      spelled = s.spelled;
    }

-- ---- a list behind its length

pub uncounted : {X : Type 0} {test : List X → Bool} (f : X → List ℕ) {bytes : List ℕ}
    → NoneFirst anything four_bytes bytes → NoneFirst test (counted f) bytes
unfolding counted
uncounted f none = record {
  never =
      λ xs rest _ e. none.never (length xs) (flat_map f xs ++ rest) refl
      (e ∙ append_assoc (four_bytes (length xs)) (flat_map f xs) rest);
}

pub counted_none : {X : Type 0} {test : X → Bool} {f : X
    → List ℕ} {bytes after : List ℕ} {xs : List X} {rest : List ℕ} {n count : ℕ}
    → Once test f → Found anything four_bytes bytes count after → SoFar test f after xs rest n → n < count
    → NoneFirst test f rest → NoneFirst (list_all test) (counted f) bytes
unfolding counted
counted_none {test = test} {f = f} {after = after} {xs = xs} {rest = rest} {count = count} once found s lt none =
    record {
      never = λ ys more ok e.
          let same = four_once.only count (length ys) after (flat_map f ys ++ more) refl refl
          (sym found.spelled ∙ e ∙ append_assoc (four_bytes (length ys)) (flat_map f ys) more) in
          flat_none once xs ys rest more (omega (arith, s.count, same.0)) s.kept ok none (sym s.spelled ∙ same.1);
    }

pub counted_found : {X : Type 0} {test : X → Bool} {f : X
    → List ℕ} {bytes after : List ℕ} {xs : List X} {rest : List ℕ} {n count : ℕ}
    → Found anything four_bytes bytes count after → SoFar test f after xs rest n → n ≡ count
    → Found (list_all test) (counted f) bytes xs rest
unfolding counted
counted_found {f = f} {bytes = bytes} {after = after} {xs = xs} {rest = rest} found s is = record {
  kept = s.kept;
  spelled = behind bytes (four_bytes (length xs)) after (flat_map f xs) rest
      (found.spelled ∙ ap (λ k. four_bytes k ++ after) (sym is ∙ sym s.count)) s.spelled;
}
