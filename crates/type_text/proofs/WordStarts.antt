-- How the words of types begin, for a reader that tells them apart by that. Each lemma takes a text that is a word with a rest
-- behind it, and that begins with one of the starts that the reader looks for. It says which word it is, and what stands behind
-- the start. The last one says that each word has one of these starts.
use Rattle.std.proofs.Common.{◌≡◌, ◌⊎◌, inl, inr, ℕ, suc, ◌≤◌, ◌<◌, ◌^◌, ℤ, pos, negsuc, Bool, true, false, cond, List, [], ◌∷◌, ◌++◌, length, map, refl, sym, ap, ◌∙◌, arith, append_assoc}
use Rattle.std.specs.Prelude.{codes, nat_lt}
use Rattle.std.specs.Fmt.{decimal, signed_decimal}
use borrow.Author.Tests.{ltb-true}
use Rattle.std.proofs.lemmas.Fmt.{decimal_is_IsNumeral_wide}
use Rattle.std.proofs.lemmas.Str.Parse.{digit_from_value}
use Rattle.type_kinds.specs.Quoted.{quoted}
use Rattle.type_kinds_sets.specs.Names as names
use Rattle.type_kinds_sets.specs.Names.{Name}
use Rattle.type_kinds_sets.specs.Numbers as numbers
use Rattle.type_kinds_sets.specs.Numbers.{is_narrow}
use Rattle.type_kinds_sets.specs.Ends.{is_range}
use Rattle.type_kinds_sets.specs.declared.ends.Low.{Low}
use Rattle.type_kinds_sets.specs.declared.ends.Low.TheVariants.{Min}
use Rattle.type_kinds_sets.specs.declared.ends.High.{High}
use Rattle.type_kinds_sets.specs.declared.ends.High.TheVariants.{Max}
use Rattle.type_lattice_model.specs.Shapes.{of_arity, Parts}
use Rattle.type_lattice_model.specs.Operations.{Ops, of_atoms, of_list}
use Rattle.type_lattice_model.specs.Normal.{IsElement, AreElements}
use Rattle.type_text.specs.Starts.{begins_number, Lacks, NoTypeName}
use Rattle.type_text.specs.Texts.{separated, low_text, high_text}
use Rattle.type_text.specs.WordTypes.{of_ints, of_functions, of_row, Named, name_of, type_named, IsWordOf, named, one_int, ints_between, one_arity}

-- a minus or a digit
abbrev pub IsNumberStart : ℕ → Type 0
IsNumberStart b = (b ≡ 45) ⊎ ((48 ≤ b) × (b ≤ 57))

-- ---- numbers

-- a list has no item or a first one
pub list_cases : {A : Type 0} (xs : List A) → (xs ≡ []) ⊎ ((x : A) × ((ys : List A) × (xs ≡ x ∷ ys)))
list_cases [] = inl refl
list_cases (x ∷ ys) = inr (x, (ys, refl))

-- a decimal number begins with a digit
pub decimal-start : (n : ℕ) → n < 10 ^ 64 → (b : ℕ) × ((more : List ℕ) × ((decimal n ≡ b ∷ more) × ((48 ≤ b) × (b ≤ 57))))
decimal-start n small = grind (arith, list_cases (decimal n), decimal_is_IsNumeral_wide n small, digit_from_value)

pub signed-start : (n : ℤ) → is_narrow n ≡ true → (b : ℕ) × ((more : List ℕ) × ((signed_decimal n ≡ b ∷ more) × IsNumberStart b))
signed-start (pos n) k = let s = decimal-start n (omega (arith, ltb-true n (2 ^ 127) k)) in (s.0, (s.1.0, (s.1.1.0, inr s.1.1.1)))
signed-start (negsuc n) k = (45, (decimal (suc n), (refl, inl refl)))

-- what begins as a number does begins with a minus or a digit
pub number-start : (n : ℤ) → is_narrow n ≡ true → (rest : List ℕ) (b : ℕ) (more : List ℕ) → signed_decimal n ++ rest ≡ b ∷ more → IsNumberStart b
number-start n k rest b more e = grind (arith, signed-start)

pub no_number : (n : ℤ) → is_narrow n ≡ true → (rest : List ℕ) (b : ℕ) (more : List ℕ) → signed_decimal n ++ rest ≡ b ∷ more → 57 < b → ⊥
no_number n k rest b more e high = grind (arith, number-start)

pub no_close : (n : ℕ) → nat_lt n (2 ^ 32) ≡ true → (rest more : List ℕ) → (decimal n ++ codes ")") ++ rest ≡ codes ")" ++ more → ⊥
no_close n k rest more e = let s = decimal-start n (omega (arith, ltb-true n (2 ^ 32) k)) in grind (arith, s.1.1.0, s.1.1.1)

pub all_range : numbers.range Min Max ≡ numbers.all
all_range = numbers.range-yes Min Max refl

-- ---- names

-- the names of kinds are told by their texts
same_name : (k j : Named) (rest more : List ℕ) → name_of j ++ rest ≡ name_of k ++ more → (j ≡ k) × (more ≡ rest)
same_name k j rest more e = grind arith

-- what begins with the text begins as no type that has no words, nor as what ends a tuple
pub record Unlike (text : List ℕ) : Type 0 where
  pub any : (rest : List ℕ) → Lacks (text ++ rest) (codes "any()")
  pub none : (rest : List ℕ) → Lacks (text ++ rest) (codes "none()")
  pub closed : (rest : List ℕ) → Lacks (text ++ rest) (codes "}")

module _ {E : Type 0} {text : E → List ℕ} {Normal : E → Type 0} {o : Ops E} where
  -- ---- the words of one spelling

  pub at_named : (k : Named) (w : List ℕ) (u : Parts E) → IsWordOf text Normal o w u → (now rest more : List ℕ) → now ≡ w ++ rest → now ≡ name_of k ++ more → (u ≡ type_named o k) × (more ≡ rest)
  at_named k w u (named j) now rest more a b = let s = same_name k j rest more (sym a ∙ b) in (ap (type_named o) s.0, s.1)
  at_named k w u (one_int n j) now rest more a b = grind (arith, no_number n j rest)
  at_named k w u (ints_between l h j) now rest more a b = grind arith
  at_named k w u (one_arity n j) now rest more a b = grind (arith, no_close n j rest)
  at_named k w u i now rest more a b = grind arith

  pub at_every_int : (w : List ℕ) (u : Parts E) → IsWordOf text Normal o w u → (now rest more : List ℕ) → now ≡ w ++ rest → now ≡ codes "integer()" ++ more → (u ≡ of_ints o numbers.all) × (more ≡ rest)
  at_every_int w u i now rest more a b = grind (arith, no_number, all_range)

  -- ---- the words that hold something

  -- one integer
  pub at_number : (w : List ℕ) (u : Parts E) → IsWordOf text Normal o w u → (now rest : List ℕ) (b : ℕ) (more : List ℕ) → now ≡ w ++ rest → now ≡ b ∷ more → IsNumberStart b
      → (n : ℤ) × ((is_narrow n ≡ true) × ((now ≡ signed_decimal n ++ rest) × (u ≡ of_ints o (numbers.listed (n ∷ [])))))
  at_number w u i now rest b more a e s = grind arith

  -- an interval, where the text is not `integer()`
  pub at_range : (w : List ℕ) (u : Parts E) → IsWordOf text Normal o w u → (now rest more : List ℕ) → now ≡ w ++ rest → now ≡ codes "integer(" ++ more → Lacks now (codes "integer()")
      → (l : Low) × ((h : High) × ((is_range l h ≡ true) × ((more ≡ low_text l ++ codes ".." ++ high_text h ++ codes ")" ++ rest) × (u ≡ of_ints o (numbers.range l h)))))
  at_range w u i now rest more a b not = grind (arith, no_number)

  pub unlike_word : (w : List ℕ) (u : Parts E) → IsWordOf text Normal o w u → (later : List ℕ) → Unlike (w ++ later)
  unlike_word w u i later = record {
    any = λ rest more b. grind (arith, append_assoc, no_number);
    none = λ rest more b. grind (arith, append_assoc, no_number);
    closed = λ rest more b. grind (arith, append_assoc, no_number);
  }

  -- each word begins in one of these ways
  pub some_start : (w : List ℕ) (u : Parts E) → IsWordOf text Normal o w u → (now rest : List ℕ) → now ≡ w ++ rest → begins_number now ≡ false → Lacks now (codes "'") → Lacks now (codes "{") → Lacks now (codes "cons(")
      → Lacks now (codes "cons_any(") → NoTypeName now → ⊥
  some_start w u i now rest is number quote brace proper any name = grind (arith, signed-start)

-- what holds of each word that begins so holds of the word
module _ {E : Type 0} {text : E → List ℕ} {Normal : E → Type 0} {o : Ops E} (w : List ℕ) (u : Parts E) (i : IsWordOf text Normal o w u) (now rest : List ℕ) (is : now ≡ w ++ rest) (P : Parts E → List ℕ
    → Type 0) (more : List ℕ) where
  -- one atom
  pub at_quote : now ≡ codes "'" ++ more → ((a : Name) (q : List ℕ) → now ≡ quoted a ++ q → P (of_atoms o (names.listed (a ∷ []))) q) → P u rest
  at_quote begins holds = grind (arith, number-start)

  -- the functions of one arity, where the text is not `fun()`
  pub at_arity : now ≡ codes "fun(" ++ more → Lacks now (codes "fun()") → ((n : ℕ) (q : List ℕ) → nat_lt n (2 ^ 32) ≡ true → more ≡ decimal n ++ (codes ")" ++ q) → P (of_functions o (of_arity n)) q) → P u rest
  at_arity begins not holds = grind (arith, append_assoc, no_number)

  -- lists with proper ends, and with any
  pub at_list : (b : Bool) → now ≡ cond b (codes "cons(") (codes "cons_any(") ++ more → ((e : E) (q : List ℕ) → IsElement Normal o e → more ≡ text e ++ (codes ")" ++ q) → P (of_list o e b) q) → P u rest
  at_list b begins holds = grind (arith, append_assoc, no_number)

  -- the tuples of some element types
  pub at_tuple : now ≡ codes "{" ++ more → ((es : List E) (q : List ℕ) → AreElements Normal o es → nat_lt (length es) 65 ≡ true → more ≡ separated (codes ",") (map text es) ++ (codes "}" ++ q) → P (of_row o es) q)
      → P u rest
  at_tuple begins holds = grind (arith, append_assoc, no_number)

-- what tells the words apart
pub ruleset words_apart = (no_number, no_close, append_assoc, ltb-true)
