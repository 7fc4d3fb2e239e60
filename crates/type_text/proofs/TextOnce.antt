-- That a type is read in one way: two types with one text are one. What a text is that is the text of a type.
use Rattle.std.proofs.Common.{◌≡◌, ℕ, zero, suc, Bool, true, false, cond, List, [], ◌∷◌, ◌++◌, map, drop, refl, sym, ap, ◌∙◌, subst, arith, append_assoc, true≢false}
use Rattle.std.specs.Prelude.{codes}
use Rattle.std.proofs.lemmas.List.{append-nil}
use borrow.Author.Tests.{ltb-true}
use Rattle.std.specs.Fmt.{signed_decimal}
use Rattle.type_kinds_sets.specs.Names as names
use Rattle.type_kinds_sets.specs.Numbers as numbers
use Rattle.type_kinds_sets.specs.declared.ends.Low.{Low}
use Rattle.type_kinds_sets.specs.declared.ends.High.{High}
use Rattle.type_lattice_model.specs.Shapes.{of_arity, TypeAt}
use Rattle.type_lattice_model.specs.Operations.{of_atoms, of_list, ops}
use Rattle.type_lattice_model.specs.Normal.{AreElements, NormalAt}
use Rattle.type_lattice.specs.Types.{Type4, none, is_none, same_type}
use Rattle.type_text.specs.Words.{WordStop, TypeStop}
use Rattle.type_text.specs.Texts.{after, separated, range_word, parts_words, text_at, text_of}
use Rattle.type_text.specs.WordTypes.{of_ints, of_functions, of_row, IsWord, AreWords, WordsOf, spelled, joined_with, one_atom, one_int, ints_between, one_arity, proper_list, any_list, one_tuple, name_of, named}
use Rattle.type_text.proofs.WordStarts.{no_close, signed-start, at_every_int, all_range, at_quote, at_number, at_range, at_arity, at_list, at_tuple, at_named}
use Rattle.type_lattice_model.proofs.LevelLaws.{level_laws}
use Rattle.type_lattice_model.specs.Full.{is_any}
use Rattle.type_text.proofs.WordLaws.{words_of}
use Rattle.type_text.proofs.WordReads.{way, way_once, words-text, at_none, not_at_end, words_text, words_stop, EachWords, next_word, no_word, row_text, row_stop, EachRow, next_element, no_element, whole_row, no_row}
use Rattle.type_text.proofs.LeafLaws.{quoted_once, decimal_once, signed_once, ends_once}

-- types of a level are read in one way
abbrev Once : ℕ → Type 0
Once d = (s t : TypeAt d) (r q : List ℕ) → NormalAt d s → NormalAt d t → TypeStop r → TypeStop q → text_at d s ++ r ≡ text_at d t ++ q → (s ≡ t) × (r ≡ q)

-- ---- one level up, from that of the elements

module _ (d : ℕ) (once : Once d) where
  -- ---- the elements of a tuple

  rows_once : (es : List (TypeAt d)) (r : List ℕ) → AreElements (NormalAt d) (ops d) es → EachRow d (row_text d es r) (λ gs q. (es ≡ gs) × (r ≡ q))
  rows_once [] r j = no_element d _ (λ more e. grind arith) _ (λ q x. (refl, ap (drop 1) x))
  rows_once (e ∷ es) r j = next_element d _ _ (ap (λ t. 44 ∷ t) (append_assoc (text_at d e) (after (codes ",") (map (text_at d) es)) (codes "}" ++ r))) _ (λ g gs q k ks x.
      let first = once e g (row_text d es r) (row_text d gs q) j.0.0 k.0 (row_stop d es r) (row_stop d gs q) x in
      let later = rows_once es r j.1 gs q ks first.1 in
      (λ i. first.0 i ∷ later.0 i, later.1))

  tuples_once : (es gs : List (TypeAt d)) (r q : List ℕ) → AreElements (NormalAt d) (ops d) es → AreElements (NormalAt d) (ops d) gs
      → separated (codes ",") (map (text_at d) es) ++ (codes "}" ++ r) ≡ separated (codes ",") (map (text_at d) gs) ++ (codes "}" ++ q) → (es ≡ gs) × (r ≡ q)
  tuples_once [] gs r q j k x = no_row d _ gs q r k x refl
  tuples_once (e ∷ es) gs r q j k x =
      let text = append_assoc (text_at d e) (after (codes ",") (map (text_at d) es)) (codes "}" ++ r) in
      whole_row d _ (not_at_end (way d e j.0.0) _ (row_text d es r) text) (λ gs q. (e ∷ es ≡ gs) × (r ≡ q)) (rows_once (e ∷ es) r j) gs q k x

  -- ---- one word

  abbrev Same : TypeAt (suc d) → List ℕ → TypeAt (suc d) → List ℕ → Type 0
  Same u r v q = (u ≡ v) × (r ≡ q)

  range_once : (l : Low) (h : High) (z : List ℕ) (v : TypeAt (suc d)) → IsWord d z v → (r q : List ℕ) → range_word l h ++ r ≡ z ++ q → (of_ints (ops d) (numbers.range l h) ≡ v) × (r ≡ q)
  range_once l h z v k r q x = grind (arith, at_every_int z v k (range_word l h ++ r) q r x, at_range z v k (range_word l h ++ r) q, ends_once, all_range)

  word_once : (w z : List ℕ) (u v : TypeAt (suc d)) (r q : List ℕ) → IsWord d w u → IsWord d z v → WordStop r → WordStop q → w ++ r ≡ z ++ q → (u ≡ v) × (r ≡ q)
  word_once w z u v r q (one_atom a) k f g x = at_quote z v k _ q x (Same (of_atoms (ops d) (names.listed (a ∷ []))) r) _ refl (λ b s y. grind (arith, quoted_once a b r s y))
  word_once w z u v r q (named n) k f g x = let m = at_named n z v k (name_of n ++ r) q r x refl in (sym m.0, m.1)
  word_once w z u v r q (one_int n j) k f g x = grind (arith, signed-start n j, at_number z v k (signed_decimal n ++ r) q, signed_once n)
  word_once w z u v r q (ints_between l h j) k f g x = range_once l h z v k r q x
  word_once w z u v r q (one_arity n j) k f g x =
      at_arity z v k _ q x (Same (of_functions (ops d) (of_arity n)) r) _ refl (λ more e. no_close n j r more (ap (drop 4) e))
      (λ m s i y. grind (arith, ltb-true n, ltb-true m, append_assoc, decimal_once n m (codes ")" ++ r) (codes ")" ++ s)))
  word_once w z u v r q (proper_list e j) k f g x =
      at_list z v k _ q x (Same (of_list (ops d) e true) r) _ true refl (λ t s i y. grind (arith, append_assoc, once e t (codes ")" ++ r) (codes ")" ++ s) j.0 i.0))
  word_once w z u v r q (any_list e j) k f g x =
      at_list z v k _ q x (Same (of_list (ops d) e false) r) _ false refl (λ t s i y. grind (arith, append_assoc, once e t (codes ")" ++ r) (codes ")" ++ s) j.0 i.0))
  word_once w z u v r q (one_tuple es j few) k f g x = at_tuple z v k _ q x (Same (of_row (ops d) es) r) _ refl (λ ts s i less y. grind (arith, append_assoc, tuples_once es ts r s j i))

  -- ---- words in a row

  words_once : (ps : List (List ℕ × TypeAt (suc d))) (u v : TypeAt (suc d)) (r : List ℕ) → AreWords d ps → TypeStop r → u ≡ v
      → EachWords d (words_text d ps r) (λ ws q. (joined_with (ops (suc d)).join u ps ≡ joined_with (ops (suc d)).join v ws) × (r ≡ q))
  words_once [] u v r j f e = no_word d r (λ more x. true≢false (sym (subst TypeStop x f))) _ (λ q g x. (e, x))
  words_once (p ∷ ps) u v r j f e = next_word d _ _ (ap (λ t. codes " | " ++ t) (append_assoc p.0 (after (codes " | ") (spelled ps)) r)) _ (λ w z ws q k ks g x.
      let first = word_once p.0 w p.1 z (words_text d ps r) (words_text d ws q) j.0 k (words_stop d ps r f) (words_stop d ws q g) x in
      words_once ps ((ops (suc d)).join u p.1) ((ops (suc d)).join v z) r j.1 f (λ i. (ops (suc d)).join (e i) (first.0 i)) ws q ks g first.1)

  -- ---- a type

  both_words : (s t : TypeAt (suc d)) (r q : List ℕ) → WordsOf d s → WordsOf d t → TypeStop r → TypeStop q → text_at (suc d) s ++ r ≡ text_at (suc d) t ++ q → (s ≡ t) × (r ≡ q)
  both_words s t r q y z f g x =
      let text = sym (words-text d s y r) ∙ x ∙ words-text d t z q in
      let first = word_once y.word z.word y.first z.first (words_text d y.later r) (words_text d z.later q) y.is_word z.is_word (words_stop d y.later r f) (words_stop d z.later q g) text in
      let all = words_once y.later y.first z.first r y.are_words f first.0 z.later q z.are_words g first.1 in
      (sym y.together ∙ all.0 ∙ z.together, all.1)

  next_once : Once (suc d)
  next_once s t r q j k f g x = way_once (way (suc d) s j) (way (suc d) t k) r q (λ a n b m. both_words s t r q (words_of d s j a n) (words_of d t k b m) f g x) x

-- ---- each level

base_once : Once 0
base_once s t r q j k f g x = grind arith

level_once : (d : ℕ) → Once d
level_once zero = base_once
level_once (suc d) = next_once d (level_once d)

-- what a text begins with is one type, where what follows may follow a type
pub front_once : (s t : Type4) (r q : List ℕ) → TypeStop r → TypeStop q → text_of s ++ r ≡ text_of t ++ q → (s ≡ t) × (r ≡ q)
unfolding text_of
front_once s t r q f g e = let once = level_once 4 s.ty t.ty r q s.normal t.normal f g e in (same_type s t once.0, once.1)

-- two types with one text are one
pub text_once : (s t : Type4) → text_of s ≡ text_of t → s ≡ t
text_once s t e = (front_once s t [] [] tt tt (append-nil (text_of s) ∙ e ∙ sym (append-nil (text_of t)))).0

-- ---- a text that begins with that of a type

pub front_text : (text rest : List ℕ) (t : Type4) → text ≡ text_of t ++ rest → text ≡ text_at 4 t.ty ++ rest
unfolding text_of
front_text text rest t e = e

-- what begins as none is written is none
pub none_read : (text more rest : List ℕ) (t u : Type4) → text ≡ codes "none()" ++ more → u ≡ none → text ≡ text_of t ++ rest → (u ≡ t) × (more ≡ rest)
unfolding none
none_read text more rest t u e f g =
    let at = at_none (way 4 t.ty t.normal) rest more (sym (front_text text rest t g) ∙ e) in
    (same_type u t (ap (λ x. x.ty) f ∙ sym at.0), at.1)

not_any : is_any 4 (ops 4).none ≡ false
unfolding ops
not_any = refl

none_text : text_at 4 (ops 4).none ≡ codes "none()"
none_text =
    ap (λ b. cond b (codes "any()") (cond ((ops 4).is_none (ops 4).none) (codes "none()") (separated (codes " | ") (parts_words (text_at 3) (ops 4).none)))) not_any
    ∙ ap (λ b. cond b (codes "none()") (separated (codes " | ") (parts_words (text_at 3) (ops 4).none))) (level_laws 4).is_none-none

pub some_read : (text rest : List ℕ) (t : Type4) → ((more : List ℕ) → text ≡ codes "none()" ++ more → ⊥) → text ≡ text_of t ++ rest → is_none t ≡ false
unfolding is_none
some_read text rest t e g = by (is_none t) refl
  where
    by : (b : Bool) → is_none t ≡ b → is_none t ≡ false
    by false is = is
    by true is = absurd (e rest (front_text text rest t g ∙ ap (λ x. x ++ rest) (ap (text_at 4) ((level_laws 4).none-is_none t.ty is) ∙ none_text)))
