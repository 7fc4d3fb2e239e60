-- Which words name a script: each way out.
use Rattle.std.proofs.Common.{◌≡◌, ℕ, ◌<◌, ◌≤◌, List, [], ◌∷◌, length, get_or, nat_eq, Bool, true, false, not, true≢false, refl, sym, ap, ◌∙◌, subst, arith}
use Rattle.std.specs.Prelude.{codes, Option, Some, None, MatchOption}
use Rattle.std.specs.Borrow.{Bor}
use Rattle.std.specs.Fmt.{decimal}
use Rattle.std.specs.Cmp.Lexicographic.{pointwise, bytes_decides}
use Rattle.analysis_sources.specs.Words.{texts}
use Rattle.analysis_answers.proofs.Texts.{texts_long}
use Rattle.analysis_answers.specs.Words.{IsFile, most_workers}
use Rattle.dia_session_command.specs.declared.words.SessionCommand.{SessionCommand}
use Rattle.dia_session_command.specs.Words.{IsCommand, by_itself, by_workers, IsNoCommand, NamesScript}

abbrev pub IsTold : List (Bor (List ℕ)) → Option SessionCommand → Type 0
IsTold ws r = MatchOption r (IsNoCommand (texts ws)) (λ c. IsCommand (texts ws) c.workers c.script.now c.word)

abbrev first_word : List (List ℕ) → List ℕ
first_word [] = []
first_word (x ∷ xs) = x

abbrev second_word : List (List ℕ) → List ℕ
second_word [] = []
second_word (x ∷ xs) = first_word xs

abbrev third_word : List (List ℕ) → List ℕ
third_word [] = []
third_word (x ∷ xs) = second_word xs

-- a script is named by one word or by three
pub no_such : (ws : List (Bor (List ℕ))) → (length ws ≡ 1 → ⊥) → (length ws ≡ 3 → ⊥) → IsNoCommand (texts ws)
no_such ws one three script word (n, by_itself e a b c) = one (sym (texts_long ws) ∙ ap (λ xs. length xs) e)
no_such ws one three script word (n, by_workers e a b c d) = three (sym (texts_long ws) ∙ ap (λ xs. length xs) e)

-- a script stands at this place, and so many workers are asked for
abbrev pub IsWith : (workers : ℕ) (script : List ℕ) (word : ℕ) → Option SessionCommand → Type 0
IsWith workers script word r =
    MatchOption r (IsFile script → ⊥) (λ c. (c.workers ≡ workers) × (c.script.now ≡ script) × (c.word ≡ word) × IsFile script)

pub one_told : (w : Bor (List ℕ)) (r : Option SessionCommand) → IsWith 1 w.now 0 r → IsTold (w ∷ []) r
one_told w None h = none
  where
    none : IsNoCommand (w.now ∷ [])
    none script word (n, by_itself e a b c) = h (subst IsFile (sym (ap first_word e)) c)
    none script word (n, by_workers e a b c d) = let k : 1 ≡ 3 = ap (λ xs. length xs) e in absurd (omega (arith, k))
one_told w (Some c) h = by_itself (ap (λ s. s ∷ []) (sym h.1)) h.0 h.2 (subst IsFile (sym h.1) h.3)

-- ---- three words

module _ (o n w : Bor (List ℕ)) where
  pub other_option : (o.now ≡ codes "--workers" → ⊥) → IsNoCommand (texts (o ∷ n ∷ w ∷ []))
  other_option differs script word (k, by_itself e a b c) = let l : 3 ≡ 1 = ap (λ xs. length xs) e in absurd (omega (arith, l))
  other_option differs script word (k, by_workers e a b c d) = differs (ap first_word e)

  pub no_number : ((k : ℕ) → 1 ≤ k → k ≤ most_workers → n.now ≡ decimal k → ⊥) → IsNoCommand (texts (o ∷ n ∷ w ∷ []))
  no_number none script word (k, by_itself e a b c) = let l : 3 ≡ 1 = ap (λ xs. length xs) e in absurd (omega (arith, l))
  no_number none script word (k, by_workers e a b c d) = none k a b (ap second_word e)

  three_told : (workers : ℕ) (r : Option SessionCommand) → o.now ≡ codes "--workers" → n.now ≡ decimal workers → 1 ≤ workers → workers ≤ most_workers
      → IsWith workers w.now 2 r → IsTold (o ∷ n ∷ w ∷ []) r
  three_told workers None option number least most h = none
    where
      none : IsNoCommand (texts (o ∷ n ∷ w ∷ []))
      none script word (k, by_itself e a b c) = let l : 3 ≡ 1 = ap (λ xs. length xs) e in absurd (omega (arith, l))
      none script word (k, by_workers e a b c d) = h (subst IsFile (sym (ap third_word e)) d)
  three_told workers (Some c) option number least most h =
      by_workers (ap (λ x. x ∷ n.now ∷ w.now ∷ []) option ∙ ap (λ x. codes "--workers" ∷ x ∷ w.now ∷ []) (number ∙ ap decimal (sym h.0)) ∙ ap (λ x. codes "--workers" ∷ decimal c.workers ∷ x ∷ []) (sym h.1))
      (subst (λ k. 1 ≤ k) (sym h.0) least) (subst (λ k. k ≤ most_workers) (sym h.0) most) h.2 (subst IsFile (sym h.1) h.3)

same_word : (word other : List ℕ) → false ≡ not (pointwise nat_eq word other) → word ≡ other
same_word word other e = (bytes_decides word other).0 (by (pointwise nat_eq word other) e)
  where
    by : (b : Bool) → false ≡ not b → b ≡ true
    by true e = refl
    by false e = absurd (true≢false (sym e))

pub three_so : (ws : List (Bor (List ℕ))) (d : Bor (List ℕ)) (workers : ℕ) (r : Option SessionCommand) → 3 ≤ length ws → length ws < 4
    → false ≡ not (pointwise nat_eq (get_or ws 0 d).now (codes "--workers")) → ((get_or ws 1 d).now ≡ decimal workers) × (1 ≤ workers) × (workers ≤ most_workers)
    → IsWith workers (get_or ws 2 d).now 2 r → IsTold ws r
three_so (o ∷ n ∷ w ∷ []) d workers r a b option number h = three_told o n w workers r (same_word o.now (codes "--workers") option) number.0 number.1 number.2 h
three_so [] d workers r a b option number h = absurd (omega (arith, a))
three_so (o ∷ []) d workers r a b option number h = absurd (omega (arith, a))
three_so (o ∷ n ∷ []) d workers r a b option number h = absurd (omega (arith, a))
three_so (o ∷ n ∷ w ∷ x ∷ ws) d workers r a b option number h = absurd (omega (arith, b))

-- ---- words name one script

pub one_script : (words : List (List ℕ)) (script other : List ℕ) (word place : ℕ) → NamesScript words script word → NamesScript words other place → (script ≡ other) × (word ≡ place)
one_script words script other word place (n, by_itself e a b c) (m, by_itself f d g h) = (sym (ap first_word e) ∙ ap first_word f, b ∙ sym g)
one_script words script other word place (n, by_itself e a b c) (m, by_workers f d g h i) = let l : 1 ≡ 3 = ap (λ xs. length xs) (sym e ∙ f) in absurd (omega (arith, l))
one_script words script other word place (n, by_workers e a b c d) (m, by_itself f g h i) = let l : 3 ≡ 1 = ap (λ xs. length xs) (sym e ∙ f) in absurd (omega (arith, l))
one_script words script other word place (n, by_workers e a b c d) (m, by_workers f g h i j) = (sym (ap third_word e) ∙ ap third_word f, c ∙ sym i)

-- the script is one of the words
pub among_words : (words : List (List ℕ)) (script : List ℕ) (word : ℕ) → NamesScript words script word → word < length words
among_words words script word (n, by_itself e a b c) = let l : length words ≡ 1 = ap (λ xs. length xs) e in omega (arith, l, b)
among_words words script word (n, by_workers e a b c d) = let l : length words ≡ 3 = ap (λ xs. length xs) e in omega (arith, l, c)
