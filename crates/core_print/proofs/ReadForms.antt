-- Trees that fit are read from their words, and give themselves but for places and labels.
use Rattle.std.proofs.Common.{◌≡◌, ℕ, ℤ, pos, negsuc, ◌<◌, ◌≤◌, List, [], ◌∷◌, map, Bool, true, false, Option, Some, None, IsTrue, codes, refl, ap, ◌∙◌, arith, true≢false}
use Rattle.std.specs.Prelude.{if◌then◌else◌, nat_lt, nat_le}
use Rattle.std.proofs.lemmas.Bool.Decides.{nat_tests}
use Rattle.core_ast.specs.declared.syntax.Note.{Note}
use Rattle.core_ast.specs.declared.syntax.VarName.{VarName}
use Rattle.core_ast.specs.declared.syntax.FunName.{FunName}
use Rattle.core_ast.specs.declared.syntax.Literal.{Literal}
use Rattle.core_ast.specs.declared.syntax.Literal.TheVariants as lit
use Rattle.core_ast.specs.Same.{nowhere, bare_variable}
use Rattle.core_scan.specs.declared.sort.Sort.TheVariants as s
use Rattle.core_scan.specs.declared.token.Token.{Token}
use Rattle.core_scan.specs.Sorts.{fits, kind_sort}
use Rattle.core_parse_grammar.specs.declared.notes.Constant.TheVariants.{Number, Generated}
use Rattle.core_parse_grammar.specs.Build.{note_or_none, kind_text, kind_value, arity, magnitude, value, no_note, Noted, note_of as note_of_constants, line_within}
use Rattle.core_parse_grammar.specs.Grammar.{SaidBy, Part, a, the, annotation, function_name, many, more, constant, literal, variable, variables, noted_}
use Rattle.core_print.specs.Words.{Word, symbol, integer, atom}
use Rattle.core_print.specs.Words as w
use Rattle.core_print.specs.Canonical as c
use Rattle.core_print.specs.Tokens.{kind_of}
use Rattle.core_print.specs.Fits.{LineFits, NoteFits, LiteralFits, NameFits, VariableFits, VariablesFit}
use Rattle.core_print.proofs.Readings.{Reading, word, node, done, go, alone, this_way, next_way, by_ways}

-- ---- notes

-- an integer token has the value of its word
value_is : (t : Token) (n : ℕ) → t.kind ≡ kind_of (integer (pos n)) → value t ≡ pos n
value_is t n e = ap Rattle.core_parse_grammar.specs.Build.kind_value e

integer_fits : (n : ℕ) → IsTrue (fits s.Integer (kind_sort (kind_of (integer (pos n)))))
integer_fits n = by (nat_le n 255) refl
  where
    by : (t : Bool) → nat_le n 255 ≡ t → fits s.Integer (if t then s.Small else s.Integer) ≡ true
    by true e = refl
    by false e = refl

pub line_is : (n : ℕ) → 0 < n → n < 2147483648 → line_within (pos n) ≡ Some n
line_is n low high = by (nat_lt 0 n) refl (nat_lt n 2147483648) refl
  where
    by : (t : Bool) → nat_lt 0 n ≡ t → (u : Bool) → nat_lt n 2147483648 ≡ u → (if t then if u then Some n else None else None) ≡ Some n
    by true e true f = refl
    by true e false f = absurd (grind (arith, nat_tests))
    by false e u f = absurd (grind (arith, nat_tests))

-- a note that isn't written
pub quiet : (line : Option ℕ) (flag : Bool) → c.is_written line flag ≡ false → no_note ≡ (record { line = line; generated = flag })
quiet None false e = refl
quiet None true e = absurd (true≢false e)
quiet (Some n) flag e = absurd (true≢false e)

any_integer_fits : (n : ℤ) → IsTrue (fits s.Integer (kind_sort (kind_of (integer n))))
any_integer_fits (pos n) = integer_fits n
any_integer_fits (negsuc n) = refl

pub small_fits : (n : ℕ) → n ≤ 255 → IsTrue (fits s.Small (kind_sort (kind_of (integer (pos n)))))
small_fits n few = by (nat_le n 255) refl
  where
    by : (t : Bool) → nat_le n 255 ≡ t → fits s.Small (if t then s.Small else s.Integer) ≡ true
    by true e = refl
    by false e = absurd (grind (arith, nat_tests))

pub arity_is : (t : Token) (n : ℕ) → n ≤ 255 → t.kind ≡ kind_of (integer (pos n)) → arity t ≡ n
arity_is t n few e = ap (λ k. magnitude (kind_value k)) e ∙ by (nat_le n 255) refl
  where
    by : (t : Bool) → nat_le n 255 ≡ t → (if t then n else 0) ≡ n
    by true e = refl
    by false e = absurd (grind (arith, nat_tests))

module _ (l : ℕ) (one : 1 ≤ l) where
  -- the line of an annotation, and the word that says who made the node
  literal_constant_is : (p q : Literal) → p ≡ q → Rattle.core_parse_grammar.specs.Build.literal_constant p ≡ Rattle.core_parse_grammar.specs.Build.literal_constant q
  literal_constant_is p q e = ap Rattle.core_parse_grammar.specs.Build.literal_constant e

  line_literal : (n : ℕ) → Reading l (the (literal 1)) (λ x. x.value ≡ lit.Int (pos n)) (λ rest. integer (pos n) ∷ rest)
  line_literal n = by_ways l (alone l (node l 1 s.Integer (integer (pos n)) one (integer_fits n)) (λ t e. ap lit.Int (value_is t n e)))

  line_constant : (n : ℕ) → Reading l (the (constant 1)) (λ k. k ≡ Number (pos n)) (λ rest. integer (pos n) ∷ rest)
  line_constant n = by_ways l (next_way l (alone l (by_ways l (alone l (line_literal n) (λ x e. literal_constant_is x.value (lit.Int (pos n)) e))) (λ k e. e)))

  made_literal : Reading l (the (literal 1)) (λ x. x.value ≡ lit.Atom (codes "compiler_generated")) (λ rest. atom (codes "compiler_generated") ∷ rest)
  made_literal = by_ways l (next_way l (next_way l (next_way l (alone l (node l 1 s.Atom (atom (codes "compiler_generated")) one refl) (λ t e. ap (λ k. lit.Atom (Rattle.core_parse_grammar.specs.Build.kind_text k)) e)))))

  made_constant : Reading l (the (constant 1)) (λ k. k ≡ Generated) (λ rest. atom (codes "compiler_generated") ∷ rest)
  made_constant = by_ways l (next_way l (alone l (by_ways l (alone l made_literal (λ x e. literal_constant_is x.value (lit.Atom (codes "compiler_generated")) e))) (λ k e. e)))

  -- the items of an annotation and the bracket behind them
  no_more : Reading l (the (more s.CloseSquare (the (constant 1)))) (λ ks. ks ≡ []) (λ rest. symbol (codes "]") ∷ rest)
  no_more = by_ways l (alone l (word l s.CloseSquare (symbol (codes "]")) refl) (λ t e. refl))

  made_more : Reading l (the (more s.CloseSquare (the (constant 1)))) (λ ks. ks ≡ Generated ∷ []) (λ rest. symbol (codes ",") ∷ atom (codes "compiler_generated") ∷ symbol (codes "]") ∷ rest)
  made_more = by_ways l (next_way l (this_way l (go l (word l s.Comma (symbol (codes ",")) refl) (λ t g. go l made_constant (λ j h. go l no_more (λ ks q. done l (λ i. h i ∷ q i)))))))

  items : (line : Option ℕ) (flag : Bool) → LineFits line → Reading l (the (many s.CloseSquare (the (constant 1)))) (λ cs. note_of_constants cs ≡ (record { line = line; generated = flag }))
      (λ rest. c.note_items line flag (symbol (codes "]") ∷ rest))
  items None false fits_ = by_ways l (alone l (word l s.CloseSquare (symbol (codes "]")) refl) (λ t e. refl))
  items None true fits_ = by_ways l (next_way l (this_way l (go l made_constant (λ k e. go l no_more (λ ks g. done l (λ i. note_of_constants (e i ∷ g i)))))))
  items (Some n) false fits_ =
      by_ways l (next_way l (this_way l (go l (line_constant n) (λ k e. go l no_more (λ ks g. done l ((λ i. note_of_constants (e i ∷ g i)) ∙ (λ i. record { line = line_is n fits_.0 fits_.1 i; generated = false })))))))
  items (Some n) true fits_ =
      by_ways l (next_way l (this_way l (go l (line_constant n) (λ k e. go l made_more (λ ks g. done l ((λ i. note_of_constants (e i ∷ g i)) ∙ (λ i. record { line = line_is n fits_.0 fits_.1 i; generated = true })))))))

  pub annotation_read : (n : Note) → NoteFits n → Reading l (the annotation) (λ v. v ≡ n) (λ rest. c.annotation n rest)
  annotation_read n fits_ =
      by_ways l (this_way l (go l (word l s.Noted (symbol (codes "-|")) refl) (λ t e.
      go l (word l s.OpenSquare (symbol (codes "[")) refl) (λ u g. go l (items n.line n.generated fits_) (λ cs h. go l (word l s.CloseRound (symbol (codes ")")) refl) (λ v k. done l h))))))

  -- x, or x in annotation brackets
  pub noted_read : (p : Part) (P : SaidBy p → Type 0) (n : Note) (ws : c.Words) → NoteFits n → Reading l p P ws → Reading l (the (noted_ p)) (λ x. P x.value × (note_or_none x.note ≡ n)) (λ rest. c.noted n ws rest)
  noted_read p P n ws fits_ h = by (c.is_written n.line n.generated) refl
    where
      by : (t : Bool) → c.is_written n.line n.generated ≡ t → Reading l (the (noted_ p)) (λ x. P x.value × (note_or_none x.note ≡ n))
          (λ rest. if t then symbol (codes "(") ∷ ws (if t then c.annotation n rest else rest) else ws (if t then c.annotation n rest else rest))
      by true e = by_ways l (next_way l (this_way l (go l (word l s.OpenRound (symbol (codes "(")) refl) (λ t g. go l h (λ x k. go l (annotation_read n fits_) (λ v q. done l (k, q)))))))
      by false e = by_ways l (alone l h (λ x k. (k, quiet n.line n.generated e)))

  -- ---- names, variables and literals

  pub name_read : (f : FunName) → NameFits f → Reading l (the function_name) (λ x. x.name ≡ f) (λ rest. c.function_name f rest)
  name_read f fits_ =
      by_ways l (this_way l (go l (word l s.Atom (atom f.name) refl) (λ t e. go l (word l s.Slash (symbol (codes "/")) refl)
      (λ u g. go l (word l s.Small (integer (pos f.arity)) (small_fits f.arity fits_)) (λ n h. done l (λ i. record { name = kind_text (e i); arity = (arity_is n f.arity fits_ h) i }))))))

  pub variable_read : (x : VarName) → VariableFits x → Reading l (the variable) (λ y. bare_variable y ≡ bare_variable x) (λ rest. c.variable_in_list x rest)
  variable_read x fits_ =
      by_ways l (alone l (noted_read (a s.Variable) (λ t. t.kind ≡ kind_of (w.variable x.name)) x.note (λ rest. w.variable x.name ∷ rest) fits_.1 (word l s.Variable (w.variable x.name) refl))
      (λ y e. λ i. record { name = kind_text (e.0 i); place = nowhere; note = e.1 i }))

  pub variables_read : (close : Rattle.core_scan.specs.declared.sort.Sort.Sort) (end : Word) → IsTrue (fits close (kind_sort (kind_of end))) → (xs : List VarName) → VariablesFit xs
      → Reading l (the (many close (the variable))) (λ ys. map bare_variable ys ≡ map bare_variable xs) (λ rest. c.variables true xs (end ∷ rest))
  variables_read close end closes [] fits_ = by_ways l (alone l (word l close end closes) (λ t e. refl))
  variables_read close end closes (x ∷ xs) fits_ = by_ways l (next_way l (this_way l (go l (variable_read x fits_.0) (λ y e. go l (more_variables close end closes xs fits_.1) (λ ys g. done l (λ i. e i ∷ g i))))))
    where
      more_variables : (close : Rattle.core_scan.specs.declared.sort.Sort.Sort) (end : Word) → IsTrue (fits close (kind_sort (kind_of end))) → (xs : List VarName) → VariablesFit xs
          → Reading l (the (more close (the variable))) (λ ys. map bare_variable ys ≡ map bare_variable xs) (λ rest. c.variables false xs (end ∷ rest))
      more_variables close end closes [] fits_ = by_ways l (alone l (word l close end closes) (λ t e. refl))
      more_variables close end closes (x ∷ xs) fits_ = by_ways l
          (next_way l (this_way l (go l (word l s.Comma (symbol (codes ",")) refl) (λ t q. go l (variable_read x fits_.0) (λ y e. go l (more_variables close end closes xs fits_.1) (λ ys g. done l (λ i. e i ∷ g i)))))))

  pub in_angles : (xs : List VarName) → VariablesFit xs → Reading l (the variables) (λ ys. map bare_variable ys ≡ map bare_variable xs) (λ rest. symbol (codes "<") ∷ c.variables true xs (symbol (codes ">") ∷ rest))
  in_angles xs fits_ = by_ways l (next_way l (this_way l (go l (word l s.Less (symbol (codes "<")) refl) (λ t e. go l (variables_read s.Greater (symbol (codes ">")) refl xs fits_) (λ ys g. done l g)))))

  pub literal_read : (d : ℕ) → d ≤ l → (x : Literal) → LiteralFits x → Reading l (the (literal d)) (λ y. y.value ≡ x) (λ rest. c.literal x rest)
  literal_read d deep (lit.Int n) fits_ = by_ways l (alone l (node l d s.Integer (integer n) deep (any_integer_fits n)) (λ t e. ap (λ k. lit.Int (kind_value k)) e))
  literal_read d deep (lit.Float f) fits_ = by_ways l (next_way l (alone l (node l d s.Float (w.float f) deep refl) (λ t e. ap (λ k. lit.Float (kind_text k)) e)))
  literal_read d deep (lit.Atom x) fits_ = by_ways l (next_way l (next_way l (next_way l (alone l (node l d s.Atom (atom x) deep refl) (λ t e. ap (λ k. lit.Atom (kind_text k)) e)))))
  literal_read d deep lit.Nil fits_ =
      by_ways l (next_way l (next_way l (next_way l (next_way l
      (next_way l (this_way l (go l (node l d s.OpenSquare (symbol (codes "[")) deep refl) (λ t e. go l (word l s.CloseSquare (symbol (codes "]")) refl) (λ u g. done l refl)))))))))
