-- The words of parts, as the printer writes them.
use Rattle.std.proofs.Common.{subst, append_assoc, ◌≡◌, ℕ, List, [], ◌∷◌, ◌++◌, Bool, true, false, Option, Some, None, codes, refl, sym, ap, ◌∙◌, pos}
use Rattle.std.specs.Fmt.{decimal}
use Rattle.std.proofs.lemmas.List.{append-nil}
use Rattle.core_ast.specs.declared.syntax.StepOf.{StepOf}
use Rattle.core_ast.specs.declared.syntax.StepOf.TheVariants.{Let, Do}
use Rattle.core_ast.specs.declared.syntax.Expr.{Expr}
use Rattle.core_ast.specs.declared.syntax.Mark.{Mark}
use Rattle.core_ast.specs.declared.syntax.FunName.{FunName}
use Rattle.core_ast.specs.declared.syntax.VarName.{VarName}
use Rattle.core_ast.specs.declared.syntax.Note.{Note}
use Rattle.std.specs.Prelude.{if◌then◌else◌}
use Rattle.core_ast.specs.declared.syntax.Literal.{Literal}
use Rattle.core_ast.specs.declared.syntax.Pattern.{Pattern}
use Rattle.core_ast.specs.declared.syntax.MapPair.{MapPair}
use Rattle.core_ast.specs.declared.syntax.PatPair.{PatPair}
use Rattle.core_ast.specs.declared.syntax.Segment.{Segment, out-Segment}
use Rattle.core_ast.specs.declared.syntax.PatSegment.{PatSegment, out-PatSegment}
use Rattle.core_ast.specs.declared.syntax.Clause.{Clause, out-Clause}
use Rattle.core_ast.specs.declared.syntax.PatForm.TheVariants as p
use Rattle.core_ast.specs.declared.syntax.Form.TheVariants as f
use Rattle.core_ast.specs.declared.syntax.Form.TheOpen.{Form-F, PatForm-F}
use Rattle.core_ast.specs.Model as m
use Rattle.core_ast.specs.Tree.{Marked, MarkedPattern, ClauseParts, PairParts, PatPairParts, SegmentParts, PatSegmentParts, form_layer, pat_form_layer, tree, pattern_tree}
use Rattle.core_ast.specs.Tree.{all_trees, all_patterns, all_pairs, clause_parts, pair_parts, pat_pair_parts, segment_parts, pat_segment_parts, step_tree, all_steps}
use Rattle.core_ast.proofs.Trees.{clause-is, pair-is, pat_pair-is, segment-is, pat_segment-is, tree-is, form_tree-out, pattern_tree-is, pat_form_tree-out}
use Rattle.core_ast.proofs.Forms.{new_map_tree, updated_map_tree, literal_tree, listed_tree, equals_pattern, list_of_pattern, opened, opened_pattern}
use Rattle.core_print.specs.Words.{Word, reserved, symbol, atom, integer, spaced, line}
use Rattle.core_print.specs.Canonical.{Words, function_name, is_written, steps, note_items, note_of, pattern_note_of, opened as bracket, closed, noted, annotation}
use Rattle.core_print.specs.Canonical.{literal_tail, plain, plain_pattern, tail, pattern_tail, expression, pattern, expressions, patterns, pairs, variables}
use Rattle.core_print.specs.steps.Writes.{Begins, Writes}
use Rattle.core_print.specs.steps.Parts.{fronts, ends, step_front, step_end, map_end, segment_words, pair_words, clause_words, pat_pair_words, pat_segment_words}
use Rattle.core_print.proofs.Adding.{both, fixed, one_word, written}

pub next_step : (x : StepOf Expr) (xs : List (StepOf Expr)) (rest : List Word) → fronts (all_steps (x ∷ xs)) rest ≡ step_front (step_tree x) (fronts (all_steps xs) rest)
next_step (Let k vs e) xs rest = refl
next_step (Do k e) xs rest = refl

-- the items of an annotation
pub line_and_flag : (line : Option ℕ) (flag : Bool) (n : ℕ) (a b c d : List ℕ) → line ≡ Some n → flag ≡ true → b ≡ a ++ 32 ∷ [] → c ≡ b ++ decimal n → d ≡ c ++ codes " , 'compiler_generated'"
    → Writes (note_items line flag) a d
line_and_flag line flag n a b c d is yes_ e g h =
    written (λ rest. integer (pos n) ∷ symbol (codes ",") ∷ atom (codes "compiler_generated") ∷ rest) (note_items line flag) a d
    (λ rest i. note_items (sym is i) (sym yes_ i) rest)
    (both (one_word (integer (pos n)) a b c e g) (fixed (λ rest. symbol (codes ",") ∷ atom (codes "compiler_generated") ∷ rest) c d _ h (λ rest. refl)))

pub flag_alone : (line : Option ℕ) (flag : Bool) (a d : List ℕ) → ((n : ℕ) → line ≡ Some n → ⊥) → flag ≡ true → d ≡ a ++ codes " 'compiler_generated'" → Writes (note_items line flag) a d
flag_alone (Some n) flag a d no_line yes_ h = absurd (no_line n refl)
flag_alone None flag a d no_line yes_ h =
    written (λ rest. atom (codes "compiler_generated") ∷ rest) (note_items None flag) a d
    (λ rest i. note_items None (sym yes_ i) rest)
    (fixed (λ rest. atom (codes "compiler_generated") ∷ rest) a d _ h (λ rest. refl))

-- ---- expressions and patterns with their notes

layer_note : (k : Mark) (y : Form-F Marked MarkedPattern ClauseParts m.Tree PairParts PatPairParts PatSegmentParts m.Pattern SegmentParts) → note_of (form_layer y k) ≡ k.note
layer_note k (Form-F.Form::Map ps None) = refl
layer_note k (Form-F.Form::Map ps (Some t)) = refl
layer_note k y = refl

note_is : (e : Expr) → note_of (tree e) ≡ e.mark.note
note_is e = ap note_of (tree-is e ∙ ap (λ g. g e.mark) (form_tree-out e.form)) ∙ layer_note e.mark _

pattern_layer_note : (k : Mark) (y : PatForm-F Marked MarkedPattern ClauseParts m.Tree PairParts PatPairParts PatSegmentParts m.Pattern SegmentParts) → pattern_note_of (pat_form_layer y k) ≡ k.note
pattern_layer_note k (PatForm-F.PatForm::Var x) = refl
pattern_layer_note k y = refl

pattern_note_is : (e : Pattern) → pattern_note_of (pattern_tree e) ≡ e.mark.note
pattern_note_is e = ap pattern_note_of (pattern_tree-is e ∙ ap (λ g. g e.mark) (pat_form_tree-out e.form)) ∙ pattern_layer_note e.mark _

pub expression_written : (e : Expr) (a b c d : List ℕ) → Writes (bracket e.mark.note) a b → Writes (plain (tree e)) b c → Writes (closed e.mark.note) c d → Writes (expression (tree e)) a d
expression_written e a b c d v w x = written (noted e.mark.note (plain (tree e))) (expression (tree e)) a d (λ rest. ap (λ n. noted n (plain (tree e)) rest) (sym (note_is e))) (both v (both w x))

pub pattern_written : (e : Pattern) (a b c d : List ℕ) → Writes (bracket e.mark.note) a b → Writes (plain_pattern (pattern_tree e)) b c → Writes (closed e.mark.note) c d → Writes (pattern (pattern_tree e)) a d
pattern_written e a b c d v w x = written (noted e.mark.note (plain_pattern (pattern_tree e))) (pattern (pattern_tree e)) a d (λ rest. ap (λ n. noted n (plain_pattern (pattern_tree e)) rest) (sym (pattern_note_is e))) (both v (both w x))

-- an expression of a form
pub as_tree : (e : Expr) (t : m.Tree) (a b : List ℕ) → tree e ≡ t → Writes (plain t) a b → Writes (plain (tree e)) a b
as_tree e t a b is w = subst (λ z. Writes (plain z) a b) (sym is) w

pub as_pattern : (e : Pattern) (t : m.Pattern) (a b : List ℕ) → pattern_tree e ≡ t → Writes (plain_pattern t) a b → Writes (plain_pattern (pattern_tree e)) a b
as_pattern e t a b is w = subst (λ z. Writes (plain_pattern z) a b) (sym is) w

-- ---- tails

pub literal_as_tail : (e : Expr) (x : Literal) (a b : List ℕ) → e.form ≡ f.Lit x → Writes (literal_tail e.mark.note x) a b → Writes (tail (tree e) (plain (tree e))) a b
literal_as_tail e x a b is w = subst (λ z. Writes (tail z (plain z)) a b) (sym (literal_tree e x is)) w

pub list_as_tail : (e : Expr) (xs : List Expr) (x : Expr) (a b : List ℕ) → e.form ≡ f.Listed xs x → Writes (λ rest. symbol (codes "|") ∷ symbol (codes "(") ∷ plain (tree e) (annotation e.mark.note rest)) a b
    → Writes (tail (tree e) (plain (tree e))) a b
list_as_tail e xs x a b is w =
    written (λ rest. symbol (codes "|") ∷ symbol (codes "(") ∷ plain (tree e) (annotation e.mark.note rest)) (tail (tree e) (plain (tree e))) a b
    (λ rest. ap (λ z. tail z (plain (tree e)) rest) (sym (listed_tree e xs x is))) w

other_tail : (e : Expr) → ((x : Literal) → e.form ≡ f.Lit x → ⊥) → ((xs : List Expr) (x : Expr) → e.form ≡ f.Listed xs x → ⊥) → (rest : List Word)
    → symbol (codes "|") ∷ expression (tree e) rest ≡ tail (tree e) (plain (tree e)) rest
other_tail e no_literal no_list rest = by (tree e) refl
  where
    by : (t : m.Tree) → tree e ≡ t → symbol (codes "|") ∷ expression t rest ≡ tail t (plain t) rest
    by (m.literal k x) is = absurd (no_literal x (opened e (m.literal k x) is).0)
    by (m.listed k ts t) is = let o = opened e (m.listed k ts t) is in absurd (no_list o.0 o.1 o.2)
    by t is = refl

pub expression_as_tail : (e : Expr) (a b : List ℕ) → ((x : Literal) → e.form ≡ f.Lit x → ⊥) → ((xs : List Expr) (x : Expr) → e.form ≡ f.Listed xs x → ⊥)
    → Writes (λ rest. symbol (codes "|") ∷ expression (tree e) rest) a b → Writes (tail (tree e) (plain (tree e))) a b
expression_as_tail e a b no_literal no_list w = written (λ rest. symbol (codes "|") ∷ expression (tree e) rest) (tail (tree e) (plain (tree e))) a b (other_tail e no_literal no_list) w

pub literal_as_pattern_tail : (e : Pattern) (x : Literal) (a b : List ℕ) → e.form ≡ p.Lit x → Writes (literal_tail e.mark.note x) a b → Writes (pattern_tail (pattern_tree e) (plain_pattern (pattern_tree e))) a b
literal_as_pattern_tail e x a b is w = subst (λ z. Writes (pattern_tail z (plain_pattern z)) a b) (sym (equals_pattern e x is)) w

pub list_as_pattern_tail : (e : Pattern) (xs : List Pattern) (x : Pattern) (a b : List ℕ) → e.form ≡ p.Listed xs x
    → Writes (λ rest. symbol (codes "|") ∷ symbol (codes "(") ∷ plain_pattern (pattern_tree e) (annotation e.mark.note rest)) a b → Writes (pattern_tail (pattern_tree e) (plain_pattern (pattern_tree e))) a b
list_as_pattern_tail e xs x a b is w =
    written (λ rest. symbol (codes "|") ∷ symbol (codes "(") ∷ plain_pattern (pattern_tree e) (annotation e.mark.note rest)) (pattern_tail (pattern_tree e) (plain_pattern (pattern_tree e))) a b
    (λ rest. ap (λ z. pattern_tail z (plain_pattern (pattern_tree e)) rest) (sym (list_of_pattern e xs x is))) w

other_pattern_tail : (e : Pattern) → ((x : Literal) → e.form ≡ p.Lit x → ⊥) → ((xs : List Pattern) (x : Pattern) → e.form ≡ p.Listed xs x → ⊥) → (rest : List Word)
    → symbol (codes "|") ∷ pattern (pattern_tree e) rest ≡ pattern_tail (pattern_tree e) (plain_pattern (pattern_tree e)) rest
other_pattern_tail e no_literal no_list rest = by (pattern_tree e) refl
  where
    by : (t : m.Pattern) → pattern_tree e ≡ t → symbol (codes "|") ∷ pattern t rest ≡ pattern_tail t (plain_pattern t) rest
    by (m.equals k x) is = absurd (no_literal x (opened_pattern e (m.equals k x) is).0)
    by (m.list_of k ts t) is = let o = opened_pattern e (m.list_of k ts t) is in absurd (no_list o.0 o.1 o.2)
    by t is = refl

pub pattern_as_tail : (e : Pattern) (a b : List ℕ) → ((x : Literal) → e.form ≡ p.Lit x → ⊥) → ((xs : List Pattern) (x : Pattern) → e.form ≡ p.Listed xs x → ⊥)
    → Writes (λ rest. symbol (codes "|") ∷ pattern (pattern_tree e) rest) a b → Writes (pattern_tail (pattern_tree e) (plain_pattern (pattern_tree e))) a b
pattern_as_tail e a b no_literal no_list w = written (λ rest. symbol (codes "|") ∷ pattern (pattern_tree e) rest) (pattern_tail (pattern_tree e) (plain_pattern (pattern_tree e))) a b (other_pattern_tail e no_literal no_list) w

-- a map, by whether it updates another
pub map_written : (e : Expr) (ps qs : List MapPair) (o : Option Expr) (a b c : List ℕ) → e.form ≡ f.Map ps o → qs ≡ ps → Writes (λ rest. symbol (codes "~{") ∷ pairs true (all_pairs qs) rest) a b → Writes (map_end o) b c
    → Writes (plain (tree e)) a c
map_written e ps qs None a b c is same v w = as_tree e (m.new_map e.mark (all_pairs qs)) a c (new_map_tree e ps is ∙ (λ i. m.new_map e.mark (all_pairs (sym same i)))) (both v w)
map_written e ps qs (Some x) a b c is same v w = as_tree e (m.updated_map e.mark (all_pairs qs) (tree x)) a c (updated_map_tree e ps x is ∙ (λ i. m.updated_map e.mark (all_pairs (sym same i)) (tree x))) (both v w)

pub map_end_some : (o : Option Expr) (x y : Expr) (a b : List ℕ) → o ≡ Some x → y ≡ x → Writes (λ rest. symbol (codes "|") ∷ expression (tree y) (symbol (codes "}~") ∷ rest)) a b → Writes (map_end o) a b
map_end_some o x y a b is same w = written (λ rest. symbol (codes "|") ∷ expression (tree y) (symbol (codes "}~") ∷ rest)) (map_end o) a b (λ rest. (λ i. map_end (Some (same i)) rest) ∙ (λ i. map_end (sym is i) rest)) w

pub map_end_none : (o : Option Expr) (a b : List ℕ) → o ≡ None → b ≡ a ++ codes " }~" → Writes (map_end o) a b
map_end_none o a b is e = written (λ rest. symbol (codes "}~") ∷ rest) (map_end o) a b (λ rest i. map_end (sym is i) rest) (fixed (λ rest. symbol (codes "}~") ∷ rest) a b _ e (λ rest. refl))

-- ---- the same of equal values

pub at_expression : {a b : List ℕ} (x y : Expr) → x ≡ y → Writes (expression (tree x)) a b → Writes (expression (tree y)) a b
at_expression {a} {b} x y is w = subst (λ z. Writes (expression (tree z)) a b) is w

pub at_expressions : {a b : List ℕ} (xs ys : List Expr) → xs ≡ ys → Writes (expressions true (all_trees xs)) a b → Writes (expressions true (all_trees ys)) a b
at_expressions {a} {b} xs ys is w = subst (λ z. Writes (expressions true (all_trees z)) a b) is w

pub at_patterns : {a b : List ℕ} (xs ys : List Pattern) → xs ≡ ys → Writes (patterns true (all_patterns xs)) a b → Writes (patterns true (all_patterns ys)) a b
at_patterns {a} {b} xs ys is w = subst (λ z. Writes (patterns true (all_patterns z)) a b) is w

pub at_variables : {a b : List ℕ} (xs ys : List VarName) → xs ≡ ys → Writes (variables true xs) a b → Writes (variables true ys) a b
at_variables {a} {b} xs ys is w = subst (λ z. Writes (variables true z) a b) is w

-- parts of lists, by their fields
pub segment_written : {a b : List ℕ} (s : Segment) → Writes (λ rest. symbol (codes "#<")
    ∷ expression (tree (out-Segment s).value) (symbol (codes ">") ∷ symbol (codes "(") ∷ expressions true (all_trees (out-Segment s).args) (symbol (codes ")") ∷ rest))) a b → Writes (segment_words (segment_parts s)) a b
segment_written {a} {b} s w = subst (λ z. Writes (segment_words z) a b) (sym (segment-is s)) w

pub pat_segment_written : {a b : List ℕ} (s : PatSegment) → Writes (λ rest. symbol (codes "#<")
    ∷ pattern (pattern_tree (out-PatSegment s).value) (symbol (codes ">") ∷ symbol (codes "(") ∷ expressions true (all_trees (out-PatSegment s).args) (symbol (codes ")") ∷ rest))) a b
    → Writes (pat_segment_words (pat_segment_parts s)) a b
pat_segment_written {a} {b} s w = subst (λ z. Writes (pat_segment_words z) a b) (sym (pat_segment-is s)) w

pub pair_written : {a b : List ℕ} (p : MapPair) → Writes (λ rest. expression (tree p.key) (symbol (if p.exact then codes ":=" else codes "=>") ∷ expression (tree p.value) rest)) a b → Writes (pair_words (pair_parts p)) a b
pair_written {a} {b} p w = subst (λ z. Writes (pair_words z) a b) (sym (pair-is p)) w

pub pat_pair_written : {a b : List ℕ} (p : PatPair) → Writes (λ rest. expression (tree p.key) (symbol (codes ":=") ∷ pattern (pattern_tree p.value) rest)) a b → Writes (pat_pair_words (pat_pair_parts p)) a b
pat_pair_written {a} {b} p w = subst (λ z. Writes (pat_pair_words z) a b) (sym (pat_pair-is p)) w

pub clause_written :
    {a b : List ℕ} (c : Clause)
    → Writes
    (λ rest. bracket (out-Clause c).mark.note (symbol (codes "<") ∷ patterns true (all_patterns (out-Clause c).patterns)
    (symbol (codes ">") ∷ reserved (codes "when") ∷ expression (tree (out-Clause c).guard) (symbol (codes "->") ∷ expression (tree (out-Clause c).body) (closed (out-Clause c).mark.note rest)))))
    a b
    → Writes (clause_words (clause_parts c)) a b
clause_written {a} {b} c w = subst (λ z. Writes (clause_words z) a b) (sym (clause-is c)) w

-- ---- chains

pub last_step : (xs : List (StepOf Expr)) (x : StepOf Expr) (rest : List Word) → ends (all_steps (xs ++ x ∷ [])) rest ≡ step_end (step_tree x) (ends (all_steps xs) rest)
last_step [] (Let k vs e) rest = refl
last_step [] (Do k e) rest = refl
last_step (Let k vs e ∷ ys) x rest = last_step ys x (closed k.note rest)
last_step (Do k e ∷ ys) x rest = last_step ys x (closed k.note rest)

steps_split : (ss : m.Steps) (last : Words) (rest : List Word) → fronts ss (last (ends ss rest)) ≡ steps ss last rest
steps_split m.no_step last rest = refl
steps_split (m.and_let k xs t ss) last rest = ap (λ r. step_front (Let k xs t) r) (steps_split ss last (closed k.note rest))
steps_split (m.and_do k t ss) last rest = ap (λ r. step_front (Do k t) r) (steps_split ss last (closed k.note rest))

pub chain_written : (ss : m.Steps) (last : Words) (a b c d : List ℕ) → Writes (fronts ss) a b → Writes last b c → Writes (ends ss) c d → Writes (λ rest. steps ss last rest) a d
chain_written ss last a b c d v w x = written (λ rest. fronts ss (last (ends ss rest))) (λ rest. steps ss last rest) a d (steps_split ss last) (both v (both w x))

-- ---- the module

pub begun : {f g : Words} {a b : List ℕ} → Begins f a → Writes g a b → Begins (λ rest. f (g rest)) b
begun {f} {g} {a} {b} first w = record { whole = λ rest. ap (λ z. z ++ 10 ∷ []) (w.text rest) ∙ first.whole (g rest) }

pub ended : {f : Words} {a b : List ℕ} → Begins f a → b ≡ a ++ 10 ∷ [] → b ≡ line (f [])
ended {f} {a} {b} w e = e ∙ ap (λ z. z ++ 10 ∷ []) (sym (append-nil a)) ∙ w.whole []

pub first_open : (n : Note) (a b : List ℕ) → a ≡ [] → is_written n.line n.generated ≡ true → b ≡ a ++ codes "( module" → Begins (λ rest. bracket n (reserved (codes "module") ∷ rest)) b
first_open n a b none_ yes_ e =
    let is : b ≡ codes "( module" = e ∙ ap (λ z. z ++ codes "( module") none_ in
    record {
      whole = λ rest.
          ap (λ z. z ++ spaced rest ++ 10 ∷ []) is
          ∙ ap (λ flag. line (if flag then symbol (codes "(") ∷ reserved (codes "module") ∷ rest else reserved (codes "module") ∷ rest)) (sym yes_);
    }

pub first_bare : (n : Note) (a b : List ℕ) → a ≡ [] → is_written n.line n.generated ≡ false → b ≡ a ++ codes "module" → Begins (λ rest. bracket n (reserved (codes "module") ∷ rest)) b
first_bare n a b none_ not_ e =
    let is : b ≡ codes "module" = e ∙ ap (λ z. z ++ codes "module") none_ in
    record {
      whole = λ rest.
          ap (λ z. z ++ spaced rest ++ 10 ∷ []) is
          ∙ ap (λ flag. line (if flag then symbol (codes "(") ∷ reserved (codes "module") ∷ rest else reserved (codes "module") ∷ rest)) (sym not_);
    }

-- ---- names

pub name_written : (f : FunName) (a b c d : List ℕ) → Writes (λ rest. atom f.name ∷ rest) a b → c ≡ b ++ codes " / " → d ≡ c ++ decimal f.arity → Writes (function_name f) a d
name_written f a b c d w e g =
    both w (fixed (λ rest. symbol (codes "/") ∷ integer (pos f.arity) ∷ rest) b d (codes " / " ++ decimal f.arity) (g ∙ ap (λ z. z ++ decimal f.arity) e ∙ append_assoc b (codes " / ") (decimal f.arity)) (λ rest. refl))
