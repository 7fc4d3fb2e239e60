-- The bytes of a string as nodes: what is added so far, and their labels.
use Rattle.std.proofs.Common.{◌≡◌, ℕ, ◌+◌, List, [], ◌∷◌, length, refl, sym, ap, ◌∙◌, arith}
use Rattle.std.specs.Prelude.{pos}
use Rattle.type_kinds.specs.declared.place.Place.{Place}
use Rattle.core_scan.specs.declared.token.TokenKind.{TokenKind}
use Rattle.core_scan.specs.declared.token.TokenKind.TheVariants as k
use Rattle.core_scan.specs.declared.token.Token.{Token}
use Rattle.core_scan.specs.declared.sort.Sort.{Sort}
use Rattle.core_scan.specs.declared.sort.Sort.TheVariants as s
use Rattle.core_scan.specs.Sorts.{kind_sort}
use Rattle.core_ast.specs.declared.syntax.Literal.TheVariants as l
use Rattle.core_ast.specs.Model as m
use Rattle.core_ast.specs.Tree as t
use Rattle.core_parse_grammar.specs.Build.{kind_text, text, byte_trees, byte_patterns}
use Rattle.core_parse_grammar.specs.Labels.{number, number_pattern}
use Rattle.core_parse_grammar.specs.Faults.{Starts}
use Rattle.core_parse_forms.specs.steps.Items.{number_each}
use Rattle.core_parse_grammar.specs.Readings.{mark}
use Rattle.core_parse_grammar.specs.Strings.{labelled_bytes, labelled_byte_patterns}
use Rattle.core_parse_grammar.specs.Weights.{kind_weight, weight}

-- the table's nodes of the bytes, with labels
pub bytes_each : (n : ℕ) (place : Place) (bs : List ℕ) → number_each number n (byte_trees place bs) ≡ (labelled_bytes n place bs, n + length bs)
bytes_each n place [] = ap (λ (k : ℕ). let z : List m.Tree × ℕ = ([], k) in z) (omega arith)
bytes_each n place (b ∷ bs) =
    ap (λ (r : List m.Tree × ℕ). let z : List m.Tree × ℕ = (m.literal (mark n place) (l.Int (pos b)) ∷ r.0, r.1) in z) (bytes_each (n + 1) place bs)
    ∙ ap (λ (k : ℕ). let z : List m.Tree × ℕ = (labelled_bytes n place (b ∷ bs), k) in z) (omega arith)

pub byte_patterns_each : (n : ℕ) (place : Place) (bs : List ℕ) → number_each number_pattern n (byte_patterns place bs) ≡ (labelled_byte_patterns n place bs, n + length bs)
byte_patterns_each n place [] = ap (λ (k : ℕ). let z : List m.Pattern × ℕ = ([], k) in z) (omega arith)
byte_patterns_each n place (b ∷ bs) =
    ap (λ (r : List m.Pattern × ℕ). let z : List m.Pattern × ℕ = (m.equals (mark n place) (l.Int (pos b)) ∷ r.0, r.1) in z) (byte_patterns_each (n + 1) place bs)
    ∙ ap (λ (k : ℕ). let z : List m.Pattern × ℕ = (labelled_byte_patterns n place (b ∷ bs), k) in z) (omega arith)

-- the same, where the bytes are known to be these
pub bytes_are : (n p : ℕ) (place : Place) (bs : List ℕ) (done : List m.Tree) → done ≡ labelled_bytes n place bs → p ≡ n + length bs → number_each number n (byte_trees place bs) ≡ (done, p)
bytes_are n p place bs done e h = bytes_each n place bs ∙ ap (λ (k : ℕ). let z : List m.Tree × ℕ = (labelled_bytes n place bs, k) in z) (sym h) ∙ ap (λ k. let z : List m.Tree × ℕ = (k, p) in z) (sym e)

pub byte_patterns_are : (n p : ℕ) (place : Place) (bs : List ℕ) (done : List m.Pattern) → done ≡ labelled_byte_patterns n place bs → p ≡ n + length bs → number_each number_pattern n (byte_patterns place bs) ≡ (done, p)
byte_patterns_are n p place bs done e h = byte_patterns_each n place bs ∙ ap (λ (k : ℕ). let z : List m.Pattern × ℕ = (labelled_byte_patterns n place bs, k) in z) (sym h)
    ∙ ap (λ k. let z : List m.Pattern × ℕ = (k, p) in z) (sym e)

-- A string weighs its bytes and two.
pub text_weight : (k : TokenKind) → kind_sort k ≡ s.Text → kind_weight k ≡ length (kind_text k) + 2
text_weight (k.Variable name) h = absurd cc
text_weight (k.Atom name) h = absurd cc
text_weight (k.Float spelling) h = absurd cc
text_weight _ h = refl

pub string_weight : (ts us : List Token) (t : Token) (q : Sort) (place : Place) → Starts ts t q place us → q ≡ s.Text → weight us + (length (text t) + 2) ≡ weight ts
string_weight ts us t q place b h = omega (arith, text_weight t.kind (sym b.sort_is ∙ h), ap (λ x. weight x) b.are)
