-- Labels go through items from the left: one more item at the end, and lists of the model as lists of items.
use Rattle.std.proofs.Common.{◌≡◌, ℕ, ◌+◌, List, [], ◌∷◌, ◌++◌, map, refl, sym, ap, ◌∙◌}
use Rattle.std.proofs.lemmas.List.{map-append}
use Rattle.core_ast.specs.declared.syntax.Note.{Note}
use Rattle.core_ast.specs.declared.syntax.Mark.{Mark}
use Rattle.core_ast.specs.Model as m
use Rattle.core_ast.specs.Notes.{note_tree, noted_pattern}
use Rattle.core_ast.specs.Tree as t
use Rattle.core_parse_grammar.specs.Labels.{labelled, number, number_all, number_segments, number_pairs, number_clauses, number_pattern, number_patterns, number_pat_segments, number_pat_pairs}
use Rattle.core_parse_forms.specs.steps.Items.{number_each, number_segment, number_pair, number_pat_segment, number_pat_pair, number_clause}

module _ {A : Type 0} (one : ℕ → A → A × ℕ) where
  -- one more at the end
  pub each_more : (n p q : ℕ) (raw done : List A) (x y : A) → number_each one n raw ≡ (done, p) → one p x ≡ (y, q) → number_each one n (raw ++ x ∷ []) ≡ (done ++ y ∷ [], q)
  each_more n p q raw done x y h e = go n raw ∙ ap (λ (r : List A × ℕ). let s = one r.1 x in let z : List A × ℕ = (r.0 ++ s.0 ∷ [], s.1) in z) h ∙ ap (λ (s : A × ℕ). let z : List A × ℕ = (done ++ s.0 ∷ [], s.1) in z) e
    where
      go : (n : ℕ) (raw : List A) → number_each one n (raw ++ x ∷ []) ≡ (let r = number_each one n raw in let s = one r.1 x in (r.0 ++ s.0 ∷ [], s.1))
      go n [] = refl
      go n (r ∷ raw) = ap (λ (s : List A × ℕ). let z : List A × ℕ = ((one n r).0 ∷ s.0, s.1) in z) (go (one n r).1 raw)

  -- the code's list with one item more
  pub each_pushed : {B : Type 0} (f : B → A) (n p q : ℕ) (raw : List A) (items grown : List B) (x : A) (y : B) → grown ≡ items ++ y ∷ [] → number_each one n raw ≡ (map f items, p) → one p x ≡ (f y, q)
      → number_each one n (raw ++ x ∷ []) ≡ (map f grown, q)
  each_pushed f n p q raw items grown x y g h e = each_more n p q raw (map f items) x (f y) h e ∙ ap (λ zs. let z : List A × ℕ = (zs, q) in z) (sym (ap (map f) g ∙ map-append f items (y ∷ [])))

-- Lists of the model are numbered item after item.
pub trees_each : (n : ℕ) (xs : List m.Tree) → number_all n (t.trees xs) ≡ (let r = number_each number n xs in (t.trees r.0, r.1))
trees_each n [] = refl
trees_each n (x ∷ xs) = ap (λ (s : m.Trees × ℕ). let z : m.Trees × ℕ = (m.and_tree (number n x).0 s.0, s.1) in z) (trees_each (number n x).1 xs)

pub patterns_each : (n : ℕ) (xs : List m.Pattern) → number_patterns n (t.patterns xs) ≡ (let r = number_each number_pattern n xs in (t.patterns r.0, r.1))
patterns_each n [] = refl
patterns_each n (x ∷ xs) = ap (λ (s : m.Patterns × ℕ). let z : m.Patterns × ℕ = (m.and_pattern (number_pattern n x).0 s.0, s.1) in z) (patterns_each (number_pattern n x).1 xs)

pub segments_each : (n : ℕ) (xs : List t.SegmentParts) → number_segments n (t.segments xs) ≡ (let r = number_each number_segment n xs in (t.segments r.0, r.1))
segments_each n [] = refl
segments_each n (x ∷ xs) = let r = number_segment n x in ap (λ (s : m.Segments × ℕ). let z : m.Segments × ℕ = (m.and_segment r.0.value r.0.args s.0, s.1) in z) (segments_each r.1 xs)

pub pairs_each : (n : ℕ) (xs : List t.PairParts) → number_pairs n (t.pairs xs) ≡ (let r = number_each number_pair n xs in (t.pairs r.0, r.1))
pairs_each n [] = refl
pairs_each n (x ∷ xs) = let r = number_pair n x in ap (λ (s : m.Pairs × ℕ). let z : m.Pairs × ℕ = (m.and_pair x.exact r.0.key r.0.value s.0, s.1) in z) (pairs_each r.1 xs)

pub pat_segments_each : (n : ℕ) (xs : List t.PatSegmentParts) → number_pat_segments n (t.pat_segments xs) ≡ (let r = number_each number_pat_segment n xs in (t.pat_segments r.0, r.1))
pat_segments_each n [] = refl
pat_segments_each n (x ∷ xs) = let r = number_pat_segment n x in ap (λ (s : m.PatSegments × ℕ). let z : m.PatSegments × ℕ = (m.and_pat_segment r.0.value r.0.args s.0, s.1) in z) (pat_segments_each r.1 xs)

pub pat_pairs_each : (n : ℕ) (xs : List t.PatPairParts) → number_pat_pairs n (t.pat_pairs xs) ≡ (let r = number_each number_pat_pair n xs in (t.pat_pairs r.0, r.1))
pat_pairs_each n [] = refl
pat_pairs_each n (x ∷ xs) = let r = number_pat_pair n x in ap (λ (s : m.PatPairs × ℕ). let z : m.PatPairs × ℕ = (m.and_pat_pair r.0.key r.0.value s.0, s.1) in z) (pat_pairs_each r.1 xs)

pub clauses_each : (n : ℕ) (xs : List t.ClauseParts) → number_clauses n (t.clauses xs) ≡ (let r = number_each number_clause n xs in (t.clauses r.0, r.1))
clauses_each n [] = refl
clauses_each n (x ∷ xs) = let r = number_clause n x in ap (λ (s : m.Clauses × ℕ). let z : m.Clauses × ℕ = (m.and_clause r.0.mark r.0.patterns r.0.guard r.0.body s.0, s.1) in z) (clauses_each r.1 xs)

-- One item of such a list.
pub segment_one : (n p : ℕ) (x y : t.SegmentParts) → number_segments n (t.segments (x ∷ [])) ≡ (t.segments (y ∷ []), p) → number_segment n x ≡ (y, p)
segment_one n p x y e = ap first_of e
  where
    first_of : m.Segments × ℕ → t.SegmentParts × ℕ
    first_of (m.and_segment a0 a1 rest, q) = (record { value = a0; args = a1 }, q)
    first_of (m.no_segment, q) = (y, q)

pub pair_one : (n p : ℕ) (x y : t.PairParts) → number_pairs n (t.pairs (x ∷ [])) ≡ (t.pairs (y ∷ []), p) → number_pair n x ≡ (y, p)
pair_one n p x y e = ap first_of e
  where
    first_of : m.Pairs × ℕ → t.PairParts × ℕ
    first_of (m.and_pair a0 a1 a2 rest, q) = (record { exact = a0; key = a1; value = a2 }, q)
    first_of (m.no_pair, q) = (y, q)

pub pat_segment_one : (n p : ℕ) (x y : t.PatSegmentParts) → number_pat_segments n (t.pat_segments (x ∷ [])) ≡ (t.pat_segments (y ∷ []), p) → number_pat_segment n x ≡ (y, p)
pat_segment_one n p x y e = ap first_of e
  where
    first_of : m.PatSegments × ℕ → t.PatSegmentParts × ℕ
    first_of (m.and_pat_segment a0 a1 rest, q) = (record { value = a0; args = a1 }, q)
    first_of (m.no_pat_segment, q) = (y, q)

pub pat_pair_one : (n p : ℕ) (x y : t.PatPairParts) → number_pat_pairs n (t.pat_pairs (x ∷ [])) ≡ (t.pat_pairs (y ∷ []), p) → number_pat_pair n x ≡ (y, p)
pat_pair_one n p x y e = ap first_of e
  where
    first_of : m.PatPairs × ℕ → t.PatPairParts × ℕ
    first_of (m.and_pat_pair a0 a1 rest, q) = (record { key = a0; value = a1 }, q)
    first_of (m.no_pat_pair, q) = (y, q)

pub clause_one : (n p : ℕ) (x y : t.ClauseParts) → number_clauses n (t.clauses (x ∷ [])) ≡ (t.clauses (y ∷ []), p) → number_clause n x ≡ (y, p)
clause_one n p x y e = ap first_of e
  where
    first_of : m.Clauses × ℕ → t.ClauseParts × ℕ
    first_of (m.and_clause a0 a1 a2 a3 rest, q) = (record { mark = a0; patterns = a1; guard = a2; body = a3 }, q)
    first_of (m.no_clause, q) = (y, q)

-- A note changes no label.
pub noted_pattern_number : (n : ℕ) (k : Note) (x : m.Pattern) → number_pattern n (noted_pattern k x) ≡ (let r = number_pattern n x in (noted_pattern k r.0, r.1))
noted_pattern_number n k (m.binds mark x) = refl
noted_pattern_number n k _ = refl

pub noted_tree_number : (n : ℕ) (k : Note) (x : m.Tree) → number n (note_tree k x) ≡ (let r = number n x in (note_tree k r.0, r.1))
noted_tree_number n k (m.chain mark m.no_step x) = refl
noted_tree_number n k (m.chain mark (m.and_let o xs u ss) x) = refl
noted_tree_number n k (m.chain mark (m.and_do o u ss) x) = refl
noted_tree_number n k _ = refl

-- Items behind items.
pub each_append : {A : Type 0} (one : ℕ → A → A × ℕ) (n p q : ℕ) (raw more done last : List A) → number_each one n raw ≡ (done, p) → number_each one p more ≡ (last, q)
    → number_each one n (raw ++ more) ≡ (done ++ last, q)
each_append {A} one n p q raw more done last h e = go n raw ∙ ap (λ (r : List A × ℕ). let s = number_each one r.1 more in let z : List A × ℕ = (r.0 ++ s.0, s.1) in z) h
    ∙ ap (λ (s : List A × ℕ). let z : List A × ℕ = (done ++ s.0, s.1) in z) e
  where
    go : (n : ℕ) (raw : List A) → number_each one n (raw ++ more) ≡ (let r = number_each one n raw in let s = number_each one r.1 more in (r.0 ++ s.0, s.1))
    go n [] = refl
    go n (r ∷ raw) = ap (λ (s : List A × ℕ). let z : List A × ℕ = ((one n r).0 ∷ s.0, s.1) in z) (go (one n r).1 raw)

pub patterns_are : (n p : ℕ) (raw done : List m.Pattern) → number_each number_pattern n raw ≡ (done, p) → number_patterns n (t.patterns raw) ≡ (t.patterns done, p)
patterns_are n p raw done e = patterns_each n raw ∙ ap (λ (r : List m.Pattern × ℕ). let z : m.Patterns × ℕ = (t.patterns r.0, r.1) in z) e

pub list_of_is : (n p q : ℕ) (k : Mark) (raw done : List m.Pattern) (x y : m.Pattern) → number_each number_pattern (n + 1) raw ≡ (done, p) → number_pattern p x ≡ (y, q)
    → number_pattern n (m.list_of k (t.patterns raw) x) ≡ (m.list_of (labelled n k) (t.patterns done) y, q)
list_of_is n p q k raw done x y h e = ap (λ (r : m.Patterns × ℕ). let s = number_pattern r.1 x in let z : m.Pattern × ℕ = (m.list_of (labelled n k) r.0 s.0, s.1) in z) (patterns_are (n + 1) p raw done h)
    ∙ ap (λ (s : m.Pattern × ℕ). let z : m.Pattern × ℕ = (m.list_of (labelled n k) (t.patterns done) s.0, s.1) in z) e
