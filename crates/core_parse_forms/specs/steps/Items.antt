-- Items whose labels go on from one to the next, and what a function that reads them made of them.
use Rattle.std.specs.Prelude.{◌≡◌, ℕ, ◌+◌, List, [], ◌∷◌}
use Rattle.core_scan.specs.declared.token.Token.{Token}
use Rattle.core_scan.specs.declared.sort.Sort.{Sort}
use Rattle.core_ast.specs.Tree as t
use Rattle.core_parse_grammar.specs.Grammar.{Nonterminal, Said, the, many}
use Rattle.core_parse_grammar.specs.Labels.{labelled, number, number_all, number_pattern, number_patterns}
use Rattle.core_parse_grammar.specs.Track.{Passes}

-- Items whose labels go on from one to the next.
abbrev pub number_each : {A : Type 0} → (ℕ → A → A × ℕ) → ℕ → List A → List A × ℕ
number_each one n [] = ([], n)
number_each one n (x ∷ xs) = let r = one n x in let s = number_each one r.1 xs in (r.0 ∷ s.0, s.1)

abbrev pub number_segment : ℕ → t.SegmentParts → t.SegmentParts × ℕ
number_segment n x = let r = number n x.value in let s = number_all r.1 x.args in (record { value = r.0; args = s.0 }, s.1)

abbrev pub number_pair : ℕ → t.PairParts → t.PairParts × ℕ
number_pair n x = let r = number n x.key in let s = number r.1 x.value in (record { exact = x.exact; key = r.0; value = s.0 }, s.1)

abbrev pub number_pat_segment : ℕ → t.PatSegmentParts → t.PatSegmentParts × ℕ
number_pat_segment n x = let r = number_pattern n x.value in let s = number_all r.1 x.args in (record { value = r.0; args = s.0 }, s.1)

abbrev pub number_pat_pair : ℕ → t.PatPairParts → t.PatPairParts × ℕ
number_pat_pair n x = let r = number n x.key in let s = number_pattern r.1 x.value in (record { key = r.0; value = s.0 }, s.1)

abbrev pub number_clause : ℕ → t.ClauseParts → t.ClauseParts × ℕ
number_clause n x = let r = number_patterns (n + 1) x.patterns in let s = number r.1 x.guard in let q = number s.1 x.body in
    (record { mark = labelled n x.mark; patterns = r.0; guard = s.0; body = q.0 }, q.1)

-- A part whose labels are given by `one`.
pub record ReadsItem (m : Nonterminal) (one : ℕ → Said m → Said m × ℕ) (n : ℕ) (ts : List Token) (made : Said m) (left : List Token) (p : ℕ) : Type 0 where
  pub says : Said m
  pub passes : Passes m ts says left
  pub agrees : one n says ≡ (made, p)

-- Such parts, with commas, up to and with the token that closes them.
pub record ReadsItems (c : Sort) (m : Nonterminal) (one : ℕ → Said m → Said m × ℕ) (n : ℕ) (ts : List Token) (made : List (Said m)) (left : List Token) (p : ℕ) : Type 0 where
  pub says : List (Said m)
  pub passes : Passes (many c (the m)) ts says left
  pub agrees : number_each one n says ≡ (made, p)
