-- The words of a tree are those of the tree with its labels.
use Rattle.std.proofs.Common.{◌≡◌, ℕ, ◌+◌, ◌∷◌, Bool, true, false, codes, refl}
use Rattle.std.specs.Prelude.{if◌then◌else◌}
use Rattle.core_ast.specs.Model as m
use Rattle.core_parse_grammar.specs.Labels.{number, number_all, number_segments, number_pairs, number_steps, number_clauses, number_defs, number_pattern, number_patterns, number_pat_segments, number_pat_pairs}
use Rattle.core_print.specs.Words.{reserved, symbol, variable, atom}
use Rattle.core_print.specs.Canonical.{Words, annotation, opened, closed, noted, comma, function_name, literal, variable_in_list, variables, note_of, pattern_note_of, tail}
use Rattle.core_print.specs.Canonical.{pattern_tail, plain, expressions, pairs, segments, steps, clauses, definitions, plain_pattern, patterns, pat_pairs, pat_segments}

note_same : (n : ℕ) (t : m.Tree) → note_of (number n t).0 ≡ note_of t
note_same n (m.variable k x) = refl
note_same n t = refl

pattern_note_same : (n : ℕ) (t : m.Pattern) → pattern_note_of (number_pattern n t).0 ≡ pattern_note_of t
pattern_note_same n (m.binds k x) = refl
pattern_note_same n t = refl

tail_same : (n : ℕ) (t : m.Tree) → plain (number n t).0 ≡ plain t → tail (number n t).0 (plain (number n t).0) ≡ tail t (plain t)
tail_same n (m.literal k x) p = refl
tail_same n (m.listed k ts t) p = λ i rest. symbol (codes "|") ∷ symbol (codes "(") ∷ p i (annotation k.note rest)
tail_same n t p = λ i rest. symbol (codes "|") ∷ noted (note_of t) (p i) rest

pattern_tail_same : (n : ℕ) (t : m.Pattern) → plain_pattern (number_pattern n t).0 ≡ plain_pattern t → pattern_tail (number_pattern n t).0 (plain_pattern (number_pattern n t).0) ≡ pattern_tail t (plain_pattern t)
pattern_tail_same n (m.equals k x) p = refl
pattern_tail_same n (m.list_of k ts t) p = λ i rest. symbol (codes "|") ∷ symbol (codes "(") ∷ p i (annotation k.note rest)
pattern_tail_same n t p = λ i rest. symbol (codes "|") ∷ noted (pattern_note_of t) (p i) rest

mutual
  pub plain_same : (n : ℕ) (t : m.Tree) → plain (number n t).0 ≡ plain t
  plain_same n (m.variable k x) = λ i rest. variable x ∷ rest
  plain_same n (m.local k f) = λ i rest. function_name f rest
  plain_same n (m.external k x f) = λ i rest. reserved (codes "fun") ∷ atom x ∷ symbol (codes ":") ∷ function_name f rest
  plain_same n (m.literal k l) = λ i rest. literal l rest
  plain_same n (m.function k xs t) = λ i rest. reserved (codes "fun") ∷ symbol (codes "(") ∷ variables true xs (symbol (codes ")") ∷ symbol (codes "->") ∷ noted (note_same (n + 1) t i) (plain_same (n + 1) t i) rest)
  plain_same n (m.listed k ts t) = λ i rest. symbol (codes "[") ∷ expressions_same (n + 1) true ts i (tail_same (number_all (n + 1) ts).1 t (plain_same (number_all (n + 1) ts).1 t) i (symbol (codes "]") ∷ rest))
  plain_same n (m.tuple k ts) = λ i rest. symbol (codes "{") ∷ expressions_same (n + 1) true ts i (symbol (codes "}") ∷ rest)
  plain_same n (m.new_map k ps) = λ i rest. symbol (codes "~{") ∷ pairs_same (n + 1) true ps i (symbol (codes "}~") ∷ rest)
  plain_same n (m.updated_map k ps t) = λ i rest. symbol (codes "~{") ∷ pairs_same (n + 1) true ps i
      (symbol (codes "|") ∷ noted (note_same (number_pairs (n + 1) ps).1 t i) (plain_same (number_pairs (n + 1) ps).1 t i) (symbol (codes "}~") ∷ rest))
  plain_same n (m.binary k ss) = λ i rest. symbol (codes "#{") ∷ segments_same (n + 1) true ss i (symbol (codes "}#") ∷ rest)
  plain_same n (m.values k ts) = λ i rest. symbol (codes "<") ∷ expressions_same (n + 1) true ts i (symbol (codes ">") ∷ rest)
  plain_same n (m.chain k ss t) = λ i rest. steps_same (n + 1) ss (noted (note_of (number (number_steps (n + 1) ss).1 t).0) (plain (number (number_steps (n + 1) ss).1 t).0)) (noted (note_of t) (plain t))
      (λ j. noted (note_same (number_steps (n + 1) ss).1 t j) (plain_same (number_steps (n + 1) ss).1 t j)) i rest
  plain_same n (m.case k t cs) = λ i rest. reserved (codes "case") ∷ noted (note_same (n + 1) t i) (plain_same (n + 1) t i) (reserved (codes "of") ∷ clauses_same (number (n + 1) t).1 cs i (reserved (codes "end") ∷ rest))
  plain_same n (m.letrec k ds t) = λ i rest. reserved (codes "letrec") ∷ definitions_same (n + 1) ds i (reserved (codes "in") ∷ noted (note_same (number_defs (n + 1) ds).1 t i) (plain_same (number_defs (n + 1) ds).1 t i) rest)
  plain_same n (m.apply k t ts) = λ i rest. reserved (codes "apply") ∷ noted (note_same (n + 1) t i) (plain_same (n + 1) t i) (symbol (codes "(") ∷ expressions_same (number (n + 1) t).1 true ts i (symbol (codes ")") ∷ rest))
  plain_same n (m.call k t u ts) = λ i rest. reserved (codes "call") ∷ noted (note_same (n + 1) t i) (plain_same (n + 1) t i)
      (symbol (codes ":") ∷ noted (note_same (number (n + 1) t).1 u i) (plain_same (number (n + 1) t).1 u i) (symbol (codes "(") ∷ expressions_same (number (number (n + 1) t).1 u).1 true ts i (symbol (codes ")") ∷ rest)))
  plain_same n (m.primop k x ts) = λ i rest. reserved (codes "primop") ∷ atom x ∷ symbol (codes "(") ∷ expressions_same (n + 1) true ts i (symbol (codes ")") ∷ rest)
  plain_same n (m.try k t xs u ys w) = λ i rest. reserved (codes "try") ∷ noted (note_same (n + 1) t i) (plain_same (n + 1) t i)
      (reserved (codes "of") ∷ symbol (codes "<") ∷ variables true xs (symbol (codes ">") ∷ symbol (codes "->")
      ∷ noted (note_same (number (n + 1) t).1 u i) (plain_same (number (n + 1) t).1 u i)
      (reserved (codes "catch") ∷ symbol (codes "<") ∷ variables true ys (symbol (codes ">") ∷ symbol (codes "->") ∷ noted (note_same (number (number (n + 1) t).1 u).1 w i) (plain_same (number (number (n + 1) t).1 u).1 w i) rest))))
  plain_same n (m.receive k cs t u) = λ i rest. reserved (codes "receive") ∷ clauses_same (n + 1) cs i
      (reserved (codes "after") ∷ noted (note_same (number_clauses (n + 1) cs).1 t i) (plain_same (number_clauses (n + 1) cs).1 t i)
      (symbol (codes "->") ∷ noted (note_same (number (number_clauses (n + 1) cs).1 t).1 u i) (plain_same (number (number_clauses (n + 1) cs).1 t).1 u i) rest))
  plain_same n (m.catch k t) = λ i rest. reserved (codes "catch") ∷ noted (note_same (n + 1) t i) (plain_same (n + 1) t i) rest

  pub expressions_same : (n : ℕ) (first : Bool) (t : m.Trees) → expressions first (number_all n t).0 ≡ expressions first t
  expressions_same n first m.no_tree = λ i rest. rest
  expressions_same n first (m.and_tree t ts) = λ i rest. comma first (noted (note_same n t i) (plain_same n t i) (expressions_same (number n t).1 false ts i rest))

  pub pairs_same : (n : ℕ) (first : Bool) (t : m.Pairs) → pairs first (number_pairs n t).0 ≡ pairs first t
  pairs_same n first m.no_pair = λ i rest. rest
  pairs_same n first (m.and_pair exact t u ps) = λ i rest. comma first (noted (note_same n t i) (plain_same n t i)
      (symbol (if exact then codes ":=" else codes "=>") ∷ noted (note_same (number n t).1 u i) (plain_same (number n t).1 u i) (pairs_same (number (number n t).1 u).1 false ps i rest)))

  pub segments_same : (n : ℕ) (first : Bool) (t : m.Segments) → segments first (number_segments n t).0 ≡ segments first t
  segments_same n first m.no_segment = λ i rest. rest
  segments_same n first (m.and_segment t ts ss) = λ i rest. comma first (symbol (codes "#<")
      ∷ noted (note_same n t i) (plain_same n t i) (symbol (codes ">") ∷ symbol (codes "(") ∷ expressions_same (number n t).1 true ts i (symbol (codes ")") ∷ segments_same (number_all (number n t).1 ts).1 false ss i rest)))

  pub steps_same : (n : ℕ) (t : m.Steps) (p q : Words) → p ≡ q → steps (number_steps n t).0 p ≡ steps t q
  steps_same n m.no_step p q e = λ i rest. e i rest
  steps_same n (m.and_let k xs t ss) p q e = λ i rest. opened k.note (reserved (codes "let") ∷ symbol (codes "<")
      ∷ variables true xs (symbol (codes ">") ∷ symbol (codes "=") ∷ noted (note_same (n + 1) t i) (plain_same (n + 1) t i) (reserved (codes "in") ∷ steps_same (number (n + 1) t).1 ss p q e i (closed k.note rest))))
  steps_same n (m.and_do k t ss) p q e = λ i rest. opened k.note (reserved (codes "do") ∷ noted (note_same (n + 1) t i) (plain_same (n + 1) t i) (steps_same (number (n + 1) t).1 ss p q e i (closed k.note rest)))

  pub clauses_same : (n : ℕ) (t : m.Clauses) → clauses (number_clauses n t).0 ≡ clauses t
  clauses_same n m.no_clause = λ i rest. rest
  clauses_same n (m.and_clause k ps g t cs) = λ i rest. opened k.note (symbol (codes "<")
      ∷ patterns_same (n + 1) true ps i (symbol (codes ">") ∷ reserved (codes "when")
      ∷ noted (note_same (number_patterns (n + 1) ps).1 g i) (plain_same (number_patterns (n + 1) ps).1 g i)
      (symbol (codes "->") ∷ noted (note_same (number (number_patterns (n + 1) ps).1 g).1 t i) (plain_same (number (number_patterns (n + 1) ps).1 g).1 t i)
      (closed k.note (clauses_same (number (number (number_patterns (n + 1) ps).1 g).1 t).1 cs i rest)))))

  pub definitions_same : (n : ℕ) (t : m.Defs) → definitions (number_defs n t).0 ≡ definitions t
  definitions_same n m.no_def = λ i rest. rest
  definitions_same n (m.and_def f k xs t ds) = λ i rest. function_name f (symbol (codes "=")
      ∷ opened k.note (reserved (codes "fun") ∷ symbol (codes "(") ∷ variables true xs
      (symbol (codes ")") ∷ symbol (codes "->") ∷ noted (note_same (n + 1) t i) (plain_same (n + 1) t i) (closed k.note (definitions_same (number (n + 1) t).1 ds i rest)))))

  pub plain_pattern_same : (n : ℕ) (t : m.Pattern) → plain_pattern (number_pattern n t).0 ≡ plain_pattern t
  plain_pattern_same n (m.binds k x) = λ i rest. variable x ∷ rest
  plain_pattern_same n (m.equals k l) = λ i rest. literal l rest
  plain_pattern_same n (m.list_of k ps p) = λ i rest. symbol (codes "[") ∷ patterns_same (n + 1) true ps i
      (pattern_tail_same (number_patterns (n + 1) ps).1 p (plain_pattern_same (number_patterns (n + 1) ps).1 p) i (symbol (codes "]") ∷ rest))
  plain_pattern_same n (m.tuple_of k ps) = λ i rest. symbol (codes "{") ∷ patterns_same (n + 1) true ps i (symbol (codes "}") ∷ rest)
  plain_pattern_same n (m.map_of k ps) = λ i rest. symbol (codes "~{") ∷ pat_pairs_same (n + 1) true ps i (symbol (codes "}~") ∷ rest)
  plain_pattern_same n (m.binary_of k ss) = λ i rest. symbol (codes "#{") ∷ pat_segments_same (n + 1) true ss i (symbol (codes "}#") ∷ rest)
  plain_pattern_same n (m.alias k x p) = λ i rest. variable_in_list x (symbol (codes "=") ∷ noted (pattern_note_same (n + 1) p i) (plain_pattern_same (n + 1) p i) rest)

  pub patterns_same : (n : ℕ) (first : Bool) (t : m.Patterns) → patterns first (number_patterns n t).0 ≡ patterns first t
  patterns_same n first m.no_pattern = λ i rest. rest
  patterns_same n first (m.and_pattern p ps) = λ i rest. comma first (noted (pattern_note_same n p i) (plain_pattern_same n p i) (patterns_same (number_pattern n p).1 false ps i rest))

  pub pat_pairs_same : (n : ℕ) (first : Bool) (t : m.PatPairs) → pat_pairs first (number_pat_pairs n t).0 ≡ pat_pairs first t
  pat_pairs_same n first m.no_pat_pair = λ i rest. rest
  pat_pairs_same n first (m.and_pat_pair t p ps) = λ i rest.
      comma first (noted (note_same n t i) (plain_same n t i) (symbol (codes ":=")
      ∷ noted (pattern_note_same (number n t).1 p i) (plain_pattern_same (number n t).1 p i) (pat_pairs_same (number_pattern (number n t).1 p).1 false ps i rest)))

  pub pat_segments_same : (n : ℕ) (first : Bool) (t : m.PatSegments) → pat_segments first (number_pat_segments n t).0 ≡ pat_segments first t
  pat_segments_same n first m.no_pat_segment = λ i rest. rest
  pat_segments_same n first (m.and_pat_segment p ts ss) = λ i rest. comma first (symbol (codes "#<")
      ∷ noted (pattern_note_same n p i) (plain_pattern_same n p i) (symbol (codes ">") ∷ symbol (codes "(")
      ∷ expressions_same (number_pattern n p).1 true ts i (symbol (codes ")") ∷ pat_segments_same (number_all (number_pattern n p).1 ts).1 false ss i rest)))
