-- The line of each node of a module, in the order of the text, as labels go: that of the innermost note around the node, its own
-- first, that has one, and else that of the node's first token.
use Rattle.std.specs.Prelude.{ℕ, List, [], ◌∷◌, ◌++◌, Option, unwrap_or}
use Rattle.std.specs.Option.{option_or}
use Rattle.core_ast.specs.declared.syntax.Mark.{Mark}
use Rattle.core_ast.specs.Model as m

-- the line of the innermost note, of a node with this mark and of what stands around it
abbrev pub noted : (around : Option ℕ) → Mark → Option ℕ
noted around k = option_or k.note.line around

-- the line of the node
abbrev pub line_of : (around : Option ℕ) → Mark → ℕ
line_of around k = unwrap_or (noted around k) k.place.line

-- the note of a step stands around all that follows it
abbrev pub behind : (around : Option ℕ) → m.Steps → Option ℕ
behind a m.no_step = a
behind a (m.and_let k xs t ss) = behind (noted a k) ss
behind a (m.and_do k t ss) = behind (noted a k) ss

abbrev mutual
  pub lines : (around : Option ℕ) → m.Tree → List ℕ
  lines a (m.variable k x) = line_of a k ∷ []
  lines a (m.local k f) = line_of a k ∷ []
  lines a (m.external k x f) = line_of a k ∷ []
  lines a (m.literal k l) = line_of a k ∷ []
  lines a (m.function k xs t) = line_of a k ∷ lines (noted a k) t
  lines a (m.listed k ts t) = line_of a k ∷ (lines_of_all (noted a k) ts ++ lines (noted a k) t)
  lines a (m.tuple k ts) = line_of a k ∷ lines_of_all (noted a k) ts
  lines a (m.new_map k ps) = line_of a k ∷ lines_of_pairs (noted a k) ps
  lines a (m.updated_map k ps t) = line_of a k ∷ (lines_of_pairs (noted a k) ps ++ lines (noted a k) t)
  lines a (m.binary k ss) = line_of a k ∷ lines_of_segments (noted a k) ss
  lines a (m.values k ts) = line_of a k ∷ lines_of_all (noted a k) ts
  lines a (m.chain k ss t) = line_of a k ∷ (lines_of_steps (noted a k) ss ++ lines (behind (noted a k) ss) t)
  lines a (m.case k t cs) = line_of a k ∷ (lines (noted a k) t ++ lines_of_clauses (noted a k) cs)
  lines a (m.letrec k ds t) = line_of a k ∷ (lines_of_defs (noted a k) ds ++ lines (noted a k) t)
  lines a (m.apply k t ts) = line_of a k ∷ (lines (noted a k) t ++ lines_of_all (noted a k) ts)
  lines a (m.call k t u ts) = line_of a k ∷ (lines (noted a k) t ++ lines (noted a k) u ++ lines_of_all (noted a k) ts)
  lines a (m.primop k x ts) = line_of a k ∷ lines_of_all (noted a k) ts
  lines a (m.try k t xs u ys w) = line_of a k ∷ (lines (noted a k) t ++ lines (noted a k) u ++ lines (noted a k) w)
  lines a (m.receive k cs t u) = line_of a k ∷ (lines_of_clauses (noted a k) cs ++ lines (noted a k) t ++ lines (noted a k) u)
  lines a (m.catch k t) = line_of a k ∷ lines (noted a k) t

  pub lines_of_all : (around : Option ℕ) → m.Trees → List ℕ
  lines_of_all a m.no_tree = []
  lines_of_all a (m.and_tree t ts) = lines a t ++ lines_of_all a ts

  pub lines_of_pairs : (around : Option ℕ) → m.Pairs → List ℕ
  lines_of_pairs a m.no_pair = []
  lines_of_pairs a (m.and_pair e t u ps) = lines a t ++ lines a u ++ lines_of_pairs a ps

  pub lines_of_segments : (around : Option ℕ) → m.Segments → List ℕ
  lines_of_segments a m.no_segment = []
  lines_of_segments a (m.and_segment t ts ss) = lines a t ++ lines_of_all a ts ++ lines_of_segments a ss

  pub lines_of_steps : (around : Option ℕ) → m.Steps → List ℕ
  lines_of_steps a m.no_step = []
  lines_of_steps a (m.and_let k xs t ss) = line_of a k ∷ (lines (noted a k) t ++ lines_of_steps (noted a k) ss)
  lines_of_steps a (m.and_do k t ss) = line_of a k ∷ (lines (noted a k) t ++ lines_of_steps (noted a k) ss)

  pub lines_of_clauses : (around : Option ℕ) → m.Clauses → List ℕ
  lines_of_clauses a m.no_clause = []
  lines_of_clauses a (m.and_clause k ps g t cs) =
      line_of a k ∷ (lines_of_patterns (noted a k) ps ++ lines (noted a k) g ++ lines (noted a k) t ++ lines_of_clauses a cs)

  pub lines_of_defs : (around : Option ℕ) → m.Defs → List ℕ
  lines_of_defs a m.no_def = []
  lines_of_defs a (m.and_def f k xs t ds) = line_of a k ∷ (lines (noted a k) t ++ lines_of_defs a ds)

  pub lines_of_pattern : (around : Option ℕ) → m.Pattern → List ℕ
  lines_of_pattern a (m.binds k x) = line_of a k ∷ []
  lines_of_pattern a (m.equals k l) = line_of a k ∷ []
  lines_of_pattern a (m.list_of k ps p) = line_of a k ∷ (lines_of_patterns (noted a k) ps ++ lines_of_pattern (noted a k) p)
  lines_of_pattern a (m.tuple_of k ps) = line_of a k ∷ lines_of_patterns (noted a k) ps
  lines_of_pattern a (m.map_of k ps) = line_of a k ∷ lines_of_pat_pairs (noted a k) ps
  lines_of_pattern a (m.binary_of k ss) = line_of a k ∷ lines_of_pat_segments (noted a k) ss
  lines_of_pattern a (m.alias k x p) = line_of a k ∷ lines_of_pattern (noted a k) p

  pub lines_of_patterns : (around : Option ℕ) → m.Patterns → List ℕ
  lines_of_patterns a m.no_pattern = []
  lines_of_patterns a (m.and_pattern p ps) = lines_of_pattern a p ++ lines_of_patterns a ps

  pub lines_of_pat_segments : (around : Option ℕ) → m.PatSegments → List ℕ
  lines_of_pat_segments a m.no_pat_segment = []
  lines_of_pat_segments a (m.and_pat_segment p ts ss) = lines_of_pattern a p ++ lines_of_all a ts ++ lines_of_pat_segments a ss

  pub lines_of_pat_pairs : (around : Option ℕ) → m.PatPairs → List ℕ
  lines_of_pat_pairs a m.no_pat_pair = []
  lines_of_pat_pairs a (m.and_pat_pair t p ps) = lines a t ++ lines_of_pattern a p ++ lines_of_pat_pairs a ps

-- The lines of a module's nodes, around all of which stands its note. That of the node at a label stands at this position.
abbrev pub lines_of : m.Module → List ℕ
lines_of x = lines_of_defs x.note.line x.defs
