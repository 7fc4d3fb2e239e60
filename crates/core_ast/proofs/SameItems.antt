-- Equality of trees, with places or apart from them: item by item of lists.
use Rattle.std.proofs.Common.{◌≡◌, ℕ, suc, true≢false, ◌+◌, ◌<◌, ◌≤◌, ◌↔◌, List, [], ◌∷◌, map, length, drop, get_or, Bool, true, false, IsTrue, refl, sym, ap, ◌∙◌, subst, add-one, drop-cons}
use mathlib.Core.Bool.{not, beq}
use denote.Param.Weighed.{most, at_most}
use Rattle.std.proofs.lemmas.List.{drop_all, length-map, map-id}
use Rattle.type_kinds.proofs.Truths.{refuted, granted}
use Rattle.type_kinds.proofs.Lists.{same_head, same_tail}
use Rattle.core_ast.specs.declared.syntax.FunDefOf.{FunDefOf}
use Rattle.core_ast.specs.declared.syntax.StepOf.{StepOf}
use Rattle.core_ast.specs.declared.syntax.StepOf.TheVariants.{Let, Do}
use Rattle.core_ast.specs.declared.syntax.Expr.{Expr}
use Rattle.core_ast.specs.declared.syntax.Clause.{Clause}
use Rattle.core_ast.specs.declared.syntax.MapPair.{MapPair}
use Rattle.core_ast.specs.declared.syntax.PatPair.{PatPair}
use Rattle.core_ast.specs.declared.syntax.Segment.{Segment}
use Rattle.core_ast.specs.declared.syntax.PatSegment.{PatSegment}
use Rattle.core_ast.specs.declared.syntax.Pattern.{Pattern}
use Rattle.core_ast.specs.Model as m
use Rattle.core_ast.specs.Tree.{ClauseParts, PairParts, PatPairParts, SegmentParts, PatSegmentParts, trees, patterns, pairs, pat_pairs, segments, pat_segments, clauses, steps, defs, tree, pattern_tree, clause_parts, pair_parts}
use Rattle.core_ast.specs.Tree.{pat_pair_parts, segment_parts, pat_segment_parts, step_tree, def_tree, all_trees, all_patterns, all_clauses, all_pairs, all_pat_pairs, all_segments, all_pat_segments, all_steps, all_defs}
use Rattle.core_ast.specs.Compared.{compared_mark, compared_variable, compared, compared_all, compared_pairs, compared_segments, compared_steps}
use Rattle.core_ast.specs.Compared.{compared_clauses, compared_defs, compared_pattern, compared_patterns, compared_pat_pairs, compared_pat_segments}
use Rattle.core_ast.specs.steps.Comparing.{compared_pair, compared_segment, compared_step, compared_clause, compared_def, compared_pat_pair, compared_pat_segment}

-- ---- tests

pub through : {P Q : Type 0} (r : Bool) → (P ↔ Q) → (IsTrue r ↔ P) → IsTrue r ↔ Q
through r both tells = (λ h. both.0 (tells.0 h), λ q. tells.1 (both.1 q))

pub fails : {P : Type 0} (r : Bool) → r ≡ false → (IsTrue r ↔ P) → P → ⊥
fails r not tells p = true≢false (sym (tells.1 p) ∙ not)

-- what a test of two truth values says
pub flags_differ : (a b : Bool) → not (beq a b) ≡ true → a ≡ b → ⊥
flags_differ true true h e = true≢false (sym h)
flags_differ false false h e = true≢false (sym h)
flags_differ true false h e = true≢false e
flags_differ false true h e = true≢false (sym e)

pub flags_same : (a b : Bool) → not (beq a b) ≡ false → a ≡ b
flags_same true true h = refl
flags_same false false h = refl
flags_same true false h = absurd (true≢false h)
flags_same false true h = absurd (true≢false h)

-- ---- lists, item by item

-- the lists are as long as each other, and they are the same where what is left is
pub record SoFar {X Y : Type 0} (f : X → Y) (xs ys : List X) (i : ℕ) : Type 0 where
  pub lengths : length xs ≡ length ys
  pub left : (map f xs ≡ map f ys) ↔ (map f (drop i xs) ≡ map f (drop i ys))

left_from : {X Y : Type 0} (f : X → Y) (xs : List X) (i : ℕ) (x : X) → i < length xs → x ≡ get_or xs i x → map f (drop i xs) ≡ f x ∷ map f (drop (i + 1) xs)
left_from f xs i x within is = ap (map f) (drop-cons xs i x within) ∙ ap (λ y. f y ∷ map f (drop (suc i) xs)) (sym is) ∙ ap (λ n. f x ∷ map f (drop n xs)) (sym (add-one i))

pub begun : {X Y : Type 0} (f : X → Y) (xs ys : List X) → length xs ≡ length ys → SoFar f xs ys 0
begun f xs ys e = record { lengths = e; left = (λ h. h, λ h. h) }

pub one_more : {X Y : Type 0} (f : X → Y) (xs ys : List X) (i : ℕ) (x y : X) (r : Bool) → i < length xs → SoFar f xs ys i → x ≡ get_or xs i x → y ≡ get_or ys i y → (IsTrue r ↔ (f x ≡ f y)) → r ≡ true
    → SoFar f xs ys (i + 1)
one_more f xs ys i x y r within so is js tells same =
    let a = left_from f xs i x within is in
    let b = left_from f ys i y (subst (λ n. i < n) so.lengths within) js in
    let e : f x ≡ f y = tells.0 same in
    record {
      lengths = so.lengths;
      left = (λ h. same_tail _ _ _ _ (sym a ∙ so.left.0 h ∙ b), λ h. so.left.1 (a ∙ ap (λ z. z ∷ map f (drop (i + 1) xs)) e ∙ ap (λ zs. f y ∷ zs) h ∙ sym b));
    }

pub unlike : {X Y : Type 0} (f : X → Y) (xs ys : List X) (i : ℕ) (x y : X) (r : Bool) → i < length xs → SoFar f xs ys i → x ≡ get_or xs i x → y ≡ get_or ys i y → (IsTrue r ↔ (f x ≡ f y)) → r ≡ false
    → IsTrue false ↔ (map f xs ≡ map f ys)
unlike f xs ys i x y r within so is js tells differs =
    let a = left_from f xs i x within is in
    let b = left_from f ys i y (subst (λ n. i < n) so.lengths within) js in
    refuted (λ h. fails r differs tells (same_head _ _ _ _ (sym a ∙ so.left.0 h ∙ b)))

nothing_left : {X Y : Type 0} (f : X → Y) (xs : List X) (i : ℕ) → length xs ≤ i → map f (drop i xs) ≡ []
nothing_left f xs i past = ap (map f) (drop_all i xs past)

pub alike : {X Y : Type 0} (f : X → Y) (xs ys : List X) (i : ℕ) → SoFar f xs ys i → length xs ≤ i → IsTrue true ↔ (map f xs ≡ map f ys)
alike f xs ys i so past = granted (so.left.1 (nothing_left f xs i past ∙ sym (nothing_left f ys i (subst (λ n. n ≤ i) so.lengths past))))

pub other_length : {X Y : Type 0} (f : X → Y) (xs ys : List X) → (length xs ≡ length ys → ⊥) → IsTrue false ↔ (map f xs ≡ map f ys)
other_length f xs ys differ = refuted (λ h. differ (sym (length-map xs f) ∙ ap length h ∙ length-map ys f))

-- an item of a list weighs no more than the heaviest
pub no_heavier : {X : Type 0} (μ : X → ℕ) (xs : List X) (i : ℕ) (x : X) → i < length xs → x ≡ get_or xs i x → μ x ≤ most μ xs
no_heavier μ xs i x within is = subst (λ z. μ z ≤ most μ xs) (sym is) (at_most μ xs i x within)

pub names_same : {X : Type 0} (xs ys : List X) → (map (λ (x : X). x) xs ≡ map (λ (x : X). x) ys) ↔ (xs ≡ ys)
names_same xs ys = (λ h. sym (map-id xs) ∙ h ∙ map-id ys, λ h. map-id xs ∙ h ∙ sym (map-id ys))

-- ---- lists of the model

-- a list of the model is made of its items, and has them
by_items : {X Y M : Type 0} (f : X → Y) (view : List X → M) (pack : List Y → M) (unpack : M → List Y) → ((xs : List X) → view xs ≡ pack (map f xs)) → ((ys : List Y) → unpack (pack ys) ≡ ys) → (xs ys : List X)
    → (map f xs ≡ map f ys) ↔ (view xs ≡ view ys)
by_items f view pack unpack made has xs ys =
    (λ h. made xs ∙ ap pack h ∙ sym (made ys), λ h. sym (has (map f xs)) ∙ ap unpack (sym (made xs) ∙ h ∙ made ys) ∙ has (map f ys))

un_trees : m.Trees → List m.Tree
un_trees m.no_tree = []
un_trees (m.and_tree t ts) = t ∷ un_trees ts

un_trees-has : (ys : List m.Tree) → un_trees (trees ys) ≡ ys
unfolding un_trees
un_trees-has [] = refl
un_trees-has (y ∷ ys) = ap (λ zs. y ∷ zs) (un_trees-has ys)

un_pairs : m.Pairs → List PairParts
un_pairs m.no_pair = []
un_pairs (m.and_pair e k v ps) = (record { exact = e; key = k; value = v }) ∷ un_pairs ps

un_pairs-has : (ys : List PairParts) → un_pairs (pairs ys) ≡ ys
unfolding un_pairs
un_pairs-has [] = refl
un_pairs-has (y ∷ ys) = ap (λ zs. y ∷ zs) (un_pairs-has ys)

un_segments : m.Segments → List SegmentParts
un_segments m.no_segment = []
un_segments (m.and_segment v args ss) = (record { value = v; args = args }) ∷ un_segments ss

un_segments-has : (ys : List SegmentParts) → un_segments (segments ys) ≡ ys
unfolding un_segments
un_segments-has [] = refl
un_segments-has (y ∷ ys) = ap (λ zs. y ∷ zs) (un_segments-has ys)

un_clauses : m.Clauses → List ClauseParts
un_clauses m.no_clause = []
un_clauses (m.and_clause k ps g b cs) = (record { mark = k; patterns = ps; guard = g; body = b }) ∷ un_clauses cs

un_clauses-has : (ys : List ClauseParts) → un_clauses (clauses ys) ≡ ys
unfolding un_clauses
un_clauses-has [] = refl
un_clauses-has (y ∷ ys) = ap (λ zs. y ∷ zs) (un_clauses-has ys)

un_defs : m.Defs → List (FunDefOf m.Tree)
un_defs m.no_def = []
un_defs (m.and_def n k vs b ds) = (record { name = n; mark = k; fun = record { params = vs; body = b } }) ∷ un_defs ds

un_defs-has : (ys : List (FunDefOf m.Tree)) → un_defs (defs ys) ≡ ys
unfolding un_defs
un_defs-has [] = refl
un_defs-has (y ∷ ys) = ap (λ zs. y ∷ zs) (un_defs-has ys)

un_patterns : m.Patterns → List m.Pattern
un_patterns m.no_pattern = []
un_patterns (m.and_pattern t ts) = t ∷ un_patterns ts

un_patterns-has : (ys : List m.Pattern) → un_patterns (patterns ys) ≡ ys
unfolding un_patterns
un_patterns-has [] = refl
un_patterns-has (y ∷ ys) = ap (λ zs. y ∷ zs) (un_patterns-has ys)

un_pat_pairs : m.PatPairs → List PatPairParts
un_pat_pairs m.no_pat_pair = []
un_pat_pairs (m.and_pat_pair k v ps) = (record { key = k; value = v }) ∷ un_pat_pairs ps

un_pat_pairs-has : (ys : List PatPairParts) → un_pat_pairs (pat_pairs ys) ≡ ys
unfolding un_pat_pairs
un_pat_pairs-has [] = refl
un_pat_pairs-has (y ∷ ys) = ap (λ zs. y ∷ zs) (un_pat_pairs-has ys)

un_pat_segments : m.PatSegments → List PatSegmentParts
un_pat_segments m.no_pat_segment = []
un_pat_segments (m.and_pat_segment v args ss) = (record { value = v; args = args }) ∷ un_pat_segments ss

un_pat_segments-has : (ys : List PatSegmentParts) → un_pat_segments (pat_segments ys) ≡ ys
unfolding un_pat_segments
un_pat_segments-has [] = refl
un_pat_segments-has (y ∷ ys) = ap (λ zs. y ∷ zs) (un_pat_segments-has ys)

un_steps : m.Steps → List (StepOf m.Tree)
un_steps m.no_step = []
un_steps (m.and_let k xs t ss) = Let k xs t ∷ un_steps ss
un_steps (m.and_do k t ss) = Do k t ∷ un_steps ss

un_steps-has : (ys : List (StepOf m.Tree)) → un_steps (steps ys) ≡ ys
unfolding un_steps
un_steps-has [] = refl
un_steps-has (Let k xs t ∷ ys) = ap (λ zs. Let k xs t ∷ zs) (un_steps-has ys)
un_steps-has (Do k t ∷ ys) = ap (λ zs. Do k t ∷ zs) (un_steps-has ys)

-- places: whether places are compared
module _ (places : Bool) where
  all-made : (xs : List Expr) → compared_all places (all_trees xs) ≡ trees (map (λ e. compared places (tree e)) xs)
  all-made [] = refl
  all-made (x ∷ xs) = ap (m.and_tree (compared places (tree x))) (all-made xs)

  pub all_same : (xs ys : List Expr) → (map (λ e. compared places (tree e)) xs ≡ map (λ e. compared places (tree e)) ys) ↔ (compared_all places (all_trees xs) ≡ compared_all places (all_trees ys))
  all_same = by_items (λ e. compared places (tree e)) (λ xs. compared_all places (all_trees xs)) trees un_trees all-made un_trees-has

  pairs-made : (xs : List MapPair) → compared_pairs places (all_pairs xs) ≡ pairs (map (λ e. compared_pair places (pair_parts e)) xs)
  pairs-made [] = refl
  pairs-made (x ∷ xs) = ap (m.and_pair (pair_parts x).exact (compared places (pair_parts x).key) (compared places (pair_parts x).value)) (pairs-made xs)

  pub pairs_same : (xs ys : List MapPair) → (map (λ e. compared_pair places (pair_parts e)) xs ≡ map (λ e. compared_pair places (pair_parts e)) ys) ↔ (compared_pairs places (all_pairs xs) ≡ compared_pairs places (all_pairs ys))
  pairs_same = by_items (λ e. compared_pair places (pair_parts e)) (λ xs. compared_pairs places (all_pairs xs)) pairs un_pairs pairs-made un_pairs-has

  segments-made : (xs : List Segment) → compared_segments places (all_segments xs) ≡ segments (map (λ e. compared_segment places (segment_parts e)) xs)
  segments-made [] = refl
  segments-made (x ∷ xs) = ap (m.and_segment (compared places (segment_parts x).value) (compared_all places (segment_parts x).args)) (segments-made xs)

  pub segments_same : (xs ys : List Segment) → (map (λ e. compared_segment places (segment_parts e)) xs ≡ map (λ e. compared_segment places (segment_parts e)) ys)
      ↔ (compared_segments places (all_segments xs) ≡ compared_segments places (all_segments ys))
  segments_same = by_items (λ e. compared_segment places (segment_parts e)) (λ xs. compared_segments places (all_segments xs)) segments un_segments segments-made un_segments-has

  clauses-made : (xs : List Clause) → compared_clauses places (all_clauses xs) ≡ clauses (map (λ e. compared_clause places (clause_parts e)) xs)
  clauses-made [] = refl
  clauses-made (x ∷ xs) = ap (m.and_clause (compared_mark places (clause_parts x).mark) (compared_patterns places (clause_parts x).patterns) (compared places (clause_parts x).guard) (compared places (clause_parts x).body))
      (clauses-made xs)

  pub clauses_same : (xs ys : List Clause) → (map (λ e. compared_clause places (clause_parts e)) xs ≡ map (λ e. compared_clause places (clause_parts e)) ys)
      ↔ (compared_clauses places (all_clauses xs) ≡ compared_clauses places (all_clauses ys))
  clauses_same = by_items (λ e. compared_clause places (clause_parts e)) (λ xs. compared_clauses places (all_clauses xs)) clauses un_clauses clauses-made un_clauses-has

  defs-made : (xs : List (FunDefOf Expr)) → compared_defs places (all_defs xs) ≡ defs (map (λ e. compared_def places (def_tree e)) xs)
  defs-made [] = refl
  defs-made (x ∷ xs) = ap (m.and_def x.name (compared_mark places x.mark) (map (compared_variable places) x.fun.params) (compared places (tree x.fun.body))) (defs-made xs)

  pub defs_same : (xs ys : List (FunDefOf Expr)) → (map (λ e. compared_def places (def_tree e)) xs ≡ map (λ e. compared_def places (def_tree e)) ys) ↔ (compared_defs places (all_defs xs) ≡ compared_defs places (all_defs ys))
  defs_same = by_items (λ e. compared_def places (def_tree e)) (λ xs. compared_defs places (all_defs xs)) defs un_defs defs-made un_defs-has

  patterns-made : (xs : List Pattern) → compared_patterns places (all_patterns xs) ≡ patterns (map (λ e. compared_pattern places (pattern_tree e)) xs)
  patterns-made [] = refl
  patterns-made (x ∷ xs) = ap (m.and_pattern (compared_pattern places (pattern_tree x))) (patterns-made xs)

  pub patterns_same : (xs ys : List Pattern) → (map (λ e. compared_pattern places (pattern_tree e)) xs ≡ map (λ e. compared_pattern places (pattern_tree e)) ys)
      ↔ (compared_patterns places (all_patterns xs) ≡ compared_patterns places (all_patterns ys))
  patterns_same = by_items (λ e. compared_pattern places (pattern_tree e)) (λ xs. compared_patterns places (all_patterns xs)) patterns un_patterns patterns-made un_patterns-has

  pat_pairs-made : (xs : List PatPair) → compared_pat_pairs places (all_pat_pairs xs) ≡ pat_pairs (map (λ e. compared_pat_pair places (pat_pair_parts e)) xs)
  pat_pairs-made [] = refl
  pat_pairs-made (x ∷ xs) = ap (m.and_pat_pair (compared places (pat_pair_parts x).key) (compared_pattern places (pat_pair_parts x).value)) (pat_pairs-made xs)

  pub pat_pairs_same : (xs ys : List PatPair) → (map (λ e. compared_pat_pair places (pat_pair_parts e)) xs ≡ map (λ e. compared_pat_pair places (pat_pair_parts e)) ys)
      ↔ (compared_pat_pairs places (all_pat_pairs xs) ≡ compared_pat_pairs places (all_pat_pairs ys))
  pat_pairs_same = by_items (λ e. compared_pat_pair places (pat_pair_parts e)) (λ xs. compared_pat_pairs places (all_pat_pairs xs)) pat_pairs un_pat_pairs pat_pairs-made un_pat_pairs-has

  pat_segments-made : (xs : List PatSegment) → compared_pat_segments places (all_pat_segments xs) ≡ pat_segments (map (λ e. compared_pat_segment places (pat_segment_parts e)) xs)
  pat_segments-made [] = refl
  pat_segments-made (x ∷ xs) = ap (m.and_pat_segment (compared_pattern places (pat_segment_parts x).value) (compared_all places (pat_segment_parts x).args)) (pat_segments-made xs)

  pub pat_segments_same : (xs ys : List PatSegment) → (map (λ e. compared_pat_segment places (pat_segment_parts e)) xs ≡ map (λ e. compared_pat_segment places (pat_segment_parts e)) ys)
      ↔ (compared_pat_segments places (all_pat_segments xs) ≡ compared_pat_segments places (all_pat_segments ys))
  pat_segments_same = by_items (λ e. compared_pat_segment places (pat_segment_parts e)) (λ xs. compared_pat_segments places (all_pat_segments xs)) pat_segments un_pat_segments pat_segments-made un_pat_segments-has

  steps-made : (xs : List (StepOf Expr)) → compared_steps places (all_steps xs) ≡ steps (map (λ e. compared_step places (step_tree e)) xs)
  steps-made [] = refl
  steps-made (Let k vs e ∷ xs) = ap (m.and_let (compared_mark places k) (map (compared_variable places) vs) (compared places (tree e))) (steps-made xs)
  steps-made (Do k e ∷ xs) = ap (m.and_do (compared_mark places k) (compared places (tree e))) (steps-made xs)

  pub steps_same : (xs ys : List (StepOf Expr)) → (map (λ e. compared_step places (step_tree e)) xs ≡ map (λ e. compared_step places (step_tree e)) ys)
      ↔ (compared_steps places (all_steps xs) ≡ compared_steps places (all_steps ys))
  steps_same = by_items (λ e. compared_step places (step_tree e)) (λ xs. compared_steps places (all_steps xs)) steps un_steps steps-made un_steps-has
