-- Equality of trees, with places or apart from them, form by form.
use Rattle.std.proofs.Common.{◌≡◌, ◌↔◌, List, [], map, Bool, true, false, IsTrue, Option, Some, None, refl, sym, ap, ◌∙◌, true≢false}
use Rattle.type_kinds.proofs.Truths.{refuted, granted}
use Rattle.type_kinds.specs.declared.atom.Atom.{Atom}
use Rattle.core_ast.specs.declared.syntax.Mark.{Mark}
use Rattle.core_ast.specs.declared.syntax.VarName.{VarName}
use Rattle.core_ast.specs.declared.syntax.FunName.{FunName}
use Rattle.core_ast.specs.declared.syntax.Literal.{Literal}
use Rattle.core_ast.specs.declared.syntax.FunOf.{FunOf}
use Rattle.core_ast.specs.declared.syntax.FunDefOf.{FunDefOf}
use Rattle.core_ast.specs.declared.syntax.StepOf.{StepOf}
use Rattle.core_ast.specs.declared.syntax.StepOf.TheVariants.{Let, Do}
use Rattle.core_ast.specs.declared.syntax.TryOf.{TryOf}
use Rattle.core_ast.specs.declared.syntax.Expr.{Expr}
use Rattle.core_ast.specs.declared.syntax.Clause.{Clause, out-Clause}
use Rattle.core_ast.specs.declared.syntax.MapPair.{MapPair}
use Rattle.core_ast.specs.declared.syntax.PatPair.{PatPair}
use Rattle.core_ast.specs.declared.syntax.Segment.{Segment, out-Segment}
use Rattle.core_ast.specs.declared.syntax.PatSegment.{PatSegment, out-PatSegment}
use Rattle.core_ast.specs.declared.syntax.Pattern.{Pattern}
use Rattle.core_ast.specs.declared.syntax.PatForm.TheVariants as p
use Rattle.core_ast.specs.declared.syntax.Form.TheVariants as f
use Rattle.core_ast.specs.Model as m
use Rattle.core_ast.specs.declared.syntax.Form.TheOpen.{Form-F, PatForm-F}
use Rattle.core_ast.specs.Tree.{Marked, MarkedPattern, ClauseParts, PairParts, PatPairParts, SegmentParts, PatSegmentParts, form_layer, pat_form_layer, clause_parts, pair_parts, pat_pair_parts, segment_parts}
use Rattle.core_ast.specs.Tree.{pat_segment_parts, step_tree, def_tree, tree, pattern_tree, all_trees, all_patterns, all_clauses, all_pairs, all_pat_pairs, all_segments, all_pat_segments, all_steps, all_defs}
use Rattle.core_ast.specs.Compared.{compared_mark, compared_variable, compared, compared_all, compared_pairs, compared_segments, compared_steps}
use Rattle.core_ast.specs.Compared.{compared_clauses, compared_defs, compared_pattern, compared_patterns, compared_pat_pairs, compared_pat_segments}
use Rattle.core_ast.specs.Same.{Same}
use Rattle.core_ast.specs.steps.Comparing.{compared_pair, compared_segment, compared_step, compared_clause, compared_def, compared_pat_pair, compared_pat_segment, SameTry, SameUpdated, IsComposed, IsControl}
use Rattle.core_ast.proofs.Trees.{clause-is, pair-is, pat_pair-is, segment-is, pat_segment-is, tree-is, form_tree-out, pattern_tree-is, pat_form_tree-out}
use Rattle.core_ast.proofs.Forms.{variable_tree, local_tree, external_tree, literal_tree, fun_tree, listed_tree, tuple_tree, new_map_tree, updated_map_tree, binary_tree, values_tree, chain_tree, case_tree, letrec_tree, apply_tree}
use Rattle.core_ast.proofs.Forms.{call_tree, primop_tree, try_tree, receive_tree, catch_tree, binds_pattern, equals_pattern, list_of_pattern, tuple_of_pattern, map_of_pattern, binary_of_pattern, alias_pattern, opened, opened_pattern}
use Rattle.core_ast.proofs.SameItems.{fails}

-- ---- answers put together

-- all tests before the last hold, the last decides
pub last : {Q W : Type 0} (s : Bool) → (IsTrue s ↔ Q) → (Q → W) → (W → Q) → IsTrue s ↔ W
last s tells all one = (λ h. all (tells.0 h), λ w. tells.1 (one w))

-- a test fails, and is the answer, or the answer is false
pub ends : {P W : Type 0} (r : Bool) → (IsTrue r ↔ P) → r ≡ false → (W → P) → IsTrue r ↔ W
ends r tells not one = (λ h. absurd (true≢false (sym h ∙ not)), λ w. tells.1 (one w))

pub stops : {P W : Type 0} (r : Bool) → (IsTrue r ↔ P) → r ≡ false → (W → P) → IsTrue false ↔ W
stops r tells not one = refuted (λ w. fails r not tells (one w))

-- the same of values that are equal to these
pub along : {X M : Type 0} (f : X → M) (x y u v : X) (r : Bool) → u ≡ x → v ≡ y → (IsTrue r ↔ (f u ≡ f v)) → IsTrue r ↔ (f x ≡ f y)
along f x y u v r e g tells = (λ h. sym (ap f e) ∙ tells.0 h ∙ ap f g, λ h. tells.1 (ap f e ∙ h ∙ sym (ap f g)))

-- trees are the same as what they are equal to
joined : {A P : Type 0} (s t u v : A) (r : Bool) → s ≡ u → t ≡ v → (P → u ≡ v) → (u ≡ v → P) → (IsTrue r ↔ P) → IsTrue r ↔ (s ≡ t)
joined s t u v r e g make open_ tells = (λ h. e ∙ make (tells.0 h) ∙ sym g, λ w. tells.1 (open_ (sym e ∙ w ∙ g)))

-- ---- which forms are left

pub composed_left : (e : Expr) → ((x : Atom) → e.form ≡ f.Var x → ⊥) → ((x : FunName) → e.form ≡ f.Local x → ⊥) → ((x : Atom) (y : FunName) → e.form ≡ f.External x y → ⊥)
    → ((x : Literal) → e.form ≡ f.Lit x → ⊥) → ((xs : List Expr) → e.form ≡ f.Tuple xs → ⊥) → ((xs : List Expr) → e.form ≡ f.Values xs → ⊥) → ((xs : List Segment) → e.form ≡ f.Binary xs → ⊥)
    → IsComposed (tree e)
composed_left e no_variable no_local no_external no_literal no_tuple no_values no_binary = by (tree e) refl
  where
    by : (t : m.Tree) → tree e ≡ t → IsComposed t
    by (m.variable k x) is = no_variable x (opened e _ is).0
    by (m.local k x) is = no_local x (opened e _ is).0
    by (m.external k x y) is = no_external x y (opened e _ is).0
    by (m.literal k x) is = no_literal x (opened e _ is).0
    by (m.tuple k ts) is = let o = opened e (m.tuple k ts) is in no_tuple o.0 o.1
    by (m.values k ts) is = let o = opened e (m.values k ts) is in no_values o.0 o.1
    by (m.binary k ss) is = let o = opened e (m.binary k ss) is in no_binary o.0 o.1
    by t is = tt

pub control_left : (e : Expr) → IsComposed (tree e) → ((x : FunOf Expr) → e.form ≡ f.Fun x → ⊥) → ((xs : List Expr) (x : Expr) → e.form ≡ f.Listed xs x → ⊥)
    → ((xs : List MapPair) (x : Option Expr) → e.form ≡ f.Map xs x → ⊥) → ((x : Expr) (xs : List Expr) → e.form ≡ f.Apply x xs → ⊥) → ((x : Atom) (xs : List Expr) → e.form ≡ f.Primop x xs → ⊥)
    → ((x : Expr) → e.form ≡ f.Catch x → ⊥) → IsControl (tree e)
control_left e composed no_fun no_list no_map no_apply no_primop no_catch = by (tree e) refl composed
  where
    by : (t : m.Tree) → tree e ≡ t → IsComposed t → IsControl t
    by (m.function k xs t) is h = let o = opened e (m.function k xs t) is in absurd (no_fun o.0 o.1)
    by (m.listed k ts t) is h = let o = opened e (m.listed k ts t) is in absurd (no_list o.0 o.1 o.2)
    by (m.new_map k ps) is h = let o = opened e (m.new_map k ps) is in absurd (no_map o.0 None o.1)
    by (m.updated_map k ps t) is h = let o = opened e (m.updated_map k ps t) is in absurd (no_map o.0 (Some o.1) o.2)
    by (m.apply k t ts) is h = let o = opened e (m.apply k t ts) is in absurd (no_apply o.0 o.1 o.2)
    by (m.primop k x ts) is h = let o = opened e (m.primop k x ts) is in absurd (no_primop x o.0 o.1)
    by (m.catch k t) is h = let o = opened e (m.catch k t) is in absurd (no_catch o.0 o.1)
    by (m.chain k ss t) is h = tt
    by (m.case k t cs) is h = tt
    by (m.letrec k ds t) is h = tt
    by (m.call k t u ts) is h = tt
    by (m.try k t xs u ys w) is h = tt
    by (m.receive k cs t u) is h = tt
    by t is h = absurd h

-- ---- marks

mark_of : m.Tree → Mark
mark_of (m.variable k x) = k
mark_of (m.local k x) = k
mark_of (m.external k x f) = k
mark_of (m.literal k x) = k
mark_of (m.function k xs t) = k
mark_of (m.listed k ts t) = k
mark_of (m.tuple k ts) = k
mark_of (m.new_map k ps) = k
mark_of (m.updated_map k ps t) = k
mark_of (m.binary k ss) = k
mark_of (m.values k ts) = k
mark_of (m.chain k ss t) = k
mark_of (m.case k t cs) = k
mark_of (m.letrec k ds t) = k
mark_of (m.apply k t ts) = k
mark_of (m.call k t u ts) = k
mark_of (m.primop k x ts) = k
mark_of (m.try k t xs u ys w) = k
mark_of (m.receive k cs t u) = k
mark_of (m.catch k t) = k

layer_mark : (k : Mark) (y : Form-F Marked MarkedPattern ClauseParts m.Tree PairParts PatPairParts PatSegmentParts m.Pattern SegmentParts) → mark_of (form_layer y k) ≡ k
unfolding mark_of
layer_mark k (Form-F.Form::Map ps None) = refl
layer_mark k (Form-F.Form::Map ps (Some t)) = refl
layer_mark k y = refl

pattern_mark_of : m.Pattern → Mark
pattern_mark_of (m.binds k x) = k
pattern_mark_of (m.equals k x) = k
pattern_mark_of (m.list_of k ps p) = k
pattern_mark_of (m.tuple_of k ps) = k
pattern_mark_of (m.map_of k ps) = k
pattern_mark_of (m.binary_of k ss) = k
pattern_mark_of (m.alias k x p) = k

pattern_layer_mark : (k : Mark) (y : PatForm-F Marked MarkedPattern ClauseParts m.Tree PairParts PatPairParts PatSegmentParts m.Pattern SegmentParts) → pattern_mark_of (pat_form_layer y k) ≡ k
unfolding pattern_mark_of
pattern_layer_mark k (PatForm-F.PatForm::Var x) = refl
pattern_layer_mark k y = refl

-- places: whether places are compared
module _ (places : Bool) where
  -- ---- expressions

  pub variable_same : (a b : Expr) (x : Atom) (x2 : Atom) (r : Bool) → a.form ≡ f.Var x → b.form ≡ f.Var x2 → compared_mark places a.mark ≡ compared_mark places b.mark → (IsTrue r ↔ (x ≡ x2))
      → IsTrue r ↔ (compared places (tree a) ≡ compared places (tree b))
  variable_same a b x x2 r is js k = joined _ _ (m.variable (compared_mark places a.mark) (x)) (m.variable (compared_mark places b.mark) (x2)) r (ap (compared places) (variable_tree a x is)) (ap (compared places) (variable_tree b x2 js))
      (λ w i. m.variable (k i) (w i)) (λ w. let e : x ≡ x2 = cc in e)

  pub local_same : (a b : Expr) (x : FunName) (x2 : FunName) (r : Bool) → a.form ≡ f.Local x → b.form ≡ f.Local x2 → compared_mark places a.mark ≡ compared_mark places b.mark → (IsTrue r ↔ (x ≡ x2))
      → IsTrue r ↔ (compared places (tree a) ≡ compared places (tree b))
  local_same a b x x2 r is js k = joined _ _ (m.local (compared_mark places a.mark) (x)) (m.local (compared_mark places b.mark) (x2)) r (ap (compared places) (local_tree a x is)) (ap (compared places) (local_tree b x2 js))
      (λ w i. m.local (k i) (w i)) (λ w. let e : x ≡ x2 = cc in e)

  pub external_same : (a b : Expr) (x : Atom) (y : FunName) (x2 : Atom) (y2 : FunName) (r : Bool) → a.form ≡ f.External x y → b.form ≡ f.External x2 y2 → compared_mark places a.mark ≡ compared_mark places b.mark
      → (IsTrue r ↔ ((x ≡ x2) × (y ≡ y2))) → IsTrue r ↔ (compared places (tree a) ≡ compared places (tree b))
  external_same a b x y x2 y2 r is js k = joined _ _ (m.external (compared_mark places a.mark) (x) (y)) (m.external (compared_mark places b.mark) (x2) (y2)) r (ap (compared places) (external_tree a x y is))
      (ap (compared places) (external_tree b x2 y2 js)) (λ w i. m.external (k i) (w.0 i) (w.1 i)) (λ w. let e0 : x ≡ x2 = cc in let e1 : y ≡ y2 = cc in (e0, e1))

  pub literal_same : (a b : Expr) (x : Literal) (x2 : Literal) (r : Bool) → a.form ≡ f.Lit x → b.form ≡ f.Lit x2 → compared_mark places a.mark ≡ compared_mark places b.mark → (IsTrue r ↔ (x ≡ x2))
      → IsTrue r ↔ (compared places (tree a) ≡ compared places (tree b))
  literal_same a b x x2 r is js k = joined _ _ (m.literal (compared_mark places a.mark) (x)) (m.literal (compared_mark places b.mark) (x2)) r (ap (compared places) (literal_tree a x is)) (ap (compared places) (literal_tree b x2 js))
      (λ w i. m.literal (k i) (w i)) (λ w. let e : x ≡ x2 = cc in e)

  pub fun_same : (a b : Expr) (x : FunOf Expr) (x2 : FunOf Expr) (r : Bool) → a.form ≡ f.Fun x → b.form ≡ f.Fun x2 → compared_mark places a.mark ≡ compared_mark places b.mark
      → (IsTrue r ↔ ((map (compared_variable places) x.params ≡ map (compared_variable places) x2.params) × (compared places (tree x.body) ≡ compared places (tree x2.body))))
      → IsTrue r ↔ (compared places (tree a) ≡ compared places (tree b))
  fun_same a b x x2 r is js k = joined _ _ (m.function (compared_mark places a.mark) (map (compared_variable places) x.params) (compared places (tree x.body)))
      (m.function (compared_mark places b.mark) (map (compared_variable places) x2.params) (compared places (tree x2.body))) r (ap (compared places) (fun_tree a x is)) (ap (compared places) (fun_tree b x2 js))
      (λ w i. m.function (k i) (w.0 i) (w.1 i)) (λ w. let e0 : map (compared_variable places) x.params ≡ map (compared_variable places) x2.params = cc in let e1 : compared places (tree x.body)
      ≡ compared places (tree x2.body) = cc in (e0, e1))

  pub listed_same : (a b : Expr) (xs : List Expr) (x : Expr) (xs2 : List Expr) (x2 : Expr) (r : Bool) → a.form ≡ f.Listed xs x → b.form ≡ f.Listed xs2 x2 → compared_mark places a.mark ≡ compared_mark places b.mark
      → (IsTrue r ↔ ((compared_all places (all_trees xs) ≡ compared_all places (all_trees xs2)) × (compared places (tree x) ≡ compared places (tree x2)))) → IsTrue r ↔ (compared places (tree a) ≡ compared places (tree b))
  listed_same a b xs x xs2 x2 r is js k = joined _ _ (m.listed (compared_mark places a.mark) (compared_all places (all_trees xs)) (compared places (tree x)))
      (m.listed (compared_mark places b.mark) (compared_all places (all_trees xs2)) (compared places (tree x2))) r (ap (compared places) (listed_tree a xs x is)) (ap (compared places) (listed_tree b xs2 x2 js))
      (λ w i. m.listed (k i) (w.0 i) (w.1 i)) (λ w. let e0 : compared_all places (all_trees xs) ≡ compared_all places (all_trees xs2) = cc in let e1 : compared places (tree x) ≡ compared places (tree x2) = cc in (e0, e1))

  pub tuple_same : (a b : Expr) (xs : List Expr) (xs2 : List Expr) (r : Bool) → a.form ≡ f.Tuple xs → b.form ≡ f.Tuple xs2 → compared_mark places a.mark ≡ compared_mark places b.mark
      → (IsTrue r ↔ (compared_all places (all_trees xs) ≡ compared_all places (all_trees xs2))) → IsTrue r ↔ (compared places (tree a) ≡ compared places (tree b))
  tuple_same a b xs xs2 r is js k = joined _ _ (m.tuple (compared_mark places a.mark) (compared_all places (all_trees xs))) (m.tuple (compared_mark places b.mark) (compared_all places (all_trees xs2))) r
      (ap (compared places) (tuple_tree a xs is)) (ap (compared places) (tuple_tree b xs2 js)) (λ w i. m.tuple (k i) (w i)) (λ w. let e : compared_all places (all_trees xs) ≡ compared_all places (all_trees xs2) = cc in e)

  pub binary_same : (a b : Expr) (xs : List Segment) (xs2 : List Segment) (r : Bool) → a.form ≡ f.Binary xs → b.form ≡ f.Binary xs2 → compared_mark places a.mark ≡ compared_mark places b.mark
      → (IsTrue r ↔ (compared_segments places (all_segments xs) ≡ compared_segments places (all_segments xs2))) → IsTrue r ↔ (compared places (tree a) ≡ compared places (tree b))
  binary_same a b xs xs2 r is js k = joined _ _ (m.binary (compared_mark places a.mark) (compared_segments places (all_segments xs))) (m.binary (compared_mark places b.mark) (compared_segments places (all_segments xs2))) r
      (ap (compared places) (binary_tree a xs is)) (ap (compared places) (binary_tree b xs2 js)) (λ w i. m.binary (k i) (w i))
      (λ w. let e : compared_segments places (all_segments xs) ≡ compared_segments places (all_segments xs2) = cc in e)

  pub values_same : (a b : Expr) (xs : List Expr) (xs2 : List Expr) (r : Bool) → a.form ≡ f.Values xs → b.form ≡ f.Values xs2 → compared_mark places a.mark ≡ compared_mark places b.mark
      → (IsTrue r ↔ (compared_all places (all_trees xs) ≡ compared_all places (all_trees xs2))) → IsTrue r ↔ (compared places (tree a) ≡ compared places (tree b))
  values_same a b xs xs2 r is js k = joined _ _ (m.values (compared_mark places a.mark) (compared_all places (all_trees xs))) (m.values (compared_mark places b.mark) (compared_all places (all_trees xs2))) r
      (ap (compared places) (values_tree a xs is)) (ap (compared places) (values_tree b xs2 js)) (λ w i. m.values (k i) (w i)) (λ w. let e : compared_all places (all_trees xs) ≡ compared_all places (all_trees xs2) = cc in e)

  pub chain_same : (a b : Expr) (xs : List (StepOf Expr)) (x : Expr) (xs2 : List (StepOf Expr)) (x2 : Expr) (r : Bool) → a.form ≡ f.Chain xs x → b.form ≡ f.Chain xs2 x2 → compared_mark places a.mark ≡ compared_mark places b.mark
      → (IsTrue r ↔ ((compared_steps places (all_steps xs) ≡ compared_steps places (all_steps xs2)) × (compared places (tree x) ≡ compared places (tree x2)))) → IsTrue r ↔ (compared places (tree a) ≡ compared places (tree b))
  chain_same a b xs x xs2 x2 r is js k = joined _ _ (m.chain (compared_mark places a.mark) (compared_steps places (all_steps xs)) (compared places (tree x)))
      (m.chain (compared_mark places b.mark) (compared_steps places (all_steps xs2)) (compared places (tree x2))) r (ap (compared places) (chain_tree a xs x is)) (ap (compared places) (chain_tree b xs2 x2 js))
      (λ w i. m.chain (k i) (w.0 i) (w.1 i)) (λ w. let e0 : compared_steps places (all_steps xs) ≡ compared_steps places (all_steps xs2) = cc in let e1 : compared places (tree x) ≡ compared places (tree x2) = cc in (e0, e1))

  pub case_same : (a b : Expr) (x : Expr) (xs : List Clause) (x2 : Expr) (xs2 : List Clause) (r : Bool) → a.form ≡ f.Case x xs → b.form ≡ f.Case x2 xs2 → compared_mark places a.mark ≡ compared_mark places b.mark
      → (IsTrue r ↔ ((compared places (tree x) ≡ compared places (tree x2)) × (compared_clauses places (all_clauses xs) ≡ compared_clauses places (all_clauses xs2))))
      → IsTrue r ↔ (compared places (tree a) ≡ compared places (tree b))
  case_same a b x xs x2 xs2 r is js k = joined _ _ (m.case (compared_mark places a.mark) (compared places (tree x)) (compared_clauses places (all_clauses xs)))
      (m.case (compared_mark places b.mark) (compared places (tree x2)) (compared_clauses places (all_clauses xs2))) r (ap (compared places) (case_tree a x xs is)) (ap (compared places) (case_tree b x2 xs2 js))
      (λ w i. m.case (k i) (w.0 i) (w.1 i)) (λ w. let e0 : compared places (tree x) ≡ compared places (tree x2) = cc in let e1 : compared_clauses places (all_clauses xs) ≡ compared_clauses places (all_clauses xs2) = cc in (e0, e1))

  pub letrec_same : (a b : Expr) (xs : List (FunDefOf Expr)) (x : Expr) (xs2 : List (FunDefOf Expr)) (x2 : Expr) (r : Bool) → a.form ≡ f.Letrec xs x → b.form ≡ f.Letrec xs2 x2
      → compared_mark places a.mark ≡ compared_mark places b.mark → (IsTrue r ↔ ((compared_defs places (all_defs xs) ≡ compared_defs places (all_defs xs2)) × (compared places (tree x) ≡ compared places (tree x2))))
      → IsTrue r ↔ (compared places (tree a) ≡ compared places (tree b))
  letrec_same a b xs x xs2 x2 r is js k = joined _ _ (m.letrec (compared_mark places a.mark) (compared_defs places (all_defs xs)) (compared places (tree x)))
      (m.letrec (compared_mark places b.mark) (compared_defs places (all_defs xs2)) (compared places (tree x2))) r (ap (compared places) (letrec_tree a xs x is)) (ap (compared places) (letrec_tree b xs2 x2 js))
      (λ w i. m.letrec (k i) (w.0 i) (w.1 i)) (λ w. let e0 : compared_defs places (all_defs xs) ≡ compared_defs places (all_defs xs2) = cc in let e1 : compared places (tree x) ≡ compared places (tree x2) = cc in (e0, e1))

  pub apply_same : (a b : Expr) (x : Expr) (xs : List Expr) (x2 : Expr) (xs2 : List Expr) (r : Bool) → a.form ≡ f.Apply x xs → b.form ≡ f.Apply x2 xs2 → compared_mark places a.mark ≡ compared_mark places b.mark
      → (IsTrue r ↔ ((compared places (tree x) ≡ compared places (tree x2)) × (compared_all places (all_trees xs) ≡ compared_all places (all_trees xs2)))) → IsTrue r ↔ (compared places (tree a) ≡ compared places (tree b))
  apply_same a b x xs x2 xs2 r is js k = joined _ _ (m.apply (compared_mark places a.mark) (compared places (tree x)) (compared_all places (all_trees xs)))
      (m.apply (compared_mark places b.mark) (compared places (tree x2)) (compared_all places (all_trees xs2))) r (ap (compared places) (apply_tree a x xs is)) (ap (compared places) (apply_tree b x2 xs2 js))
      (λ w i. m.apply (k i) (w.0 i) (w.1 i)) (λ w. let e0 : compared places (tree x) ≡ compared places (tree x2) = cc in let e1 : compared_all places (all_trees xs) ≡ compared_all places (all_trees xs2) = cc in (e0, e1))

  pub call_same : (a b : Expr) (h : Expr) (x : Expr) (xs : List Expr) (h2 : Expr) (x2 : Expr) (xs2 : List Expr) (r : Bool) → a.form ≡ f.Call h x xs → b.form ≡ f.Call h2 x2 xs2
      → compared_mark places a.mark ≡ compared_mark places b.mark
      → (IsTrue r ↔ ((compared places (tree h) ≡ compared places (tree h2)) × (compared places (tree x) ≡ compared places (tree x2)) × (compared_all places (all_trees xs) ≡ compared_all places (all_trees xs2))))
      → IsTrue r ↔ (compared places (tree a) ≡ compared places (tree b))
  call_same a b h x xs h2 x2 xs2 r is js k = joined _ _ (m.call (compared_mark places a.mark) (compared places (tree h)) (compared places (tree x)) (compared_all places (all_trees xs)))
      (m.call (compared_mark places b.mark) (compared places (tree h2)) (compared places (tree x2)) (compared_all places (all_trees xs2))) r (ap (compared places) (call_tree a h x xs is)) (ap (compared places) (call_tree b h2 x2 xs2 js))
      (λ w i. m.call (k i) (w.0 i) (w.1 i) (w.2 i)) (λ w. let e0 : compared places (tree h) ≡ compared places (tree h2) = cc in let e1 : compared places (tree x)
      ≡ compared places (tree x2) = cc in let e2 : compared_all places (all_trees xs) ≡ compared_all places (all_trees xs2) = cc in (e0, e1, e2))

  pub primop_same : (a b : Expr) (x : Atom) (xs : List Expr) (x2 : Atom) (xs2 : List Expr) (r : Bool) → a.form ≡ f.Primop x xs → b.form ≡ f.Primop x2 xs2 → compared_mark places a.mark ≡ compared_mark places b.mark
      → (IsTrue r ↔ ((x ≡ x2) × (compared_all places (all_trees xs) ≡ compared_all places (all_trees xs2)))) → IsTrue r ↔ (compared places (tree a) ≡ compared places (tree b))
  primop_same a b x xs x2 xs2 r is js k = joined _ _ (m.primop (compared_mark places a.mark) (x) (compared_all places (all_trees xs))) (m.primop (compared_mark places b.mark) (x2) (compared_all places (all_trees xs2))) r
      (ap (compared places) (primop_tree a x xs is)) (ap (compared places) (primop_tree b x2 xs2 js)) (λ w i. m.primop (k i) (w.0 i) (w.1 i))
      (λ w. let e0 : x ≡ x2 = cc in let e1 : compared_all places (all_trees xs) ≡ compared_all places (all_trees xs2) = cc in (e0, e1))

  pub receive_same : (a b : Expr) (xs : List Clause) (t : Expr) (x : Expr) (xs2 : List Clause) (t2 : Expr) (x2 : Expr) (r : Bool) → a.form ≡ f.Receive xs t x → b.form ≡ f.Receive xs2 t2 x2
      → compared_mark places a.mark ≡ compared_mark places b.mark
      → (IsTrue r ↔ ((compared_clauses places (all_clauses xs) ≡ compared_clauses places (all_clauses xs2)) × (compared places (tree t) ≡ compared places (tree t2)) × (compared places (tree x) ≡ compared places (tree x2))))
      → IsTrue r ↔ (compared places (tree a) ≡ compared places (tree b))
  receive_same a b xs t x xs2 t2 x2 r is js k = joined _ _ (m.receive (compared_mark places a.mark) (compared_clauses places (all_clauses xs)) (compared places (tree t)) (compared places (tree x)))
      (m.receive (compared_mark places b.mark) (compared_clauses places (all_clauses xs2)) (compared places (tree t2)) (compared places (tree x2))) r (ap (compared places) (receive_tree a xs t x is))
      (ap (compared places) (receive_tree b xs2 t2 x2 js)) (λ w i. m.receive (k i) (w.0 i) (w.1 i) (w.2 i))
      (λ w. let e0 : compared_clauses places (all_clauses xs) ≡ compared_clauses places (all_clauses xs2) = cc in let e1 : compared places (tree t) ≡ compared places (tree t2) = cc in let e2 : compared places (tree x)
      ≡ compared places (tree x2) = cc in (e0, e1, e2))

  pub catch_same : (a b : Expr) (x : Expr) (x2 : Expr) (r : Bool) → a.form ≡ f.Catch x → b.form ≡ f.Catch x2 → compared_mark places a.mark ≡ compared_mark places b.mark
      → (IsTrue r ↔ (compared places (tree x) ≡ compared places (tree x2))) → IsTrue r ↔ (compared places (tree a) ≡ compared places (tree b))
  catch_same a b x x2 r is js k = joined _ _ (m.catch (compared_mark places a.mark) (compared places (tree x))) (m.catch (compared_mark places b.mark) (compared places (tree x2))) r (ap (compared places) (catch_tree a x is))
      (ap (compared places) (catch_tree b x2 js)) (λ w i. m.catch (k i) (w i)) (λ w. let e : compared places (tree x) ≡ compared places (tree x2) = cc in e)

  pub try_same : (a b : Expr) (x y : TryOf Expr) (r : Bool) → a.form ≡ f.Try x → b.form ≡ f.Try y → compared_mark places a.mark ≡ compared_mark places b.mark → (IsTrue r ↔ SameTry places x y)
      → IsTrue r ↔ (compared places (tree a) ≡ compared places (tree b))
  try_same a b x y r is js k =
      joined _ _ (m.try (compared_mark places a.mark) (compared places (tree x.arg)) (map (compared_variable places) x.vars) (compared places (tree x.body)) (map (compared_variable places) x.catch_vars) (compared places (tree x.handler)))
      (m.try (compared_mark places b.mark) (compared places (tree y.arg)) (map (compared_variable places) y.vars) (compared places (tree y.body)) (map (compared_variable places) y.catch_vars) (compared places (tree y.handler))) r
      (ap (compared places) (try_tree a x is)) (ap (compared places) (try_tree b y js))
      (λ w i. m.try (k i) (w.0 i) (w.3 i) (w.1 i) (w.4 i) (w.2 i))
      (λ w.
      let e0 : compared places (tree x.arg) ≡ compared places (tree y.arg) = cc in
      let e1 : compared places (tree x.body) ≡ compared places (tree y.body) = cc in
      let e2 : compared places (tree x.handler) ≡ compared places (tree y.handler) = cc in
      let e3 : map (compared_variable places) x.vars ≡ map (compared_variable places) y.vars = cc in
      let e4 : map (compared_variable places) x.catch_vars ≡ map (compared_variable places) y.catch_vars = cc in
      (e0, e1, e2, e3, e4))

  -- ---- patterns

  pub binds_same : (a b : Pattern) (x : Atom) (x2 : Atom) (r : Bool) → a.form ≡ p.Var x → b.form ≡ p.Var x2 → compared_mark places a.mark ≡ compared_mark places b.mark → (IsTrue r ↔ (x ≡ x2))
      → IsTrue r ↔ (compared_pattern places (pattern_tree a) ≡ compared_pattern places (pattern_tree b))
  binds_same a b x x2 r is js k = joined _ _ (m.binds (compared_mark places a.mark) (x)) (m.binds (compared_mark places b.mark) (x2)) r (ap (compared_pattern places) (binds_pattern a x is))
      (ap (compared_pattern places) (binds_pattern b x2 js)) (λ w i. m.binds (k i) (w i)) (λ w. let e : x ≡ x2 = cc in e)

  pub equals_same : (a b : Pattern) (x : Literal) (x2 : Literal) (r : Bool) → a.form ≡ p.Lit x → b.form ≡ p.Lit x2 → compared_mark places a.mark ≡ compared_mark places b.mark → (IsTrue r ↔ (x ≡ x2))
      → IsTrue r ↔ (compared_pattern places (pattern_tree a) ≡ compared_pattern places (pattern_tree b))
  equals_same a b x x2 r is js k = joined _ _ (m.equals (compared_mark places a.mark) (x)) (m.equals (compared_mark places b.mark) (x2)) r (ap (compared_pattern places) (equals_pattern a x is))
      (ap (compared_pattern places) (equals_pattern b x2 js)) (λ w i. m.equals (k i) (w i)) (λ w. let e : x ≡ x2 = cc in e)

  pub list_of_same : (a b : Pattern) (xs : List Pattern) (x : Pattern) (xs2 : List Pattern) (x2 : Pattern) (r : Bool) → a.form ≡ p.Listed xs x → b.form ≡ p.Listed xs2 x2
      → compared_mark places a.mark ≡ compared_mark places b.mark
      → (IsTrue r ↔ ((compared_patterns places (all_patterns xs) ≡ compared_patterns places (all_patterns xs2)) × (compared_pattern places (pattern_tree x) ≡ compared_pattern places (pattern_tree x2))))
      → IsTrue r ↔ (compared_pattern places (pattern_tree a) ≡ compared_pattern places (pattern_tree b))
  list_of_same a b xs x xs2 x2 r is js k = joined _ _ (m.list_of (compared_mark places a.mark) (compared_patterns places (all_patterns xs)) (compared_pattern places (pattern_tree x)))
      (m.list_of (compared_mark places b.mark) (compared_patterns places (all_patterns xs2)) (compared_pattern places (pattern_tree x2))) r (ap (compared_pattern places) (list_of_pattern a xs x is))
      (ap (compared_pattern places) (list_of_pattern b xs2 x2 js)) (λ w i. m.list_of (k i) (w.0 i) (w.1 i))
      (λ w. let e0 : compared_patterns places (all_patterns xs) ≡ compared_patterns places (all_patterns xs2) = cc in let e1 : compared_pattern places (pattern_tree x) ≡ compared_pattern places (pattern_tree x2) = cc in (e0, e1))

  pub tuple_of_same : (a b : Pattern) (xs : List Pattern) (xs2 : List Pattern) (r : Bool) → a.form ≡ p.Tuple xs → b.form ≡ p.Tuple xs2 → compared_mark places a.mark ≡ compared_mark places b.mark
      → (IsTrue r ↔ (compared_patterns places (all_patterns xs) ≡ compared_patterns places (all_patterns xs2))) → IsTrue r ↔ (compared_pattern places (pattern_tree a) ≡ compared_pattern places (pattern_tree b))
  tuple_of_same a b xs xs2 r is js k = joined _ _ (m.tuple_of (compared_mark places a.mark) (compared_patterns places (all_patterns xs))) (m.tuple_of (compared_mark places b.mark) (compared_patterns places (all_patterns xs2))) r
      (ap (compared_pattern places) (tuple_of_pattern a xs is)) (ap (compared_pattern places) (tuple_of_pattern b xs2 js)) (λ w i. m.tuple_of (k i) (w i))
      (λ w. let e : compared_patterns places (all_patterns xs) ≡ compared_patterns places (all_patterns xs2) = cc in e)

  pub map_of_same : (a b : Pattern) (xs : List PatPair) (xs2 : List PatPair) (r : Bool) → a.form ≡ p.Map xs → b.form ≡ p.Map xs2 → compared_mark places a.mark ≡ compared_mark places b.mark
      → (IsTrue r ↔ (compared_pat_pairs places (all_pat_pairs xs) ≡ compared_pat_pairs places (all_pat_pairs xs2))) → IsTrue r ↔ (compared_pattern places (pattern_tree a) ≡ compared_pattern places (pattern_tree b))
  map_of_same a b xs xs2 r is js k = joined _ _ (m.map_of (compared_mark places a.mark) (compared_pat_pairs places (all_pat_pairs xs))) (m.map_of (compared_mark places b.mark) (compared_pat_pairs places (all_pat_pairs xs2))) r
      (ap (compared_pattern places) (map_of_pattern a xs is)) (ap (compared_pattern places) (map_of_pattern b xs2 js)) (λ w i. m.map_of (k i) (w i))
      (λ w. let e : compared_pat_pairs places (all_pat_pairs xs) ≡ compared_pat_pairs places (all_pat_pairs xs2) = cc in e)

  pub binary_of_same : (a b : Pattern) (xs : List PatSegment) (xs2 : List PatSegment) (r : Bool) → a.form ≡ p.Binary xs → b.form ≡ p.Binary xs2 → compared_mark places a.mark ≡ compared_mark places b.mark
      → (IsTrue r ↔ (compared_pat_segments places (all_pat_segments xs) ≡ compared_pat_segments places (all_pat_segments xs2))) → IsTrue r ↔ (compared_pattern places (pattern_tree a) ≡ compared_pattern places (pattern_tree b))
  binary_of_same a b xs xs2 r is js k = joined _ _ (m.binary_of (compared_mark places a.mark) (compared_pat_segments places (all_pat_segments xs)))
      (m.binary_of (compared_mark places b.mark) (compared_pat_segments places (all_pat_segments xs2))) r (ap (compared_pattern places) (binary_of_pattern a xs is)) (ap (compared_pattern places) (binary_of_pattern b xs2 js))
      (λ w i. m.binary_of (k i) (w i)) (λ w. let e : compared_pat_segments places (all_pat_segments xs) ≡ compared_pat_segments places (all_pat_segments xs2) = cc in e)

  pub alias_same : (a b : Pattern) (v : VarName) (x : Pattern) (v2 : VarName) (x2 : Pattern) (r : Bool) → a.form ≡ p.Alias v x → b.form ≡ p.Alias v2 x2 → compared_mark places a.mark ≡ compared_mark places b.mark
      → (IsTrue r ↔ ((compared_variable places v ≡ compared_variable places v2) × (compared_pattern places (pattern_tree x) ≡ compared_pattern places (pattern_tree x2))))
      → IsTrue r ↔ (compared_pattern places (pattern_tree a) ≡ compared_pattern places (pattern_tree b))
  alias_same a b v x v2 x2 r is js k = joined _ _ (m.alias (compared_mark places a.mark) (compared_variable places v) (compared_pattern places (pattern_tree x)))
      (m.alias (compared_mark places b.mark) (compared_variable places v2) (compared_pattern places (pattern_tree x2))) r (ap (compared_pattern places) (alias_pattern a v x is)) (ap (compared_pattern places) (alias_pattern b v2 x2 js))
      (λ w i. m.alias (k i) (w.0 i) (w.1 i)) (λ w. let e0 : compared_variable places v ≡ compared_variable places v2 = cc in let e1 : compared_pattern places (pattern_tree x)
      ≡ compared_pattern places (pattern_tree x2) = cc in (e0, e1))

  -- a map: new, or one that updates another
  pub map_same : (a b : Expr) (xs ys : List MapPair) (x y : Option Expr) (r : Bool) → a.form ≡ f.Map xs x → b.form ≡ f.Map ys y → compared_mark places a.mark ≡ compared_mark places b.mark
      → (IsTrue r ↔ ((compared_pairs places (all_pairs xs) ≡ compared_pairs places (all_pairs ys)) × SameUpdated places x y)) → IsTrue r ↔ (compared places (tree a) ≡ compared places (tree b))
  map_same a b xs ys None None r is js k =
      joined _ _ (m.new_map (compared_mark places a.mark) (compared_pairs places (all_pairs xs))) (m.new_map (compared_mark places b.mark) (compared_pairs places (all_pairs ys))) r (ap (compared places) (new_map_tree a xs is))
      (ap (compared places) (new_map_tree b ys js))
      (λ w i. m.new_map (k i) (w.0 i)) (λ w. let e : compared_pairs places (all_pairs xs) ≡ compared_pairs places (all_pairs ys) = cc in (e, tt))
  map_same a b xs ys (Some x) (Some y) r is js k =
      joined _ _ (m.updated_map (compared_mark places a.mark) (compared_pairs places (all_pairs xs)) (compared places (tree x)))
      (m.updated_map (compared_mark places b.mark) (compared_pairs places (all_pairs ys)) (compared places (tree y))) r (ap (compared places) (updated_map_tree a xs x is)) (ap (compared places) (updated_map_tree b ys y js))
      (λ w i. m.updated_map (k i) (w.0 i) (w.1 i)) (λ w. let e : compared_pairs places (all_pairs xs) ≡ compared_pairs places (all_pairs ys) = cc in let g : compared places (tree x) ≡ compared places (tree y) = cc in (e, g))
  map_same a b xs ys None (Some y) r is js k =
      joined _ _ (m.new_map (compared_mark places a.mark) (compared_pairs places (all_pairs xs))) (m.updated_map (compared_mark places b.mark) (compared_pairs places (all_pairs ys)) (compared places (tree y))) r
      (ap (compared places) (new_map_tree a xs is)) (ap (compared places) (updated_map_tree b ys y js))
      (λ w. absurd w.1) (λ w. absurd cc)
  map_same a b xs ys (Some x) None r is js k =
      joined _ _ (m.updated_map (compared_mark places a.mark) (compared_pairs places (all_pairs xs)) (compared places (tree x))) (m.new_map (compared_mark places b.mark) (compared_pairs places (all_pairs ys))) r
      (ap (compared places) (updated_map_tree a xs x is)) (ap (compared places) (new_map_tree b ys js))
      (λ w. absurd w.1) (λ w. absurd cc)

  -- ---- another form

  pub other_variable : (a b : Expr) (x : Atom) → a.form ≡ f.Var x → ((x : Atom) → b.form ≡ f.Var x → ⊥) → IsTrue false ↔ (compared places (tree a) ≡ compared places (tree b))
  other_variable a b x is other = refuted (λ h. by (tree b) refl (sym h ∙ ap (compared places) (variable_tree a x is)))
    where
      by : (t : m.Tree) → tree b ≡ t → compared places t ≡ m.variable (compared_mark places a.mark) (x) → ⊥
      by (m.variable k y) js w = let o = opened b (m.variable k y) js in other y o.0
      by t js w = cc

  pub other_local : (a b : Expr) (x : FunName) → a.form ≡ f.Local x → ((x : FunName) → b.form ≡ f.Local x → ⊥) → IsTrue false ↔ (compared places (tree a) ≡ compared places (tree b))
  other_local a b x is other = refuted (λ h. by (tree b) refl (sym h ∙ ap (compared places) (local_tree a x is)))
    where
      by : (t : m.Tree) → tree b ≡ t → compared places t ≡ m.local (compared_mark places a.mark) (x) → ⊥
      by (m.local k y) js w = let o = opened b (m.local k y) js in other y o.0
      by t js w = cc

  pub other_external : (a b : Expr) (x : Atom) (y : FunName) → a.form ≡ f.External x y → ((x : Atom) (y : FunName) → b.form ≡ f.External x y → ⊥) → IsTrue false ↔ (compared places (tree a) ≡ compared places (tree b))
  other_external a b x y is other = refuted (λ h. by (tree b) refl (sym h ∙ ap (compared places) (external_tree a x y is)))
    where
      by : (t : m.Tree) → tree b ≡ t → compared places t ≡ m.external (compared_mark places a.mark) (x) (y) → ⊥
      by (m.external k z w2) js w = let o = opened b (m.external k z w2) js in other z w2 o.0
      by t js w = cc

  pub other_literal : (a b : Expr) (x : Literal) → a.form ≡ f.Lit x → ((x : Literal) → b.form ≡ f.Lit x → ⊥) → IsTrue false ↔ (compared places (tree a) ≡ compared places (tree b))
  other_literal a b x is other = refuted (λ h. by (tree b) refl (sym h ∙ ap (compared places) (literal_tree a x is)))
    where
      by : (t : m.Tree) → tree b ≡ t → compared places t ≡ m.literal (compared_mark places a.mark) (x) → ⊥
      by (m.literal k y) js w = let o = opened b (m.literal k y) js in other y o.0
      by t js w = cc

  pub other_fun : (a b : Expr) (x : FunOf Expr) → a.form ≡ f.Fun x → ((x : FunOf Expr) → b.form ≡ f.Fun x → ⊥) → IsTrue false ↔ (compared places (tree a) ≡ compared places (tree b))
  other_fun a b x is other = refuted (λ h. by (tree b) refl (sym h ∙ ap (compared places) (fun_tree a x is)))
    where
      by : (t : m.Tree) → tree b ≡ t → compared places t ≡ m.function (compared_mark places a.mark) (map (compared_variable places) x.params) (compared places (tree x.body)) → ⊥
      by (m.function k vs y) js w = let o = opened b (m.function k vs y) js in other o.0 o.1
      by t js w = cc

  pub other_listed : (a b : Expr) (xs : List Expr) (x : Expr) → a.form ≡ f.Listed xs x → ((xs : List Expr) (x : Expr) → b.form ≡ f.Listed xs x → ⊥) → IsTrue false ↔ (compared places (tree a) ≡ compared places (tree b))
  other_listed a b xs x is other = refuted (λ h. by (tree b) refl (sym h ∙ ap (compared places) (listed_tree a xs x is)))
    where
      by : (t : m.Tree) → tree b ≡ t → compared places t ≡ m.listed (compared_mark places a.mark) (compared_all places (all_trees xs)) (compared places (tree x)) → ⊥
      by (m.listed k ys y) js w = let o = opened b (m.listed k ys y) js in other o.0 o.1 o.2
      by t js w = cc

  pub other_tuple : (a b : Expr) (xs : List Expr) → a.form ≡ f.Tuple xs → ((xs : List Expr) → b.form ≡ f.Tuple xs → ⊥) → IsTrue false ↔ (compared places (tree a) ≡ compared places (tree b))
  other_tuple a b xs is other = refuted (λ h. by (tree b) refl (sym h ∙ ap (compared places) (tuple_tree a xs is)))
    where
      by : (t : m.Tree) → tree b ≡ t → compared places t ≡ m.tuple (compared_mark places a.mark) (compared_all places (all_trees xs)) → ⊥
      by (m.tuple k ys) js w = let o = opened b (m.tuple k ys) js in other o.0 o.1
      by t js w = cc

  pub other_binary : (a b : Expr) (xs : List Segment) → a.form ≡ f.Binary xs → ((xs : List Segment) → b.form ≡ f.Binary xs → ⊥) → IsTrue false ↔ (compared places (tree a) ≡ compared places (tree b))
  other_binary a b xs is other = refuted (λ h. by (tree b) refl (sym h ∙ ap (compared places) (binary_tree a xs is)))
    where
      by : (t : m.Tree) → tree b ≡ t → compared places t ≡ m.binary (compared_mark places a.mark) (compared_segments places (all_segments xs)) → ⊥
      by (m.binary k ys) js w = let o = opened b (m.binary k ys) js in other o.0 o.1
      by t js w = cc

  pub other_values : (a b : Expr) (xs : List Expr) → a.form ≡ f.Values xs → ((xs : List Expr) → b.form ≡ f.Values xs → ⊥) → IsTrue false ↔ (compared places (tree a) ≡ compared places (tree b))
  other_values a b xs is other = refuted (λ h. by (tree b) refl (sym h ∙ ap (compared places) (values_tree a xs is)))
    where
      by : (t : m.Tree) → tree b ≡ t → compared places t ≡ m.values (compared_mark places a.mark) (compared_all places (all_trees xs)) → ⊥
      by (m.values k ys) js w = let o = opened b (m.values k ys) js in other o.0 o.1
      by t js w = cc

  pub other_chain : (a b : Expr) (xs : List (StepOf Expr)) (x : Expr) → a.form ≡ f.Chain xs x → ((xs : List (StepOf Expr)) (x : Expr) → b.form ≡ f.Chain xs x → ⊥)
      → IsTrue false ↔ (compared places (tree a) ≡ compared places (tree b))
  other_chain a b xs x is other = refuted (λ h. by (tree b) refl (sym h ∙ ap (compared places) (chain_tree a xs x is)))
    where
      by : (t : m.Tree) → tree b ≡ t → compared places t ≡ m.chain (compared_mark places a.mark) (compared_steps places (all_steps xs)) (compared places (tree x)) → ⊥
      by (m.chain k ys y) js w = let o = opened b (m.chain k ys y) js in other o.0 o.1 o.2
      by t js w = cc

  pub other_case : (a b : Expr) (x : Expr) (xs : List Clause) → a.form ≡ f.Case x xs → ((x : Expr) (xs : List Clause) → b.form ≡ f.Case x xs → ⊥) → IsTrue false ↔ (compared places (tree a) ≡ compared places (tree b))
  other_case a b x xs is other = refuted (λ h. by (tree b) refl (sym h ∙ ap (compared places) (case_tree a x xs is)))
    where
      by : (t : m.Tree) → tree b ≡ t → compared places t ≡ m.case (compared_mark places a.mark) (compared places (tree x)) (compared_clauses places (all_clauses xs)) → ⊥
      by (m.case k y ys) js w = let o = opened b (m.case k y ys) js in other o.0 o.1 o.2
      by t js w = cc

  pub other_letrec : (a b : Expr) (xs : List (FunDefOf Expr)) (x : Expr) → a.form ≡ f.Letrec xs x → ((xs : List (FunDefOf Expr)) (x : Expr) → b.form ≡ f.Letrec xs x → ⊥)
      → IsTrue false ↔ (compared places (tree a) ≡ compared places (tree b))
  other_letrec a b xs x is other = refuted (λ h. by (tree b) refl (sym h ∙ ap (compared places) (letrec_tree a xs x is)))
    where
      by : (t : m.Tree) → tree b ≡ t → compared places t ≡ m.letrec (compared_mark places a.mark) (compared_defs places (all_defs xs)) (compared places (tree x)) → ⊥
      by (m.letrec k ys y) js w = let o = opened b (m.letrec k ys y) js in other o.0 o.1 o.2
      by t js w = cc

  pub other_apply : (a b : Expr) (x : Expr) (xs : List Expr) → a.form ≡ f.Apply x xs → ((x : Expr) (xs : List Expr) → b.form ≡ f.Apply x xs → ⊥) → IsTrue false ↔ (compared places (tree a) ≡ compared places (tree b))
  other_apply a b x xs is other = refuted (λ h. by (tree b) refl (sym h ∙ ap (compared places) (apply_tree a x xs is)))
    where
      by : (t : m.Tree) → tree b ≡ t → compared places t ≡ m.apply (compared_mark places a.mark) (compared places (tree x)) (compared_all places (all_trees xs)) → ⊥
      by (m.apply k y ys) js w = let o = opened b (m.apply k y ys) js in other o.0 o.1 o.2
      by t js w = cc

  pub other_call : (a b : Expr) (h : Expr) (x : Expr) (xs : List Expr) → a.form ≡ f.Call h x xs → ((h : Expr) (x : Expr) (xs : List Expr) → b.form ≡ f.Call h x xs → ⊥)
      → IsTrue false ↔ (compared places (tree a) ≡ compared places (tree b))
  other_call a b h x xs is other = refuted (λ e. by (tree b) refl (sym e ∙ ap (compared places) (call_tree a h x xs is)))
    where
      by : (t : m.Tree) → tree b ≡ t → compared places t ≡ m.call (compared_mark places a.mark) (compared places (tree h)) (compared places (tree x)) (compared_all places (all_trees xs)) → ⊥
      by (m.call k g y ys) js w = let o = opened b (m.call k g y ys) js in other o.0 o.1 o.2 o.3
      by t js w = cc

  pub other_primop : (a b : Expr) (x : Atom) (xs : List Expr) → a.form ≡ f.Primop x xs → ((x : Atom) (xs : List Expr) → b.form ≡ f.Primop x xs → ⊥) → IsTrue false ↔ (compared places (tree a) ≡ compared places (tree b))
  other_primop a b x xs is other = refuted (λ h. by (tree b) refl (sym h ∙ ap (compared places) (primop_tree a x xs is)))
    where
      by : (t : m.Tree) → tree b ≡ t → compared places t ≡ m.primop (compared_mark places a.mark) (x) (compared_all places (all_trees xs)) → ⊥
      by (m.primop k y ys) js w = let o = opened b (m.primop k y ys) js in other y o.0 o.1
      by t js w = cc

  pub other_receive : (a b : Expr) (xs : List Clause) (t : Expr) (x : Expr) → a.form ≡ f.Receive xs t x → ((xs : List Clause) (t : Expr) (x : Expr) → b.form ≡ f.Receive xs t x → ⊥)
      → IsTrue false ↔ (compared places (tree a) ≡ compared places (tree b))
  other_receive a b xs t x is other = refuted (λ h. by (tree b) refl (sym h ∙ ap (compared places) (receive_tree a xs t x is)))
    where
      by : (z : m.Tree) → tree b ≡ z → compared places z ≡ m.receive (compared_mark places a.mark) (compared_clauses places (all_clauses xs)) (compared places (tree t)) (compared places (tree x)) → ⊥
      by (m.receive k ys u y) js w = let o = opened b (m.receive k ys u y) js in other o.0 o.1 o.2 o.3
      by t js w = cc

  pub other_catch : (a b : Expr) (x : Expr) → a.form ≡ f.Catch x → ((x : Expr) → b.form ≡ f.Catch x → ⊥) → IsTrue false ↔ (compared places (tree a) ≡ compared places (tree b))
  other_catch a b x is other = refuted (λ h. by (tree b) refl (sym h ∙ ap (compared places) (catch_tree a x is)))
    where
      by : (t : m.Tree) → tree b ≡ t → compared places t ≡ m.catch (compared_mark places a.mark) (compared places (tree x)) → ⊥
      by (m.catch k y) js w = let o = opened b (m.catch k y) js in other o.0 o.1
      by t js w = cc

  pub other_try : (a b : Expr) (x : TryOf Expr) → a.form ≡ f.Try x → ((x : TryOf Expr) → b.form ≡ f.Try x → ⊥) → IsTrue false ↔ (compared places (tree a) ≡ compared places (tree b))
  other_try a b x is other = refuted (λ h. by (tree b) refl (sym h ∙ ap (compared places) (try_tree a x is)))
    where
      by : (t : m.Tree) → tree b ≡ t → compared places t ≡ m.try (compared_mark places a.mark) (compared places (tree x.arg)) (map (compared_variable places) x.vars) (compared places (tree x.body))
          (map (compared_variable places) x.catch_vars) (compared places (tree x.handler)) → ⊥
      by (m.try k t vs u us z) js w = let o = opened b (m.try k t vs u us z) js in other o.0 o.1
      by t js w = cc

  pub other_binds : (a b : Pattern) (x : Atom) → a.form ≡ p.Var x → ((x : Atom) → b.form ≡ p.Var x → ⊥) → IsTrue false ↔ (compared_pattern places (pattern_tree a) ≡ compared_pattern places (pattern_tree b))
  other_binds a b x is other = refuted (λ h. by (pattern_tree b) refl (sym h ∙ ap (compared_pattern places) (binds_pattern a x is)))
    where
      by : (t : m.Pattern) → pattern_tree b ≡ t → compared_pattern places t ≡ m.binds (compared_mark places a.mark) (x) → ⊥
      by (m.binds k y) js w = let o = opened_pattern b (m.binds k y) js in other y o.0
      by t js w = cc

  pub other_equals : (a b : Pattern) (x : Literal) → a.form ≡ p.Lit x → ((x : Literal) → b.form ≡ p.Lit x → ⊥) → IsTrue false ↔ (compared_pattern places (pattern_tree a) ≡ compared_pattern places (pattern_tree b))
  other_equals a b x is other = refuted (λ h. by (pattern_tree b) refl (sym h ∙ ap (compared_pattern places) (equals_pattern a x is)))
    where
      by : (t : m.Pattern) → pattern_tree b ≡ t → compared_pattern places t ≡ m.equals (compared_mark places a.mark) (x) → ⊥
      by (m.equals k y) js w = let o = opened_pattern b (m.equals k y) js in other y o.0
      by t js w = cc

  pub other_list_of : (a b : Pattern) (xs : List Pattern) (x : Pattern) → a.form ≡ p.Listed xs x → ((xs : List Pattern) (x : Pattern) → b.form ≡ p.Listed xs x → ⊥)
      → IsTrue false ↔ (compared_pattern places (pattern_tree a) ≡ compared_pattern places (pattern_tree b))
  other_list_of a b xs x is other = refuted (λ h. by (pattern_tree b) refl (sym h ∙ ap (compared_pattern places) (list_of_pattern a xs x is)))
    where
      by : (t : m.Pattern) → pattern_tree b ≡ t → compared_pattern places t ≡ m.list_of (compared_mark places a.mark) (compared_patterns places (all_patterns xs)) (compared_pattern places (pattern_tree x)) → ⊥
      by (m.list_of k ys y) js w = let o = opened_pattern b (m.list_of k ys y) js in other o.0 o.1 o.2
      by t js w = cc

  pub other_tuple_of : (a b : Pattern) (xs : List Pattern) → a.form ≡ p.Tuple xs → ((xs : List Pattern) → b.form ≡ p.Tuple xs → ⊥)
      → IsTrue false ↔ (compared_pattern places (pattern_tree a) ≡ compared_pattern places (pattern_tree b))
  other_tuple_of a b xs is other = refuted (λ h. by (pattern_tree b) refl (sym h ∙ ap (compared_pattern places) (tuple_of_pattern a xs is)))
    where
      by : (t : m.Pattern) → pattern_tree b ≡ t → compared_pattern places t ≡ m.tuple_of (compared_mark places a.mark) (compared_patterns places (all_patterns xs)) → ⊥
      by (m.tuple_of k ys) js w = let o = opened_pattern b (m.tuple_of k ys) js in other o.0 o.1
      by t js w = cc

  pub other_map_of : (a b : Pattern) (xs : List PatPair) → a.form ≡ p.Map xs → ((xs : List PatPair) → b.form ≡ p.Map xs → ⊥)
      → IsTrue false ↔ (compared_pattern places (pattern_tree a) ≡ compared_pattern places (pattern_tree b))
  other_map_of a b xs is other = refuted (λ h. by (pattern_tree b) refl (sym h ∙ ap (compared_pattern places) (map_of_pattern a xs is)))
    where
      by : (t : m.Pattern) → pattern_tree b ≡ t → compared_pattern places t ≡ m.map_of (compared_mark places a.mark) (compared_pat_pairs places (all_pat_pairs xs)) → ⊥
      by (m.map_of k ys) js w = let o = opened_pattern b (m.map_of k ys) js in other o.0 o.1
      by t js w = cc

  pub other_binary_of : (a b : Pattern) (xs : List PatSegment) → a.form ≡ p.Binary xs → ((xs : List PatSegment) → b.form ≡ p.Binary xs → ⊥)
      → IsTrue false ↔ (compared_pattern places (pattern_tree a) ≡ compared_pattern places (pattern_tree b))
  other_binary_of a b xs is other = refuted (λ h. by (pattern_tree b) refl (sym h ∙ ap (compared_pattern places) (binary_of_pattern a xs is)))
    where
      by : (t : m.Pattern) → pattern_tree b ≡ t → compared_pattern places t ≡ m.binary_of (compared_mark places a.mark) (compared_pat_segments places (all_pat_segments xs)) → ⊥
      by (m.binary_of k ys) js w = let o = opened_pattern b (m.binary_of k ys) js in other o.0 o.1
      by t js w = cc

  pub other_alias : (a b : Pattern) (v : VarName) (x : Pattern) → a.form ≡ p.Alias v x → ((v : VarName) (x : Pattern) → b.form ≡ p.Alias v x → ⊥)
      → IsTrue false ↔ (compared_pattern places (pattern_tree a) ≡ compared_pattern places (pattern_tree b))
  other_alias a b v x is other = refuted (λ h. by (pattern_tree b) refl (sym h ∙ ap (compared_pattern places) (alias_pattern a v x is)))
    where
      by : (t : m.Pattern) → pattern_tree b ≡ t → compared_pattern places t ≡ m.alias (compared_mark places a.mark) (compared_variable places v) (compared_pattern places (pattern_tree x)) → ⊥
      by (m.alias k w2 y) js w = let o = opened_pattern b (m.alias k w2 y) js in other w2 o.0 o.1
      by t js w = cc

  pub other_map : (a b : Expr) (xs : List MapPair) (x : Option Expr) → a.form ≡ f.Map xs x → ((xs : List MapPair) (x : Option Expr) → b.form ≡ f.Map xs x → ⊥)
      → IsTrue false ↔ (compared places (tree a) ≡ compared places (tree b))
  other_map a b xs None is other = refuted (λ h. by (tree b) refl (sym h ∙ ap (compared places) (new_map_tree a xs is)))
    where
      by : (t : m.Tree) → tree b ≡ t → compared places t ≡ m.new_map (compared_mark places a.mark) (compared_pairs places (all_pairs xs)) → ⊥
      by (m.new_map k ys) js w = let o = opened b (m.new_map k ys) js in other o.0 None o.1
      by t js w = cc
  other_map a b xs (Some x) is other = refuted (λ h. by (tree b) refl (sym h ∙ ap (compared places) (updated_map_tree a xs x is)))
    where
      by : (t : m.Tree) → tree b ≡ t → compared places t ≡ m.updated_map (compared_mark places a.mark) (compared_pairs places (all_pairs xs)) (compared places (tree x)) → ⊥
      by (m.updated_map k ys y) js w = let o = opened b (m.updated_map k ys y) js in other o.0 (Some o.1) o.2
      by t js w = cc

  pub none_left : (e d : Expr) → IsControl (tree e) → ((xs : List (StepOf Expr)) (x : Expr) → e.form ≡ f.Chain xs x → ⊥) → ((x : Expr) (xs : List Clause) → e.form ≡ f.Case x xs → ⊥)
      → ((xs : List (FunDefOf Expr)) (x : Expr) → e.form ≡ f.Letrec xs x → ⊥) → ((h x : Expr) (xs : List Expr) → e.form ≡ f.Call h x xs → ⊥) → ((x : TryOf Expr) → e.form ≡ f.Try x → ⊥)
      → ((xs : List Clause) (t x : Expr) → e.form ≡ f.Receive xs t x → ⊥) → IsTrue false ↔ (compared places (tree e) ≡ compared places (tree d))
  none_left e d control no_chain no_case no_letrec no_call no_try no_receive = absurd (by (tree e) refl control)
    where
      by : (t : m.Tree) → tree e ≡ t → IsControl t → ⊥
      by (m.chain k ss t) is h = let o = opened e (m.chain k ss t) is in no_chain o.0 o.1 o.2
      by (m.case k t cs) is h = let o = opened e (m.case k t cs) is in no_case o.0 o.1 o.2
      by (m.letrec k ds t) is h = let o = opened e (m.letrec k ds t) is in no_letrec o.0 o.1 o.2
      by (m.call k t u ts) is h = let o = opened e (m.call k t u ts) is in no_call o.0 o.1 o.2 o.3
      by (m.try k t xs u ys w) is h = let o = opened e (m.try k t xs u ys w) is in no_try o.0 o.1
      by (m.receive k cs t u) is h = let o = opened e (m.receive k cs t u) is in no_receive o.0 o.1 o.2 o.3
      by t is h = h

  compared_mark_of : (t : m.Tree) → mark_of (compared places t) ≡ compared_mark places (mark_of t)
  unfolding mark_of
  compared_mark_of (m.variable k x) = refl
  compared_mark_of t = refl

  mark_is : (e : Expr) → mark_of (compared places (tree e)) ≡ compared_mark places e.mark
  mark_is e = compared_mark_of (tree e) ∙ ap (λ t. compared_mark places (mark_of t)) (tree-is e ∙ ap (λ g. g e.mark) (form_tree-out e.form)) ∙ ap (compared_mark places) (layer_mark e.mark _)

  pub other_mark : (a b : Expr) (r : Bool) → (IsTrue r ↔ (compared_mark places a.mark ≡ compared_mark places b.mark)) → r ≡ false → IsTrue false ↔ (compared places (tree a) ≡ compared places (tree b))
  other_mark a b r tells not = refuted (λ h. fails r not tells (sym (mark_is a) ∙ ap mark_of h ∙ mark_is b))

  compared_pattern_mark_of : (t : m.Pattern) → pattern_mark_of (compared_pattern places t) ≡ compared_mark places (pattern_mark_of t)
  unfolding pattern_mark_of
  compared_pattern_mark_of (m.binds k x) = refl
  compared_pattern_mark_of t = refl

  pattern_mark_is : (e : Pattern) → pattern_mark_of (compared_pattern places (pattern_tree e)) ≡ compared_mark places e.mark
  pattern_mark_is e = compared_pattern_mark_of (pattern_tree e) ∙ ap (λ t. compared_mark places (pattern_mark_of t)) (pattern_tree-is e ∙ ap (λ g. g e.mark) (pat_form_tree-out e.form))
      ∙ ap (compared_mark places) (pattern_layer_mark e.mark _)

  pub other_pattern_mark : (a b : Pattern) (r : Bool) → (IsTrue r ↔ (compared_mark places a.mark ≡ compared_mark places b.mark)) → r ≡ false
      → IsTrue false ↔ (compared_pattern places (pattern_tree a) ≡ compared_pattern places (pattern_tree b))
  other_pattern_mark a b r tells not = refuted (λ h. fails r not tells (sym (pattern_mark_is a) ∙ ap pattern_mark_of h ∙ pattern_mark_is b))

  pub clause_same : (a b : Clause) (r : Bool) → (IsTrue r ↔ ((compared_mark places (out-Clause a).mark ≡ compared_mark places (out-Clause b).mark)
      × (compared_patterns places (all_patterns (out-Clause a).patterns) ≡ compared_patterns places (all_patterns (out-Clause b).patterns)) × (compared places (tree (out-Clause a).guard) ≡ compared places (tree (out-Clause b).guard))
      × (compared places (tree (out-Clause a).body) ≡ compared places (tree (out-Clause b).body)))) → IsTrue r ↔ (compared_clause places (clause_parts a) ≡ compared_clause places (clause_parts b))
  clause_same a b r =
      joined _ _ _ _ r (ap (compared_clause places) (clause-is a)) (ap (compared_clause places) (clause-is b))
      (λ w i. record { mark = w.0 i; patterns = w.1 i; guard = w.2 i; body = w.3 i })
      (λ w. (ap (λ (z : ClauseParts). z.mark) w, ap (λ (z : ClauseParts). z.patterns) w, ap (λ (z : ClauseParts). z.guard) w, ap (λ (z : ClauseParts). z.body) w))

  pub pair_same : (a b : MapPair) (r : Bool) → (IsTrue r ↔ ((a.exact ≡ b.exact) × (compared places (tree a.key) ≡ compared places (tree b.key)) × (compared places (tree a.value) ≡ compared places (tree b.value))))
      → IsTrue r ↔ (compared_pair places (pair_parts a) ≡ compared_pair places (pair_parts b))
  pair_same a b r =
      joined _ _ _ _ r (ap (compared_pair places) (pair-is a)) (ap (compared_pair places) (pair-is b))
      (λ w i. record { exact = w.0 i; key = w.1 i; value = w.2 i })
      (λ w. (ap (λ (z : PairParts). z.exact) w, ap (λ (z : PairParts). z.key) w, ap (λ (z : PairParts). z.value) w))

  pub segment_same : (a b : Segment) (r : Bool) → (IsTrue r ↔ ((compared places (tree (out-Segment a).value) ≡ compared places (tree (out-Segment b).value))
      × (compared_all places (all_trees (out-Segment a).args) ≡ compared_all places (all_trees (out-Segment b).args)))) → IsTrue r ↔ (compared_segment places (segment_parts a) ≡ compared_segment places (segment_parts b))
  segment_same a b r =
      joined _ _ _ _ r (ap (compared_segment places) (segment-is a)) (ap (compared_segment places) (segment-is b))
      (λ w i. record { value = w.0 i; args = w.1 i })
      (λ w. (ap (λ (z : SegmentParts). z.value) w, ap (λ (z : SegmentParts). z.args) w))

  pub pat_pair_same : (a b : PatPair) (r : Bool) → (IsTrue r ↔ ((compared places (tree a.key) ≡ compared places (tree b.key)) × (compared_pattern places (pattern_tree a.value) ≡ compared_pattern places (pattern_tree b.value))))
      → IsTrue r ↔ (compared_pat_pair places (pat_pair_parts a) ≡ compared_pat_pair places (pat_pair_parts b))
  pat_pair_same a b r =
      joined _ _ _ _ r (ap (compared_pat_pair places) (pat_pair-is a)) (ap (compared_pat_pair places) (pat_pair-is b))
      (λ w i. record { key = w.0 i; value = w.1 i })
      (λ w. (ap (λ (z : PatPairParts). z.key) w, ap (λ (z : PatPairParts). z.value) w))

  pub pat_segment_same : (a b : PatSegment) (r : Bool) → (IsTrue r ↔ ((compared_pattern places (pattern_tree (out-PatSegment a).value) ≡ compared_pattern places (pattern_tree (out-PatSegment b).value))
      × (compared_all places (all_trees (out-PatSegment a).args) ≡ compared_all places (all_trees (out-PatSegment b).args))))
      → IsTrue r ↔ (compared_pat_segment places (pat_segment_parts a) ≡ compared_pat_segment places (pat_segment_parts b))
  pat_segment_same a b r =
      joined _ _ _ _ r (ap (compared_pat_segment places) (pat_segment-is a)) (ap (compared_pat_segment places) (pat_segment-is b))
      (λ w i. record { value = w.0 i; args = w.1 i })
      (λ w. (ap (λ (z : PatSegmentParts). z.value) w, ap (λ (z : PatSegmentParts). z.args) w))

  pub def_same : (a b : FunDefOf Expr) (r : Bool) → (IsTrue r ↔ ((a.name ≡ b.name) × (compared_mark places a.mark ≡ compared_mark places b.mark)
      × (map (compared_variable places) a.fun.params ≡ map (compared_variable places) b.fun.params) × (compared places (tree a.fun.body) ≡ compared places (tree b.fun.body))))
      → IsTrue r ↔ (compared_def places (def_tree a) ≡ compared_def places (def_tree b))
  def_same a b r =
      joined _ _ _ _ r refl refl
      (λ w i. record { name = w.0 i; mark = w.1 i; fun = record { params = w.2 i; body = w.3 i } })
      (λ w. (ap (λ (z : FunDefOf m.Tree). z.name) w, ap (λ (z : FunDefOf m.Tree). z.mark) w, ap (λ (z : FunDefOf m.Tree). z.fun.params) w, ap (λ (z : FunDefOf m.Tree). z.fun.body) w))

  pub let_same : (a b : StepOf Expr) (k l : Mark) (xs ys : List VarName) (x y : Expr) (r : Bool) → a ≡ Let k xs x → b ≡ Let l ys y
      → (IsTrue r ↔ ((compared_mark places k ≡ compared_mark places l) × (map (compared_variable places) xs ≡ map (compared_variable places) ys) × (compared places (tree x) ≡ compared places (tree y))))
      → IsTrue r ↔ (compared_step places (step_tree a) ≡ compared_step places (step_tree b))
  let_same a b k l xs ys x y r is js =
      joined _ _ (Let (compared_mark places k) (map (compared_variable places) xs) (compared places (tree x))) (Let (compared_mark places l) (map (compared_variable places) ys) (compared places (tree y))) r
      (ap (λ z. compared_step places (step_tree z)) is) (ap (λ z. compared_step places (step_tree z)) js)
      (λ w i. Let (w.0 i) (w.1 i) (w.2 i))
      (λ w. let e0 : compared_mark places k ≡ compared_mark places l = cc in let e1 : map (compared_variable places) xs ≡ map (compared_variable places) ys = cc in let e2 : compared places (tree x)
      ≡ compared places (tree y) = cc in (e0, e1, e2))

  pub do_same : (a b : StepOf Expr) (k l : Mark) (x y : Expr) (r : Bool) → a ≡ Do k x → b ≡ Do l y → (IsTrue r ↔ ((compared_mark places k ≡ compared_mark places l) × (compared places (tree x) ≡ compared places (tree y))))
      → IsTrue r ↔ (compared_step places (step_tree a) ≡ compared_step places (step_tree b))
  do_same a b k l x y r is js =
      joined _ _ (Do (compared_mark places k) (compared places (tree x))) (Do (compared_mark places l) (compared places (tree y))) r (ap (λ z. compared_step places (step_tree z)) is) (ap (λ z. compared_step places (step_tree z)) js)
      (λ w i. Do (w.0 i) (w.1 i))
      (λ w. let e0 : compared_mark places k ≡ compared_mark places l = cc in let e1 : compared places (tree x) ≡ compared places (tree y) = cc in (e0, e1))

  pub let_and_do : (a b : StepOf Expr) (k l : Mark) (xs : List VarName) (x y : Expr) → a ≡ Let k xs x → b ≡ Do l y → IsTrue false ↔ (compared_step places (step_tree a) ≡ compared_step places (step_tree b))
  let_and_do a b k l xs x y is js = refuted (λ h. let e : Let (compared_mark places k) (map (compared_variable places) xs) (compared places (tree x))
      ≡ Do (compared_mark places l) (compared places (tree y)) = sym (ap (λ z. compared_step places (step_tree z)) is) ∙ h ∙ ap (λ z. compared_step places (step_tree z)) js in cc)

  pub do_and_let : (a b : StepOf Expr) (k l : Mark) (ys : List VarName) (x y : Expr) → a ≡ Do k x → b ≡ Let l ys y → IsTrue false ↔ (compared_step places (step_tree a) ≡ compared_step places (step_tree b))
  do_and_let a b k l ys x y is js = refuted (λ h. let e : Do (compared_mark places k) (compared places (tree x))
      ≡ Let (compared_mark places l) (map (compared_variable places) ys) (compared places (tree y)) = sym (ap (λ z. compared_step places (step_tree z)) is) ∙ h ∙ ap (λ z. compared_step places (step_tree z)) js in cc)

  pub updated_some : (a b : Option Expr) (x y : Expr) (r : Bool) → a ≡ Some x → b ≡ Some y → (IsTrue r ↔ (compared places (tree x) ≡ compared places (tree y))) → IsTrue r ↔ SameUpdated places a b
  updated_some (Some u) (Some v) x y r is js tells = let e : x ≡ u = cc in let g : y ≡ v = cc in along (λ z. compared places (tree z)) u v x y r e g tells
  updated_some None b x y r is js tells = absurd cc
  updated_some (Some u) None x y r is js tells = absurd cc

  pub updated_none : (a b : Option Expr) → a ≡ None → b ≡ None → IsTrue true ↔ SameUpdated places a b
  updated_none None None is js = granted tt
  updated_none (Some u) b is js = absurd cc
  updated_none None (Some v) is js = absurd cc

  pub some_and_none : (a b : Option Expr) (x : Expr) → a ≡ Some x → b ≡ None → IsTrue false ↔ SameUpdated places a b
  some_and_none (Some u) None x is js = refuted (λ h. h)
  some_and_none None b x is js = absurd cc
  some_and_none (Some u) (Some v) x is js = absurd cc

  pub none_and_some : (a b : Option Expr) (y : Expr) → a ≡ None → b ≡ Some y → IsTrue false ↔ SameUpdated places a b
  none_and_some None (Some v) y is js = refuted (λ h. h)
  none_and_some (Some u) b y is js = absurd cc
  none_and_some None None y is js = absurd cc

-- ---- modules

pub module_same : (a b : m.Module) (r : Bool) → (IsTrue r ↔ ((a.name ≡ b.name) × (a.note ≡ b.note) × (a.exports ≡ b.exports) × (compared_defs false a.defs ≡ compared_defs false b.defs))) → IsTrue r ↔ Same a b
module_same a b r =
    joined _ _ _ _ r refl refl
    (λ w i. record { name = w.0 i; exports = w.2 i; export_places = []; defs = w.3 i; note = w.1 i })
    (λ w. (ap (λ (z : m.Module). z.name) w, ap (λ (z : m.Module). z.note) w, ap (λ (z : m.Module). z.exports) w, ap (λ (z : m.Module). z.defs) w))
