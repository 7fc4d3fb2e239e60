-- The analysis from the empty table: what stands in the end is the one solution.
use Rattle.std.proofs.Common.{◌≡◌, ℕ, zero, suc, ◌<◌, ◌≤◌, Bool, true, false, cond, ◌||◌, List, [], ◌∷◌, Contains, inl, inr, Some, None, refl, sym, ap, ◌∙◌, subst, arith}
use Rattle.std.proofs.lemmas.Bool.{cases_lt, or_left, or_cases, false_from_ne_true}
use Rattle.type_kinds.specs.declared.atom.Atom.{Atom}
use Rattle.core_ast.specs.declared.syntax.FunName.{FunName}
use Rattle.call_graph.specs.Outside.{Called}
use Rattle.cons_tree.specs.declared.parts.Callee.TheVariants.{Unknown}
use Rattle.table_keep.specs.Model.{Source, source_of, is_there, is_in, picked}
use Rattle.table_keep.specs.Calls.{called_functions, called_modules}
use Rattle.table_keep.specs.Groups.{Groups, IsGroups, has, group_of}
use Rattle.table_keep.specs.Kept.{Solves, Standing, Results, AreResults, callee_among, is_candidate, calls_of, calls_by, stands, is_kept, kept, is_new, finally}
use Rattle.sound_laws_kept.specs.Solving.{AreSources}
use Rattle.sound_laws_kept.proofs.Solving.{Carries, GivesOne, AgreeOutside}
use Rattle.sound_laws_kept.proofs.Names.{clash, itself, none_some, called_has, picked_source, picked_from, picked_there, are_picked}
use Rattle.sound_laws_kept.proofs.Graphs as graphs
use Rattle.sound_laws_kept.proofs.Graphs.{in_own_group, member_number}
use Rattle.sound_laws_kept.proofs.Folds as folds

-- What stands, and what is known of each module, is a solution: outside nothing is known, and each group of sources is known as it is
-- solved over all that stands.
pub record IsSolution (solves : Solves) (U : List Source) (u : Groups) (K : Standing) (R : Results) : Type 0 where
  pub outside : (h : Atom) (f : FunName) → is_in U h ≡ false → K h f ≡ Unknown
  pub inside : (h : Atom) (f : FunName) → is_in U h ≡ true → K h f ≡ callee_among (R h).exports f
  pub solved : (h : Atom) → is_in U h ≡ true → solves (picked (has (group_of u h)) U) K R

-- ---- without a table the candidates are what is passed

or_false : (b : Bool) → (b || false) ≡ b
or_false true = refl
or_false false = refl

pub candidate_in : (U : List Source) (h : Atom) → is_candidate [] U h ≡ is_in U h
candidate_in U h = or_false (is_in U h)

pub node_of : (U : List Source) (h : Atom) → is_in U h ≡ true → is_candidate [] U h ≡ true
node_of U h e = candidate_in U h ∙ e

pub calls_named : (U : List Source) (h : Atom) (s : Source) → source_of U h ≡ Some s → calls_of [] U h ≡ called_modules s.tree
calls_named U h s e = ap (λ o. calls_by o None) e

pub is_in_of : (U : List Source) (h : Atom) (s : Source) → source_of U h ≡ Some s → is_in U h ≡ true
is_in_of U h s e = ap is_there e

-- a source calls the module of each function that it calls
pub calls_home : (U : List Source) (h : Atom) (s : Source) (c : Called) → source_of U h ≡ Some s → Contains (called_functions s.tree) c → has (calls_of [] U h) c.0 ≡ true
calls_home U h s c there call = subst (λ names. has names c.0 ≡ true) (sym (calls_named U h s there)) (called_has s.tree c call)

-- one of those that are picked
pub record Picked (p : Atom → Bool) (U : List Source) (h : Atom) (s : Source) : Type 0 where
  pub by_name : p h ≡ true
  pub there : source_of U h ≡ Some s

pub picked_is : (p : Atom → Bool) (U : List Source) (h : Atom) (s : Source) → source_of (picked p U) h ≡ Some s → Picked p U h s
picked_is p U h s e =
    let at = picked_from p U h (is_in_of (picked p U) h s e) in
    record { by_name = at.0; there = sym (picked_there p U h at.0) ∙ e }

-- nothing is kept of the empty table
pub none_kept : (R : Results) (U : List Source) (u : Groups) (is : IsGroups (is_candidate [] U) (calls_of [] U) u) (h : Atom) → kept R [] U u h ≡ false
none_kept R U u is h = false_from_ne_true (kept R [] U u h) (λ e. lacks e (folds.kept_candidate R [] U u h e))
  where
    lacks : kept R [] U u h ≡ true → is_candidate [] U h ≡ true → ⊥
    lacks e node =
        let facts = folds.kept_facts R [] U u (u.number h) h (sym (folds.kept_is R [] U u h node) ∙ e) (in_own_group (is_candidate [] U) (calls_of [] U) u is h node) in
        none_some facts.there

module _ (solves : Solves) (carries : Carries solves) (gives_one : GivesOne solves) (U : List Source) (are : AreSources U) where
  -- ---- the analysis gives a solution, and a solution is an analysis

  module _ (u : Groups) (R : Results) (is : IsGroups (is_candidate [] U) (calls_of [] U) u) where
    abbrev F : ℕ → Standing
    F = stands R [] U u

    group_not_kept : (h : Atom) → is_in U h ≡ true → is_kept R [] U u (u.number h) ≡ false
    group_not_kept h in_it = sym (folds.kept_is R [] U u h (node_of U h in_it)) ∙ none_kept R U u is h

    final_outside : (h : Atom) (f : FunName) → is_in U h ≡ false → finally R [] U u h f ≡ Unknown
    final_outside h f none = folds.final_outside R [] U u is h f (candidate_in U h ∙ none)

    final_inside : (h : Atom) (f : FunName) → is_in U h ≡ true → finally R [] U u h f ≡ callee_among (R h).exports f
    final_inside h f in_it =
        folds.final_solved R [] U u is h f (node_of U h in_it) (group_not_kept h in_it)
        ∙ ap (λ c. cond c (callee_among (R h).exports f) Unknown) in_it

    stays : (h x : Atom) (f : FunName) → is_in (picked (has (group_of u h)) U) x ≡ false → F (suc (u.number h)) x f ≡ F (u.number h) x f
    stays h x f out = by (has (group_of u h) x) refl
      where
        by : (b : Bool) → has (group_of u h) x ≡ b → F (suc (u.number h)) x f ≡ F (u.number h) x f
        by true e =
            clash (is_in U x)
            (sym (candidate_in U x) ∙ graphs.member_is_node (is_candidate [] U) (calls_of [] U) u is (u.number h) x e)
            (sym (ap is_there (picked_there (has (group_of u h)) U x e)) ∙ out)
        by false e = folds.stay R [] U u (u.number h) x f e

    -- what a group calls outside of itself stands in the end as when it is decided
    settles : (h : Atom) → AgreeOutside (picked (has (group_of u h)) U) (F (u.number h)) (finally R [] U u)
    settles h y s c there call out =
        let at = picked_is (has (group_of u h)) U y s there in
        let node = node_of U y (is_in_of U y s at.there) in
        let number : u.number y ≡ u.number h = member_number (is_candidate [] U) (calls_of [] U) u is (u.number h) y at.by_name in
        let calls = calls_home U y s c at.there call in
        sym (folds.calls_settled R [] U u is y c.0 c.1 node calls ∙ ap (λ n. F (suc n) c.0 c.1) number ∙ stays h c.0 c.1 out)

    pub scratch_solution : AreResults solves [] U u R → IsSolution solves U u (finally R [] U u) R
    scratch_solution results = record {
      outside = final_outside;
      inside = final_inside;
      solved = λ h in_it.
          carries.over (picked (has (group_of u h)) U) (picked (has (group_of u h)) U) (F (u.number h)) (finally R [] U u) R R
          (are_picked (has (group_of u h)) U are) (are_picked (has (group_of u h)) U are) (λ x. refl) (settles h) (λ x e. refl)
          (results.solved (u.number h) (is.low h (node_of U h in_it)) (group_not_kept h in_it));
    }

    -- where nothing is solved of nothing
    pub solution_results : ((K : Standing) → solves [] K R) → (K : Standing) → IsSolution solves U u K R → AreResults solves [] U u R
    solution_results nothing K a = record {
      of_entry = λ h e k there. none_some there;
      solved = λ n low not_kept. by n (u.members n) refl;
    }
      where
        same : (h : Atom) (f : FunName) → K h f ≡ finally R [] U u h f
        same h f = so (is_in U h) refl
          where
            so : (b : Bool) → is_in U h ≡ b → K h f ≡ finally R [] U u h f
            so true e = a.inside h f e ∙ sym (final_inside h f e)
            so false e = a.outside h f e ∙ sym (final_outside h f e)

        none_picked : (xs : List Source) → picked (has []) xs ≡ []
        none_picked [] = refl
        none_picked (s ∷ ss) = none_picked ss

        at : (h : Atom) → is_in U h ≡ true → solves (picked (has (group_of u h)) U) (F (u.number h)) R
        at h in_it =
            carries.over (picked (has (group_of u h)) U) (picked (has (group_of u h)) U) K (F (u.number h)) R R
            (are_picked (has (group_of u h)) U are) (are_picked (has (group_of u h)) U are) (λ x. refl)
            (λ y s c there call out. same c.0 c.1 ∙ sym (settles h y s c there call out)) (λ x e. refl) (a.solved h in_it)

        by : (n : ℕ) (group : List Atom) → u.members n ≡ group → solves (picked (has (u.members n)) U) (F n) R
        by n [] e = subst (λ xs. solves xs (F n) R) (sym (ap (λ group. picked (has group) U) e ∙ none_picked U)) (nothing (F n))
        by n (x ∷ xs) e =
            let member : has (u.members n) x ≡ true = ap (λ group. has group x) e ∙ ap (λ b. b || has xs x) (itself x) in
            let node = graphs.member_is_node (is_candidate [] U) (calls_of [] U) u is n x member in
            subst (λ m. solves (picked (has (u.members m)) U) (F m) R) (member_number (is_candidate [] U) (calls_of [] U) u is n x member) (at x (sym (candidate_in U x) ∙ node))

  -- ---- there is one solution: group by group

  module _ (u : Groups) (is : IsGroups (is_candidate [] U) (calls_of [] U) u) (v : Groups) (other : IsGroups (is_candidate [] U) (calls_of [] U) v)
      (K L : Standing) (R S : Results) (a : IsSolution solves U u K R) (b : IsSolution solves U v L S) where
    same_groups : (h : Atom) → is_in U h ≡ true → (x : Atom) → has (group_of u h) x ≡ has (group_of v h) x
    same_groups h in_it =
        graphs.one_group (is_candidate [] U) (calls_of [] U) u is (is_candidate [] U) (calls_of [] U) v other h (node_of U h in_it) (node_of U h in_it)
        (λ x node together. (node, together)) (λ x node together. (node, together))

    less_of : (m j : ℕ) → (m ≡ j → ⊥) → m ≤ j → m < j
    less_of m j apart low = elim (cases_lt m j) [
      | inl less ↦ less
      | inr high ↦ (let e : m ≡ j = omega (arith, low, high) in absurd (apart e))
    ]

    -- what a group calls outside of itself stands in a group before it
    agree : (n : ℕ) (h : Atom) → u.number h ≤ n → ((x : Atom) → is_in U x ≡ true → u.number x < n → R x ≡ S x) → AgreeOutside (picked (has (group_of u h)) U) K L
    agree n h low before y s c there call out = by (is_in U c.0) refl
      where
        by : (t : Bool) → is_in U c.0 ≡ t → K c.0 c.1 ≡ L c.0 c.1
        by false none = a.outside c.0 c.1 none ∙ sym (b.outside c.0 c.1 none)
        by true in_it =
            let at = picked_is (has (group_of u h)) U y s there in
            let below = is.downward y c.0 (node_of U y (is_in_of U y s at.there), node_of U c.0 in_it, calls_home U y s c at.there call) in
            let number : u.number y ≡ u.number h = member_number (is_candidate [] U) (calls_of [] U) u is (u.number h) y at.by_name in
            let apart : (u.number c.0 ≡ u.number h → ⊥) = λ e.
            clash (is_in U c.0) in_it
            (sym (ap is_there (picked_there (has (group_of u h)) U c.0 ((is.members (u.number h) c.0).1 (node_of U c.0 in_it, e)))) ∙ out) in
            let first = less_of (u.number c.0) (u.number h) apart (subst (λ m. u.number c.0 ≤ m) number below) in
            let less : u.number c.0 < n = omega (arith, low, first) in
            a.inside c.0 c.1 in_it ∙ ap (λ r. callee_among r.exports c.1) (before c.0 in_it less) ∙ sym (b.inside c.0 c.1 in_it)

    same_below : (n : ℕ) (h : Atom) → is_in U h ≡ true → u.number h < n → R h ≡ S h
    same_below zero h in_it low = absurd (omega (arith, low))
    same_below (suc n) h in_it low =
        let are_v = are_picked (has (group_of v h)) U are in
        gives_one.one (picked (has (group_of v h)) U) L R S are_v
        (carries.over (picked (has (group_of u h)) U) (picked (has (group_of v h)) U) K L R R (are_picked (has (group_of u h)) U are) are_v
        (λ x. picked_source (has (group_of u h)) U x ∙ ap (λ c. cond c (source_of U x) None) (same_groups h in_it x) ∙ sym (picked_source (has (group_of v h)) U x))
        (agree n h (omega (arith, low)) (same_below n)) (λ x e. refl) (a.solved h in_it))
        (b.solved h in_it) h
        (ap is_there (picked_there (has (group_of v h)) U h (in_own_group (is_candidate [] U) (calls_of [] U) v other h (node_of U h in_it))) ∙ in_it)

    pub same_results : (h : Atom) → is_in U h ≡ true → R h ≡ S h
    same_results h in_it = same_below (suc (u.number h)) h in_it (omega arith)

    pub same_standing : (h : Atom) (f : FunName) → K h f ≡ L h f
    same_standing h f = by (is_in U h) refl
      where
        by : (t : Bool) → is_in U h ≡ t → K h f ≡ L h f
        by true e = a.inside h f e ∙ ap (λ r. callee_among r.exports f) (same_results h e) ∙ sym (b.inside h f e)
        by false e = a.outside h f e ∙ sym (b.outside h f e)

-- ---- the groups of the new table's modules are those of the candidates

module _ (U : List Source) (u : Groups) (R : Results) (is : IsGroups (is_candidate [] U) (calls_of [] U) u) where
  new_in : (h : Atom) → is_new R [] U u h ≡ true → is_in U h ≡ true
  unfolding is_new
  new_in h e = elim (or_cases (is_in U h) (kept R [] U u h) e) [
    | inl a ↦ a
    | inr b ↦ clash (kept R [] U u h) b (none_kept R U u is h)
  ]

  in_new : (h : Atom) → is_in U h ≡ true → is_new R [] U u h ≡ true
  unfolding is_new
  in_new h e = or_left (is_in U h) (kept R [] U u h) e

  pub to_new : (h : Atom) → is_candidate [] U h ≡ true → is_new R [] U u h ≡ true
  to_new h e = in_new h (sym (candidate_in U h) ∙ e)

  pub from_new : (h : Atom) → is_new R [] U u h ≡ true → is_candidate [] U h ≡ true
  from_new h e = node_of U h (new_in h e)

  pub new_groups : (v : Groups) → IsGroups (is_new R [] U u) (calls_of [] U) v → (h : Atom) → is_in U h ≡ true → (x : Atom) → has (group_of u h) x ≡ has (group_of v h) x
  new_groups v new h in_it =
      graphs.one_group (is_candidate [] U) (calls_of [] U) u is (is_new R [] U u) (calls_of [] U) v new h (node_of U h in_it) (in_new h in_it)
      (λ a node together. (to_new a node, graphs.together_over (is_candidate [] U) (calls_of [] U) (is_new R [] U u) (calls_of [] U) to_new (λ x e. refl) h a together))
      (λ a node together. (from_new a node, graphs.together_over (is_new R [] U u) (calls_of [] U) (is_candidate [] U) (calls_of [] U) from_new (λ x e. refl) h a together))
