-- There is one analysis of sources with a table whose entries use functions of modules that their texts call: group after group the same
-- stands, so the same entries are kept.
use Rattle.std.proofs.Common.{◌≡◌, ℕ, zero, suc, ◌<◌, ◌≤◌, Bool, true, false, cond, ◌&&◌, ◌||◌, List, [], ◌∷◌, Contains, inl, inr, Option, Some, None, refl, sym, ap, ap₂, ◌∙◌, arith}
use Rattle.std.specs.Cmp.Lexicographic.{pointwise}
use Rattle.std.proofs.lemmas.Bool.{cases_lt, or_left, or_right}
use Rattle.type_kinds.proofs.Lists.{contains_first, contains_later}
use Rattle.type_kinds.specs.declared.atom.Atom.{Atom}
use Rattle.core_ast.specs.declared.syntax.FunName.{FunName}
use Rattle.core_scope.specs.Names.{same_atom}
use Rattle.call_graph.specs.Outside.{Called}
use Rattle.cons_tree.specs.Codes.{callee_code}
use Rattle.cons_tree.specs.SameBy.{same_by}
use Rattle.cons_tree.specs.declared.parts.Callee.{Callee}
use Rattle.cons_tree.specs.declared.parts.Callee.TheVariants.{Unknown}
use Rattle.table_keep.specs.Model.{Source, Entry, source_of, is_in, is_there, entry_of, picked}
use Rattle.table_keep.specs.Groups.{Groups, IsGroups, has, group_of}
use Rattle.table_keep.specs.Kept.{Solves, Standing, Results, AreResults, callee_among, is_candidate, calls_of, calls_by, is_old, all_stand, entry_stands, all_unchanged, unchanged, handed, stands, is_kept, kept, is_new, finally}
use Rattle.sound_laws_kept.specs.Laws.{OneAnalysisLaw, OneTableLaw, UseCalled}
use Rattle.sound_laws_kept.specs.Solving.{AreSources, IsSolved}
use Rattle.sound_laws_kept.specs.Written.{made_of, new_entry}
use Rattle.sound_laws_kept.proofs.Entries.{made_same}
use Rattle.sound_laws_kept.proofs.Folds as folds
use Rattle.sound_laws_kept.proofs.Graphs as graphs
use Rattle.sound_laws_kept.proofs.Graphs.{in_own_group, member_is_node, member_number}
use Rattle.sound_laws_kept.proofs.Names.{clash, itself, called_has, contained_in, map_there, picked_there, are_picked}
use Rattle.sound_laws_kept.proofs.Scratch.{Picked, picked_is, is_in_of}
use Rattle.sound_laws_kept.proofs.Solving.{AgreeOutside, Carries, GivesOne}

-- ---- whether a group is unchanged rests on what stands of the functions that its entries use

all_stand_same : (K L : Standing) (us : List (Called × Callee)) → ((u : Called × Callee) → Contains us u → K u.0.0 u.0.1 ≡ L u.0.0 u.0.1) → all_stand K us ≡ all_stand L us
all_stand_same K L [] same = refl
all_stand_same K L (u ∷ us) same =
    ap₂ (λ c b. same_by callee_code u.1 c && b) (same u (contains_first u us)) (all_stand_same K L us (λ v e. same v (contains_later u v us e)))

entry_stands_same : (group : List Atom) (K L : Standing) (s : Option Source) (o : Option Entry)
    → ((e : Entry) (u : Called × Callee) → o ≡ Some e → is_old s e ≡ true → Contains e.used u → K u.0.0 u.0.1 ≡ L u.0.0 u.0.1) → entry_stands group K s o ≡ entry_stands group L s o
entry_stands_same group K L s None same = refl
entry_stands_same group K L s (Some e) same = by (is_old s e) refl
  where
    by : (b : Bool) → is_old s e ≡ b → (b && (pointwise same_atom e.group group && all_stand K e.used)) ≡ (b && (pointwise same_atom e.group group && all_stand L e.used))
    by true old = ap (λ a. pointwise same_atom e.group group && a) (all_stand_same K L e.used (λ u there. same e u refl old there))
    by false old = refl

all_unchanged_same : (T : List Entry) (M : List Source) (group : List Atom) (K L : Standing) (hs : List Atom)
    → ((h : Atom) → has hs h ≡ true → entry_stands group K (source_of M h) (entry_of T h) ≡ entry_stands group L (source_of M h) (entry_of T h))
    → all_unchanged T M group K hs ≡ all_unchanged T M group L hs
all_unchanged_same T M group K L [] same = refl
all_unchanged_same T M group K L (h ∷ hs) same =
    ap₂ (λ a b. a && b) (same h (first_has h hs)) (all_unchanged_same T M group K L hs (λ x e. same x (later_has h x hs e)))
  where
    first_has : (h : Atom) (hs : List Atom) → has (h ∷ hs) h ≡ true
    first_has h hs = ap (λ b. b || has hs h) (itself h)

    later_has : (h x : Atom) (hs : List Atom) → has hs x ≡ true → has (h ∷ hs) x ≡ true
    later_has h x hs e = or_right (same_atom x h) (has hs x) e

-- ---- two analyses, group after group

module _ (solves : Solves) (carries : Carries solves) (gives_one : GivesOne solves) (T : List Entry) (M : List Source) (are : AreSources M) (uses : UseCalled T M)
    (g k : Groups) (R Q : Results) (is : IsGroups (is_candidate T M) (calls_of T M) g) (other : IsGroups (is_candidate T M) (calls_of T M) k)
    (a : AreResults solves T M g R) (b : AreResults solves T M k Q) where
  abbrev Node : Atom → Type 0
  Node h = is_candidate T M h ≡ true

  same_group : (h : Atom) → Node h → (x : Atom) → has (group_of g h) x ≡ has (group_of k h) x
  same_group h node =
      graphs.one_group (is_candidate T M) (calls_of T M) g is (is_candidate T M) (calls_of T M) k other h node node
      (λ x there together. (there, together)) (λ x there together. (there, together))

  group_list : (h : Atom) → Node h → group_of g h ≡ group_of k h
  group_list h node = graphs.one_list (is_candidate T M) (calls_of T M) g is (is_candidate T M) (calls_of T M) k other h (same_group h node)

  -- what is known of a name by both
  record IsSame (h : Atom) : Type 0 where
    pub kept_so : is_kept R T M g (g.number h) ≡ is_kept Q T M k (k.number h)
    pub finally_so : (f : FunName) → finally R T M g h f ≡ finally Q T M k h f
    pub results : is_in M h ≡ true → R h ≡ Q h

  module _ (h : Atom) (node : Node h) (before : (x : Atom) → Node x → g.number x < g.number h → IsSame x) where
    abbrev n : ℕ
    n = g.number h

    abbrev m : ℕ
    m = k.number h

    -- of what a member of the group calls the same stands
    call_same : (y x : Atom) (f : FunName) → has (group_of g h) y ≡ true → has (calls_of T M y) x ≡ true → stands R T M g n x f ≡ stands Q T M k m x f
    call_same y x f in_it call = by (is_candidate T M x) refl (has (group_of g h) x) refl
      where
        y_node : Node y
        y_node = member_is_node (is_candidate T M) (calls_of T M) g is n y in_it

        y_number : g.number y ≡ n
        y_number = member_number (is_candidate T M) (calls_of T M) g is n y in_it

        in_other : has (group_of k h) y ≡ true
        in_other = sym (same_group h node y) ∙ in_it

        y_other : k.number y ≡ m
        y_other = member_number (is_candidate T M) (calls_of T M) k other m y in_other

        by : (c : Bool) → is_candidate T M x ≡ c → (d : Bool) → has (group_of g h) x ≡ d → stands R T M g n x f ≡ stands Q T M k m x f
        by false c d e = folds.not_candidate R T M g is x f n c ∙ sym (folds.not_candidate Q T M k other x f m c)
        by true c true e =
            let low : g.number x ≡ n = member_number (is_candidate T M) (calls_of T M) g is n x e in
            let low_other : k.number x ≡ m = member_number (is_candidate T M) (calls_of T M) k other m x (sym (same_group h node x) ∙ e) in
            folds.not_yet R T M g is x f n (omega (arith, low)) ∙ sym (folds.not_yet Q T M k other x f m (omega (arith, low_other)))
        by true c false e =
            let down = is.downward y x (y_node, c, call) in
            let apart : (g.number x ≡ n → ⊥) = λ s. clash (has (group_of g h) x) ((is.members n x).1 (c, s)) e in
            let out : has (g.members (g.number y)) x ≡ false = ap (λ i. has (g.members i) x) y_number ∙ e in
            let out_other : has (k.members (k.number y)) x ≡ false = ap (λ i. has (k.members i) x) y_other ∙ sym (same_group h node x) ∙ e in
            ap (λ i. stands R T M g i x f) (sym y_number) ∙ sym (folds.calls_before R T M g is y x f y_node call out)
            ∙ (before x c (less (g.number x) (g.number y) down y_number apart)).finally_so f
            ∙ folds.calls_before Q T M k other y x f y_node call out_other ∙ ap (λ i. stands Q T M k i x f) y_other
          where
            less : (i j : ℕ) → i ≤ j → j ≡ n → (i ≡ n → ⊥) → i < n
            less i j down last apart = elim (cases_lt i n) [
              | inl low ↦ low
              | inr high ↦ (let s : i ≡ n = omega (arith, high, down, last) in absurd (apart s))
            ]

    kept_same : is_kept R T M g n ≡ is_kept Q T M k m
    unfolding is_kept
    kept_same =
        all_unchanged_same T M (group_of g h) (stands R T M g n) (stands Q T M k m) (group_of g h)
        (λ y in_it. entry_stands_same (group_of g h) (stands R T M g n) (stands Q T M k m) (source_of M y) (entry_of T y)
        (λ e u there old used. call_same y u.0.0 u.0.1 in_it (uses y e u there old used)))
        ∙ ap (λ group. unchanged T M group (stands Q T M k m)) (group_list h node)

    -- the group is solved from the same
    solved_same : is_kept R T M g n ≡ false → is_in M h ≡ true → R h ≡ Q h
    solved_same not_kept in_it =
        gives_one.one (handed M k m) (stands Q T M k m) R Q are_other
        (carries.over (handed M g n) (handed M k m) (stands R T M g n) (stands Q T M k m) R R (are_picked (has (group_of g h)) M are) are_other
        (λ x. ap (λ group. source_of (picked (has group) M) x) (group_list h node)) agree (λ x e. refl) (a.solved n (is.low h node) not_kept))
        (b.solved m (other.low h node) (sym kept_same ∙ not_kept)) h
        (ap is_there (picked_there (has (group_of k h)) M h (in_own_group (is_candidate T M) (calls_of T M) k other h node)) ∙ in_it)
      where
        are_other : AreSources (handed M k m)
        are_other = are_picked (has (group_of k h)) M are

        agree : AgreeOutside (handed M g n) (stands R T M g n) (stands Q T M k m)
        agree y s c there call out =
            let at : Picked (has (group_of g h)) M y s = picked_is (has (group_of g h)) M y s there in
            call_same y c.0 c.1 at.by_name (ap (λ o. has (calls_by o (entry_of T y)) c.0) at.there ∙ called_has s.tree c call)

    results_same : is_in M h ≡ true → R h ≡ Q h
    results_same in_it = by (is_kept R T M g n) refl
      where
        by : (c : Bool) → is_kept R T M g n ≡ c → R h ≡ Q h
        by true e =
            let facts = folds.kept_facts R T M g n h e (in_own_group (is_candidate T M) (calls_of T M) g is h node) in
            a.of_entry h facts.entry (folds.kept_is R T M g h node ∙ e) facts.there
            ∙ sym (b.of_entry h facts.entry (folds.kept_is Q T M k h node ∙ sym kept_same ∙ e) facts.there)
        by false e = solved_same e in_it

    finally_same : (f : FunName) → finally R T M g h f ≡ finally Q T M k h f
    finally_same f = by (is_kept R T M g n) refl
      where
        of_sources : (c : Bool) → is_in M h ≡ c → cond c (callee_among (R h).exports f) Unknown ≡ cond c (callee_among (Q h).exports f) Unknown
        of_sources true in_it = ap (λ r. callee_among r.exports f) (results_same in_it)
        of_sources false none = refl

        by : (c : Bool) → is_kept R T M g n ≡ c → finally R T M g h f ≡ finally Q T M k h f
        by true e = folds.final_kept R T M g is h f node e ∙ sym (folds.final_kept Q T M k other h f node (sym kept_same ∙ e))
        by false e =
            folds.final_solved R T M g is h f node e ∙ of_sources (is_in M h) refl
            ∙ sym (folds.final_solved Q T M k other h f node (sym kept_same ∙ e))

    same_here : IsSame h
    same_here = record { kept_so = kept_same; finally_so = finally_same; results = results_same }

  same_below : (n : ℕ) (h : Atom) → Node h → g.number h < n → IsSame h
  same_below zero h node low = absurd (omega (arith, low))
  same_below (suc n) h node low = same_here h node (λ x there less. same_below n x there (omega (arith, less, low)))

  same_node : (h : Atom) → Node h → IsSame h
  same_node h node = same_below (suc (g.number h)) h node (omega arith)

  pub same_results : (h : Atom) → is_in M h ≡ true → R h ≡ Q h
  same_results h in_it = (same_node h (or_left (is_in M h) (is_there (entry_of T h)) in_it)).results in_it

  same_standing : (h : Atom) (f : FunName) → finally R T M g h f ≡ finally Q T M k h f
  same_standing h f = by (is_candidate T M h) refl
    where
      by : (c : Bool) → is_candidate T M h ≡ c → finally R T M g h f ≡ finally Q T M k h f
      by true e = (same_node h e).finally_so f
      by false e = folds.final_outside R T M g is h f e ∙ sym (folds.final_outside Q T M k other h f e)

  same_kept : (h : Atom) → kept R T M g h ≡ kept Q T M k h
  unfolding kept
  same_kept h = by (is_candidate T M h) refl
    where
      by : (c : Bool) → is_candidate T M h ≡ c → (c && is_kept R T M g (g.number h)) ≡ (c && is_kept Q T M k (k.number h))
      by true e = (same_node h e).kept_so
      by false e = refl

  -- ---- the new table

  module _ (u v : Groups) (new : IsGroups (is_new R T M g) (calls_of T M) u) (also : IsGroups (is_new Q T M k) (calls_of T M) v) where
    same_new : (h : Atom) → is_new R T M g h ≡ is_new Q T M k h
    unfolding is_new
    same_new h = ap (λ b. is_in M h || b) (same_kept h)

    is_new_handed : (h : Atom) → is_in M h ≡ true → is_new R T M g h ≡ true
    unfolding is_new
    is_new_handed h e = or_left (is_in M h) (kept R T M g h) e

    new_list : (h : Atom) → is_in M h ≡ true → group_of u h ≡ group_of v h
    new_list h e =
        graphs.one_list (is_new R T M g) (calls_of T M) u new (is_new Q T M k) (calls_of T M) v also h
        (graphs.one_group (is_new R T M g) (calls_of T M) u new (is_new Q T M k) (calls_of T M) v also h (is_new_handed h e) (sym (same_new h) ∙ is_new_handed h e)
        (λ x there t. (sym (same_new x) ∙ there, graphs.together_over (is_new R T M g) (calls_of T M) (is_new Q T M k) (calls_of T M) (λ y n. sym (same_new y) ∙ n) (λ y n. refl) h x t))
        (λ x there t. (same_new x ∙ there, graphs.together_over (is_new Q T M k) (calls_of T M) (is_new R T M g) (calls_of T M) (λ y n. same_new y ∙ n) (λ y n. refl) h x t)))

    same_made : (h : Atom) (o : Option Source) → source_of M h ≡ o → made_of o (group_of u h) (finally R T M g) (R h) ≡ made_of o (group_of v h) (finally Q T M k) (Q h)
    same_made h None there = refl
    same_made h (Some s) there =
        let in_it = is_in_of M h s there in
        ap Some (made_same s (group_of u h) (group_of v h) (finally R T M g) (finally Q T M k) (R h) (Q h) (new_list h in_it) (λ c e out. same_standing c.0 c.1) (same_results h in_it))

    pub same_entries : (h : Atom) → new_entry R T M g u h ≡ new_entry Q T M k v h
    unfolding new_entry
    same_entries h = ap₂ (λ c e. cond c (entry_of T h) e) (same_kept h) (same_made h (source_of M h) refl)

-- ---- two written analyses of the same sources

pub one_analysis : Carries IsSolved → GivesOne IsSolved → OneTableLaw → OneAnalysisLaw
one_analysis carries gives_one one_table T M reports others new other are uses w v = (
  w.reports_so
      ∙ map_there (λ s. (w.known s.tree.name).lines) (λ s. (v.known s.tree.name).lines) M
      (λ s e. ap (λ r. r.lines) (same_results IsSolved carries gives_one T M are uses w.groups v.groups w.known v.known w.analysis.candidates v.analysis.candidates w.analysis.results v.analysis.results s.tree.name (contained_in M s e)))
      ∙ sym v.reports_so,
  one_table new other w.rising v.rising
      (λ h. w.entries h
      ∙ same_entries IsSolved carries gives_one T M are uses w.groups v.groups w.known v.known w.analysis.candidates v.analysis.candidates w.analysis.results v.analysis.results w.new_groups v.new_groups w.analysis.new v.analysis.new h
      ∙ sym (v.entries h)),
)
