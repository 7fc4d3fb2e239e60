-- A walk over candidates walks all functions for which something changed.
use Rattle.std.proofs.Common.{◌≡◌, ℕ, zero, suc, ◌+◌, ◌-◌, ◌<◌, ◌≤◌, ◌⊎◌, inl, inr, Bool, true, false, ◌||◌, List, [], ◌∷◌}
use Rattle.std.proofs.Common.{◌++◌, length, drop, get_or, set, take, Some, slice_get, slice_index, refl, ap, ◌∙◌, subst, arith}
use Rattle.std.specs.List.{Contains, list_any}
use Rattle.std.specs.List.Sorted.{IsNonDecreasing}
use Rattle.std.proofs.lemmas.List.Elements.{Contains-append_left, Contains-append_right}
use Rattle.std.proofs.Math.ListN.{length-set}
use Rattle.std.proofs.lemmas.Option.{slice_get_within}
use Rattle.std.proofs.lemmas.Bool.{or_cases}
use Rattle.type_kinds.proofs.Lists.{contains_cases, item_at}
use Rattle.module_flow_state.specs.declared.states.Contribution.{Contribution}
use Rattle.module_flow.specs.declared.visits.Visit.{Visit}
use Rattle.module_flow_state.specs.World.{World}
use Rattle.module_flow.specs.steps.Readers.{AreNoted, readers}
use Rattle.module_flow_state.specs.steps.Reading.{labels_given}
use Rattle.module_flow_state.specs.steps.Changes.{AllListed, Rounds, in_round}
use Rattle.module_flow.specs.steps.Visits.{AreCandidates, Definition, contributions_again, contributions_of_one, is_touched, visits_again}
use Rattle.module_flow.proofs.NotedReaders.{of_set}
use Rattle.module_flow.proofs.VisitRounds.{contributions_end, contributions_off, contributions_on, visits_end, visits_off, visits_on}

-- ---- which positions are candidates

any_found : (p : ℕ → Bool) (ls : List ℕ) → list_any p ls ≡ true → (l : ℕ) × Contains ls l × (p l ≡ true)
any_found p [] e = absurd cc
any_found p (l ∷ ls) e = by (p l) refl e (any_found p ls)
  where
    by : (b : Bool) → p l ≡ b → (b || list_any p ls) ≡ true → (list_any p ls ≡ true → (k : ℕ) × Contains ls k × (p k ≡ true)) → (k : ℕ) × Contains (l ∷ ls) k × (p k ≡ true)
    by true q f more = (l, (zero, omega arith, refl), q)
    by false q f more =
        let there = more f in
        let h : there.1.0 < length ls = there.1.1 in
        (there.0, (suc there.1.0, omega arith, there.1.2), there.2)

pub candidates_of : (table : List (List ℕ)) (vs : List Visit) (rounds : Rounds) (entered given positions : List ℕ) (k : ℕ) → AreNoted table vs
    → ((l q : ℕ) → Contains (entered ++ given) l → Contains (readers table l) q → Contains positions q) → IsNonDecreasing positions → AllListed rounds.0 k entered → AllListed rounds.1 k given
    → AreCandidates rounds k vs positions
candidates_of table vs rounds entered given positions k noted all ascending listed_entered listed_given =
    record { ascending = ascending; all = λ q v at touched. by q v at (or_cases (list_any (in_round rounds.0 k) v.own) (list_any (in_round rounds.1 k) v.given) touched) }
  where
    by : (q : ℕ) (v : Visit) → slice_get vs q ≡ Some v → (list_any (in_round rounds.0 k) v.own ≡ true) ⊎ (list_any (in_round rounds.1 k) v.given ≡ true) → Contains positions q
    by q v at (inl e) = let f = any_found (in_round rounds.0 k) v.own e in all f.0 q (Contains-append_left entered given f.0 (listed_entered f.0 f.2)) (noted.own q v at f.0 f.1)
    by q v at (inr e) = let f = any_found (in_round rounds.1 k) v.given e in all f.0 q (Contains-append_right entered given f.0 (listed_given f.0 f.2)) (noted.given q v at f.0 f.1)

-- all positions
pub candidates_first : (vs : List Visit) (rounds : Rounds) (positions : List ℕ) (k : ℕ) → length positions ≡ length vs → ((q : ℕ) → q < length vs → slice_index positions q ≡ q) → AreCandidates rounds k vs positions
candidates_first vs rounds positions k many each = record {
  ascending = λ i j d h less. omega (arith, item i d (omega arith), item j d (omega arith));
  all = λ q v at touched. let within = slice_get_within vs q v at in (q, omega arith, item q q within);
}
  where
    item : (i d : ℕ) → i < length vs → get_or positions i d ≡ i
    item i d h = any_default positions i d (omega arith) ∙ each i h
      where
        any_default : (xs : List ℕ) (n e : ℕ) → n < length xs → get_or xs n e ≡ get_or xs n 0
        any_default [] n e l = absurd (omega arith)
        any_default (x ∷ xs) zero e l = refl
        any_default (x ∷ xs) (suc n) e l = any_default xs n e (omega arith)

-- ---- the walk over them

head_least : (p q : ℕ) (more : List ℕ) → IsNonDecreasing (p ∷ more) → Contains (p ∷ more) q → p ≤ q
head_least p q more ascending (i, h, e) = let least = ascending 0 i q (omega arith) h in omega (arith, least, e)

module _ (W : World) (rounds : Rounds) (k : ℕ) (ds : List Definition) (all_contributions : List Contribution) (all_visits : List Visit) where
  -- The functions before a position are walked, and each from there on for which something changed is among those that are left.
  pub record IsWalked (vs : List Visit) (gs : List Contribution) (from : ℕ) (left : List ℕ) : Type 0 where
    pub many : length vs ≡ length ds
    pub within : from ≤ length ds
    pub ascending : IsNonDecreasing left
    pub all : (q : ℕ) (v : Visit) → from ≤ q → slice_get vs q ≡ Some v → is_touched rounds k v ≡ true → Contains left q
    pub contributions : gs ++ contributions_again W rounds k (drop from ds) (drop from vs) ≡ all_contributions
    pub visits : take from vs ++ visits_again W rounds k (drop from ds) (drop from vs) ≡ all_visits

  -- functions that aren't walked
  skipped : (n : ℕ) (vs : List Visit) (gs : List Contribution) (i j : ℕ) → i + n ≡ j → length vs ≡ length ds → j ≤ length ds
      → ((q : ℕ) (v : Visit) → i ≤ q → q < j → slice_get vs q ≡ Some v → is_touched rounds k v ≡ false)
      → gs ++ contributions_again W rounds k (drop i ds) (drop i vs) ≡ all_contributions → take i vs ++ visits_again W rounds k (drop i ds) (drop i vs) ≡ all_visits
      → (gs ++ contributions_again W rounds k (drop j ds) (drop j vs) ≡ all_contributions) × (take j vs ++ visits_again W rounds k (drop j ds) (drop j vs) ≡ all_visits)
  skipped zero vs gs i j e many h off contributions visits =
      let same : i ≡ j = omega arith in
      subst (λ m. (gs ++ contributions_again W rounds k (drop m ds) (drop m vs) ≡ all_contributions) × (take m vs ++ visits_again W rounds k (drop m ds) (drop m vs) ≡ all_visits)) same (contributions, visits)
  skipped (suc n) vs gs i j e many h off contributions visits =
      let here = item_at ds i (omega arith) in
      let known = item_at vs i (omega arith) in
      let untouched = off i known.0 (omega arith) (omega arith) known.1 in
      skipped n vs gs (i + 1) j (omega arith) many h (λ q v l. off q v (omega arith))
      (contributions_off W rounds k ds vs i here.0 known.0 gs all_contributions here.1 known.1 untouched contributions)
      (visits_off W rounds k ds vs i here.0 known.0 all_visits here.1 known.1 untouched visits)

  no_more : (p : ℕ) (more : List ℕ) → IsNonDecreasing (p ∷ more) → IsNonDecreasing more
  no_more p more ascending = λ i j d h l. ascending (suc i) (suc j) d (omega arith) (omega arith)

  pub walk_begins : (vs : List Visit) (positions : List ℕ) → length vs ≡ length ds → AreCandidates rounds k vs positions → contributions_again W rounds k ds vs ≡ all_contributions → visits_again W rounds k ds vs ≡ all_visits
      → IsWalked vs [] 0 positions
  walk_begins vs positions many candidates contributions visits = record {
    many = many;
    within = omega arith;
    ascending = candidates.ascending;
    all = λ q v h. candidates.all q v;
    contributions = contributions;
    visits = visits;
  }

  -- a candidate that was walked, or that the module doesn't have
  pub walk_passes : (vs : List Visit) (gs : List Contribution) (from : ℕ) (left more : List ℕ) (p : ℕ) → left ≡ p ∷ more → (p < from) ⊎ (length ds ≤ p) → IsWalked vs gs from left → IsWalked vs gs from more
  walk_passes vs gs from left more p is passed walked = record {
    many = walked.many;
    within = walked.within;
    ascending = no_more p more (subst (λ xs. IsNonDecreasing xs) is walked.ascending);
    all = λ q v h at touched. by q (slice_get_within vs q v at) h passed (contains_cases p q more (subst (λ xs. Contains xs q) is (walked.all q v h at touched)));
    contributions = walked.contributions;
    visits = walked.visits;
  }
    where
      by : (q : ℕ) → q < length vs → from ≤ q → (p < from) ⊎ (length ds ≤ p) → (p ≡ q) ⊎ Contains more q → Contains more q
      by q h l o (inr there) = there
      by q h l (inl less) (inl e) = absurd (omega arith)
      by q h l (inr past) (inl e) = absurd (let many : length vs ≡ length ds = walked.many in omega arith)

  -- up to a candidate
  module _ (vs : List Visit) (gs : List Contribution) (from : ℕ) (left more : List ℕ) (p : ℕ) (is : left ≡ p ∷ more) (h : from ≤ p) (there : p < length ds) (walked : IsWalked vs gs from left) where
    untouched_before : (q : ℕ) (v : Visit) → from ≤ q → q < p → slice_get vs q ≡ Some v → is_touched rounds k v ≡ false
    untouched_before q v l less at = by (is_touched rounds k v) refl
      where
        by : (b : Bool) → is_touched rounds k v ≡ b → b ≡ false
        by true e =
            absurd
            (let least = head_least p q more (subst (λ xs. IsNonDecreasing xs) is walked.ascending) (subst (λ xs. Contains xs q) is (walked.all q v l at e)) in
            omega (arith, least))
        by false e = refl

    up_to : (gs ++ contributions_again W rounds k (drop p ds) (drop p vs) ≡ all_contributions) × (take p vs ++ visits_again W rounds k (drop p ds) (drop p vs) ≡ all_visits)
    up_to =
        skipped (p - from) vs gs from p (omega arith) walked.many (omega arith) untouched_before walked.contributions walked.visits

    left_behind : (new : List Visit) → ((q : ℕ) (v : Visit) → p < q → slice_get new q ≡ Some v → slice_get vs q ≡ Some v) → (q : ℕ) (v : Visit) → p + 1 ≤ q → slice_get new q ≡ Some v
        → is_touched rounds k v ≡ true → Contains more q
    left_behind new same q v l at touched =
        by (contains_cases p q more (subst (λ xs. Contains xs q) is (walked.all q v (omega arith) (same q v (omega arith) at) touched)))
      where
        by : (p ≡ q) ⊎ Contains more q → Contains more q
        by (inl e) = absurd (omega arith)
        by (inr other) = other

    -- that isn't walked
    pub walk_leaves : (d : Definition) (v : Visit) → slice_get ds p ≡ Some d → slice_get vs p ≡ Some v → is_touched rounds k v ≡ false → IsWalked vs gs (p + 1) more
    walk_leaves d v here known off = record {
      many = walked.many;
      within = omega arith;
      ascending = no_more p more (subst (λ xs. IsNonDecreasing xs) is walked.ascending);
      all = left_behind vs (λ q u l at. at);
      contributions = contributions_off W rounds k ds vs p d v gs all_contributions here known off up_to.0;
      visits = visits_off W rounds k ds vs p d v all_visits here known off up_to.1;
    }

    -- and one that is
    pub walk_takes : (d : Definition) (v : Visit) (new : List Visit) (hs : List Contribution) → slice_get ds p ≡ Some d → slice_get vs p ≡ Some v → is_touched rounds k v ≡ true → hs ≡ gs ++ contributions_of_one W d
        → new ≡ set vs p (record { own = v.own; given = labels_given (contributions_of_one W d) }) → IsWalked new hs (p + 1) more
    walk_takes d v new hs here known on given put = record {
      many = ap length put ∙ length-set vs p w ∙ walked.many;
      within = omega arith;
      ascending = no_more p more (subst (λ xs. IsNonDecreasing xs) is walked.ascending);
      all = left_behind new (λ q u l at. other q u l (of_set vs p q w u (subst (λ xs. slice_get xs q ≡ Some u) put at)));
      contributions = contributions_on W rounds k ds vs new p d v w gs hs all_contributions here known on given put up_to.0;
      visits = visits_on W rounds k ds vs new p d v all_visits here known on put up_to.1;
    }
      where
        w : Visit
        w = record { own = v.own; given = labels_given (contributions_of_one W d) }

        other : (q : ℕ) (u : Visit) → p < q → ((slice_get vs q ≡ Some u) × (q ≡ p → ⊥)) ⊎ ((q ≡ p) × (w ≡ u)) → slice_get vs q ≡ Some u
        other q u l (inl e) = e.0
        other q u l (inr e) = absurd (let f = e.0 in omega (arith, f))

  -- where no candidate is left
  pub walk_ends : (vs : List Visit) (gs : List Contribution) (from : ℕ) (left : List ℕ) → left ≡ [] → IsWalked vs gs from left → (gs ≡ all_contributions) × (vs ≡ all_visits)
  walk_ends vs gs from left is walked =
      let n = length ds in
      let h : from ≤ length ds = walked.within in
      let end = skipped (length ds - from) vs gs from (length ds) (omega arith) walked.many (omega arith) untouched walked.contributions walked.visits in
      (contributions_end W rounds k ds vs (length ds) gs all_contributions (omega arith) end.0, visits_end W rounds k ds vs (length ds) all_visits (omega arith) walked.many end.1)
    where
      none : (q : ℕ) → Contains [] q → ⊥
      none q (i, l, e) = absurd (omega arith)

      untouched : (q : ℕ) (v : Visit) → from ≤ q → q < length ds → slice_get vs q ≡ Some v → is_touched rounds k v ≡ false
      untouched q v l less at = by (is_touched rounds k v) refl
        where
          by : (b : Bool) → is_touched rounds k v ≡ b → b ≡ false
          by true e = absurd (none q (subst (λ xs. Contains xs q) is (walked.all q v l at e)))
          by false e = refl
