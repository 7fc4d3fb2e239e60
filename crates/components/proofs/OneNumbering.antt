-- Graphs with the same pairs have one numbering in ready order.
use Rattle.std.proofs.Common.{◌≡◌, ℕ, zero, suc, ◌<◌, ◌≤◌, ◌⊎◌, inl, inr, List, [], ◌∷◌, length, refl, sym, ◌∙◌, ap, ap₂, subst, arith}
use Rattle.std.specs.Prelude.{◌↔◌, slice_index, Contains}
use Rattle.std.proofs.lemmas.Bool.{cases_lt, cases_eq}
use Rattle.std.proofs.lemmas.List.{ext_get_or}
use Rattle.components.proofs.AscendingLists.{rest_ascending, above_first}
use Rattle.type_kinds.proofs.Lists.{contains_later, contains_cases}
use Rattle.components.specs.Graph.{Leads, Reaches, by_pair, by_pairs, Together}
use Rattle.components.specs.Lists.{Ascending}
use Rattle.components.specs.Numbering.{Numbering, component_of_node, members_of, callees_of, ReadyAt}
use Rattle.components.specs.Ready.{IsReadyNumbering, SamePairs}
use Rattle.components.proofs.Orders.{leads_low}

-- ---- ascending lists

first_least : (x z : ℕ) (xs : List ℕ) → Ascending (x ∷ xs) → Contains (x ∷ xs) z → x ≤ z
first_least x z xs h has =
    elim (contains_cases x z xs has) [
      | inl is ↦ omega (arith, is)
      | inr more ↦ omega (arith, above_first x z xs h more)
    ]

-- ascending lists with the same items are equal
pub same_ascending : (xs ys : List ℕ) → Ascending xs → Ascending ys → ((z : ℕ) → Contains xs z → Contains ys z) → ((z : ℕ) → Contains ys z → Contains xs z) → xs ≡ ys
same_ascending [] [] a b to from = refl
same_ascending [] (y ∷ ys) a b to from = absurd (omega (arith, (from y (zero, omega arith, refl)).1))
same_ascending (x ∷ xs) [] a b to from = absurd (omega (arith, (to x (zero, omega arith, refl)).1))
same_ascending (x ∷ xs) (y ∷ ys) a b to from =
    ap₂ (λ z zs. z ∷ zs) first (same_ascending xs ys (rest_ascending x xs a) (rest_ascending y ys b) rest_to rest_from)
  where
    first : x ≡ y
    first =
        let low : y ≤ x = first_least y x ys b (to x (zero, omega arith, refl)) in
        let high : x ≤ y = first_least x y xs a (from y (zero, omega arith, refl)) in
        omega arith

    rest_to : (z : ℕ) → Contains xs z → Contains ys z
    rest_to z has =
        elim (contains_cases y z ys (to z (contains_later x z xs has))) [
          | inl is ↦ absurd (omega (arith, above_first x z xs a has, is, first))
          | inr more ↦ more
        ]

    rest_from : (z : ℕ) → Contains ys z → Contains xs z
    rest_from z has =
        elim (contains_cases x z xs (from z (contains_later y z ys has))) [
          | inl is ↦ absurd (omega (arith, above_first y z ys b has, is, first))
          | inr more ↦ more
        ]

-- ---- the least node with a number

abbrev Least : List ℕ → ℕ → ℕ → Type 0
Least ns n g = (slice_index ns g ≡ n) × ((h : ℕ) → h < g → slice_index ns h ≡ n → ⊥)

first_below : (ns : List ℕ) (n k : ℕ) → ((h : ℕ) → h < k → slice_index ns h ≡ n → ⊥) ⊎ ((g : ℕ) × (g < k) × Least ns n g)
first_below ns n zero = inl (λ h low e. absurd (omega arith))
first_below ns n (suc k) = by (first_below ns n k) (cases_eq (slice_index ns k) n)
  where
    by : ((h : ℕ) → h < k → slice_index ns h ≡ n → ⊥) ⊎ ((g : ℕ) × (g < k) × Least ns n g) → (slice_index ns k ≡ n) ⊎ (slice_index ns k ≡ n → ⊥)
        → ((h : ℕ) → h < suc k → slice_index ns h ≡ n → ⊥) ⊎ ((g : ℕ) × (g < suc k) × Least ns n g)
    by (inr found) here = inr (found.0, omega (arith, found.1), found.2)
    by (inl none) (inl e) = inr (k, omega arith, (e, none))
    by (inl none) (inr other) =
        inl (λ h low e. elim (cases_lt h k) [
          | inl less ↦ none h less e
          | inr high ↦ let same : h ≡ k = omega arith in other (subst (λ i. slice_index ns i ≡ n) same e)
        ])

least_of : (ns : List ℕ) (n f : ℕ) → slice_index ns f ≡ n → (g : ℕ) × (g ≤ f) × Least ns n g
least_of ns n f is =
    elim (first_below ns n (suc f)) [
      | inl none ↦ absurd (none f (omega arith) is)
      | inr found ↦ (found.0, omega (arith, found.1), found.2)
    ]

-- ---- graphs with the same pairs

same_reaches : (graph other : List (List ℕ)) → SamePairs graph other → (f g : ℕ) → Reaches graph f g → Reaches other f g
same_reaches graph other same _ _ (by_pair f g leads) = by_pair f g ((same.pairs f g).0 leads)
same_reaches graph other same _ _ (by_pairs f g h leads more) = by_pairs f g h ((same.pairs f g).0 leads) (same_reaches graph other same g h more)

same_together : (graph other : List (List ℕ)) → SamePairs graph other → (f g : ℕ) → Together graph f g → Together other f g
same_together graph other same f g (inl is) = inl is
same_together graph other same f g (inr both) = inr (same_reaches graph other same f g both.0, same_reaches graph other same g f both.1)

turned : (graph other : List (List ℕ)) → SamePairs graph other → SamePairs other graph
turned graph other same = record {
  counted = sym same.counted;
  inside = λ f g leads. let low = same.inside f g ((same.pairs f g).1 leads) in omega (arith, low, same.counted);
  pairs = λ f g. ((same.pairs f g).1, (same.pairs f g).0);
}

-- the nodes that have this number in one of the numberings have it in the other
abbrev Agree : Numbering → Numbering → ℕ → ℕ → Type 0
Agree c d count m = (f : ℕ) → f < count → (component_of_node c f ≡ m) ↔ (component_of_node d f ≡ m)

agree_turned : (c d : Numbering) (count m : ℕ) → Agree c d count m → Agree d c count m
agree_turned c d count m a f low = ((a f low).1, (a f low).0)

module _ (graph other : List (List ℕ)) (c d : Numbering) (same : SamePairs graph other) (rc : IsReadyNumbering graph c) (rd : IsReadyNumbering other d) where
  -- nodes with one number in the one have one number in the other
  one_number : (f g : ℕ) → f < length graph → g < length graph → component_of_node c f ≡ component_of_node c g → component_of_node d f ≡ component_of_node d g
  one_number f g low high is =
      (rd.together f g (omega (arith, same.counted)) (omega (arith, same.counted))).1
      (same_together graph other same f g ((rc.together f g low high).0 is))

  number_low : (f : ℕ) → f < length graph → component_of_node d f < d.count
  number_low f low = rd.nodes.1 f (omega (arith, same.counted))

  module _ (n : ℕ) (below : (m : ℕ) → m < n → Agree c d (length graph) m) where
    not_below : (g : ℕ) → g < length graph → component_of_node c g ≡ n → n ≤ component_of_node d g
    not_below g low is =
        elim (cases_lt (component_of_node d g) n) [
          | inl less ↦ absurd (omega (arith, (below (component_of_node d g) less g low).1 refl, is))
          | inr high ↦ high
        ]

    one_back : (x g : ℕ) → x < length graph → g < length graph → component_of_node d x ≡ component_of_node d g → component_of_node c x ≡ component_of_node c g
    one_back x g low high is =
        (rc.together x g low high).1
        (same_together other graph (turned graph other same) x g ((rd.together x g (omega (arith, same.counted)) (omega (arith, same.counted))).0 is))

    is_ready : (g : ℕ) → g < length graph → component_of_node c g ≡ n → ReadyAt other d.component_of n (component_of_node d g)
    is_ready g low is x y with_g leads =
        let pair : Leads graph x y = (same.pairs x y).1 leads in
        let x_low : x < length graph = leads_low graph x y pair in
        let y_low : y < length graph = same.inside x y pair in
        let x_is : component_of_node c x ≡ n = one_back x g x_low low with_g ∙ is in
        let down : component_of_node c y ≤ component_of_node c x = rc.downward x y pair in
        by y_low (omega arith) (cases_lt (component_of_node c y) n)
      where
        by : y < length graph → component_of_node c y ≤ n → (component_of_node c y < n) ⊎ (n ≤ component_of_node c y)
            → (slice_index d.component_of y ≡ component_of_node d g) ⊎ (slice_index d.component_of y < n)
        by y_low most (inl less) =
            let there : component_of_node d y ≡ component_of_node c y = (below (component_of_node c y) less y y_low).0 refl in
            inr (omega arith)
        by y_low most (inr high) =
            let there : component_of_node c y ≡ n = omega arith in
            inl (one_number y g y_low low (there ∙ sym is))

    -- the number is that of a node, which is no greater, in the other
    given_there : (g : ℕ) → g < length graph → component_of_node c g ≡ n → (h : ℕ) × (h ≤ g) × (component_of_node d h ≡ n)
    given_there g low is =
        let high : n ≤ component_of_node d g = not_below g low is in
        let few : component_of_node d g < d.count = number_low g low in
        rd.ready n g (omega arith) (omega (arith, same.counted)) high (is_ready g low is)

module _ (graph other : List (List ℕ)) (c d : Numbering) (same : SamePairs graph other) (rc : IsReadyNumbering graph c) (rd : IsReadyNumbering other d) where
  goes : (n : ℕ) → ((m : ℕ) → m < n → Agree c d (length graph) m) → (f : ℕ) → f < length graph → component_of_node c f ≡ n → component_of_node d f ≡ n
  goes n below f low is = by (least_of c.component_of n f is)
    where
      back : (m : ℕ) → m < n → Agree d c (length other) m
      back m less g under = agree_turned c d (length graph) m (below m less) g (omega (arith, same.counted))

      by : (g : ℕ) × (g ≤ f) × Least c.component_of n g → component_of_node d f ≡ n
      by found =
          let g = found.0 in
          let g_low : g < length graph = omega (arith, found.1) in
          let h = given_there graph other c d same rc rd n below g g_low found.2.0 in
          let h_low : h.0 < length other = omega (arith, h.1, same.counted) in
          let k = given_there other graph d c (turned graph other same) rd rc n back h.0 h_low h.2 in
          let there : component_of_node d g ≡ n =
          elim (cases_lt k.0 g) [
            | inl less ↦ absurd (found.2.1 k.0 less k.2)
            | inr high ↦ let one : h.0 ≡ g = omega (arith, h.1, k.1) in subst (λ i. component_of_node d i ≡ n) one h.2
          ] in
          one_number graph other c d same rc rd f g low g_low (is ∙ sym found.2.0) ∙ there

module _ (graph other : List (List ℕ)) (c d : Numbering) (same : SamePairs graph other) (rc : IsReadyNumbering graph c) (rd : IsReadyNumbering other d) where
  agree_next : (n : ℕ) → ((m : ℕ) → m < n → Agree c d (length graph) m) → (m : ℕ) → m < suc n → Agree c d (length graph) m
  agree_next n below m less = by (cases_lt m n)
    where
      at_n : Agree c d (length graph) n
      at_n f low = (
        goes graph other c d same rc rd n below f low,
        goes other graph d c (turned graph other same) rd rc n
            (λ k under g h. agree_turned c d (length graph) k (below k under) g (omega (arith, same.counted))) f (omega (arith, same.counted)),
      )

      by : (m < n) ⊎ (n ≤ m) → Agree c d (length graph) m
      by (inl under) = below m under
      by (inr high) = let same_number : n ≡ m = omega arith in subst (Agree c d (length graph)) same_number at_n

  agree_below : (n m : ℕ) → m < n → Agree c d (length graph) m
  agree_below zero m less = absurd (omega arith)
  agree_below (suc n) m less = agree_next n (agree_below n) m less

  agree : (m : ℕ) → Agree c d (length graph) m
  agree m = agree_below (suc m) m (omega arith)

  one_node : (f : ℕ) → f < length graph → component_of_node d f ≡ component_of_node c f
  one_node f low = (agree (component_of_node c f) f low).0 refl

  few : (n : ℕ) → n < c.count → n < d.count
  few n low =
      let f = rc.used n low in
      let there : component_of_node d f.0 ≡ n = (agree n f.0 f.1).0 f.2 in
      let under = number_low graph other c d same rc rd f.0 f.1 in
      omega arith

  member_there : (n f : ℕ) → Contains (members_of c n) f → Contains (members_of d n) f
  member_there n f has =
      let k = (rc.members n f).0 has in
      (rd.members n f).1 (omega (arith, k.0, same.counted), (agree n f k.0).0 k.1)

  callee_there : (n m : ℕ) → n < c.count → Contains (callees_of c n) m → Contains (callees_of d n) m
  callee_there n m low has =
      let k = (rc.callees n m low).0 has in
      let f = k.1.0 in
      let g = k.1.1 in
      let leads : Leads graph f g = k.1.3 in
      let f_low : f < length graph = leads_low graph f g leads in
      let g_low : g < length graph = same.inside f g leads in
      (rd.callees n m (few n low)).1
      (k.0, (f, g, (agree n f f_low).0 k.1.2, (same.pairs f g).0 leads, (agree m g g_low).0 k.1.4))

module _ (graph other : List (List ℕ)) (c d : Numbering) (same : SamePairs graph other) (rc : IsReadyNumbering graph c) (rd : IsReadyNumbering other d) where
  one_count : c.count ≡ d.count
  one_count =
      elim (cases_lt c.count d.count) [
        | inl less ↦ absurd (omega (arith, few other graph d c (turned graph other same) rd rc c.count less))
        | inr high ↦ elim (cases_lt d.count c.count) [
          | inl less ↦ absurd (omega (arith, few graph other c d same rc rd d.count less))
          | inr low ↦ omega arith
        ]
      ]

  one_component_of : c.component_of ≡ d.component_of
  one_component_of =
      ext_get_or 0 c.component_of d.component_of (omega (arith, rc.nodes.0, rd.nodes.0, same.counted))
      (λ f low. sym (one_node graph other c d same rc rd f (omega (arith, rc.nodes.0))))

  one_members_of : (n : ℕ) → n < c.count → members_of c n ≡ members_of d n
  one_members_of n low =
      same_ascending (members_of c n) (members_of d n) (rc.kept.members_sorted n low) (rd.kept.members_sorted n (omega (arith, one_count)))
      (member_there graph other c d same rc rd n) (member_there other graph d c (turned graph other same) rd rc n)

  one_callees_of : (n : ℕ) → n < c.count → callees_of c n ≡ callees_of d n
  one_callees_of n low =
      same_ascending (callees_of c n) (callees_of d n) (rc.kept.callees_sorted n low) (rd.kept.callees_sorted n (omega (arith, one_count)))
      (λ m. callee_there graph other c d same rc rd n m low)
      (λ m. callee_there other graph d c (turned graph other same) rd rc n m (omega (arith, one_count)))

  one_members : c.members ≡ d.members
  one_members =
      ext_get_or [] c.members d.members (omega (arith, rc.kept.members_sizes, rd.kept.members_sizes, one_count))
      (λ n low. one_members_of n (omega (arith, rc.kept.members_sizes)))

  one_callees : c.callees ≡ d.callees
  one_callees =
      ext_get_or [] c.callees d.callees (omega (arith, rc.kept.callees_sizes, rd.kept.callees_sizes, one_count))
      (λ n low. one_callees_of n (omega (arith, rc.kept.callees_sizes)))

  pub one_numbering : c ≡ d
  one_numbering =
      ap (λ x. record { component_of = x; count = c.count; members = c.members; callees = c.callees }) one_component_of
      ∙ ap (λ x. record { component_of = d.component_of; count = x; members = c.members; callees = c.callees }) one_count
      ∙ ap (λ x. record { component_of = d.component_of; count = d.count; members = x; callees = c.callees }) one_members
      ∙ ap (λ x. record { component_of = d.component_of; count = d.count; members = d.members; callees = x }) one_callees
