-- Each graph has a numbering of its components in ready order: component after component gets the next number.
use Rattle.std.proofs.Common.{◌≡◌, ℕ, zero, suc, ◌<◌, ◌≤◌, ◌⊎◌, ◌↔◌, inl, inr, List, [], length, refl, sym, ◌∙◌, ap, subst, arith}
use Rattle.std.specs.Prelude.{Contains, slice_index}
use Rattle.std.proofs.lemmas.Bool.{cases_lt, cases_eq}
use Rattle.std.proofs.lemmas.List.{get_or_past}
use Rattle.type_kinds.proofs.Lists.{contains_none}
use Rattle.components.specs.Graph.{targets, Leads, Together}
use Rattle.components.specs.Lists.{Ascending}
use Rattle.components.specs.Numbering.{Numbering, InReady, ComponentCalls}
use Rattle.components.specs.Ready.{IsReadyNumbering}
use Rattle.components.specs.steps.ComponentLists.{list_of, IsMembers, CalleesTo}
use Rattle.components.specs.steps.Phases.{StrongComponents, ReadyComponents}
use Rattle.components.specs.steps.Search.{Walk}
use Rattle.components.proofs.Bounded.{Decided, both, otherwise, is_low, is_in, least, how_many, fewer, some_have, picked, listed}
use Rattle.components.proofs.Finished.{kept_numbering}
use Rattle.components.proofs.Orders.{leads_low}
use Rattle.components.proofs.Reaching.{walking, together, turned, walk_there, chained}
use Rattle.components.proofs.Walks.{walk_on, walk_pair, both_walk}

module _ (graph : List (List ℕ)) (inside : (f g : ℕ) → Leads graph f g → g < length graph) where
  -- The component of f leads to itself and to components whose numbers are below m, and to no others.
  abbrev IsReady : (number : ℕ → ℕ) (m f : ℕ) → Type 0
  IsReady number m f = (h g : ℕ) → Together graph h f → Leads graph h g → Together graph g f ⊎ (number g < m)

  -- The numbers below n are given, in ready order. A node without one has a number that isn't below n.
  record Given (n : ℕ) (number : ℕ → ℕ) : Type 0 where
    joined : (f g : ℕ) → number f < n → number f ≡ number g → Together graph f g
    same : (f g : ℕ) → number f < n → Together graph f g → number f ≡ number g
    downward : (f g : ℕ) → number f < n → Leads graph f g → number g ≤ number f
    used : (m : ℕ) → m < n → (f : ℕ) × (f < length graph) × (number f ≡ m)
    ready : (m f : ℕ) → m < n → f < length graph → m ≤ number f → IsReady number m f → (g : ℕ) × (g ≤ f) × (number g ≡ m)

  -- ---- a component that is ready

  -- a pair by which the component of f isn't ready
  abbrev Hinders : (number : ℕ → ℕ) (n f h g : ℕ) → Type 0
  Hinders number n f h g = Together graph h f × (Leads graph h g × ((Together graph g f → ⊥) × (n ≤ number g)))

  hindering : (number : ℕ → ℕ) (n f h g : ℕ) → Decided (Hinders number n f h g)
  hindering number n f h g =
      both (together graph inside h f) (both (is_in (targets graph h) g) (both (otherwise (together graph inside g f)) (at_least (number g))))
    where
      at_least : (k : ℕ) → Decided (n ≤ k)
      at_least k =
          elim (cases_lt k n) [
            | inl less ↦ inr (λ high. absurd (omega arith))
            | inr high ↦ inl high
          ]

  abbrev HindersFrom : (number : ℕ → ℕ) (n f h : ℕ) → Type 0
  HindersFrom number n f h = (g : ℕ) × (g < length graph) × Hinders number n f h g

  hindering_from : (number : ℕ → ℕ) (n f h : ℕ) → Decided (HindersFrom number n f h)
  hindering_from number n f h =
      elim (least (Hinders number n f h) (hindering number n f h) (length graph)) [
        | inl found ↦ inl (found.0, found.1.0, found.1.1)
        | inr none ↦ inr (λ bad. none bad.0 bad.1 bad.2)
      ]

  -- nothing hinders, or some pair does
  ready_or_hindered : (number : ℕ → ℕ) (n f : ℕ) → IsReady number n f ⊎ ((h : ℕ) × HindersFrom number n f h)
  ready_or_hindered number n f =
      elim (least (HindersFrom number n f) (hindering_from number n f) (length graph)) [
        | inl found ↦ inr (found.0, found.1.1)
        | inr none ↦ inl (λ h g to leads. elim (together graph inside g f) [
          | inl with_it ↦ inl with_it
          | inr apart ↦ elim (cases_lt (number g) n) [
            | inl low ↦ inr low
            | inr high ↦ absurd (none h (leads_low graph h g leads) (g, inside h g leads, (to, (leads, (apart, high)))))
          ]
        ])
      ]

  readiness : (number : ℕ → ℕ) (n f : ℕ) → Decided (IsReady number n f)
  readiness number n f =
      elim (ready_or_hindered number n f) [
        | inl is ↦ inl is
        | inr bad ↦ inr (λ is. elim (is bad.0 bad.1.0 bad.1.2.0 bad.1.2.1.0) [
          | inl with_it ↦ bad.1.2.1.1.0 with_it
          | inr low ↦ absurd (let high = bad.1.2.1.1.1 in omega arith)
        ])
      ]

  -- how many nodes stand behind a node, or are it
  behind : ℕ → ℕ
  behind f = how_many (Walk graph f) (walking graph inside f) (length graph)

  -- what hinders stands behind, and fewer nodes stand behind it
  behind_less : (number : ℕ → ℕ) (n f h g : ℕ) → f < length graph → Hinders number n f h g → behind g < behind f
  unfolding behind
  behind_less number n f h g low (to, (leads, (apart, high))) =
      let there : Walk graph f g = walk_on graph f h g (walk_there graph f h (turned graph h f to)) (walk_pair graph h g leads) in
      fewer (Walk graph g) (Walk graph f) (walking graph inside g) (walking graph inside f) (length graph)
      (λ x under w. walk_on graph f g x there w) f low (inl refl) (λ back. apart (both_walk graph g f back there))

  -- where a node has no number, one whose component is ready has none
  ready_behind : (number : ℕ → ℕ) (n k f : ℕ) → behind f ≤ k → f < length graph → n ≤ number f → (x : ℕ) × (x < length graph) × ((n ≤ number x) × IsReady number n x)
  ready_behind number n zero f few low none =
      elim (ready_or_hindered number n f) [
        | inl is ↦ (f, low, (none, is))
        | inr bad ↦ absurd (let less = behind_less number n f bad.0 bad.1.0 low bad.1.2 in omega arith)
      ]
  ready_behind number n (suc k) f few low none =
      elim (ready_or_hindered number n f) [
        | inl is ↦ (f, low, (none, is))
        | inr bad ↦
            let less = behind_less number n f bad.0 bad.1.0 low bad.1.2 in
            ready_behind number n k bad.1.0 (omega arith) bad.1.1 bad.1.2.1.1.1
      ]

  -- the least node without a number whose component is ready
  abbrev IsNext : (number : ℕ → ℕ) (n c : ℕ) → Type 0
  IsNext number n c = (c < length graph) × ((n ≤ number c) × IsReady number n c) × ((y : ℕ) → y < c → (n ≤ number y) × IsReady number n y → ⊥)

  high_or_low : (number : ℕ → ℕ) (n f : ℕ) → Decided (n ≤ number f)
  high_or_low number n f =
      elim (cases_lt (number f) n) [
        | inl less ↦ inr (λ high. absurd (omega arith))
        | inr high ↦ inl high
      ]

  next_of : (number : ℕ → ℕ) (n f : ℕ) → f < length graph → n ≤ number f → (c : ℕ) × IsNext number n c
  next_of number n f low none =
      elim (least (λ x. (n ≤ number x) × IsReady number n x) (λ x. both (high_or_low number n x) (readiness number n x)) (length graph)) [
        | inl found ↦ found
        | inr never ↦ let some = ready_behind number n (behind f) f (omega arith) low none in absurd (never some.0 some.1 some.2)
      ]

  -- ---- the next number

  module _ (number : ℕ → ℕ) (n : ℕ) (s : Given n number) (c : ℕ) (next : IsNext number n c) where
    given_by : (f : ℕ) → Decided (number f < n) → Decided (Together graph f c) → ℕ
    given_by f (inl low) d = number f
    given_by f (inr high) (inl with_it) = n
    given_by f (inr high) (inr apart) = suc n

    number' : ℕ → ℕ
    number' f = given_by f (is_low (number f) n) (together graph inside f c)

    -- a node had a number, has the new one, or has none
    data Kind (f : ℕ) : Type 0 where
      old : number f < n → number' f ≡ number f → Kind f
      new : n ≤ number f → Together graph f c → number' f ≡ n → Kind f
      later : n ≤ number f → (Together graph f c → ⊥) → number' f ≡ suc n → Kind f

    high : (f : ℕ) → (number f < n → ⊥) → n ≤ number f
    high f none = elim (cases_lt (number f) n) [ inl less ↦ absurd (none less) | inr over ↦ over ]

    kind : (f : ℕ) → Kind f
    unfolding number' given_by
    kind f = by (is_low (number f) n) refl (together graph inside f c) refl
      where
        by : (d : Decided (number f < n)) → is_low (number f) n ≡ d → (t : Decided (Together graph f c)) → together graph inside f c ≡ t → Kind f
        by (inl low) e t k = old low (ap (λ d. given_by f d (together graph inside f c)) e)
        by (inr none) e (inl with_it) k = new (high f none) with_it (ap (λ d. given_by f d (together graph inside f c)) e ∙ ap (given_by f (inr none)) k)
        by (inr none) e (inr apart) k = later (high f none) apart (ap (λ d. given_by f d (together graph inside f c)) e ∙ ap (given_by f (inr none)) k)

    joined' : (f g : ℕ) → number' f < suc n → number' f ≡ number' g → Together graph f g
    joined' f g low e = by (kind f) (kind g)
      where
        by : Kind f → Kind g → Together graph f g
        by (old a is) (old b also) = s.joined f g a (sym is ∙ e ∙ also)
        by (old a is) (new b with_it also) = absurd (omega arith)
        by (old a is) (later b apart also) = absurd (omega arith)
        by (new a to is) (old b also) = absurd (omega arith)
        by (new a to is) (new b with_it also) = chained graph f c g to (turned graph g c with_it)
        by (new a to is) (later b apart also) = absurd (omega arith)
        by (later a apart is) k = absurd (omega arith)

    same' : (f g : ℕ) → number' f < suc n → Together graph f g → number' f ≡ number' g
    same' f g low h = by (kind f) (kind g)
      where
        by : Kind f → Kind g → number' f ≡ number' g
        by (old a is) (old b also) = is ∙ s.same f g a h ∙ sym also
        by (old a is) (new b with_it also) = let one = s.same f g a h in absurd (omega arith)
        by (old a is) (later b apart also) = let one = s.same f g a h in absurd (omega arith)
        by (new a to is) (old b also) = let one = s.same g f b (turned graph f g h) in absurd (omega arith)
        by (new a to is) (new b with_it also) = is ∙ sym also
        by (new a to is) (later b apart also) = absurd (apart (chained graph g f c (turned graph f g h) to))
        by (later a apart is) k = absurd (omega arith)

    downward' : (f g : ℕ) → number' f < suc n → Leads graph f g → number' g ≤ number' f
    downward' f g low leads = by (kind f) (kind g)
      where
        by : Kind f → Kind g → number' g ≤ number' f
        by (old a is) (old b also) = let most = s.downward f g a leads in omega arith
        by (old a is) (new b with_it also) = let most = s.downward f g a leads in absurd (omega arith)
        by (old a is) (later b apart also) = let most = s.downward f g a leads in absurd (omega arith)
        by (new a to is) (old b also) = omega arith
        by (new a to is) (new b with_it also) = omega arith
        by (new a to is) (later b apart also) =
            elim (next.1.1 f g to leads) [
              | inl with_it ↦ absurd (apart with_it)
              | inr less ↦ absurd (omega arith)
            ]
        by (later a apart is) k = absurd (omega arith)

    new_is : number' c ≡ n
    new_is = by (kind c)
      where
        by : Kind c → number' c ≡ n
        by (old a is) = let none = next.1.0 in absurd (omega arith)
        by (new a to is) = is
        by (later a apart is) = absurd (apart (inl refl))

    kept : (f m : ℕ) → number f ≡ m → m < n → number' f ≡ m
    kept f m e low = by (kind f)
      where
        by : Kind f → number' f ≡ m
        by (old a is) = is ∙ e
        by (new a to is) = absurd (omega arith)
        by (later a apart is) = absurd (omega arith)

    -- a number below the new one was there before
    before : (f m : ℕ) → m ≤ n → number' f < m → number f < m
    before f m most low = by (kind f)
      where
        by : Kind f → number f < m
        by (old a is) = omega arith
        by (new a to is) = absurd (omega arith)
        by (later a apart is) = absurd (omega arith)

    not_below : (f m : ℕ) → m ≤ n → m ≤ number' f → m ≤ number f
    not_below f m most high = by (kind f)
      where
        by : Kind f → m ≤ number f
        by (old a is) = omega arith
        by (new a to is) = omega arith
        by (later a apart is) = omega arith

    ready_before : (m f : ℕ) → m ≤ n → IsReady number' m f → IsReady number m f
    ready_before m f most is h g to leads =
        elim (is h g to leads) [
          | inl with_it ↦ inl with_it
          | inr low ↦ inr (before g m most low)
        ]

    used' : (m : ℕ) → m < suc n → (f : ℕ) × (f < length graph) × (number' f ≡ m)
    used' m low =
        elim (cases_lt m n) [
          | inl less ↦ let f = s.used m less in (f.0, f.1, kept f.0 m f.2 less)
          | inr over ↦ let same : n ≡ m = omega arith in (c, next.0, new_is ∙ same)
        ]

    ready' : (m f : ℕ) → m < suc n → f < length graph → m ≤ number' f → IsReady number' m f → (g : ℕ) × (g ≤ f) × (number' g ≡ m)
    ready' m f low under most is =
        elim (cases_lt m n) [
          | inl less ↦
              let g = s.ready m f less under (not_below f m (omega arith) most) (ready_before m f (omega arith) is) in
              (g.0, g.1, kept g.0 m g.2 less)
          | inr over ↦
              let same : n ≡ m = omega arith in
              let here : (n ≤ number f) × IsReady number n f = (not_below f n (omega arith) (omega arith), ready_before n f (omega arith) (subst (λ k. IsReady number' k f) (sym same) is)) in
              (c, elim (cases_lt f c) [ inl less ↦ absurd (next.2 f less here) | inr high ↦ high ], new_is ∙ same)
        ]

    given' : Given (suc n) number'
    given' = record { joined = joined'; same = same'; downward = downward'; used = used'; ready = ready' }

    -- fewer nodes are without a number
    left_less : how_many (λ f. suc n ≤ number' f) (λ f. high_or_low number' (suc n) f) (length graph) < how_many (λ f. n ≤ number f) (λ f. high_or_low number n f) (length graph)
    left_less =
        fewer (λ f. suc n ≤ number' f) (λ f. n ≤ number f) (λ f. high_or_low number' (suc n) f) (λ f. high_or_low number n f) (length graph)
        (λ f under none. not_below f n (omega arith) (omega arith)) c next.0 next.1.0 (λ none. let is = new_is in absurd (omega arith))

  -- ---- all of them

  record AllGiven : Type 0 where
    count : ℕ
    number : ℕ → ℕ
    given : Given count number
    all : (f : ℕ) → f < length graph → number f < count

  give_all : (k n : ℕ) (number : ℕ → ℕ) → Given n number → how_many (λ f. n ≤ number f) (λ f. high_or_low number n f) (length graph) ≤ k → AllGiven
  give_all zero n number s few = record {
    count = n;
    number = number;
    given = s;
    all = λ f low. elim (cases_lt (number f) n) [
      | inl less ↦ less
      | inr none ↦ let some = some_have (λ f. n ≤ number f) (λ f. high_or_low number n f) (length graph) f low none in absurd (omega arith)
    ];
  }
  give_all (suc k) n number s few =
      elim (least (λ f. n ≤ number f) (λ f. high_or_low number n f) (length graph)) [
        | inl found ↦
            let next = next_of number n found.0 found.1.0 found.1.1 in
            let less = left_less number n s next.0 next.1 in
            give_all k (suc n) (number' number n s next.0 next.1) (given' number n s next.0 next.1) (omega arith)
        | inr none ↦ record {
          count = n;
          number = number;
          given = s;
          all = λ f low. elim (cases_lt (number f) n) [ inl less ↦ less | inr high ↦ absurd (none f low high) ];
        }
      ]

  all_given : AllGiven
  all_given =
      let first : Given 0 (λ f. 0) = record {
        joined = λ f g low e. absurd (omega arith);
        same = λ f g low h. absurd (omega arith);
        downward = λ f g low leads. absurd (omega arith);
        used = λ m low. absurd (omega arith);
        ready = λ m f low under most is. absurd (omega arith);
      } in
      give_all (how_many (λ f. 0 ≤ 0) (λ f. high_or_low (λ f. 0) 0 f) (length graph)) 0 (λ f. 0) first (omega arith)

  -- ---- the numbering

  module _ (a : AllGiven) where
    component_of : List ℕ
    component_of = (listed a.number (length graph)).0

    size_is : length component_of ≡ length graph
    unfolding component_of
    size_is = (listed a.number (length graph)).1

    number_is : (f : ℕ) → f < length graph → slice_index component_of f ≡ a.number f
    unfolding component_of
    number_is f low = (listed a.number (length graph)).2 f 0 low

    strong : StrongComponents graph component_of a.count
    strong = record {
      sizes = size_is;
      below = λ f low. let is = number_is f low in let under = a.all f low in omega arith;
      joined = λ f g low_f low_g e. a.given.joined f g (a.all f low_f) (sym (number_is f low_f) ∙ e ∙ number_is g low_g);
      downward = λ f g leads.
          let low_f = leads_low graph f g leads in
          let low_g = inside f g leads in
          let most = a.given.downward f g (a.all f low_f) leads in
          let is_f = number_is f low_f in
          let is_g = number_is g low_g in
          omega arith;
    }

    ready_so : InReady graph component_of a.count
    ready_so n f under low most ready =
        let is_f = number_is f low in
        let found = a.given.ready n f under low (omega arith) is_ready in
        let low_g : found.0 < length graph = omega (arith, found.1) in
        (found.0, found.1, number_is found.0 low_g ∙ found.2)
      where
        is_ready : IsReady a.number n f
        is_ready h g to leads =
            let low_h = leads_low graph h g leads in
            let low_g = inside h g leads in
            let one : slice_index component_of h ≡ slice_index component_of f = number_is h low_h ∙ a.given.same h f (a.all h low_h) to ∙ sym (number_is f low) in
            elim (ready h g one leads) [
              | inl is ↦ inl (a.given.joined g f (a.all g low_g) (sym (number_is g low_g) ∙ is ∙ number_is f low))
              | inr less ↦ inr (let is = number_is g low_g in omega arith)
            ]

    components : ReadyComponents graph component_of a.count
    components = record {
      strong = strong;
      together = λ f g low_f low_g h. number_is f low_f ∙ a.given.same f g (a.all f low_f) h ∙ sym (number_is g low_g);
      used = λ n under. let f = a.given.used n under in (f.0, f.1, number_is f.0 f.1 ∙ f.2);
      ready = ready_so;
    }

    -- the nodes of each component
    abbrev members_at : (n : ℕ) → (xs : List ℕ) × Ascending xs × ((y : ℕ) → Contains xs y ↔ ((y < length component_of) × (slice_index component_of y ≡ n)))
    members_at n = picked (λ f. slice_index component_of f ≡ n) (λ f. cases_eq (slice_index component_of f) n) (length component_of)

    members : List (List ℕ)
    members = (listed (λ n. (members_at n).0) a.count).0

    members_so : IsMembers component_of members a.count
    unfolding members
    members_so = record { sizes = (listed (λ n. (members_at n).0) a.count).1; sorted = sorted; exact = exact }
      where
        is_at : (n : ℕ) → n < a.count → list_of members n ≡ (members_at n).0
        is_at n low = (listed (λ n. (members_at n).0) a.count).2 n [] low

        past : (n : ℕ) → a.count ≤ n → list_of members n ≡ []
        past n high = get_or_past members n [] (omega (arith, (listed (λ n. (members_at n).0) a.count).1))

        sorted : (n : ℕ) → Ascending (list_of members n)
        sorted n =
            elim (cases_lt n a.count) [
              | inl low ↦ subst Ascending (sym (is_at n low)) (members_at n).1
              | inr high ↦ subst Ascending (sym (past n high)) (λ i j d less under. absurd (omega arith))
            ]

        exact : (n f : ℕ) → Contains (list_of members n) f ↔ ((f < length component_of) × (slice_index component_of f ≡ n))
        exact n f =
            elim (cases_lt n a.count) [
              | inl low ↦ subst (λ xs. Contains xs f ↔ ((f < length component_of) × (slice_index component_of f ≡ n))) (sym (is_at n low)) ((members_at n).2 f)
              | inr high ↦ (
                (λ has. absurd (contains_none f (subst (λ xs. Contains xs f) (past n high) has))),
                (λ h. let size = size_is in let below = strong.below f (omega (arith, h.0)) in absurd (omega (arith, h.1))),
              )
            ]

    -- a node of one component that leads to another
    abbrev CallsFrom : (n m f : ℕ) → Type 0
    CallsFrom n m f = (slice_index component_of f ≡ n) × ((g : ℕ) × (g < length graph) × (Leads graph f g × (slice_index component_of g ≡ m)))

    calling : (n m : ℕ) → Decided (ComponentCalls graph component_of n m)
    calling n m = both (otherwise (cases_eq m n)) pair
      where
        from : (f : ℕ) → Decided (CallsFrom n m f)
        from f = both (cases_eq (slice_index component_of f) n) to
          where
            to : Decided ((g : ℕ) × (g < length graph) × (Leads graph f g × (slice_index component_of g ≡ m)))
            to =
                elim (least (λ g. Leads graph f g × (slice_index component_of g ≡ m)) (λ g. both (is_in (targets graph f) g) (cases_eq (slice_index component_of g) m)) (length graph)) [
                  | inl found ↦ inl (found.0, found.1.0, found.1.1)
                  | inr none ↦ inr (λ h. none h.0 h.1 h.2)
                ]

        pair : Decided ((f : ℕ) × (g : ℕ) × (slice_index component_of f ≡ n) × Leads graph f g × (slice_index component_of g ≡ m))
        pair =
            elim (least (CallsFrom n m) from (length graph)) [
              | inl found ↦ let at = found.1.1 in inl (found.0, at.1.0, at.0, at.1.2.0, at.1.2.1)
              | inr none ↦ inr (λ h. none h.0 (leads_low graph h.0 h.1 h.3) (h.2, (h.1, inside h.0 h.1 h.3, (h.3, h.4))))
            ]

    abbrev callees_at : (n : ℕ) → (xs : List ℕ) × Ascending xs × ((y : ℕ) → Contains xs y ↔ ((y < a.count) × ComponentCalls graph component_of n y))
    callees_at n = picked (λ m. ComponentCalls graph component_of n m) (λ m. calling n m) a.count

    callees : List (List ℕ)
    callees = (listed (λ n. (callees_at n).0) a.count).0

    callees_so : CalleesTo graph component_of callees a.count
    unfolding callees
    callees_so = record {
      sizes = (listed (λ n. (callees_at n).0) a.count).1;
      sorted = λ n low. subst Ascending (sym (is_at n low)) (callees_at n).1;
      exact = λ n m low. (
        (λ has. (((callees_at n).2 m).0 (subst (λ xs. Contains xs m) (is_at n low) has)).1),
        (λ h. subst (λ xs. Contains xs m) (sym (is_at n low)) (((callees_at n).2 m).1 (called_low n m h, h))),
      );
    }
      where
        is_at : (n : ℕ) → n < a.count → list_of callees n ≡ (callees_at n).0
        is_at n low = (listed (λ n. (callees_at n).0) a.count).2 n [] low

        called_low : (n m : ℕ) → ComponentCalls graph component_of n m → m < a.count
        called_low n m h =
            let pair = h.1 in
            let below = strong.below pair.1 (inside pair.0 pair.1 pair.3) in
            omega (arith, pair.4)

    numbering_so : IsReadyNumbering graph (record { component_of = component_of; count = a.count; members = members; callees = callees })
    numbering_so = record {
      nodes = (size_is, strong.below);
      together = λ f g low_f low_g. (strong.joined f g low_f low_g, components.together f g low_f low_g);
      downward = strong.downward;
      used = components.used;
      ready = components.ready;
      members = subst (λ size. (n f : ℕ) → Contains (list_of members n) f ↔ ((f < size) × (slice_index component_of f ≡ n))) size_is members_so.exact;
      callees = callees_so.exact;
      kept = kept_numbering graph component_of a.count members callees components members_so callees_so;
    }

  pub a_numbering : (c : Numbering) × IsReadyNumbering graph c
  a_numbering =
      let a = all_given in
      (record { component_of = component_of a; count = a.count; members = members a; callees = callees a }, numbering_so a)
