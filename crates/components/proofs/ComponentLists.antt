-- Members after one more node, and callees after one more component.
use Rattle.std.proofs.Common.{◌≡◌, ℕ, ◌+◌, ◌<◌, ◌⊎◌, ◌↔◌, inl, inr, List, [], ◌∷◌, ◌++◌, length, get_or, set, sym, ◌∙◌, ap, subst, arith}
use Rattle.std.specs.Prelude.{Contains, slice_index, Result, Ok, Err, OnOk, IfOk}
use Rattle.std.proofs.lemmas.List.{length_push, length-set, get_or_default, get_or_append_left, get_or-set_same, get_or-set_other}
use Rattle.std.proofs.lemmas.List.Elements.{Contains-append_left, Contains-push, Contains-push_cases, Contains-get_or}
use Rattle.std.proofs.lemmas.Bool.{cases_lt, cases_eq}
use Rattle.components.specs.steps.ComponentLists.{list_of, MembersTo, IsMembers, CalleesTo, ComponentAmong, CalledFrom}
use Rattle.components.specs.Graph.{targets}
use Rattle.components.specs.Lists.{Ascending}
use Rattle.components.specs.Numbering.{ComponentCalls}
use Rattle.components.proofs.Appended.{push_cases}
use Rattle.components.proofs.Orders.{leads_low}

pub component_more : (component_of : List ℕ) (own : ℕ) (nodes : List ℕ) (i : ℕ) (old found found' : List ℕ)
    → ((m : ℕ) → Contains found m ↔ (Contains old m ⊎ ComponentAmong component_of own nodes i m))
    → ((m : ℕ) → Contains found' m ↔ (Contains found m ⊎ ((m ≡ own → ⊥) × (m ≡ slice_index component_of (slice_index nodes i)))))
    → (m : ℕ) → Contains found' m ↔ (Contains old m ⊎ ComponentAmong component_of own nodes (i + 1) m)
component_more component_of own nodes i old found found' before step m = (there, back)
  where
    there : Contains found' m → Contains old m ⊎ ComponentAmong component_of own nodes (i + 1) m
    there has =
        elim ((step m).0 has) [
          | inl was ↦ elim ((before m).0 was) [
            | inl first ↦ inl first
            | inr among ↦ inr (among.0, (among.1.0, omega (arith, among.1.1), among.1.2))
          ]
          | inr new ↦ inr (new.0, (i, omega arith, sym new.1))
        ]

    back : Contains old m ⊎ ComponentAmong component_of own nodes (i + 1) m → Contains found' m
    back (inl first) = (step m).1 (inl ((before m).1 (inl first)))
    back (inr (ne, (k, under, is))) =
        elim (cases_lt k i) [
          | inl less ↦ (step m).1 (inl ((before m).1 (inr (ne, (k, less, is)))))
          | inr here ↦ let same : k ≡ i = omega arith in (step m).1 (inr (ne, sym is ∙ ap (λ j. slice_index component_of (slice_index nodes j)) same))
        ]

pub called_more : (graph : List (List ℕ)) (component_of : List ℕ) (own : ℕ) (nodes : List ℕ) (i : ℕ) (ts found found' : List ℕ)
    → ((m : ℕ) → Contains found m ↔ CalledFrom graph component_of own nodes i m) → ts ≡ targets graph (slice_index nodes i)
    → ((m : ℕ) → Contains found' m ↔ (Contains found m ⊎ ComponentAmong component_of own ts (length ts) m))
    → (m : ℕ) → Contains found' m ↔ CalledFrom graph component_of own nodes (i + 1) m
called_more graph component_of own nodes i ts found found' before is_ts step m = (there, back)
  where
    there : Contains found' m → CalledFrom graph component_of own nodes (i + 1) m
    there has =
        elim ((step m).0 has) [
          | inl was ↦ let old = (before m).0 was in (old.0, omega (arith, old.1), old.2)
          | inr new ↦ (i, omega arith, subst (λ xs. ComponentAmong component_of own xs (length xs) m) is_ts new)
        ]

    back : CalledFrom graph component_of own nodes (i + 1) m → Contains found' m
    back (j, under, among) =
        elim (cases_lt j i) [
          | inl less ↦ (step m).1 (inl ((before m).1 (j, less, among)))
          | inr here ↦
              let same : j ≡ i = omega arith in
              let among_i : ComponentAmong component_of own (targets graph (slice_index nodes i)) (length (targets graph (slice_index nodes i))) m =
              subst (λ q. ComponentAmong component_of own (targets graph (slice_index nodes q)) (length (targets graph (slice_index nodes q))) m) same among in
              (step m).1 (inr (subst (λ xs. ComponentAmong component_of own xs (length xs) m) (sym is_ts) among_i))
        ]

pub add_one : {E : Type 0} (r : Result (Unit {0}) E) (old found : List ℕ) (own component : ℕ) → (component ≡ own → ⊥)
    → OnOk r ((x : ℕ) → Contains found x ↔ (Contains old x ⊎ (x ≡ component))) → OnOk r ((m : ℕ) → Contains found m ↔ (Contains old m ⊎ ((m ≡ own → ⊥) × (m ≡ component))))
add_one (Ok _) old found own component ne all =
    λ m. (
      (λ has. elim ((all m).0 has) [ inl was ↦ inl was | inr is ↦ inr ((λ e. ne (sym is ∙ e)), is) ]),
      elim [ inl was ↦ (all m).1 (inl was) | inr new ↦ (all m).1 (inr new.1) ],
    )
add_one (Err _) old found own component ne all = tt

pub found_is : {E : Type 0} (r : Result (List ℕ) E) (found : List ℕ) (P : List ℕ → Type 0) → P found → IfOk r (λ xs. xs ≡ found) → IfOk r P
found_is (Ok xs) found P has is = subst P (sym is) has
found_is (Err _) found P has is = tt

-- a greater number comes last
ascending_push : (xs : List ℕ) (y : ℕ) → Ascending xs → ((x : ℕ) → Contains xs x → x < y) → Ascending (xs ++ y ∷ [])
ascending_push xs y sorted all i j d before under =
    elim (push_cases xs y d j under) [
      | inl old ↦
          let low : i < length xs = omega arith in
          rw (old.1, get_or_append_left xs (y ∷ []) d i low) (sorted i j d before old.0)
      | inr end ↦
          let low : i < length xs = omega arith in
          rw (end.1, get_or_append_left xs (y ∷ []) d i low) (all (get_or xs i d) (Contains-get_or xs i d low))
    ]

pub members_more : (component_of : List ℕ) (lists lists' : List (List ℕ)) (count i : ℕ) → MembersTo component_of lists count i → slice_index component_of i < count
    → lists' ≡ set lists (slice_index component_of i) (list_of lists (slice_index component_of i) ++ i ∷ []) → MembersTo component_of lists' count (i + 1)
members_more component_of lists lists' count i s low is = subst (λ ls. MembersTo component_of ls count (i + 1)) (sym is) (record { sizes = length-set lists component more ∙ s.sizes; sorted = sorted'; exact = exact' })
  where
    component : ℕ
    component = slice_index component_of i

    more : List ℕ
    more = list_of lists (slice_index component_of i) ++ i ∷ []

    list_cases : (n : ℕ) → ((n ≡ slice_index component_of i) × (list_of (set lists (slice_index component_of i) (list_of lists (slice_index component_of i) ++ i ∷ [])) n ≡ list_of lists (slice_index component_of i) ++ i ∷ []))
        ⊎ ((n ≡ slice_index component_of i → ⊥) × (list_of (set lists (slice_index component_of i) (list_of lists (slice_index component_of i) ++ i ∷ [])) n ≡ list_of lists n))
    list_cases n =
        elim (cases_eq n (slice_index component_of i)) [
          | inl e ↦ inl (
            e,
            ap (list_of (set lists (slice_index component_of i) (list_of lists (slice_index component_of i) ++ i ∷ []))) e
                ∙ get_or-set_same lists (slice_index component_of i) (list_of lists (slice_index component_of i) ++ i ∷ []) [] (omega (arith, s.sizes)),
          )
          | inr ne ↦ inr (ne, get_or-set_other lists (slice_index component_of i) n (list_of lists (slice_index component_of i) ++ i ∷ []) [] ne)
        ]

    sorted' : (n : ℕ) → Ascending (list_of (set lists (slice_index component_of i) (list_of lists (slice_index component_of i) ++ i ∷ [])) n)
    sorted' n =
        elim (list_cases n) [
          | inl here ↦ subst Ascending (sym here.1) (ascending_push (list_of lists (slice_index component_of i)) i (s.sorted (slice_index component_of i)) (λ x has. ((s.exact (slice_index component_of i) x).0 has).0))
          | inr other ↦ subst Ascending (sym other.1) (s.sorted n)
        ]

    exact' : (n f : ℕ) → Contains (list_of (set lists (slice_index component_of i) (list_of lists (slice_index component_of i) ++ i ∷ [])) n) f ↔ ((f < i + 1) × (slice_index component_of f ≡ n))
    exact' n f =
        elim (list_cases n) [
          | inl here ↦ (
            (λ has. elim (Contains-push_cases (list_of lists (slice_index component_of i)) i f (subst (λ xs. Contains xs f) here.1 has)) [
              | inl old ↦ let was = (s.exact (slice_index component_of i) f).0 old in (omega (arith, was.0), was.1 ∙ sym here.0)
              | inr e ↦ (omega (arith, e), ap (slice_index component_of) (sym e) ∙ sym here.0)
            ]),
            (λ both. subst (λ xs. Contains xs f) (sym here.1) (elim (cases_lt f i) [
              | inl less ↦ Contains-append_left (list_of lists (slice_index component_of i)) (i ∷ []) f ((s.exact (slice_index component_of i) f).1 (less, both.1 ∙ here.0))
              | inr high ↦ let same : i ≡ f = omega (arith, both.0) in subst (λ x. Contains (list_of lists (slice_index component_of i) ++ i ∷ []) x) same (Contains-push (list_of lists (slice_index component_of i)) i)
            ])),
          )
          | inr other ↦ (
            (λ has. let was = (s.exact n f).0 (subst (λ xs. Contains xs f) other.1 has) in (omega (arith, was.0), was.1)),
            (λ both. subst (λ xs. Contains xs f) (sym other.1) (elim (cases_lt f i) [
              | inl less ↦ (s.exact n f).1 (less, both.1)
              | inr high ↦ absurd (let same : f ≡ i = omega (arith, both.0) in other.0 (sym both.1 ∙ ap (slice_index component_of) same))
            ])),
          )
        ]

-- the callees of a component, from the nodes that its members lead to
pub called_calls : (graph : List (List ℕ)) (component_of : List ℕ) (members : List (List ℕ)) (count own : ℕ) (nodes : List ℕ)
    → IsMembers component_of members count → length component_of ≡ length graph → nodes ≡ list_of members own
    → (m : ℕ) → CalledFrom graph component_of own nodes (length nodes) m ↔ ComponentCalls graph component_of own m
called_calls graph component_of members count own nodes s same is m = (there, back)
  where
    there : CalledFrom graph component_of own nodes (length nodes) m → ComponentCalls graph component_of own m
    there (j, under, among) =
        let f = slice_index nodes j in
        let g = slice_index (targets graph f) among.1.0 in
        let has : Contains (list_of members own) f = subst (λ xs. Contains xs f) is (Contains-get_or nodes j 0 under) in
        (among.0, (f, g, ((s.exact own f).0 has).1, Contains-get_or (targets graph f) among.1.0 0 among.1.1, among.1.2))

    back : ComponentCalls graph component_of own m → CalledFrom graph component_of own nodes (length nodes) m
    back (ne, (f, g, at_f, leads, at_g)) =
        let low : f < length component_of = omega (arith, leads_low graph f g leads) in
        let has : Contains nodes f = subst (λ xs. Contains xs f) (sym is) ((s.exact own f).1 (low, at_f)) in
        let is_f : slice_index nodes has.0 ≡ f = get_or_default nodes has.0 0 f has.1 ∙ has.2 in
        let is_g : slice_index (targets graph f) leads.0 ≡ g = get_or_default (targets graph f) leads.0 0 g leads.1 ∙ leads.2 in
        let here : ComponentAmong component_of own (targets graph f) (length (targets graph f)) m = (ne, (leads.0, leads.1, ap (slice_index component_of) is_g ∙ at_g)) in
        (has.0, has.1, subst (λ v. ComponentAmong component_of own (targets graph v) (length (targets graph v)) m) (sym is_f) here)

pub callees_more : (graph : List (List ℕ)) (component_of : List ℕ) (members lists lists' : List (List ℕ)) (count own : ℕ) (nodes found : List ℕ)
    → CalleesTo graph component_of lists own → IsMembers component_of members count → length component_of ≡ length graph → nodes ≡ list_of members own → Ascending found
    → ((m : ℕ) → Contains found m ↔ CalledFrom graph component_of own nodes (length nodes) m) → lists' ≡ lists ++ found ∷ [] → CalleesTo graph component_of lists' (own + 1)
callees_more graph component_of members lists lists' count own nodes found s ms same is_nodes sorted_found exact_found is =
    subst (λ ls. CalleesTo graph component_of ls (own + 1)) (sym is)
    (record { sizes = length_push lists found ∙ ap (λ n. n + 1) s.sizes; sorted = sorted'; exact = exact' })
  where
    list_cases : (n : ℕ) → n < own + 1 → ((n < own) × (list_of (lists ++ found ∷ []) n ≡ list_of lists n)) ⊎ ((n ≡ own) × (list_of (lists ++ found ∷ []) n ≡ found))
    list_cases n under =
        elim (push_cases lists found [] n (omega (arith, length_push lists found, s.sizes))) [
          | inl old ↦ inl (omega (arith, old.0, s.sizes), old.1)
          | inr end ↦ inr (end.0 ∙ s.sizes, end.1)
        ]

    sorted' : (n : ℕ) → n < own + 1 → Ascending (list_of (lists ++ found ∷ []) n)
    sorted' n under =
        elim (list_cases n under) [
          | inl old ↦ subst Ascending (sym old.1) (s.sorted n old.0)
          | inr end ↦ subst Ascending (sym end.1) sorted_found
        ]

    exact' : (n m : ℕ) → n < own + 1 → Contains (list_of (lists ++ found ∷ []) n) m ↔ ComponentCalls graph component_of n m
    exact' n m under =
        elim (list_cases n under) [
          | inl old ↦ (
            (λ has. (s.exact n m old.0).0 (subst (λ xs. Contains xs m) old.1 has)),
            (λ calls. subst (λ xs. Contains xs m) (sym old.1) ((s.exact n m old.0).1 calls)),
          )
          | inr end ↦
              let both = called_calls graph component_of members count own nodes ms same is_nodes m in (
                (λ has. subst (λ k. ComponentCalls graph component_of k m) (sym end.0) (both.0 ((exact_found m).0 (subst (λ xs. Contains xs m) end.1 has)))),
                (λ calls. subst (λ xs. Contains xs m) (sym end.1) ((exact_found m).1 (both.1 (subst (λ k. ComponentCalls graph component_of k m) end.0 calls)))),
              )
        ]
