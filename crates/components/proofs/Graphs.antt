-- Graphs without pairs, and with one more pair.
use Rattle.std.proofs.Common.{◌≡◌, ℕ, ◌<◌, ◌⊎◌, ◌↔◌, inl, inr, Bool, true, false, List, [], ◌∷◌, ◌++◌, length, set, refl, sym, ◌∙◌, ap, subst}
use Rattle.std.specs.Prelude.{◌==◌, Contains, if◌then◌else◌, Result, Ok, Err, OnOk, OnErr}
use Rattle.std.specs.List.{list_any}
use Rattle.std.proofs.lemmas.List.{length-set, get_or_default, get_or-set_same, get_or-set_other, set-get_or}
use Rattle.std.proofs.lemmas.List.Elements.{Contains-append_left, Contains-push, Contains-push_cases}
use Rattle.std.proofs.lemmas.List.Folds.{Any-from_list_any}
use Rattle.std.proofs.lemmas.Bool.{cases_eq, eqb-true}
use Rattle.components.specs.Graph.{IsGraph, Leads, targets, with_target, with_pair}

pub contains_it : (xs : List ℕ) (g : ℕ) → list_any (λ x. g == x) xs ≡ true → Contains xs g
contains_it xs g e =
    let found = Any-from_list_any (λ x. g == x) xs e in
    let is : g ≡ found.1 = eqb-true g found.1 found.4 in
    (found.0, found.2, get_or_default xs found.0 g found.1 found.2 ∙ found.3 ∙ sym is)

with_target_cases : (xs : List ℕ) (g h : ℕ) → Contains (with_target xs g) h ↔ (Contains xs h ⊎ (h ≡ g))
with_target_cases xs g h = go (list_any (λ x. g == x) xs) refl
  where
    go : (b : Bool) → list_any (λ x. g == x) xs ≡ b → Contains (if b then xs else xs ++ g ∷ []) h ↔ (Contains xs h ⊎ (h ≡ g))
    go true e = ((λ found. inl found), elim [ inl found ↦ found | inr is ↦ subst (λ v. Contains xs v) (sym is) (contains_it xs g e) ])
    go false e = (
      (λ found. elim (Contains-push_cases xs g h found) [ inl old ↦ inl old | inr is ↦ inr (sym is) ]),
      elim [ inl found ↦ Contains-append_left xs (g ∷ []) h found | inr is ↦ subst (λ v. Contains (xs ++ g ∷ []) v) (sym is) (Contains-push xs g) ],
    )

-- the pairs of a graph with one more pair
pub pair_cases : (graph : List (List ℕ)) (from to : ℕ) → from < length graph → (f g : ℕ) → Leads (with_pair graph from to) f g ↔ (Leads graph f g ⊎ ((f ≡ from) × (g ≡ to)))
pair_cases graph from to low f g =
    elim (cases_eq f from) [
      | inl here ↦
          let is : targets (with_pair graph from to) f ≡ with_target (targets graph from) to = ap (targets (with_pair graph from to)) here ∙ get_or-set_same graph from (with_target (targets graph from) to) [] low in
          let both = with_target_cases (targets graph from) to g in (
            (λ leads. elim (both.0 (subst (λ xs. Contains xs g) is leads)) [
              | inl old ↦ inl (subst (λ v. Leads graph v g) (sym here) old)
              | inr same ↦ inr (here, same)
            ]),
            elim [
              | inl old ↦ subst (λ xs. Contains xs g) (sym is) (both.1 (inl (subst (λ v. Leads graph v g) here old)))
              | inr new ↦ subst (λ xs. Contains xs g) (sym is) (both.1 (inr new.1))
            ],
          )
      | inr apart ↦
          let is : targets (with_pair graph from to) f ≡ targets graph f = get_or-set_other graph from f (with_target (targets graph from) to) [] apart in (
            (λ leads. inl (subst (λ xs. Contains xs g) is leads)),
            elim [
              | inl old ↦ subst (λ xs. Contains xs g) (sym is) old
              | inr new ↦ absurd (apart new.0)
            ],
          )
    ]

pub stays_graph : (graph : List (List ℕ)) (from to : ℕ) → IsGraph graph → from < length graph → to < length graph → IsGraph (with_pair graph from to)
stays_graph graph from to g from_low to_low =
    let same : length (with_pair graph from to) ≡ length graph = length-set graph from (with_target (targets graph from) to) in
    record {
      counted = rw same g.counted;
      inside = λ f h leads. rw same (elim ((pair_cases graph from to from_low f h).0 leads) [
        | inl old ↦ g.inside f h old
        | inr new ↦ rw new.1 to_low
      ]);
    }

-- what a write of the targets of one node leaves, where it adds a target or changes nothing
pub written_graph : {E : Type 0} (r : Result (Unit {0}) E) (graph : List (List ℕ)) (from to : ℕ) (xs : List ℕ) → IsGraph graph → from < length graph → to < length graph
    → OnOk r (xs ≡ with_target (targets graph from) to) → OnErr r (xs ≡ targets graph from) → IsGraph (set graph from xs)
written_graph (Ok _) graph from to xs g from_low to_low is _ = subst (λ ys. IsGraph (set graph from ys)) (sym is) (stays_graph graph from to g from_low to_low)
written_graph (Err _) graph from to xs g from_low to_low _ is = subst IsGraph (sym (ap (set graph from) is ∙ set-get_or graph from [])) g

pub written_pairs : {E : Type 0} (r : Result (Unit {0}) E) (graph : List (List ℕ)) (from to : ℕ) (xs : List ℕ) → from < length graph
    → OnOk r (xs ≡ with_target (targets graph from) to) → OnOk r ((f g : ℕ) → Leads (set graph from xs) f g ↔ (Leads graph f g ⊎ ((f ≡ from) × (g ≡ to))))
written_pairs (Ok _) graph from to xs low is =
    subst (λ ys. (f g : ℕ) → Leads (set graph from ys) f g ↔ (Leads graph f g ⊎ ((f ≡ from) × (g ≡ to)))) (sym is) (pair_cases graph from to low)
written_pairs (Err _) graph from to xs low _ = tt
