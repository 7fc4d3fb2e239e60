-- The pairs that the calls of one module add.
use Rattle.std.proofs.Common.{◌≡◌, ◌↔◌, ℕ, ◌⊎◌, inl, inr, true, false, ◌||◌, List, [], ◌∷◌, Some, slice_get, get_or, refl, sym, ap, ◌∙◌, subst, true≢false, is_some, arith}
use Rattle.std.specs.Prelude.{position}
use Rattle.std.specs.List.{IsDistinct}
use Rattle.std.specs.Cmp.Lexicographic.{bytes_decides}
use Rattle.std.specs.Map.{lookup, keys_of}
use Rattle.std.proofs.lemmas.Bool.{cases_lt, or_cases, or_right}
use Rattle.std.proofs.lemmas.List.Quantifiers.{position-Some}
use Rattle.std.proofs.lemmas.Map.Made.{AllPairs-from_IsDistinct, is_some-lookup}
use Rattle.std.proofs.lemmas.Option.{slice_get-get_or, slice_get_within, get_or_from_slice_get}
use Rattle.type_kinds.specs.declared.atom.Atom.{Atom}
use Rattle.components.specs.Graph.{Leads}
use Rattle.core_scope.specs.Names.{same_atom}
use Rattle.table_keep.specs.Groups.{has}
use Rattle.table_keep.specs.steps.Named.{IsNamed}
use Rattle.table_keep.proofs.RisingNames.{has_at}

-- ---- where a key stands

one_place : (names : List Atom) → IsDistinct same_atom names → (i j : ℕ) (a : Atom) → slice_get names i ≡ Some a → slice_get names j ≡ Some a → i ≡ j
one_place names d i j a at_i at_j =
    let apart = AllPairs-from_IsDistinct bytes_decides names d in
    let is_i : get_or names i a ≡ a = get_or_from_slice_get names i a a at_i in
    let is_j : get_or names j a ≡ a = get_or_from_slice_get names j a a at_j in
    elim (cases_lt i j) [
      | inl below ↦ absurd (apart i j a below (slice_get_within names j a at_j) (is_i ∙ sym is_j))
      | inr above ↦ elim (cases_lt j i) [
        | inl below ↦ absurd (apart j i a below (slice_get_within names i a at_i) (is_j ∙ sym is_i))
        | inr same ↦ omega (arith, above, same)
      ]
    ]

pub place_found : (names : List Atom) → IsDistinct same_atom names → (x : Atom) (to : ℕ) → Some to ≡ position (same_atom x) names → (j : ℕ) → (j ≡ to) ↔ (slice_get names j ≡ Some x)
place_found names d x to is j =
    let p = position-Some (same_atom x) names to x (sym is) in
    let at : slice_get names to ≡ Some x = slice_get-get_or names to x p.0 ∙ ap Some (sym ((bytes_decides x (get_or names to x)).0 p.1)) in
    (λ e. subst (λ k. slice_get names k ≡ Some x) (sym e) at, λ there. one_place names d j to x there at)

pub no_place : {X : Type 0} (es : List (Atom × X)) (x : Atom) → false ≡ is_some (lookup (same_atom x) es) → (j : ℕ) → slice_get (keys_of es) j ≡ Some x → ⊥
no_place es x none j at = true≢false (sym (has_at (keys_of es) j x at) ∙ sym (is_some-lookup (same_atom x) es) ∙ sym none)

-- ---- the pairs of one call

-- the pairs of a graph, and those from a node to what passes
abbrev pub With : (graph : List (List ℕ)) (from : ℕ) → (ℕ → Type 0) → ℕ → ℕ → Type 0
With graph from to i j = Leads graph i j ⊎ ((i ≡ from) × to j)

pub same_pairs : (new old : List (List ℕ)) (from : ℕ) (to at : ℕ → Type 0) → ((j : ℕ) → to j ↔ at j) → ((i j : ℕ) → Leads new i j ↔ With old from to i j) → (i j : ℕ) → Leads new i j ↔ With old from at i j
same_pairs new old from to at same pairs i j = (there, back)
  where
    there : Leads new i j → With old from at i j
    there l = elim ((pairs i j).0 l) [
      | inl o ↦ inl o
      | inr p ↦ inr (p.0, (same j).0 p.1)
    ]

    back : With old from at i j → Leads new i j
    back (inl o) = (pairs i j).1 (inl o)
    back (inr p) = (pairs i j).1 (inr (p.0, (same j).1 p.1))

pub no_pair : (old : List (List ℕ)) (from : ℕ) (at : ℕ → Type 0) → ((j : ℕ) → at j → ⊥) → (i j : ℕ) → Leads old i j ↔ With old from at i j
no_pair old from at none i j = (λ l. inl l, back)
  where
    back : With old from at i j → Leads old i j
    back (inl o) = o
    back (inr p) = absurd (none j p.1)

-- ---- the pairs of many calls

named_cases : (names : List Atom) (x : Atom) (rest : List Atom) (j : ℕ) → IsNamed names (x ∷ rest) j → (slice_get names j ≡ Some x) ⊎ IsNamed names rest j
named_cases names x rest j n = elim (or_cases (same_atom n.name x) (has rest n.name) n.among) [
  | inl same ↦ inl (n.at ∙ ap Some ((bytes_decides n.name x).0 same))
  | inr later ↦ inr (record { name = n.name; at = n.at; among = later })
]

named_first : (names : List Atom) (x : Atom) (rest : List Atom) (j : ℕ) → slice_get names j ≡ Some x → IsNamed names (x ∷ rest) j
named_first names x rest j at = record { name = x; at = at; among = ap (λ b. b || has rest x) ((bytes_decides x x).1 refl) }

named_later : (names : List Atom) (x : Atom) (rest : List Atom) (j : ℕ) → IsNamed names rest j → IsNamed names (x ∷ rest) j
named_later names x rest j n = record { name = n.name; at = n.at; among = or_right (same_atom n.name x) (has rest n.name) n.among }

pub named_round : (names : List Atom) (new old : List (List ℕ)) (from : ℕ) (called rest : List Atom) (x : Atom) → called ≡ x ∷ rest
    → ((i j : ℕ) → Leads new i j ↔ With old from (λ k. slice_get names k ≡ Some x) i j) → (i j : ℕ) → With new from (IsNamed names rest) i j ↔ With old from (IsNamed names called) i j
named_round names new old from called rest x is pairs i j = subst (λ l. With new from (IsNamed names rest) i j ↔ With old from (IsNamed names l) i j) (sym is) (there, back)
  where
    there : With new from (IsNamed names rest) i j → With old from (IsNamed names (x ∷ rest)) i j
    there (inl l) = elim ((pairs i j).0 l) [
      | inl o ↦ inl o
      | inr p ↦ inr (p.0, named_first names x rest j p.1)
    ]
    there (inr p) = inr (p.0, named_later names x rest j p.1)

    back : With old from (IsNamed names (x ∷ rest)) i j → With new from (IsNamed names rest) i j
    back (inl o) = inl ((pairs i j).1 (inl o))
    back (inr p) = elim (named_cases names x rest j p.1) [
      | inl at ↦ inl ((pairs i j).1 (inr (p.0, at)))
      | inr n ↦ inr (p.0, n)
    ]

pub named_exit : (names : List Atom) (new old : List (List ℕ)) (from : ℕ) (left called : List Atom) → left ≡ []
    → ((i j : ℕ) → With new from (IsNamed names left) i j ↔ With old from (IsNamed names called) i j) → (i j : ℕ) → Leads new i j ↔ With old from (IsNamed names called) i j
named_exit names new old from left called none kept i j = (λ l. (kept i j).0 (inl l), λ w. back ((kept i j).1 w))
  where
    back : With new from (IsNamed names left) i j → Leads new i j
    back (inl l) = l
    back (inr p) = absurd (true≢false (sym (subst (λ l. has l p.1.name ≡ true) none p.1.among)))
