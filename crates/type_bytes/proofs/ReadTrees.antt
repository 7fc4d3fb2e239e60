-- The trees that are read, and what they stand for.
use Rattle.std.proofs.Common.{◌≡◌, ◌⊎◌, inl, inr, ℕ, zero, suc, ◌+◌, ◌-◌, ◌<◌, ◌≤◌, Bool, true, false, not, cond, List, []}
use Rattle.std.proofs.Common.{◌∷◌, ◌++◌, Option, Some, None, length, map, take, get_or, refl, sym, ap, ◌∙◌, subst, arith}
use Rattle.std.specs.Prelude.{nat_le, nat_lt, ◌==◌}
use Rattle.std.specs.declared.cmp.Ordering.{Ordering}
use Rattle.std.specs.declared.cmp.Ordering.TheVariants.{Less, Equal, Greater}
use Rattle.std.specs.Ordering.{nat_cmp, is_lt}
use Rattle.std.specs.Cmp.{IsTotalOrder, nat_cmp_is}
use Rattle.std.specs.FinSet.{IsAntisymmetric}
use Rattle.std.proofs.lemmas.List.{get_or-map, length-map, take_all}
use Rattle.std.proofs.lemmas.Bool.{false_from_ne_true, cases_Bool}
use Rattle.type_kinds_sets.proofs.AscendingLaws.{ascending-more, not_ascending}
use borrow.Author.Tests.{ltb-true, ltb-false, eqb-true, eq-eqb, leb-true, le-leb}
use Rattle.type_kinds_sets.specs.Ascending.{is_ascending}
use Rattle.type_lattice_model.specs.Tables.{keys}
use Rattle.type_lattice_model.specs.Shapes.{PlainParts, TypeAt, Body}
use Rattle.type_lattice_model.specs.Operations.{ops, plain_none, of_plain}
use Rattle.type_lattice_model.specs.Full.{is_any}
use Rattle.type_lattice_model.proofs.FullLaws.{any_is_all, all_is_any}
use Rattle.type_lattice_trees.specs.declared.node.Node.{Node}
use Rattle.type_lattice_trees.specs.declared.node.Node.TheVariants as v
use Rattle.type_lattice_trees.specs.declared.node.PartsOf.{PartsOf}
use Rattle.type_lattice_trees.specs.declared.node.SizeOf.{SizeOf}
use Rattle.type_lattice_trees.specs.declared.node.TagOf.{TagOf}
use Rattle.type_lattice_trees.specs.View.{view, row_view, tags_view, body_view, sizes_view, parts_view, Fits, EachInParts, PartsFit}
use Rattle.type_lattice_trees.proofs.Views.{view_any, view_of, fits_of, normal_parts, one_more}
use Rattle.type_bytes.specs.declared.faults.BytesFault.{BytesFault}
use Rattle.type_bytes.specs.declared.faults.BytesFault.TheVariants as faults
use Rattle.type_bytes.specs.steps.Reading.{◌>>=◌, Fails, many, given, product_at, tags_at, body_at, masked_at, behind_at, element_at, type_at}
use Rattle.type_bytes.proofs.FormatLaws.{AreBytes}
use Rattle.type_bytes.proofs.TypeFormats.{masked_normal}

-- ---- behind the first byte

pub any_read : (d b : ℕ) (bytes : List ℕ) → b ≡ 1 → behind_at d b bytes ≡ Some (view d v.Any, bytes)
unfolding behind_at ops
any_read zero b bytes e = ap (λ c. given c (true, bytes)) (eq-eqb b 1 e) ∙ ap (λ t. Some (t, bytes)) (sym (view_any v.Any refl zero))
any_read (suc d) b bytes e = ap (λ c. cond c (Some ((ops (suc d)).any, bytes)) (cond (b == 2) (masked_at (ops d) (element_at d) bytes >>= λ p. given (not (is_any (suc d) p.0)) p) None)) (eq-eqb b 1 e)
    ∙ ap (λ t. Some (t, bytes)) (sym (view_any v.Any refl (suc d)))

not_1 : (b : ℕ) → (b ≡ 1 → ⊥) → (b == 1) ≡ false
not_1 b h = false_from_ne_true (b == 1) (λ e. h (eqb-true b 1 e))

pub none_read : (d b : ℕ) (bytes : List ℕ) → (b ≡ 1 → ⊥) → (d ≡ 0) ⊎ (b ≡ 2 → ⊥) → behind_at d b bytes ≡ None
unfolding behind_at
none_read zero b bytes h k = ap (λ c. given c (true, bytes)) (not_1 b h)
none_read (suc d) b bytes h (inl z) = absurd (omega arith)
none_read (suc d) b bytes h (inr k) =
    ap (λ c. cond c (Some ((ops (suc d)).any, bytes)) (cond (b == 2) (masked_at (ops d) (element_at d) bytes >>= λ p. given (not (is_any (suc d) p.0)) p) None)) (not_1 b h)
    ∙ ap (λ c. cond c (masked_at (ops d) (element_at d) bytes >>= λ p. given (not (is_any (suc d) p.0)) p) None) (false_from_ne_true (b == 2) (λ e. k (eqb-true b 2 e)))

two : (d b : ℕ) (bytes : List ℕ) → b ≡ 2 → behind_at (suc d) b bytes ≡ (masked_at (ops d) (element_at d) bytes >>= λ p. given (not (is_any (suc d) p.0)) p)
unfolding behind_at
two d b bytes e = ap (λ n. behind_at (suc d) n bytes) e

masked_fails : (d b : ℕ) (bytes : List ℕ) → b ≡ 2 → (fault : BytesFault) → Fails fault (masked_at (ops d) (element_at d) bytes) → Fails fault (behind_at (suc d) b bytes)
masked_fails d b bytes e faults.Short k = two d b bytes e ∙ ap (λ r. r >>= λ p. given (not (is_any (suc d) p.0)) p) k
masked_fails d b bytes e faults.NotCanonical k = two d b bytes e ∙ ap (λ r. r >>= λ p. given (not (is_any (suc d) p.0)) p) k
masked_fails d b bytes e faults.Memory k = tt

above : (d : ℕ) → (d ≡ 0 → ⊥) → 1 ≤ d
above zero h = absurd (h refl)
above (suc d) h = omega arith

pub behind_fails : (d b : ℕ) (bytes : List ℕ) → (d ≡ 0 → ⊥) → b ≡ 2 → (fault : BytesFault) → Fails fault (masked_at (ops (d - 1)) (element_at (d - 1)) bytes) → Fails fault (behind_at d b bytes)
behind_fails d b bytes h e fault k = subst (λ n. Fails fault (behind_at n b bytes)) (sym (one_more d (above d h))) (masked_fails (d - 1) b bytes e fault k)

-- what `made` gives of parts
pub record IsMade (p : PartsOf Node) (n : Node) : Type 0 where
  pub fits : (d : ℕ) → PartsFit d p → Fits (suc d) n
  pub value : (d : ℕ) → PartsFit d p → view (suc d) n ≡ parts_view d p

parts_fit : (d : ℕ) (bytes rest : List ℕ) (p : PartsOf Node) → AreBytes bytes → EachInParts (Fits d) p → masked_at (ops d) (element_at d) bytes ≡ Some (parts_view d p, rest) → PartsFit d p
parts_fit d bytes rest p k each e = record { normal = normal_parts d (parts_view d p) (masked_normal d bytes (parts_view d p) rest k e); each = each }

next_of : (d b : ℕ) (bytes rest : List ℕ) (p q : PartsOf Node) (n : Node) → b ≡ 2 → AreBytes bytes → EachInParts (Fits d) p → masked_at (ops d) (element_at d) bytes ≡ Some (parts_view d p, rest) → IsMade p n
    → n ≡ v.Of q → Fits (suc d) n × (behind_at (suc d) b bytes ≡ Some (view (suc d) n, rest))
next_of d b bytes rest p q n e k each read made is =
    let fit = parts_fit d bytes rest p k each read in
    let same = made.value d fit in
    let not_any : is_any (suc d) (parts_view d p) ≡ false = false_from_ne_true (is_any (suc d) (parts_view d p)) (λ a. (fits_of n q is d (made.fits d fit)).1 (sym (view_of n q is d) ∙ same ∙ any_is_all (suc d) (parts_view d p) a)) in
    (made.fits d fit, two d b bytes e ∙ ap (λ r. r >>= λ x. given (not (is_any (suc d) x.0)) x) read ∙ ap (λ c. given (not c) (parts_view d p, rest)) not_any ∙ ap (λ x. Some (x, rest)) (sym same))

next_any : (d b : ℕ) (bytes rest : List ℕ) (p : PartsOf Node) (n : Node) → b ≡ 2 → AreBytes bytes → EachInParts (Fits d) p → masked_at (ops d) (element_at d) bytes ≡ Some (parts_view d p, rest) → IsMade p n → n ≡ v.Any
    → behind_at (suc d) b bytes ≡ None
next_any d b bytes rest p n e k each read made is =
    let fit = parts_fit d bytes rest p k each read in
    let any : is_any (suc d) (parts_view d p) ≡ true = ap (is_any (suc d)) (sym (made.value d fit) ∙ view_any n is (suc d)) ∙ all_is_any (suc d) in
    two d b bytes e ∙ ap (λ r. r >>= λ x. given (not (is_any (suc d) x.0)) x) read ∙ ap (λ c. given (not c) (parts_view d p, rest)) any

pub of_read : (d b : ℕ) (bytes rest : List ℕ) (p q : PartsOf Node) (n : Node) → (d ≡ 0 → ⊥) → b ≡ 2 → AreBytes bytes → EachInParts (Fits (d - 1)) p
    → masked_at (ops (d - 1)) (element_at (d - 1)) bytes ≡ Some (parts_view (d - 1) p, rest) → IsMade p n → n ≡ v.Of q → Fits d n × (behind_at d b bytes ≡ Some (view d n, rest))
of_read d b bytes rest p q n h e k each read made is =
    subst (λ m. Fits m n × (behind_at m b bytes ≡ Some (view m n, rest))) (sym (one_more d (above d h))) (next_of (d - 1) b bytes rest p q n e k each read made is)

pub any_not_read : (d b : ℕ) (bytes rest : List ℕ) (p : PartsOf Node) (n : Node) → (d ≡ 0 → ⊥) → b ≡ 2 → AreBytes bytes → EachInParts (Fits (d - 1)) p
    → masked_at (ops (d - 1)) (element_at (d - 1)) bytes ≡ Some (parts_view (d - 1) p, rest) → IsMade p n → n ≡ v.Any → behind_at d b bytes ≡ None
any_not_read d b bytes rest p n h e k each read made is =
    subst (λ m. behind_at m b bytes ≡ None) (sym (one_more d (above d h))) (next_any (d - 1) b bytes rest p n e k each read made is)

-- ---- bodies

has_tags : (d : ℕ) → (d ≡ 0 → ⊥) → (ops d).has_tags ≡ true
unfolding ops
has_tags zero h = absurd (h refl)
has_tags (suc d) h = refl

no_tags : (d : ℕ) → d ≡ 0 → (ops d).has_tags ≡ false
unfolding ops
no_tags zero h = refl
no_tags (suc d) h = absurd (omega arith)

not_0 : (n : ℕ) → (n ≡ 0 → ⊥) → (n == 0) ≡ false
not_0 n h = false_from_ne_true (n == 0) (λ e. h (eqb-true n 0 e))

module _ (d n b : ℕ) (bytes rest : List ℕ) (e : bytes ≡ b ∷ rest) (some : b ≡ 0 → ⊥) where
  abbrev later : Option (Body (TypeAt d) × List ℕ)
  later = cond (n == 0) None (cond (ops d).has_tags (cond (nat_le b 13) (tags_at (ops d) (element_at d) (n - 1) b rest) None) None)

  body_later : body_at (ops d) (element_at d) n bytes ≡ later
  unfolding body_at
  body_later = ap (body_at (ops d) (element_at d) n) e ∙ ap (λ c. cond c (product_at (ops d) (element_at d) n rest) later) (not_0 b some)

  pub tags_read : (n ≡ 0 → ⊥) → (d ≡ 0 → ⊥) → b ≤ 13 → body_at (ops d) (element_at d) n bytes ≡ tags_at (ops d) (element_at d) (n - 1) b rest
  tags_read size level few =
      body_later
      ∙ ap (λ c. cond c None (cond (ops d).has_tags (cond (nat_le b 13) (tags_at (ops d) (element_at d) (n - 1) b rest) None) None)) (not_0 n size)
      ∙ ap (λ c. cond c (cond (nat_le b 13) (tags_at (ops d) (element_at d) (n - 1) b rest) None) None) (has_tags d level)
      ∙ ap (λ c. cond c (tags_at (ops d) (element_at d) (n - 1) b rest) None) (le-leb b 13 few)

  none_later : (n == 0) ≡ true → later ≡ None
  none_later h = ap (λ c. cond c None (cond (ops d).has_tags (cond (nat_le b 13) (tags_at (ops d) (element_at d) (n - 1) b rest) None) None)) h

  or_none : (c : Bool) → cond {A = Option (Body (TypeAt d) × List ℕ)} c None None ≡ None
  or_none true = refl
  or_none false = refl

  pub body_not_read : (n ≡ 0) ⊎ ((d ≡ 0) ⊎ (13 < b)) → body_at (ops d) (element_at d) n bytes ≡ None
  body_not_read (inl z) = body_later ∙ none_later (eq-eqb n 0 z)
  body_not_read (inr (inl z)) =
      body_later ∙ ap (λ c. cond (n == 0) None (cond c (cond (nat_le b 13) (tags_at (ops d) (element_at d) (n - 1) b rest) None) None)) (no_tags d z) ∙ or_none (n == 0)
  body_not_read (inr (inr many)) =
      let too_many : nat_le b 13 ≡ false = false_from_ne_true (nat_le b 13) (λ h. let few = leb-true b 13 h in absurd (omega arith)) in
      body_later ∙ ap (λ c. cond (n == 0) None (cond (ops d).has_tags (cond c (tags_at (ops d) (element_at d) (n - 1) b rest) None) None)) too_many ∙ ap (λ r. cond (n == 0) None r) (or_none (ops d).has_tags) ∙ or_none (n == 0)

-- ---- one item more

pub row_more : (d : ℕ) (ns : List Node) (n : Node) → row_view d (ns ++ n ∷ []) ≡ row_view d ns ++ view d n ∷ []
row_more d [] n = refl
row_more d (x ∷ ns) n = ap (λ r. view d x ∷ r) (row_more d ns n)

pub tags_more : (d : ℕ) (ts : List (TagOf Node)) (t : TagOf Node) → tags_view d (ts ++ t ∷ []) ≡ tags_view d ts ++ (t.atom, row_view d t.rest) ∷ []
tags_more d [] t = refl
tags_more d (x ∷ ts) t = ap (λ r. (x.atom, row_view d x.rest) ∷ r) (tags_more d ts t)

pub sizes_more : (d : ℕ) (ss : List (SizeOf Node)) (s : SizeOf Node) → sizes_view d (ss ++ s ∷ []) ≡ sizes_view d ss ++ (s.size, body_view d s.body) ∷ []
sizes_more d [] s = refl
sizes_more d (x ∷ ss) s = ap (λ r. (x.size, body_view d x.body) ∷ r) (sizes_more d ss s)

-- ---- keys

pub tag_keys : (d : ℕ) (ts : List (TagOf Node)) → keys (tags_view d ts) ≡ map (λ t. t.atom) ts
tag_keys d [] = refl
tag_keys d (t ∷ ts) = ap (λ r. t.atom ∷ r) (tag_keys d ts)

pub size_keys : (d : ℕ) (ss : List (SizeOf Node)) → keys (sizes_view d ss) ≡ map (λ s. s.size) ss
size_keys d [] = refl
size_keys d (s ∷ ss) = ap (λ r. s.size ∷ r) (size_keys d ss)

-- ---- keys that ascend

pub below : (a b : ℕ) → a < b → is_lt (nat_cmp a b) ≡ true
below a b h = ap is_lt (sym (nat_cmp_is a b Less h))

pub not_below : (a b : ℕ) → b ≤ a → is_lt (nat_cmp a b) ≡ false
not_below a b h = elim (cases_Bool (nat_lt b a)) [
  | inl k ↦ ap is_lt (sym (nat_cmp_is a b Greater (ltb-true b a k)))
  | inr k ↦ ap is_lt (sym (nat_cmp_is a b Equal (let other = ltb-false b a k in omega arith)))
]

module _ {A K : Type 0} (R : K → K → Ordering) (total : IsTotalOrder R) (same : IsAntisymmetric R) (key : A
    → K) (xs : List A) (i j k : ℕ) (x y : A) (next : j ≡ i + 1) (after : k ≡ j + 1) (within : j < length xs) (at_i : x ≡ get_or xs i x) (at_j : y ≡ get_or xs j y) where
  key_i : get_or (map key xs) i (key x) ≡ key x
  key_i = get_or-map key xs i x (key x) (omega arith) ∙ ap key (sym at_i)

  key_j : get_or (map key xs) j (key y) ≡ key y
  key_j = get_or-map key xs j y (key y) within ∙ ap key (sym at_j)

  in_keys : j < length (map key xs)
  in_keys = omega (arith, length-map xs key)

  pub keys_more : is_ascending R (take j (map key xs)) ≡ true → is_lt (R (key x) (key y)) ≡ true → is_ascending R (take k (map key xs)) ≡ true
  keys_more so_far up = ascending-more total same (map key xs) i j k (key x) (key y) next after in_keys so_far ((λ l. is_lt (R (key_i l) (key_j l))) ∙ up)

  pub keys_fall : is_lt (R (key x) (key y)) ≡ false → is_ascending R (map key xs) ≡ false
  keys_fall falls = not_ascending total same (map key xs) i j (key x) (key y) next in_keys ((λ l. is_lt (R (key_i l) (key_j l))) ∙ falls)

pub all_keys : {A K : Type 0} (R : K → K → Ordering) (key : A → K) (xs : List A) (i : ℕ) → length xs ≤ i → is_ascending R (take i (map key xs)) ≡ true → is_ascending R (map key xs) ≡ true
all_keys R key xs i h so_far = ap (is_ascending R) (sym (take_all i (map key xs) (omega (arith, length-map xs key)))) ∙ so_far

pub first_key : {A K : Type 0} (R : K → K → Ordering) (key : A → K) (xs : List A) → is_ascending R (take 1 (map key xs)) ≡ true
first_key R key [] = refl
first_key R key (x ∷ xs) = refl

-- ---- none

pub none_first : (bytes rest : List ℕ) (b : ℕ) (n : Node) (p : PlainParts) → bytes ≡ b ∷ rest → b ≡ 0 → view 4 n ≡ of_plain (ops 3) p → p ≡ plain_none → type_at bytes ≡ Some (view 4 n, rest)
unfolding type_at ops
none_first bytes rest b n p e z is none = ap type_at (e ∙ ap (λ m. m ∷ rest) z) ∙ ap (λ t. Some (t, rest)) (sym (is ∙ ap (of_plain (ops 3)) none))
