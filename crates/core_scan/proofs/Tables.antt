-- Tables of texts with their sorts.
use Rattle.std.proofs.Common.{◌≡◌, ℕ, List, [], ◌∷◌, Bool, true, false, ◌&&◌, ◌⊎◌, inl, inr, refl, sym, ◌∙◌}
use Rattle.std.specs.List.{list_all}
use Rattle.std.specs.Str.{bytes_eq}
use Rattle.std.proofs.lemmas.Bool.{false≢true}
use Rattle.std.proofs.lemmas.Slice.Eq.{bytes_eq-Decides}
use Rattle.core_scan.specs.declared.sort.Sort.{Sort}
use Rattle.core_scan.specs.Vocabulary.{words, symbols, sort_in, IsOneOf}
use Rattle.core_scan.specs.steps.Fronts.{is_known}

-- what each text of a table passes
pub one_of_all : (test : List ℕ → Bool) (table : List (List ℕ × Sort)) (x : List ℕ) → list_all (λ entry. test entry.0) table ≡ true → IsOneOf table x → test x ≡ true
one_of_all test [] x h o = absurd o
one_of_all test (entry ∷ table) x h o = go (test entry.0) refl h o (one_of_all test table x)
  where
    go : (b : Bool) → test entry.0 ≡ b → (test entry.0 && list_all (λ e. test e.0) table) ≡ true → (x ≡ entry.0) ⊎ IsOneOf table x → (list_all (λ e. test e.0) table ≡ true → IsOneOf table x → test x ≡ true)
        → test x ≡ true
    go true e k (inl q) more = rw q e
    go true e k (inr q) more = more (rw e at k) q
    go false e k o more = let w : false ≡ true = rw e at k in cc

-- a text of a known sort is one of the table
pub one_of_known : (table : List (List ℕ × Sort)) (x : List ℕ) → is_known (sort_in table x) ≡ true → IsOneOf table x
one_of_known [] x h = cc
one_of_known (entry ∷ table) x h = go (bytes_eq x entry.0) refl (one_of_known table x)
  where
    go : (b : Bool) → bytes_eq x entry.0 ≡ b → (is_known (sort_in table x) ≡ true → IsOneOf table x) → IsOneOf (entry ∷ table) x
    go true e more = inl ((bytes_eq-Decides x entry.0).0 e)
    go false e more = inr (more (rw e at h))

-- each sort of the table is known
abbrev pub knows : List (List ℕ × Sort) → Bool
knows table = list_all (λ entry. is_known entry.1) table

pub known_of_one : (table : List (List ℕ × Sort)) (x : List ℕ) → knows table ≡ true → IsOneOf table x → is_known (sort_in table x) ≡ true
known_of_one [] x h o = absurd o
known_of_one (entry ∷ table) x h o = go (bytes_eq x entry.0) refl (is_known entry.1) refl h o (known_of_one table x)
  where
    go : (b : Bool) → bytes_eq x entry.0 ≡ b → (k : Bool) → is_known entry.1 ≡ k → (is_known entry.1 && knows table) ≡ true → (x ≡ entry.0) ⊎ IsOneOf table x
        → (knows table ≡ true → IsOneOf table x → is_known (sort_in table x) ≡ true) → is_known (sort_in (entry ∷ table) x) ≡ true
    go b e false f all among more = let w : false ≡ true = rw f at all in cc
    go true e true f all among more = rw e f
    go false e true f all (inl is) more = absurd (false≢true (sym e ∙ (bytes_eq-Decides x entry.0).1 is))
    go false e true f all (inr among) more = rw e (more (rw f at all) among)

pub words_known : knows words ≡ true
words_known = refl

pub symbols_known : knows symbols ≡ true
symbols_known = refl

-- a text is one of a table, or none
pub one_or_none : (table : List (List ℕ × Sort)) (x : List ℕ) → IsOneOf table x ⊎ (IsOneOf table x → ⊥)
one_or_none [] x = inr (λ o. o)
one_or_none (entry ∷ table) x = go (bytes_eq x entry.0) refl (one_or_none table x)
  where
    go : (b : Bool) → bytes_eq x entry.0 ≡ b → IsOneOf table x ⊎ (IsOneOf table x → ⊥) → IsOneOf (entry ∷ table) x ⊎ (IsOneOf (entry ∷ table) x → ⊥)
    go true e others = inl (inl ((bytes_eq-Decides x entry.0).0 e))
    go false e (inl among) = inl (inr among)
    go false e (inr none) = inr neither
      where
        neither : (x ≡ entry.0) ⊎ IsOneOf table x → ⊥
        neither (inl is) = false≢true (sym e ∙ (bytes_eq-Decides x entry.0).1 is)
        neither (inr among) = none among
