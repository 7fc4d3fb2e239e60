-- The least name of an item of which something doesn't hold, one item after another.
use Rattle.std.proofs.Common.{◌≡◌, ◌↔◌, Bool, true, false, cond, List, [], ◌∷◌, ◌++◌, Contains, inl, inr, Option, Some, None, IsTrue, refl, sym, ◌∙◌, subst, true≢false}
use Rattle.std.proofs.lemmas.List.Elements.{Contains-append_left, Contains-append_right, Contains-append_cases}
use Rattle.type_kinds.proofs.Lists.{contains_none, contains_first, contains_cases}
use Rattle.type_kinds.specs.declared.atom.Atom.{Atom}
use Rattle.type_kinds_sets.proofs.AscendingLaws as ascending
use Rattle.type_kinds_sets.proofs.NameLaws.{name_total, name_same}
use Rattle.table_file.specs.Order.{is_name_before}
use Rattle.table_verify_rules.specs.steps.Leasts.{IsLeastWithout}
use Rattle.table_verify_rules.specs.steps.Lesser.{lesser_name}

module _ {X : Type 0} (name : X → Atom) (Q : X → Type 0) (xs : List X) (x : X) where
  -- it is one of the list, or the one behind it
  last_cases : (P : X → Type 0) → ((y : X) → Contains xs y → P y) → P x → (y : X) → Contains (xs ++ x ∷ []) y → P y
  last_cases P all one y has = elim (Contains-append_cases xs (x ∷ []) y has) [
    | inl in_front ↦ all y in_front
    | inr last ↦ elim (contains_cases x y [] last) [
      | inl same ↦ subst P same one
      | inr none ↦ absurd (contains_none y none)
    ]
  ]

  last_there : Contains (xs ++ x ∷ []) x
  last_there = Contains-append_right xs (x ∷ []) x (contains_first x [])

  -- it isn't below the least name
  least_kept : (h : Atom) → IsLeastWithout name Q xs (Some h) → is_name_before (name x) h ≡ false → IsLeastWithout name Q (xs ++ x ∷ []) (Some h)
  least_kept h is low = (
    (is.0.0, Contains-append_left xs (x ∷ []) is.0.0 is.0.1, is.0.2, is.0.3),
    last_cases (λ y. is_name_before (name y) h ≡ true → Q y) is.1 (λ e. absurd (true≢false (sym e ∙ low))),
  )

  -- it holds of it
  least_holds : (least : Option Atom) → IsLeastWithout name Q xs least → Q x → IsLeastWithout name Q (xs ++ x ∷ []) least
  least_holds None is q = last_cases Q is q
  least_holds (Some h) is q = (
    (is.0.0, Contains-append_left xs (x ∷ []) is.0.0 is.0.1, is.0.2, is.0.3),
    last_cases (λ y. is_name_before (name y) h ≡ true → Q y) is.1 (λ e. q),
  )

  itself_before : is_name_before (name x) (name x) ≡ true → Q x
  itself_before e = absurd (ascending.below-not_itself name_total name_same (name x) e)

  -- it doesn't hold of it, and its name is below the least one, if there is one
  least_first : IsLeastWithout name Q xs None → (Q x → ⊥) → IsLeastWithout name Q (xs ++ x ∷ []) (Some (name x))
  least_first is fails = (
    (x, last_there, refl, fails),
    last_cases (λ y. is_name_before (name y) (name x) ≡ true → Q y) (λ y has e. is y has) itself_before,
  )

  least_new : (h : Atom) → IsLeastWithout name Q xs (Some h) → (Q x → ⊥) → is_name_before (name x) h ≡ true → IsLeastWithout name Q (xs ++ x ∷ []) (Some (name x))
  least_new h is fails low = (
    (x, last_there, refl, fails),
    last_cases (λ y. is_name_before (name y) (name x) ≡ true → Q y)
        (λ y has e. is.1 y has (ascending.below-below name_total name_same (name y) (name x) h e low))
        itself_before,
  )

  without : (least : Option Atom) → IsLeastWithout name Q xs least → (Q x → ⊥) → IsLeastWithout name Q (xs ++ x ∷ []) (lesser_name least (Some (name x)))
  without None is fails = least_first is fails
  without (Some h) is fails = by (is_name_before (name x) h) refl
    where
      by : (b : Bool) → is_name_before (name x) h ≡ b → IsLeastWithout name Q (xs ++ x ∷ []) (cond b (Some (name x)) (Some h))
      by true e = least_new h is fails e
      by false e = least_kept h is e

  -- with one more item
  pub next_least : (b : Bool) → (IsTrue b ↔ Q x) → (least : Option Atom) → IsLeastWithout name Q xs least
      → IsLeastWithout name Q (xs ++ x ∷ []) (cond b least (lesser_name least (Some (name x))))
  next_least true told least is = least_holds least is (told.0 refl)
  next_least false told least is = without least is (λ q. true≢false (sym (told.1 q)))

-- of items that are the same
pub same_least : {X : Type 0} (name : X → Atom) (Q : X → Type 0) (xs ys : List X) → ((x : X) → Contains xs x → Contains ys x) → ((x : X) → Contains ys x → Contains xs x)
    → (least : Option Atom) → IsLeastWithout name Q xs least → IsLeastWithout name Q ys least
same_least name Q xs ys there back None is = λ y has. is y (back y has)
same_least name Q xs ys there back (Some h) is = (
  (is.0.0, there is.0.0 is.0.1, is.0.2, is.0.3),
  λ y has e. is.1 y (back y has) e,
)
