-- What an application may enter, by the numbers that a place holds.
use Rattle.std.proofs.Common.{◌≡◌, ◌↔◌, ℕ, ◌+◌, ◌<◌, Bool, true, false, true≢false, List, [], ◌∷◌, ◌++◌, length, take, get_or, Option, Some, None, suc, refl, sym, ap, ◌∙◌, subst, arith}
use Rattle.std.specs.Prelude.{Contains, option_copied}
use Rattle.std.specs.Borrow.{Bor}
use Rattle.std.specs.List.{All, filter_map}
use Rattle.std.specs.List.Sorted.{IsStrictlySortedBy}
use Rattle.std.proofs.Math.Seq.{take-suc}
use Rattle.std.proofs.lemmas.List.Elements.{All-contains, All-push, Contains-get_or}
use Rattle.fun_flow_answers.specs.declared.target.ListedTargets.TheVariants as l
use Rattle.fun_flow_answers.specs.declared.target.Target.{Target}
use Rattle.fun_flow_answers.specs.Order.{target_cmp}
use Rattle.fun_flow_numbers.specs.Held.{HeldNumbers, HoldsNumber, item_at}
use Rattle.fun_flow_places.specs.declared.places.FlowPlace.{FlowPlace}
use Rattle.fun_flow_places.specs.declared.places.Item.{Item}
use Rattle.fun_flow_places.specs.declared.places.Item.TheVariants.{Anything, Closure, External}
use Rattle.fun_flow_applied.specs.declared.module_text.ModuleText.{ModuleText}
use Rattle.fun_flow_applied.specs.steps.Entering.{AreEntered, IsListedAt, any_function, anything_in, is_anything, item_in, only_these}
use Rattle.fun_flow_applied.proofs.Filtered.{is_kept, kept_of}

-- how the item of a number is listed
abbrev pub number_in : List ModuleText → HeldNumbers → (n number : ℕ) → Option Target
number_in ts held n x = item_in ts n (item_at held x)

anything_is : (y : Item) → is_anything y ≡ true → y ≡ Anything
anything_is Anything e = refl
anything_is (Closure home l n) e = absurd cc
anything_is (External home f) e = absurd cc

-- what is said to be anything is
found_anything : (o : Option Item) → anything_in o ≡ true → o ≡ Some Anything
found_anything None e = absurd cc
found_anything (Some y) e = ap Some (anything_is y e)

pub entered_anything : (ts : List ModuleText) (held : HeldNumbers) (p : FlowPlace) (n : ℕ) (numbers : List ℕ) (i x : ℕ) (got : Option (Bor Item)) (anything : Bool)
    → ((x : ℕ) → Contains numbers x ↔ HoldsNumber held p x) → i < length numbers → x ≡ get_or numbers i x
    → option_copied got ≡ item_at held x → anything ≡ anything_in (option_copied got) → anything ≡ true → AreEntered ts held p n l.Anything
entered_anything ts held p n numbers i x got anything are within is item says so =
    any_function (x, (are x).0 (subst (Contains numbers) (sym is) (Contains-get_or numbers i x within)), found_anything (item_at held x) (ap anything_in (sym item) ∙ sym says ∙ so))

pub is_none : (held : HeldNumbers) (x : ℕ) (got : Option (Bor Item)) (anything : Bool) → option_copied got ≡ item_at held x → anything ≡ anything_in (option_copied got) → anything ≡ false → item_at held x ≡ Some Anything
    → ⊥
is_none held x got anything item says so e = true≢false (sym (ap anything_in e) ∙ ap anything_in (sym item) ∙ sym says ∙ so)

-- one more number is passed
pub passed_round : (P : ℕ → Type 0) (xs : List ℕ) (i x : ℕ) → i < length xs → x ≡ get_or xs i x → All P (take i xs) → P x → All P (take (i + 1) xs)
passed_round P xs i x within is before here =
    subst (λ n. All P (take n xs)) {x = suc i} {y = i + 1} (omega arith)
    (subst (All P) (ap (λ y. take i xs ++ y ∷ []) is ∙ sym (take-suc xs i x within)) (All-push P (take i xs) x before here))

module _ (ts : List ModuleText) (held : HeldNumbers) (p : FlowPlace) (n : ℕ) (numbers : List ℕ) (are : (x : ℕ) → Contains numbers x ↔ HoldsNumber held p x) where
  listed_of : (t : Target) → Contains (filter_map (number_in ts held n) numbers) t → IsListedAt ts held p n t
  listed_of t has = let k = kept_of (number_in ts held n) numbers t has in by k.0 (item_at held k.0) refl ((are k.0).0 k.1) k.2
    where
      by : (x : ℕ) (o : Option Item) → item_at held x ≡ o → HoldsNumber held p x → number_in ts held n x ≡ Some t → IsListedAt ts held p n t
      by x None e h f = absurd (let z : None ≡ Some t = sym (ap (item_in ts n) e) ∙ f in cc)
      by x (Some y) e h f = (x, y, h, e, sym (ap (item_in ts n) e) ∙ f)

  is_listed : (t : Target) → IsListedAt ts held p n t → Contains (filter_map (number_in ts held n) numbers) t
  is_listed t h = is_kept (number_in ts held n) numbers h.0 t ((are h.0).1 h.2) (ap (item_in ts n) h.3 ∙ h.4)

  pub entered_only : (found us : List Target) → found ≡ filter_map (number_in ts held n) numbers → All (λ x. item_at held x ≡ Some Anything → ⊥) numbers → IsStrictlySortedBy target_cmp us
      → ((t : Target) → Contains us t ↔ Contains found t)
      → AreEntered ts held p n (l.Only us)
  entered_only found us is none up same =
      only_these us (λ h. All-contains (λ x. item_at held x ≡ Some Anything → ⊥) numbers h.0 none ((are h.0).1 h.1) h.2) up
      (λ t. (λ has. listed_of t (subst (λ xs. Contains xs t) is ((same t).0 has)), λ h. (same t).1 (subst (λ xs. Contains xs t) (sym is) (is_listed t h))))
