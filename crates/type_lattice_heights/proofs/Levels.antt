-- What the heights of the types of one level owe.
use Rattle.std.proofs.Common.{◌≡◌, ◌⊎◌, ◌≤◌, ◌<◌, ℕ, suc, ◌+◌, true, List, [], length, None, sym, ap, ◌∙◌, inl, inr, arith, true≢false}
use Rattle.type_kinds_sets.specs.Ascending.{has_item}
use Rattle.type_kinds_sets.specs.Names.{Name, name_cmp, are_listed}
use Rattle.type_lattice_model.specs.Values.{Value, atom}
use Rattle.type_lattice_model.specs.Operations.{Ops}
use Rattle.type_lattice_model.specs.Normal.{IsElement}
use Rattle.type_lattice_model.specs.Laws.{BelowBy, Laws}
use Rattle.type_lattice_model.proofs.PlainLaws.{Lower}
use Rattle.type_lattice_heights.proofs.Ways.{Way}

module _ {E : Type 0} (Has : Value → E → Type 0) (Normal : E → Type 0) (o : Ops E) (height tags_in : E → ℕ) where
  -- A type that is no set of few atoms goes down to one that isn't either, and has as many of its atoms as can be tags: each step but
  -- the last and those that lose these atoms.
  pub record GoesDown (e : E) : Type 0 where
    pub least : E
    pub element : IsElement Normal o least
    pub only_so : o.only least ≡ None
    pub atoms : List Name
    pub listed : are_listed atoms ≡ true
    pub counted : length atoms ≡ tags_in e
    pub there : (a : Name) → has_item name_cmp atoms a ≡ true → Has (atom a) least
    pub allowed : (atoms ≡ []) ⊎ (o.has_tags ≡ true)
    pub steps : ℕ
    pub height_so : height e ≡ suc (steps + tags_in e)
    pub way : Way Has Normal steps least e

  pub record Heights : Type 0 where
    -- a smaller type has a lower height, and no more atoms that can be tags
    pub lower : (s t : E) → Normal s → Normal t → BelowBy Has s t → Lower height s t
    pub fewer : (s t : E) → Normal s → Normal t → BelowBy Has s t → tags_in s ≤ tags_in t
    pub few : (e : E) (xs : List Name) → Normal e → are_listed xs ≡ true → ((a : Name) → has_item name_cmp xs a ≡ true → Has (atom a) e) → o.has_tags ≡ true → length xs ≤ tags_in e
    -- one can go down as often as the height says
    pub to_none : (t : E) → Normal t → Way Has Normal (height t) o.none t
    pub down : (e : E) → IsElement Normal o e → o.only e ≡ None → GoesDown e

module _ {E : Type 0} {Has : Value → E → Type 0} {Normal : E → Type 0} {o : Ops E} (l : Laws Has Normal o) {height tags_in : E → ℕ} (r : Heights Has Normal o height tags_in) where
  -- what has a value has a height
  pub some_height : (e : E) → IsElement Normal o e → 0 < height e
  some_height e k = elim (r.lower o.none e l.lattice.none_normal k.0 (λ v h. absurd (l.lattice.none_empty v h))) [
    | inl same ↦ absurd (true≢false (sym l.is_none-none ∙ ap o.is_none same ∙ k.1))
    | inr less ↦ omega (arith, less)
  ]
