-- How a table of bound names is kept: each name that was ever met has a number, its place among the
-- keys; `last` has for each number how many names were bound when it was bound last, itself among
-- them, and 0 or nothing where it isn't bound now; and each binding knows what `last` had before it.
use Rattle.std.specs.Prelude.{◌≡◌, ℕ, ◌<◌, ◌≤◌, Bool, true, false, ◌⊎◌, List, [], ◌∷◌, ◌++◌, length, drop, Option, Some, None, slice_get, slice_index_or, ltb}
use Rattle.std.specs.List.{list_any}
use Rattle.core_scope.specs.declared.names.Binding.{Binding}

module _ {T : Type 0} where
  -- A number tells of names which of their ends has one that passes the test: those that begin below it.
  abbrev pub Tells : (T → Bool) → List T → ℕ → Type 0
  Tells test names n = (from : ℕ) → ltb from n ≡ list_any test (drop from names)

  abbrev pub key_and : Option T → List T → List T
  key_and None rest = rest
  key_and (Some k) rest = k ∷ rest

  -- The names of bindings.
  abbrev pub bound_names : List T → List Binding → List T
  bound_names keys [] = []
  bound_names keys (b ∷ bs) = key_and (slice_get keys b.number) (bound_names keys bs)

  module _ (eq : T → T → Bool) where
    -- What one binding keeps, behind these names.
    pub record IsKept (keys : List T) (count : ℕ) (names : List T) (b : Binding) : Type 0 where
      pub key : T
      pub found : slice_get keys b.number ≡ Some key
      pub within : b.number < count
      pub before : Tells (eq key) names b.before

    -- Bindings one after another, behind these names.
    abbrev pub Trail : List T → ℕ → List T → List Binding → Type 0
    Trail keys count names [] = Unit {0}
    Trail keys count names (b ∷ bs) = (kept : IsKept keys count names b) × Trail keys count (names ++ kept.key ∷ []) bs

    -- What a table keeps.
    pub record IsTable (keys : List T) (last : List ℕ) (bound : List Binding) : Type 0 where
      pub short : length last ≤ length keys
      pub unique : (i j : ℕ) (k l : T) → slice_get keys i ≡ Some k → slice_get keys j ≡ Some l → eq k l ≡ true → i ≡ j
      pub now : (i : ℕ) (k : T) → slice_get keys i ≡ Some k → Tells (eq k) (bound_names keys bound) (slice_index_or last i 0)
      pub trail : Trail keys (length last) [] bound

    -- The keys, or one that is new behind them.
    abbrev pub MaybeNewKey : List T → List T → Type 0
    MaybeNewKey keys more = (more ≡ keys) ⊎ ((k : T) × (list_any (eq k) keys ≡ false) × (more ≡ keys ++ k ∷ []))
