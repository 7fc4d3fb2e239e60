-- What the types of one level owe: sets of values, each in one form, with an exact meet and a least join.
use Rattle.std.specs.Prelude.{◌≡◌, ◌⊎◌, true, false, List, Some, None}
use Rattle.type_kinds_sets.specs.Ascending.{is_ascending, has_item}
use Rattle.type_kinds_sets.specs.Names.{Name, name_cmp, are_listed}
use Rattle.type_lattice_model.specs.Values.{Value, atom}
use Rattle.type_lattice_model.specs.Operations.{Ops}

-- each value of the first is one of the second
abbrev pub BelowBy : {V P : Type 0} → (V → P → Type 0) → P → P → Type 0
BelowBy {V} Has s t = (v : V) → Has v s → Has v t

-- a family of sets in normal form
pub record Lattice {V P : Type 0} (Has : V → P → Type 0) (Normal : P → Type 0) (none : P) (meet join : P → P → P) : Type 0 where
  pub none_normal : Normal none
  pub none_empty : (v : V) → Has v none → ⊥
  -- what is not none has a value
  pub filled : (s : P) → Normal s → (s ≡ none) ⊎ ((v : V) × Has v s)
  -- sets of the same values are one
  pub same : (s t : P) → Normal s → Normal t → BelowBy Has s t → BelowBy Has t s → s ≡ t
  pub meet_normal : (s t : P) → Normal s → Normal t → Normal (meet s t)
  pub meet_in : (s t : P) → Normal s → Normal t → (v : V) → Has v s → Has v t → Has v (meet s t)
  pub meet_left : (s t : P) → Normal s → Normal t → BelowBy Has (meet s t) s
  pub meet_right : (s t : P) → Normal s → Normal t → BelowBy Has (meet s t) t
  pub join_normal : (s t : P) → Normal s → Normal t → Normal (join s t)
  pub join_left : (s t : P) → Normal s → Normal t → BelowBy Has s (join s t)
  pub join_right : (s t : P) → Normal s → Normal t → BelowBy Has t (join s t)
  pub join_least : (s t u : P) → Normal s → Normal t → Normal u → BelowBy Has s u → BelowBy Has t u → BelowBy Has (join s t) u

-- what is said of the atoms of a type
pub record Naming {E : Type 0} (Has : Value → E → Type 0) (Normal : E → Type 0) (o : Ops E) : Type 0 where
  pub atom_in : (e : E) (a : Name) → Has (atom a) e → o.has_atom e a ≡ true
  pub atom_out : (e : E) (a : Name) → o.has_atom e a ≡ true → Has (atom a) e
  pub names_normal : (xs : List Name) → Normal (o.of_names xs)
  pub names_in : (xs : List Name) (a : Name) → has_item name_cmp xs a ≡ true → Has (atom a) (o.of_names xs)
  pub names_least : (xs : List Name) (a : Name) → is_ascending name_cmp xs ≡ true → has_item name_cmp xs a ≡ true → (e : E) → Normal e → ((q : Name) → has_item name_cmp xs q ≡ true → Has (atom q) e)
      → BelowBy Has (o.of_names xs) e
  pub only_listed : (e : E) (xs : List Name) → o.only e ≡ Some xs → are_listed xs ≡ true
  pub only_out : (e : E) (xs : List Name) → o.only e ≡ Some xs → (v : Value) → Has v e → (a : Name) × ((v ≡ atom a) × (has_item name_cmp xs a ≡ true))
  pub only_in : (e : E) (xs : List Name) → o.only e ≡ Some xs → (a : Name) → has_item name_cmp xs a ≡ true → Has (atom a) e
  pub only_tags : (e : E) (xs : List Name) → o.only e ≡ Some xs → o.has_tags ≡ true
  -- a type whose values are among few atoms is a set of few atoms
  pub only_found : (e : E) → Normal e → o.is_none e ≡ false → (xs : List Name) → are_listed xs ≡ true → ((v : Value) → Has v e → (a : Name) × ((v ≡ atom a) × (has_item name_cmp xs a ≡ true))) → o.only e ≡ None
      → ⊥
  -- where there can be no tags, an element type has all values
  pub no_tags_full : o.has_tags ≡ false → (e : E) → Normal e → o.is_none e ≡ false → (v : Value) → Has v e

pub record Laws {E : Type 0} (Has : Value → E → Type 0) (Normal : E → Type 0) (o : Ops E) : Type 0 where
  pub lattice : Lattice Has Normal o.none o.meet o.join
  pub is_none-none : o.is_none o.none ≡ true
  pub none-is_none : (e : E) → o.is_none e ≡ true → e ≡ o.none
  pub any_normal : Normal o.any
  pub any_in : (v : Value) → Has v o.any
  pub naming : Naming Has Normal o

-- a way from the types of one level to those of another that gives the least type above
pub record Lowering {F E : Type 0} (HasF : Value → F → Type 0) (NormalF : F → Type 0) (HasE : Value → E → Type 0) (NormalE : E → Type 0) (lower : F → E) : Type 0 where
  pub normal : (t : F) → NormalF t → NormalE (lower t)
  pub above : (t : F) → NormalF t → (v : Value) → HasF v t → HasE v (lower t)
  pub least : (t : F) (u : E) → NormalF t → NormalE u → ((v : Value) → HasF v t → HasE v u) → BelowBy HasE (lower t) u
