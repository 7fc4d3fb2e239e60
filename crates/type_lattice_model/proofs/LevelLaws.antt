-- The laws of each level: of none and any at level 0, and by induction of all levels above.
use Rattle.std.proofs.Common.{◌≡◌, ◌⊎◌, inl, inr, ℕ, zero, suc, true, false, ◌&&◌, ◌||◌, refl, arith}
use Rattle.type_kinds.proofs.Truths.{same_tests}
use Rattle.type_lattice_model.specs.Values.{Value, nil}
use Rattle.type_lattice_model.specs.HasType.{HasAt}
use Rattle.type_lattice_model.specs.Operations.{base, ops}
use Rattle.type_lattice_model.specs.Normal.{NormalAt}
use Rattle.type_lattice_model.specs.Laws.{Lattice, Naming, Laws}
use Rattle.type_lattice_model.proofs.PartsLaws.{next_laws}

-- ---- level 0

base_lattice : Lattice {V = Value} (λ v t. t ≡ true) (λ t. Unit {0}) false ◌&&◌ ◌||◌
base_lattice = record {
  none_normal = tt;
  none_empty = λ v h. grind arith;
  filled = λ s k. elim s as (λ t. (t ≡ false) ⊎ ((v : Value) × (t ≡ true))) [ true ↦ inr (nil, refl) | false ↦ inl refl ];
  same = λ s t j k f h. same_tests s t (f nil) (h nil);
  meet_normal = λ s t j k. tt;
  meet_in = λ s t j k v f h. grind arith;
  meet_left = λ s t j k v h. grind arith;
  meet_right = λ s t j k v h. grind arith;
  join_normal = λ s t j k. tt;
  join_left = λ s t j k v h. grind arith;
  join_right = λ s t j k v h. grind arith;
  join_least = λ s t u i j k f h v x. grind (arith, f v, h v);
}

base_naming : Naming (λ v t. t ≡ true) (λ t. Unit {0}) base
base_naming = record {
  atom_in = λ t a h. h;
  atom_out = λ t a h. h;
  names_normal = λ xs. tt;
  names_in = λ xs a h. refl;
  names_least = λ xs a k h t n f v x. f a h;
  only_listed = λ t xs e. grind arith;
  only_out = λ t xs e. grind arith;
  only_in = λ t xs e. grind arith;
  only_tags = λ t xs e. grind arith;
  only_found = λ t k n xs few f e. grind (arith, f nil);
  no_tags_full = λ e t k n v. grind arith;
}

-- ---- all levels

pub level_laws : (d : ℕ) → Laws (HasAt d) (NormalAt d) (ops d)
unfolding NormalAt ops
level_laws zero = grind (arith, base_lattice, base_naming)
level_laws (suc d) = next_laws (level_laws d)
