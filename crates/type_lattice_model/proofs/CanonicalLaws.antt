-- The laws of canonical values: a map is told by its pairs, and a type by the canonical values that it has.
use Rattle.std.proofs.Common.{◌≡◌, ◌⊎◌, inl, ℕ, zero, suc, Bool, true, List, Option, Some, None, refl, sym, ap, ◌∙◌, cond, arith}
use Rattle.std.specs.Prelude.{◌↔◌}
use Rattle.std.specs.Ordering.{is_lt, eq_by_cmp}
use Rattle.type_kinds.proofs.Truths.{first, second}
use Rattle.type_kinds_sets.specs.Ascending.{is_below_all, is_ascending, placed}
use Rattle.type_kinds_sets.specs.Names.{Name, name_cmp}
use Rattle.type_kinds_sets.proofs.AscendingLaws as ascending
use Rattle.type_kinds_sets.proofs.NameLaws.{name_total, name_same}
use Rattle.type_lattice_model.specs.Values.{Value, nil, cons, tuple, map, closure, Values, no_value, and_value, ValuePairs, no_pair, and_pair, no_variable, count, heads, end_of}
use Rattle.type_lattice_model.specs.Shapes.{Cell, Body, Tuples, TypeAt}
use Rattle.type_lattice_model.specs.HasType.{HasAll, HasEach, HasCell, HasBody, HasTuple, HasParts, HasAt}
use Rattle.type_lattice_model.specs.Laws.{BelowBy}
use Rattle.type_lattice_model.specs.Canonical.{spelled, spelled_keys, AreAscending, IsCanonical, AreCanonical, ArePairsCanonical, HoldsPair, PairsBelow, put_pair}
use Rattle.type_lattice_model.proofs.Spellings.{spelled_once}

-- ---- maps are told by their pairs

-- a key that stands below all of a map's keys stands below each of them
below_each : (x : Name) (ps : ValuePairs) → is_below_all name_cmp x (spelled_keys ps) ≡ true → (k v : Value) → HoldsPair ps k v → is_lt (name_cmp x (spelled k)) ≡ true
below_each x no_pair h k v i = grind arith
below_each x (and_pair j w ps) h k v i = grind (arith, below_each x ps)

-- no key of what follows is the first one
later : (j w : Value) (ps : ValuePairs) → AreAscending (and_pair j w ps) → (k v : Value) → HoldsPair ps k v → k ≡ j → ⊥
later j w ps a k v h e = grind (arith, below_each (spelled j) ps (first _ _ a) k v h, ascending.below-not_itself name_total name_same)

-- the first pairs of two maps that have the same are one
same_firsts : (k v : Value) (ps : ValuePairs) (j w : Value) (qs : ValuePairs) → AreAscending (and_pair k v ps) → AreAscending (and_pair j w qs) → ((k ≡ j) × (v ≡ w)) ⊎ HoldsPair qs k v
    → ((j ≡ k) × (w ≡ v)) ⊎ HoldsPair ps j w → (k ≡ j) × (v ≡ w)
same_firsts k v ps j w qs a b h i = grind (arith, below_each (spelled k) ps (first _ _ a) j w, below_each (spelled j) qs (first _ _ b) k v, ascending.below-both_ways name_total name_same)

-- what the rest of the one has, the rest of the other has
rest_below : (k v : Value) (ps : ValuePairs) (j w : Value) (qs : ValuePairs) → AreAscending (and_pair k v ps) → k ≡ j → PairsBelow (and_pair k v ps) (and_pair j w qs) → PairsBelow ps qs
rest_below k v ps j w qs a e f x y h = grind (arith, later)

pub same_pairs : (ps qs : ValuePairs) → AreAscending ps → AreAscending qs → PairsBelow ps qs → PairsBelow qs ps → ps ≡ qs
same_pairs no_pair no_pair a b f g = refl
same_pairs no_pair (and_pair j w qs) a b f g = grind (arith, g j w)
same_pairs (and_pair k v ps) no_pair a b f g = grind (arith, f k v)
same_pairs (and_pair k v ps) (and_pair j w qs) a b f g =
    let e = same_firsts k v ps j w qs a b (f k v (inl (refl, refl))) (g j w (inl (refl, refl))) in
    let rest = same_pairs ps qs (second _ _ a) (second _ _ b) (rest_below k v ps j w qs a e.0 f) (rest_below j w qs k v ps b (sym e.0) g) in
    λ i. and_pair (e.0 i) (e.1 i) (rest i)

pub same_maps : (ps qs : ValuePairs) → IsCanonical (map ps) → IsCanonical (map qs) → PairsBelow ps qs → PairsBelow qs ps → map ps ≡ map qs
same_maps ps qs a b f g = ap map (same_pairs ps qs a.0 b.0 f g)

-- a key has one value
pub one_value : (ps : ValuePairs) → AreAscending ps → (k v w : Value) → HoldsPair ps k v → HoldsPair ps k w → v ≡ w
one_value no_pair a k v w h i = grind arith
one_value (and_pair j u ps) a k v w h i = grind (arith, later, one_value ps)

-- ---- a pair that is put into a map

keys_put : (k v : Value) (ps : ValuePairs) → spelled_keys (put_pair k v ps) ≡ placed name_cmp (spelled k) (spelled_keys ps)
keys_put k v no_pair = refl
keys_put k v (and_pair j w ps) = grind (arith, keys_put k v ps)

pub put_ascends : (k v : Value) (ps : ValuePairs) → AreAscending ps → AreAscending (put_pair k v ps)
put_ascends k v ps a = ap (is_ascending name_cmp) (keys_put k v ps) ∙ ascending.ascending-placed name_total name_same (spelled k) (spelled_keys ps) a

one_of_three : {A : Type 0} (Q : A → Type 0) (b c : Bool) {x y z : A} → Q x → Q y → Q z → Q (cond b x (cond c y z))
one_of_three Q b c h k i = grind arith

pub put_parts : (k v : Value) (ps : ValuePairs) → IsCanonical k → IsCanonical v → ArePairsCanonical ps → ArePairsCanonical (put_pair k v ps)
put_parts k v no_pair a b c = (a, b, tt)
put_parts k v (and_pair j w ps) a b c =
    one_of_three ArePairsCanonical (is_lt (name_cmp (spelled k) (spelled j))) (eq_by_cmp name_cmp (spelled k) (spelled j)) (a, b, c) (c.0, b, c.2) (c.0, c.1, put_parts k v ps a b c.2)

-- the pair is there, and of the others those of other keys
abbrev Put : Value → Value → ValuePairs → Value → Value → Type 0
Put k v ps x y = ((x ≡ k) × (y ≡ v)) ⊎ ((x ≡ k → ⊥) × HoldsPair ps x y)

told : (k j : Value) → eq_by_cmp name_cmp (spelled k) (spelled j) ≡ true ↔ (k ≡ j)
told k j = (λ e. spelled_once k j (ascending.is_it name_total name_same (spelled k) (spelled j) e), λ e. grind (arith, ascending.itself name_total name_same))

put_step : (k v j w : Value) (ps : ValuePairs) (x y : Value) → AreAscending (and_pair j w ps) → HoldsPair (put_pair k v ps) x y ↔ Put k v ps x y → HoldsPair (put_pair k v (and_pair j w ps)) x y ↔ Put k v (and_pair j w ps) x y
put_step k v j w ps x y a m = grind (arith, put_ascends k v (and_pair j w ps) a, later, told)

pub put_holds : (k v : Value) (ps : ValuePairs) → AreAscending ps → (x y : Value) → HoldsPair (put_pair k v ps) x y ↔ Put k v ps x y
put_holds k v no_pair a x y = grind arith
put_holds k v (and_pair j w ps) a x y = put_step k v j w ps x y a (put_holds k v ps (second _ _ a) x y)

-- ---- a value without what a type doesn't look at: its maps have no pairs, and its closures no environment

abbrev mutual
  bare : Value → Value
  bare (cons h t) = cons (bare h) (bare t)
  bare (tuple vs) = tuple (bare_values vs)
  bare (map ps) = map no_pair
  bare (closure m l n env) = closure m l n no_variable
  bare v = v

  bare_values : Values → Values
  bare_values no_value = no_value
  bare_values (and_value v vs) = and_value (bare v) (bare_values vs)

mutual
  bare-canonical : (v : Value) → IsCanonical (bare v)
  bare-canonical (cons h t) = (bare-canonical h, bare-canonical t)
  bare-canonical (tuple vs) = bare_values-canonical vs
  bare-canonical (map ps) = (refl, tt)
  bare-canonical v = tt

  bare_values-canonical : (vs : Values) → AreCanonical (bare_values vs)
  bare_values-canonical no_value = tt
  bare_values-canonical (and_value v vs) = (bare-canonical v, bare_values-canonical vs)

count-bare : (vs : Values) → count (bare_values vs) ≡ count vs
count-bare no_value = refl
count-bare (and_value v vs) = ap suc (count-bare vs)

heads-bare : (t : Value) → heads (bare t) ≡ bare_values (heads t)
heads-bare (cons h t) = ap (and_value (bare h)) (heads-bare t)
heads-bare v = refl

end-bare : (t : Value) → (end_of (bare t) ≡ nil) ↔ (end_of t ≡ nil)
end-bare (cons h t) = end-bare t
end-bare v = grind arith

-- ---- it is in the same types

abbrev AreAlike : {E : Type 0} → (Value → E → Type 0) → Type 0
AreAlike {E} Has = (v : Value) (e : E) → Has (bare v) e ↔ Has v e

module _ {E : Type 0} {Has : Value → E → Type 0} (alike : AreAlike Has) where
  all_alike : (vs : Values) (e : E) → HasAll Has (bare_values vs) e ↔ HasAll Has vs e
  all_alike no_value e = grind arith
  all_alike (and_value v vs) e = grind (arith, alike, all_alike vs e)

  each_alike : (vs : Values) (es : List E) → HasEach Has (bare_values vs) es ↔ HasEach Has vs es
  each_alike no_value es = grind arith
  each_alike (and_value v vs) es = grind (arith, each_alike vs)

  cell_alike : (h t : Value) (c : Option (Cell E)) → HasCell Has (bare h, bare t) c ↔ HasCell Has (h, t) c
  cell_alike h t None = (λ i. i, λ i. i)
  cell_alike h t (Some c) = grind (arith, bare, heads-bare, all_alike, end-bare)

  body_alike : (vs : Values) (b : Option (Body E)) → HasBody Has (bare_values vs) b ↔ HasBody Has vs b
  body_alike vs b = grind (arith, each_alike)

  tuple_alike : (vs : Values) (t : Tuples E) → HasTuple Has (bare_values vs) t ↔ HasTuple Has vs t
  tuple_alike vs t = grind (arith, bare_values, count-bare, body_alike)

  parts_alike : AreAlike (HasParts Has)
  parts_alike h k = grind (arith, cell_alike, tuple_alike)

level_alike : (d : ℕ) → AreAlike (HasAt d)
level_alike zero v t = (λ h. h, λ h. h)
level_alike (suc d) v t = parts_alike (level_alike d) v t

-- so what holds of the canonical values of a type holds of all
pub canonical_below : (d : ℕ) (s t : TypeAt d) → ((v : Value) → IsCanonical v → HasAt d v s → HasAt d v t) → BelowBy (HasAt d) s t
canonical_below d s t f v h = (level_alike d v t).0 (f (bare v) (bare-canonical v) ((level_alike d v s).1 h))

pub ruleset canonical_maps = (same_maps, one_value, put_ascends, put_parts, put_holds, canonical_below)
