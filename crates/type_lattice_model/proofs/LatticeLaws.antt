-- Families of sets: where one of two sets is part of the other, their meet is the one and their join the other; and sets
-- that all have a value, with none beside them; and a set joined with others.
use Rattle.std.specs.Prelude.{◌≡◌, ◌⊎◌, List, [], ◌∷◌, ◌++◌, Option, Some, None, refl}
use Rattle.std.proofs.Common.{ap, inl, inr, arith}
use Rattle.type_lattice_model.specs.Tables.{EachOf, joined, both_at}
use Rattle.type_lattice_model.specs.Elements.{joined_all}
use Rattle.type_lattice_model.specs.Laws.{BelowBy, Lattice}

module _ {V P : Type 0} {Has : V → P → Type 0} {Normal : P → Type 0} {none : P} {meet join : P → P → P} (l : Lattice Has Normal none meet join) (s t : P) (j : Normal s) (k : Normal t) where
  pub meet-below : BelowBy Has s t → s ≡ meet s t
  meet-below b = l.same s (meet s t) j (l.meet_normal s t j k) (λ v h. l.meet_in s t j k v h (b v h)) (l.meet_left s t j k)

  pub meet-above : BelowBy Has t s → t ≡ meet s t
  meet-above b = l.same t (meet s t) k (l.meet_normal s t j k) (λ v h. l.meet_in s t j k v (b v h) h) (l.meet_right s t j k)

  pub join-below : BelowBy Has s t → t ≡ join s t
  join-below b = l.same t (join s t) k (l.join_normal s t j k) (l.join_right s t j k) (l.join_least s t t j k k b (λ v h. h))

  pub join-above : BelowBy Has t s → s ≡ join s t
  join-above b = l.same s (join s t) j (l.join_normal s t j k) (l.join_left s t j k) (l.join_least s t s j k j (λ v h. h) b)

-- what sets that all have a value owe, where the meet of two may be none
pub record Filled {V X : Type 0} (Has : V → Option X → Type 0) (Normal : Option X → Type 0) (meet : X → X → Option X) (join : X → X → X) : Type 0 where
  pub none_normal : Normal None
  pub none_empty : (v : V) → Has v None → ⊥
  pub value : (x : X) → Normal (Some x) → (v : V) × Has v (Some x)
  pub same : (x y : X) → Normal (Some x) → Normal (Some y) → BelowBy Has (Some x) (Some y) → BelowBy Has (Some y) (Some x) → x ≡ y
  pub meet_normal : (x y : X) → Normal (Some x) → Normal (Some y) → Normal (meet x y)
  pub meet_in : (x y : X) → Normal (Some x) → Normal (Some y) → (v : V) → Has v (Some x) → Has v (Some y) → Has v (meet x y)
  pub meet_out : (x y : X) → Normal (Some x) → Normal (Some y) → (v : V) → Has v (meet x y) → Has v (Some x) × Has v (Some y)
  pub join_normal : (x y : X) → Normal (Some x) → Normal (Some y) → Normal (Some (join x y))
  pub join_left : (x y : X) → Normal (Some x) → Normal (Some y) → BelowBy Has (Some x) (Some (join x y))
  pub join_right : (x y : X) → Normal (Some x) → Normal (Some y) → BelowBy Has (Some y) (Some (join x y))
  pub join_least : (x y z : X) → Normal (Some x) → Normal (Some y) → Normal (Some z) → BelowBy Has (Some x) (Some z) → BelowBy Has (Some y) (Some z) → BelowBy Has (Some (join x y)) (Some z)

both_normal : {X : Type 0} (Normal : Option X → Type 0) (meet : X → X → Option X) → Normal None → ((x y : X) → Normal (Some x) → Normal (Some y) → Normal (meet x y)) → (s t : Option X) → Normal s → Normal t
    → Normal (both_at meet s t)
both_normal Normal meet n m s t j k = grind arith

joined_normal : {X : Type 0} (Normal : Option X → Type 0) (join : X → X → X) → ((x y : X) → Normal (Some x) → Normal (Some y) → Normal (Some (join x y))) → (s t : Option X) → Normal s → Normal t
    → Normal (joined join s t)
joined_normal Normal join m s t j k = grind arith

module _ {V X : Type 0} {Has : V → Option X → Type 0} {Normal : Option X → Type 0} {meet : X → X → Option X} {join : X → X → X} (f : Filled Has Normal meet join) where
  -- what has a value isn't part of none
  not_none : (x : X) → Normal (Some x) → BelowBy Has (Some x) None → ⊥
  not_none x k b = let w = f.value x k in f.none_empty w.0 (b w.0 w.1)

  same : (s t : Option X) → Normal s → Normal t → BelowBy Has s t → BelowBy Has t s → s ≡ t
  same None None j k a b = refl
  same (Some x) (Some y) j k a b = ap Some (f.same x y j k a b)
  same s t j k a b = search not_none

  join_least : (s t u : Option X) → Normal s → Normal t → Normal u → BelowBy Has s u → BelowBy Has t u → BelowBy Has (joined join s t) u
  join_least (Some x) (Some y) (Some z) i j k a b v h = f.join_least x y z i j k a b v h
  join_least s t u i j k a b v h = grind (arith, not_none)

  pub with_none : Lattice Has Normal None (both_at meet) (joined join)
  with_none = record {
    none_normal = f.none_normal;
    none_empty = f.none_empty;
    filled = λ s. elim s as (λ s. Normal s → (s ≡ None) ⊎ ((v : V) × Has v s)) [ None ↦ λ k. inl refl | Some x ↦ λ k. inr (f.value x k) ];
    same = same;
    meet_normal = both_normal Normal meet f.none_normal f.meet_normal;
    meet_in = λ s t j k v h g. grind (arith, f.meet_in);
    meet_left = λ s t j k v h. grind (arith, f.none_empty, f.meet_out);
    meet_right = λ s t j k v h. grind (arith, f.none_empty, f.meet_out);
    join_normal = joined_normal Normal join f.join_normal;
    join_left = λ s t j k v h. grind (arith, f.none_empty, f.join_left);
    join_right = λ s t j k v h. grind (arith, f.none_empty, f.join_right);
    join_least = join_least;
  }

-- ---- a set joined with others, one after the other

-- what holds of one of a list
abbrev pub SomeOf : {A : Type 0} → (A → Type 0) → List A → Type 0
SomeOf Q [] = ⊥
SomeOf Q (x ∷ xs) = Q x ⊎ SomeOf Q xs

module _ {A : Type 0} (Q : A → Type 0) where
  pub each_append : (xs ys : List A) → EachOf Q xs → EachOf Q ys → EachOf Q (xs ++ ys)
  each_append [] ys j k = k
  each_append (x ∷ xs) ys j k = (j.0, each_append xs ys j.1 k)

  pub some_first : (xs ys : List A) → SomeOf Q xs → SomeOf Q (xs ++ ys)
  some_first [] ys h = grind arith
  some_first (x ∷ xs) ys h = grind (arith, some_first xs)

  pub some_later : (xs ys : List A) → SomeOf Q ys → SomeOf Q (xs ++ ys)
  some_later [] ys h = h
  some_later (x ∷ xs) ys h = inr (some_later xs ys h)

  pub some_either : (xs ys : List A) → SomeOf Q (xs ++ ys) → SomeOf Q xs ⊎ SomeOf Q ys
  some_either [] ys h = grind arith
  some_either (x ∷ xs) ys h = grind (arith, some_either xs)

module _ {V P X : Type 0} {Has : V → P → Type 0} {Normal : P → Type 0} {none : P} {meet join : P → P → P} (l : Lattice Has Normal none meet join) (of : X → P) where
  pub all-normal : (t : P) (xs : List X) → Normal t → EachOf (λ x. Normal (of x)) xs → Normal (joined_all join of t xs)
  all-normal t [] k j = k
  all-normal t (x ∷ xs) k j = all-normal (join t (of x)) xs (l.join_normal t (of x) k j.0) j.1

  pub all-has : (t : P) (xs : List X) → Normal t → EachOf (λ x. Normal (of x)) xs → (v : V) → Has v t ⊎ SomeOf (λ x. Has v (of x)) xs → Has v (joined_all join of t xs)
  all-has t [] k j v h = grind arith
  all-has t (x ∷ xs) k j v h = grind (arith, l.join_left t (of x) k j.0 v, l.join_right t (of x) k j.0 v, all-has (join t (of x)) xs (l.join_normal t (of x) k j.0) j.1 v)

  pub all-least : (t : P) (xs : List X) (u : P) → Normal t → EachOf (λ x. Normal (of x)) xs → Normal u → BelowBy Has t u → ((v : V) → SomeOf (λ x. Has v (of x)) xs → Has v u) → BelowBy Has (joined_all join of t xs) u
  all-least t [] u k j n f g = f
  all-least t (x ∷ xs) u k j n f g =
      all-least (join t (of x)) xs u (l.join_normal t (of x) k j.0) j.1 n (l.join_least t (of x) u k j.0 n f (λ v h. g v (inl h))) (λ v h. g v (inr h))

  -- sets that together have just the values of a set join to it
  pub all-is : (t : P) (xs : List X) (u : P) → Normal t → EachOf (λ x. Normal (of x)) xs → Normal u → ((v : V) → Has v t ⊎ SomeOf (λ x. Has v (of x)) xs → Has v u)
      → ((v : V) → Has v u → Has v t ⊎ SomeOf (λ x. Has v (of x)) xs) → joined_all join of t xs ≡ u
  all-is t xs u k j n f g =
      l.same (joined_all join of t xs) u (all-normal t xs k j) n (all-least t xs u k j n (λ v h. f v (inl h)) (λ v h. f v (inr h))) (λ v h. all-has t xs k j v (g v h))
