-- The least set that has some values, and the set that has just these, each in normal form; and tables of sets, key by key.
use Rattle.std.proofs.Common.{sym, ◌∙◌, subst, inl, inr, arith, ◌≡◌, cond, ◌⊎◌, ◌≤◌, Bool, true, false, List, [], ◌∷◌, length, Option, Some, None, Ordering}
use Rattle.std.specs.Cmp.{IsTotalOrder}
use Rattle.std.specs.FinSet.{IsAntisymmetric}
use Rattle.type_lattice_model.specs.Elements.{joined_all}
use Rattle.type_lattice_model.specs.Tables.{EachOf, joined, both_at, is_table, find, chosen, united}
use Rattle.type_lattice_model.specs.Operations.{met_with}
use Rattle.type_lattice_model.specs.Laws.{BelowBy, Lattice}
use Rattle.type_lattice_model.proofs.TableLaws.{met_with-both_at, find-chosen, find-united, length-within, find-again}
use Rattle.type_lattice_model.proofs.LatticeLaws.{with_none, SomeOf, all-normal, all-has, all-least}

-- an option that can hold nothing holds nothing
pub none_held : {X : Type 0} (x : Option X) → ((y : X) → x ≡ Some y → ⊥) → x ≡ None
none_held x h = grind arith

-- the set is the least in normal form that has the values
pub record IsLeast {V P : Type 0} (Has : V → P → Type 0) (Normal : P → Type 0) (In : V → Type 0) (j : P) : Type 0 where
  pub normal : Normal j
  pub above : (v : V) → In v → Has v j
  pub least : (u : P) → Normal u → ((v : V) → In v → Has v u) → BelowBy Has j u

-- the set is in normal form and has just the values
pub record IsJust {V P : Type 0} (Has : V → P → Type 0) (Normal : P → Type 0) (In : V → Type 0) (m : P) : Type 0 where
  pub normal : Normal m
  pub enter : (v : V) → In v → Has v m
  pub leave : (v : V) → Has v m → In v

abbrev pub InBoth : {V P : Type 0} → (V → P → Type 0) → P → P → V → Type 0
InBoth Has s t v = Has v s × Has v t

abbrev pub InEither : {V P : Type 0} → (V → P → Type 0) → P → P → V → Type 0
InEither Has s t v = Has v s ⊎ Has v t

module _ {V P : Type 0} {Has : V → P → Type 0} {Normal : P → Type 0} {none : P} {meet join : P → P → P} (l : Lattice Has Normal none meet join) where
  pub meet-just : (s t : P) → Normal s → Normal t → IsJust Has Normal (InBoth Has s t) (meet s t)
  meet-just s t j k = grind (arith, l.meet_normal s t j k)

  -- the least of the values of two is their join
  pub join-least : {I J : V → Type 0} {s t : P} → IsLeast Has Normal I s → IsLeast Has Normal J t → IsLeast Has Normal (λ v. I v ⊎ J v) (join s t)
  join-least {s = s} {t = t} a b = record {
    normal = l.join_normal s t a.normal b.normal;
    above = λ v h. elim h [ inl i ↦ l.join_left s t a.normal b.normal v (a.above v i) | inr i ↦ l.join_right s t a.normal b.normal v (b.above v i) ];
    least = λ u n f. l.join_least s t u a.normal b.normal n (a.least u n (λ v i. f v (inl i))) (b.least u n (λ v i. f v (inr i)));
  }

-- where sets have a part of its values, it is enough that each set that has these has the rest
pub less-least : {V P : Type 0} {Has : V → P → Type 0} {Normal : P → Type 0} {I J : V → Type 0} {s : P} → IsLeast Has Normal I s → ((v : V) → J v → I v)
    → ((u : P) → Normal u → ((v : V) → J v → Has v u) → (v : V) → I v → Has v u) → IsLeast Has Normal J s
less-least a f g = record { normal = a.normal; above = λ v h. a.above v (f v h); least = λ u n h. a.least u n (g u n h) }

-- the least of the sets that have a value is the least of all, where none is the only other
pub some_least : {V X : Type 0} {Has : V → Option X → Type 0} {Normal : Option X → Type 0} {I : V → Type 0} {x : X} → (v : V) × I v → ((v : V) → Has v None → ⊥)
    → IsLeast (λ v z. Has v (Some z)) (λ z. Normal (Some z)) I x → IsLeast Has Normal I (Some x)
some_least w empty a = grind arith

-- the least by a test
pub cond_least : {V P : Type 0} {Has : V → P → Type 0} {Normal : P → Type 0} {I : V → Type 0} {x y : P} (b : Bool) → (b ≡ true → IsLeast Has Normal I x) → (b ≡ false → IsLeast Has Normal I y)
    → IsLeast Has Normal I (cond b x y)
cond_least b f g = grind arith

-- a set is the least that has its values
pub itself-least : {V P : Type 0} {Has : V → P → Type 0} {Normal : P → Type 0} (s : P) → Normal s → IsLeast Has Normal (λ v. Has v s) s
itself-least s k = record { normal = k; above = λ v h. h; least = λ u n f. f }

-- sets that all have a value, with none beside them, told by what is just in two of them and what is least above two
pub lattice_of : {V X : Type 0} {Has : V → Option X → Type 0} {Normal : Option X → Type 0} {meet : X → X → Option X} {join : X → X → X} →
    Normal None →
    ((v : V) → Has v None → ⊥) →
    ((x : X) → Normal (Some x) → (v : V) × Has v (Some x)) →
    ((x y : X) → Normal (Some x) → Normal (Some y) → BelowBy Has (Some x) (Some y) → BelowBy Has (Some y) (Some x) → x ≡ y) →
    ((x y : X) → Normal (Some x) → Normal (Some y) → IsJust Has Normal (InBoth Has (Some x) (Some y)) (meet x y)) →
    ((x y : X) → Normal (Some x) → Normal (Some y) → IsLeast (λ v z. Has v (Some z)) (λ z. Normal (Some z)) (InEither Has (Some x) (Some y)) (join x y)) →
    Lattice Has Normal None (both_at meet) (joined join)
lattice_of normal empty value same meets joins = with_none (grind (arith, normal, empty, value, same, meets, joins))

-- ---- tables of sets

module _ {K V X : Type 0} {R : K → K → Ordering} (total : IsTotalOrder R) (same : IsAntisymmetric R) {Has : V → Option X → Type 0} {Normal : Option X → Type 0} {meet : X → X → Option X} {join : X → X
    → X} (l : Lattice Has Normal None (both_at meet) (joined join)) (k : K) where
  -- a table met with what g gives at each key
  pub at-met : (m : List (K × X)) (g : K → Option X) → is_table R m ≡ true → Normal (find R m k) → Normal (g k) → IsJust Has Normal (InBoth Has (find R m k) (g k)) (find R (chosen (λ q x. met_with (meet x) (g q)) m) k)
  at-met m g t i j = subst (IsJust Has Normal (InBoth Has (find R m k) (g k))) (sym (find-chosen total same (λ q x. met_with (meet x) (g q)) m t k ∙ met_with-both_at meet (find R m k) (g k))) (meet-just l (find R m k) (g k) i j)

  pub at-united : (m w : List (K × X)) → is_table R m ≡ true → is_table R w ≡ true → Normal (find R m k) → Normal (find R w k) → IsLeast Has Normal (InEither Has (find R m k) (find R w k)) (find R (united R join m w) k)
  at-united m w s t i j = subst (IsLeast Has Normal (InEither Has (find R m k) (find R w k))) (sym (find-united total same join m w s t k)) (join-least l (itself-least (find R m k) i) (itself-least (find R w k) j))

-- a table whose sets are part of those of another has no more of them
module _ {K V X : Type 0} {R : K → K → Ordering} (total : IsTotalOrder R) (same : IsAntisymmetric R) {Has : V → Option X → Type 0} {Normal : K → Option X → Type 0} {meet : X → X → Option X} {join : X → X
    → X} (sets : (k : K) → Lattice Has (Normal k) None (both_at meet) (joined join)) where
  pub length-below : (m w : List (K × X)) → is_table R m ≡ true → is_table R w ≡ true → ((k : K) → Normal k (find R m k)) → ((k : K) → BelowBy Has (find R m k) (find R w k)) → length m ≤ length w
  length-below m w s t j f = length-within total same m w s t (λ k h. grind (arith, (sets k).filled (find R m k) (j k), f k, (sets k).none_empty, h))

-- ---- what holds of some entry of a table

module _ {K X : Type 0} {R : K → K → Ordering} (total : IsTotalOrder R) (same : IsAntisymmetric R) (P : K → X → Type 0) where
  pub some_entry : (m : List (K × X)) → is_table R m ≡ true → SomeOf (λ e. P e.0 e.1) m → (k : K) × ((x : X) × ((find R m k ≡ Some x) × P k x))
  some_entry [] t h = grind arith
  some_entry (e ∷ m) t h = grind (arith, some_entry m, find-again total same e m)

  pub entry_some : (m : List (K × X)) (k : K) (x : X) → find R m k ≡ Some x → P k x → SomeOf (λ e. P e.0 e.1) m
  entry_some [] k x q h = absurd cc
  entry_some (e ∷ m) k x q h = grind (arith, entry_some m k x)

-- ---- sets joined one after the other are the least with the values of one

pub joined_least : {V P X : Type 0} {Has : V → P → Type 0} {Normal : P → Type 0} {none : P} {meet join : P → P → P} (l : Lattice Has Normal none meet join) (of : X → P) (xs : List X) → EachOf (λ x. Normal (of x)) xs
    → IsLeast Has Normal (λ v. SomeOf (λ x. Has v (of x)) xs) (joined_all join of none xs)
joined_least {none = none} l of xs k = record {
  normal = all-normal l of none xs l.none_normal k;
  above = λ v h. all-has l of none xs l.none_normal k v (inr h);
  least = λ u n f. all-least l of none xs u l.none_normal k n (λ v h. absurd (l.none_empty v h)) f;
}
