-- How extensions of assignments are chained, and slots given values.
use Rattle.std.proofs.Common.{◌≡◌, ℕ, zero, suc, ◌+◌, ◌<◌, ◌≤◌, List, [], ◌∷◌, refl, sym, ap, ap₂, ◌∙◌, arith, Bool, true, false, if◌then◌else◌, eqb, le_trans}
use Rattle.std.proofs.lemmas.Bool.{eqb-true, eq-eqb}
use Rattle.type_lattice_model.specs.Values.{Value, Values, no_value, and_value, count}
use Rattle.cons_tree.specs.Environments.{Assignment}
use Rattle.cons_tree.specs.Satisfied.{values_of}
use Rattle.cons_gen_rows.specs.Slots.{slots_from}
use Rattle.sound_laws.specs.Assignments.{Alike, Extension}

pub and_next : {a : Assignment} {m n : ℕ} (k : ℕ) {P Q : Assignment → Type 0} → m ≤ k → k ≤ n → Extension a m k P → ((b : Assignment) → Alike m a b → P b → Extension b k n Q) → Extension a m n (λ b. P b × Q b)
and_next k mk kn x go =
    let y = go x.to x.same (x.holds x.to (λ i h. refl)) in
    record { to = y.to; same = λ i h. x.same i h ∙ y.same i (le_trans h mk); holds = λ b h. (x.holds b (λ i g. y.same i g ∙ h i (le_trans g kn)), y.holds b h) }

pub mapped : {a : Assignment} {m n : ℕ} {P Q : Assignment → Type 0} → Extension a m n P → ((b : Assignment) → P b → Q b) → Extension a m n Q
mapped x f = record { to = x.to; same = x.same; holds = λ b h. f b (x.holds b h) }

-- further slots at the end, and at the beginning
pub wider : {a : Assignment} {m n k : ℕ} {P : Assignment → Type 0} → n ≤ k → Extension a m n P → Extension a m k P
wider l x = record { to = x.to; same = x.same; holds = λ b h. x.holds b (λ i g. h i (le_trans g l)) }

pub earlier : {a : Assignment} {m k n : ℕ} {P : Assignment → Type 0} → m ≤ k → Extension a k n P → Extension a m n P
earlier l x = record { to = x.to; same = λ i h. x.same i (le_trans h l); holds = x.holds }

-- what holds of all that have the same values needs no further slot
pub kept : {a : Assignment} {n : ℕ} (P : Assignment → Type 0) → ((b : Assignment) → Alike n a b → P b) → Extension a n n P
kept {a} P f = record { to = a; same = λ i h. refl; holds = f }

other_slot : (a : Assignment) (s : ℕ) (v : Value) (i : ℕ) → i < s → a i ≡ (if eqb i s then v else a i)
other_slot a s v i h = by (eqb i s) refl
  where
    by : (b : Bool) → eqb i s ≡ b → a i ≡ (if b then v else a i)
    by true e = let same : i ≡ s = eqb-true i s e in absurd (omega (arith, same, h))
    by false e = refl

same_slot : (a : Assignment) (s : ℕ) (v : Value) → (if eqb s s then v else a s) ≡ v
same_slot a s v = ap (λ b. if b then v else a s) (eq-eqb s s refl)

-- one slot is given a value
pub set_one : (a : Assignment) (s : ℕ) (v : Value) → Extension a s (s + 1) (λ b. b s ≡ v)
set_one a s v = record { to = λ i. if eqb i s then v else a i; same = other_slot a s v; holds = λ b h. sym (h s (omega arith)) ∙ same_slot a s v }

-- slots one after another are given values
pub set_all : (vs : Values) (s : ℕ) (a : Assignment) → Extension a s (s + count vs) (λ b. values_of b (slots_from s (count vs)) ≡ vs)
set_all no_value s a = wider (omega arith) (kept (λ b. ◌≡◌ {A = Values} no_value no_value) (λ b h. refl))
set_all (and_value v vs) s a =
    mapped
    (wider {n = s + 1 + count vs} (omega arith) (and_next (s + 1) (omega arith) (omega arith) (set_one a s v) (λ b h e. set_all vs (s + 1) b)))
    (λ b h. ap₂ and_value h.0 h.1)

-- ---- slots that are all below m

abbrev pub AreUnder : ℕ → List ℕ → Type 0
AreUnder m [] = Unit {0}
AreUnder m (s ∷ ss) = (s < m) × AreUnder m ss

pub under_wider : (m n : ℕ) (ss : List ℕ) → m ≤ n → AreUnder m ss → AreUnder n ss
under_wider m n [] l h = tt
under_wider m n (s ∷ ss) l h = (le_trans h.0 l, under_wider m n ss l h.1)

pub under_end : (s n m : ℕ) → s + n ≤ m → AreUnder m (slots_from s n)
under_end s zero m l = tt
under_end s (suc n) m l = (omega (arith, l), under_end (s + 1) n m (omega (arith, l)))

pub same_values : (m : ℕ) (ss : List ℕ) (a b : Assignment) → AreUnder m ss → Alike m a b → values_of a ss ≡ values_of b ss
same_values m [] a b l h = refl
same_values m (s ∷ ss) a b l h = ap₂ and_value (h s l.0) (same_values m ss a b l.1 h)

-- ---- lists of values

pub first_value : {v w : Value} {vs ws : Values} → and_value v vs ≡ and_value w ws → v ≡ w
first_value e = cc

pub later_values : {v w : Value} {vs ws : Values} → and_value v vs ≡ and_value w ws → vs ≡ ws
later_values e = cc
