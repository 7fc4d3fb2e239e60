-- Ways down from the plain parts of a type, to none of them.
use Rattle.std.proofs.Common.{◌≡◌, ◌≤◌, ℕ, zero, suc, ◌+◌, ℤ, Bool, true, false, cond, refl, sym, ap, ◌∙◌, subst, inl, inr, arith, true≢false}
use Rattle.std.proofs.lemmas.Bool.{cases_Bool}
use Rattle.type_kinds_sets.specs.Heights.{Falls}
use Rattle.type_kinds_sets.specs.Names as names
use Rattle.type_kinds_sets.specs.Names.{Name, Names}
use Rattle.type_kinds_sets.specs.Numbers as numbers
use Rattle.type_kinds_sets.specs.Numbers.{Numbers}
use Rattle.type_kinds_sets.specs.BitLengths as bit_lengths
use Rattle.type_kinds_sets.specs.declared.bits.Bits.{Bits}
use Rattle.type_kinds_sets.specs.declared.bits.Bits.TheVariants.{No}
use Rattle.type_kinds_sets.proofs.NameLaws as name_laws
use Rattle.type_kinds_sets.proofs.NumberLaws as number_laws
use Rattle.type_kinds_sets.proofs.NameHeights as name_heights
use Rattle.type_kinds_sets.proofs.NumberHeights as number_heights
use Rattle.type_kinds_sets.proofs.BitHeights as bit_heights
use Rattle.type_lattice_model.specs.Shapes.{Flag, Flags, Functions, no_function, of_arity, all_functions}
use Rattle.type_lattice_model.specs.HasType.{has_flag, has_arity}
use Rattle.type_lattice_model.specs.Operations.{no_flags, is_no_bits}
use Rattle.type_lattice_model.specs.Normal.{NormalFunctions}
use Rattle.type_lattice_model.specs.Laws.{BelowBy}
use Rattle.type_lattice_model.specs.Ranks.{flags_rank, functions_rank}
use Rattle.type_lattice_heights.proofs.Ways.{Way, no_step, one_step, way_then, way_lift}

-- every set is one
abbrev pub Each : {P : Type 0} → P → Type 0
Each s = Unit {0}

module _ {V P : Type 0} (Has : V → P → Type 0) where
  ends_of : (n : ℕ) (t : P) → Falls (BelowBy Has) n t → (s : P) × Way Has Each n s t
  unfolding Falls Way
  ends_of zero t f = (t, refl)
  ends_of (suc n) t f = let r = ends_of n f.0 f.1.1 in (r.0, (f.0, (tt, f.1.0.0, f.1.0.1, r.1)))

  falls_by : (n : ℕ) (s t : P) → Way Has Each n s t → Falls (BelowBy Has) n t
  unfolding Falls Way
  falls_by zero s t w = tt
  falls_by (suc n) s t w = (w.0, ((w.1.1, w.1.2), falls_by n s w.0 w.1.3))

  -- the longest way down ends where there is nothing left
  module _ (none : P) (is_none : P → Bool) (height : P → ℕ) where
    pub to_none : ((s : P) (n : ℕ) → Falls (BelowBy Has) n s → n ≤ height s) → ((s : P) → Falls (BelowBy Has) (height s) s) → ((v : V) → Has v none → ⊥)
        → ((s : P) → is_none s ≡ true → s ≡ none) → is_none none ≡ true → (s : P) → Way Has Each (height s) none s
    to_none bound reached empty is none_is s =
        let w = ends_of (height s) s (reached s) in
        elim (cases_Bool (is_none w.0)) [
          | inl e ↦ subst (λ x. Way Has Each (height s) x s) (is w.0 e) w.1
          | inr e ↦
              let last = one_step Has Each none w.0 tt (λ v h. absurd (empty v h)) (λ q. true≢false (sym none_is ∙ ap is_none q ∙ e)) in
              let more = bound s (height s + 1) (falls_by (height s + 1) none s (way_then Has Each 1 (height s) none w.0 s last w.1)) in
              absurd (omega (arith, more))
        ]

-- ---- sets of atoms, of integers and of bit strings

abbrev pub HasName : Name → Names → Type 0
HasName q s = names.has s q ≡ true

abbrev pub HasNumber : ℤ → Numbers → Type 0
HasNumber n s = numbers.has s n ≡ true

abbrev pub HasLength : ℕ → Bits → Type 0
HasLength n s = bit_lengths.has s n ≡ true

pub names_way : (s : Names) → Way HasName Each (names.height s) names.none s
names_way = to_none HasName names.none names.is_none names.height name_heights.height-bound name_heights.height-reached (λ q h. true≢false (sym h)) name_laws.is_none-is refl

pub numbers_way : (s : Numbers) → Way HasNumber Each (numbers.height s) numbers.none s
numbers_way = to_none HasNumber numbers.none numbers.is_none numbers.height number_heights.height-bound number_heights.height-reached (λ n h. true≢false (sym h)) number_laws.is_none-is refl

no_bits-is : (s : Bits) → is_no_bits s ≡ true → s ≡ No
no_bits-is s e = grind arith

pub bits_way : (s : Bits) → Way HasLength Each (bit_lengths.height s) No s
bits_way = to_none HasLength No is_no_bits bit_lengths.height bit_heights.height-bound bit_heights.height-reached (λ n h. true≢false (sym h)) no_bits-is refl

-- ---- flags

abbrev HasBit : Unit {0} → Bool → Type 0
HasBit v b = b ≡ true

bit_way : (b : Bool) → Way HasBit Each (cond b 1 0) false b
bit_way true = one_step HasBit Each false true tt (λ v h. absurd (true≢false (sym h))) (λ e. true≢false (sym e))
bit_way false = no_step HasBit Each false false refl

abbrev pub HasFlag : Flag → Flags → Type 0
HasFlag x k = has_flag k x ≡ true

-- a flag that is put in goes down by itself
flag_way : (put : Bool → Flags) → ((u v : Bool) → (u ≡ true → v ≡ true) → (x : Flag) → has_flag (put u) x ≡ true → has_flag (put v) x ≡ true) → ((u v : Bool) → put u ≡ put v → u ≡ v)
    → (b : Bool) → Way HasFlag Each (cond b 1 0) (put false) (put b)
flag_way put more same b = way_lift HasFlag Each put false (λ u k h. tt) (λ u v h x. more u v (h tt) x) same (cond b 1 0) b (bit_way b)

pub flags_way : (k : Flags) → Way HasFlag Each (flags_rank k) no_flags k
flags_way k =
    let f : Bool → Flags = λ b. record { float = b; pid = k.pid; port = k.port; reference = k.reference; nil = k.nil; map = k.map } in
    let g : Bool → Flags = λ b. record { float = false; pid = b; port = k.port; reference = k.reference; nil = k.nil; map = k.map } in
    let h : Bool → Flags = λ b. record { float = false; pid = false; port = b; reference = k.reference; nil = k.nil; map = k.map } in
    let i : Bool → Flags = λ b. record { float = false; pid = false; port = false; reference = b; nil = k.nil; map = k.map } in
    let j : Bool → Flags = λ b. record { float = false; pid = false; port = false; reference = false; nil = b; map = k.map } in
    let m : Bool → Flags = λ b. record { float = false; pid = false; port = false; reference = false; nil = false; map = b } in
    let a = flag_way f (λ u v p x q. grind (arith, p)) (λ u v e. ap (λ k. k.float) e) k.float in
    let b = flag_way g (λ u v p x q. grind (arith, p)) (λ u v e. ap (λ k. k.pid) e) k.pid in
    let c = flag_way h (λ u v p x q. grind (arith, p)) (λ u v e. ap (λ k. k.port) e) k.port in
    let d = flag_way i (λ u v p x q. grind (arith, p)) (λ u v e. ap (λ k. k.reference) e) k.reference in
    let x = flag_way j (λ u v p x q. grind (arith, p)) (λ u v e. ap (λ k. k.nil) e) k.nil in
    let y = flag_way m (λ u v p x q. grind (arith, p)) (λ u v e. ap (λ k. k.map) e) k.map in
    let ab = way_then HasFlag Each (cond k.pid 1 0) (cond k.float 1 0) (g false) (f false) k b a in
    let abc = way_then HasFlag Each (cond k.port 1 0) (cond k.float 1 0 + cond k.pid 1 0) (h false) (g false) k c ab in
    let abcd = way_then HasFlag Each (cond k.reference 1 0) (cond k.float 1 0 + cond k.pid 1 0 + cond k.port 1 0) (i false) (h false) k d abc in
    let most = way_then HasFlag Each (cond k.nil 1 0) (cond k.float 1 0 + cond k.pid 1 0 + cond k.port 1 0 + cond k.reference 1 0) (j false) (i false) k x abcd in
    way_then HasFlag Each (cond k.map 1 0) (cond k.float 1 0 + cond k.pid 1 0 + cond k.port 1 0 + cond k.reference 1 0 + cond k.nil 1 0) (m false) (j false) k y most

-- ---- functions

abbrev pub HasArity : ℕ → Functions → Type 0
HasArity n f = has_arity f n ≡ true

one_arity : (n : ℕ) → Way HasArity NormalFunctions 1 no_function (of_arity n)
one_arity n = one_step HasArity NormalFunctions no_function (of_arity n) tt (λ m h. absurd (true≢false (sym h))) (λ e. cc)

pub functions_way : (f : Functions) → Way HasArity NormalFunctions (functions_rank f) no_function f
functions_way no_function = no_step HasArity NormalFunctions no_function no_function refl
functions_way (of_arity n) = one_arity n
functions_way all_functions = way_then HasArity NormalFunctions 1 1 no_function (of_arity 0) all_functions (one_arity 0) (one_step HasArity NormalFunctions (of_arity 0) all_functions refl (λ m h. refl) (λ e. cc))
