-- The laws of the values that hold no others.
use Rattle.std.specs.Prelude.{ℕ, suc, Bool, true, false, cond, nat_lt, ◌&&◌, ◌||◌}
use Rattle.std.proofs.Common.{◌≡◌, ◌⊎◌, ◌≤◌, ◌<◌, arith, inl, inr}
use Rattle.std.proofs.lemmas.Bool.{false_from_ne_true, cases_Bool, or_cases}
use Rattle.type_kinds_sets.specs.Names as names
use Rattle.type_kinds_sets.specs.Numbers as numbers
use Rattle.type_kinds_sets.specs.BitLengths as bit_lengths
use Rattle.type_kinds_sets.specs.declared.bits.Bits.TheVariants.{No}
use Rattle.type_kinds_sets.proofs.NameLaws as name_laws
use Rattle.type_kinds_sets.proofs.NumberLaws as number_laws
use Rattle.type_kinds_sets.proofs.BitLaws as bit_laws
use Rattle.type_kinds_sets.proofs.NameHeights as name_heights
use Rattle.type_kinds_sets.proofs.NumberHeights as number_heights
use Rattle.type_kinds_sets.proofs.BitHeights as bit_heights
use Rattle.type_lattice_model.specs.Shapes.{Flag, floats, pids, ports, references, nils, maps, Flags, Functions, no_function, of_arity, all_functions, PlainParts}
use Rattle.type_lattice_model.specs.HasType.{has_flag, has_arity}
use Rattle.type_lattice_model.specs.Operations.{no_flags, flags_join, is_no_flag, is_no_function, is_no_bits, plain_none, plain_meet, plain_join, is_atoms}
use Rattle.type_lattice_model.specs.Ranks.{flags_rank, functions_rank, plain_rank}
use Rattle.type_lattice_model.specs.ValueShapes.{PlainBelow, Leaf, an_int, an_atom, some_bits, of_flag, a_function, has_leaf}

-- ---- flags

pub has_flag-join : (k l : Flags) (x : Flag) → has_flag (flags_join k l) x ≡ (has_flag k x || has_flag l x)
has_flag-join k l x = grind arith

pub same_flags : (k l : Flags) → ((x : Flag) → has_flag k x ≡ has_flag l x) → k ≡ l
same_flags k l f = λ i. record { float = f floats i; pid = f pids i; port = f ports i; reference = f references i; nil = f nils i; map = f maps i }

-- ---- functions

-- one of the arities, if there are any
abbrev pub an_arity : Functions → ℕ
an_arity no_function = 0
an_arity (of_arity n) = n
an_arity all_functions = 0

pub same_functions : (f g : Functions) → ((n : ℕ) → has_arity f n ≡ true → has_arity g n ≡ true) → ((n : ℕ) → has_arity g n ≡ true → has_arity f n ≡ true) → f ≡ g
same_functions f g a b = grind (arith, a (an_arity f), b (an_arity g), a (suc (an_arity g)), b (suc (an_arity f)))

-- ---- all of them

pub plain-meet : (p q : PlainParts) (x : Leaf) → has_leaf (plain_meet p q) x ≡ (has_leaf p x && has_leaf q x)
plain-meet p q x = grind (arith, number_laws.has-meet, name_laws.has-meet, bit_laws.has-meet)

pub plain-join-least : (p q u : PlainParts) → PlainBelow p u → PlainBelow q u → PlainBelow (plain_join p q) u
plain-join-least p q u f g (an_int n) h = number_laws.join-least p.ints q.ints u.ints (λ m. f (an_int m)) (λ m. g (an_int m)) n h
plain-join-least p q u f g (an_atom a) h = name_laws.join-least p.atoms q.atoms u.atoms (λ b. f (an_atom b)) (λ b. g (an_atom b)) a h
plain-join-least p q u f g (some_bits n) h = bit_laws.join-least p.bits q.bits u.bits (λ m. f (some_bits m)) (λ m. g (some_bits m)) n h
plain-join-least p q u f g x h = grind (arith, f x, g x, f (a_function (an_arity p.functions)), g (a_function (an_arity q.functions)))

pub plain-none_empty : (x : Leaf) → has_leaf plain_none x ≡ true → ⊥
plain-none_empty x h = grind arith

-- ---- atoms and nothing else

pub is_atoms-only : (p : PlainParts) → is_atoms p ≡ true → p ≡ record { atoms = p.atoms; ints = numbers.none; bits = No; flags = no_flags; functions = no_function }
is_atoms-only p h = grind (arith, number_laws.is_none-is)

-- what isn't atoms alone has a value that is no atom
pub is_atoms-other : (p : PlainParts) → is_atoms p ≡ false → (x : Leaf) × ((has_leaf p x ≡ true) × ((a : names.Name) → x ≡ an_atom a → ⊥))
is_atoms-other p h = elim (cases_Bool (numbers.is_none p.ints)) [
  | inr k ↦ let n = number_laws.has_some p.ints k in (an_int n.0, (n.1, λ a e. cc))
  | inl k ↦ elim (cases_Bool (is_no_bits p.bits)) [
    | inr l ↦ let n : (n : ℕ) × (bit_lengths.has p.bits n ≡ true) = grind arith in (some_bits n.0, (n.1, λ a e. cc))
    | inl l ↦ elim (cases_Bool (is_no_flag p.flags)) [
      | inr m ↦ let n : (x : Flag) × (has_flag p.flags x ≡ true) = grind (arith, or_cases, false_from_ne_true) in (of_flag n.0, (n.1, λ a e. cc))
      | inl m ↦ elim (cases_Bool (is_no_function p.functions)) [
        | inr o ↦ (a_function (an_arity p.functions), (grind arith, λ a e. cc))
        | inl o ↦ grind arith
      ]
    ]
  ]
]

-- ---- ranks

-- they are one, or the first has a lower rank
abbrev pub Lower : {S : Type 0} → (S → ℕ) → S → S → Type 0
Lower rank s t = (s ≡ t) ⊎ (rank s < rank t)

-- a height that is lower where two sets differ
by_height : {S A : Type 0} (height : S → ℕ) (has : S → A → Bool) (s t : S) → ((s ≡ t → ⊥) → height s < height t) → (((a : A) → has t a ≡ true → has s a ≡ true) → s ≡ t) → Lower height s t
by_height height has s t f same = elim (cases_Bool (nat_lt (height s) (height t))) [
  | inl h ↦ inr (grind arith)
  | inr h ↦ inl (same (λ a k. grind (arith, f)))
]

flags-lower : (k l : Flags) → ((x : Flag) → has_flag k x ≡ true → has_flag l x ≡ true) → Lower flags_rank k l
flags-lower k l f = grind (arith, f floats, f pids, f ports, f references, f nils, f maps)

functions-lower : (f g : Functions) → ((n : ℕ) → has_arity f n ≡ true → has_arity g n ≡ true) → Lower functions_rank f g
functions-lower f g h = grind (arith, h (an_arity f), h (suc (an_arity g)))

pub plain-lower : (p q : PlainParts) → PlainBelow p q → Lower plain_rank p q
plain-lower p q f =
    let a = by_height names.height names.has p.atoms q.atoms (name_heights.height-lower p.atoms q.atoms (λ x. f (an_atom x))) (name_laws.same_names p.atoms q.atoms (λ x. f (an_atom x))) in
    let b = by_height numbers.height numbers.has p.ints q.ints (number_heights.height-lower p.ints q.ints (λ x. f (an_int x))) (number_laws.same_numbers p.ints q.ints (λ x. f (an_int x))) in
    let c = by_height bit_lengths.height bit_lengths.has p.bits q.bits (bit_heights.height-lower p.bits q.bits (λ x. f (some_bits x))) (bit_laws.same_bits p.bits q.bits (λ x. f (some_bits x))) in
    grind (arith, a, b, c, flags-lower p.flags q.flags (λ x. f (of_flag x)), functions-lower p.functions q.functions (λ x. f (a_function x)))

test-most : (b : Bool) → cond b 1 0 ≤ 1
test-most b = grind arith

pub plain-most : (p : PlainParts) → plain_rank p ≤ 42
plain-most p = grind (arith, name_heights.height-most, number_heights.height-most, bit_heights.height-most, test-most)

-- sets of the same values are one
pub plain-same : (p q : PlainParts) → PlainBelow p q → PlainBelow q p → p ≡ q
plain-same p q f g = grind (arith, plain-lower p q f, plain-lower q p g)
