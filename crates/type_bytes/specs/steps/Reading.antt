-- The type that bytes begin with, and what is left, as a function of the bytes: None where they begin with no type's spelling.
use Rattle.std.specs.Prelude.{◌≡◌, ℕ, zero, suc, ◌+◌, ◌-◌, ◌*◌, ◌/◌, ◌%◌, ◌==◌, nat_lt, nat_le, ℤ, Bool, true, not}
use Rattle.std.specs.Prelude.{cond, List, [], ◌∷◌, length, take, drop, Option, Some, None, is_some, Result, Ok, Err}
use Rattle.std.specs.Int.{w32, w128, from_be_bytes, cast_signed, bit_at}
use Rattle.std.specs.Ordering.{nat_cmp}
use Rattle.type_kinds_sets.specs.Names as names
use Rattle.type_kinds_sets.specs.Names.{Name, Names, name_cmp}
use Rattle.type_kinds_sets.specs.Numbers as numbers
use Rattle.type_kinds_sets.specs.Numbers.{Numbers}
use Rattle.type_kinds_sets.specs.Ends.{is_range}
use Rattle.type_kinds_sets.specs.declared.ends.Low.{Low}
use Rattle.type_kinds_sets.specs.declared.ends.Low.TheVariants as low
use Rattle.type_kinds_sets.specs.declared.ends.High.{High}
use Rattle.type_kinds_sets.specs.declared.ends.High.TheVariants as high
use Rattle.type_kinds_sets.specs.declared.bits.Bits.{Bits}
use Rattle.type_kinds_sets.specs.declared.bits.Bits.TheVariants.{No, Whole, Any}
use Rattle.type_lattice_model.specs.Tables.{is_table}
use Rattle.type_lattice_model.specs.Shapes.{Flags, Functions, no_function, of_arity, all_functions, Cell, Body, product, tags, Tuples, sizes, all_tuples, Parts, TypeAt}
use Rattle.type_lattice_model.specs.Operations.{Ops, ops}
use Rattle.type_lattice_model.specs.Full.{is_any}
use Rattle.type_bytes.specs.declared.faults.BytesFault.{BytesFault}
use Rattle.type_bytes.specs.declared.faults.BytesFault.TheVariants as faults

infixl 10 ◌>>=◌
abbrev pub ◌>>=◌ : {A B : Type 0} → Option A → (A → Option B) → Option B
(Some x) >>= f = f x
None >>= f = None

-- a function of the code has read what is read, unless memory was wanting
abbrev pub Fails : {Y : Type 0} → BytesFault → Option Y → Type 0
Fails faults.Short read = read ≡ None
Fails faults.NotCanonical read = read ≡ None
Fails faults.Memory read = Unit {0}

abbrev pub Reads : {X Y : Type 0} → (X → Y) → Result X BytesFault → Option Y → Type 0
Reads view (Ok x) read = read ≡ Some (view x)
Reads view (Err e) read = Fails e read

-- ---- bytes in general

abbrev pub first : {X : Type 0} → (ℕ → List ℕ → Option X) → List ℕ → Option X
first g [] = None
first g (b ∷ rest) = g b rest

abbrev pub many : {X : Type 0} → ℕ → (List ℕ → Option (X × List ℕ)) → List ℕ → Option (List X × List ℕ)
many zero f bytes = Some ([], bytes)
many (suc n) f bytes = f bytes >>= λ x. many n f x.1 >>= λ xs. Some (x.0 ∷ xs.0, xs.1)

-- what is given where a test passes
abbrev pub given : {X : Type 0} → Bool → X → Option X
given b x = cond b (Some x) None

abbrev pub where_set : {X : Type 0} → Bool → X → (List ℕ → Option (X × List ℕ)) → List ℕ → Option (X × List ℕ)
where_set b none f bytes = cond b (f bytes) (Some (none, bytes))

unfoldable pub number_at : List ℕ → Option (ℕ × List ℕ)
number_at bytes = cond (nat_lt (length bytes) 4) None (Some (from_be_bytes w32 (take 4 bytes), drop 4 bytes))

-- ---- the values that hold no others

unfoldable pub name_at : List ℕ → Option (Name × List ℕ)
name_at bytes = number_at bytes >>= λ n. cond (nat_lt (length n.1) n.0) None (Some (take n.0 n.1, drop n.0 n.1))

unfoldable pub int_at : List ℕ → Option (ℤ × List ℕ)
int_at bytes = cond (nat_lt (length bytes) 16) None (Some (cast_signed w128 (from_be_bytes w128 (take 16 bytes)), drop 16 bytes))

unfoldable pub names_at : ℕ → List ℕ → Option (Names × List ℕ)
names_at n bytes = many n name_at bytes >>= λ xs. given (names.are_listed xs.0) (names.listed xs.0, xs.1)

unfoldable pub atoms_at : List ℕ → Option (Names × List ℕ)
atoms_at bytes = first (λ b rest. cond (b == 0) (Some (names.every, rest)) (cond (nat_le b 13) (names_at b rest) None)) bytes

unfoldable pub low_at : ℕ → Option Low
low_at zero = Some low.Min
low_at (suc zero) = Some low.Zero
low_at (suc (suc zero)) = Some low.One
low_at n = None

unfoldable pub high_at : ℕ → Option High
high_at zero = Some high.MinusOne
high_at (suc zero) = Some high.Byte
high_at (suc (suc zero)) = Some high.Unicode
high_at (suc (suc (suc zero))) = Some high.Max
high_at n = None

unfoldable pub interval_at : ℕ → List ℕ → Option (Numbers × List ℕ)
interval_at n rest = low_at (n / 4) >>= λ l. high_at (n % 4) >>= λ h. given (is_range l h) (numbers.range l h, rest)

unfoldable pub numbers_at : ℕ → List ℕ → Option (Numbers × List ℕ)
numbers_at n bytes = many n int_at bytes >>= λ xs. given (numbers.are_listed xs.0) (numbers.listed xs.0, xs.1)

unfoldable pub ints_at : List ℕ → Option (Numbers × List ℕ)
ints_at bytes = first (λ b rest. cond (nat_le 128 b) (interval_at (b - 128) rest) (cond (b == 0) None (cond (nat_le b 13) (numbers_at b rest) None))) bytes

unfoldable pub bits_at : List ℕ → Option (Bits × List ℕ)
bits_at bytes = first (λ b rest. cond (b == 1) (Some (Whole, rest)) (cond (b == 2) (Some (Any, rest)) None)) bytes

unfoldable pub functions_at : List ℕ → Option (Functions × List ℕ)
functions_at bytes = first (λ b rest. cond (b == 0) (Some (all_functions, rest)) (cond (b == 1) (number_at rest >>= λ n. Some (of_arity n.0, n.1)) None)) bytes

-- ---- lists and tuples, with what element types are read as

module _ {E : Type 0} (o : Ops E) (element : List ℕ → Option (E × List ℕ)) where
  unfoldable pub cell_at : List ℕ → Option (Option (Cell E) × List ℕ)
  cell_at bytes = first (λ b rest. cond (nat_le b 1) (element rest >>= λ e. Some (Some (record { element = e.0; is_proper = b == 1 }), e.1)) None) bytes

  -- whether the first type of a product is no set of atoms that can be tags
  abbrev pub is_open : List E → Bool
  is_open [] = true
  is_open (e ∷ es) = not (is_some (o.only e))

  unfoldable pub product_at : ℕ → List ℕ → Option (Body E × List ℕ)
  product_at n bytes = many n element bytes >>= λ es. given (is_open es.0) (product es.0, es.1)

  unfoldable pub tag_at : ℕ → List ℕ → Option ((Name × List E) × List ℕ)
  tag_at n bytes = name_at bytes >>= λ a. many n element a.1 >>= λ es. Some ((a.0, es.0), es.1)

  unfoldable pub tags_at : ℕ → ℕ → List ℕ → Option (Body E × List ℕ)
  tags_at n b bytes = many b (tag_at n) bytes >>= λ m. given (is_table name_cmp m.0) (tags m.0, m.1)

  unfoldable pub body_at : ℕ → List ℕ → Option (Body E × List ℕ)
  body_at n bytes =
      first (λ b rest.
      cond (b == 0) (product_at n rest)
      (cond (n == 0) None (cond o.has_tags (cond (nat_le b 13) (tags_at (n - 1) b rest) None) None))) bytes

  unfoldable pub size_at : List ℕ → Option ((ℕ × Body E) × List ℕ)
  size_at bytes = first (λ n body. cond (nat_le n 64) (body_at n body >>= λ b. Some ((n, b.0), b.1)) None) bytes

  unfoldable pub sizes_at : ℕ → List ℕ → Option (Tuples E × List ℕ)
  sizes_at n bytes = many n size_at bytes >>= λ m. given (is_table nat_cmp m.0) (sizes m.0, m.1)

  unfoldable pub tuples_at : List ℕ → Option (Tuples E × List ℕ)
  tuples_at bytes = first (λ b rest. cond (b == 0) (Some (all_tuples, rest)) (cond (nat_le b 8) (sizes_at b rest) None)) bytes

-- the parts that have no bytes
abbrev pub mask_flags : ℕ → Flags
mask_flags m = record { float = bit_at m 2 == 1; pid = bit_at m 4 == 1; port = bit_at m 5 == 1; reference = bit_at m 6 == 1; nil = bit_at m 8 == 1; map = bit_at m 11 == 1 }

module _ {E : Type 0} (o : Ops E) (element : List ℕ → Option (E × List ℕ)) where
  -- the parts that a mask tells
  unfoldable pub parts_at : ℕ → List ℕ → Option (Parts E × List ℕ)
  parts_at m bytes =
      where_set (bit_at m 0 == 1) names.none atoms_at bytes >>= λ a. where_set (bit_at m 1 == 1) numbers.none ints_at a.1
      >>= λ i. where_set (bit_at m 3 == 1) No bits_at i.1 >>= λ b. where_set (bit_at m 7 == 1) no_function functions_at b.1
      >>= λ f. where_set (bit_at m 9 == 1) None (cell_at o element) f.1 >>= λ c. where_set (bit_at m 10 == 1) (sizes []) (tuples_at o element) c.1
      >>= λ t. Some (
        record {
          plain = record { atoms = a.0; ints = i.0; bits = b.0; flags = mask_flags m; functions = f.0 };
          cell = c.0;
          tuples = t.0;
        },
        t.1,
      )

  unfoldable pub masked_at : List ℕ → Option (Parts E × List ℕ)
  masked_at bytes =
      first (λ high later. first (λ low rest. cond (256 * high + low == 0) None (cond (nat_lt (256 * high + low) 4096) (parts_at (256 * high + low) rest) None)) later) bytes

-- ---- types

unfoldable pub behind_at : (d : ℕ) → ℕ → List ℕ → Option (TypeAt d × List ℕ)
behind_at zero b rest = given (b == 1) (true, rest)
behind_at (suc d) b rest =
    cond (b == 1) (Some ((ops (suc d)).any, rest))
    (cond (b == 2) (masked_at (ops d) (first (behind_at d)) rest >>= λ p. given (not (is_any (suc d) p.0)) p) None)

abbrev pub element_at : (d : ℕ) → List ℕ → Option (TypeAt d × List ℕ)
element_at d bytes = first (behind_at d) bytes

unfoldable pub type_at : List ℕ → Option (TypeAt 4 × List ℕ)
type_at bytes = first (λ b rest. cond (b == 0) (Some ((ops 4).none, rest)) (behind_at 4 b rest)) bytes
