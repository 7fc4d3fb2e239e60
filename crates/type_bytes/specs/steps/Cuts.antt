-- What is left behind a shape, as a function of the bytes.
use Rattle.std.specs.Prelude.{◌≡◌, ℕ, zero, suc, ◌+◌, ◌*◌, ◌==◌, nat_lt, nat_le, Bool, cond, ◌&&◌, List, [], ◌∷◌, length, take, drop, Result, Ok, Err}
use Rattle.std.specs.Int.{w32, from_be_bytes, bit_at}
use Rattle.type_bytes.specs.declared.faults.ShapeFault.{ShapeFault}
use Rattle.type_bytes.specs.declared.faults.ShapeFault.TheVariants.{Short, Broken}

abbrev pub Cut : Type 0
Cut = Result (List ℕ) ShapeFault

infixl 10 ◌>>=◌
abbrev pub ◌>>=◌ : Cut → (List ℕ → Cut) → Cut
(Ok rest) >>= f = f rest
(Err e) >>= f = Err e

-- a function of the code has found what is left
abbrev pub Cuts : {X : Type 0} → (X → List ℕ) → Result X ShapeFault → Cut → Type 0
Cuts view (Ok x) cut = cut ≡ Ok (view x)
Cuts view (Err e) cut = cut ≡ Err e

-- ---- shapes in general

unfoldable pub skip : ℕ → List ℕ → Cut
skip n bytes = cond (nat_lt (length bytes) n) (Err Short) (Ok (drop n bytes))

abbrev pub many : ℕ → (List ℕ → Cut) → List ℕ → Cut
many zero f bytes = Ok bytes
many (suc n) f bytes = f bytes >>= many n f

abbrev pub first : (ℕ → List ℕ → Cut) → List ℕ → Cut
first g [] = Err Short
first g (b ∷ rest) = g b rest

abbrev pub counted : ℕ → (List ℕ → Cut) → ℕ → List ℕ → Cut
counted most f b rest = cond (nat_le 1 b && nat_le b most) (many b f rest) (Err Broken)

abbrev pub where_set : Bool → (List ℕ → Cut) → List ℕ → Cut
where_set b f bytes = cond b (f bytes) (Ok bytes)

-- ---- the parts of a type

unfoldable pub name_cut : List ℕ → Cut
name_cut bytes = cond (nat_lt (length bytes) 4) (Err Short) (skip (from_be_bytes w32 (take 4 bytes)) (drop 4 bytes))

unfoldable pub atoms_cut : List ℕ → Cut
atoms_cut bytes = first (λ b rest. cond (b == 0) (Ok rest) (counted 13 name_cut b rest)) bytes

unfoldable pub ints_cut : List ℕ → Cut
ints_cut bytes = first (λ b rest. cond (nat_le 128 b && nat_lt b 140) (Ok rest) (counted 13 (skip 16) b rest)) bytes

unfoldable pub bits_cut : List ℕ → Cut
bits_cut bytes = first (λ b rest. cond (nat_le 1 b && nat_le b 2) (Ok rest) (Err Broken)) bytes

unfoldable pub functions_cut : List ℕ → Cut
functions_cut bytes = first (λ b rest. cond (b == 0) (Ok rest) (cond (b == 1) (skip 4 rest) (Err Broken))) bytes

module _ (element : List ℕ → Cut) where
  unfoldable pub cell_cut : List ℕ → Cut
  cell_cut bytes = first (λ b rest. cond (nat_le b 1) (element rest) (Err Broken)) bytes

  unfoldable pub tag_cut : ℕ → List ℕ → Cut
  tag_cut n bytes = name_cut bytes >>= many n element

  unfoldable pub tags_cut : ℕ → ℕ → List ℕ → Cut
  tags_cut zero b rest = Err Broken
  tags_cut (suc n) b rest = counted 13 (tag_cut n) b rest

  unfoldable pub body_cut : ℕ → List ℕ → Cut
  body_cut n bytes = first (λ b rest. cond (b == 0) (many n element rest) (tags_cut n b rest)) bytes

  unfoldable pub size_cut : List ℕ → Cut
  size_cut bytes = first (λ n body. cond (nat_le n 64) (body_cut n body) (Err Broken)) bytes

  unfoldable pub tuples_cut : List ℕ → Cut
  tuples_cut bytes = first (λ b rest. cond (b == 0) (Ok rest) (counted 8 size_cut b rest)) bytes

  unfoldable pub parts_cut : ℕ → List ℕ → Cut
  parts_cut m bytes =
      where_set (bit_at m 0 == 1) atoms_cut bytes >>= λ ints. where_set (bit_at m 1 == 1) ints_cut ints
      >>= λ bits. where_set (bit_at m 3 == 1) bits_cut bits >>= λ functions. where_set (bit_at m 7 == 1) functions_cut functions
      >>= λ cell. where_set (bit_at m 9 == 1) cell_cut cell >>= λ tuples. where_set (bit_at m 10 == 1) tuples_cut tuples

  unfoldable pub masked_cut : List ℕ → Cut
  masked_cut bytes = first (λ high later. cond (nat_lt high 16) (first (λ low rest. parts_cut (256 * high + low) rest) later) (Err Broken)) bytes

-- ---- types

unfoldable pub behind_cut : ℕ → ℕ → List ℕ → Cut
behind_cut zero b rest = cond (b == 1) (Ok rest) (Err Broken)
behind_cut (suc d) b rest = cond (b == 1) (Ok rest) (cond (b == 2) (masked_cut (first (behind_cut d)) rest) (Err Broken))

abbrev pub element_cut : ℕ → List ℕ → Cut
element_cut d bytes = first (behind_cut d) bytes

unfoldable pub type_cut : List ℕ → Cut
type_cut bytes = first (λ b rest. cond (b == 0) (Ok rest) (behind_cut 4 b rest)) bytes
