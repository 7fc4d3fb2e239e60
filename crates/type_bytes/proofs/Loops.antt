-- Cutting one shape after the other, as a loop does.
use Rattle.std.proofs.Common.{◌≡◌, ℕ, zero, suc, ◌-◌, ◌+◌, ◌≤◌, ◌<◌, true, false, cond, ◌&&◌, List, [], ◌∷◌, ◌++◌, Option, Some, None, Ok, Err, refl, sym, ap, ◌∙◌, arith, append_assoc}
use Rattle.std.proofs.lemmas.List.{append-nil}
use Rattle.std.specs.Prelude.{nat_le, ◌==◌}
use Rattle.std.proofs.lemmas.Bool.{false_from_ne_true, and_from}
use borrow.Author.Tests.{eqb-true, le-leb}
use Rattle.type_bytes.specs.declared.faults.ShapeFault.{ShapeFault}
use Rattle.type_bytes.specs.declared.faults.ShapeFault.TheVariants.{Broken}
use Rattle.type_bytes.specs.declared.faults.BytesFault.{BytesFault}
use Rattle.type_bytes.specs.declared.faults.BytesFault.TheVariants as faults
use Rattle.type_bytes.specs.steps.Reading as reading
use Rattle.type_bytes.specs.steps.Reading.{Fails}
use Rattle.type_bytes.specs.steps.Cuts.{Cut, ◌>>=◌, many, tag_cut, tags_cut, body_cut}

one_fewer : (count i : ℕ) → i < count → count - i ≡ suc (count - (i + 1))
one_fewer count i h = omega arith

module _ (f : List ℕ → Cut) (count i : ℕ) (bytes : List ℕ) (all : Cut) where
  pub cut_more : (after : List ℕ) → i < count → f bytes ≡ Ok after → many (count - i) f bytes ≡ all → many (count - (i + 1)) f after ≡ all
  cut_more after h e so_far = sym (ap (λ n. many n f bytes) (one_fewer count i h) ∙ ap (λ c. c >>= many (count - (i + 1)) f) e) ∙ so_far

  pub cut_fails : (fault : ShapeFault) → i < count → f bytes ≡ Err fault → many (count - i) f bytes ≡ all → all ≡ Err fault
  cut_fails fault h e so_far = sym so_far ∙ ap (λ n. many n f bytes) (one_fewer count i h) ∙ ap (λ c. c >>= many (count - (i + 1)) f) e

  pub cut_done : count ≤ i → many (count - i) f bytes ≡ all → all ≡ Ok bytes
  cut_done h so_far = sym so_far ∙ ap (λ n. many n f bytes) none_left
    where
      none_left : count - i ≡ 0
      none_left = omega arith

-- a body that is neither a product nor broken
pub tags_of_body : (f : List ℕ → Cut) (n b : ℕ) (bytes rest : List ℕ) → bytes ≡ b ∷ rest → (b ≡ 0 → ⊥) → (n ≡ 0 → ⊥) → b ≤ 13 → body_cut f n bytes ≡ many b (tag_cut f (n - 1)) rest
unfolding body_cut tags_cut
tags_of_body f zero b bytes rest e some size few = absurd (size refl)
tags_of_body f (suc n) b bytes rest e some size few =
    let not_zero : (b == 0) ≡ false = false_from_ne_true (b == 0) (λ h. some (eqb-true b 0 h)) in
    let in_range : (nat_le 1 b && nat_le b 13) ≡ true = and_from (nat_le 1 b) (nat_le b 13) (le-leb 1 b (omega arith)) (le-leb b 13 few) in
    let one_less : n ≡ suc n - 1 = omega arith in
    ap (body_cut f (suc n)) e
    ∙ ap (λ c. cond c (many (suc n) f rest) (tags_cut f (suc n) b rest)) not_zero
    ∙ ap (λ c. cond c (many b (tag_cut f n) rest) (Err Broken)) in_range
    ∙ ap (λ m. many b (tag_cut f m) rest) one_less

-- ---- reading one item after the other

-- what was read before, and what is read then
abbrev pub behind : {X : Type 0} → List X → Option (List X × List ℕ) → Option (List X × List ℕ)
behind xs read = reading.◌>>=◌ read (λ x. Some (xs ++ x.0, x.1))

module _ {X : Type 0} (f : List ℕ → Option (X × List ℕ)) (count i : ℕ) (bytes : List ℕ) (xs : List X) (all : Option (List X × List ℕ)) where
  regroup : (x : X) (read : Option (List X × List ℕ)) → behind xs (reading.◌>>=◌ read (λ later. Some (x ∷ later.0, later.1))) ≡ behind (xs ++ x ∷ []) read
  regroup x (Some later) = ap (λ ys. Some (ys, later.1)) (sym (append_assoc xs (x ∷ []) later.0))
  regroup x None = refl

  next : (x : X) (after : List ℕ) → i < count → f bytes ≡ Some (x, after) → behind xs (reading.many (count - i) f bytes) ≡ behind (xs ++ x ∷ []) (reading.many (count - (i + 1)) f after)
  next x after h e =
      ap (λ n. behind xs (reading.many n f bytes)) (one_fewer count i h)
      ∙ ap (λ r. behind xs (reading.◌>>=◌ r (λ y. reading.◌>>=◌ (reading.many (count - (i + 1)) f y.1) (λ ys. Some (y.0 ∷ ys.0, ys.1))))) e
      ∙ regroup x (reading.many (count - (i + 1)) f after)

  pub read_more : (ys : List X) (x : X) (after : List ℕ) → i < count → ys ≡ xs ++ x ∷ [] → f bytes ≡ Some (x, after) → behind xs (reading.many (count - i) f bytes) ≡ all
      → behind ys (reading.many (count - (i + 1)) f after) ≡ all
  read_more ys x after h is e so_far = ap (λ l. behind l (reading.many (count - (i + 1)) f after)) is ∙ sym (next x after h e) ∙ so_far

  pub read_fails : (fault : BytesFault) → i < count → Fails fault (f bytes) → behind xs (reading.many (count - i) f bytes) ≡ all → Fails fault all
  read_fails fault h e so_far = go fault e
    where
      none : f bytes ≡ None → all ≡ None
      none k = sym so_far ∙ ap (λ n. behind xs (reading.many n f bytes)) (one_fewer count i h)
          ∙ ap (λ r. behind xs (reading.◌>>=◌ r (λ y. reading.◌>>=◌ (reading.many (count - (i + 1)) f y.1) (λ ys. Some (y.0 ∷ ys.0, ys.1))))) k

      go : (fault : BytesFault) → Fails fault (f bytes) → Fails fault all
      go faults.Short k = none k
      go faults.NotCanonical k = none k
      go faults.Memory k = tt

  pub read_done : count ≤ i → behind xs (reading.many (count - i) f bytes) ≡ all → all ≡ Some (xs, bytes)
  read_done h so_far = sym so_far ∙ ap (λ n. behind xs (reading.many n f bytes)) none_left ∙ ap (λ l. Some (l, bytes)) (append-nil xs)
    where
      none_left : count - i ≡ 0
      none_left = omega arith
