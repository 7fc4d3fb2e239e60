-- What stands first in bytes is found, or nothing of its kind stands there: numbers, names, lists, types and what is made of them.
use Rattle.std.proofs.Common.{◌≡◌, ℕ, zero, suc, ◌<◌, ◌≤◌, ◌⊎◌, inl, inr, Bool, true, false, List, [], ◌∷◌, ◌++◌, length, take, drop, refl, sym, subst, add-one, length-drop, arith, Option, Some, None}
use Rattle.std.specs.Prelude.{slice_index}
use Rattle.std.specs.Int.{w32, from_be_bytes}
use Rattle.std.specs.List.{flat_map, list_all}
use Rattle.std.proofs.lemmas.Bool.{cases_lt, cases_eq}
use Rattle.std.proofs.lemmas.List.{take-append-drop}
use Rattle.type_kinds_sets.specs.Names.{Name}
use Rattle.type_kinds.proofs.Truths.{second}
use Rattle.type_bytes.proofs.FormatLaws.{AreBytes, bytes_front, bytes_back, byte_at}
use Rattle.type_bytes.proofs.TypeFormats.{type_sound, taken, not_taken}
use Rattle.type_bytes.specs.ShortNames.{has_short_names}
use Rattle.type_bytes.specs.Spelling.{bytes_of}
use Rattle.type_bytes.specs.steps.Reading.{type_at}
use Rattle.type_lattice.specs.Types.{Type4}
use Rattle.cons_tree.specs.Signatures.{agree}
use Rattle.cons_tree.specs.declared.parts.Sig.{Sig}
use Rattle.cons_tree.specs.declared.parts.Callee.TheVariants.{Known, Undefined, Unknown}
use Rattle.table_file.specs.Lengths.{is_short_callee}
use Rattle.table_file.specs.Spelling.{four_bytes, counted, text_bytes, sig_bytes, summary_bytes, callee_bytes, used_bytes, export_bytes}
use Rattle.table_file.specs.Stored.{is_stored}
use Rattle.table_file.specs.declared.used.Used.{Used}
use Rattle.table_file.specs.steps.Reads.{anything, Found, NoneFirst, Once, SoFar}
use Rattle.table_file.specs.steps.Tests.{are_types, is_sig, is_summary, is_callee, has_short_callee, is_short_export}
use Rattle.table_file.proofs.CalleeReading.{known_none, known_found, undefined_found, unknown_found, no_tag, other_tag, used_no_home, used_no_name}
use Rattle.table_file.proofs.CalleeReading.{used_no_arity, used_no_callee, used_found, export_no_name, export_no_arity, export_no_summary, export_found}
use Rattle.table_file.proofs.FieldLaws.{so_far_none, so_far_more, listed_none, listed_found, uncounted, counted_none, counted_found}
use Rattle.table_file.proofs.LeafLaws.{number_found, number_none, text_uncounted, text_cut, text_found}
use Rattle.table_file.proofs.SigReading.{sig_no_args, sig_no_result, sig_disagrees, sig_found, summary_no_strict, summary_no_lenient, summary_found}

-- the bytes begin with the spelling of a value that passes the test, or of none
abbrev pub Read : {X : Type 0} (test : X → Bool) (f : X → List ℕ) (bytes : List ℕ) → Type 0
Read {X} test f bytes = ((x : X) × (rest : List ℕ) × Found test f bytes x rest) ⊎ NoneFirst test f bytes

-- what is read of any bytes
abbrev pub Reader : {X : Type 0} (test : X → Bool) (f : X → List ℕ) → Type 0
Reader test f = (bytes : List ℕ) → AreBytes bytes → Read test f bytes

-- what is left of bytes are bytes
pub left : {X : Type 0} {test : X → Bool} {f : X → List ℕ} {bytes rest : List ℕ} {x : X} → Found test f bytes x rest → AreBytes bytes → AreBytes rest
left {f = f} {rest = rest} {x = x} found k = bytes_back (f x) rest (subst AreBytes found.spelled k)

-- ---- numbers and names

pub whole_number : (bytes : List ℕ) → AreBytes bytes → 4 ≤ length bytes → Found anything four_bytes bytes (from_be_bytes w32 (take 4 bytes)) (drop 4 bytes)
whole_number bytes k long =
    let front : AreBytes (take 4 bytes) = bytes_front (take 4 bytes) (drop 4 bytes) (subst AreBytes (sym (take-append-drop 4 bytes)) k) in
    let a : slice_index (take 4 bytes) 0 < 256 = byte_at (take 4 bytes) front 0 in
    let b : slice_index (take 4 bytes) 1 < 256 = byte_at (take 4 bytes) front 1 in
    let c : slice_index (take 4 bytes) 2 < 256 = byte_at (take 4 bytes) front 2 in
    let d : slice_index (take 4 bytes) 3 < 256 = byte_at (take 4 bytes) front 3 in
    number_found bytes (take 4 bytes) (drop 4 bytes) (from_be_bytes w32 (take 4 bytes)) refl refl (omega (arith, length-drop 4 bytes)) (byte_at bytes k) (omega arith) refl

pub number : Reader anything four_bytes
number bytes k =
    elim (cases_lt (length bytes) 4) [
      | inl short ↦ inr (number_none bytes short)
      | inr long ↦ inl (from_be_bytes w32 (take 4 bytes), drop 4 bytes, whole_number bytes k long)
    ]

pub text : Reader anything text_bytes
text bytes k = by (number bytes k)
  where
    by : Read anything four_bytes bytes → Read anything text_bytes bytes
    by (inr none) = inr (text_uncounted bytes none)
    by (inl (n, after, found)) =
        elim (cases_lt (length after) n) [
          | inl short ↦ inr (text_cut bytes after n found short)
          | inr long ↦ inl (take n after, drop n after, text_found bytes after (take n after) (drop n after) n found long refl refl)
        ]

-- ---- lists

module _ {X : Type 0} {test : X → Bool} {f : X → List ℕ} (read : Reader test f) where
  -- n items were read, or fewer, and none stands behind them
  abbrev Items : (n : ℕ) (bytes : List ℕ) → Type 0
  Items n bytes =
      ((xs : List X) × (rest : List ℕ) × SoFar test f bytes xs rest n)
      ⊎ ((xs : List X) × (rest : List ℕ) × (m : ℕ) × SoFar test f bytes xs rest m × (m < n) × NoneFirst test f rest)

  items : (n : ℕ) (bytes : List ℕ) → AreBytes bytes → Items n bytes
  items zero bytes k = inl ([], bytes, so_far_none bytes [] refl)
  items (suc n) bytes k = by (items n bytes k)
    where
      one_more : (xs : List X) (rest : List ℕ) → SoFar test f bytes xs rest n → Read test f rest → Items (suc n) bytes
      one_more xs rest s (inl (x, after, found)) = inl (xs ++ x ∷ [], after, subst (λ m. SoFar test f bytes (xs ++ x ∷ []) after m) (add-one n) (so_far_more (xs ++ x ∷ []) refl s found))
      one_more xs rest s (inr none) = inr (xs, rest, n, s, omega arith, none)

      by : Items n bytes → Items (suc n) bytes
      by (inl (xs, rest, s)) = one_more xs rest s (read rest (bytes_back (flat_map f xs) rest (subst AreBytes s.spelled k)))
      by (inr (xs, rest, m, s, less, none)) = inr (xs, rest, m, s, omega arith, none)

  pub counted_list : Once test f → Reader (list_all test) (counted f)
  counted_list once bytes k = by (number bytes k)
    where
      behind : (n : ℕ) (after : List ℕ) → Found anything four_bytes bytes n after → Items n after → Read (list_all test) (counted f) bytes
      behind n after found (inl (xs, rest, s)) = inl (xs, rest, counted_found found s refl)
      behind n after found (inr (xs, rest, m, s, less, none)) = inr (counted_none once found s less none)

      by : Read anything four_bytes bytes → Read (list_all test) (counted f) bytes
      by (inr none) = inr (uncounted f none)
      by (inl (n, after, found)) = behind n after found (items n after (left found k))

-- ---- types and signatures

by_option : {A X : Type 0} (o : Option X) → (o ≡ None → A) → ((x : X) → o ≡ Some x → A) → A
by_option None none some = none refl
by_option (Some x) none some = some x refl

one_type : Reader has_short_names bytes_of
one_type bytes k =
    by_option (type_at bytes) (λ e. inr (record { never = not_taken bytes e })) (λ read e.
    let t : Type4 = record { ty = read.0; normal = (type_sound bytes read.0 read.1 k e).0 } in
    let is = taken bytes read.1 t read.0 refl k e in
    inl (t, read.1, record { kept = is.1; spelled = is.0 }))

module _ (once : Once has_short_names bytes_of) where
  types : (n : ℕ) → Reader (are_types n) (flat_map bytes_of)
  types n bytes k = by (items one_type n bytes k)
    where
      by : Items one_type n bytes → Read (are_types n) (flat_map bytes_of) bytes
      by (inl (xs, rest, s)) = inl (xs, rest, listed_found n s refl)
      by (inr (xs, rest, m, s, less, none)) = inr (listed_none n once s less none)

  sig : (n : ℕ) → Reader (is_sig n) sig_bytes
  sig n bytes k = by (types n bytes k)
    where
      agreeing : (ts : List Type4) (after : List ℕ) → Found (are_types n) (flat_map bytes_of) bytes ts after → (t : Type4) (rest : List ℕ) → Found has_short_names bytes_of after t rest
          → (b : Bool) → agree (t ∷ ts) ≡ b → Read (is_sig n) sig_bytes bytes
      agreeing ts after args t rest returned true e = inl (record { args = ts; result = t; agreed = e }, rest, sig_found n (record { args = ts; result = t; agreed = e }) args returned)
      agreeing ts after args t rest returned false e = inr (sig_disagrees n once args returned e)

      returning : (ts : List Type4) (after : List ℕ) → Found (are_types n) (flat_map bytes_of) bytes ts after → Read has_short_names bytes_of after → Read (is_sig n) sig_bytes bytes
      returning ts after args (inl (t, rest, returned)) = agreeing ts after args t rest returned (agree (t ∷ ts)) refl
      returning ts after args (inr none) = inr (sig_no_result n once args none)

      by : Read (are_types n) (flat_map bytes_of) bytes → Read (is_sig n) sig_bytes bytes
      by (inr none) = inr (sig_no_args n none)
      by (inl (ts, after, args)) = returning ts after args (one_type after (left args k))

  module _ (once_sig : (n : ℕ) → Once (is_sig n) sig_bytes) where
    summary : (n : ℕ) → Reader (is_summary n) summary_bytes
    summary n bytes k = by (sig n bytes k)
      where
        behind : (s : Sig) (after : List ℕ) → Found (is_sig n) sig_bytes bytes s after → Read (is_sig n) sig_bytes after → Read (is_summary n) summary_bytes bytes
        behind s after strict (inl (l, rest, lenient)) = inl (record { strict = s; lenient = l }, rest, summary_found n (record { strict = s; lenient = l }) strict lenient)
        behind s after strict (inr none) = inr (summary_no_lenient n (once_sig n) strict none)

        by : Read (is_sig n) sig_bytes bytes → Read (is_summary n) summary_bytes bytes
        by (inr none) = inr (summary_no_strict n none)
        by (inl (s, after, strict)) = behind s after strict (sig n after (left strict k))

    -- ---- used functions and exports

    callee : (n : ℕ) → Reader (is_callee n) callee_bytes
    callee n [] k = inr (no_tag n [] refl)
    callee n (tag ∷ after) k = zeroth (cases_eq tag 0)
      where
        known : Read (is_summary n) summary_bytes after → Read (is_callee n) callee_bytes (2 ∷ after)
        known (inr none) = inr (known_none n after none)
        known (inl (s, rest, found)) = inl (Known s, rest, known_found n after found)

        second_ : (tag ≡ 0 → ⊥) → (tag ≡ 1 → ⊥) → (tag ≡ 2) ⊎ (tag ≡ 2 → ⊥) → Read (is_callee n) callee_bytes (tag ∷ after)
        second_ no_zero no_one (inl e) = subst (λ b. Read (is_callee n) callee_bytes (b ∷ after)) (sym e) (known (summary n after k.1))
        second_ no_zero no_one (inr no_two) = inr (other_tag n tag refl (omega arith))

        first_ : (tag ≡ 0 → ⊥) → (tag ≡ 1) ⊎ (tag ≡ 1 → ⊥) → Read (is_callee n) callee_bytes (tag ∷ after)
        first_ no_zero (inl e) = inl (Unknown, after, unknown_found n tag refl e)
        first_ no_zero (inr no_one) = second_ no_zero no_one (cases_eq tag 2)

        zeroth : (tag ≡ 0) ⊎ (tag ≡ 0 → ⊥) → Read (is_callee n) callee_bytes (tag ∷ after)
        zeroth (inl e) = inl (Undefined, after, undefined_found n tag refl e)
        zeroth (inr no_zero) = first_ no_zero (cases_eq tag 1)

    pub one_used : Reader has_short_callee used_bytes
    one_used bytes k = homed (text bytes k)
      where
        called : {home name : Name} {b c : List ℕ} (n : ℕ) (d : List ℕ) → Found anything text_bytes bytes home b → Found anything text_bytes b name c → Found anything four_bytes c n d
            → Read (is_callee n) callee_bytes d → Read has_short_callee used_bytes bytes
        called n d h f a (inr none) = inr (used_no_callee h f a none)
        called {home} {name} n d h f a (inl (e, rest, found)) =
            let u : Used = record { home = home; name = record { name = name; arity = n }; callee = e; stored = second (is_short_callee e) (is_stored e n) found.kept } in
            inl (u, rest, used_found u h f a found)

        counting : {home name : Name} {b c : List ℕ} → Found anything text_bytes bytes home b → Found anything text_bytes b name c → AreBytes c → Read anything four_bytes c → Read has_short_callee used_bytes bytes
        counting h f kc (inr none) = inr (used_no_arity h f none)
        counting h f kc (inl (n, d, a)) = called n d h f a (callee n d (left a kc))

        named : {home : Name} {b : List ℕ} → Found anything text_bytes bytes home b → AreBytes b → Read anything text_bytes b → Read has_short_callee used_bytes bytes
        named h kb (inr none) = inr (used_no_name h none)
        named h kb (inl (name, c, f)) = counting h f (left f kb) (number c (left f kb))

        homed : Read anything text_bytes bytes → Read has_short_callee used_bytes bytes
        homed (inr none) = inr (used_no_home none)
        homed (inl (home, b, h)) = named h (left h k) (text b (left h k))

    pub one_export : Reader is_short_export export_bytes
    one_export bytes k = named (text bytes k)
      where
        summed : {name : Name} (n : ℕ) (more : List ℕ) → n < 256 → Found anything text_bytes bytes name (n ∷ more) → Read (is_summary n) summary_bytes more → Read is_short_export export_bytes bytes
        summed n more small f (inr none) = inr (export_no_summary n n f refl refl none)
        summed {name} n more small f (inl (s, rest, found)) =
            inl ((record { name = name; arity = n }, s), rest, export_found n (record { name = name; arity = n }, s) f refl refl small found)

        counting : {name : Name} (after : List ℕ) → AreBytes after → Found anything text_bytes bytes name after → Read is_short_export export_bytes bytes
        counting [] ka f = inr (export_no_arity f refl)
        counting (n ∷ more) ka f = summed n more ka.0 f (summary n more ka.1)

        named : Read anything text_bytes bytes → Read is_short_export export_bytes bytes
        named (inr none) = inr (export_no_name none)
        named (inl (name, after, f)) = counting after (left f k) f
