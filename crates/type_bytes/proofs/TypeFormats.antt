-- Types are read as they are spelled, and nothing else, level by level.
use Rattle.std.proofs.Common.{◌≡◌, inl, inr, ℕ, zero, suc, ◌<◌, ◌≤◌, Bool, true, false, not, cond, ◌&&◌, ◌||◌, List, []}
use Rattle.std.proofs.Common.{◌∷◌, ◌++◌, Option, Some, None, is_some, length, refl, sym, ap, ◌∙◌, subst, arith, true≢false}
use Rattle.std.specs.Prelude.{IsTrue, ◌==◌}
use Rattle.std.specs.List.{list_all, AllByRecursion as Each}
use Rattle.std.proofs.lemmas.List.{length-append}
use Rattle.std.proofs.lemmas.Bool.{false_from_ne_true, or_parts, cases_Bool, and_from}
use Rattle.std.proofs.lemmas.Option.{some_pair_parts}
use Rattle.type_kinds.proofs.Truths.{first, second}
use borrow.Author.Tests.{ltb-true, lt-ltb, eqb-true, eqb-false, not-true, not-false}
use Rattle.type_kinds_sets.specs.Names as names
use Rattle.type_kinds_sets.specs.Names.{Name}
use Rattle.type_kinds_sets.specs.Numbers as numbers
use Rattle.type_lattice_model.specs.Shapes.{Flags, Cell, Body, product, tags, Tuples, sizes, all_tuples, Parts, TypeAt}
use Rattle.type_lattice_model.specs.Operations.{Ops, ops, is_empty, is_no_bits, is_no_flag, is_no_function, is_atoms, is_only_atoms, no_cell, no_tuples, parts_is_none}
use Rattle.type_lattice_model.specs.Normal.{NormalCell, AreElements, FirstIsOpen, NormalRows, NormalBody, NormalSizes, NormalTuples, NormalParts, NormalAt}
use Rattle.type_lattice_model.specs.Values.{nil}
use Rattle.type_lattice_model.proofs.CellLaws.{filled-not_none}
use Rattle.type_lattice_model.proofs.LevelLaws.{level_laws}
use Rattle.type_lattice_model.specs.Full.{is_any}
use Rattle.type_lattice_model.proofs.FullLaws.{any_is_all}
use Rattle.type_lattice.specs.Types.{Type4, same_type}
use Rattle.type_bytes.specs.Spelling.{has_tuples, parts_of, mask, all_bytes, bytes_at, bytes_of}
use Rattle.type_bytes.specs.ShortNames.{is_short, are_short, is_short_cell, is_short_tag, is_short_body, is_short_size, are_short_tuples, are_short_parts, is_short_at, has_short_names}
use Rattle.type_bytes.specs.Shapes.{BeginNoType}
use Rattle.type_bytes.specs.steps.Reading.{◌>>=◌, given, is_open, masked_at, behind_at, element_at, type_at}
use Rattle.type_bytes.proofs.FormatLaws.{AreBytes, Format, bound, was_given, chosen, never, granted}
use Rattle.type_bytes.proofs.MaskLaws.{one_if, number_of}
use Rattle.type_bytes.proofs.TreeFormats.{GoodCell, GoodTag, GoodBody, GoodSize, GoodTuples, GoodMasked, masked_format}
use Rattle.type_bytes.proofs.Writes.{any_bytes}
use Rattle.type_bytes.proofs.Shorts.{any_short}

-- ---- whether a mask is 0

zero_bit : (b : Bool) → one_if b ≡ 0 → b ≡ false
zero_bit true e = absurd (omega arith)
zero_bit false e = refl

no_flags_there : (k : Flags) → k.float ≡ false → k.pid ≡ false → k.port ≡ false → k.reference ≡ false → k.nil ≡ false → k.map ≡ false → is_no_flag k ≡ true
no_flags_there k a b c d e f = λ i. not (a i || b i || c i || d i || e i || f i)

module _ {E : Type 0} (o : Ops E) (spelled : E → List ℕ) where
  no_cell_there : (c : Option (Cell E)) → is_some c ≡ false → no_cell o c ≡ true
  no_cell_there None h = refl
  no_cell_there (Some c) h = absurd (true≢false h)

  cell_missing : (c : Option (Cell E)) → no_cell o c ≡ true → is_some c ≡ false
  cell_missing None h = refl
  cell_missing (Some c) h = absurd (true≢false (sym h))

  no_tuples_there : (u : Tuples E) → has_tuples spelled u ≡ false → no_tuples o u ≡ true
  no_tuples_there (sizes []) h = refl
  no_tuples_there (sizes (s ∷ m)) h = absurd (true≢false h)
  no_tuples_there all_tuples h = absurd (true≢false h)

  tuples_missing : (u : Tuples E) → no_tuples o u ≡ true → has_tuples spelled u ≡ false
  tuples_missing (sizes []) h = refl
  tuples_missing (sizes (s ∷ m)) h = absurd (true≢false (sym h))
  tuples_missing all_tuples h = absurd (true≢false (sym h))

  no_mask : (p : Parts E) → mask (parts_of spelled p) ≡ 0 → parts_is_none o p ≡ true
  no_mask p z =
      let q = p.plain in
      let a = not-false (names.is_none q.atoms) (zero_bit _ (omega arith)) in
      let i = not-false (numbers.is_none q.ints) (zero_bit _ (omega arith)) in
      let float = zero_bit q.flags.float (omega arith) in
      let b = not-false (is_no_bits q.bits) (zero_bit _ (omega arith)) in
      let pid = zero_bit q.flags.pid (omega arith) in
      let port = zero_bit q.flags.port (omega arith) in
      let reference = zero_bit q.flags.reference (omega arith) in
      let f = not-false (is_no_function q.functions) (zero_bit _ (omega arith)) in
      let nils = zero_bit q.flags.nil (omega arith) in
      let c = no_cell_there p.cell (zero_bit _ (omega arith)) in
      let u = no_tuples_there p.tuples (zero_bit _ (omega arith)) in
      let maps = zero_bit q.flags.map (omega arith) in
      let k = no_flags_there q.flags float pid port reference nils maps in
      λ j. a j && (i j && b j && k j && f j && c j && u j)

  mask_of_none : (p : Parts E) → parts_is_none o p ≡ true → mask (parts_of spelled p) ≡ 0
  mask_of_none p h =
      let q = p.plain in
      let a = first (names.is_none q.atoms) (is_only_atoms o p) h in
      let rest = second (names.is_none q.atoms) (is_only_atoms o p) h in
      let u = tuples_missing p.tuples (second (is_atoms q && no_cell o p.cell) (no_tuples o p.tuples) rest) in
      let lists = first (is_atoms q && no_cell o p.cell) (no_tuples o p.tuples) rest in
      let c = cell_missing p.cell (second (is_atoms q) (no_cell o p.cell) lists) in
      let plain = first (is_atoms q) (no_cell o p.cell) lists in
      let f = second (numbers.is_none q.ints && is_no_bits q.bits && is_no_flag q.flags) (is_no_function q.functions) plain in
      let flags = first (numbers.is_none q.ints && is_no_bits q.bits && is_no_flag q.flags) (is_no_function q.functions) plain in
      let k = not-true _ (second (numbers.is_none q.ints && is_no_bits q.bits) (is_no_flag q.flags) flags) in
      let sets = first (numbers.is_none q.ints && is_no_bits q.bits) (is_no_flag q.flags) flags in
      let i = first (numbers.is_none q.ints) (is_no_bits q.bits) sets in
      let b = second (numbers.is_none q.ints) (is_no_bits q.bits) sets in
      let maps = or_parts _ q.flags.map k in
      let nils = or_parts _ q.flags.nil maps.0 in
      let reference = or_parts _ q.flags.reference nils.0 in
      let port = or_parts _ q.flags.port reference.0 in
      let pid = or_parts q.flags.float q.flags.pid port.0 in
      (λ j. number_of (not (a j)) (not (i j)) (pid.0 j) (not (b j)) (pid.1 j) (port.1 j) (reference.1 j) (not (f j)) (nils.1 j) (c j) (u j) (maps.1 j))

  mask_some : (p : Parts E) → parts_is_none o p ≡ false → (mask (parts_of spelled p) == 0) ≡ false
  mask_some p h = false_from_ne_true (mask (parts_of spelled p) == 0) (λ z. true≢false (sym (no_mask p (eqb-true (mask (parts_of spelled p)) 0 z)) ∙ h))

  some_mask : (p : Parts E) → (mask (parts_of spelled p) == 0) ≡ false → parts_is_none o p ≡ false
  some_mask p h = false_from_ne_true (parts_is_none o p) (λ n. eqb-false (mask (parts_of spelled p)) 0 h (mask_of_none p n))

-- ---- types in normal form with short names, and what is read and spelled

module _ {E : Type 0} (Normal : E → Type 0) (o : Ops E) (short : E → Bool) (spelled : E → List ℕ) (element : List ℕ
    → Option (E × List ℕ)) (t : Format (λ e. Normal e × ((o.is_none e ≡ false) × IsTrue (short e))) spelled element) where
  abbrev Good : E → Type 0
  Good e = Normal e × ((o.is_none e ≡ false) × IsTrue (short e))

  to_elements : (es : List E) → Each Good es → AreElements Normal o es × IsTrue (list_all short es)
  to_elements [] k = (tt, refl)
  to_elements (e ∷ es) k = let later = to_elements es k.1 in (((k.0.0, k.0.1.0), later.0), and_from (short e) (list_all short es) k.0.1.1 later.1)

  from_elements : (es : List E) → AreElements Normal o es → IsTrue (list_all short es) → Each Good es
  from_elements [] k h = tt
  from_elements (e ∷ es) k h = ((k.0.0, (k.0.1, first (short e) (list_all short es) h)), from_elements es k.1 (second (short e) (list_all short es) h))

  to_cell : (c : Option (Cell E)) → GoodCell o Good spelled element t c → NormalCell Normal o c × IsTrue (is_short_cell short c)
  to_cell None k = (tt, refl)
  to_cell (Some c) k = ((k.0, k.1.0), k.1.1)

  from_cell : (c : Option (Cell E)) → NormalCell Normal o c → IsTrue (is_short_cell short c) → GoodCell o Good spelled element t c
  from_cell None k h = tt
  from_cell (Some c) k h = (k.0, (k.1, h))

  -- ---- tags

  to_tags : (n : ℕ) (m : List (Name × List E)) → Each (GoodTag o Good spelled element t n) m → NormalRows Normal o n m × IsTrue (list_all (is_short_tag short) m)
  to_tags n [] k = (tt, refl)
  to_tags n (g ∷ m) k =
      let row = to_elements g.1 k.0.1.1 in
      let later = to_tags n m k.1 in
      (((k.0.1.0, row.0), later.0), and_from (is_short_tag short g) (list_all (is_short_tag short) m) (and_from (is_short g.0) (list_all short g.1) k.0.0 row.1) later.1)

  from_tags : (n : ℕ) (m : List (Name × List E)) → NormalRows Normal o n m → IsTrue (list_all (is_short_tag short) m) → Each (GoodTag o Good spelled element t n) m
  from_tags n [] k h = tt
  from_tags n (g ∷ m) k h =
      let here = first (is_short_tag short g) (list_all (is_short_tag short) m) h in
      ((first (is_short g.0) (list_all short g.1) here, (k.0.0, from_elements g.1 k.0.1 (second (is_short g.0) (list_all short g.1) here))), from_tags n m k.1 (second (is_short_tag short g) (list_all (is_short_tag short) m) h))

  some_items : {X : Type 0} (m : List X) → 1 ≤ length m → is_empty m ≡ false
  some_items [] h = absurd (omega arith)
  some_items (x ∷ m) h = refl

  items_some : {X : Type 0} (m : List X) → is_empty m ≡ false → 1 ≤ length m
  items_some [] h = absurd (true≢false h)
  items_some (x ∷ m) h = omega arith

  nothing : {X : Type 0} (x : Option X) → is_some x ≡ false → x ≡ None
  nothing None h = refl
  nothing (Some x) h = absurd (true≢false h)

  to_open : (es : List E) → is_open o element es ≡ true → FirstIsOpen Normal o es
  to_open [] h = tt
  to_open (e ∷ es) h = nothing (o.only e) (not-true (is_some (o.only e)) h)

  from_open : (es : List E) → FirstIsOpen Normal o es → is_open o element es ≡ true
  from_open [] h = refl
  from_open (e ∷ es) h = ap (λ x. not (is_some x)) h

  to_body : (n : ℕ) (b : Body E) → GoodBody o Good spelled element t n b → NormalBody Normal o n (Some b) × IsTrue (is_short_body short b)
  to_body n (product es) k = let row = to_elements es k.0.1 in (((k.0.0, row.0), to_open es k.1), row.1)
  to_body zero (tags m) k = absurd k
  to_body (suc n) (tags m) k =
      let all = to_tags n m k.1.1.1.1 in
      let most = k.1.1.1.0 in
      (((k.1.0, some_items m k.1.1.0, all.0), lt-ltb (length m) 14 (omega arith), k.0), all.1)

  from_body : (n : ℕ) (b : Body E) → NormalBody Normal o n (Some b) → IsTrue (is_short_body short b) → GoodBody o Good spelled element t n b
  from_body n (product es) k h = ((k.0.0, from_elements es k.0.1 h), from_open es k.1)
  from_body zero (tags m) k h = absurd k
  from_body (suc n) (tags m) k h =
      let most = ltb-true (length m) 14 k.1 in
      (k.2, (k.0.0, (items_some m k.0.1, (omega arith, from_tags n m k.0.2 h))))

  -- ---- sizes

  to_sizes : (m : List (ℕ × Body E)) → Each (GoodSize o Good spelled element t) m → NormalSizes Normal o m × IsTrue (list_all (is_short_size short) m)
  to_sizes [] k = (tt, refl)
  to_sizes (s ∷ m) k =
      let most = k.0.0 in
      let body = to_body s.0 s.1 k.0.1 in
      let later = to_sizes m k.1 in
      (((lt-ltb s.0 65 (omega arith), body.0), later.0), and_from (is_short_size short s) (list_all (is_short_size short) m) body.1 later.1)

  from_sizes : (m : List (ℕ × Body E)) → NormalSizes Normal o m → IsTrue (list_all (is_short_size short) m) → Each (GoodSize o Good spelled element t) m
  from_sizes [] k h = tt
  from_sizes (s ∷ m) k h =
      let most = ltb-true s.0 65 k.0.0 in
      ((omega arith, from_body s.0 s.1 k.0.1 (first (is_short_size short s) (list_all (is_short_size short) m) h)), from_sizes m k.1 (second (is_short_size short s) (list_all (is_short_size short) m) h))

  to_tuples : (u : Tuples E) → GoodTuples o Good spelled element t u → NormalTuples Normal o u × IsTrue (are_short_tuples short u)
  to_tuples (sizes m) k = let all = to_sizes m k.1.1 in let most = k.1.0 in ((k.0, lt-ltb (length m) 9 (omega arith), all.0), all.1)
  to_tuples all_tuples k = (tt, refl)

  from_tuples : (u : Tuples E) → NormalTuples Normal o u → IsTrue (are_short_tuples short u) → GoodTuples o Good spelled element t u
  from_tuples (sizes m) k h = let most = ltb-true (length m) 9 k.1 in (k.0, (omega arith, from_sizes m k.2 h))
  from_tuples all_tuples k h = tt

  -- ---- the parts of a type

  to_parts : (p : Parts E) → GoodMasked o Good spelled element t p → NormalParts Normal o p × ((parts_is_none o p ≡ false) × IsTrue (are_short_parts short p))
  to_parts p k =
      let cell = to_cell p.cell k.0.1.1.0 in
      let tuples = to_tuples p.tuples k.0.1.1.1 in (
        (k.0.1.0, cell.0, tuples.0),
        (
          some_mask o spelled p k.1,
          and_from (are_short p.plain.atoms && is_short_cell short p.cell) (are_short_tuples short p.tuples)
              (and_from (are_short p.plain.atoms) (is_short_cell short p.cell) k.0.0 cell.1) tuples.1,
        ),
      )

  from_parts : (p : Parts E) → NormalParts Normal o p → parts_is_none o p ≡ false → IsTrue (are_short_parts short p) → GoodMasked o Good spelled element t p
  from_parts p k some h =
      let lists = first (are_short p.plain.atoms && is_short_cell short p.cell) (are_short_tuples short p.tuples) h in (
        (
          first (are_short p.plain.atoms) (is_short_cell short p.cell) lists,
          (
            k.0,
            (from_cell p.cell k.1 (second (are_short p.plain.atoms) (is_short_cell short p.cell) lists), from_tuples p.tuples k.2 (second (are_short p.plain.atoms && is_short_cell short p.cell) (are_short_tuples short p.tuples) h)),
          ),
        ),
        mask_some o spelled p some,
      )

-- ---- levels

-- what has a spelling as an element
abbrev pub GoodAt : (d : ℕ) → TypeAt d → Type 0
GoodAt d t = NormalAt d t × (((ops d).is_none t ≡ false) × IsTrue (is_short_at d t))

abbrev pub Elements : ℕ → Type 0
Elements d = Format (GoodAt d) (bytes_at d) (element_at d)

any_some : (d : ℕ) → (ops d).is_none (ops d).any ≡ false
any_some d = filled-not_none (level_laws d) (ops d).any nil ((level_laws d).any_in nil)

good_any : (d : ℕ) → GoodAt d (ops d).any
good_any d = ((level_laws d).any_normal, (any_some d, any_short d))

base_elements : Elements 0
unfolding behind_at ops NormalAt
base_elements = record { complete = complete; sound = sound }
  where
    complete : (t : Bool) (rest : List ℕ) → GoodAt 0 t → element_at 0 (bytes_at 0 t ++ rest) ≡ Some (t, rest)
    complete true rest k = refl
    complete false rest k = absurd (true≢false k.1.0)

    sound : (bytes : List ℕ) (t : Bool) (rest : List ℕ) → AreBytes bytes → element_at 0 bytes ≡ Some (t, rest) → GoodAt 0 t × (bytes ≡ bytes_at 0 t ++ rest)
    sound [] t rest k e = never (t, rest) e
    sound (b ∷ bytes) t rest k e =
        let g = was_given (b == 1) (true, bytes) (t, rest) e in
        subst (λ p. GoodAt 0 p.0 × (b ∷ bytes ≡ bytes_at 0 p.0 ++ p.1)) g.1 ((tt, (refl, refl)), (λ i. eqb-true b 1 g.0 i ∷ bytes))

-- the bytes of a type that isn't any and has a value
open_is : (d : ℕ) (t : TypeAt (suc d)) → is_any (suc d) t ≡ false → (ops (suc d)).is_none t ≡ false → bytes_at (suc d) t ≡ 2 ∷ all_bytes (parts_of (bytes_at d) t)
open_is d t a n = ap (λ b. cond b (1 ∷ []) (cond ((ops (suc d)).is_none t) (0 ∷ []) (2 ∷ all_bytes (parts_of (bytes_at d) t)))) a ∙ ap (λ b. cond b (0 ∷ []) (2 ∷ all_bytes (parts_of (bytes_at d) t))) n

module _ (d : ℕ) (t : Elements d) where
  masked : Format (GoodMasked (ops d) (GoodAt d) (bytes_at d) (element_at d) t) (λ p. all_bytes (parts_of (bytes_at d) p)) (masked_at (ops d) (element_at d))
  masked = masked_format (ops d) (GoodAt d) (bytes_at d) (element_at d) t

  to_good : (p : TypeAt (suc d)) → GoodMasked (ops d) (GoodAt d) (bytes_at d) (element_at d) t p → GoodAt (suc d) p
  unfolding NormalAt ops
  to_good p k = to_parts (NormalAt d) (ops d) (is_short_at d) (bytes_at d) (element_at d) t p k

  from_good : (p : TypeAt (suc d)) → GoodAt (suc d) p → GoodMasked (ops d) (GoodAt d) (bytes_at d) (element_at d) t p
  unfolding NormalAt ops
  from_good p k = from_parts (NormalAt d) (ops d) (is_short_at d) (bytes_at d) (element_at d) t p k.0 k.1.0 k.1.1

  next_complete : (p : TypeAt (suc d)) (rest : List ℕ) → GoodAt (suc d) p → element_at (suc d) (bytes_at (suc d) p ++ rest) ≡ Some (p, rest)
  unfolding behind_at
  next_complete p rest k = elim (cases_Bool (is_any (suc d) p)) [
    | inl a ↦
        let is = any_is_all (suc d) p a in
        ap (λ x. element_at (suc d) (bytes_at (suc d) x ++ rest)) is ∙ ap (λ b. element_at (suc d) (b ++ rest)) (any_bytes (suc d)) ∙ ap (λ x. Some (x, rest)) (sym is)
    | inr a ↦
        ap (λ b. element_at (suc d) (b ++ rest)) (open_is d p a k.1.0)
        ∙ ap (λ r. r >>= λ q. given (not (is_any (suc d) q.0)) q) (masked.complete p rest (from_good p k))
        ∙ ap (λ b. given (not b) (p, rest)) a
  ]

  next_sound : (bytes : List ℕ) (p : TypeAt (suc d)) (rest : List ℕ) → AreBytes bytes → element_at (suc d) bytes ≡ Some (p, rest) → GoodAt (suc d) p × (bytes ≡ bytes_at (suc d) p ++ rest)
  unfolding behind_at
  next_sound [] p rest k e = never (p, rest) e
  next_sound (b ∷ bytes) p rest k e = elim (chosen (b == 1) (Some ((ops (suc d)).any, bytes)) (cond (b == 2) (masked_at (ops d) (element_at d) bytes >>= λ q. given (not (is_any (suc d) q.0)) q) None) (Some (p, rest)) e) [
    | inl h ↦
        let f = some_pair_parts (ops (suc d)).any p bytes rest h.1 in
        subst (λ q. GoodAt (suc d) q × (b ∷ bytes ≡ bytes_at (suc d) q ++ rest)) f.0 (good_any (suc d), (λ i. eqb-true b 1 h.0 i ∷ f.1 i) ∙ ap (λ r. r ++ rest) (sym (any_bytes (suc d))))
    | inr h ↦
        let g = granted (b == 2) (masked_at (ops d) (element_at d) bytes >>= λ q. given (not (is_any (suc d) q.0)) q) (p, rest) h.1 in
        let q = bound (masked_at (ops d) (element_at d) bytes) (λ q. given (not (is_any (suc d) q.0)) q) (p, rest) g.1 in
        let w = was_given (not (is_any (suc d) q.0.0)) q.0 (p, rest) q.1.1 in
        let s = masked.sound bytes q.0.0 q.0.1 k.1 q.1.0 in
        let good = to_good q.0.0 s.0 in
        let spelled = open_is d q.0.0 (not-true (is_any (suc d) q.0.0) w.0) good.1.0 in
        subst (λ x. GoodAt (suc d) x.0 × (b ∷ bytes ≡ bytes_at (suc d) x.0 ++ x.1)) w.1 (good, (λ i. eqb-true b 2 g.0 i ∷ s.1 i) ∙ ap (λ r. r ++ q.0.1) (sym spelled))
  ]

pub elements : (d : ℕ) → Elements d
elements zero = base_elements
elements (suc d) = record { complete = next_complete d (elements d); sound = next_sound d (elements d) }

-- parts that are read are in normal form
pub masked_normal : (d : ℕ) (bytes : List ℕ) (p : TypeAt (suc d)) (rest : List ℕ) → AreBytes bytes → masked_at (ops d) (element_at d) bytes ≡ Some (p, rest) → NormalAt (suc d) p
masked_normal d bytes p rest k e = (to_good d (elements d) p ((masked d (elements d)).sound bytes p rest k e).0).0

-- ---- types

none_is : (t : TypeAt 4) → (ops 4).is_none t ≡ true → t ≡ (ops 4).none
none_is t h = (level_laws 4).none-is_none t h

none_bytes : bytes_at 4 (ops 4).none ≡ 0 ∷ []
unfolding ops
none_bytes = refl

none_short : is_short_at 4 (ops 4).none ≡ true
unfolding ops
none_short = refl

above_zero : (b : ℕ) (rest : List ℕ) (p : TypeAt 4) (left : List ℕ) → behind_at 4 b rest ≡ Some (p, left) → (b == 0) ≡ false
unfolding behind_at
above_zero zero rest p left e = never (p, left) e
above_zero (suc b) rest p left e = false_from_ne_true (suc b == 0) (λ h. let z = eqb-true (suc b) 0 h in absurd (omega arith))

-- where there is a value, a type is read as an element is
as_element : (bytes : List ℕ) (p : TypeAt 4) (rest : List ℕ) → element_at 4 bytes ≡ Some (p, rest) → type_at bytes ≡ Some (p, rest)
unfolding type_at
as_element [] p rest e = never (p, rest) e
as_element (b ∷ bytes) p rest e = ap (λ c. cond c (Some ((ops 4).none, bytes)) (behind_at 4 b bytes)) (above_zero b bytes p rest e) ∙ e

-- what is spelled is read
pub type_complete : (t : TypeAt 4) (rest : List ℕ) → NormalAt 4 t → IsTrue (is_short_at 4 t) → type_at (bytes_at 4 t ++ rest) ≡ Some (t, rest)
unfolding type_at
type_complete t rest k h = elim (cases_Bool ((ops 4).is_none t)) [
  | inl n ↦
      let is = none_is t n in
      ap (λ x. type_at (bytes_at 4 x ++ rest)) is ∙ ap (λ b. type_at (b ++ rest)) none_bytes ∙ ap (λ x. Some (x, rest)) (sym is)
  | inr n ↦ as_element (bytes_at 4 t ++ rest) t rest ((elements 4).complete t rest (k, (n, h)))
]

-- what is read is spelled so
pub type_sound : (bytes : List ℕ) (t : TypeAt 4) (rest : List ℕ) → AreBytes bytes → type_at bytes ≡ Some (t, rest) → NormalAt 4 t × (IsTrue (is_short_at 4 t) × (bytes ≡ bytes_at 4 t ++ rest))
unfolding type_at
type_sound [] t rest k e = never (t, rest) e
type_sound (b ∷ bytes) t rest k e = elim (chosen (b == 0) (Some ((ops 4).none, bytes)) (behind_at 4 b bytes) (Some (t, rest)) e) [
  | inl h ↦
      let f = some_pair_parts (ops 4).none t bytes rest h.1 in
      subst (λ x. NormalAt 4 x × (IsTrue (is_short_at 4 x) × (b ∷ bytes ≡ bytes_at 4 x ++ rest))) f.0 ((level_laws 4).lattice.none_normal, (none_short, (λ i. eqb-true b 0 h.0 i ∷ f.1 i) ∙ ap (λ r. r ++ rest) (sym none_bytes)))
  | inr h ↦ let s = (elements 4).sound (b ∷ bytes) t rest k h.1 in (s.0.0, (s.0.1.1, s.1))
]

-- two types are spelled apart, whatever follows
pub bytes_once : (s t : Type4) (x y : List ℕ) → IsTrue (has_short_names s) → IsTrue (has_short_names t) → bytes_of s ++ x ≡ bytes_of t ++ y → (s ≡ t) × (x ≡ y)
unfolding bytes_of has_short_names
bytes_once s t x y h k e =
    let f = some_pair_parts s.ty t.ty x y (sym (type_complete s.ty x s.normal h) ∙ ap type_at e ∙ type_complete t.ty y t.normal k) in
    (same_type s t f.0, f.1)

-- ---- what is taken

pub taken : (bytes rest : List ℕ) (t : Type4) (s : TypeAt 4) → t.ty ≡ s → AreBytes bytes → type_at bytes ≡ Some (s, rest) → (bytes ≡ bytes_of t ++ rest) × IsTrue (has_short_names t)
unfolding bytes_of has_short_names
taken bytes rest t s is k e =
    let r = type_sound bytes s rest k e in
    (r.1.1 ∙ ap (λ x. bytes_at 4 x ++ rest) (sym is), ap (is_short_at 4) is ∙ r.1.0)

pub not_taken : (bytes : List ℕ) → type_at bytes ≡ None → BeginNoType bytes
unfolding bytes_of has_short_names
not_taken bytes none t rest h e = never {P = ⊥} (t.ty, rest) (sym none ∙ ap type_at e ∙ type_complete t.ty rest t.normal h)

-- a type has a byte
one_byte : (d : ℕ) (t : TypeAt (suc d)) → 1 ≤ length (bytes_at (suc d) t)
one_byte d t = byte_there (is_any (suc d) t) ((ops (suc d)).is_none t) (all_bytes (parts_of (bytes_at d) t))
  where
    byte_there : (a n : Bool) (rest : List ℕ) → 1 ≤ length (cond a (1 ∷ []) (cond n (0 ∷ []) (2 ∷ rest)))
    byte_there true n rest = omega arith
    byte_there false true rest = omega arith
    byte_there false false rest = omega arith

pub left_shorter : (bytes rest : List ℕ) (t : Type4) → bytes ≡ bytes_of t ++ rest → length rest < length bytes
unfolding bytes_of
left_shorter bytes rest t e = omega (arith, ap length e, length-append (bytes_at 4 t.ty) rest, one_byte 3 t.ty)
