-- Where a type is read, the shape that is cut off ends at the same position.
use Rattle.std.proofs.Common.{◌≡◌, inl, inr, ℕ, zero, suc, ◌+◌, ◌*◌, ◌-◌, ◌/◌, ◌%◌, ◌≤◌, Bool, true, false, not, cond, ◌&&◌, List}
use Rattle.std.proofs.Common.{[], ◌∷◌, ◌++◌, Option, Some, None, length, take, drop, sym, ap, ◌∙◌, subst, arith, true≢false}
use Rattle.std.specs.Prelude.{IsTrue, nat_lt, nat_le, ◌==◌, Ok, Err}
use Rattle.std.specs.Int.{w32, from_be_bytes, bit_at}
use Rattle.std.proofs.lemmas.List.{append-nil}
use borrow.Author.Tests.{ltb-true, lt-ltb, eqb-true, leb-true, le-leb}
use Rattle.type_kinds_sets.specs.Names as names
use Rattle.type_kinds_sets.specs.Names.{Names, name_cmp}
use Rattle.type_kinds_sets.specs.Numbers as numbers
use Rattle.type_kinds_sets.specs.Numbers.{Numbers}
use Rattle.type_kinds_sets.specs.declared.bits.Bits.{Bits}
use Rattle.type_kinds_sets.specs.Ends.{is_range}
use Rattle.type_kinds_sets.specs.declared.ends.Low.{Low}
use Rattle.type_kinds_sets.specs.declared.bits.Bits.TheVariants.{No, Whole, Any}
use Rattle.std.specs.Ordering.{nat_cmp}
use Rattle.std.proofs.lemmas.Bool.{and_from}
use Rattle.std.proofs.lemmas.Option.{some_pair_parts}
use Rattle.type_lattice_model.specs.Tables.{is_table}
use Rattle.type_lattice_model.specs.Shapes.{Functions, no_function, of_arity, all_functions, Cell, product, tags, Tuples, sizes, all_tuples, Parts}
use Rattle.type_lattice_model.specs.Operations.{Ops, ops}
use Rattle.type_lattice_model.specs.Full.{is_any}
use Rattle.type_lattice.specs.Types.{Type4}
use Rattle.type_bytes.specs.declared.faults.ShapeFault.TheVariants.{Short, Broken}
use Rattle.type_bytes.specs.Spelling.{bytes_of}
use Rattle.type_bytes.specs.ShortNames.{has_short_names}
use Rattle.type_bytes.specs.Shapes.{TypeShape, IsShort}
use Rattle.type_bytes.specs.steps.Cuts as cut
use Rattle.type_bytes.specs.steps.Cuts.{Cut, skip, counted, name_cut, atoms_cut, ints_cut, bits_cut, functions_cut, cell_cut, tag_cut, tags_cut, body_cut, size_cut, tuples_cut, parts_cut, masked_cut, behind_cut, element_cut, type_cut}
use Rattle.type_bytes.specs.steps.Reading.{◌>>=◌, many, given, where_set, number_at, name_at, int_at, names_at, atoms_at, low_at, high_at, interval_at, numbers_at, ints_at, bits_at, functions_at}
use Rattle.type_bytes.specs.steps.Reading.{is_open, cell_at, product_at, tag_at, tags_at, body_at, size_at, sizes_at, tuples_at, mask_flags, parts_at, masked_at, behind_at, element_at, type_at}
use Rattle.type_bytes.proofs.FormatLaws.{bound, was_given, chosen, never, passed, granted}
use Rattle.type_bytes.proofs.ShapeLaws.{type_tells, not_short}
use Rattle.type_bytes.proofs.TypeFormats.{type_complete}

-- where the first reads something, the second ends at the same position
abbrev Follows : {X : Type 0} → (List ℕ → Option (X × List ℕ)) → (List ℕ → Cut) → Type 0
Follows {X} f g = (bytes : List ℕ) (x : X) (rest : List ℕ) → f bytes ≡ Some (x, rest) → g bytes ≡ Ok rest

many_follows : {X : Type 0} (f : List ℕ → Option (X × List ℕ)) (g : List ℕ → Cut) → Follows f g → (n : ℕ) → Follows (many n f) (cut.many n g)
many_follows f g t zero bytes xs rest e = ap Ok (some_pair_parts [] xs bytes rest e).1
many_follows f g t (suc n) bytes xs rest e =
    let x = bound (f bytes) (λ y. many n f y.1 >>= λ ys. Some (y.0 ∷ ys.0, ys.1)) (xs, rest) e in
    let ys = bound (many n f x.0.1) (λ ys. Some (x.0.0 ∷ ys.0, ys.1)) (xs, rest) x.1.1 in
    ap (λ c. cut.◌>>=◌ c (cut.many n g)) (t bytes x.0.0 x.0.1 x.1.0) ∙ many_follows f g t n x.0.1 ys.0.0 ys.0.1 ys.1.0 ∙ ap Ok (some_pair_parts (x.0.0 ∷ ys.0.0) xs ys.0.1 rest ys.1.1).1

where_follows : {X : Type 0} (f : List ℕ → Option (X × List ℕ)) (g : List ℕ → Cut) (none : X) → Follows f g → (b : Bool) → Follows (where_set b none f) (cut.where_set b g)
where_follows f g none t true bytes x rest e = t bytes x rest e
where_follows f g none t false bytes x rest e = ap Ok (some_pair_parts none x bytes rest e).1

-- behind a count that isn't 0
counted_is : (most b : ℕ) (g : List ℕ → Cut) (bytes rest : List ℕ) → (b == 0) ≡ false → b ≤ most → cut.many b g bytes ≡ Ok rest → counted most g b bytes ≡ Ok rest
counted_is most b g bytes rest some few e = ap (λ c. cond c (cut.many b g bytes) (Err Broken)) (and_from (nat_le 1 b) (nat_le b most) (le-leb 1 b (above b some)) (le-leb b most few)) ∙ e
  where
    above : (n : ℕ) → (n == 0) ≡ false → 1 ≤ n
    above zero h = absurd (true≢false h)
    above (suc n) h = omega arith

-- ---- the values that hold no others

skip_is : (n : ℕ) (bytes : List ℕ) → nat_lt (length bytes) n ≡ false → skip n bytes ≡ Ok (drop n bytes)
unfolding skip
skip_is n bytes h = ap (λ b. cond b (Err Short) (Ok (drop n bytes))) h

number_follows : Follows number_at (skip 4)
unfolding number_at
number_follows bytes n rest e =
    let p = passed (nat_lt (length bytes) 4) (Some (from_be_bytes w32 (take 4 bytes), drop 4 bytes)) (n, rest) e in
    skip_is 4 bytes p.0 ∙ ap Ok (some_pair_parts (from_be_bytes w32 (take 4 bytes)) n (drop 4 bytes) rest p.1).1

name_follows : Follows name_at name_cut
unfolding name_at name_cut number_at
name_follows bytes a rest e =
    let n = bound (number_at bytes) (λ n. cond (nat_lt (length n.1) n.0) None (Some (take n.0 n.1, drop n.0 n.1))) (a, rest) e in
    let c = passed (nat_lt (length bytes) 4) (Some (from_be_bytes w32 (take 4 bytes), drop 4 bytes)) n.0 n.1.0 in
    let f = some_pair_parts (from_be_bytes w32 (take 4 bytes)) n.0.0 (drop 4 bytes) n.0.1 c.1 in
    let p = passed (nat_lt (length n.0.1) n.0.0) (Some (take n.0.0 n.0.1, drop n.0.0 n.0.1)) (a, rest) n.1.1 in
    ap (λ b. cond b (Err Short) (skip (from_be_bytes w32 (take 4 bytes)) (drop 4 bytes))) c.0
    ∙ (λ i. skip (f.0 i) (f.1 i)) ∙ skip_is n.0.0 n.0.1 p.0 ∙ ap Ok (some_pair_parts (take n.0.0 n.0.1) a (drop n.0.0 n.0.1) rest p.1).1

int_follows : Follows int_at (skip 16)
unfolding int_at
int_follows bytes n rest e =
    let p = passed (nat_lt (length bytes) 16) _ (n, rest) e in
    skip_is 16 bytes p.0 ∙ ap Ok (some_pair_parts _ n (drop 16 bytes) rest p.1).1

atoms_follows : Follows atoms_at atoms_cut
unfolding atoms_at atoms_cut names_at
atoms_follows [] s rest e = never (s, rest) e
atoms_follows (b ∷ bytes) s rest e = elim (chosen (b == 0) (Some (names.every, bytes)) (cond (nat_le b 13) (names_at b bytes) None) (Some (s, rest)) e) [
  | inl h ↦ ap (λ c. cond c (Ok bytes) (counted 13 name_cut b bytes)) h.0 ∙ ap Ok (some_pair_parts names.every s bytes rest h.1).1
  | inr h ↦
      let g = granted (nat_le b 13) (names_at b bytes) (s, rest) h.1 in
      let xs = bound (many b name_at bytes) (λ xs. given (names.are_listed xs.0) (names.listed xs.0, xs.1)) (s, rest) g.1 in
      let w = was_given (names.are_listed xs.0.0) (names.listed xs.0.0, xs.0.1) (s, rest) xs.1.1 in
      ap (λ c. cond c (Ok bytes) (counted 13 name_cut b bytes)) h.0
      ∙ counted_is 13 b name_cut bytes rest h.0 (leb-true b 13 g.0) (many_follows name_at name_cut name_follows b bytes xs.0.0 xs.0.1 xs.1.0 ∙ ap (λ p. Ok p.1) w.1)
]

low_small : (n : ℕ) (l : Low) → low_at n ≡ Some l → n ≤ 2
unfolding low_at
low_small zero l e = omega arith
low_small (suc zero) l e = omega arith
low_small (suc (suc zero)) l e = omega arith
low_small (suc (suc (suc n))) l e = never l e

ints_follows : Follows ints_at ints_cut
unfolding ints_at ints_cut interval_at numbers_at
ints_follows [] s rest e = never (s, rest) e
ints_follows (b ∷ bytes) s rest e = elim (chosen (nat_le 128 b) (interval_at (b - 128) bytes) (cond (b == 0) None (cond (nat_le b 13) (numbers_at b bytes) None)) (Some (s, rest)) e) [
  | inl h ↦
      let l = bound (low_at ((b - 128) / 4)) (λ l. high_at ((b - 128) % 4) >>= λ k. given (is_range l k) (numbers.range l k, bytes)) (s, rest) h.1 in
      let k = bound (high_at ((b - 128) % 4)) (λ k. given (is_range l.0 k) (numbers.range l.0 k, bytes)) (s, rest) l.1.1 in
      let w = was_given (is_range l.0 k.0) (numbers.range l.0 k.0, bytes) (s, rest) k.1.1 in
      let small = low_small ((b - 128) / 4) l.0 l.1.0 in
      let in_range = and_from (nat_le 128 b) (nat_lt b 140) h.0 (lt-ltb b 140 (omega arith)) in
      ap (λ c. cond c (Ok bytes) (counted 13 (skip 16) b bytes)) in_range ∙ ap (λ p. Ok p.1) w.1
  | inr h ↦
      let p = passed (b == 0) (cond (nat_le b 13) (numbers_at b bytes) None) (s, rest) h.1 in
      let g = granted (nat_le b 13) (numbers_at b bytes) (s, rest) p.1 in
      let xs = bound (many b int_at bytes) (λ xs. given (numbers.are_listed xs.0) (numbers.listed xs.0, xs.1)) (s, rest) g.1 in
      let w = was_given (numbers.are_listed xs.0.0) (numbers.listed xs.0.0, xs.0.1) (s, rest) xs.1.1 in
      let no_interval : (nat_le 128 b && nat_lt b 140) ≡ false = ap (λ c. c && nat_lt b 140) h.0 in
      ap (λ c. cond c (Ok bytes) (counted 13 (skip 16) b bytes)) no_interval
      ∙ counted_is 13 b (skip 16) bytes rest p.0 (leb-true b 13 g.0) (many_follows int_at (skip 16) int_follows b bytes xs.0.0 xs.0.1 xs.1.0 ∙ ap (λ q. Ok q.1) w.1)
]

bits_follows : Follows bits_at bits_cut
unfolding bits_at bits_cut
bits_follows [] s rest e = never (s, rest) e
bits_follows (b ∷ bytes) s rest e = elim (chosen (b == 1) (Some (Whole, bytes)) (cond (b == 2) (Some (Any, bytes)) None) (Some (s, rest)) e) [
  | inl h ↦ let one = eqb-true b 1 h.0 in ap (λ c. cond c (Ok bytes) (Err Broken)) (and_from (nat_le 1 b) (nat_le b 2) (le-leb 1 b (omega arith)) (le-leb b 2 (omega arith))) ∙ ap Ok (some_pair_parts Whole s bytes rest h.1).1
  | inr h ↦
      let g = granted (b == 2) (Some (Any, bytes)) (s, rest) h.1 in
      let two = eqb-true b 2 g.0 in
      ap (λ c. cond c (Ok bytes) (Err Broken)) (and_from (nat_le 1 b) (nat_le b 2) (le-leb 1 b (omega arith)) (le-leb b 2 (omega arith))) ∙ ap Ok (some_pair_parts Any s bytes rest g.1).1
]

functions_follows : Follows functions_at functions_cut
unfolding functions_at functions_cut
functions_follows [] s rest e = never (s, rest) e
functions_follows (b ∷ bytes) s rest e = elim (chosen (b == 0) (Some (all_functions, bytes)) (cond (b == 1) (number_at bytes >>= λ n. Some (of_arity n.0, n.1)) None) (Some (s, rest)) e) [
  | inl h ↦ ap (λ c. cond c (Ok bytes) (cond (b == 1) (skip 4 bytes) (Err Broken))) h.0 ∙ ap Ok (some_pair_parts all_functions s bytes rest h.1).1
  | inr h ↦
      let g = granted (b == 1) (number_at bytes >>= λ n. Some (of_arity n.0, n.1)) (s, rest) h.1 in
      let n = bound (number_at bytes) (λ n. Some (of_arity n.0, n.1)) (s, rest) g.1 in
      ap (λ c. cond c (Ok bytes) (cond (b == 1) (skip 4 bytes) (Err Broken))) h.0 ∙ ap (λ c. cond c (skip 4 bytes) (Err Broken)) g.0 ∙ number_follows bytes n.0.0 n.0.1 n.1.0
      ∙ ap Ok (some_pair_parts (of_arity n.0.0) s n.0.1 rest n.1.1).1
]

-- ---- lists and tuples

module _ {E : Type 0} (o : Ops E) (element : List ℕ → Option (E × List ℕ)) (g : List ℕ → Cut) (t : Follows element g) where
  cell_follows : Follows (cell_at o element) (cell_cut g)
  unfolding cell_at cell_cut
  cell_follows [] c rest e = never (c, rest) e
  cell_follows (b ∷ bytes) c rest e =
      let k = granted (nat_le b 1) (element bytes >>= λ x. Some (Some (record { element = x.0; is_proper = b == 1 }), x.1)) (c, rest) e in
      let x = bound (element bytes) (λ x. Some (Some (record { element = x.0; is_proper = b == 1 }), x.1)) (c, rest) k.1 in
      ap (λ d. cond d (g bytes) (Err Broken)) k.0 ∙ t bytes x.0.0 x.0.1 x.1.0 ∙ ap Ok (some_pair_parts (Some (record { element = x.0.0; is_proper = b == 1 })) c x.0.1 rest x.1.1).1

  tag_follows : (n : ℕ) → Follows (tag_at o element n) (tag_cut g n)
  unfolding tag_at tag_cut
  tag_follows n bytes h rest e =
      let a = bound (name_at bytes) (λ a. many n element a.1 >>= λ es. Some ((a.0, es.0), es.1)) (h, rest) e in
      let es = bound (many n element a.0.1) (λ es. Some ((a.0.0, es.0), es.1)) (h, rest) a.1.1 in
      ap (λ c. cut.◌>>=◌ c (cut.many n g)) (name_follows bytes a.0.0 a.0.1 a.1.0) ∙ many_follows element g t n a.0.1 es.0.0 es.0.1 es.1.0 ∙ ap Ok (some_pair_parts (a.0.0, es.0.0) h es.0.1 rest es.1.1).1

  body_follows : (n : ℕ) → Follows (body_at o element n) (body_cut g n)
  unfolding body_at body_cut product_at tags_at tags_cut
  body_follows n [] c rest e = never (c, rest) e
  body_follows n (b ∷ bytes) c rest e = elim (chosen (b == 0) (product_at o element n bytes) (cond (n == 0) None (cond o.has_tags (cond (nat_le b 13) (tags_at o element (n - 1) b bytes) None) None)) (Some (c, rest)) e) [
    | inl h ↦
        let es = bound (many n element bytes) (λ es. given (is_open o element es.0) (product es.0, es.1)) (c, rest) h.1 in
        let w = was_given (is_open o element es.0.0) (product es.0.0, es.0.1) (c, rest) es.1.1 in
        ap (λ d. cond d (cut.many n g bytes) (tags_cut g n b bytes)) h.0 ∙ many_follows element g t n bytes es.0.0 es.0.1 es.1.0 ∙ ap (λ p. Ok p.1) w.1
    | inr h ↦ ap (λ d. cond d (cut.many n g bytes) (tags_cut g n b bytes)) h.0 ∙ tagged n (passed (n == 0) (cond o.has_tags (cond (nat_le b 13) (tags_at o element (n - 1) b bytes) None) None) (c, rest) h.1) h.0
  ]
    where
      tagged : (n : ℕ) → ((n == 0) ≡ false) × (cond o.has_tags (cond (nat_le b 13) (tags_at o element (n - 1) b bytes) None) None ≡ Some (c, rest)) → (b == 0) ≡ false → tags_cut g n b bytes ≡ Ok rest
      tagged zero p some = absurd (true≢false p.0)
      tagged (suc n) p some =
          let one_less : suc n - 1 ≡ n = omega arith in
          let has = granted o.has_tags (cond (nat_le b 13) (tags_at o element (suc n - 1) b bytes) None) (c, rest) p.1 in
          let few = granted (nat_le b 13) (tags_at o element (suc n - 1) b bytes) (c, rest) has.1 in
          let read : tags_at o element n b bytes ≡ Some (c, rest) = ap (λ j. tags_at o element j b bytes) (sym one_less) ∙ few.1 in
          let m = bound (many b (tag_at o element n) bytes) (λ x. given (is_table name_cmp x.0) (tags x.0, x.1)) (c, rest) read in
          let w = was_given (is_table name_cmp m.0.0) (tags m.0.0, m.0.1) (c, rest) m.1.1 in
          counted_is 13 b (tag_cut g n) bytes rest some (leb-true b 13 few.0) (many_follows (tag_at o element n) (tag_cut g n) (tag_follows n) b bytes m.0.0 m.0.1 m.1.0 ∙ ap (λ q. Ok q.1) w.1)

  size_follows : Follows (size_at o element) (size_cut g)
  unfolding size_at size_cut
  size_follows [] s rest e = never (s, rest) e
  size_follows (n ∷ bytes) s rest e =
      let k = granted (nat_le n 64) (body_at o element n bytes >>= λ b. Some ((n, b.0), b.1)) (s, rest) e in
      let b = bound (body_at o element n bytes) (λ b. Some ((n, b.0), b.1)) (s, rest) k.1 in
      ap (λ d. cond d (body_cut g n bytes) (Err Broken)) k.0 ∙ body_follows n bytes b.0.0 b.0.1 b.1.0 ∙ ap Ok (some_pair_parts (n, b.0.0) s b.0.1 rest b.1.1).1

  tuples_follows : Follows (tuples_at o element) (tuples_cut g)
  unfolding tuples_at tuples_cut sizes_at
  tuples_follows [] u rest e = never (u, rest) e
  tuples_follows (b ∷ bytes) u rest e = elim (chosen (b == 0) (Some (all_tuples, bytes)) (cond (nat_le b 8) (sizes_at o element b bytes) None) (Some (u, rest)) e) [
    | inl h ↦ ap (λ d. cond d (Ok bytes) (counted 8 (size_cut g) b bytes)) h.0 ∙ ap Ok (some_pair_parts all_tuples u bytes rest h.1).1
    | inr h ↦
        let few = granted (nat_le b 8) (sizes_at o element b bytes) (u, rest) h.1 in
        let m = bound (many b (size_at o element) bytes) (λ x. given (is_table nat_cmp x.0) (sizes x.0, x.1)) (u, rest) few.1 in
        let w = was_given (is_table nat_cmp m.0.0) (sizes m.0.0, m.0.1) (u, rest) m.1.1 in
        ap (λ d. cond d (Ok bytes) (counted 8 (size_cut g) b bytes)) h.0
        ∙ counted_is 8 b (size_cut g) bytes rest h.0 (leb-true b 8 few.0) (many_follows (size_at o element) (size_cut g) size_follows b bytes m.0.0 m.0.1 m.1.0 ∙ ap (λ q. Ok q.1) w.1)
  ]

  -- what is read behind each part
  abbrev made : ℕ → Names → Numbers → Bits → Functions → Option (Cell E) → Tuples E → Parts E
  made m a i b f c u = record { plain = record { atoms = a; ints = i; bits = b; flags = mask_flags m; functions = f }; cell = c; tuples = u }

  abbrev tuples_then : ℕ → Names → Numbers → Bits → Functions → Option (Cell E) × List ℕ → Option (Parts E × List ℕ)
  tuples_then m a i b f c = where_set (bit_at m 10 == 1) (sizes []) (tuples_at o element) c.1 >>= λ u. Some (made m a i b f c.0 u.0, u.1)

  abbrev cell_then : ℕ → Names → Numbers → Bits → Functions × List ℕ → Option (Parts E × List ℕ)
  cell_then m a i b f = where_set (bit_at m 9 == 1) None (cell_at o element) f.1 >>= tuples_then m a i b f.0

  abbrev functions_then : ℕ → Names → Numbers → Bits × List ℕ → Option (Parts E × List ℕ)
  functions_then m a i b = where_set (bit_at m 7 == 1) no_function functions_at b.1 >>= cell_then m a i b.0

  abbrev bits_then : ℕ → Names → Numbers × List ℕ → Option (Parts E × List ℕ)
  bits_then m a i = where_set (bit_at m 3 == 1) No bits_at i.1 >>= functions_then m a i.0

  abbrev ints_then : ℕ → Names × List ℕ → Option (Parts E × List ℕ)
  ints_then m a = where_set (bit_at m 1 == 1) numbers.none ints_at a.1 >>= bits_then m a.0

  -- the later part, where the first is cut off
  then_cut : (c : Cut) (rest : List ℕ) (h : List ℕ → Cut) (left : List ℕ) → c ≡ Ok rest → h rest ≡ Ok left → cut.◌>>=◌ c h ≡ Ok left
  then_cut c rest h left e f = ap (λ d. cut.◌>>=◌ d h) e ∙ f

  parts_follows : (m : ℕ) → Follows (parts_at o element m) (parts_cut g m)
  unfolding parts_at parts_cut
  parts_follows m bytes p rest e =
      let a = bound (where_set (bit_at m 0 == 1) names.none atoms_at bytes) (ints_then m) (p, rest) e in
      let i = bound (where_set (bit_at m 1 == 1) numbers.none ints_at a.0.1) (bits_then m a.0.0) (p, rest) a.1.1 in
      let b = bound (where_set (bit_at m 3 == 1) No bits_at i.0.1) (functions_then m a.0.0 i.0.0) (p, rest) i.1.1 in
      let f = bound (where_set (bit_at m 7 == 1) no_function functions_at b.0.1) (cell_then m a.0.0 i.0.0 b.0.0) (p, rest) b.1.1 in
      let c = bound (where_set (bit_at m 9 == 1) None (cell_at o element) f.0.1) (tuples_then m a.0.0 i.0.0 b.0.0 f.0.0) (p, rest) f.1.1 in
      let u = bound (where_set (bit_at m 10 == 1) (sizes []) (tuples_at o element) c.0.1) (λ v. Some (made m a.0.0 i.0.0 b.0.0 f.0.0 c.0.0 v.0, v.1)) (p, rest) c.1.1 in
      then_cut _ a.0.1 _ rest (where_follows atoms_at atoms_cut names.none atoms_follows (bit_at m 0 == 1) bytes a.0.0 a.0.1 a.1.0)
      (then_cut _ i.0.1 _ rest (where_follows ints_at ints_cut numbers.none ints_follows (bit_at m 1 == 1) a.0.1 i.0.0 i.0.1 i.1.0)
      (then_cut _ b.0.1 _ rest (where_follows bits_at bits_cut No bits_follows (bit_at m 3 == 1) i.0.1 b.0.0 b.0.1 b.1.0)
      (then_cut _ f.0.1 _ rest (where_follows functions_at functions_cut no_function functions_follows (bit_at m 7 == 1) b.0.1 f.0.0 f.0.1 f.1.0)
      (then_cut _ c.0.1 _ rest (where_follows (cell_at o element) (cell_cut g) None cell_follows (bit_at m 9 == 1) f.0.1 c.0.0 c.0.1 c.1.0)
      (where_follows (tuples_at o element) (tuples_cut g) (sizes []) tuples_follows (bit_at m 10 == 1) c.0.1 u.0.0 u.0.1 u.1.0
      ∙ ap Ok (some_pair_parts (made m a.0.0 i.0.0 b.0.0 f.0.0 c.0.0 u.0.0) p u.0.1 rest u.1.1).1)))))

  masked_follows : Follows (masked_at o element) (masked_cut g)
  unfolding masked_at masked_cut
  masked_follows [] p rest e = never (p, rest) e
  masked_follows (high ∷ []) p rest e = never (p, rest) e
  masked_follows (high ∷ low ∷ bytes) p rest e =
      let m = 256 * high + low in
      let some = passed (m == 0) (cond (nat_lt m 4096) (parts_at o element m bytes) None) (p, rest) e in
      let few = granted (nat_lt m 4096) (parts_at o element m bytes) (p, rest) some.1 in
      let below = ltb-true m 4096 few.0 in
      ap (λ d. cond d (parts_cut g m bytes) (Err Broken)) (lt-ltb high 16 (omega arith)) ∙ parts_follows m bytes p rest few.1

-- ---- types

element_follows : (d : ℕ) → ((b : ℕ) → Follows (behind_at d b) (behind_cut d b)) → Follows (element_at d) (element_cut d)
element_follows d f [] t rest e = never (t, rest) e
element_follows d f (b ∷ bytes) t rest e = f b bytes t rest e

behind_follows : (d b : ℕ) → Follows (behind_at d b) (behind_cut d b)
unfolding behind_at behind_cut
behind_follows zero b bytes t rest e =
    let w = was_given (b == 1) (true, bytes) (t, rest) e in
    ap (λ c. cond c (Ok bytes) (Err Broken)) w.0 ∙ ap (λ p. Ok p.1) w.1
behind_follows (suc d) b bytes t rest e = elim (chosen (b == 1) (Some ((ops (suc d)).any, bytes)) (cond (b == 2) (masked_at (ops d) (element_at d) bytes >>= λ q. given (not (is_any (suc d) q.0)) q) None) (Some (t, rest)) e) [
  | inl h ↦ ap (λ c. cond c (Ok bytes) (cond (b == 2) (masked_cut (element_cut d) bytes) (Err Broken))) h.0 ∙ ap Ok (some_pair_parts (ops (suc d)).any t bytes rest h.1).1
  | inr h ↦
      let g = granted (b == 2) (masked_at (ops d) (element_at d) bytes >>= λ q. given (not (is_any (suc d) q.0)) q) (t, rest) h.1 in
      let q = bound (masked_at (ops d) (element_at d) bytes) (λ q. given (not (is_any (suc d) q.0)) q) (t, rest) g.1 in
      let w = was_given (not (is_any (suc d) q.0.0)) q.0 (t, rest) q.1.1 in
      ap (λ c. cond c (Ok bytes) (cond (b == 2) (masked_cut (element_cut d) bytes) (Err Broken))) h.0
      ∙ ap (λ c. cond c (masked_cut (element_cut d) bytes) (Err Broken)) g.0
      ∙ masked_follows (ops d) (element_at d) (element_cut d) (element_follows d (λ c. behind_follows d c)) bytes q.0.0 q.0.1 q.1.0 ∙ ap (λ p. Ok p.1) w.1
]

type_follows : Follows type_at type_cut
unfolding type_at type_cut
type_follows [] t rest e = never (t, rest) e
type_follows (b ∷ bytes) t rest e = elim (chosen (b == 0) (Some ((ops 4).none, bytes)) (behind_at 4 b bytes) (Some (t, rest)) e) [
  | inl h ↦ ap (λ c. cond c (Ok bytes) (behind_cut 4 b bytes)) h.0 ∙ ap Ok (some_pair_parts (ops 4).none t bytes rest h.1).1
  | inr h ↦ ap (λ c. cond c (Ok bytes) (behind_cut 4 b bytes)) h.0 ∙ behind_follows 4 b bytes t rest h.1
]

cut_behind : (t : Type4) (rest : List ℕ) → IsTrue (has_short_names t) → type_cut (bytes_of t ++ rest) ≡ Ok rest
unfolding bytes_of has_short_names
cut_behind t rest h = type_follows _ t.ty rest (type_complete t.ty rest t.normal h)

-- a type's bytes are a shape
pub type_shape : (t : Type4) → IsTrue (has_short_names t) → TypeShape (bytes_of t)
type_shape t h =
    let x = type_tells.ends (bytes_of t) [] (ap type_cut (sym (append-nil (bytes_of t))) ∙ cut_behind t [] h) in
    subst TypeShape (sym (x.1.0 ∙ append-nil x.0)) x.1.1

-- and bytes that begin with one aren't short
pub type_whole : (t : Type4) (rest : List ℕ) → IsTrue (has_short_names t) → IsShort (bytes_of t ++ rest) → ⊥
type_whole t rest h = not_short (bytes_of t ++ rest) rest (cut_behind t rest h)
