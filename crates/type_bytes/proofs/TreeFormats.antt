-- Lists, tuples and the parts of a type are read as they are spelled, and nothing else.
use Rattle.std.proofs.Common.{◌≡◌, inl, inr, ℕ, zero, suc, ◌+◌, ◌*◌, ◌-◌, ◌/◌, ◌%◌, ◌<◌, ◌≤◌, Bool, true, false, not, cond, List, []}
use Rattle.std.proofs.Common.{◌∷◌, ◌++◌, Option, Some, None, is_some, length, refl, sym, ap, ◌∙◌, subst, arith, append_assoc, true≢false}
use Rattle.std.specs.Prelude.{IsTrue, nat_lt, nat_le, ◌==◌}
use Rattle.std.specs.List.{flat_map, AllByRecursion as Each}
use Rattle.std.specs.Int.{bit_at}
use Rattle.std.specs.Coded.{Coded-set, coded_bool}
use Rattle.std.specs.Ordering.{nat_cmp}
use Rattle.std.proofs.lemmas.List.{append-nil}
use Rattle.std.proofs.lemmas.Bool.{false_from_ne_true}
use Rattle.std.proofs.lemmas.Option.{some_pair_parts}
use borrow.Author.Tests.{ltb-true, lt-ltb, eqb-true, leb-true, le-leb, not-true}
use Rattle.type_kinds_sets.specs.Names as names
use Rattle.type_kinds_sets.specs.Names.{Name, Names, name_cmp}
use Rattle.type_kinds_sets.specs.Numbers as numbers
use Rattle.type_kinds_sets.specs.Numbers.{Numbers}
use Rattle.type_kinds_sets.specs.declared.bits.Bits.{Bits}
use Rattle.type_kinds_sets.specs.declared.bits.Bits.TheVariants.{No, Whole, Any}
use Rattle.type_lattice_model.specs.Tables.{is_table}
use Rattle.type_lattice_model.specs.Shapes.{Functions, no_function, of_arity, all_functions, Cell, Body, product, tags, Tuples, sizes, all_tuples, Parts}
use Rattle.type_lattice_model.specs.Operations.{Ops, is_no_bits, is_no_function}
use Rattle.type_lattice_model.specs.Normal.{NormalFunctions}
use Rattle.type_bytes.specs.Spelling.{two_bytes, name_bytes, atoms_bytes, ints_bytes, bits_bytes, functions_bytes, cell_bytes, tag_bytes, body_bytes, size_bytes, tuples_bytes}
use Rattle.type_bytes.specs.Spelling.{atoms_part, ints_part, bits_part, functions_part, has_tuples, cell_part, tuples_part, parts_of, mask, part_bytes, some_bytes, all_bytes}
use Rattle.type_bytes.specs.ShortNames.{is_short, are_short}
use Rattle.type_bytes.specs.steps.Reading.{◌>>=◌, first, many, given, where_set, name_at, atoms_at, ints_at, bits_at, functions_at, cell_at, is_open}
use Rattle.type_bytes.specs.steps.Reading.{product_at, tag_at, tags_at, body_at, size_at, sizes_at, tuples_at, mask_flags, parts_at, masked_at}
use Rattle.type_bytes.proofs.FormatLaws.{AreBytes, Format, bytes_left, bound, was_given, chosen, never, passed, granted, many_format, name_format}
use Rattle.type_bytes.proofs.SetFormats.{atoms_format, ints_format, bits_format, functions_format}
use Rattle.type_bytes.proofs.MaskLaws.{bit_adds, number_of, AreBits, bits_of, of_bits}
use Rattle.type_bytes.proofs.Writes.{no_bytes}

-- the same, said in another way
same_format : {X : Type 0} {P Q : X → Type 0} {spelled : X → List ℕ} {f : List ℕ → Option (X × List ℕ)} → ((x : X) → P x → Q x) → ((x : X) → Q x → P x) → Format P spelled f → Format Q spelled f
same_format to from t = record { complete = λ x rest k. t.complete x rest (from x k); sound = λ bytes x rest k e. let s = t.sound bytes x rest k e in (to x s.0, s.1) }

some_of : (n : ℕ) → 1 ≤ n → (n == 0) ≡ false
some_of n h = false_from_ne_true (n == 0) (λ e. let z = eqb-true n 0 e in absurd (omega arith))

above : (n : ℕ) → (n == 0) ≡ false → 1 ≤ n
above zero h = absurd (true≢false h)
above (suc n) h = omega arith

module _ {E : Type 0} (o : Ops E) (GoodE : E → Type 0) (bytes_of : E → List ℕ) (element : List ℕ → Option (E × List ℕ)) (t : Format GoodE bytes_of element) where
  -- ---- lists

  abbrev pub GoodCell : Option (Cell E) → Type 0
  GoodCell None = Unit {0}
  GoodCell (Some c) = GoodE c.element

  cell_behind : ℕ → List ℕ → Option (Option (Cell E) × List ℕ)
  cell_behind b rest = cond (nat_le b 1) (element rest >>= λ e. Some (Some (record { element = e.0; is_proper = b == 1 }), e.1)) None

  pub cell_format : Format (λ c. (is_some c ≡ true) × GoodCell c) (cell_bytes bytes_of) (cell_at o element)
  unfolding cell_at cell_behind
  cell_format = record { complete = complete; sound = sound }
    where
      one : (p : Bool) (e : E) (rest : List ℕ) → GoodE e → cell_behind (cond p 1 0) (bytes_of e ++ rest) ≡ Some (Some (record { element = e; is_proper = p }), rest)
      one true e rest k = ap (λ r. r >>= λ x. Some (Some (record { element = x.0; is_proper = true }), x.1)) (t.complete e rest k)
      one false e rest k = ap (λ r. r >>= λ x. Some (Some (record { element = x.0; is_proper = false }), x.1)) (t.complete e rest k)

      complete : (c : Option (Cell E)) (rest : List ℕ) → (is_some c ≡ true) × GoodCell c → first cell_behind (cell_bytes bytes_of c ++ rest) ≡ Some (c, rest)
      complete None rest k = absurd (true≢false (sym k.0))
      complete (Some c) rest k = one c.is_proper c.element rest k.1

      sound : (bytes : List ℕ) (c : Option (Cell E)) (rest : List ℕ) → AreBytes bytes → first cell_behind bytes ≡ Some (c, rest) → ((is_some c ≡ true) × GoodCell c) × (bytes ≡ cell_bytes bytes_of c ++ rest)
      sound [] c rest k e = never (c, rest) e
      sound (b ∷ bytes) c rest k e =
          let g = granted (nat_le b 1) (element bytes >>= λ x. Some (Some (record { element = x.0; is_proper = b == 1 }), x.1)) (c, rest) e in
          let x = bound (element bytes) (λ x. Some (Some (record { element = x.0; is_proper = b == 1 }), x.1)) (c, rest) g.1 in
          let here : Cell E = record { element = x.0.0; is_proper = b == 1 } in
          let f = some_pair_parts (Some here) c x.0.1 rest x.1.1 in
          let s = t.sound bytes x.0.0 x.0.1 k.1 x.1.0 in
          let least = leb-true b 1 g.0 in
          let byte : b ≡ cond (b == 1) 1 0 = sym (bit_adds b (omega arith)) in
          subst (λ d. ((is_some d ≡ true) × GoodCell d) × (b ∷ bytes ≡ cell_bytes bytes_of d ++ rest)) f.0 ((refl, s.0), (λ i. byte i ∷ (s.1 ∙ ap (λ r. bytes_of x.0.0 ++ r) f.1) i))

  -- ---- tuples of one size

  abbrev pub GoodTag : ℕ → Name × List E → Type 0
  GoodTag n g = IsTrue (is_short g.0) × ((length g.1 ≡ n) × Each GoodE g.1)

  tag_format : (n : ℕ) → Format (GoodTag n) (tag_bytes bytes_of) (tag_at o element n)
  unfolding tag_at
  tag_format n = record {
    complete = λ g rest k.
        let row = flat_map bytes_of g.1 in
        ap (λ b. name_at b >>= λ a. many n element a.1 >>= λ es. Some ((a.0, es.0), es.1)) (append_assoc (name_bytes g.0) row rest)
        ∙ ap (λ r. r >>= λ a. many n element a.1 >>= λ es. Some ((a.0, es.0), es.1)) (name_format.complete g.0 (row ++ rest) k.0)
        ∙ ap (λ r. r >>= λ es. Some ((g.0, es.0), es.1)) ((many_format t n).complete g.1 rest k.1);
    sound = λ bytes g rest k e.
        let a = bound (name_at bytes) (λ a. many n element a.1 >>= λ es. Some ((a.0, es.0), es.1)) (g, rest) e in
        let es = bound (many n element a.0.1) (λ es. Some ((a.0.0, es.0), es.1)) (g, rest) a.1.1 in
        let f = some_pair_parts (a.0.0, es.0.0) g es.0.1 rest es.1.1 in
        let name = name_format.sound bytes a.0.0 a.0.1 k a.1.0 in
        let row = (many_format t n).sound a.0.1 es.0.0 es.0.1 (bytes_left name_format bytes a.0.0 a.0.1 k a.1.0) es.1.0 in
        subst (λ h. GoodTag n h × (bytes ≡ tag_bytes bytes_of h ++ rest)) f.0
        ((name.0, row.0), name.1 ∙ ap (λ r. name_bytes a.0.0 ++ r) (row.1 ∙ ap (λ r. flat_map bytes_of es.0.0 ++ r) f.1) ∙ sym (append_assoc (name_bytes a.0.0) (flat_map bytes_of es.0.0) rest));
  }

  abbrev pub GoodTags : ℕ → List (Name × List E) → Type 0
  GoodTags zero m = ⊥
  GoodTags (suc n) m = (o.has_tags ≡ true) × ((is_table name_cmp m ≡ true) × ((1 ≤ length m) × ((length m ≤ 13) × Each (GoodTag n) m)))

  abbrev pub GoodBody : ℕ → Body E → Type 0
  GoodBody n (product es) = ((length es ≡ n) × Each GoodE es) × (is_open o element es ≡ true)
  GoodBody n (tags m) = GoodTags n m

  body_behind : ℕ → ℕ → List ℕ → Option (Body E × List ℕ)
  body_behind n b rest = cond (b == 0) (product_at o element n rest) (cond (n == 0) None (cond o.has_tags (cond (nat_le b 13) (tags_at o element (n - 1) b rest) None) None))

  body_format : (n : ℕ) → Format (GoodBody n) (body_bytes bytes_of) (body_at o element n)
  unfolding body_at body_behind product_at tags_at
  body_format n = record { complete = complete n; sound = sound n }
    where
      complete : (n : ℕ) (b : Body E) (rest : List ℕ) → GoodBody n b → first (body_behind n) (body_bytes bytes_of b ++ rest) ≡ Some (b, rest)
      complete n (product es) rest k =
          ap (λ r. r >>= λ xs. given (is_open o element xs.0) (product xs.0, xs.1)) ((many_format t n).complete es rest k.0) ∙ ap (λ b. given b (product es, rest)) k.1
      complete zero (tags m) rest k = absurd k
      complete (suc n) (tags m) rest k =
          let later = flat_map (tag_bytes bytes_of) m ++ rest in
          let b = length m in
          let one_less : suc n - 1 ≡ n = omega arith in
          ap (λ c. cond c (product_at o element (suc n) later) (cond (suc n == 0) None (cond o.has_tags (cond (nat_le b 13) (tags_at o element (suc n - 1) b later) None) None))) (some_of b k.1.1.0)
          ∙ ap (λ c. cond c None (cond o.has_tags (cond (nat_le b 13) (tags_at o element (suc n - 1) b later) None) None)) (some_of (suc n) (omega arith))
          ∙ ap (λ c. cond c (cond (nat_le b 13) (tags_at o element (suc n - 1) b later) None) None) k.0
          ∙ ap (λ c. cond c (tags_at o element (suc n - 1) b later) None) (le-leb b 13 k.1.1.1.0)
          ∙ ap (λ j. tags_at o element j b later) one_less
          ∙ ap (λ r. r >>= λ x. given (is_table name_cmp x.0) (tags x.0, x.1)) ((many_format (tag_format n) b).complete m rest (refl, k.1.1.1.1))
          ∙ ap (λ c. given c (tags m, rest)) k.1.0

      sound : (n : ℕ) (bytes : List ℕ) (b : Body E) (rest : List ℕ) → AreBytes bytes → first (body_behind n) bytes ≡ Some (b, rest) → GoodBody n b × (bytes ≡ body_bytes bytes_of b ++ rest)
      sound n [] b rest k e = never (b, rest) e
      sound n (c ∷ bytes) b rest k e = elim (chosen (c == 0) (product_at o element n bytes) (cond (n == 0) None (cond o.has_tags (cond (nat_le c 13) (tags_at o element (n - 1) c bytes) None) None)) (Some (b, rest)) e) [
        | inl h ↦
            let es = bound (many n element bytes) (λ es. given (is_open o element es.0) (product es.0, es.1)) (b, rest) h.1 in
            let g = was_given (is_open o element es.0.0) (product es.0.0, es.0.1) (b, rest) es.1.1 in
            let row = (many_format t n).sound bytes es.0.0 es.0.1 k.1 es.1.0 in
            subst (λ p. GoodBody n p.0 × (c ∷ bytes ≡ body_bytes bytes_of p.0 ++ p.1)) g.1 ((row.0, g.0), (λ i. eqb-true c 0 h.0 i ∷ row.1 i))
        | inr h ↦ tagged n (passed (n == 0) (cond o.has_tags (cond (nat_le c 13) (tags_at o element (n - 1) c bytes) None) None) (b, rest) h.1) h.0
      ]
        where
          tagged : (n : ℕ) → ((n == 0) ≡ false) × (cond o.has_tags (cond (nat_le c 13) (tags_at o element (n - 1) c bytes) None) None ≡ Some (b, rest)) → (c == 0) ≡ false
              → GoodBody n b × (c ∷ bytes ≡ body_bytes bytes_of b ++ rest)
          tagged zero p some = absurd (true≢false p.0)
          tagged (suc n) p some =
              let one_less : suc n - 1 ≡ n = omega arith in
              let has = granted o.has_tags (cond (nat_le c 13) (tags_at o element (suc n - 1) c bytes) None) (b, rest) p.1 in
              let few = granted (nat_le c 13) (tags_at o element (suc n - 1) c bytes) (b, rest) has.1 in
              let read : tags_at o element n c bytes ≡ Some (b, rest) = ap (λ j. tags_at o element j c bytes) (sym one_less) ∙ few.1 in
              let m = bound (many c (tag_at o element n) bytes) (λ x. given (is_table name_cmp x.0) (tags x.0, x.1)) (b, rest) read in
              let g = was_given (is_table name_cmp m.0.0) (tags m.0.0, m.0.1) (b, rest) m.1.1 in
              let all = (many_format (tag_format n) c).sound bytes m.0.0 m.0.1 k.1 m.1.0 in
              let l = all.0.0 in
              let least = above c some in
              let most = leb-true c 13 few.0 in
              subst (λ p. GoodBody (suc n) p.0 × (c ∷ bytes ≡ body_bytes bytes_of p.0 ++ p.1)) g.1 ((has.0, (g.0, (omega arith, (omega arith, all.0.1)))), (λ i. sym l i ∷ all.1 i))

  -- ---- tuples

  abbrev pub GoodSize : ℕ × Body E → Type 0
  GoodSize s = (s.0 ≤ 64) × GoodBody s.0 s.1

  size_format : Format GoodSize (size_bytes bytes_of) (size_at o element)
  unfolding size_at
  size_format = record { complete = complete; sound = sound }
    where
      complete : (s : ℕ × Body E) (rest : List ℕ) → GoodSize s → first {X = (ℕ × Body E) × List ℕ} (λ n body. cond (nat_le n 64) (body_at o element n body >>= λ b. Some ((n, b.0), b.1)) None) (size_bytes bytes_of s ++ rest)
          ≡ Some (s, rest)
      complete s rest k =
          let later = body_bytes bytes_of s.1 ++ rest in
          ap (λ c. cond c (body_at o element s.0 later >>= λ b. Some ((s.0, b.0), b.1)) None) (le-leb s.0 64 k.0)
          ∙ ap (λ r. r >>= λ b. Some ((s.0, b.0), b.1)) ((body_format s.0).complete s.1 rest k.1)

      sound : (bytes : List ℕ) (s : ℕ × Body E) (rest : List ℕ) → AreBytes bytes
          → first {X = (ℕ × Body E) × List ℕ} (λ n body. cond (nat_le n 64) (body_at o element n body >>= λ b. Some ((n, b.0), b.1)) None) bytes ≡ Some (s, rest) → GoodSize s × (bytes ≡ size_bytes bytes_of s ++ rest)
      sound [] s rest k e = never (s, rest) e
      sound (n ∷ bytes) s rest k e =
          let g = granted (nat_le n 64) (body_at o element n bytes >>= λ b. Some ((n, b.0), b.1)) (s, rest) e in
          let b = bound (body_at o element n bytes) (λ b. Some ((n, b.0), b.1)) (s, rest) g.1 in
          let f = some_pair_parts (n, b.0.0) s b.0.1 rest b.1.1 in
          let body = (body_format n).sound bytes b.0.0 b.0.1 k.1 b.1.0 in
          subst (λ x. GoodSize x × (n ∷ bytes ≡ size_bytes bytes_of x ++ rest)) f.0 ((leb-true n 64 g.0, body.0), ap (λ r. n ∷ r) (body.1 ∙ ap (λ r. body_bytes bytes_of b.0.0 ++ r) f.1))

  abbrev pub GoodTuples : Tuples E → Type 0
  GoodTuples (sizes m) = (is_table nat_cmp m ≡ true) × ((length m ≤ 8) × Each GoodSize m)
  GoodTuples all_tuples = Unit {0}

  tuples_behind : ℕ → List ℕ → Option (Tuples E × List ℕ)
  tuples_behind b rest = cond (b == 0) (Some (all_tuples, rest)) (cond (nat_le b 8) (sizes_at o element b rest) None)

  pub tuples_format : Format (λ u. (has_tuples bytes_of u ≡ true) × GoodTuples u) (tuples_bytes bytes_of) (tuples_at o element)
  unfolding tuples_at tuples_behind sizes_at
  tuples_format = record { complete = complete; sound = sound }
    where
      complete : (u : Tuples E) (rest : List ℕ) → (has_tuples bytes_of u ≡ true) × GoodTuples u → first tuples_behind (tuples_bytes bytes_of u ++ rest) ≡ Some (u, rest)
      complete all_tuples rest k = refl
      complete (sizes []) rest k = absurd (true≢false (sym k.0))
      complete (sizes (s ∷ m)) rest k =
          let later = flat_map (size_bytes bytes_of) (s ∷ m) ++ rest in
          let n = length (s ∷ m) in
          ap (λ c. cond c (Some (all_tuples, later)) (cond (nat_le n 8) (sizes_at o element n later) None)) (some_of n (omega arith))
          ∙ ap (λ c. cond c (sizes_at o element n later) None) (le-leb n 8 k.1.1.0)
          ∙ ap (λ r. r >>= λ x. given (is_table nat_cmp x.0) (sizes x.0, x.1)) ((many_format size_format n).complete (s ∷ m) rest (refl, k.1.1.1))
          ∙ ap (λ c. given c (sizes (s ∷ m), rest)) k.1.0

      filled : (m : List (ℕ × Body E)) → 1 ≤ length m → has_tuples bytes_of (sizes m) ≡ true
      filled [] h = absurd (omega arith)
      filled (s ∷ m) h = refl

      sound : (bytes : List ℕ) (u : Tuples E) (rest : List ℕ) → AreBytes bytes → first tuples_behind bytes ≡ Some (u, rest) → ((has_tuples bytes_of u ≡ true) × GoodTuples u) × (bytes ≡ tuples_bytes bytes_of u ++ rest)
      sound [] u rest k e = never (u, rest) e
      sound (b ∷ bytes) u rest k e = elim (chosen (b == 0) (Some (all_tuples, bytes)) (cond (nat_le b 8) (sizes_at o element b bytes) None) (Some (u, rest)) e) [
        | inl h ↦ let f = some_pair_parts all_tuples u bytes rest h.1 in subst (λ x. ((has_tuples bytes_of x ≡ true) × GoodTuples x) × (b ∷ bytes ≡ tuples_bytes bytes_of x ++ rest)) f.0 (
          (refl, tt),
          (λ i. eqb-true b 0 h.0 i ∷ f.1 i),
        )
        | inr h ↦
            let few = granted (nat_le b 8) (sizes_at o element b bytes) (u, rest) h.1 in
            let m = bound (many b (size_at o element) bytes) (λ x. given (is_table nat_cmp x.0) (sizes x.0, x.1)) (u, rest) few.1 in
            let g = was_given (is_table nat_cmp m.0.0) (sizes m.0.0, m.0.1) (u, rest) m.1.1 in
            let all = (many_format size_format b).sound bytes m.0.0 m.0.1 k.1 m.1.0 in
            let l = all.0.0 in
            let least = above b h.0 in
            let most = leb-true b 8 few.0 in
            subst (λ p. ((has_tuples bytes_of p.0 ≡ true) × GoodTuples p.0) × (b ∷ bytes ≡ tuples_bytes bytes_of p.0 ++ p.1)) g.1 ((filled m.0.0 (omega arith), (g.0, (omega arith, all.0.1))), (λ i. sym l i ∷ all.1 i))
      ]

  -- ---- the parts of a type

  where_format : {X : Type 0} (some : X → Bool) (Good : X → Type 0) (spelled : X → List ℕ) (f : List ℕ → Option (X × List ℕ)) (none : X) → Format (λ x. (some x ≡ true) × Good x) spelled f → some none ≡ false
      → Good none → ((x : X) → some x ≡ false → x ≡ none) → (b : Bool) → Format (λ x. (some x ≡ b) × Good x) (λ x. cond (some x) (spelled x) []) (where_set b none f)
  where_format some Good spelled f none u is_none good only true = record {
    complete = λ x rest k. ap (λ b. f (cond b (spelled x) [] ++ rest)) k.0 ∙ u.complete x rest k;
    sound = λ bytes x rest k e. let s = u.sound bytes x rest k e in (s.0, s.1 ∙ ap (λ b. cond b (spelled x) [] ++ rest) (sym s.0.0));
  }
  where_format some Good spelled f none u is_none good only false = record {
    complete = λ x rest k. ap (λ b. Some (none, cond b (spelled x) [] ++ rest)) k.0 ∙ ap (λ y. Some (y, rest)) (sym (only x k.0));
    sound = λ bytes x rest k e.
        let s = some_pair_parts none x bytes rest e in
        subst (λ y. ((some y ≡ false) × Good y) × (bytes ≡ cond (some y) (spelled y) [] ++ rest)) s.0 ((is_none, good), s.1 ∙ ap (λ b. cond b (spelled none) [] ++ rest) (sym is_none));
  }

  -- each part, where its bit is set
  atoms_where : (b : Bool) → Format (λ s. ((atoms_part s).some ≡ b) × IsTrue (are_short s)) (λ s. part_bytes (atoms_part s)) (where_set b names.none atoms_at)
  atoms_where b = where_format (λ s. (atoms_part s).some) (λ s. IsTrue (are_short s)) atoms_bytes atoms_at names.none
      (same_format (λ s k. (ap not k.0, k.1)) (λ s k. (not-true (names.is_none s) k.0, k.1)) atoms_format) refl refl only b
    where
      only : (s : Names) → not (names.is_none s) ≡ false → s ≡ names.none
      only (names.some [] e) h = ap (names.some []) (Coded-set coded_bool true true e refl)
      only (names.some (x ∷ xs) e) h = absurd (true≢false h)
      only names.every h = absurd (true≢false h)

  ints_where : (b : Bool) → Format (λ s. ((ints_part s).some ≡ b) × Unit {0}) (λ s. part_bytes (ints_part s)) (where_set b numbers.none ints_at)
  ints_where b = where_format (λ s. (ints_part s).some) (λ s. Unit {0}) ints_bytes ints_at numbers.none
      (same_format (λ s k. (ap not k, tt)) (λ s k. not-true (numbers.is_none s) k.0) ints_format) refl tt only b
    where
      only : (s : Numbers) → not (numbers.is_none s) ≡ false → s ≡ numbers.none
      only (numbers.some [] e) h = ap (numbers.some []) (Coded-set coded_bool true true e refl)
      only (numbers.some (x ∷ xs) e) h = absurd (true≢false h)
      only (numbers.between l k e) h = absurd (true≢false h)

  bits_where : (b : Bool) → Format (λ s. ((bits_part s).some ≡ b) × Unit {0}) (λ s. part_bytes (bits_part s)) (where_set b No bits_at)
  bits_where b = where_format (λ s. (bits_part s).some) (λ s. Unit {0}) bits_bytes bits_at No (same_format (λ s k. (ap not k, tt)) (λ s k. not-true (is_no_bits s) k.0) bits_format) refl tt only b
    where
      only : (s : Bits) → not (is_no_bits s) ≡ false → s ≡ No
      only No h = refl
      only Whole h = absurd (true≢false h)
      only Any h = absurd (true≢false h)

  functions_where : (b : Bool) → Format (λ s. ((functions_part s).some ≡ b) × NormalFunctions s) (λ s. part_bytes (functions_part s)) (where_set b no_function functions_at)
  functions_where b = where_format (λ s. (functions_part s).some) NormalFunctions functions_bytes functions_at no_function
      (same_format (λ s k. (ap not k.0, k.1)) (λ s k. (not-true (is_no_function s) k.0, k.1)) functions_format) refl tt only b
    where
      only : (s : Functions) → not (is_no_function s) ≡ false → s ≡ no_function
      only no_function h = refl
      only (of_arity n) h = absurd (true≢false h)
      only all_functions h = absurd (true≢false h)

  cell_where : (b : Bool) → Format (λ c. (is_some c ≡ b) × GoodCell c) (λ c. part_bytes (cell_part bytes_of c)) (where_set b None (cell_at o element))
  cell_where b = where_format is_some GoodCell (cell_bytes bytes_of) (cell_at o element) None cell_format refl tt only b
    where
      only : (c : Option (Cell E)) → is_some c ≡ false → c ≡ None
      only None h = refl
      only (Some c) h = absurd (true≢false h)

  tuples_where : (b : Bool) → Format (λ u. (has_tuples bytes_of u ≡ b) × GoodTuples u) (λ u. part_bytes (tuples_part bytes_of u)) (where_set b (sizes []) (tuples_at o element))
  tuples_where b = where_format (has_tuples bytes_of) GoodTuples (tuples_bytes bytes_of) (tuples_at o element) (sizes []) tuples_format refl (refl, (omega arith, tt)) only b
    where
      only : (u : Tuples E) → has_tuples bytes_of u ≡ false → u ≡ sizes []
      only (sizes []) h = refl
      only (sizes (s ∷ m)) h = absurd (true≢false h)
      only all_tuples h = absurd (true≢false h)

  -- the bits of the parts
  abbrev pub Masked : ℕ → Parts E → Type 0
  Masked m p = AreBits m (atoms_part p.plain.atoms).some (ints_part p.plain.ints).some p.plain.flags.float (bits_part p.plain.bits).some p.plain.flags.pid p.plain.flags.port p.plain.flags.reference
      (functions_part p.plain.functions).some p.plain.flags.nil (is_some p.cell) (has_tuples bytes_of p.tuples) p.plain.flags.map

  abbrev pub GoodParts : Parts E → Type 0
  GoodParts p = IsTrue (are_short p.plain.atoms) × (NormalFunctions p.plain.functions × (GoodCell p.cell × GoodTuples p.tuples))

  abbrev made_of : ℕ → Names → Numbers → Bits → Functions → Option (Cell E) → Tuples E → Parts E
  made_of m a i b f c u = record { plain = record { atoms = a; ints = i; bits = b; flags = mask_flags m; functions = f }; cell = c; tuples = u }

  abbrev then_tuples : ℕ → Names → Numbers → Bits → Functions → Option (Cell E) × List ℕ → Option (Parts E × List ℕ)
  then_tuples m a i b f c = where_set (bit_at m 10 == 1) (sizes []) (tuples_at o element) c.1 >>= λ u. Some (made_of m a i b f c.0 u.0, u.1)

  abbrev then_cell : ℕ → Names → Numbers → Bits → Functions × List ℕ → Option (Parts E × List ℕ)
  then_cell m a i b f = where_set (bit_at m 9 == 1) None (cell_at o element) f.1 >>= then_tuples m a i b f.0

  abbrev then_functions : ℕ → Names → Numbers → Bits × List ℕ → Option (Parts E × List ℕ)
  then_functions m a i b = where_set (bit_at m 7 == 1) no_function functions_at b.1 >>= then_cell m a i b.0

  abbrev then_bits : ℕ → Names → Numbers × List ℕ → Option (Parts E × List ℕ)
  then_bits m a i = where_set (bit_at m 3 == 1) No bits_at i.1 >>= then_functions m a i.0

  abbrev then_ints : ℕ → Names × List ℕ → Option (Parts E × List ℕ)
  then_ints m a = where_set (bit_at m 1 == 1) numbers.none ints_at a.1 >>= then_bits m a.0

  -- the parts that have bytes, in a row
  abbrev row_of : Parts E → List ℕ
  row_of p =
      part_bytes (atoms_part p.plain.atoms) ++ (part_bytes (ints_part p.plain.ints) ++ (part_bytes (bits_part p.plain.bits)
      ++ (part_bytes (functions_part p.plain.functions) ++ (part_bytes (cell_part bytes_of p.cell) ++ part_bytes (tuples_part bytes_of p.tuples)))))

  in_row : (p : Parts E) → some_bytes (parts_of bytes_of p) ≡ row_of p
  in_row p = simp (no_bytes, append_assoc, append-nil)

  parts_complete : (m : ℕ) (p : Parts E) (rest : List ℕ) → Masked m p → GoodParts p → parts_at o element m (row_of p ++ rest) ≡ Some (p, rest)
  unfolding parts_at
  parts_complete m p rest k g =
      let a = part_bytes (atoms_part p.plain.atoms) in
      let i = part_bytes (ints_part p.plain.ints) in
      let b = part_bytes (bits_part p.plain.bits) in
      let f = part_bytes (functions_part p.plain.functions) in
      let c = part_bytes (cell_part bytes_of p.cell) in
      let u = part_bytes (tuples_part bytes_of p.tuples) in
      let regroup : row_of p ++ rest ≡ a ++ (i ++ (b ++ (f ++ (c ++ (u ++ rest))))) = simp append_assoc in
      ap (λ r. where_set (bit_at m 0 == 1) names.none atoms_at r >>= then_ints m) regroup
      ∙ ap (λ r. r >>= then_ints m) ((atoms_where (bit_at m 0 == 1)).complete p.plain.atoms (i ++ (b ++ (f ++ (c ++ (u ++ rest))))) (sym k.bit_0, g.0))
      ∙ ap (λ r. r >>= then_bits m p.plain.atoms) ((ints_where (bit_at m 1 == 1)).complete p.plain.ints (b ++ (f ++ (c ++ (u ++ rest)))) (sym k.bit_1, tt))
      ∙ ap (λ r. r >>= then_functions m p.plain.atoms p.plain.ints) ((bits_where (bit_at m 3 == 1)).complete p.plain.bits (f ++ (c ++ (u ++ rest))) (sym k.bit_3, tt))
      ∙ ap (λ r. r >>= then_cell m p.plain.atoms p.plain.ints p.plain.bits) ((functions_where (bit_at m 7 == 1)).complete p.plain.functions (c ++ (u ++ rest)) (sym k.bit_7, g.1.0))
      ∙ ap (λ r. r >>= then_tuples m p.plain.atoms p.plain.ints p.plain.bits p.plain.functions) ((cell_where (bit_at m 9 == 1)).complete p.cell (u ++ rest) (sym k.bit_9, g.1.1.0))
      ∙ ap (λ r. r >>= λ v. Some (made_of m p.plain.atoms p.plain.ints p.plain.bits p.plain.functions p.cell v.0, v.1)) ((tuples_where (bit_at m 10 == 1)).complete p.tuples rest (sym k.bit_10, g.1.1.1))
      ∙ (λ j. Some (
        record {
          plain = record {
            atoms = p.plain.atoms;
            ints = p.plain.ints;
            bits = p.plain.bits;
            flags = record { float = k.bit_2 j; pid = k.bit_4 j; port = k.bit_5 j; reference = k.bit_6 j; nil = k.bit_8 j; map = k.bit_11 j };
            functions = p.plain.functions;
          };
          cell = p.cell;
          tuples = p.tuples;
        },
        rest,
      ))

  parts_sound : (m : ℕ) → m < 4096 → (bytes : List ℕ) (p : Parts E) (rest : List ℕ) → AreBytes bytes → parts_at o element m bytes ≡ Some (p, rest) → Masked m p × (GoodParts p × (bytes ≡ row_of p ++ rest))
  unfolding parts_at
  parts_sound m few bytes p rest k e =
      let a = bound (where_set (bit_at m 0 == 1) names.none atoms_at bytes) (then_ints m) (p, rest) e in
      let i = bound (where_set (bit_at m 1 == 1) numbers.none ints_at a.0.1) (then_bits m a.0.0) (p, rest) a.1.1 in
      let b = bound (where_set (bit_at m 3 == 1) No bits_at i.0.1) (then_functions m a.0.0 i.0.0) (p, rest) i.1.1 in
      let f = bound (where_set (bit_at m 7 == 1) no_function functions_at b.0.1) (then_cell m a.0.0 i.0.0 b.0.0) (p, rest) b.1.1 in
      let c = bound (where_set (bit_at m 9 == 1) None (cell_at o element) f.0.1) (then_tuples m a.0.0 i.0.0 b.0.0 f.0.0) (p, rest) f.1.1 in
      let u = bound (where_set (bit_at m 10 == 1) (sizes []) (tuples_at o element) c.0.1) (λ v. Some (made_of m a.0.0 i.0.0 b.0.0 f.0.0 c.0.0 v.0, v.1)) (p, rest) c.1.1 in
      let s = some_pair_parts (made_of m a.0.0 i.0.0 b.0.0 f.0.0 c.0.0 u.0.0) p u.0.1 rest u.1.1 in
      let ka = bytes_left (atoms_where (bit_at m 0 == 1)) bytes a.0.0 a.0.1 k a.1.0 in
      let ki = bytes_left (ints_where (bit_at m 1 == 1)) a.0.1 i.0.0 i.0.1 ka i.1.0 in
      let kb = bytes_left (bits_where (bit_at m 3 == 1)) i.0.1 b.0.0 b.0.1 ki b.1.0 in
      let kf = bytes_left (functions_where (bit_at m 7 == 1)) b.0.1 f.0.0 f.0.1 kb f.1.0 in
      let kc = bytes_left (cell_where (bit_at m 9 == 1)) f.0.1 c.0.0 c.0.1 kf c.1.0 in
      let sa = (atoms_where (bit_at m 0 == 1)).sound bytes a.0.0 a.0.1 k a.1.0 in
      let si = (ints_where (bit_at m 1 == 1)).sound a.0.1 i.0.0 i.0.1 ka i.1.0 in
      let sb = (bits_where (bit_at m 3 == 1)).sound i.0.1 b.0.0 b.0.1 ki b.1.0 in
      let sf = (functions_where (bit_at m 7 == 1)).sound b.0.1 f.0.0 f.0.1 kb f.1.0 in
      let sc = (cell_where (bit_at m 9 == 1)).sound f.0.1 c.0.0 c.0.1 kf c.1.0 in
      let su = (tuples_where (bit_at m 10 == 1)).sound c.0.1 u.0.0 u.0.1 kc u.1.0 in
      let pa = part_bytes (atoms_part a.0.0) in
      let pi = part_bytes (ints_part i.0.0) in
      let pb = part_bytes (bits_part b.0.0) in
      let pf = part_bytes (functions_part f.0.0) in
      let pc = part_bytes (cell_part bytes_of c.0.0) in
      let pu = part_bytes (tuples_part bytes_of u.0.0) in
      let row : bytes ≡ pa ++ (pi ++ (pb ++ (pf ++ (pc ++ (pu ++ rest))))) =
      sa.1 ∙ ap (λ r. pa ++ r) (si.1 ∙ ap (λ r. pi ++ r) (sb.1 ∙ ap (λ r. pb ++ r) (sf.1 ∙ ap (λ r. pf ++ r) (sc.1 ∙ ap (λ r. pc ++ r) (su.1 ∙ ap (λ r. pu ++ r) s.1))))) in
      let regroup : pa ++ (pi ++ (pb ++ (pf ++ (pc ++ (pu ++ rest))))) ≡ (pa ++ (pi ++ (pb ++ (pf ++ (pc ++ pu))))) ++ rest = simp append_assoc in
      subst (λ q. Masked m q × (GoodParts q × (bytes ≡ row_of q ++ rest))) s.0 (
        record { bit_0 = sym sa.0.0; bit_1 = sym si.0.0; bit_2 = refl; bit_3 = sym sb.0.0; bit_4 = refl; bit_5 = refl; bit_6 = refl; bit_7 = sym sf.0.0; bit_8 = refl; bit_9 = sym sc.0.0; bit_10 = sym su.0.0; bit_11 = refl; some = few },
        ((sa.0.1, (sf.0.1, (sc.0.1, su.0.1))), row ∙ regroup),
      )

  -- ---- behind the mask

  -- parts with a mask other than 0
  abbrev pub GoodMasked : Parts E → Type 0
  GoodMasked p = GoodParts p × ((mask (parts_of bytes_of p) == 0) ≡ false)

  masked_from : ℕ → List ℕ → Option (Parts E × List ℕ)
  masked_from m rest = cond (m == 0) None (cond (nat_lt m 4096) (parts_at o element m rest) None)

  parts_bits : (p : Parts E) → Masked (mask (parts_of bytes_of p)) p
  parts_bits p = bits_of (atoms_part p.plain.atoms).some (ints_part p.plain.ints).some p.plain.flags.float (bits_part p.plain.bits).some p.plain.flags.pid p.plain.flags.port p.plain.flags.reference
      (functions_part p.plain.functions).some p.plain.flags.nil (is_some p.cell) (has_tuples bytes_of p.tuples) p.plain.flags.map

  mask_is : (m : ℕ) (p : Parts E) → m < 4096 → Masked m p → mask (parts_of bytes_of p) ≡ m
  mask_is m p h k =
      (λ j. number_of (sym k.bit_0 j) (sym k.bit_1 j) (sym k.bit_2 j) (sym k.bit_3 j) (sym k.bit_4 j) (sym k.bit_5 j) (sym k.bit_6 j) (sym k.bit_7 j) (sym k.bit_8 j) (sym k.bit_9 j) (sym k.bit_10 j) (sym k.bit_11 j)) ∙ of_bits m h

  pub masked_format : Format GoodMasked (λ p. all_bytes (parts_of bytes_of p)) (masked_at o element)
  unfolding masked_at two_bytes masked_from
  masked_format = record { complete = complete; sound = sound }
    where
      complete : (p : Parts E) (rest : List ℕ) → GoodMasked p → masked_at o element (all_bytes (parts_of bytes_of p) ++ rest) ≡ Some (p, rest)
      complete p rest k =
          let m = mask (parts_of bytes_of p) in
          let bits = parts_bits p in
          let below = bits.some in
          let whole : 256 * (m / 256 % 256) + m % 256 ≡ m = omega arith in
          ap (λ n. masked_from n (some_bytes (parts_of bytes_of p) ++ rest)) whole
          ∙ ap (λ c. cond c None (cond (nat_lt m 4096) (parts_at o element m (some_bytes (parts_of bytes_of p) ++ rest)) None)) k.1
          ∙ ap (λ c. cond c (parts_at o element m (some_bytes (parts_of bytes_of p) ++ rest)) None) (lt-ltb m 4096 below)
          ∙ ap (λ b. parts_at o element m (b ++ rest)) (in_row p)
          ∙ parts_complete m p rest bits k.0

      sound : (bytes : List ℕ) (p : Parts E) (rest : List ℕ) → AreBytes bytes → masked_at o element bytes ≡ Some (p, rest) → GoodMasked p × (bytes ≡ all_bytes (parts_of bytes_of p) ++ rest)
      sound [] p rest k e = never (p, rest) e
      sound (high ∷ []) p rest k e = never (p, rest) e
      sound (high ∷ low ∷ bytes) p rest k e =
          let m = 256 * high + low in
          let some = passed (m == 0) (cond (nat_lt m 4096) (parts_at o element m bytes) None) (p, rest) e in
          let few = granted (nat_lt m 4096) (parts_at o element m bytes) (p, rest) some.1 in
          let below = ltb-true m 4096 few.0 in
          let s = parts_sound m below bytes p rest k.1.1 few.1 in
          let is = mask_is m p below s.0 in
          let at_high = k.0 in
          let at_low = k.1.0 in
          let high_is : high ≡ m / 256 % 256 = omega arith in
          let low_is : low ≡ m % 256 = omega arith in
          ((s.1.0, ap (λ n. n == 0) is ∙ some.0), (λ j. high_is j ∷ low_is j ∷ s.1.1 j) ∙ (λ j. (sym is j / 256 % 256) ∷ (sym is j % 256) ∷ (sym (in_row p) j ++ rest)))
