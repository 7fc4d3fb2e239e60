-- The words of a type stand for types, and the join of these is the type. A type is judged by the forms of its values.
use Rattle.std.proofs.Common.{◌≡◌, ◌↔◌, ◌⊎◌, inl, inr, ℕ, zero, suc, Bool, true, false, cond, List, [], ◌∷◌, ◌++◌, length, map, Option, Some, None, refl, sym, ap, ◌∙◌, subst, true≢false, arith}
use Rattle.std.specs.Prelude.{codes, nat_lt}
use Rattle.std.specs.Fmt.{decimal, signed_decimal}
use Rattle.std.proofs.lemmas.List.{append-nil}
use Rattle.std.specs.Ordering.{nat_cmp}
use Rattle.std.specs.declared.cmp.Ordering.{Ordering}
use Rattle.std.specs.Cmp.{IsTotalOrder, nat_cmp_total, int_cmp_total}
use Rattle.std.specs.FinSet.{IsAntisymmetric, nat_cmp-IsAntisymmetric, int_cmp-IsAntisymmetric}
use Rattle.type_kinds.specs.Quoted.{quoted}
use Rattle.type_kinds_sets.specs.Ascending.{has_item}
use Rattle.type_kinds_sets.specs.Names as names
use Rattle.type_kinds_sets.specs.Names.{Name, Names, name_cmp}
use Rattle.type_kinds_sets.specs.Numbers as numbers
use Rattle.type_kinds_sets.specs.Numbers.{Numbers, is_narrow}
use Rattle.type_kinds_sets.specs.declared.bits.Bits.{Bits}
use Rattle.type_kinds_sets.specs.declared.bits.Bits.TheVariants.{No, Whole, Any}
use Rattle.std.specs.List.{list_all}
use Rattle.type_kinds.proofs.Truths.{first, second}
use Rattle.type_kinds_sets.proofs.AscendingLaws as ascending
use Rattle.type_kinds_sets.proofs.NameLaws as name_laws
use Rattle.type_kinds_sets.proofs.NumberLaws as number_laws
use Rattle.type_lattice_model.specs.Values.{Value, Values}
use Rattle.type_lattice_model.specs.Tables.{EachOf, is_table}
use Rattle.type_lattice_model.specs.Shapes.{Flag, floats, pids, ports, references, nils, maps, Functions, no_function, of_arity, all_functions, PlainParts, Cell, Body, product, tags, Tuples, sizes, all_tuples, Parts, TypeAt}
use Rattle.type_lattice_model.specs.HasType.{HasAt, HasEach, HasTag, HasBody, HasTuple}
use Rattle.type_lattice_model.specs.Operations.{Ops, plain_none, of_plain, of_atoms, parts_is_none, ops, of_list, of_tuples}
use Rattle.type_lattice_model.specs.Normal.{NormalFunctions, IsElement, AreElements, NormalCell, NormalRow, NormalRows, NormalBody, NormalSizes, NormalTuples, NormalParts, NormalAt}
use Rattle.type_lattice_model.specs.Laws.{Laws}
use Rattle.type_lattice_model.specs.ValueShapes.{Leaf, an_int, an_atom, of_flag, Shape, leaf, row, HasShape}
use Rattle.type_lattice_model.proofs.LatticeLaws.{SomeOf, some_first, some_later, some_either, all-is}
use Rattle.type_lattice_model.proofs.RowLaws.{count_each}
use Rattle.type_lattice_model.proofs.BodyLaws.{tagged, body_of_in, body_of_out, body_of_normal, count_body}
use Rattle.type_lattice_model.proofs.TableLaws as tables
use Rattle.type_lattice_model.proofs.PartsLaws.{shape_lattice}
use Rattle.type_lattice_model.proofs.LevelLaws.{level_laws}
use Rattle.type_lattice_model.specs.Full.{is_any}
use Rattle.type_text.specs.Texts.{separated, word_if, atom_words, range_word, int_words, bits_words, function_words, plain_words, cell_words, tuple_word, tag_words, body_words, size_words, tuples_words, parts_words, text_at}
use Rattle.type_text.specs.WordTypes.{AreWords, Named, name_of, type_named, of_ints, of_bits, of_functions, of_cell, of_row, IsWordOf, named, one_atom, every_atom, one_int, ints_between, every_float, whole_bits}
use Rattle.type_text.specs.WordTypes.{every_bits, every_pid, every_port, every_reference, every_map, every_function, one_arity, empty_list, proper_list, any_list, every_tuple, one_tuple, AreWordsOf, spelled, WordsOf}

-- ---- words in a row

spelled-append : {T : Type 0} (ps qs : List (List ℕ × T)) → spelled (ps ++ qs) ≡ spelled ps ++ spelled qs
spelled-append [] qs = refl
spelled-append (p ∷ ps) qs = ap (λ ws. p.0 ∷ ws) (spelled-append ps qs)

-- ---- the words of each part of a type, with their types

module _ {E : Type 0} {Has : Value → E → Type 0} {Normal : E → Type 0} {o : Ops E} (l : Laws Has Normal o) (text : E → List ℕ) (one_name : o.has_tags ≡ true → (a : Name)
    → (text (o.of_names (a ∷ [])) ≡ quoted a) × (o.only (o.of_names (a ∷ [])) ≡ Some (a ∷ []))) where
  abbrev HasF : Shape → Parts E → Type 0
  HasF = HasShape Has

  abbrev Pairs : Type 0
  Pairs = List (List ℕ × Parts E)

  abbrev Words : Pairs → Type 0
  Words = AreWordsOf text Normal o

  -- ---- the type of a word is normal, and has a value

  word_of-normal : (w : List ℕ) (u : Parts E) → IsWordOf text Normal o w u → NormalParts Normal o u
  word_of-normal w u (one_arity n k) = (k, tt, (refl, refl, tt))
  word_of-normal w u (proper_list e k) = (tt, k, (refl, refl, tt))
  word_of-normal w u (any_list e k) = (tt, k, (refl, refl, tt))
  word_of-normal w u (named every_tuple) = (tt, tt, tt)
  word_of-normal w u (one_tuple es k few) = (tt, tt, (refl, refl, ((few, body_of_normal l (length es) es (refl, k)), tt)))
  word_of-normal w u i = (tt, tt, (refl, refl, tt))

  words_of-normal : (ps : Pairs) → Words ps → EachOf (λ p. NormalParts Normal o p.1) ps
  words_of-normal [] k = tt
  words_of-normal (p ∷ ps) k = (word_of-normal p.0 p.1 k.0, words_of-normal ps k.1)

  -- ---- words whose types together have certain forms, and no others

  record Spelled (ws : List (List ℕ)) (F : Shape → Type 0) : Type 0 where
    pairs : Pairs
    words : Words pairs
    same : spelled pairs ≡ ws
    forms : (f : Shape) → SomeOf (λ p. HasF f p.1) pairs ↔ F f

  words-append : (ps qs : Pairs) → Words ps → Words qs → Words (ps ++ qs)
  words-append [] qs j k = k
  words-append (p ∷ ps) qs j k = (j.0, words-append ps qs j.1 k)

  nothing : {F : Shape → Type 0} → ((f : Shape) → F f → ⊥) → Spelled [] F
  nothing empty = record { pairs = []; words = tt; same = refl; forms = λ f. (λ h. absurd h, empty f) }

  one : (w : List ℕ) (u : Parts E) → IsWordOf text Normal o w u → Spelled (w ∷ []) (λ f. HasF f u)
  one w u k = record { pairs = (w, u) ∷ []; words = (k, tt); same = refl; forms = λ f. (λ h. elim h [ inl x ↦ x | inr x ↦ absurd x ], λ h. inl h) }

  changed : {ws : List (List ℕ)} {F G : Shape → Type 0} → Spelled ws F → ((f : Shape) → F f ↔ G f) → Spelled ws G
  changed s is = record { pairs = s.pairs; words = s.words; same = s.same; forms = λ f. (λ h. (is f).0 ((s.forms f).0 h), λ h. (s.forms f).1 ((is f).1 h)) }

  append : {vs ws : List (List ℕ)} {F G : Shape → Type 0} → Spelled vs F → Spelled ws G → Spelled (vs ++ ws) (λ f. F f ⊎ G f)
  append s t = record {
    pairs = s.pairs ++ t.pairs;
    words = words-append s.pairs t.pairs s.words t.words;
    same = spelled-append s.pairs t.pairs ∙ (λ i. s.same i ++ t.same i);
    forms = λ f. grind (arith, s.forms f, t.forms f, some_either (λ p. HasF f p.1) s.pairs t.pairs, some_first (λ p. HasF f p.1) s.pairs t.pairs, some_later (λ p. HasF f p.1) s.pairs t.pairs);
  }

  no_shape : (f : Shape) → HasF f (of_plain o plain_none) → ⊥
  no_shape f h = (shape_lattice l).none_empty f h

  -- ---- sets that are listed

  module _ {A : Type 0} {R : A → A → Ordering} (total : IsTotalOrder R) (same : IsAntisymmetric R) (put : A → Leaf) (word : A → List ℕ) (type : A → Parts E) (good : A → Bool) (alone : (x : A) → good x ≡ true
      → IsWordOf text Normal o (word x) (type x) × ((f : Shape) → HasF f (type x) ↔ (f ≡ leaf (put x)))) where
    items_spelled : (xs : List A) → list_all good xs ≡ true → Spelled (map word xs) (λ f. (q : A) × ((f ≡ leaf (put q)) × (has_item R xs q ≡ true)))
    items_spelled [] k = nothing (λ f h. true≢false (sym h.1.1))
    items_spelled (x ∷ xs) k =
        let here = alone x (first (good x) (list_all good xs) k) in
        changed (append (changed (one (word x) (type x) here.0) here.1) (items_spelled xs (second (good x) (list_all good xs) k)))
        (λ f. grind (arith, ascending.itself total same, ascending.is_it total same))

  -- ---- atoms

  atoms_spelled : (s : Names) → Spelled (atom_words s) (λ f. HasF f (of_atoms o s))
  atoms_spelled (names.some xs e) =
      let all = ascending.all-from_items name_laws.name_total name_laws.name_same (λ a. true) xs (λ a h. refl) in
      changed
      (items_spelled name_laws.name_total name_laws.name_same an_atom quoted (λ a. of_atoms o (names.listed (a ∷ []))) (λ a. true)
      (λ a h. (one_atom a, λ f. grind (arith, name_laws.has-one a))) xs all) (λ f. grind arith)
  atoms_spelled names.every = one (codes "atom()") (of_atoms o names.every) (named every_atom)

  -- ---- integers

  ints_spelled : (s : Numbers) → Spelled (int_words s) (λ f. HasF f (of_ints o s))
  ints_spelled (numbers.some xs e) =
      changed
      (items_spelled int_cmp_total int_cmp-IsAntisymmetric an_int signed_decimal (λ n. of_ints o (numbers.listed (n ∷ []))) is_narrow
      (λ n h. (one_int n h, λ f. grind (arith, number_laws.has-one n))) xs (second _ (list_all is_narrow xs) e)) (λ f. grind arith)
  ints_spelled (numbers.between a b e) =
      subst (λ s. Spelled (range_word a b ∷ []) (λ f. HasF f (of_ints o s))) (numbers.range-yes a b e) (one (range_word a b) (of_ints o (numbers.range a b)) (ints_between a b e))

  -- ---- the other values that hold none

  abbrev kind : Flag → Named
  kind floats = every_float
  kind pids = every_pid
  kind ports = every_port
  kind references = every_reference
  kind maps = every_map
  kind nils = empty_list

  flag_spelled : (k : Flag) (b : Bool) → Spelled (word_if b (name_of (kind k))) (λ f. (f ≡ leaf (of_flag k)) × (b ≡ true))
  flag_spelled k true = changed (one (name_of (kind k)) (type_named o (kind k)) (named (kind k))) (λ f. grind arith)
  flag_spelled k false = nothing (λ f h. true≢false (sym h.1))

  bits_spelled : (s : Bits) → Spelled (bits_words s) (λ f. HasF f (of_bits o s))
  bits_spelled No = nothing no_shape
  bits_spelled Whole = one (codes "binary()") (of_bits o Whole) (named whole_bits)
  bits_spelled Any = one (codes "bitstring()") (of_bits o Any) (named every_bits)

  functions_spelled : (s : Functions) → NormalFunctions s → Spelled (function_words s) (λ f. HasF f (of_functions o s))
  functions_spelled no_function k = nothing no_shape
  functions_spelled (of_arity n) k = one (codes "fun(" ++ decimal n ++ codes ")") (of_functions o (of_arity n)) (one_arity n k)
  functions_spelled all_functions k = one (codes "fun()") (of_functions o all_functions) (named every_function)

  -- ---- all that hold none

  plain_spelled : (p : PlainParts) → NormalFunctions p.functions → Spelled (plain_words p) (λ f. HasF f (of_plain o p))
  plain_spelled p k =
      let bits = append (append (append (atoms_spelled p.atoms) (ints_spelled p.ints)) (flag_spelled floats p.flags.float)) (bits_spelled p.bits) in
      let references = append (append (append bits (flag_spelled pids p.flags.pid)) (flag_spelled ports p.flags.port)) (flag_spelled references p.flags.reference) in
      let functions = append (append references (flag_spelled maps p.flags.map)) (functions_spelled p.functions k) in
      changed (append functions (flag_spelled nils p.flags.nil)) (λ f. grind arith)

  -- ---- lists

  cell_spelled : (c : Option (Cell E)) → NormalCell Normal o c → Spelled (cell_words text c) (λ f. HasF f (of_cell o c))
  cell_spelled None k = nothing no_shape
  cell_spelled (Some c) k =
      elim c.is_proper as (λ b. Spelled ((cond b (codes "cons(") (codes "cons_any(") ++ text c.element ++ codes ")") ∷ []) (λ f. HasF f (of_list o c.element b))) [
        | true ↦ one (codes "cons(" ++ text c.element ++ codes ")") (of_list o c.element true) (proper_list c.element k)
        | false ↦ one (codes "cons_any(" ++ text c.element ++ codes ")") (of_list o c.element false) (any_list c.element k)
      ]

  -- ---- tuples

  abbrev IsRow : (Values → Type 0) → Shape → Type 0
  IsRow F f = (vs : Values) × ((f ≡ row vs) × F vs)

  either-row : {F G H : Values → Type 0} → ((vs : Values) → (F vs ⊎ G vs) ↔ H vs) → (f : Shape) → (IsRow F f ⊎ IsRow G f) ↔ IsRow H f
  either-row is f = (
    λ h. elim h [ inl x ↦ (x.0, (x.1.0, (is x.0).0 (inl x.1.1))) | inr x ↦ (x.0, (x.1.0, (is x.0).0 (inr x.1.1))) ],
    λ h. elim ((is h.0).1 h.1.1) [ inl x ↦ inl (h.0, (h.1.0, x)) | inr x ↦ inr (h.0, (h.1.0, x)) ],
  )

  -- the tuples of a row have as many elements
  row_spelled : (es : List E) → AreElements Normal o es → nat_lt (length es) 65 ≡ true → Spelled (tuple_word (map text es) ∷ []) (IsRow (λ vs. HasEach Has vs es))
  row_spelled es k few = changed (one (tuple_word (map text es)) (of_row o es) (one_tuple es k few)) (λ f. grind (arith, count_each l, body_of_in l, body_of_out l es))

  -- a tag is the row of its atom and the types after it
  tag_spelled : (n : ℕ) (a : Name) (es : List E) → o.has_tags ≡ true → NormalRow Normal o n (Some es) → nat_lt (suc n) 65 ≡ true
      → Spelled (tuple_word (quoted a ∷ map text es) ∷ []) (IsRow (λ vs. HasEach Has vs (o.of_names (a ∷ []) ∷ es)))
  tag_spelled n a es t k few =
      let fs = o.of_names (a ∷ []) ∷ es in
      let element : IsElement Normal o (o.of_names (a ∷ [])) = grind (arith, l.naming.names_in (a ∷ []) a, name_laws.name_total) in
      subst (λ w. Spelled (tuple_word (w ∷ map text es) ∷ []) (IsRow (λ vs. HasEach Has vs fs))) (one_name t a).0
      (row_spelled fs (element, k.1) (subst (λ i. nat_lt (suc i) 65 ≡ true) (sym k.0) few))

  tag-is : (e : Name × List E) (m : List (Name × List E)) → o.has_tags ≡ true → is_table name_cmp (e ∷ m) ≡ true → (vs : Values)
      → (HasEach Has vs (o.of_names (e.0 ∷ []) ∷ e.1) ⊎ HasTag Has vs m) ↔ HasTag Has vs (e ∷ m)
  tag-is e m t table vs =
      grind (arith, l.naming.names_in (e.0 ∷ []), tables.find-again name_laws.name_total name_laws.name_same e m, ascending.is_it name_laws.name_total name_laws.name_same, one_name, l.naming.only_out)

  tags_spelled : (n : ℕ) (m : List (Name × List E)) → o.has_tags ≡ true → is_table name_cmp m ≡ true → NormalRows Normal o n m → nat_lt (suc n) 65 ≡ true → Spelled (tag_words text m) (IsRow (λ vs. HasTag Has vs m))
  tags_spelled n [] t table k few = nothing (λ f h. let w = tagged l h.0 [] h.1.1 in w.1.1.1)
  tags_spelled n (e ∷ m) t table k few =
      changed (append (tag_spelled n e.0 e.1 t k.0 few) (tags_spelled n m t (tables.table-rest name_laws.name_total name_laws.name_same e m table) k.1 few)) (either-row (tag-is e m t table))

  body_spelled : (n : ℕ) (b : Body E) → nat_lt n 65 ≡ true → NormalBody Normal o n (Some b) → Spelled (body_words text b) (IsRow (λ vs. HasBody Has vs (Some b)))
  body_spelled n (product es) few k = row_spelled es k.0.1 (subst (λ i. nat_lt i 65 ≡ true) (sym k.0.0) few)
  body_spelled zero (tags m) few k = absurd k
  body_spelled (suc n) (tags m) few k = tags_spelled n m k.2 k.0.0 k.0.2 few

  sizes_spelled : (m : List (ℕ × Body E)) → is_table nat_cmp m ≡ true → NormalSizes Normal o m → Spelled (size_words text m) (IsRow (λ vs. HasTuple Has vs (sizes m)))
  sizes_spelled [] table k = nothing (λ f h. h.1.1)
  sizes_spelled (e ∷ m) table k =
      changed (append (body_spelled e.0 e.1 k.0.0 k.0.1) (sizes_spelled m (tables.table-rest nat_cmp_total nat_cmp-IsAntisymmetric e m table) k.1))
      (either-row (λ vs. grind (arith, count_body l e.0 vs (Some e.1) k.0.1, tables.find-again)))

  tuples_spelled : (t : Tuples E) → NormalTuples Normal o t → Spelled (tuples_words text t) (λ f. HasF f (of_tuples o t))
  tuples_spelled (sizes m) k = changed (sizes_spelled m k.0 k.2) (λ f. grind arith)
  tuples_spelled all_tuples k = one (codes "tuple()") (of_tuples o all_tuples) (named every_tuple)

  -- ---- a whole type

  parts_spelled : (t : Parts E) → NormalParts Normal o t → Spelled (parts_words text t) (λ f. HasF f t)
  parts_spelled t k = changed (append (append (plain_spelled t.plain k.0) (cell_spelled t.cell k.1)) (tuples_spelled t.tuples k.2)) (λ f. grind arith)

-- ---- at each level

-- where there can be tags, the type of one atom is written as the atom
pub one_name : (d : ℕ) → (ops d).has_tags ≡ true → (a : Name) → (text_at d ((ops d).of_names (a ∷ [])) ≡ quoted a) × ((ops d).only ((ops d).of_names (a ∷ [])) ≡ Some (a ∷ []))
unfolding ops
one_name zero t a = absurd (true≢false (sym t))
one_name (suc d) t a =
    let one : names.or_else (a ∷ []) names.every ≡ names.some (a ∷ []) refl = names.or_else-yes (a ∷ []) names.every refl in
    (ap (λ s. text_at (suc d) (of_atoms (ops d) s)) one ∙ append-nil (quoted a), ap (λ s. (ops (suc d)).only (of_atoms (ops d) s)) one)

-- the types of the words of a type join to it
words_from : (d : ℕ) (t : TypeAt (suc d)) → NormalAt (suc d) t → (ops (suc d)).is_none t ≡ false → (ps : List (List ℕ × TypeAt (suc d))) → AreWords d ps → text_at (suc d) t ≡ separated (codes " | ") (spelled ps)
    → ((f : Shape) → SomeOf (λ p. HasShape (HasAt d) f p.1) ps ↔ HasShape (HasAt d) f t) → WordsOf d t
unfolding ops NormalAt
words_from d t k some [] words same forms = elim ((shape_lattice (level_laws d)).filled t k) [
  | inl e ↦ absurd (true≢false (sym (ap (parts_is_none (ops d)) e) ∙ some))
  | inr w ↦ absurd ((forms w.0).1 w.1)
]
words_from d t k some (p ∷ ps) words same forms = record {
  word = p.0;
  first = p.1;
  later = ps;
  is_word = words.0;
  are_words = words.1;
  written = same;
  together =
      let normal = words_of-normal (level_laws d) (text_at d) (one_name d) (p ∷ ps) words in
      all-is (shape_lattice (level_laws d)) (λ q. q.1) p.1 ps t normal.0 normal.1 k (λ f. (forms f).0) (λ f. (forms f).1);
}

pub words_of : (d : ℕ) (t : TypeAt (suc d)) → NormalAt (suc d) t → is_any (suc d) t ≡ false → (ops (suc d)).is_none t ≡ false → WordsOf d t
unfolding ops NormalAt
words_of d t k part some =
    let s = parts_spelled (level_laws d) (text_at d) (one_name d) t k in
    words_from d t k some s.pairs s.words (grind (arith, s.same)) s.forms
