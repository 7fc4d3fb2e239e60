-- The bytes of a type, from those of its parts.
use Rattle.std.proofs.Common.{◌≡◌, ℕ, zero, suc, ◌+◌, ◌*◌, ◌-◌, ◌<◌, ◌≤◌, Bool, true, false, not, cond, List, [], ◌∷◌, ◌++◌, Option}
use Rattle.std.proofs.Common.{Some, None, is_some, length, map, take, refl, sym, ap, ◌∙◌, subst, true≢false, arith, append_assoc}
use Rattle.std.specs.Prelude.{IsTrue, slice_index_or, ◌↔◌}
use borrow.Author.Tests.{ltb-true}
use Rattle.std.specs.List.{flat_map, list_all}
use Rattle.std.proofs.lemmas.List.{take_more, append-nil}
use Rattle.std.proofs.lemmas.Bool.{false_from_ne_true}
use Rattle.type_kinds.proofs.Truths.{first, second}
use Rattle.type_kinds_sets.specs.Names as names
use Rattle.type_kinds_sets.specs.Numbers as numbers
use Rattle.type_kinds_sets.specs.declared.bits.Bits.TheVariants.{Any}
use Rattle.type_lattice_model.specs.Shapes.{PlainParts, sizes, Parts, TypeAt}
use Rattle.type_lattice_model.specs.Operations.{ops, is_no_bits, is_no_function}
use Rattle.type_lattice_model.specs.Normal.{NormalTags, NormalAt}
use Rattle.type_lattice_model.specs.Full.{is_any}
use Rattle.type_lattice_model.proofs.FullLaws.{any_is_all, all_is_any}
use Rattle.type_lattice_trees.specs.declared.node.Node.{Node}
use Rattle.type_lattice_trees.specs.declared.node.Node.TheVariants as v
use Rattle.type_lattice_trees.specs.declared.node.PartsOf.{PartsOf}
use Rattle.type_lattice_trees.specs.declared.node.CellOf.{CellOf}
use Rattle.type_lattice_trees.specs.declared.node.BodyOf.{BodyOf}
use Rattle.type_lattice_trees.specs.declared.node.BodyOf.TheVariants.{Product, Tags}
use Rattle.type_lattice_trees.specs.declared.node.SizeOf.{SizeOf}
use Rattle.type_lattice_trees.specs.declared.node.TuplesOf.{TuplesOf}
use Rattle.type_lattice_trees.specs.declared.node.TuplesOf.TheVariants.{Sizes}
use Rattle.type_lattice_trees.specs.declared.node.TagOf.{TagOf}
use Rattle.type_lattice_trees.specs.View.{view, row_view, tags_view, body_view, sizes_view, tuples_view, parts_view, cell_of, Fits, EachNode, EachTag, EachInBody, BodyFits, SizesFit, TuplesFit}
use Rattle.type_lattice_trees.proofs.Views.{view_any, view_of, of_above, fits_of}
use Rattle.type_bytes.specs.Spelling.{tag_bytes, body_bytes, size_bytes, atoms_part, ints_part, bits_part, functions_part, cell_part, tuples_part, parts_of, part_bytes, some_bytes, all_bytes, bytes_at}
use Rattle.type_bytes.specs.ShortNames.{is_short_tag, is_short_body, is_short_size, are_short_tuples, are_short_parts, is_short_at}

-- ---- the bytes of a tree

-- what is written where not all parts are full and there is a value
abbrev pub open_bytes : (d : ℕ) → TypeAt (suc d) → List ℕ
open_bytes d t = 2 ∷ all_bytes (parts_of (bytes_at d) t)

abbrev pub some_or_none : (d : ℕ) → TypeAt (suc d) → List ℕ
some_or_none d t = cond ((ops (suc d)).is_none t) (0 ∷ []) (open_bytes d t)

pub any_bytes : (d : ℕ) → bytes_at d (ops d).any ≡ 1 ∷ []
unfolding ops
any_bytes zero = refl
any_bytes (suc d) = ap (λ b. cond b (1 ∷ []) (some_or_none d (ops (suc d)).any)) (all_is_any (suc d))

pub bytes_of_any : (t : Node) → t ≡ v.Any → (d : ℕ) → bytes_at d (view d t) ≡ 1 ∷ []
bytes_of_any t e d = ap (bytes_at d) (view_any t e d) ∙ any_bytes d

not_all : (t : Node) (p : PartsOf Node) → t ≡ v.Of p → (d : ℕ) → Fits (suc d) t → is_any (suc d) (parts_view d p) ≡ false
not_all t p e d h = false_from_ne_true (is_any (suc d) (parts_view d p)) (λ k. (fits_of t p e d h).1 (any_is_all (suc d) (parts_view d p) k))

bytes_of_parts : (t : Node) (p : PartsOf Node) → t ≡ v.Of p → (d : ℕ) → Fits (suc d) t → bytes_at (suc d) (view (suc d) t) ≡ cond ((ops (suc d)).is_none (view (suc d) t)) (0 ∷ []) (open_bytes d (parts_view d p))
bytes_of_parts t p e d h =
    ap (bytes_at (suc d)) (view_of t p e d)
    ∙ ap (λ b. cond b (1 ∷ []) (some_or_none d (parts_view d p))) (not_all t p e d h)
    ∙ ap (λ x. cond ((ops (suc d)).is_none x) (0 ∷ []) (open_bytes d (parts_view d p))) (sym (view_of t p e d))

pub bytes_of_none : (t : Node) (p : PartsOf Node) → t ≡ v.Of p → (d : ℕ) → Fits d t → true ≡ (ops d).is_none (view d t) → bytes_at d (view d t) ≡ 0 ∷ []
bytes_of_none t p e zero h k = let f = of_above t p e zero h in absurd (omega arith)
bytes_of_none t p e (suc d) h k = bytes_of_parts t p e d h ∙ ap (λ b. cond b (0 ∷ []) (open_bytes d (parts_view d p))) (sym k)

pub bytes_of_some : (t : Node) (p : PartsOf Node) → t ≡ v.Of p → (d : ℕ) → Fits d t → false ≡ (ops d).is_none (view d t) → bytes_at d (view d t) ≡ open_bytes (d - 1) (parts_view (d - 1) p)
bytes_of_some t p e zero h k = let f = of_above t p e zero h in absurd (omega arith)
bytes_of_some t p e (suc d) h k =
    let one_less : d ≡ suc d - 1 = omega arith in
    bytes_of_parts t p e d h
    ∙ ap (λ b. cond b (0 ∷ []) (open_bytes d (parts_view d p))) (sym k)
    ∙ ap (λ n. open_bytes n (parts_view n p)) one_less

-- names that are short in a tree are so in its parts
pub short_parts : (t : Node) (p : PartsOf Node) → t ≡ v.Of p → (d : ℕ) → Fits d t → IsTrue (is_short_at d (view d t)) → IsTrue (are_short_parts (is_short_at (d - 1)) (parts_view (d - 1) p))
short_parts t p e zero h k = let f = of_above t p e zero h in absurd (omega arith)
short_parts t p e (suc d) h k =
    let one_less : d ≡ suc d - 1 = omega arith in
    subst (λ n. IsTrue (are_short_parts (is_short_at n) (parts_view n p))) one_less (subst (λ x. IsTrue (is_short_at (suc d) x)) (view_of t p e d) k)

-- what is added by four steps
pub chained : (o p q r s a b c d : List ℕ) → p ≡ o ++ a → q ≡ p ++ b → r ≡ q ++ c → s ≡ r ++ d → s ≡ o ++ (a ++ (b ++ (c ++ d)))
chained o p q r s a b c d e f g h = h ∙ ap (λ x. x ++ d) (g ∙ ap (λ x. x ++ c) (f ∙ ap (λ x. x ++ b) e)) ∙ simp append_assoc

-- ---- the mask

-- the mask, where it is told which parts a type has beside plain ones
abbrev pub mask_with : PlainParts → (cell tuples : Bool) → ℕ
mask_with p cell tuples = cond (not (names.is_none p.atoms)) 1 0 + 2 * (cond (not (numbers.is_none p.ints)) 1 0 + 2
    * (cond (p.flags.float) 1 0 + 2 * (cond (not (is_no_bits p.bits)) 1 0 + 2 * (cond (p.flags.pid) 1 0 + 2
    * (cond (p.flags.port) 1 0 + 2 * (cond (p.flags.reference) 1 0 + 2 * (cond (not (is_no_function p.functions)) 1 0 + 2
    * (cond (p.flags.nil) 1 0 + 2 * (cond (cell) 1 0 + 2 * (cond (tuples) 1 0 + 2 * (cond (p.flags.map) 1 0 + 2 * 0)))))))))))

-- the sum of what the parts add to it
pub mask_sum : (p : PlainParts) (cell tuples : Bool) (a b c d e f g h i j k l : ℕ) → a ≡ 1 * cond (not (names.is_none p.atoms)) 1 0 → b ≡ 2 * cond (not (numbers.is_none p.ints)) 1 0 → c ≡ 4 * cond (p.flags.float) 1 0
    → d ≡ 8 * cond (not (is_no_bits p.bits)) 1 0 → e ≡ 16 * cond (p.flags.pid) 1 0 → f ≡ 32 * cond (p.flags.port) 1 0 → g ≡ 64 * cond (p.flags.reference) 1 0 → h ≡ 128 * cond (not (is_no_function p.functions)) 1 0
    → i ≡ 256 * cond (p.flags.nil) 1 0 → j ≡ 512 * cond (cell) 1 0 → k ≡ 1024 * cond (tuples) 1 0 → l ≡ 2048 * cond (p.flags.map) 1 0 → a + b + c + d + e + f + g + h + i + j + k + l ≡ mask_with p cell tuples
mask_sum p cell tuples a b c d e f g h i j k l ea eb ec ed ee ef eg eh ei ej ek el = omega arith

pub cell_some : {A E : Type 0} (f : A → E) (c : Option (CellOf A)) → is_some (cell_of f c) ≡ is_some c
cell_some f None = refl
cell_some f (Some c) = refl

-- ---- the parts in a row

pub no_bytes : (b : Bool) → cond {A = List ℕ} b [] [] ≡ []
no_bytes true = refl
no_bytes false = refl

-- those that have bytes
pub parts_in_row : {E : Type 0} (bytes : E → List ℕ) (p : Parts E) → some_bytes (parts_of bytes p)
    ≡ (part_bytes (atoms_part p.plain.atoms) ++ (part_bytes (ints_part p.plain.ints) ++ (part_bytes (bits_part p.plain.bits) ++ part_bytes (functions_part p.plain.functions))))
    ++ (part_bytes (cell_part bytes p.cell) ++ part_bytes (tuples_part bytes p.tuples))
parts_in_row bytes p = simp (no_bytes, append_assoc, append-nil)

-- ---- the items of lists

abbrev pub row_bytes : (d : ℕ) → List Node → List ℕ
row_bytes d ns = flat_map (bytes_at d) (row_view d ns)

abbrev pub tags_bytes : (d : ℕ) → List (TagOf Node) → List ℕ
tags_bytes d ts = flat_map (tag_bytes (bytes_at d)) (tags_view d ts)

abbrev pub sizes_bytes : (d : ℕ) → List (SizeOf Node) → List ℕ
sizes_bytes d ss = flat_map (size_bytes (bytes_at d)) (sizes_view d ss)

pub row_bytes-append : (d : ℕ) (ns ms : List Node) → row_bytes d (ns ++ ms) ≡ row_bytes d ns ++ row_bytes d ms
row_bytes-append d [] ms = refl
row_bytes-append d (n ∷ ns) ms = let here = bytes_at d (view d n) in ap (λ bs. here ++ bs) (row_bytes-append d ns ms) ∙ sym (append_assoc here (row_bytes d ns) (row_bytes d ms))

pub tags_bytes-append : (d : ℕ) (ts us : List (TagOf Node)) → tags_bytes d (ts ++ us) ≡ tags_bytes d ts ++ tags_bytes d us
tags_bytes-append d [] us = refl
tags_bytes-append d (t ∷ ts) us = let here = tag_bytes (bytes_at d) (t.atom, row_view d t.rest) in ap (λ bs. here ++ bs) (tags_bytes-append d ts us) ∙ sym (append_assoc here (tags_bytes d ts) (tags_bytes d us))

pub sizes_bytes-append : (d : ℕ) (ss us : List (SizeOf Node)) → sizes_bytes d (ss ++ us) ≡ sizes_bytes d ss ++ sizes_bytes d us
sizes_bytes-append d [] us = refl
sizes_bytes-append d (s ∷ ss) us = let here = size_bytes (bytes_at d) (s.size, body_view d s.body) in ap (λ bs. here ++ bs) (sizes_bytes-append d ss us) ∙ sym (append_assoc here (sizes_bytes d ss) (sizes_bytes d us))

-- One more item behind a head and the items so far.
pub one_more :
    {A : Type 0} (bytes : List A → List ℕ) → ((xs ys : List A) → bytes (xs ++ ys) ≡ bytes xs ++ bytes ys) → (xs : List A) (i : ℕ) (d x : A) → i < length xs → x ≡ slice_index_or xs i d
    → (head o p q w : List ℕ) → p ≡ o ++ (head ++ bytes (take i xs)) → q ≡ p ++ w → w ≡ bytes (x ∷ []) → q ≡ o ++ (head ++ bytes (take (i + 1) xs))
one_more bytes more xs i d x h is head o p q w e f g =
    let last : bytes (take (i + 1) xs) ≡ bytes (take i xs) ++ w = ap bytes (take_more xs i d h ∙ ap (λ y. take i xs ++ y ∷ []) (sym is)) ∙ more (take i xs) (x ∷ []) ∙ ap (λ b. bytes (take i xs) ++ b) (sym g) in
    f ∙ ap (λ b. b ++ w) e ∙ append_assoc o (head ++ bytes (take i xs)) w ∙ ap (λ b. o ++ b) (append_assoc head (bytes (take i xs)) w ∙ ap (λ b. head ++ b) (sym last))

-- ---- short names in lists

pub short_at : {A E : Type 0} (short : E → Bool) (f : A → E) (xs : List A) → IsTrue (list_all short (map f xs)) → (i : ℕ) (x : A) → i < length xs → IsTrue (short (f (slice_index_or xs i x)))
short_at short f [] k i x h = absurd (omega arith)
short_at short f (y ∷ xs) k zero x h = first (short (f y)) (list_all short (map f xs)) k
short_at short f (y ∷ xs) k (suc i) x h = short_at short f xs (second (short (f y)) (list_all short (map f xs)) k) i x (omega arith)

pub short_tag_at : (d : ℕ) (ts : List (TagOf Node)) → IsTrue (list_all (is_short_tag (is_short_at d)) (tags_view d ts)) → (i : ℕ) (x : TagOf Node) → i < length ts
    → IsTrue (is_short_tag (is_short_at d) ((slice_index_or ts i x).atom, row_view d (slice_index_or ts i x).rest))
short_tag_at d [] k i x h = absurd (omega arith)
short_tag_at d (t ∷ ts) k zero x h = first _ (list_all (is_short_tag (is_short_at d)) (tags_view d ts)) k
short_tag_at d (t ∷ ts) k (suc i) x h = short_tag_at d ts (second (is_short_tag (is_short_at d) (t.atom, row_view d t.rest)) _ k) i x (omega arith)

pub short_size_at : (d : ℕ) (ss : List (SizeOf Node)) → IsTrue (list_all (is_short_size (is_short_at d)) (sizes_view d ss)) → (i : ℕ) (x : SizeOf Node) → i < length ss
    → IsTrue (is_short_body (is_short_at d) (body_view d (slice_index_or ss i x).body))
short_size_at d [] k i x h = absurd (omega arith)
short_size_at d (s ∷ ss) k zero x h = first _ (list_all (is_short_size (is_short_at d)) (sizes_view d ss)) k
short_size_at d (s ∷ ss) k (suc i) x h = short_size_at d ss (second (is_short_body (is_short_at d) (body_view d s.body)) _ k) i x (omega arith)

-- ---- the forms of what holds items

pub product_items : (d n : ℕ) (b : BodyOf Node) (row xs : List Node) → b ≡ Product row → xs ≡ row → BodyFits d n b → IsTrue (is_short_body (is_short_at d) (body_view d b))
    → EachNode (Fits d) xs × IsTrue (list_all (is_short_at d) (row_view d xs))
product_items d n b row xs e f k short =
    let body : xs ≡ row = f in
    let each : EachNode (Fits d) row = subst (EachInBody (Fits d)) e k.each in
    let are_short : IsTrue (list_all (is_short_at d) (row_view d row)) = subst (λ x. IsTrue (is_short_body (is_short_at d) (body_view d x))) e short in
    (subst (EachNode (Fits d)) (sym body) each, subst (λ x. IsTrue (list_all (is_short_at d) (row_view d x))) (sym body) are_short)

length-tags_view : (d : ℕ) (ts : List (TagOf Node)) → length (tags_view d ts) ≡ length ts
length-tags_view d [] = refl
length-tags_view d (t ∷ ts) = ap suc (length-tags_view d ts)

length-sizes_view : (d : ℕ) (ss : List (SizeOf Node)) → length (sizes_view d ss) ≡ length ss
length-sizes_view d [] = refl
length-sizes_view d (s ∷ ss) = ap suc (length-sizes_view d ss)

few_tags : (d n : ℕ) (ts : List (TagOf Node)) → NormalTags (NormalAt d) (ops d) n (tags_view d ts) → length ts ≤ 13
few_tags d zero ts k = absurd k
few_tags d (suc n) ts k = let h = ltb-true (length (tags_view d ts)) 14 k.1 in let e = length-tags_view d ts in omega arith

pub tags_items : (d n : ℕ) (b : BodyOf Node) (ts xs : List (TagOf Node)) → b ≡ Tags ts → xs ≡ ts → BodyFits d n b → IsTrue (is_short_body (is_short_at d) (body_view d b))
    → EachTag (Fits d) xs × ((length xs ≤ 13) × IsTrue (list_all (is_short_tag (is_short_at d)) (tags_view d xs)))
tags_items d n b ts xs e f k short =
    let there : BodyFits d n (Tags ts) = subst (BodyFits d n) e k in
    let are_short : IsTrue (list_all (is_short_tag (is_short_at d)) (tags_view d ts)) = subst (λ x. IsTrue (is_short_body (is_short_at d) (body_view d x))) e short in
    subst (λ x. EachTag (Fits d) x × ((length x ≤ 13) × IsTrue (list_all (is_short_tag (is_short_at d)) (tags_view d x)))) (sym f) (there.each, (few_tags d n ts there.normal, are_short))

pub tags_body : (d : ℕ) (b : BodyOf Node) (ts xs : List (TagOf Node)) → b ≡ Tags ts → xs ≡ ts → length xs ∷ tags_bytes d xs ≡ body_bytes (bytes_at d) (body_view d b)
tags_body d b ts xs e f = ap (λ x. length x ∷ tags_bytes d x) f ∙ ap (λ n. n ∷ tags_bytes d ts) (sym (length-tags_view d ts)) ∙ ap (λ x. body_bytes (bytes_at d) (body_view d x)) (sym e)

pub sizes_items : (d : ℕ) (t : TuplesOf Node) (ss xs : List (SizeOf Node)) → t ≡ Sizes ss → xs ≡ ss → TuplesFit d t → IsTrue (are_short_tuples (is_short_at d) (tuples_view d t))
    → SizesFit d xs × ((length xs ≤ 8) × IsTrue (list_all (is_short_size (is_short_at d)) (sizes_view d xs)))
sizes_items d t ss xs e f k short =
    let there : TuplesFit d (Sizes ss) = subst (TuplesFit d) e k in
    let few : length ss ≤ 8 = let h = ltb-true (length (sizes_view d ss)) 9 there.normal.1 in let s = length-sizes_view d ss in omega arith in
    let are_short : IsTrue (list_all (is_short_size (is_short_at d)) (sizes_view d ss)) = subst (λ x. IsTrue (are_short_tuples (is_short_at d) (tuples_view d x))) e short in
    subst (λ x. SizesFit d x × ((length x ≤ 8) × IsTrue (list_all (is_short_size (is_short_at d)) (sizes_view d x)))) (sym f) (record { table = there.normal.0; normal = there.normal.2; each = there.each }, (few, are_short))

sizes_there : (d : ℕ) (ss : List (SizeOf Node)) → (ss ≡ [] → ⊥) → length ss ∷ sizes_bytes d ss ≡ part_bytes (tuples_part (bytes_at d) (sizes (sizes_view d ss)))
sizes_there d [] some = absurd (some refl)
sizes_there d (s ∷ ss) some = ap (λ n. suc n ∷ sizes_bytes d (s ∷ ss)) (sym (length-sizes_view d ss))

pub sizes_part : (d : ℕ) (t : TuplesOf Node) (ss xs : List (SizeOf Node)) (r : Bool) → t ≡ Sizes ss → xs ≡ ss → IsTrue r ↔ (ss ≡ []) → r ≡ false
    → length xs ∷ sizes_bytes d xs ≡ part_bytes (tuples_part (bytes_at d) (tuples_view d t))
sizes_part d t ss xs r e f empty not_empty =
    ap (λ x. length x ∷ sizes_bytes d x) f ∙ sizes_there d ss (λ none. true≢false (sym (empty.1 none) ∙ not_empty)) ∙ ap (λ x. part_bytes (tuples_part (bytes_at d) (tuples_view d x))) (sym e)
