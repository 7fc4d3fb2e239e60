-- The heights of types made of parts, from those of their element types; and so of the types of each level.
use Rattle.std.proofs.Common.{◌≡◌, ◌≤◌, ℕ, zero, suc, ◌+◌, Bool, true, false, not, cond, List, [], length, drop, Option, Some, None, refl, sym, ap, ◌∙◌, subst, inl, inr, arith, true≢false}
use Rattle.std.proofs.lemmas.Bool.{false_from_ne_true}
use Rattle.type_kinds_sets.specs.Ascending.{has_item}
use Rattle.type_kinds_sets.specs.Names as names
use Rattle.type_kinds_sets.specs.Names.{Name, Names, name_cmp, are_listed, some, every}
use Rattle.type_kinds_sets.specs.Numbers as numbers
use Rattle.type_kinds_sets.specs.BitLengths as bit_lengths
use Rattle.type_kinds_sets.specs.declared.bits.Bits.{Bits}
use Rattle.type_kinds_sets.specs.declared.bits.Bits.TheVariants.{No}
use Rattle.type_kinds_sets.proofs.AscendingLaws as ascending
use Rattle.type_kinds_sets.proofs.NameLaws.{name_total, name_same, listed-ascending, listed-few, not_listed, fourteen}
use Rattle.type_lattice_model.specs.Values.{Value, atom, nil, cons, tuple}
use Rattle.type_lattice_model.specs.Shapes.{PlainParts, Flags, Functions, no_function, Cell, Tuples, sizes, Parts}
use Rattle.type_lattice_model.specs.HasType.{HasCell, HasTuple, HasParts, HasAt}
use Rattle.type_lattice_model.specs.Operations.{Ops, no_flags, of_atoms, parts_only, next, ops}
use Rattle.type_lattice_model.specs.Normal.{NormalFunctions, IsElement, NormalParts, NormalAt}
use Rattle.type_lattice_model.specs.Laws.{BelowBy, Laws}
use Rattle.type_lattice_model.specs.Ranks.{plain_rank, flags_rank, functions_rank}
use Rattle.type_lattice_model.specs.ValueShapes.{PlainBelow, an_int, an_atom, some_bits, of_flag, a_function, Shape, leaf, pair, row, shape, HasShape}
use Rattle.type_lattice_model.proofs.PlainLaws.{Lower, plain-lower}
use Rattle.type_lattice_model.proofs.LeastLaws.{none_held}
use Rattle.type_lattice_model.proofs.PartsLaws.{by_shape, shapes_below, next_laws}
use Rattle.type_lattice_model.proofs.LevelLaws.{level_laws}
use Rattle.type_lattice_heights.specs.Heights.{tags_of, cell_height, tuples_height, parts_height, tags_at, height_at}
use Rattle.type_lattice_heights.proofs.Ways.{Way, no_step, one_step, way_is, way_then, way_as, way_below, way_last, way_lift}
use Rattle.type_lattice_heights.proofs.PlainWays.{Each, HasName, HasNumber, HasLength, HasFlag, HasArity, names_way, numbers_way, bits_way, flags_way, functions_way}
use Rattle.type_lattice_heights.proofs.Levels.{GoesDown, Heights}
use Rattle.type_lattice_heights.proofs.Cells.{cell_way, cell_lower}
use Rattle.type_lattice_heights.proofs.Tuples.{tuples_way, tuples_lower}

-- ---- the atoms that can be tags

tags_fewer : (s t : Names) → names.Below s t → tags_of s ≤ tags_of t
tags_fewer (some xs e) (some ys f) b = ascending.length-part name_total name_same ys xs (listed-ascending xs e) (listed-ascending ys f) b
tags_fewer (some xs e) every b = listed-few xs e
tags_fewer every (some ys f) b = absurd (not_listed ys f (λ q. b q refl))
tags_fewer every every b = omega arith

tags_few : (s : Names) (xs : List Name) → are_listed xs ≡ true → ((a : Name) → has_item name_cmp xs a ≡ true → names.has s a ≡ true) → length xs ≤ tags_of s
tags_few (some ys f) xs e b = ascending.length-part name_total name_same ys xs (listed-ascending xs e) (listed-ascending ys f) b
tags_few every xs e b = listed-few xs e

-- ---- plain parts

plain_below : (p q : PlainParts) → names.Below p.atoms q.atoms → numbers.Below p.ints q.ints → bit_lengths.Below p.bits q.bits → BelowBy HasFlag p.flags q.flags → BelowBy HasArity p.functions q.functions → PlainBelow p q
plain_below p q a b c d e (an_int n) h = b n h
plain_below p q a b c d e (an_atom n) h = a n h
plain_below p q a b c d e (some_bits n) h = c n h
plain_below p q a b c d e (of_flag k) h = d k h
plain_below p q a b c d e (a_function n) h = e n h

module _ {E : Type 0} {Has : Value → E → Type 0} {Normal : E → Type 0} {o : Ops E} (l : Laws Has Normal o) {height tags_in : E → ℕ} (r : Heights Has Normal o height tags_in) where
  abbrev IsIn : Value → Parts E → Type 0
  IsIn = HasParts Has

  abbrev Are : Parts E → Type 0
  Are = NormalParts Normal o

  -- ---- inclusion by parts

  shape_more : (p q : Parts E) → PlainBelow p.plain q.plain → BelowBy (HasCell Has) p.cell q.cell → BelowBy (HasTuple Has) p.tuples q.tuples → (x : Shape) → HasShape Has x p → HasShape Has x q
  shape_more p q a b c (leaf x) h = a x h
  shape_more p q a b c (pair x y) h = b (x, y) h
  shape_more p q a b c (row vs) h = c vs h

  parts_below : (p q : Parts E) → PlainBelow p.plain q.plain → BelowBy (HasCell Has) p.cell q.cell → BelowBy (HasTuple Has) p.tuples q.tuples → BelowBy IsIn p q
  parts_below p q a b c = subst (λ H. BelowBy H p q) (sym (by_shape l)) (λ v. shape_more p q a b c (shape v))

  -- ---- down from a type, part by part, to its atoms, and from these to none

  abbrev plain_of : Names → numbers.Numbers → Bits → Flags → Functions → PlainParts
  plain_of a i b k f = record { atoms = a; ints = i; bits = b; flags = k; functions = f }

  abbrev parts_of : PlainParts → Option (Cell E) → Tuples E → Parts E
  parts_of p c t = record { plain = p; cell = c; tuples = t }

  tuples_down : (p : PlainParts) (c : Option (Cell E)) (t : Tuples E) → Are (parts_of p c t) → Way IsIn Are (tuples_height height tags_in o.any t) (parts_of p c (sizes [])) (parts_of p c t)
  tuples_down p c t k =
      way_lift IsIn Are (λ u. parts_of p c u) (sizes []) (λ u j b. (k.0, k.1, j)) (λ u v b. parts_below (parts_of p c u) (parts_of p c v) (λ x h. h) (λ x h. h) b)
      (λ u v e. ap (λ q. q.tuples) e) (tuples_height height tags_in o.any t) t (tuples_way l r t k.2)

  cell_down : (p : PlainParts) (c : Option (Cell E)) → Are (parts_of p c (sizes [])) → Way IsIn Are (cell_height height tags_in c) (parts_of p None (sizes [])) (parts_of p c (sizes []))
  cell_down p c k =
      way_lift IsIn Are (λ u. parts_of p u (sizes [])) None (λ u j b. (k.0, j, k.2)) (λ u v b. parts_below (parts_of p u (sizes [])) (parts_of p v (sizes [])) (λ x h. h) b (λ x h. h))
      (λ u v e. ap (λ q. q.cell) e) (cell_height height tags_in c) c (cell_way l r c k.1)

  -- plain parts and nothing else
  abbrev plain_type : PlainParts → Parts E
  plain_type p = parts_of p None (sizes [])

  plain_are : (p : PlainParts) → NormalFunctions p.functions → Are (plain_type p)
  plain_are p k = (k, tt, (refl, refl, tt))

  plain_more : (p q : PlainParts) → PlainBelow p q → BelowBy IsIn (plain_type p) (plain_type q)
  plain_more p q b = parts_below (plain_type p) (plain_type q) b (λ x h. h) (λ x h. h)

  -- a way in one of them is a way in the type that has them and nothing else
  module _ {V S : Type 0} (HasS : V → S → Type 0) (NormalS : S → Type 0) (put : S → PlainParts) (back : PlainParts → S) where
    plain_way : ((u : S) → back (put u) ≡ u) → ((u : S) → NormalS u → NormalFunctions (put u).functions) → ((u v : S) → BelowBy HasS u v → PlainBelow (put u) (put v))
        → (n : ℕ) (s t : S) → Way HasS NormalS n s t → Way IsIn Are n (plain_type (put s)) (plain_type (put t))
    plain_way there normal below n s t w =
        way_lift IsIn Are (λ u. plain_type (put u)) s (λ u j b. plain_are (put u) (normal u j)) (λ u v b. plain_more (put u) (put v) (below u v b)) (λ u v e. sym (there u) ∙ ap (λ q. back q.plain) e ∙ there v) n t w

  functions_down : (a : Names) (i : numbers.Numbers) (b : Bits) (k : Flags) (f : Functions) → Way IsIn Are (functions_rank f) (plain_type (plain_of a i b k no_function)) (plain_type (plain_of a i b k f))
  functions_down a i b k f =
      let put : Functions → PlainParts = plain_of a i b k in
      plain_way HasArity NormalFunctions put (λ p. p.functions) (λ u. refl) (λ u j. j) (λ u v c. plain_below (put u) (put v) (λ x h. h) (λ x h. h) (λ x h. h) (λ x h. h) c) (functions_rank f) no_function f (functions_way f)

  flags_down : (a : Names) (i : numbers.Numbers) (b : Bits) (k : Flags) → Way IsIn Are (flags_rank k) (plain_type (plain_of a i b no_flags no_function)) (plain_type (plain_of a i b k no_function))
  flags_down a i b k =
      let put : Flags → PlainParts = λ u. plain_of a i b u no_function in
      plain_way HasFlag Each put (λ p. p.flags) (λ u. refl) (λ u j. tt) (λ u v c. plain_below (put u) (put v) (λ x h. h) (λ x h. h) (λ x h. h) c (λ x h. h)) (flags_rank k) no_flags k (flags_way k)

  bits_down : (a : Names) (i : numbers.Numbers) (b : Bits) → Way IsIn Are (bit_lengths.height b) (plain_type (plain_of a i No no_flags no_function)) (plain_type (plain_of a i b no_flags no_function))
  bits_down a i b =
      let put : Bits → PlainParts = λ u. plain_of a i u no_flags no_function in
      plain_way HasLength Each put (λ p. p.bits) (λ u. refl) (λ u j. tt) (λ u v c. plain_below (put u) (put v) (λ x h. h) (λ x h. h) c (λ x h. h) (λ x h. h)) (bit_lengths.height b) No b (bits_way b)

  ints_down : (a : Names) (i : numbers.Numbers) → Way IsIn Are (numbers.height i) (of_atoms o a) (plain_type (plain_of a i No no_flags no_function))
  ints_down a i =
      let put : numbers.Numbers → PlainParts = λ u. plain_of a u No no_flags no_function in
      plain_way HasNumber Each put (λ p. p.ints) (λ u. refl) (λ u j. tt) (λ u v c. plain_below (put u) (put v) (λ x h. h) c (λ x h. h) (λ x h. h) (λ x h. h)) (numbers.height i) numbers.none i (numbers_way i)

  atoms_down : (a : Names) → Way IsIn Are (names.height a) (next o).none (of_atoms o a)
  atoms_down a =
      let put : Names → PlainParts = λ u. plain_of u numbers.none No no_flags no_function in
      plain_way HasName Each put (λ p. p.atoms) (λ u. refl) (λ u j. tt) (λ u v c. plain_below (put u) (put v) c (λ x h. h) (λ x h. h) (λ x h. h) (λ x h. h)) (names.height a) names.none a (names_way a)

  -- the height of all but the atoms
  abbrev rest_height : Parts E → ℕ
  rest_height p = tuples_height height tags_in o.any p.tuples + (cell_height height tags_in p.cell + (functions_rank p.plain.functions + (flags_rank p.plain.flags + (bit_lengths.height p.plain.bits + numbers.height p.plain.ints))))

  rest_down : (p : Parts E) → Are p → Way IsIn Are (rest_height p) (of_atoms o p.plain.atoms) p
  rest_down p k =
      let a = p.plain.atoms in
      let i = p.plain.ints in
      let b = p.plain.bits in
      let q1 = plain_type (plain_of a i No no_flags no_function) in
      let q2 = plain_type (plain_of a i b no_flags no_function) in
      let q3 = plain_type (plain_of a i b p.plain.flags no_function) in
      let q4 = plain_type p.plain in
      let q5 = parts_of p.plain p.cell (sizes []) in
      let w1 = way_then IsIn Are (numbers.height i) (bit_lengths.height b) (of_atoms o a) q1 q2 (ints_down a i) (bits_down a i b) in
      let n1 = bit_lengths.height b + numbers.height i in
      let w2 = way_then IsIn Are n1 (flags_rank p.plain.flags) (of_atoms o a) q2 q3 w1 (flags_down a i b p.plain.flags) in
      let n2 = flags_rank p.plain.flags + n1 in
      let w3 = way_then IsIn Are n2 (functions_rank p.plain.functions) (of_atoms o a) q3 q4 w2 (functions_down_from p.plain k.0) in
      let n3 = functions_rank p.plain.functions + n2 in
      let w4 = way_then IsIn Are n3 (cell_height height tags_in p.cell) (of_atoms o a) q4 q5 w3 (cell_down p.plain p.cell (k.0, k.1, (refl, refl, tt))) in
      let n4 = cell_height height tags_in p.cell + n3 in
      way_then IsIn Are n4 (tuples_height height tags_in o.any p.tuples) (of_atoms o a) q5 p w4 (tuples_down p.plain p.cell p.tuples k)
    where
      functions_down_from : (q : PlainParts) → NormalFunctions q.functions → Way IsIn Are (functions_rank q.functions) (plain_type (plain_of q.atoms q.ints q.bits q.flags no_function)) (plain_type q)
      functions_down_from q k = functions_down q.atoms q.ints q.bits q.flags q.functions

  height_is : (p : Parts E) → parts_height height tags_in o.any p ≡ rest_height p + names.height p.plain.atoms
  height_is p = omega arith

  parts_to_none : (p : Parts E) → Are p → Way IsIn Are (parts_height height tags_in o.any p) (next o).none p
  parts_to_none p k =
      let w = way_then IsIn Are (names.height p.plain.atoms) (rest_height p) (next o).none (of_atoms o p.plain.atoms) p (atoms_down p.plain.atoms) (rest_down p k) in
      way_as IsIn Are (rest_height p + names.height p.plain.atoms) (parts_height height tags_in o.any p) (next o).none p (sym (height_is p)) w

  -- ---- a type that is no set of few atoms

  abbrev Down : Parts E → Type 0
  Down = GoesDown IsIn Are (next o) (parts_height height tags_in o.any) (λ p. tags_of p.plain.atoms)

  all_atoms_down : (p : Parts E) → Are p → p.plain.atoms ≡ every → Down p
  all_atoms_down p k e = record {
    least = of_atoms o every;
    element = (plain_are (plain_of every numbers.none No no_flags no_function) tt, refl);
    only_so = refl;
    atoms = drop 1 fourteen;
    listed = refl;
    counted = sym (ap tags_of e);
    there = λ a h. refl;
    allowed = inr refl;
    steps = rest_height p;
    height_so = let a = ap names.height e in let b = ap tags_of e in omega (arith, height_is p, a, b);
    way = subst (λ a. Way IsIn Are (rest_height p) (of_atoms o a) p) e (rest_down p k);
  }

  -- what stays above a set of few atoms and isn't it has another value
  not_only : (u : Parts E) (xs : List Name) (e : are_listed xs ≡ true) → Are u → BelowBy IsIn (of_atoms o (some xs e)) u → (of_atoms o (some xs e) ≡ u → ⊥)
      → ((a : Name) → names.has u.plain.atoms a ≡ true → has_item name_cmp xs a ≡ true) → (next o).only u ≡ None
  not_only u xs e k above other within = none_held ((next o).only u) (λ ys q.
      let s = of_atoms o (some xs e) in
      let n = next_laws l in
      other (n.lattice.same s u (plain_are (plain_of (some xs e) numbers.none No no_flags no_function) tt) k above (λ v h.
      let t = n.naming.only_out u ys q v h in
      subst (λ w. IsIn w s) (sym t.1.0) (within t.0 (subst (λ w. IsIn w u) t.1.0 h)))))

  not_none : (u : Parts E) (xs : List Name) (e : are_listed xs ≡ true) → Are u → BelowBy IsIn (of_atoms o (some xs e)) u → (of_atoms o (some xs e) ≡ u → ⊥) → (next o).is_none u ≡ false
  not_none u xs e k above other = false_from_ne_true ((next o).is_none u) (λ q.
      let s = of_atoms o (some xs e) in
      let n = next_laws l in
      other (n.lattice.same s u (plain_are (plain_of (some xs e) numbers.none No no_flags no_function) tt) k above (λ v h. absurd (n.lattice.none_empty v (subst (IsIn v) (n.none-is_none u q) h)))))

  few_atoms_down : (p : Parts E) (xs : List Name) (e : are_listed xs ≡ true) → Are p → p.plain.atoms ≡ some xs e → parts_only o p ≡ None → (n : ℕ) → rest_height p ≡ n → Down p
  few_atoms_down p xs e k a only zero q = absurd (
      let w = way_as IsIn Are (rest_height p) 0 (of_atoms o p.plain.atoms) p q (rest_down p k) in
      let same : of_atoms o (some xs e) ≡ p = subst (λ x. of_atoms o x ≡ p) a (way_is IsIn Are (of_atoms o p.plain.atoms) p w) in
      let found : parts_only o p ≡ Some xs = subst (λ x. parts_only o x ≡ Some xs) same refl in
      let bad = sym found ∙ only in cc)
  few_atoms_down p xs e k a only (suc n) q =
      let s = of_atoms o (some xs e) in
      let w = way_last IsIn Are n s p k (subst (λ x. Way IsIn Are (suc n) (of_atoms o x) p) a (way_as IsIn Are (rest_height p) (suc n) (of_atoms o p.plain.atoms) p q (rest_down p k))) in
      let u = w.0 in
      let below = way_below IsIn Are n u p w.1.3 in
      let within = λ (x : Name) (h : names.has u.plain.atoms x ≡ true). subst (λ y. names.has y x ≡ true) a (below (atom x) h) in
      record {
        least = u;
        element = (w.1.0, not_none u xs e w.1.0 w.1.1 w.1.2);
        only_so = not_only u xs e w.1.0 w.1.1 w.1.2 within;
        atoms = xs;
        listed = e;
        counted = sym (ap tags_of a);
        there = λ x h. w.1.1 (atom x) h;
        allowed = inr refl;
        steps = n;
        height_so = let b = ap names.height a in let c = ap tags_of a in omega (arith, height_is p, b, c, q);
        way = w.1.3;
      }

  parts_down : (p : Parts E) → IsElement Are (next o) p → (next o).only p ≡ None → (a : Names) → p.plain.atoms ≡ a → Down p
  parts_down p k only every e = all_atoms_down p k.0 e
  parts_down p k only (some xs f) e = few_atoms_down p xs f k.0 e only (rest_height p) refl

  -- ---- a smaller type has a lower height

  sum_lower : (p q : Parts E) → Lower plain_rank p.plain q.plain → Lower (cell_height height tags_in) p.cell q.cell → Lower (tuples_height height tags_in o.any) p.tuples q.tuples → Lower (parts_height height tags_in o.any) p q
  sum_lower p q a b c = grind arith

  parts_lower : (p q : Parts E) → Are p → Are q → BelowBy IsIn p q → Lower (parts_height height tags_in o.any) p q
  parts_lower p q j k f = sum_lower p q
      (plain-lower p.plain q.plain (λ x. shapes_below l p q (subst (λ H. BelowBy H p q) (by_shape l) f) (leaf x)))
      (cell_lower l r p.cell q.cell j.1 k.1 (λ c. f (cons c.0 c.1)))
      (tuples_lower l r p.tuples q.tuples j.2 k.2 (λ vs. f (tuple vs)))

  pub next_heights : Heights (HasParts Has) (NormalParts Normal o) (next o) (parts_height height tags_in o.any) (λ p. tags_of p.plain.atoms)
  next_heights = record {
    lower = parts_lower;
    fewer = λ p q j k f. tags_fewer p.plain.atoms q.plain.atoms (λ a. f (atom a));
    few = λ p xs k e f allowed. tags_few p.plain.atoms xs e f;
    to_none = parts_to_none;
    down = λ p k only. parts_down p k only p.plain.atoms refl;
  }

-- ---- the types of each level

base_down : (t : Bool) → t ≡ true → GoesDown {E = Bool} (λ v t. t ≡ true) (λ t. Unit {0}) (ops 0) (λ t. cond t 1 0) (λ t. 0) t
unfolding ops
base_down t e = record {
  least = t;
  element = (tt, ap not e);
  only_so = refl;
  atoms = [];
  listed = refl;
  counted = refl;
  there = λ a h. absurd (true≢false (sym h));
  allowed = inl refl;
  steps = 0;
  height_so = ap (λ b. cond b 1 0) e;
  way = no_step (λ v t. t ≡ true) (λ t. Unit {0}) t t refl;
}

base_to_none : (t : Bool) → Way {V = Value} (λ v t. t ≡ true) (λ t. Unit {0}) (cond t 1 0) false t
base_to_none true = one_step (λ v t. t ≡ true) (λ t. Unit {0}) false true tt (λ v h. absurd (true≢false (sym h))) (λ e. true≢false (sym e))
base_to_none false = no_step (λ v t. t ≡ true) (λ t. Unit {0}) false false refl

pub level_heights : (d : ℕ) → Heights (HasAt d) (NormalAt d) (ops d) (height_at d) (tags_at d)
unfolding NormalAt ops height_at tags_at
level_heights zero = record {
  lower = λ s t j k f. grind (arith, f nil);
  fewer = λ s t j k f. omega arith;
  few = λ t xs k e f allowed. absurd (true≢false (sym allowed));
  to_none = λ t k. base_to_none t;
  down = λ t k only. base_down t (grind (arith, k.1));
}
level_heights (suc d) = next_heights (level_laws d) (level_heights d)
