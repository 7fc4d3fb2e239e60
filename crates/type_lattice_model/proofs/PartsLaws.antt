-- The laws of types made of parts, from those of their element types.
use Rattle.std.proofs.Common.{◌≡◌, ◌⊎◌, inl, inr, true, false, List, [], Some, None, refl, sym, ap, ◌∙◌, subst, arith, true≢false}
use Rattle.std.specs.Prelude.{cond, is_some}
use Rattle.std.proofs.lemmas.Bool.{cases_Bool, and_from}
use Rattle.type_kinds_sets.specs.Ascending.{is_ascending, has_item}
use Rattle.type_kinds_sets.specs.Names as names
use Rattle.type_kinds_sets.specs.Names.{Name, Names, name_cmp, are_listed, every}
use Rattle.type_kinds_sets.proofs.AscendingLaws as ascending
use Rattle.type_kinds_sets.proofs.NameLaws as name_laws
use Rattle.type_kinds_sets.proofs.NumberLaws as number_laws
use Rattle.type_kinds_sets.proofs.BitLaws as bit_laws
use Rattle.type_lattice_model.specs.Values.{Value, atom, nil, Values, no_value, and_value}
use Rattle.type_lattice_model.specs.Shapes.{sizes, Parts}
use Rattle.type_lattice_model.specs.HasType.{HasAll, HasCell, HasTuple, HasParts}
use Rattle.type_lattice_model.specs.Operations.{Ops, plain_none, is_atoms, cell_meet, cell_join, tuples_meet, tuples_join, is_only_atoms, of_plain, of_atoms, parts_is_none, parts_meet, parts_join, parts_only, next}
use Rattle.type_lattice_model.specs.Normal.{NormalCell, NormalTuples, NormalParts}
use Rattle.type_lattice_model.specs.Laws.{BelowBy, Lattice, Laws}
use Rattle.type_lattice_model.specs.ValueShapes.{an_atom, Shape, leaf, pair, row, shape, value_of_shape, shape-value_of_shape, HasShape, has-shape}
use Rattle.type_lattice_model.proofs.PlainLaws.{plain-meet, plain-join-least, plain-same, plain-none_empty, is_atoms-only, is_atoms-other}
use Rattle.type_lattice_model.proofs.CellLaws.{filled-not_none, cell_lattice}
use Rattle.type_lattice_model.proofs.TupleLaws.{tuples_lattice}

-- ---- what a set of atoms lists

-- the least set of some names that ascend
least-below : (xs : List Name) (u : Names) → is_ascending name_cmp xs ≡ true → ((q : Name) → has_item name_cmp xs q ≡ true → names.has u q ≡ true) → names.Below (names.or_else xs every) u
least-below xs u h k f g = grind (arith, cases_Bool, name_laws.has-listed, ascending.length-part, name_laws.name_total, name_laws.name_same, name_laws.listed-ascending, name_laws.listed-few, name_laws.listed-from)

module _ {E : Type 0} {Has : Value → E → Type 0} {Normal : E → Type 0} {o : Ops E} (l : Laws Has Normal o) where
  abbrev HasF : Shape → Parts E → Type 0
  HasF = HasShape Has

  abbrev HasP : Value → Parts E → Type 0
  HasP = HasParts Has

  abbrev NormalP : Parts E → Type 0
  NormalP = NormalParts Normal o

  abbrev cells : Lattice (HasCell Has) (NormalCell Normal o) None (cell_meet o) (cell_join o)
  cells = cell_lattice l

  abbrev rows : Lattice (HasTuple Has) (NormalTuples Normal o) (sizes []) (tuples_meet o) (tuples_join o)
  rows = tuples_lattice l

  -- ---- a type with nothing but atoms

  pub only_atoms-is : (p : Parts E) → is_only_atoms o p ≡ true → p ≡ of_atoms o p.plain.atoms
  only_atoms-is p e = grind (arith, is_atoms-only)

  none-is : (p : Parts E) → parts_is_none o p ≡ true → p ≡ of_plain o plain_none
  none-is p e = grind (arith, only_atoms-is, name_laws.is_none-is)

  -- what else there is has a shape that is no atom
  pub other_shape : (p : Parts E) → NormalP p → is_only_atoms o p ≡ false → (x : Shape) × (HasF x p × ((a : Name) → x ≡ leaf (an_atom a) → ⊥))
  other_shape p k e = elim (cases_Bool (is_atoms p.plain)) [
    | inr n ↦ let w = is_atoms-other p.plain n in (leaf w.0, (w.1.0, λ a q. w.1.1 a cc))
    | inl y ↦ elim (cells.filled p.cell k.1) [
      | inr c ↦ (pair c.0.0 c.0.1, (c.1, λ a q. cc))
      | inl c ↦ elim (rows.filled p.tuples k.2) [
        | inr t ↦ (row t.0, (t.1, λ a q. cc))
        | inl t ↦ grind arith
      ]
    ]
  ]

  -- ---- the forms of a type

  shapes_filled : (p : Parts E) → NormalP p → (p ≡ of_plain o plain_none) ⊎ ((x : Shape) × HasF x p)
  shapes_filled p k = elim (cases_Bool (is_only_atoms o p)) [
    | inr n ↦ let w = other_shape p k n in inr (w.0, w.1.0)
    | inl y ↦ elim (cases_Bool (names.is_none p.plain.atoms)) [
      | inl z ↦ inl (none-is p (and_from (names.is_none p.plain.atoms) (is_only_atoms o p) z y))
      | inr z ↦ let w = name_laws.has_some p.plain.atoms z in inr (leaf (an_atom w.0), w.1)
    ]
  ]

  shapes_meet_out : (p q : Parts E) → NormalP p → NormalP q → (x : Shape) → HasF x (parts_meet o p q) → HasF x p × HasF x q
  shapes_meet_out p q j k (leaf x) h = grind (arith, plain-meet)
  shapes_meet_out p q j k (pair x y) h = (cells.meet_left p.cell q.cell j.1 k.1 (x, y) h, cells.meet_right p.cell q.cell j.1 k.1 (x, y) h)
  shapes_meet_out p q j k (row vs) h = (rows.meet_left p.tuples q.tuples j.2 k.2 vs h, rows.meet_right p.tuples q.tuples j.2 k.2 vs h)

  shapes_join_least : (p q u : Parts E) → NormalP p → NormalP q → NormalP u → BelowBy HasF p u → BelowBy HasF q u → BelowBy HasF (parts_join o p q) u
  shapes_join_least p q u i j k f h (leaf x) v = plain-join-least p.plain q.plain u.plain (λ y. f (leaf y)) (λ y. h (leaf y)) x v
  shapes_join_least p q u i j k f h (pair x y) v = cells.join_least p.cell q.cell u.cell i.1 j.1 k.1 (λ c. f (pair c.0 c.1)) (λ c. h (pair c.0 c.1)) (x, y) v
  shapes_join_least p q u i j k f h (row vs) v = rows.join_least p.tuples q.tuples u.tuples i.2 j.2 k.2 (λ ws. f (row ws)) (λ ws. h (row ws)) vs v

  pub shape_lattice : Lattice HasF NormalP (of_plain o plain_none) (parts_meet o) (parts_join o)
  shape_lattice = record {
    none_normal = (tt, cells.none_normal, rows.none_normal);
    none_empty = λ x h. grind (arith, plain-none_empty);
    filled = shapes_filled;
    same = λ p q j k f h.
        let a = plain-same p.plain q.plain (λ x. f (leaf x)) (λ x. h (leaf x)) in
        let c = cells.same p.cell q.cell j.1 k.1 (λ x. f (pair x.0 x.1)) (λ x. h (pair x.0 x.1)) in
        let t = rows.same p.tuples q.tuples j.2 k.2 (λ vs. f (row vs)) (λ vs. h (row vs)) in
        λ i. record { plain = a i; cell = c i; tuples = t i };
    meet_normal = λ p q j k. grind (arith, cells.meet_normal, rows.meet_normal);
    meet_in = λ p q j k x f h. grind (arith, plain-meet, and_from, cells.meet_in, rows.meet_in);
    meet_left = λ p q j k x h. (shapes_meet_out p q j k x h).0;
    meet_right = λ p q j k x h. (shapes_meet_out p q j k x h).1;
    join_normal = λ p q j k. grind (arith, cells.join_normal, rows.join_normal);
    join_left = λ p q j k x h. grind (arith, number_laws.join-left, name_laws.join-left, bit_laws.join-left, cells.join_left, rows.join_left);
    join_right = λ p q j k x h. grind (arith, number_laws.join-right, name_laws.join-right, bit_laws.join-right, cells.join_right, rows.join_right);
    join_least = shapes_join_least;
  }

  -- ---- the values of a type are those of its forms

  pub by_shape : HasP ≡ (λ v p. HasF (shape v) p)
  by_shape = λ i v p. has-shape Has v p i

  -- inclusion by values is inclusion by forms
  pub shapes_below : (p q : Parts E) → BelowBy (λ v p. HasF (shape v) p) p q → BelowBy HasF p q
  shapes_below p q b x = subst (λ y. HasF y p → HasF y q) (shape-value_of_shape x) (b (value_of_shape x))

  pub parts_lattice : Lattice HasP NormalP (of_plain o plain_none) (parts_meet o) (parts_join o)
  parts_lattice = let s = shape_lattice in subst (λ H. Lattice H NormalP (of_plain o plain_none) (parts_meet o) (parts_join o)) (sym by_shape) (record {
    none_normal = s.none_normal;
    none_empty = λ v. s.none_empty (shape v);
    filled = λ p k. elim (s.filled p k) [ inl e ↦ inl e | inr w ↦ inr (value_of_shape w.0, subst (λ x. HasF x p) (sym (shape-value_of_shape w.0)) w.1) ];
    same = λ p q j k f h. s.same p q j k (shapes_below p q f) (shapes_below q p h);
    meet_normal = s.meet_normal;
    meet_in = λ p q j k v. s.meet_in p q j k (shape v);
    meet_left = λ p q j k v. s.meet_left p q j k (shape v);
    meet_right = λ p q j k v. s.meet_right p q j k (shape v);
    join_normal = s.join_normal;
    join_left = λ p q j k v. s.join_left p q j k (shape v);
    join_right = λ p q j k v. s.join_right p q j k (shape v);
    join_least = λ p q u i j k f h v. s.join_least p q u i j k (shapes_below p u f) (shapes_below q u h) (shape v);
  })

  -- any has each value
  all_any : (vs : Values) → HasAll Has vs o.any
  all_any no_value = tt
  all_any (and_value v vs) = (l.any_in v, all_any vs)

  -- ---- the atoms of a type

  -- the values of a set of atoms
  pub atoms-out : (s : Names) (v : Value) → HasP v (of_atoms o s) → (a : Name) × ((v ≡ atom a) × (names.has s a ≡ true))
  atoms-out s v h = grind arith

  -- a type that lists its atoms has nothing else
  only-view : (p : Parts E) (xs : List Name) → parts_only o p ≡ Some xs → (is_only_atoms o p ≡ true) × (names.members_of p.plain.atoms ≡ Some xs)
  only-view p xs e = elim (is_only_atoms o p) as (λ b. cond b (names.members_of p.plain.atoms) None ≡ Some xs → (b ≡ true) × (names.members_of p.plain.atoms ≡ Some xs)) [
    | true ↦ λ q. (refl, q)
    | false ↦ λ q. absurd (true≢false (sym (ap is_some q)))
  ] e

  -- a type that lists none has another value, or all atoms
  only-found : (p : Parts E) → NormalP p → (xs : List Name) → are_listed xs ≡ true → ((v : Value) → HasP v p → (a : Name) × ((v ≡ atom a) × (has_item name_cmp xs a ≡ true))) → parts_only o p ≡ None → ⊥
  only-found p k xs few f e = elim (is_only_atoms o p) as (λ b. is_only_atoms o p ≡ b → cond b (names.members_of p.plain.atoms) None ≡ None → ⊥) [
    | false ↦ λ r _.
        let w = other_shape p k r in
        let v = value_of_shape w.0 in
        let t = f v (subst (λ T. T) (sym (has-shape Has v p)) (subst (λ x. HasF x p) (sym (shape-value_of_shape w.0)) w.1.0)) in
        w.1.1 t.0 (sym (shape-value_of_shape w.0) ∙ ap shape t.1.0)
    | true ↦ λ r q. name_laws.not_listed xs few (λ a. grind (arith, f (atom a)))
  ] refl e

  pub next_laws : Laws HasP NormalP (next o)
  next_laws = record {
    lattice = parts_lattice;
    is_none-none = refl;
    none-is_none = none-is;
    any_normal = (tt, (l.any_normal, filled-not_none l o.any nil (l.any_in nil)), tt);
    any_in = λ v. grind (arith, all_any);
    naming = record {
      atom_in = λ p a h. h;
      atom_out = λ p a h. h;
      names_normal = λ xs. (tt, cells.none_normal, rows.none_normal);
      names_in = λ xs a h. grind (arith, name_laws.has-listed, name_laws.or_else-no);
      names_least = λ xs a k h p n f v y. grind (arith, atoms-out (names.or_else xs every) v y, least-below xs p.plain.atoms k f);
      only_listed = λ p xs e. let w = (only-view p xs e).1 in grind arith;
      only_out = λ p xs e v h. grind (arith, only-view p xs e, only_atoms-is p, atoms-out p.plain.atoms v);
      only_in = λ p xs e a h. let w = (only-view p xs e).1 in grind arith;
      only_tags = λ p xs e. refl;
      only_found = λ p k n. only-found p k;
      no_tags_full = λ e p k n v. absurd (true≢false e);
    };
  }
