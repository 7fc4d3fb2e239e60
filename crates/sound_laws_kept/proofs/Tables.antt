-- A list of entries that rises by name is given by its entry of each name.
use Rattle.std.proofs.Common.{◌≡◌, true, false, Bool, cond, List, [], ◌∷◌, map, Some, None, Less, Equal, Greater, is_lt, refl, sym, ap, ap₂, ◌∙◌, subst}
use Rattle.std.specs.declared.cmp.Ordering.{Ordering}
use Rattle.std.specs.Ordering.{ordering_reverse}
use Rattle.std.specs.Cmp.Lexicographic.{bytes_decides}
use Rattle.std.proofs.lemmas.Bool.{and_from, false_from_ne_true}
use Rattle.type_kinds.proofs.Truths.{first, second}
use Rattle.type_kinds.specs.declared.atom.Atom.{Atom}
use Rattle.type_kinds_sets.specs.Ascending.{is_below_all}
use Rattle.type_kinds_sets.specs.Names.{name_cmp}
use Rattle.type_kinds_sets.proofs.AscendingLaws.{below-not_itself}
use Rattle.type_kinds_sets.proofs.NameLaws.{name_total, name_same}
use Rattle.core_scope.specs.Names.{same_atom}
use Rattle.table_file.specs.Order.{rises_from, is_name_before}
use Rattle.table_keep.specs.Model.{Entry, entry_of}
use Rattle.sound_laws_kept.specs.Laws.{OneTableLaw}
use Rattle.sound_laws_kept.proofs.Names.{itself, name_is, some_is, none_some}
use Rattle.sound_laws_kept.proofs.Graphs.{below_all, rises_behind}

abbrev names_of : List Entry → List Atom
names_of es = map (λ e. e.name) es

-- the first entry is that of its name
first_is : (e : Entry) (es : List Entry) → entry_of (e ∷ es) e.name ≡ Some e
first_is e es = ap (λ b. cond b (Some e) (entry_of es e.name)) (itself e.name)

-- a name before all names has no entry
none_before : (h : Atom) (es : List Entry) → is_below_all name_cmp h (names_of es) ≡ true → entry_of es h ≡ None
none_before h [] low = refl
none_before h (e ∷ es) low =
    ap (λ b. cond b (Some e) (entry_of es h)) (false_from_ne_true (same_atom h e.name) differs)
    ∙ none_before h es (second (is_lt (name_cmp h e.name)) (is_below_all name_cmp h (names_of es)) low)
  where
    less : is_lt (name_cmp h e.name) ≡ true
    less = first (is_lt (name_cmp h e.name)) (is_below_all name_cmp h (names_of es)) low

    differs : same_atom h e.name ≡ true → ⊥
    differs is = below-not_itself name_total name_same h (subst (λ k. is_lt (name_cmp h k) ≡ true) (sym (name_is h e.name is)) less)

-- of two lists with the same entries neither begins before the other
not_before : (x : Entry) (xs : List Entry) (y : Entry) (ys : List Entry) → rises_from is_name_before y.name (names_of ys) ≡ true
    → entry_of (x ∷ xs) x.name ≡ entry_of (y ∷ ys) x.name → is_name_before x.name y.name ≡ true → ⊥
not_before x xs y ys up same less =
    none_some (sym (none_before x.name (y ∷ ys) (below_all x.name (names_of (y ∷ ys)) (and_from (is_name_before x.name y.name) (rises_from is_name_before y.name (names_of ys)) less up)))
    ∙ sym same ∙ first_is x xs)

same_first : (x : Entry) (xs : List Entry) (y : Entry) (ys : List Entry) → rises_from is_name_before x.name (names_of xs) ≡ true → rises_from is_name_before y.name (names_of ys) ≡ true
    → ((h : Atom) → entry_of (x ∷ xs) h ≡ entry_of (y ∷ ys) h) → x ≡ y
same_first x xs y ys a b same = by (name_cmp x.name y.name) refl
  where
    by : (o : Ordering) → name_cmp x.name y.name ≡ o → x ≡ y
    by Less e = absurd (not_before x xs y ys b (same x.name) (ap is_lt e))
    by Equal e =
        let name : x.name ≡ y.name = name_same x.name y.name e in
        some_is (sym (first_is x xs) ∙ same x.name ∙ ap (λ c. cond c (Some y) (entry_of ys x.name)) ((bytes_decides x.name y.name).1 name))
    by Greater e = absurd (not_before y ys x xs a (sym (same y.name)) (ap is_lt (name_total.antisymm y.name x.name ∙ ap ordering_reverse e)))

-- what is behind an entry that both begin with has the same entries
same_rest : (x : Entry) (xs ys : List Entry) → is_below_all name_cmp x.name (names_of xs) ≡ true → is_below_all name_cmp x.name (names_of ys) ≡ true
    → ((h : Atom) → entry_of (x ∷ xs) h ≡ entry_of (x ∷ ys) h) → (h : Atom) → entry_of xs h ≡ entry_of ys h
same_rest x xs ys a b same h = by (same_atom h x.name) refl (same h)
  where
    by : (c : Bool) → same_atom h x.name ≡ c → cond c (Some x) (entry_of xs h) ≡ cond c (Some x) (entry_of ys h) → entry_of xs h ≡ entry_of ys h
    by true is e = subst (λ k. entry_of xs k ≡ entry_of ys k) (sym (name_is h x.name is)) (none_before x.name xs a ∙ sym (none_before x.name ys b))
    by false is e = e

pub one_table : OneTableLaw
one_table [] [] a b same = refl
one_table [] (y ∷ ys) a b same = none_some (same y.name ∙ first_is y ys)
one_table (x ∷ xs) [] a b same = none_some (sym (same x.name) ∙ first_is x xs)
one_table (x ∷ xs) (y ∷ ys) a b same =
    let e : x ≡ y = same_first x xs y ys a b same in
    let below_y : is_below_all name_cmp x.name (names_of ys) ≡ true = subst (λ (z : Entry). is_below_all name_cmp z.name (names_of ys) ≡ true) (sym e) (below_all y.name (names_of ys) b) in
    let same_x : (h : Atom) → entry_of (x ∷ xs) h ≡ entry_of (x ∷ ys) h = subst (λ z. (h : Atom) → entry_of (x ∷ xs) h ≡ entry_of (z ∷ ys) h) (sym e) same in
    ap₂ (λ z zs. z ∷ zs) e
    (one_table xs ys (rises_behind x.name (names_of xs) a) (rises_behind y.name (names_of ys) b) (same_rest x xs ys (below_all x.name (names_of xs) a) below_y same_x))
