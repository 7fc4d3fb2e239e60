-- Entries by name: a map of them, the list that it gives, and those of a table that are kept.
use Rattle.std.proofs.Common.{◌≡◌, ◌↔◌, ℕ, ◌<◌, ◌≤◌, arith, length, drop, append-nil, Bool, true, false, not, cond, List, [], ◌∷◌, ◌++◌, map}
use Rattle.std.proofs.Common.{Option, Some, None, Result, Ok, Err, OnOk, OnErr, Less, Equal, Greater, is_lt, is_eq, refl, sym, ap, ap₂, ◌∙◌, subst}
use Rattle.std.specs.Prelude.{option_map, IsSome}
use Rattle.std.specs.declared.cmp.Ordering.{Ordering}
use Rattle.std.specs.Ordering.{match_ordering}
use Rattle.std.specs.BTreeMap.{insert_entry, is_at}
use Rattle.std.specs.Map.{lookup, keys_of, values_of}
use Rattle.std.specs.List.Sorted.{IsStrictlySortedBy}
use Rattle.std.specs.Cmp.Lexicographic.{texts_ties}
use Rattle.std.proofs.lemmas.Bool.{and_from, and_parts}
use Rattle.std.proofs.lemmas.Cmp.{nat_list_eq_equiv}
use Rattle.std.proofs.lemmas.List.{drop_all}
use Rattle.type_kinds.specs.declared.atom.Atom.{Atom}
use Rattle.type_kinds_sets.specs.Ascending.{is_below_all}
use Rattle.type_kinds_sets.specs.Names.{name_cmp}
use Rattle.type_kinds_sets.proofs.NameLaws.{name_same}
use Rattle.core_scope.specs.Names.{same_atom}
use Rattle.table_file.specs.Order.{rises, rises_from, is_name_before}
use Rattle.table_file.specs.declared.entries.Entry.{Entry as StoredEntry}
use Rattle.table_keep.specs.Model.{entry_so, entry_of}
use Rattle.table_keep.specs.Groups.{has}
use Rattle.sound_laws_kept.proofs.Graphs.{below_all, rises_behind}
use Rattle.sound_laws_kept.proofs.Names.{itself, name_is}
use Rattle.analysis.specs.steps.Keyed.{are_keyed, kept_among}
use Rattle.analysis.specs.steps.Making.{kept_of}

-- ---- a map of entries

own_name : (p : Atom × StoredEntry) (ps : List (Atom × StoredEntry)) → are_keyed (p ∷ ps) ≡ true → p.1.name ≡ p.0
own_name p ps keyed = name_is p.1.name p.0 (and_parts (same_atom p.1.name p.0) (are_keyed ps) keyed).0

others_keyed : (p : Atom × StoredEntry) (ps : List (Atom × StoredEntry)) → are_keyed (p ∷ ps) ≡ true → are_keyed ps ≡ true
others_keyed p ps keyed = (and_parts (same_atom p.1.name p.0) (are_keyed ps) keyed).1

keyed_by : (k : Atom) (v : StoredEntry) (ps : List (Atom × StoredEntry)) → v.name ≡ k → are_keyed ps ≡ true → are_keyed ((k, v) ∷ ps) ≡ true
keyed_by k v ps own keyed = and_from (same_atom v.name k) (are_keyed ps) (ap (same_atom v.name) (sym own) ∙ itself v.name) keyed

pub keyed_more : (es : List (Atom × StoredEntry)) (k : Atom) (v : StoredEntry) → are_keyed es ≡ true → v.name ≡ k → are_keyed (insert_entry name_cmp es k v) ≡ true
keyed_more [] k v keyed own = keyed_by k v [] own refl
keyed_more (e ∷ es) k v keyed own = by (name_cmp k e.0) refl (keyed_more es k v (others_keyed e es keyed) own)
  where
    by : (o : Ordering) → name_cmp k e.0 ≡ o → are_keyed (insert_entry name_cmp es k v) ≡ true → are_keyed (match_ordering o ((k, v) ∷ e ∷ es) ((e.0, v) ∷ es) (e ∷ insert_entry name_cmp es k v)) ≡ true
    by Less is rest = keyed_by k v (e ∷ es) own keyed
    by Equal is rest = keyed_by e.0 v es (own ∙ name_same k e.0 is) (others_keyed e es keyed)
    by Greater is rest = and_from (same_atom e.1.name e.0) (are_keyed (insert_entry name_cmp es k v)) (and_parts (same_atom e.1.name e.0) (are_keyed es) keyed).0 rest

-- whatever comes of putting an entry under its name
pub keyed_put : {A E : Type 0} (r : Result A E) (old new : List (Atom × StoredEntry)) (k : Atom) (v : StoredEntry) → OnOk r (new ≡ insert_entry name_cmp old k v) → OnErr r (new ≡ old)
    → are_keyed old ≡ true → v.name ≡ k → are_keyed new ≡ true
keyed_put (Ok x) old new k v put stays keyed own = subst (λ es. are_keyed es ≡ true) (sym put) (keyed_more old k v keyed own)
keyed_put (Err x) old new k v put stays keyed own = subst (λ es. are_keyed es ≡ true) (sym stays) keyed

-- whether a name is the key
pub key_test : (k h own : Atom) → k ≡ own → is_at (name_cmp k) h ≡ same_atom h own
key_test k h own is = sym (texts_ties k h) ∙ nat_list_eq_equiv.symm k h ∙ ap (same_atom h) is

pub stored_more : (before after : Option StoredEntry) (k h : Atom) (e : StoredEntry) → k ≡ e.name → after ≡ cond (is_at (name_cmp k) h) (Some e) before
    → option_map entry_so after ≡ cond (same_atom h e.name) (Some (entry_so e)) (option_map entry_so before)
stored_more before after k h e is so = ap (option_map entry_so) (so ∙ ap (λ b. cond b (Some e) before) (key_test k h e.name is)) ∙ by (same_atom h e.name)
  where
    by : (b : Bool) → option_map entry_so (cond b (Some e) before) ≡ cond b (Some (entry_so e)) (option_map entry_so before)
    by true = refl
    by false = refl

-- ---- the list that a map gives

pub found_in_list : (es : List (Atom × StoredEntry)) (h : Atom) → are_keyed es ≡ true → entry_of (map entry_so (values_of es)) h ≡ option_map entry_so (lookup (is_at (name_cmp h)) es)
found_in_list [] h keyed = refl
found_in_list (p ∷ ps) h keyed =
    ap (λ b. cond b (Some (entry_so p.1)) (entry_of (map entry_so (values_of ps)) h)) (ap (same_atom h) (own_name p ps keyed) ∙ texts_ties h p.0)
    ∙ by (is_eq (name_cmp h p.0)) (found_in_list ps h (others_keyed p ps keyed))
  where
    by : (b : Bool) → entry_of (map entry_so (values_of ps)) h ≡ option_map entry_so (lookup (is_at (name_cmp h)) ps)
        → cond b (Some (entry_so p.1)) (entry_of (map entry_so (values_of ps)) h) ≡ option_map entry_so (cond b (Some p.1) (lookup (is_at (name_cmp h)) ps))
    by true rest = refl
    by false rest = rest

rises_on : (x : Atom) (xs : List Atom) → IsStrictlySortedBy name_cmp (x ∷ xs) → rises_from is_name_before x xs ≡ true
unfolding IsStrictlySortedBy
rises_on x [] sorted = refl
rises_on x (y ∷ ys) sorted = and_from (is_name_before x y) (rises_from is_name_before y ys) (ap is_lt sorted.0.0) (rises_on y ys sorted.1)

sorted_rises : (xs : List Atom) → IsStrictlySortedBy name_cmp xs → rises is_name_before xs ≡ true
unfolding IsStrictlySortedBy
sorted_rises [] sorted = refl
sorted_rises (x ∷ xs) sorted = rises_on x xs sorted

names_are_keys : (es : List (Atom × StoredEntry)) → are_keyed es ≡ true → keys_of es ≡ map (λ e. e.name) (values_of es)
names_are_keys [] keyed = refl
names_are_keys (p ∷ ps) keyed = ap₂ (λ x xs. x ∷ xs) (sym (own_name p ps keyed)) (names_are_keys ps (others_keyed p ps keyed))

pub list_rises : (es : List (Atom × StoredEntry)) → are_keyed es ≡ true → IsStrictlySortedBy name_cmp (keys_of es) → rises is_name_before (map (λ e. e.name) (values_of es)) ≡ true
list_rises es keyed sorted = subst (λ xs. rises is_name_before xs ≡ true) (names_are_keys es keyed) (sorted_rises (keys_of es) sorted)

-- ---- the entries of a table that are kept

abbrev names_of : List StoredEntry → List Atom
names_of es = map (λ e. e.name) es

pub kept_next : (changed : List Atom) (e : StoredEntry) (es : List StoredEntry) → kept_among changed (e ∷ es) ≡ kept_among changed (e ∷ []) ++ kept_among changed es
kept_next changed e es = by (not (has changed e.name))
  where
    by : (b : Bool) → cond b (e ∷ kept_among changed es) (kept_among changed es) ≡ cond b (e ∷ []) [] ++ kept_among changed es
    by true = refl
    by false = refl

pub kept_so : (changed : List Atom) (es : List StoredEntry) → map entry_so (kept_among changed es) ≡ kept_of changed (map entry_so es)
kept_so changed [] = refl
kept_so changed (e ∷ es) = by (not (has changed e.name)) (kept_so changed es)
  where
    by : (b : Bool) → map entry_so (kept_among changed es) ≡ kept_of changed (map entry_so es)
        → map entry_so (cond b (e ∷ kept_among changed es) (kept_among changed es)) ≡ cond b (entry_so e ∷ kept_of changed (map entry_so es)) (kept_of changed (map entry_so es))
    by true rest = ap (λ xs. entry_so e ∷ xs) rest
    by false rest = rest

below_kept : (changed : List Atom) (x : Atom) (es : List StoredEntry) → is_below_all name_cmp x (names_of es) ≡ true → is_below_all name_cmp x (names_of (kept_among changed es)) ≡ true
below_kept changed x [] low = refl
below_kept changed x (e ∷ es) low =
    let both = and_parts (is_lt (name_cmp x e.name)) (is_below_all name_cmp x (names_of es)) low in
    by (not (has changed e.name)) both.0 (below_kept changed x es both.1)
  where
    by : (b : Bool) → is_lt (name_cmp x e.name) ≡ true → is_below_all name_cmp x (names_of (kept_among changed es)) ≡ true
        → is_below_all name_cmp x (names_of (cond b (e ∷ kept_among changed es) (kept_among changed es))) ≡ true
    by true less rest = and_from (is_lt (name_cmp x e.name)) (is_below_all name_cmp x (names_of (kept_among changed es))) less rest
    by false less rest = rest

from_below : (x : Atom) (ys : List Atom) → is_below_all name_cmp x ys ≡ true → rises is_name_before ys ≡ true → rises_from is_name_before x ys ≡ true
from_below x [] low up = refl
from_below x (y ∷ ys) low up = and_from (is_name_before x y) (rises_from is_name_before y ys) (and_parts (is_lt (name_cmp x y)) (is_below_all name_cmp x ys) low).0 up

pub kept_rises : (changed : List Atom) (es : List StoredEntry) → rises is_name_before (names_of es) ≡ true → rises is_name_before (names_of (kept_among changed es)) ≡ true
kept_rises changed [] up = refl
kept_rises changed (e ∷ es) up = by (not (has changed e.name)) (kept_rises changed es (rises_behind e.name (names_of es) up))
  where
    by : (b : Bool) → rises is_name_before (names_of (kept_among changed es)) ≡ true → rises is_name_before (names_of (cond b (e ∷ kept_among changed es) (kept_among changed es))) ≡ true
    by true rest = from_below e.name (names_of (kept_among changed es)) (below_kept changed e.name es (below_all e.name (names_of es) up)) rest
    by false rest = rest

pub kept_all : (changed : List Atom) (kept items all : List StoredEntry) (i : ℕ) → length items ≤ i → kept ++ kept_among changed (drop i items) ≡ kept_among changed items → items ≡ all → kept ≡ kept_among changed all
kept_all changed kept items all i high so is =
    sym (append-nil kept) ∙ ap (λ es. kept ++ kept_among changed es) (sym (drop_all i items high)) ∙ so ∙ ap (kept_among changed) is

-- when the map is empty the list has all
pub emptied : {X : Type 0} (r : Option X) (list : List StoredEntry) (left : List (Atom × StoredEntry)) (all : List StoredEntry) → r ≡ None → IsSome r ↔ (0 < length left) → list ++ values_of left ≡ all → list ≡ all
emptied r list [] all none some so = sym (append-nil list) ∙ so
emptied r list (p ∷ ps) all none some so = let there = subst IsSome none (some.1 (omega arith)) in absurd cc

pub stored_names : (es : List StoredEntry) → map (λ e. e.name) (map entry_so es) ≡ names_of es
stored_names [] = refl
stored_names (e ∷ es) = ap (λ hs. e.name ∷ hs) (stored_names es)
