-- What is found of a name among sources and entries, by where it stands.
use Rattle.std.proofs.Common.{◌≡◌, ℕ, zero, suc, ◌<◌, Bool, true, false, cond, ◌||◌, List, [], ◌∷◌, Option, Some, None, length, map, slice_get, get_or, is_some, refl, sym, ap, ◌∙◌, subst, arith}
use Rattle.std.specs.Cmp.Lexicographic.{bytes_decides}
use Rattle.std.specs.Map.{lookup, keys_of}
use Rattle.std.specs.Option.{option_map}
use Rattle.std.proofs.lemmas.Bool.{false_from_ne_true}
use Rattle.std.proofs.lemmas.List.{length-map}
use Rattle.std.proofs.lemmas.Map.Made.{is_some-lookup}
use Rattle.std.proofs.lemmas.Option.{slice_get-get_or, slice_get-map}
use Rattle.type_kinds.specs.declared.atom.Atom.{Atom}
use Rattle.core_ast.specs.declared.syntax.Module.{Module}
use Rattle.core_scope.specs.Checked.{module_of}
use Rattle.core_scope.specs.Names.{same_atom}
use Rattle.core_scope.specs.Sets.{StandsEarlier}
use Rattle.table_file.specs.Order.{rises, is_name_before}
use Rattle.table_file.specs.declared.entries.Entry.{Entry as StoredEntry}
use Rattle.table_file.specs.declared.tables.Table.{Table}
use Rattle.table_keep.specs.declared.candidates.Positions.{Positions}
use Rattle.table_keep.specs.declared.source.Source.{Source as HandedIn}
use Rattle.table_keep.specs.Groups.{has}
use Rattle.table_keep.specs.Kept.{is_candidate}
use Rattle.table_keep.specs.Lists.{found_at, IsWithin}
use Rattle.table_keep.specs.Model.{source_so, sources_so, entry_so, entries_so, source_of, entry_of, is_there}
use Rattle.table_keep.specs.steps.Candidates.{both, entry_names, place_of, source_names, standing}
use Rattle.table_keep.proofs.RisingNames.{first_before, not_itself, rest_rises, some_is}

-- ---- the names at positions

pub named_at : {A B : Type 0} (f : A → B) (xs : List A) (i : ℕ) (x : A) → slice_get xs i ≡ Some x → slice_get (map f xs) i ≡ Some (f x)
named_at f xs i x at = slice_get-map f xs i ∙ ap (option_map f) at

pub source_at : (sources : List HandedIn) (i : ℕ) (s : HandedIn) (m : Module) → i < length sources → s ≡ get_or sources i s → m ≡ module_of s.checked → slice_get (source_names sources) i ≡ Some m.name
source_at sources i s m within is of = named_at (λ t. (module_of t.checked).name) sources i s (slice_get-get_or sources i s within ∙ ap Some (sym is)) ∙ ap (λ x. Some x.name) (sym of)

pub entry_at : (entries : List StoredEntry) (i : ℕ) (e : StoredEntry) → i < length entries → e ≡ get_or entries i e → slice_get (entry_names entries) i ≡ Some e.name
entry_at entries i e within is = named_at (λ d. d.name) entries i e (slice_get-get_or entries i e within ∙ ap Some (sym is))

pub none_earlier : (names : List Atom) (n : ℕ) (x : Atom) → slice_get names n ≡ Some x → (StandsEarlier names n → ⊥) → (k : ℕ) → k < n → slice_get names k ≡ Some x → ⊥
none_earlier names n x at never k lt before = never (k, lt, before ∙ sym at)

-- ---- items by their names

module _ {A : Type 0} (name : A → Atom) (find : List A → Atom → Option A) (none : (h : Atom) → find [] h ≡ None)
    (next : (x : A) (xs : List A) (h : Atom) → find (x ∷ xs) h ≡ cond (same_atom h (name x)) (Some x) (find xs h)) where
  later_at : (x : A) (xs : List A) (r : Option ℕ) → found_at xs r ≡ found_at (x ∷ xs) (option_map suc r)
  later_at x xs None = refl
  later_at x xs (Some i) = refl

  find_placed : (xs : List A) (h : Atom) → find xs h ≡ found_at xs (place_of (map name xs) h)
  find_placed [] h = none h
  find_placed (x ∷ xs) h = next x xs h ∙ by (same_atom h (name x)) (find_placed xs h)
    where
      by : (b : Bool) → find xs h ≡ found_at xs (place_of (map name xs) h) → cond b (Some x) (find xs h) ≡ found_at (x ∷ xs) (cond b (Some 0) (option_map suc (place_of (map name xs) h)))
      by true rest = refl
      by false rest = rest ∙ later_at x xs (place_of (map name xs) h)

names_of_sources : (sources : List HandedIn) → map (λ s. s.tree.name) (sources_so sources) ≡ source_names sources
names_of_sources [] = refl
names_of_sources (s ∷ ss) = ap (λ l. (module_of s.checked).name ∷ l) (names_of_sources ss)

names_of_entries : (entries : List StoredEntry) → map (λ e. e.name) (map entry_so entries) ≡ entry_names entries
names_of_entries [] = refl
names_of_entries (e ∷ es) = ap (λ l. e.name ∷ l) (names_of_entries es)

pub source_placed : (sources : List HandedIn) (h : Atom) → source_of (sources_so sources) h ≡ found_at (sources_so sources) (place_of (source_names sources) h)
source_placed sources h =
    find_placed (λ s. s.tree.name) source_of (λ k. refl) (λ x xs k. refl) (sources_so sources) h ∙ ap (λ names. found_at (sources_so sources) (place_of names h)) (names_of_sources sources)

pub entry_placed : (entries : List StoredEntry) (h : Atom) → entry_of (map entry_so entries) h ≡ found_at (map entry_so entries) (place_of (entry_names entries) h)
entry_placed entries h =
    find_placed (λ e. e.name) entry_of (λ k. refl) (λ x xs k. refl) (map entry_so entries) h ∙ ap (λ names. found_at (map entry_so entries) (place_of names h)) (names_of_entries entries)

place_within : (names : List Atom) (h : Atom) → IsWithin names (place_of names h)
place_within [] h = tt
place_within (x ∷ xs) h = by (same_atom h x) (place_of xs h) (place_within xs h)
  where
    by : (b : Bool) (r : Option ℕ) → IsWithin xs r → IsWithin (x ∷ xs) (cond b (Some 0) (option_map suc r))
    by true r w = omega arith
    by false None w = tt
    by false (Some i) w = omega (arith, w)

within_map : {A B : Type 0} (f : A → B) (xs : List A) (r : Option ℕ) → IsWithin (map f xs) r → IsWithin xs r
within_map f xs None w = tt
within_map f xs (Some i) w = omega (arith, w, length-map xs f)

pub source_within : (sources : List HandedIn) (h : Atom) → IsWithin sources (place_of (source_names sources) h)
source_within sources h = within_map (λ s. (module_of s.checked).name) sources (place_of (source_names sources) h) (place_within (source_names sources) h)

pub entry_within : (entries : List StoredEntry) (h : Atom) → IsWithin entries (place_of (entry_names entries) h)
entry_within entries h = within_map (λ e. e.name) entries (place_of (entry_names entries) h) (place_within (entry_names entries) h)

-- ---- the positions of a name

pub both_source : (a b : Option ℕ) (p : Positions) → both a b ≡ Some p → p.source ≡ a
both_source None None p e = absurd cc
both_source (Some i) b p e = sym (ap (λ q. q.source) (some_is (record { source = Some i; entry = b }) p e))
both_source None (Some j) p e = sym (ap (λ q. q.source) (some_is (record { source = None; entry = Some j }) p e))

pub both_entry : (a b : Option ℕ) (p : Positions) → both a b ≡ Some p → p.entry ≡ b
both_entry None None p e = absurd cc
both_entry (Some i) b p e = sym (ap (λ q. q.entry) (some_is (record { source = Some i; entry = b }) p e))
both_entry None (Some j) p e = sym (ap (λ q. q.entry) (some_is (record { source = None; entry = Some j }) p e))

-- what the entries of a map that rises say of one of its keys
pub lookup_at : (es : List (Atom × Positions)) → rises is_name_before (keys_of es) ≡ true → (i : ℕ) (h : Atom) (p : Positions) → slice_get es i ≡ Some (h, p) → lookup (same_atom h) es ≡ Some p
lookup_at [] up i h p at = absurd cc
lookup_at (x ∷ xs) up zero h p at =
    let is : x ≡ (h, p) = some_is x (h, p) at in
    ap (λ b. cond b (Some x.1) (lookup (same_atom h) xs)) ((bytes_decides h x.0).1 (sym (ap (λ y. y.0) is))) ∙ ap (λ y. Some y.1) is
lookup_at (x ∷ xs) up (suc i) h p at =
    ap (λ b. cond b (Some x.1) (lookup (same_atom h) xs)) (false_from_ne_true (same_atom h x.0) (λ e.
    not_itself h (subst (λ z. is_name_before z h ≡ true) (sym ((bytes_decides h x.0).0 e)) (first_before x.0 (keys_of xs) up i h (named_at (λ y. y.0) xs i (h, p) at)))))
    ∙ lookup_at xs (rest_rises x.0 (keys_of xs) up) i h p at

-- ---- the candidates

there_both : (a b : Option ℕ) → is_some (both a b) ≡ (is_there a || is_there b)
there_both None None = refl
there_both None (Some j) = refl
there_both (Some i) b = refl

there_at : {A : Type 0} (xs : List A) (r : Option ℕ) → IsWithin xs r → is_there (found_at xs r) ≡ is_there r
there_at xs None w = refl
there_at xs (Some i) w = at xs i w
  where
    at : {A : Type 0} (ys : List A) (k : ℕ) → k < length ys → is_there (slice_get ys k) ≡ true
    at [] k low = absurd (omega (arith, low))
    at (y ∷ ys) zero low = refl
    at (y ∷ ys) (suc k) low = at ys k (omega (arith, low))

within_so : {A B : Type 0} (f : A → B) (xs : List A) (r : Option ℕ) → IsWithin xs r → IsWithin (map f xs) r
within_so f xs None w = tt
within_so f xs (Some i) w = omega (arith, w, length-map xs f)

pub candidates_are : (table : Table) (sources : List HandedIn) (es : List (Atom × Positions)) → ((q : Atom) → lookup (same_atom q) es ≡ standing (source_names sources) (entry_names table.entries) q)
    → has (keys_of es) ≡ is_candidate (entries_so table) (sources_so sources)
candidates_are table sources es stands = λ j h. is h j
  where
    handed_in : (h : Atom) → is_there (source_of (sources_so sources) h) ≡ is_there (place_of (source_names sources) h)
    handed_in h = ap is_there (source_placed sources h) ∙ there_at (sources_so sources) (place_of (source_names sources) h) (within_so source_so sources (place_of (source_names sources) h) (source_within sources h))

    entered : (h : Atom) → is_there (entry_of (entries_so table) h) ≡ is_there (place_of (entry_names table.entries) h)
    entered h = ap is_there (entry_placed table.entries h) ∙ there_at (entries_so table) (place_of (entry_names table.entries) h) (within_so entry_so table.entries (place_of (entry_names table.entries) h) (entry_within table.entries h))

    is : (h : Atom) → has (keys_of es) h ≡ is_candidate (entries_so table) (sources_so sources) h
    is h =
        sym (is_some-lookup (same_atom h) es) ∙ ap is_some (stands h) ∙ there_both (place_of (source_names sources) h) (place_of (entry_names table.entries) h)
        ∙ sym ((λ j. handed_in h j || entered h j))
