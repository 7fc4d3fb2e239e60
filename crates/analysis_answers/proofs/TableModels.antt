-- A table is given by what its entries say: its bytes, and whether they fit.
use Rattle.std.proofs.Common.{◌≡◌, ℕ, ◌^◌, Bool, ◌&&◌, nat_lt, List, [], ◌∷◌, ◌++◌, map, refl, sym, ap, ap₂, ◌∙◌}
use Rattle.std.specs.List.{flat_map, list_all}
use Rattle.std.proofs.lemmas.List.{length-map}
use Rattle.std.proofs.lemmas.List.Concat.{flat_map-cons}
use Rattle.call_graph.specs.Outside.{Called}
use Rattle.cons_tree.specs.declared.parts.Callee.{Callee}
use Rattle.table_file.specs.declared.used.Used.{Used}
use Rattle.table_file.specs.declared.entries.Entry.{Entry as StoredEntry}
use Rattle.table_file.specs.declared.tables.Table.{Table}
use Rattle.table_file.specs.Lengths.{is_short, are_short, is_short_callee, is_short_used, is_short_export, is_short_entry, is_short_table}
use Rattle.table_file.specs.Spelling.{four_bytes, counted, text_bytes, callee_bytes, used_bytes, export_bytes, entry_bytes, magic, version, sealed, table_bytes}
use Rattle.table_keep.specs.Model.{Entry, used_so, entry_so, entries_so}

-- ---- what is made of a list's items by what they say

flat_map_as : {X Y : Type 0} (f : X → List ℕ) (g : Y → List ℕ) (m : X → Y) → ((x : X) → f x ≡ g (m x)) → (xs : List X) → flat_map f xs ≡ flat_map g (map m xs)
flat_map_as f g m same [] = refl
flat_map_as f g m same (x ∷ xs) =
    flat_map-cons f x xs ∙ ap₂ (λ a b. a ++ b) (same x) (flat_map_as f g m same xs) ∙ sym (flat_map-cons g (m x) (map m xs))

list_all_as : {X Y : Type 0} (f : X → Bool) (g : Y → Bool) (m : X → Y) → ((x : X) → f x ≡ g (m x)) → (xs : List X) → list_all f xs ≡ list_all g (map m xs)
list_all_as f g m same [] = refl
list_all_as f g m same (x ∷ xs) = ap₂ (λ a b. a && b) (same x) (list_all_as f g m same xs)

counted_as : {X Y : Type 0} (f : X → List ℕ) (g : Y → List ℕ) (m : X → Y) → ((x : X) → f x ≡ g (m x)) → (xs : List X) → counted f xs ≡ counted g (map m xs)
unfolding counted
counted_as f g m same xs = ap₂ (λ n bytes. four_bytes n ++ bytes) (sym (length-map xs m)) (flat_map_as f g m same xs)

are_short_as : {X Y : Type 0} (f : X → Bool) (g : Y → Bool) (m : X → Y) → ((x : X) → f x ≡ g (m x)) → (xs : List X) → are_short f xs ≡ are_short g (map m xs)
are_short_as f g m same xs = ap₂ (λ n b. nat_lt n (2 ^ 32) && b) (sym (length-map xs m)) (list_all_as f g m same xs)

-- ---- the bytes

bytes_of_used : Called × Callee → List ℕ
bytes_of_used u = text_bytes u.0.0 ++ text_bytes u.0.1.name ++ four_bytes u.0.1.arity ++ callee_bytes u.1

used_as : (u : Used) → used_bytes u ≡ bytes_of_used (used_so u)
unfolding used_bytes bytes_of_used
used_as u = refl

bytes_of_entry : Entry → List ℕ
bytes_of_entry e =
    text_bytes e.name ++ e.digest ++ counted text_bytes e.group ++ counted text_bytes e.calls
    ++ counted bytes_of_used e.used ++ counted export_bytes e.result.exports ++ text_bytes e.result.lines

entry_as : (e : StoredEntry) → entry_bytes e ≡ bytes_of_entry (entry_so e)
unfolding entry_bytes bytes_of_entry
entry_as e =
    ap (λ bytes. text_bytes e.name ++ e.digest.0 ++ counted text_bytes e.group ++ counted text_bytes e.calls ++ bytes ++ counted export_bytes e.exports ++ text_bytes e.lines)
    (counted_as used_bytes bytes_of_used used_so used_as e.used)

table_as : (t : Table) → table_bytes t ≡ sealed (magic ++ version ++ counted bytes_of_entry (entries_so t))
unfolding table_bytes
table_as t = ap (λ bytes. sealed (magic ++ version ++ bytes)) (counted_as entry_bytes bytes_of_entry entry_so entry_as t.entries)

-- tables whose entries say the same have the same bytes
pub same_bytes : (s t : Table) → entries_so s ≡ entries_so t → table_bytes s ≡ table_bytes t
same_bytes s t e = table_as s ∙ ap (λ es. sealed (magic ++ version ++ counted bytes_of_entry es)) e ∙ sym (table_as t)

-- ---- whether they fit

short_used : Called × Callee → Bool
short_used u = is_short u.0.0 && is_short u.0.1.name && is_short_callee u.1

short_used_as : (u : Used) → is_short_used u ≡ short_used (used_so u)
unfolding is_short_used short_used
short_used_as u = refl

short_entry : Entry → Bool
short_entry e =
    is_short e.name && are_short is_short e.group && are_short is_short e.calls && are_short short_used e.used
    && are_short is_short_export e.result.exports && is_short e.result.lines

short_entry_as : (e : StoredEntry) → is_short_entry e ≡ short_entry (entry_so e)
unfolding is_short_entry short_entry
short_entry_as e =
    ap (λ b. is_short e.name && are_short is_short e.group && are_short is_short e.calls && b && are_short is_short_export e.exports && is_short e.lines)
    (are_short_as is_short_used short_used used_so short_used_as e.used)

short_table_as : (t : Table) → is_short_table t ≡ are_short short_entry (entries_so t)
unfolding is_short_table
short_table_as t = are_short_as is_short_entry short_entry entry_so short_entry_as t.entries

-- and both fit or neither does
pub same_short : (s t : Table) → entries_so s ≡ entries_so t → is_short_table s ≡ is_short_table t
same_short s t e = short_table_as s ∙ ap (are_short short_entry) e ∙ sym (short_table_as t)
