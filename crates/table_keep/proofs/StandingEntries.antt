-- Whether the entries of a group stand, step by step.
use Rattle.std.proofs.Common.{◌≡◌, ℕ, ◌+◌, ◌<◌, ◌≤◌, Bool, true, false, ◌&&◌, ◌↔◌, IsTrue, List, Option, Some, length, map, drop, slice_get, get_or, refl, sym, ap, ◌∙◌, true≢false}
use Rattle.std.specs.Cmp.Lexicographic.{bytes_decides, pointwise}
use Rattle.std.proofs.lemmas.List.{drop_all}
use Rattle.type_kinds.specs.declared.atom.Atom.{Atom}
use Rattle.type_kinds.proofs.Lists.{drop_next}
use Rattle.type_kinds.proofs.Truths.{granted, refuted, same_tests}
use Rattle.core_scope.specs.Names.{same_atom}
use Rattle.cons_tree.specs.Callees.{as_called}
use Rattle.cons_tree.specs.Codes.{callee_code}
use Rattle.cons_tree.specs.SameBy.{same_by, same_by_told}
use Rattle.cons_tree.specs.declared.parts.Callee.{Callee}
use Rattle.cons_tree.specs.declared.parts.Callee.TheVariants.{Known, Local, Undefined, Unknown}
use Rattle.cons_tree.specs.declared.parts.Summary.{Summary}
use Rattle.table_file.specs.declared.entries.Entry.{Entry as StoredEntry}
use Rattle.table_file.specs.declared.tables.Table.{Table}
use Rattle.table_file.specs.declared.used.Used.{Used}
use Rattle.table_keep.specs.declared.group_list.GroupMember.{GroupMember}
use Rattle.table_keep.specs.Kept.{Standing, all_stand, all_unchanged, entry_stands}
use Rattle.table_keep.specs.Lists.{found_at, member_names}
use Rattle.table_keep.specs.Model.{Entry, Source, entries_so, entry_of, entry_so, source_of, used_so}
use Rattle.table_keep.proofs.StandingNames.{named_at}

-- ---- a test of all items, item by item

pub passed : (whole here test rest : Bool) → whole ≡ here → here ≡ (test && rest) → test ≡ true → whole ≡ rest
passed whole here test rest kept next told = kept ∙ next ∙ ap (λ b. b && rest) told

pub failed : (whole here test rest : Bool) → whole ≡ here → here ≡ (test && rest) → test ≡ false → false ≡ whole
failed whole here test rest kept next told = sym (kept ∙ next ∙ ap (λ b. b && rest) told)

pub used_next : (K : Standing) (us : List Used) (i : ℕ) (u : Used) → i < length us → u ≡ get_or us i u
    → all_stand K (map used_so (drop i us)) ≡ (same_by callee_code u.callee (K u.home u.name) && all_stand K (map used_so (drop (i + 1) us)))
used_next K us i u low is = ap (λ l. all_stand K (map used_so l)) (drop_next us i u low is)

pub used_end : (K : Standing) (us : List Used) (i : ℕ) → length us ≤ i → all_stand K (map used_so (drop i us)) ≡ true
used_end K us i past = ap (λ l. all_stand K (map used_so l)) (drop_all i us past)

pub member_next : (T : List Entry) (M : List Source) (G : List Atom) (K : Standing) (ms : List GroupMember) (i : ℕ) (m : GroupMember) → i < length ms → m ≡ get_or ms i m
    → all_unchanged T M G K (member_names (drop i ms)) ≡ (entry_stands G K (source_of M m.name) (entry_of T m.name) && all_unchanged T M G K (member_names (drop (i + 1) ms)))
member_next T M G K ms i m low is = ap (λ l. all_unchanged T M G K (member_names l)) (drop_next ms i m low is)

pub member_end : (T : List Entry) (M : List Source) (G : List Atom) (K : Standing) (ms : List GroupMember) (i : ℕ) → length ms ≤ i → all_unchanged T M G K (member_names (drop i ms)) ≡ true
member_end T M G K ms i past = ap (λ l. all_unchanged T M G K (member_names l)) (drop_all i ms past)

-- ---- names, one by one

pub name_next : (names : List Atom) (ms : List GroupMember) (i : ℕ) (x : Atom) (m : GroupMember) → i < length names → x ≡ get_or names i x → i < length ms → m ≡ get_or ms i m
    → pointwise same_atom (drop i names) (member_names (drop i ms)) ≡ (same_atom x m.name && pointwise same_atom (drop (i + 1) names) (member_names (drop (i + 1) ms)))
name_next names ms i x m low is within so = λ j. pointwise same_atom (drop_next names i x low is j) (member_names (drop_next ms i m within so j))

pub name_end : (names : List Atom) (ms : List GroupMember) (i : ℕ) → length names ≤ i → length ms ≤ i → pointwise same_atom (drop i names) (member_names (drop i ms)) ≡ true
name_end names ms i past over = λ j. pointwise same_atom (drop_all i names past j) (member_names (drop_all i ms over j))

-- ---- one entry

-- what a test of two names has told
pub name_told : (a b : Atom) (told : Bool) → (IsTrue told ↔ (a ≡ b)) → told ≡ same_atom a b
name_told a b told is = same_tests told (same_atom a b) (λ t. (bytes_decides a b).1 (is.0 t)) (λ t. is.1 ((bytes_decides a b).0 t))

pub member_told : (G : List Atom) (K : Standing) (told : Bool) (s t : Option Source) (e f : Option Entry) → told ≡ entry_stands G K t f → s ≡ t → e ≡ f → told ≡ entry_stands G K s e
member_told G K told s t e f is source entry = is ∙ (λ j. entry_stands G K (sym source j) (sym entry j))

-- the entry that is found at a position
pub entry_found : (table : Table) (p : Option ℕ) (at : ℕ) (e : StoredEntry) (found : Option Entry) → found ≡ found_at (entries_so table) p → p ≡ Some at → slice_get table.entries at ≡ Some e → found ≡ Some (entry_so e)
entry_found table p at e found is here there = is ∙ ap (found_at (entries_so table)) here ∙ named_at entry_so table.entries at e there

-- ---- what stands of a function

pub undefined_told : (c : Callee) → c ≡ Undefined → true ≡ same_by callee_code c Undefined
undefined_told c is = same_by_told callee_code c Undefined true (granted is)

pub other_told : (c : Callee) → (c ≡ Undefined → ⊥) → false ≡ same_by callee_code c Undefined
other_told c never = same_by_told callee_code c Undefined false (refuted never)

pub as_other : (c : Callee) → ((s : Summary) → c ≡ Local s → ⊥) → as_called c ≡ c
as_other (Known s) never = refl
as_other (Local s) never = absurd (never s refl)
as_other Undefined never = refl
as_other Unknown never = refl

-- ---- two tests and a third

pub two_fail : (a b c : Bool) → (a && b) ≡ false → false ≡ (a && (b && c))
two_fail true true c e = absurd (true≢false e)
two_fail true false c e = refl
two_fail false b c e = refl

pub two_hold : (a b c : Bool) → (a && b) ≡ true → c ≡ (a && (b && c))
two_hold true true c e = refl
two_hold true false c e = absurd (true≢false (sym e))
two_hold false b c e = absurd (true≢false (sym e))
