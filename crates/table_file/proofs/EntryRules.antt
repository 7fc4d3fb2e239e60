-- The rules of an entry, and its order.
use Rattle.std.proofs.Common.{◌≡◌, ℕ, zero, suc, ◌<◌, ◌-◌, Bool, true, false, ◌&&◌, List, [], ◌∷◌, ◌++◌, length, get_or, refl, sym, ap, ◌∙◌, arith, true≢false}
use Rattle.std.specs.List.{list_all}
use Rattle.std.proofs.lemmas.Bool.{and_from}
use Rattle.type_kinds.proofs.Truths.{first, second}
use Rattle.type_kinds_sets.specs.Names.{Name}
use Rattle.core_ast.specs.declared.syntax.FunName.{FunName}
use Rattle.cons_tree.specs.declared.parts.Summary.{Summary}
use Rattle.table_file.specs.Faults.{names_of, rises_on, IsOutOfOrder, IsNoEntry}
use Rattle.table_file.specs.Order.{rises, is_name_before, has_name}
use Rattle.table_file.specs.Rules.{is_used_before, is_outside, is_export_before, is_export}
use Rattle.table_file.specs.Lengths.{has_short_types, is_short_summary}
use Rattle.table_file.specs.Spelling.{text_bytes, entry_bytes}
use Rattle.table_file.specs.declared.entries.Entry.{Entry}
use Rattle.table_file.specs.declared.used.Used.{Used}
use Rattle.table_file.specs.declared.reading.entries.Parts.{Parts}
use Rattle.table_file.specs.steps.Entries.{parts_of, parts_spelled, parts_fit, keeps}
use Rattle.table_file.specs.steps.Reads.{anything, Found, NoneFirst, Once}
use Rattle.table_file.specs.steps.Tests.{is_short_export}
use Rattle.table_file.proofs.EntryLaws.{entry_parts, entry_fits, entry_short, exports_fit}
use Rattle.table_file.proofs.FieldLaws.{none_here, first_field, behind}
use Rattle.table_file.proofs.OnceLaws.{text_once}
use Rattle.table_file.proofs.RiseLaws.{rises_behind}

-- ---- rules

-- the rules one by one
pub record Kept (name : Name) (p : Parts) : Type 0 where
  pub group : rises is_name_before p.group ≡ true
  pub calls : rises is_name_before p.calls ≡ true
  pub own : has_name p.group name ≡ true
  pub used : rises is_used_before p.used ≡ true
  pub outside : list_all (is_outside p.group p.calls) p.used ≡ true
  pub exports : rises is_export_before p.exports ≡ true

pub kept_all : (name : Name) (p : Parts) → Kept name p → keeps name p ≡ true
unfolding keeps
kept_all name p k = and_from _ _
    (and_from _ _ (and_from _ _ (and_from _ _ (and_from _ _ k.group k.calls) k.own) k.used) k.outside) k.exports

pub kept_each : (name : Name) (p : Parts) → keeps name p ≡ true → Kept name p
unfolding keeps
kept_each name p k =
    let k5 = first (rises is_name_before p.group && rises is_name_before p.calls && has_name p.group name && rises is_used_before p.used && list_all (is_outside p.group p.calls) p.used) (rises is_export_before p.exports) k in
    let k4 = first (rises is_name_before p.group && rises is_name_before p.calls && has_name p.group name && rises is_used_before p.used) (list_all (is_outside p.group p.calls) p.used) k5 in
    let k3 = first (rises is_name_before p.group && rises is_name_before p.calls && has_name p.group name)
    (rises is_used_before p.used) k4 in
    let k2 = first (rises is_name_before p.group && rises is_name_before p.calls) (has_name p.group name) k3 in
    record {
      group = first (rises is_name_before p.group) (rises is_name_before p.calls) k2;
      calls = second (rises is_name_before p.group) (rises is_name_before p.calls) k2;
      own = second (rises is_name_before p.group && rises is_name_before p.calls) (has_name p.group name) k3;
      used = second (rises is_name_before p.group && rises is_name_before p.calls && has_name p.group name)
          (rises is_used_before p.used) k4;
      outside = second (rises is_name_before p.group && rises is_name_before p.calls && has_name p.group name && rises is_used_before p.used) (list_all (is_outside p.group p.calls) p.used) k5;
      exports = second (rises is_name_before p.group && rises is_name_before p.calls && has_name p.group name && rises is_used_before p.used && list_all (is_outside p.group p.calls) p.used) (rises is_export_before p.exports) k;
    }

pub broken : (name : Name) (p : Parts) → (Kept name p → ⊥) → keeps name p ≡ false
broken name p not = elim (keeps name p) as (λ b. keeps name p ≡ b → b ≡ false) [
  | true ↦ λ e. absurd (not (kept_each name p e))
  | false ↦ λ e. refl
] refl

pub but_exports : (name : Name) (p : Parts) (b : Bool) → rises is_name_before p.group ≡ true
    → rises is_name_before p.calls ≡ true → has_name p.group name ≡ true → rises is_used_before p.used ≡ true
    → list_all (is_outside p.group p.calls) p.used ≡ true → rises is_export_before p.exports ≡ b → b ≡ keeps name p
unfolding keeps
but_exports name p b g k o u l x = sym x
    ∙ sym (ap (λ t. t && rises is_export_before p.exports) (and_from _ _ (and_from _ _ (and_from _ _ (and_from _ _ g k) o) u) l))

-- what a test found of a list, where the list was passed as a slice
pub tested : {X : Type 0} (test : X → Bool) {x y : X} {r b : Bool} → y ≡ x → r ≡ test y → r ≡ b → test x ≡ b
tested test e f g = sym (ap test e) ∙ sym f ∙ g

pub outside_tested : {g h k l : List Name} {u v : List Used} {r b : Bool} → h ≡ g → l ≡ k → v ≡ u
    → r ≡ list_all (is_outside h l) v → r ≡ b → list_all (is_outside g k) u ≡ b
outside_tested {g = g} {k = k} {l = l} {v = v} p q w e f =
    sym (ap (λ m. list_all (is_outside m l) v) p ∙ ap (λ m. list_all (is_outside g m) v) q
    ∙ ap (list_all (is_outside g k)) w) ∙ sym e ∙ f

-- an entry keeps them
entry_keeps : (e : Entry) → keeps e.name (parts_of e) ≡ true
entry_keeps e = kept_all e.name (parts_of e)
    (record {
      group = e.group_rises;
      calls = e.calls_rise;
      own = e.group_has_own;
      used = e.used_rise;
      outside =
          e.used_outside;
      exports = e.exports_rise;
    })

pub no_entry : (name : Name) (p : Parts) → keeps name p ≡ false → (e : Entry) → e.name ≡ name → parts_of e ≡ p → ⊥
no_entry name p broken e n q =
    true≢false (sym (entry_keeps e) ∙ ap (λ m. keeps m (parts_of e)) n ∙ ap (keeps name) q ∙ broken)

all_exports : (xs : List (FunName × Summary)) → list_all is_short_export xs ≡ true → list_all is_export xs ≡ true
all_exports [] p = refl
all_exports (x ∷ xs) p =
    and_from (is_export x) (list_all is_export xs)
    (first (is_export x) (is_short_summary x.1) (first (is_short_export x) (list_all is_short_export xs) p))
    (all_exports xs (second (is_short_export x) (list_all is_short_export xs) p))

pub exports_kept : (p : Parts) → parts_fit p ≡ true → list_all is_export p.exports ≡ true
exports_kept p ok = all_exports p.exports (exports_fit p ok)

-- ---- order

length_names : (entries : List Entry) → length (names_of entries) ≡ length entries
length_names [] = refl
length_names (e ∷ entries) = ap (λ n. suc n) (length_names entries)

name_at : (entries : List Entry) (i : ℕ) (d : Entry) (m : Name) → i < length entries
    → get_or (names_of entries) i m ≡ (get_or entries i d).name
name_at [] i d m lt = absurd (omega arith)
name_at (e ∷ entries) zero d m lt = refl
name_at (e ∷ entries) (suc i) d m lt = name_at entries i d m (omega arith)

pub follows_last : (entries : List Entry) (name : Name) (last : Entry) → 0 < length entries
    → get_or entries (length entries - 1) last ≡ last → rises is_name_before (names_of entries) ≡ true
    → rises_on entries name ≡ is_name_before last.name name
follows_last entries name last some is up =
    let n = length_names entries in
    rises_behind is_name_before (names_of entries) name name (omega arith) up
    ∙ ap (λ k. is_name_before (get_or (names_of entries) (k - 1) name) name) n
    ∙ ap (λ m. is_name_before m name)
    (name_at entries (length entries - 1) last name (omega arith) ∙ ap (λ e. e.name) is)

-- ---- the entry that stands first

pub no_name : {bytes : List ℕ} → NoneFirst anything text_bytes bytes → IsNoEntry bytes
no_name none e more ok is =
    (none_here {fit = has_short_types} (λ e. e.name) (λ e. parts_spelled (parts_of e)) entry_bytes
    (λ e p. refl) entry_parts none).never e more ok is

pub no_name_in_order : {bytes : List ℕ} (entries : List Entry) → NoneFirst anything text_bytes bytes
    → IsOutOfOrder entries bytes → ⊥
no_name_in_order entries none out = none.never out.0 out.1 refl out.2

pub in_order : {bytes after : List ℕ} {name : Name} (entries : List Entry)
    → Found anything text_bytes bytes name after → rises_on entries name ≡ true → IsOutOfOrder entries bytes → ⊥
in_order {after = after} {name = name} entries found up out =
    let same = text_once.only name out.0 after out.1 refl refl (sym found.spelled ∙ out.2) in
    true≢false (sym up ∙ ap (rises_on entries) same.0 ∙ out.3)

pub no_parts : {bytes after : List ℕ} {name : Name} → Found anything text_bytes bytes name after
    → NoneFirst parts_fit parts_spelled after → IsNoEntry bytes
no_parts {bytes} {after} found none e more ok is =
    let behind_name = first_field (λ e. e.name) (λ e. parts_spelled (parts_of e)) entry_bytes e more refl
    (entry_parts e) text_once found is in
    none.never (parts_of e) more (entry_fits e ok) behind_name.1

pub no_rules : {bytes after rest : List ℕ} {name : Name} {p : Parts} → Once parts_fit parts_spelled
    → Found anything text_bytes bytes name after → Found parts_fit parts_spelled after p rest
    → ((e : Entry) → e.name ≡ name → parts_of e ≡ p → ⊥) → IsNoEntry bytes
no_rules {rest = rest} {p = p} once found parts none e more ok is =
    let behind_name = first_field (λ e. e.name) (λ e. parts_spelled (parts_of e)) entry_bytes e more refl
    (entry_parts e) text_once found is in
    let same = once.only p (parts_of e) rest more parts.kept (entry_fits e ok) (sym parts.spelled ∙ behind_name.1) in
    none e (sym behind_name.0) (sym same.0)

pub entry_found : {bytes after rest : List ℕ} {name : Name} {p : Parts} (e : Entry)
    → Found anything text_bytes bytes name after → Found parts_fit parts_spelled after p rest → e.name ≡ name
    → parts_of e ≡ p
    → Found has_short_types entry_bytes bytes e rest
entry_found {bytes = bytes} {after = after} {rest = rest} e found parts n q = record {
  kept = entry_short e (ap parts_fit q ∙ parts.kept);
  spelled =
      behind bytes (text_bytes e.name) after (parts_spelled (parts_of e)) rest
      (found.spelled ∙ ap (λ m. text_bytes m ++ after) (sym n))
      (parts.spelled ∙ ap (λ w. parts_spelled w ++ rest) (sym q))
      ∙ ap (λ w. w ++ rest) (sym (entry_parts e));
}
