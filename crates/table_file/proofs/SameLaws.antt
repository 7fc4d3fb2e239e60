-- Used functions, entries and tables of the same parts are one.
use Rattle.std.proofs.Common.{◌≡◌, true, length, map}
use Rattle.std.specs.Prelude.{IsTrue}
use Rattle.std.specs.Coded.{Coded-set, coded_bool, coded_ℕ}
use Rattle.std.specs.List.{list_all}
use mathlib.Core.HLevel.{is_prop→PathP}
use Rattle.table_file.specs.Order.{rises, is_name_before, has_name}
use Rattle.table_file.specs.Rules.{is_used_before, is_outside, is_export_before, is_export}
use Rattle.table_file.specs.Stored.{is_stored}
use Rattle.table_file.specs.declared.used.Used.{Used}
use Rattle.table_file.specs.declared.entries.Entry.{Entry}
use Rattle.table_file.specs.declared.tables.Table.{Table}

pub same_used : (u v : Used) → u.home ≡ v.home → u.name ≡ v.name → u.callee ≡ v.callee → u ≡ v
same_used u v h n c = λ i. record {
  home = h i;
  name = n i;
  callee = c i;
  stored = is_prop→PathP (λ j. IsTrue (is_stored (c j) (n j).arity))
      (λ j. Coded-set coded_bool (is_stored (c j) (n j).arity) true) u.stored v.stored i;
}

pub same_entry : (e f : Entry) → e.name ≡ f.name → e.digest ≡ f.digest → e.group ≡ f.group → e.calls ≡ f.calls
    → e.used ≡ f.used → e.exports ≡ f.exports → e.lines ≡ f.lines → e ≡ f
same_entry e f n d g c u x l = λ i. record {
  name = n i;
  digest = d i;
  group = g i;
  calls = c i;
  used = u i;
  exports = x i;
  lines = l i;
  digest_whole = is_prop→PathP (λ j. length (d j).0 ≡ 32)
      (λ j. Coded-set coded_ℕ (length (d j).0) 32) e.digest_whole f.digest_whole i;
  group_rises = is_prop→PathP (λ j. IsTrue (rises is_name_before (g j)))
      (λ j. Coded-set coded_bool (rises is_name_before (g j)) true) e.group_rises f.group_rises i;
  group_has_own = is_prop→PathP (λ j. IsTrue (has_name (g j) (n j)))
      (λ j. Coded-set coded_bool (has_name (g j) (n j)) true) e.group_has_own f.group_has_own i;
  calls_rise = is_prop→PathP (λ j. IsTrue (rises is_name_before (c j)))
      (λ j. Coded-set coded_bool (rises is_name_before (c j)) true) e.calls_rise f.calls_rise i;
  used_rise = is_prop→PathP (λ j. IsTrue (rises is_used_before (u j)))
      (λ j. Coded-set coded_bool (rises is_used_before (u j)) true) e.used_rise f.used_rise i;
  used_outside = is_prop→PathP (λ j. IsTrue (list_all (is_outside (g j) (c j)) (u j)))
      (λ j. Coded-set coded_bool (list_all (is_outside (g j) (c j)) (u j)) true) e.used_outside f.used_outside i;
  exports_rise = is_prop→PathP (λ j. IsTrue (rises is_export_before (x j)))
      (λ j. Coded-set coded_bool (rises is_export_before (x j)) true) e.exports_rise f.exports_rise i;
  exports_fit = is_prop→PathP (λ j. IsTrue (list_all is_export (x j)))
      (λ j. Coded-set coded_bool (list_all is_export (x j)) true) e.exports_fit f.exports_fit i;
}

pub same_table : (s t : Table) → s.entries ≡ t.entries → s ≡ t
same_table s t e = λ i. record {
  entries = e i;
  entries_rise = is_prop→PathP (λ j. IsTrue (rises is_name_before (map (λ d. d.name) (e j))))
      (λ j. Coded-set coded_bool (rises is_name_before (map (λ d. d.name) (e j))) true) s.entries_rise t.entries_rise i;
}
