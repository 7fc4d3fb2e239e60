-- What stands behind an entry's name, as it is read.
use Rattle.std.proofs.Common.{◌≡◌, ℕ, ◌<◌, List, ◌++◌, length, refl, sym, ap, ◌∙◌, length-append, arith}
use Rattle.std.specs.List.{list_all}
use Rattle.type_kinds_sets.specs.Names.{Name}
use Rattle.core_ast.specs.declared.syntax.FunName.{FunName}
use Rattle.cons_tree.specs.declared.parts.Summary.{Summary}
use Rattle.table_file.specs.Spelling.{counted, text_bytes, used_bytes, export_bytes}
use Rattle.table_file.specs.declared.reading.entries.Parts.{Parts}
use Rattle.table_file.specs.declared.used.Used.{Used}
use Rattle.table_file.specs.steps.Entries.{parts_spelled, parts_fit}
use Rattle.table_file.specs.steps.Reads.{anything, Found, NoneFirst, Once}
use Rattle.table_file.specs.steps.Tests.{has_short_callee, is_short_export}
use Rattle.table_file.proofs.EntryLaws.{after_digest, after_group, after_calls, after_used, after_exports, parts_are, all_anything, digest_fits, used_fit, exports_fit, parts_from}
use Rattle.table_file.proofs.FieldLaws.{none_here, none_later, behind}
use Rattle.table_file.proofs.OnceLaws.{apart, fields, text_once, counted_once}

-- each field: where it isn't there, and where what is behind it isn't

pub no_digest : (bytes : List ℕ) → length bytes < 32 → NoneFirst parts_fit parts_spelled bytes
no_digest bytes short = record {
  never = λ p rest ok e.
      omega (
        arith,
        digest_fits p ok,
        ap length
            (e ∙ fields (parts_spelled p) p.digest.0 (after_digest p) rest (parts_are p))
            ∙ length-append p.digest.0 (after_digest p ++ rest),
      );
}

pub behind_digest : {bytes after : List ℕ} (digest : List ℕ) → bytes ≡ digest ++ after → length digest ≡ 32
    → NoneFirst parts_fit after_digest after → NoneFirst parts_fit parts_spelled bytes
behind_digest {after = after} digest found whole none = record {
  never = λ p rest ok e.
      let both = apart digest p.digest.0 after (after_digest p ++ rest) (whole ∙ sym (digest_fits p ok))
      (sym found ∙ e ∙ fields (parts_spelled p) p.digest.0 (after_digest p) rest (parts_are p)) in
      none.never p rest ok both.1;
}

pub no_group : {bytes : List ℕ} → NoneFirst (list_all anything) (counted text_bytes) bytes
    → NoneFirst parts_fit after_digest bytes
no_group none = none_here (λ p. p.group) after_group after_digest (λ p ok. all_anything p.group) (λ p. refl) none

pub behind_group : {bytes after : List ℕ} {group : List Name}
    → Found (list_all anything) (counted text_bytes) bytes group after → NoneFirst parts_fit after_group after
    → NoneFirst parts_fit after_digest bytes
behind_group found none =
    none_later (λ p. p.group) after_group after_digest (λ p ok. all_anything p.group) (λ p. refl)
    (counted_once text_once) found none

pub no_calls : {bytes : List ℕ} → NoneFirst (list_all anything) (counted text_bytes) bytes
    → NoneFirst parts_fit after_group bytes
no_calls none = none_here (λ p. p.calls) after_calls after_group (λ p ok. all_anything p.calls) (λ p. refl) none

pub behind_calls : {bytes after : List ℕ} {calls : List Name}
    → Found (list_all anything) (counted text_bytes) bytes calls after → NoneFirst parts_fit after_calls after
    → NoneFirst parts_fit after_group bytes
behind_calls found none =
    none_later (λ p. p.calls) after_calls after_group (λ p ok. all_anything p.calls) (λ p. refl)
    (counted_once text_once) found none

pub no_used : {bytes : List ℕ} → NoneFirst (list_all has_short_callee) (counted used_bytes) bytes
    → NoneFirst parts_fit after_calls bytes
no_used none = none_here (λ p. p.used) after_used after_calls used_fit (λ p. refl) none

pub behind_used : {bytes after : List ℕ} {used : List Used} → Once has_short_callee used_bytes
    → Found (list_all has_short_callee) (counted used_bytes) bytes used after → NoneFirst parts_fit after_used after
    → NoneFirst parts_fit after_calls bytes
behind_used once found none =
    none_later (λ p. p.used) after_used after_calls used_fit (λ p. refl) (counted_once once) found none

pub no_exports : {bytes : List ℕ} → NoneFirst (list_all is_short_export) (counted export_bytes) bytes
    → NoneFirst parts_fit after_used bytes
no_exports none = none_here (λ p. p.exports) after_exports after_used exports_fit (λ p. refl) none

pub behind_exports : {bytes after : List ℕ} {exports : List (FunName × Summary)} → Once is_short_export export_bytes
    → Found (list_all is_short_export) (counted export_bytes) bytes exports after
    → NoneFirst parts_fit after_exports after → NoneFirst parts_fit after_used bytes
behind_exports once found none =
    none_later (λ p. p.exports) after_exports after_used exports_fit (λ p. refl) (counted_once once) found none

pub no_lines : {bytes : List ℕ} → NoneFirst anything text_bytes bytes → NoneFirst parts_fit after_exports bytes
no_lines none = record { never = λ p rest ok e. none.never p.lines rest refl e }

-- all fields

pub parts_found : {bytes b c d e f rest : List ℕ} {group calls : List Name} {used : List Used} {exports : List
    (FunName × Summary)} {lines : List ℕ} (p : Parts)
    → p.group ≡ group → p.calls ≡ calls → p.used ≡ used → p.exports ≡ exports → p.lines ≡ lines
    → bytes ≡ p.digest.0 ++ b → length p.digest.0 ≡ 32 → Found (list_all anything) (counted text_bytes) b group c
    → Found (list_all anything) (counted text_bytes) c calls d
    → Found (list_all has_short_callee) (counted used_bytes) d used e
    → Found (list_all is_short_export) (counted export_bytes) e exports f → Found anything text_bytes f lines rest
    → Found parts_fit parts_spelled bytes p rest
parts_found {bytes = bytes} {b = b} {c = c} {d = d} {e = e} {f = f} {rest =
    rest} p g k u x l digest whole group calls used exports lines = record {
      kept = parts_from p whole (ap (list_all has_short_callee) u ∙ used.kept)
          (ap (list_all is_short_export) x ∙ exports.kept);
      spelled =
          behind bytes p.digest.0 b (after_digest p) rest digest
          (behind b (counted text_bytes p.group) c (after_group p) rest
          (group.spelled ∙ ap (λ w. counted text_bytes w ++ c) (sym g))
          (behind c (counted text_bytes p.calls) d (after_calls p) rest
          (calls.spelled ∙ ap (λ w. counted text_bytes w ++ d) (sym k))
          (behind d (counted used_bytes p.used) e (after_used p) rest
          (used.spelled ∙ ap (λ w. counted used_bytes w ++ e) (sym u))
          (behind e (counted export_bytes p.exports) f (after_exports p) rest
          (exports.spelled ∙ ap (λ w. counted export_bytes w ++ f) (sym x))
          (lines.spelled ∙ ap (λ w. text_bytes w ++ rest) (sym l))))))
          ∙ ap (λ w. w ++ rest) (sym (parts_are p));
    }
