-- Spellings of entries: none begins another, and each is the spelling of one entry.
use Rattle.std.proofs.Common.{◌≡◌, ℕ, true, ◌&&◌, List, [], ◌∷◌, ◌++◌, length, refl, sym, ap, ◌∙◌, append_assoc}
use Rattle.std.specs.Prelude.{nat_eq}
use Rattle.std.specs.List.{list_all}
use Rattle.std.proofs.lemmas.Bool.{eqb-true, eq-eqb, and_from}
use Rattle.type_kinds.proofs.Truths.{first, second}
use Rattle.type_bytes.specs.ShortNames.{has_short_names}
use Rattle.type_bytes.specs.Spelling.{bytes_of}
use Rattle.core_ast.specs.declared.syntax.FunName.{FunName}
use Rattle.cons_tree.specs.declared.parts.Summary.{Summary}
use Rattle.table_file.specs.Lengths.{has_short_types, is_short_summary}
use Rattle.table_file.specs.Rules.{is_export}
use Rattle.table_file.specs.Spelling.{counted, text_bytes, used_bytes, export_bytes, entry_bytes}
use Rattle.table_file.specs.declared.entries.Entry.{Entry}
use Rattle.table_file.specs.declared.reading.entries.Parts.{Parts}
use Rattle.table_file.specs.steps.Entries.{parts_of, parts_spelled, parts_fit}
use Rattle.table_file.specs.steps.Reads.{anything, Once}
use Rattle.table_file.specs.steps.Tests.{has_short_callee, is_short_export}
use Rattle.table_file.proofs.FunctionLaws.{used_once, export_once}
use Rattle.table_file.proofs.OnceLaws.{apart, fields, text_once, counted_once}
use Rattle.table_file.proofs.SameLaws.{same_entry}

-- ---- what stands behind each part

abbrev pub after_exports : Parts → List ℕ
after_exports p = text_bytes p.lines

abbrev pub after_used : Parts → List ℕ
after_used p = counted export_bytes p.exports ++ after_exports p

abbrev pub after_calls : Parts → List ℕ
after_calls p = counted used_bytes p.used ++ after_used p

abbrev pub after_group : Parts → List ℕ
after_group p = counted text_bytes p.calls ++ after_calls p

abbrev pub after_digest : Parts → List ℕ
after_digest p = counted text_bytes p.group ++ after_group p

pub parts_are : (p : Parts) → parts_spelled p ≡ p.digest.0 ++ after_digest p
unfolding parts_spelled
parts_are p = simp append_assoc

pub entry_parts : (e : Entry) → entry_bytes e ≡ text_bytes e.name ++ parts_spelled (parts_of e)
unfolding entry_bytes parts_spelled
entry_parts e = simp append_assoc

-- ---- what the parts are like

pub all_anything : {X : Type 0} (xs : List X) → list_all anything xs ≡ true
all_anything [] = refl
all_anything (x ∷ xs) = all_anything xs

pub digest_fits : (p : Parts) → parts_fit p ≡ true → length p.digest.0 ≡ 32
unfolding parts_fit
digest_fits p ok = eqb-true (length p.digest.0) 32
    (first (nat_eq (length p.digest.0) 32) (list_all has_short_callee p.used && list_all is_short_export p.exports) ok)

pub used_fit : (p : Parts) → parts_fit p ≡ true → list_all has_short_callee p.used ≡ true
unfolding parts_fit
used_fit p ok = first (list_all has_short_callee p.used) (list_all is_short_export p.exports)
    (second (nat_eq (length p.digest.0) 32) (list_all has_short_callee p.used && list_all is_short_export p.exports) ok)

pub exports_fit : (p : Parts) → parts_fit p ≡ true → list_all is_short_export p.exports ≡ true
unfolding parts_fit
exports_fit p ok = second (list_all has_short_callee p.used) (list_all is_short_export p.exports)
    (second (nat_eq (length p.digest.0) 32) (list_all has_short_callee p.used && list_all is_short_export p.exports) ok)

pub parts_from : (p : Parts) → length p.digest.0 ≡ 32 → list_all has_short_callee p.used ≡ true
    → list_all is_short_export p.exports ≡ true → parts_fit p ≡ true
unfolding parts_fit
parts_from p d u x =
    and_from (nat_eq (length p.digest.0) 32) (list_all has_short_callee p.used && list_all is_short_export p.exports)
    (eq-eqb (length p.digest.0) 32 d)
    (and_from (list_all has_short_callee p.used) (list_all is_short_export p.exports) u x)

all_both : (xs : List (FunName × Summary)) → list_all is_export xs ≡ true
    → list_all (λ x. is_short_summary x.1) xs ≡ true → list_all is_short_export xs ≡ true
all_both [] p q = refl
all_both (x ∷ xs) p q =
    and_from (is_short_export x) (list_all is_short_export xs)
    (and_from (is_export x) (is_short_summary x.1) (first (is_export x) (list_all is_export xs) p)
    (first (is_short_summary x.1) (list_all (λ y. is_short_summary y.1) xs) q))
    (all_both xs (second (is_export x) (list_all is_export xs) p)
    (second (is_short_summary x.1) (list_all (λ y. is_short_summary y.1) xs) q))

all_second : (xs : List (FunName × Summary)) → list_all is_short_export xs ≡ true
    → list_all (λ x. is_short_summary x.1) xs ≡ true
all_second [] p = refl
all_second (x ∷ xs) p =
    and_from (is_short_summary x.1) (list_all (λ y. is_short_summary y.1) xs)
    (second (is_export x) (is_short_summary x.1) (first (is_short_export x) (list_all is_short_export xs) p))
    (all_second xs (second (is_short_export x) (list_all is_short_export xs) p))

pub entry_fits : (e : Entry) → has_short_types e ≡ true → parts_fit (parts_of e) ≡ true
unfolding has_short_types
entry_fits e ok =
    parts_from (parts_of e) e.digest_whole
    (first (list_all has_short_callee e.used) (list_all (λ x. is_short_summary x.1) e.exports) ok)
    (all_both e.exports e.exports_fit
    (second (list_all has_short_callee e.used) (list_all (λ x. is_short_summary x.1) e.exports) ok))

pub entry_short : (e : Entry) → parts_fit (parts_of e) ≡ true → has_short_types e ≡ true
unfolding has_short_types
entry_short e ok =
    and_from (list_all has_short_callee e.used) (list_all (λ x. is_short_summary x.1) e.exports)
    (used_fit (parts_of e) ok) (all_second e.exports (exports_fit (parts_of e) ok))

-- ---- each once

module _ (T : Once has_short_names bytes_of) where
  pub parts_once : Once parts_fit parts_spelled
  parts_once = record {
    only = λ p q a b f g e.
        let digest = apart p.digest.0 q.digest.0 (after_digest p ++ a) (after_digest q ++ b)
        (digest_fits p f ∙ sym (digest_fits q g))
        (sym (fields (parts_spelled p) p.digest.0 (after_digest p) a (parts_are p)) ∙ e
        ∙ fields (parts_spelled q) q.digest.0 (after_digest q) b (parts_are q)) in
        let group = (counted_once text_once).only p.group q.group (after_group p ++ a) (after_group q ++ b)
        (all_anything p.group) (all_anything q.group)
        (sym (append_assoc (counted text_bytes p.group) (after_group p) a) ∙ digest.1
        ∙ append_assoc (counted text_bytes q.group) (after_group q) b) in
        let calls = (counted_once text_once).only p.calls q.calls (after_calls p ++ a) (after_calls q ++ b)
        (all_anything p.calls) (all_anything q.calls)
        (sym (append_assoc (counted text_bytes p.calls) (after_calls p) a) ∙ group.1
        ∙ append_assoc (counted text_bytes q.calls) (after_calls q) b) in
        let used = (counted_once (used_once T)).only p.used q.used (after_used p ++ a) (after_used q ++ b)
        (used_fit p f) (used_fit q g)
        (sym (append_assoc (counted used_bytes p.used) (after_used p) a) ∙ calls.1
        ∙ append_assoc (counted used_bytes q.used) (after_used q) b) in
        let exports = (counted_once (export_once T)).only p.exports q.exports (after_exports p ++ a)
        (after_exports q ++ b) (exports_fit p f) (exports_fit q g)
        (sym (append_assoc (counted export_bytes p.exports) (after_exports p) a) ∙ used.1
        ∙ append_assoc (counted export_bytes q.exports) (after_exports q) b) in
        let lines = text_once.only p.lines q.lines a b refl refl exports.1 in (
          (λ i. record {
            digest = record { 0 = digest.0 i };
            group = group.0 i;
            calls = calls.0 i;
            used =
                used.0 i;
            exports = exports.0 i;
            lines = lines.0 i;
          }),
          lines.1,
        );
  }

  pub entry_once : Once has_short_types entry_bytes
  entry_once = record {
    only = λ d e a b p q is.
        let name = text_once.only d.name e.name (parts_spelled (parts_of d) ++ a)
        (parts_spelled (parts_of e) ++ b) refl refl
        (sym (fields (entry_bytes d) (text_bytes d.name) (parts_spelled (parts_of d)) a (entry_parts d)) ∙ is
        ∙ fields (entry_bytes e) (text_bytes e.name) (parts_spelled (parts_of e)) b (entry_parts e)) in
        let parts = parts_once.only (parts_of d) (parts_of e) a b (entry_fits d p) (entry_fits e q) name.1 in (
          same_entry d e name.0 (ap (λ p. p.digest) parts.0) (ap (λ p. p.group) parts.0) (ap (λ p. p.calls) parts.0)
              (ap (λ p. p.used) parts.0) (ap (λ p. p.exports) parts.0) (ap (λ p. p.lines) parts.0),
          parts.1,
        );
  }
