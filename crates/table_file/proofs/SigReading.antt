-- Signatures and summaries, as they are read.
use Rattle.std.proofs.Common.{◌≡◌, ℕ, false, List, ◌∷◌, length, sym, ap, ◌∙◌, true≢false}
use Rattle.std.specs.Prelude.{nat_eq}
use Rattle.std.specs.List.{flat_map, list_all}
use Rattle.std.proofs.lemmas.Bool.{and_from}
use Rattle.type_kinds.proofs.Truths.{first, second}
use Rattle.type_lattice.specs.Types.{Type4}
use Rattle.type_bytes.specs.ShortNames.{has_short_names}
use Rattle.type_bytes.specs.Spelling.{bytes_of}
use Rattle.cons_tree.specs.Signatures.{agree}
use Rattle.cons_tree.specs.declared.parts.Sig.{Sig}
use Rattle.cons_tree.specs.declared.parts.Summary.{Summary}
use Rattle.table_file.specs.Lengths.{is_short_sig, is_short_summary}
use Rattle.table_file.specs.Spelling.{sig_bytes, summary_bytes}
use Rattle.table_file.specs.Stored.{takes}
use Rattle.table_file.specs.steps.Reads.{Found, NoneFirst, Once}
use Rattle.table_file.specs.steps.Tests.{are_types, is_sig, is_summary}
use Rattle.table_file.proofs.FieldLaws.{none_here, none_later, first_field, behind}
use Rattle.table_file.proofs.FunctionLaws.{sig_args, sig_result, sig_parts, summary_strict, summary_lenient, summary_parts, types_once}

-- ---- signatures

pub sig_no_args : (n : ℕ) {bytes : List ℕ} → NoneFirst (are_types n) (flat_map bytes_of) bytes
    → NoneFirst (is_sig n) sig_bytes bytes
sig_no_args n none = none_here (λ s. s.args) (λ s. bytes_of s.result) sig_bytes (sig_args n) sig_parts none

no_result : (n : ℕ) {bytes : List ℕ} → NoneFirst has_short_names bytes_of bytes
    → NoneFirst (is_sig n) (λ s. bytes_of s.result) bytes
no_result n none = record { never = λ s rest ok e. none.never s.result rest (sig_result n s ok) e }

pub sig_no_result : (n : ℕ) {bytes after : List ℕ} {ts : List Type4} → Once has_short_names bytes_of
    → Found (are_types n) (flat_map bytes_of) bytes ts after → NoneFirst has_short_names bytes_of after
    → NoneFirst (is_sig n) sig_bytes bytes
sig_no_result n T found none =
    none_later (λ s. s.args) (λ s. bytes_of s.result) sig_bytes (sig_args n) sig_parts (types_once T n) found
    (no_result n none)

pub sig_disagrees : (n : ℕ) {bytes after rest : List ℕ} {ts : List Type4} {t : Type4} → Once has_short_names bytes_of
    → Found (are_types n) (flat_map bytes_of) bytes ts after → Found has_short_names bytes_of after t rest
    → agree (t ∷ ts) ≡ false → NoneFirst (is_sig n) sig_bytes bytes
sig_disagrees n {after = after} {rest = rest} {ts = ts} {t = t} T args returned no_rule = record {
  never = λ s more ok e.
      let a = first_field (λ s. s.args) (λ s. bytes_of s.result) sig_bytes s more (sig_args n s ok) (sig_parts s)
      (types_once T n) args e in
      let r = T.only t s.result rest more returned.kept (sig_result n s ok) (sym returned.spelled ∙ a.1) in
      true≢false (sym s.agreed ∙ sym (ap (λ us. agree (t ∷ us)) a.0 ∙ ap (λ u. agree (u ∷ s.args)) r.0) ∙ no_rule);
}

pub sig_found : (n : ℕ) {bytes after rest : List ℕ} (s : Sig)
    → Found (are_types n) (flat_map bytes_of) bytes s.args after → Found has_short_names bytes_of after s.result rest
    → Found (is_sig n) sig_bytes bytes s rest
unfolding sig_bytes is_short_sig
sig_found n {bytes = bytes} {after = after} {rest = rest} s args returned = record {
  kept = and_from (is_short_sig s) (nat_eq (length s.args) n)
      (and_from (has_short_names s.result) (list_all has_short_names s.args) returned.kept
      (first (list_all has_short_names s.args) (nat_eq (length s.args) n) args.kept))
      (second (list_all has_short_names s.args) (nat_eq (length s.args) n) args.kept);
  spelled = behind bytes (flat_map bytes_of s.args) after (bytes_of s.result) rest args.spelled returned.spelled;
}

-- ---- summaries

pub summary_no_strict : (n : ℕ) {bytes : List ℕ} → NoneFirst (is_sig n) sig_bytes bytes
    → NoneFirst (is_summary n) summary_bytes bytes
summary_no_strict n none =
    none_here (λ s. s.strict) (λ s. sig_bytes s.lenient) summary_bytes (summary_strict n) summary_parts none

no_lenient : (n : ℕ) {bytes : List ℕ} → NoneFirst (is_sig n) sig_bytes bytes
    → NoneFirst (is_summary n) (λ s. sig_bytes s.lenient) bytes
no_lenient n none = record { never = λ s rest ok e. none.never s.lenient rest (summary_lenient n s ok) e }

pub summary_no_lenient : (n : ℕ) {bytes after : List ℕ} {s : Sig} → Once (is_sig n) sig_bytes
    → Found (is_sig n) sig_bytes bytes s after → NoneFirst (is_sig n) sig_bytes after
    → NoneFirst (is_summary n) summary_bytes bytes
summary_no_lenient n once found none =
    none_later (λ s. s.strict) (λ s. sig_bytes s.lenient) summary_bytes (summary_strict n) summary_parts once found
    (no_lenient n none)

pub summary_found : (n : ℕ) {bytes after rest : List ℕ} (s : Summary)
    → Found (is_sig n) sig_bytes bytes s.strict after → Found (is_sig n) sig_bytes after s.lenient rest
    → Found (is_summary n) summary_bytes bytes s rest
unfolding summary_bytes is_short_summary
summary_found n {bytes = bytes} {after = after} {rest = rest} s strict lenient = record {
  kept = and_from (is_short_summary s) (takes s n)
      (and_from (is_short_sig s.strict) (is_short_sig s.lenient)
      (first (is_short_sig s.strict) (nat_eq (length s.strict.args) n) strict.kept)
      (first (is_short_sig s.lenient) (nat_eq (length s.lenient.args) n) lenient.kept))
      (and_from (nat_eq (length s.strict.args) n) (nat_eq (length s.lenient.args) n)
      (second (is_short_sig s.strict) (nat_eq (length s.strict.args) n) strict.kept)
      (second (is_short_sig s.lenient) (nat_eq (length s.lenient.args) n) lenient.kept));
  spelled = behind bytes (sig_bytes s.strict) after (sig_bytes s.lenient) rest strict.spelled lenient.spelled;
}
