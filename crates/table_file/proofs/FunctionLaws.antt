-- Spellings of what stands of functions: none begins another, and each is the spelling of one value.
use Rattle.std.proofs.Common.{◌≡◌, ℕ, true, List, ◌∷◌, ◌++◌, length, refl, sym, ap, ◌∙◌, append_assoc, true≢false}
use Rattle.std.specs.Prelude.{nat_eq, nat_lt}
use Rattle.std.specs.List.{flat_map, list_all}
use Rattle.std.proofs.lemmas.Bool.{eqb-true, and_from}
use Rattle.cons_tree.proofs.Copied.{same_signature}
use Rattle.type_kinds.proofs.Truths.{first, second}
use Rattle.type_bytes.specs.ShortNames.{has_short_names}
use Rattle.type_bytes.specs.Spelling.{bytes_of}
use Rattle.core_ast.specs.declared.syntax.FunName.{FunName}
use Rattle.cons_tree.specs.declared.parts.Sig.{Sig}
use Rattle.cons_tree.specs.declared.parts.Summary.{Summary}
use Rattle.cons_tree.specs.declared.parts.Callee.{Callee}
use Rattle.cons_tree.specs.declared.parts.Callee.TheVariants.{Known, Local, Undefined, Unknown}
use Rattle.table_file.specs.Lengths.{is_short_sig, is_short_summary, is_short_callee}
use Rattle.table_file.specs.Rules.{is_export}
use Rattle.table_file.specs.Spelling.{four_bytes, text_bytes, sig_bytes, summary_bytes, callee_bytes, used_bytes, export_bytes}
use Rattle.table_file.specs.Stored.{takes, is_stored}
use Rattle.table_file.specs.declared.used.Used.{Used}
use Rattle.table_file.specs.steps.Reads.{Once}
use Rattle.table_file.specs.steps.Tests.{are_types, is_sig, is_summary, is_callee, has_short_callee, is_short_export}
use Rattle.table_file.proofs.OnceLaws.{fields, four_once, text_once, flat_once}
use Rattle.table_file.proofs.SameLaws.{same_used}

-- ---- signatures

pub sig_args : (n : ℕ) (s : Sig) → is_sig n s ≡ true → are_types n s.args ≡ true
unfolding is_short_sig
sig_args n s ok =
    let short = first (is_short_sig s) (nat_eq (length s.args) n) ok in
    and_from (list_all has_short_names s.args) (nat_eq (length s.args) n)
    (second (has_short_names s.result) (list_all has_short_names s.args) short)
    (second (is_short_sig s) (nat_eq (length s.args) n) ok)

pub sig_result : (n : ℕ) (s : Sig) → is_sig n s ≡ true → has_short_names s.result ≡ true
unfolding is_short_sig
sig_result n s ok = first (has_short_names s.result) (list_all has_short_names s.args)
    (first (is_short_sig s) (nat_eq (length s.args) n) ok)

pub sig_parts : (s : Sig) → sig_bytes s ≡ flat_map bytes_of s.args ++ bytes_of s.result
unfolding sig_bytes
sig_parts s = refl

pub summary_strict : (n : ℕ) (s : Summary) → is_summary n s ≡ true → is_sig n s.strict ≡ true
unfolding is_short_summary
summary_strict n s ok =
    and_from (is_short_sig s.strict) (nat_eq (length s.strict.args) n)
    (first (is_short_sig s.strict) (is_short_sig s.lenient) (first (is_short_summary s) (takes s n) ok))
    (first (nat_eq (length s.strict.args) n) (nat_eq (length s.lenient.args) n)
    (second (is_short_summary s) (takes s n) ok))

pub summary_lenient : (n : ℕ) (s : Summary) → is_summary n s ≡ true → is_sig n s.lenient ≡ true
unfolding is_short_summary
summary_lenient n s ok =
    and_from (is_short_sig s.lenient) (nat_eq (length s.lenient.args) n)
    (second (is_short_sig s.strict) (is_short_sig s.lenient) (first (is_short_summary s) (takes s n) ok))
    (second (nat_eq (length s.strict.args) n) (nat_eq (length s.lenient.args) n)
    (second (is_short_summary s) (takes s n) ok))

pub summary_parts : (s : Summary) → summary_bytes s ≡ sig_bytes s.strict ++ sig_bytes s.lenient
unfolding summary_bytes
summary_parts s = refl

pub known_summary : (n : ℕ) (s : Summary) → is_callee n (Known s) ≡ true → is_summary n s ≡ true
unfolding is_short_callee
known_summary n s ok = ok

pub local_not : (n : ℕ) (s : Summary) → is_callee n (Local s) ≡ true → ⊥
unfolding is_short_callee
local_not n s ok = true≢false (sym ok)

-- ---- the parts of used functions and of exports

abbrev pub after_name : Used → List ℕ
after_name u = four_bytes u.name.arity ++ callee_bytes u.callee

abbrev pub after_home : Used → List ℕ
after_home u = text_bytes u.name.name ++ after_name u

pub used_parts : (u : Used) → used_bytes u ≡ text_bytes u.home ++ after_home u
unfolding used_bytes
used_parts u = simp append_assoc

pub export_parts : (x : FunName × Summary) → export_bytes x ≡ text_bytes x.0.name ++ (x.0.arity ∷ summary_bytes x.1)
unfolding export_bytes
export_parts x = refl

pub used_callee : (u : Used) → has_short_callee u ≡ true → is_callee u.name.arity u.callee ≡ true
used_callee u ok = and_from (is_short_callee u.callee) (is_stored u.callee u.name.arity) ok u.stored

pub export_summary : (x : FunName × Summary) → is_short_export x ≡ true → is_summary x.0.arity x.1 ≡ true
export_summary x ok =
    and_from (is_short_summary x.1) (takes x.1 x.0.arity) (second (is_export x) (is_short_summary x.1) ok)
    (second (nat_lt x.0.arity 256) (takes x.1 x.0.arity) (first (is_export x) (is_short_summary x.1) ok))

-- ---- each once

module _ (T : Once has_short_names bytes_of) where
  pub types_once : (n : ℕ) → Once (are_types n) (flat_map bytes_of)
  types_once n = record {
    only = λ ss ts a b p q e.
        let m : length ss ≡ n =
        eqb-true (length ss) n (second (list_all has_short_names ss) (nat_eq (length ss) n) p) in
        let k : length ts ≡ n =
        eqb-true (length ts) n (second (list_all has_short_names ts) (nat_eq (length ts) n) q) in
        flat_once T ss ts a b (m ∙ sym k) (first (list_all has_short_names ss) (nat_eq (length ss) n) p)
        (first (list_all has_short_names ts) (nat_eq (length ts) n) q) e;
  }

  pub sig_once : (n : ℕ) → Once (is_sig n) sig_bytes
  sig_once n = record {
    only = λ s t a b p q e.
        let args = (types_once n).only s.args t.args (bytes_of s.result ++ a) (bytes_of t.result ++ b)
        (sig_args n s p) (sig_args n t q)
        (sym (append_assoc (flat_map bytes_of s.args) (bytes_of s.result) a)
        ∙ ap (λ w. w ++ a) (sym (sig_parts s)) ∙ e ∙ ap (λ w. w ++ b) (sig_parts t)
        ∙ append_assoc (flat_map bytes_of t.args) (bytes_of t.result) b) in
        let returned = T.only s.result t.result a b (sig_result n s p) (sig_result n t q) args.1 in
        (same_signature s t args.0 returned.0, returned.1);
  }

  pub summary_once : (n : ℕ) → Once (is_summary n) summary_bytes
  summary_once n = record {
    only = λ s t a b p q e.
        let strict = (sig_once n).only s.strict t.strict (sig_bytes s.lenient ++ a) (sig_bytes t.lenient ++ b)
        (summary_strict n s p) (summary_strict n t q)
        (sym (append_assoc (sig_bytes s.strict) (sig_bytes s.lenient) a)
        ∙ ap (λ w. w ++ a) (sym (summary_parts s)) ∙ e ∙ ap (λ w. w ++ b) (summary_parts t)
        ∙ append_assoc (sig_bytes t.strict) (sig_bytes t.lenient) b) in
        let lenient = (sig_once n).only s.lenient t.lenient a b (summary_lenient n s p)
        (summary_lenient n t q) strict.1 in
        (λ i. record { strict = strict.0 i; lenient = lenient.0 i }, lenient.1);
  }

  known_apart : (n : ℕ) (s t : Summary) (a b : List ℕ) → is_callee n (Known s) ≡ true → is_callee n (Known t) ≡ true
      → callee_bytes (Known s) ++ a ≡ callee_bytes (Known t) ++ b → (Known s ≡ Known t) × (a ≡ b)
  unfolding callee_bytes
  known_apart n s t a b p q e =
      let tails : summary_bytes s ++ a ≡ summary_bytes t ++ b = cc in
      let same = (summary_once n).only s t a b (known_summary n s p) (known_summary n t q) tails in
      (ap (λ x. Known x) same.0, same.1)

  callee_apart : (n : ℕ) (c d : Callee) (a b : List ℕ) → is_callee n c ≡ true → is_callee n d ≡ true
      → callee_bytes c ++ a ≡ callee_bytes d ++ b → (c ≡ d) × (a ≡ b)
  unfolding callee_bytes
  callee_apart n (Known s) (Known t) a b p q e = known_apart n s t a b p q e
  callee_apart n (Known s) (Local t) a b p q e = absurd (local_not n t q)
  callee_apart n (Known s) Undefined a b p q e = absurd cc
  callee_apart n (Known s) Unknown a b p q e = absurd cc
  callee_apart n (Local s) d a b p q e = absurd (local_not n s p)
  callee_apart n Undefined (Known t) a b p q e = absurd cc
  callee_apart n Undefined (Local t) a b p q e = absurd (local_not n t q)
  callee_apart n Undefined Undefined a b p q e = (refl, cc)
  callee_apart n Undefined Unknown a b p q e = absurd cc
  callee_apart n Unknown (Known t) a b p q e = absurd cc
  callee_apart n Unknown (Local t) a b p q e = absurd (local_not n t q)
  callee_apart n Unknown Undefined a b p q e = absurd cc
  callee_apart n Unknown Unknown a b p q e = (refl, cc)

  pub callee_once : (n : ℕ) → Once (is_callee n) callee_bytes
  callee_once n = record { only = λ c d a b p q e. callee_apart n c d a b p q e }

  pub used_once : Once has_short_callee used_bytes
  used_once = record {
    only = λ u v a b p q e.
        let home = text_once.only u.home v.home (after_home u ++ a) (after_home v ++ b) refl refl
        (sym (fields (used_bytes u) (text_bytes u.home) (after_home u) a (used_parts u)) ∙ e
        ∙ fields (used_bytes v) (text_bytes v.home) (after_home v) b (used_parts v)) in
        let name = text_once.only u.name.name v.name.name (after_name u ++ a) (after_name v ++ b) refl refl
        (sym (append_assoc (text_bytes u.name.name) (after_name u) a) ∙ home.1
        ∙ append_assoc (text_bytes v.name.name) (after_name v) b) in
        let arity = four_once.only u.name.arity v.name.arity (callee_bytes u.callee ++ a)
        (callee_bytes v.callee ++ b) refl refl
        (sym (append_assoc (four_bytes u.name.arity) (callee_bytes u.callee) a) ∙ name.1
        ∙ append_assoc (four_bytes v.name.arity) (callee_bytes v.callee) b) in
        let other : is_callee u.name.arity v.callee ≡ true = ap (λ n. is_callee n v.callee) arity.0 ∙ used_callee v q in
        let callee = (callee_once u.name.arity).only u.callee v.callee a b (used_callee u p) other arity.1 in
        (same_used u v home.0 (λ i. record { name = name.0 i; arity = arity.0 i }) callee.0, callee.1);
  }

  pub export_once : Once is_short_export export_bytes
  export_once = record {
    only = λ x y a b p q e.
        let name = text_once.only x.0.name y.0.name ((x.0.arity ∷ summary_bytes x.1) ++ a)
        ((y.0.arity ∷ summary_bytes y.1) ++ b) refl refl
        (sym (fields (export_bytes x) (text_bytes x.0.name) (x.0.arity ∷ summary_bytes x.1) a (export_parts x))
        ∙ e ∙ fields (export_bytes y) (text_bytes y.0.name) (y.0.arity ∷ summary_bytes y.1) b (export_parts y)) in
        let behind_name : x.0.arity ∷ (summary_bytes x.1 ++ a) ≡ y.0.arity ∷ (summary_bytes y.1 ++ b) = name.1 in
        let arity : x.0.arity ≡ y.0.arity = cc in
        let tails : summary_bytes x.1 ++ a ≡ summary_bytes y.1 ++ b = cc in
        let other : is_summary x.0.arity y.1 ≡ true = ap (λ n. is_summary n y.1) arity ∙ export_summary y q in
        let summary = (summary_once x.0.arity).only x.1 y.1 a b (export_summary x p) other tails in
        ((λ i. (record { name = name.0 i; arity = arity i }, summary.0 i)), summary.1);
  }
