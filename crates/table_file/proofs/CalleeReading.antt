-- What stands of used functions, used functions and exports, as they are read.
use Rattle.std.proofs.Common.{◌≡◌, ℕ, true, List, [], ◌∷◌, ◌++◌, ◌<◌, length, refl, sym, ap, ◌∙◌, arith}
use Rattle.std.specs.Prelude.{nat_lt}
use Rattle.std.proofs.lemmas.Bool.{lt-ltb, and_from}
use Rattle.std.proofs.lemmas.List.{nil_from_length}
use Rattle.type_kinds.proofs.Truths.{first, second}
use Rattle.type_kinds_sets.specs.Names.{Name}
use Rattle.core_ast.specs.declared.syntax.FunName.{FunName}
use Rattle.cons_tree.specs.declared.parts.Summary.{Summary}
use Rattle.cons_tree.specs.declared.parts.Callee.{Callee}
use Rattle.cons_tree.specs.declared.parts.Callee.TheVariants.{Known, Local, Undefined, Unknown}
use Rattle.table_file.specs.Lengths.{is_short_summary, is_short_callee}
use Rattle.table_file.specs.Rules.{is_export}
use Rattle.table_file.specs.Spelling.{four_bytes, text_bytes, summary_bytes, callee_bytes, used_bytes, export_bytes}
use Rattle.table_file.specs.Stored.{takes, is_stored}
use Rattle.table_file.specs.declared.used.Used.{Used}
use Rattle.table_file.specs.steps.Reads.{anything, Found, NoneFirst}
use Rattle.table_file.specs.steps.Tests.{is_summary, is_callee, has_short_callee, is_short_export}
use Rattle.table_file.proofs.FieldLaws.{none_here, none_later, first_field, behind}
use Rattle.table_file.proofs.FunctionLaws.{known_summary, local_not, after_name, after_home, used_parts, used_callee, export_parts, export_summary}
use Rattle.table_file.proofs.OnceLaws.{four_once, text_once}

-- ---- what stands of a used function

known_not : (n : ℕ) (bytes : List ℕ) → NoneFirst (is_summary n) summary_bytes bytes → (c : Callee) (rest : List ℕ)
    → is_callee n c ≡ true → 2 ∷ bytes ≡ callee_bytes c ++ rest → ⊥
unfolding callee_bytes
known_not n bytes none Undefined rest ok e = absurd cc
known_not n bytes none Unknown rest ok e = absurd cc
known_not n bytes none (Local s) rest ok e = local_not n s ok
known_not n bytes none (Known s) rest ok e =
    let tails : bytes ≡ summary_bytes s ++ rest = cc in
    none.never s rest (known_summary n s ok) tails

pub known_none : (n : ℕ) (bytes : List ℕ) → NoneFirst (is_summary n) summary_bytes bytes
    → NoneFirst (is_callee n) callee_bytes (2 ∷ bytes)
known_none n bytes none = record { never = known_not n bytes none }

pub known_found : (n : ℕ) (bytes : List ℕ) {s : Summary} {rest : List ℕ}
    → Found (is_summary n) summary_bytes bytes s rest → Found (is_callee n) callee_bytes (2 ∷ bytes) (Known s) rest
unfolding callee_bytes is_short_callee
known_found n bytes found = record { kept = found.kept; spelled = ap (λ w. 2 ∷ w) found.spelled }

pub undefined_found : (n : ℕ) {bytes : List ℕ} (tag : ℕ) {rest : List ℕ} → bytes ≡ tag ∷ rest → tag ≡ 0
    → Found (is_callee n) callee_bytes bytes Undefined rest
unfolding callee_bytes is_short_callee
undefined_found n tag {rest = rest} e is = record { kept = refl; spelled = e ∙ ap (λ b. b ∷ rest) is }

pub unknown_found : (n : ℕ) {bytes : List ℕ} (tag : ℕ) {rest : List ℕ} → bytes ≡ tag ∷ rest → tag ≡ 1
    → Found (is_callee n) callee_bytes bytes Unknown rest
unfolding callee_bytes is_short_callee
unknown_found n tag {rest = rest} e is = record { kept = refl; spelled = e ∙ ap (λ b. b ∷ rest) is }

empty_not : (n : ℕ) (c : Callee) (rest : List ℕ) → is_callee n c ≡ true → [] ≡ callee_bytes c ++ rest → ⊥
unfolding callee_bytes
empty_not n Undefined rest ok e = absurd cc
empty_not n Unknown rest ok e = absurd cc
empty_not n (Local s) rest ok e = local_not n s ok
empty_not n (Known s) rest ok e = absurd cc

pub no_tag : (n : ℕ) (bytes : List ℕ) → length bytes ≡ 0 → NoneFirst (is_callee n) callee_bytes bytes
no_tag n bytes is = record { never = λ c rest ok e. empty_not n c rest ok (sym (nil_from_length bytes is) ∙ e) }

other_not : (n : ℕ) (tag : ℕ) (after : List ℕ) → 2 < tag → (c : Callee) (rest : List ℕ) → is_callee n c ≡ true
    → tag ∷ after ≡ callee_bytes c ++ rest → ⊥
unfolding callee_bytes
other_not n tag after big Undefined rest ok e = let is : tag ≡ 0 = cc in omega arith
other_not n tag after big Unknown rest ok e = let is : tag ≡ 1 = cc in omega arith
other_not n tag after big (Local s) rest ok e = local_not n s ok
other_not n tag after big (Known s) rest ok e = let is : tag ≡ 2 = cc in omega arith

pub other_tag : (n : ℕ) {bytes : List ℕ} (tag : ℕ) {after : List ℕ} → bytes ≡ tag ∷ after → 2 < tag
    → NoneFirst (is_callee n) callee_bytes bytes
other_tag n tag {after = after} is big =
    record { never = λ c rest ok e. other_not n tag after big c rest ok (sym is ∙ e) }

-- ---- used functions

pub used_no_home : {bytes : List ℕ} → NoneFirst anything text_bytes bytes → NoneFirst has_short_callee used_bytes bytes
used_no_home none = none_here (λ u. u.home) after_home used_bytes (λ u ok. refl) used_parts none

pub used_no_name : {bytes after : List ℕ} {home : Name} → Found anything text_bytes bytes home after → NoneFirst anything text_bytes after → NoneFirst has_short_callee used_bytes bytes
used_no_name found none =
    none_later (λ u. u.home) after_home used_bytes (λ u ok. refl) used_parts text_once found
    (none_here (λ u. u.name.name) after_name after_home (λ u ok. refl) (λ u. refl) none)

pub used_no_arity : {bytes b c : List ℕ} {home name : Name} → Found anything text_bytes bytes home b → Found anything text_bytes b name c → NoneFirst anything four_bytes c → NoneFirst has_short_callee used_bytes bytes
used_no_arity f g none =
    none_later (λ u. u.home) after_home used_bytes (λ u ok. refl) used_parts text_once f
    (none_later (λ u. u.name.name) after_name after_home (λ u ok. refl) (λ u. refl) text_once g
    (none_here (λ u. u.name.arity) (λ u. callee_bytes u.callee) after_name (λ u ok. refl) (λ u. refl) none))

pub used_no_callee : {bytes b c d : List ℕ} {home name : Name} {n : ℕ}
    → Found anything text_bytes bytes home b → Found anything text_bytes b name c → Found anything four_bytes c n d
    → NoneFirst (is_callee n) callee_bytes d → NoneFirst has_short_callee used_bytes bytes
used_no_callee f g h none = record {
  never = λ u rest ok e.
      let home = first_field (λ u. u.home) after_home used_bytes u rest refl (used_parts u) text_once f e in
      let name = first_field (λ u. u.name.name) after_name after_home u rest refl refl text_once g home.1 in
      let arity = first_field (λ u. u.name.arity)
      (λ u. callee_bytes u.callee) after_name u rest refl refl four_once h name.1 in
      none.never u.callee rest (ap (λ k. is_callee k u.callee) arity.0 ∙ used_callee u ok) arity.1;
}

pub used_found : {bytes b c d rest : List ℕ} (u : Used)
    → Found anything text_bytes bytes u.home b → Found anything text_bytes b u.name.name c
    → Found anything four_bytes c u.name.arity d → Found (is_callee u.name.arity) callee_bytes d u.callee rest
    → Found has_short_callee used_bytes bytes u rest
used_found {bytes = bytes} {b = b} {c = c} {d = d} {rest = rest} u f g h k = record {
  kept = first (is_short_callee u.callee) (is_stored u.callee u.name.arity) k.kept;
  spelled =
      behind bytes (text_bytes u.home) b (after_home u) rest f.spelled
      (behind b (text_bytes u.name.name) c (after_name u) rest g.spelled
      (behind c (four_bytes u.name.arity) d (callee_bytes u.callee) rest h.spelled k.spelled))
      ∙ ap (λ w. w ++ rest) (sym (used_parts u));
}

-- ---- exports

pub export_no_name : {bytes : List ℕ} → NoneFirst anything text_bytes bytes
    → NoneFirst is_short_export export_bytes bytes
export_no_name none =
    none_here (λ x. x.0.name) (λ x. x.0.arity ∷ summary_bytes x.1) export_bytes (λ x ok. refl) export_parts none

behind_name : {bytes after : List ℕ} {name : Name} (x : FunName × Summary) (rest : List ℕ)
    → Found anything text_bytes bytes name after → bytes ≡ export_bytes x ++ rest
    → after ≡ x.0.arity ∷ (summary_bytes x.1 ++ rest)
behind_name x rest found e =
    (first_field (λ x. x.0.name) (λ x. x.0.arity ∷ summary_bytes x.1) export_bytes x rest refl
    (export_parts x) text_once found e).1

pub export_no_arity : {bytes after : List ℕ} {name : Name} → Found anything text_bytes bytes name after
    → length after ≡ 0 → NoneFirst is_short_export export_bytes bytes
export_no_arity {after = after} found is =
    record {
      never = λ x rest ok e. let some : [] ≡ x.0.arity ∷ (summary_bytes x.1 ++ rest) =
          sym (nil_from_length after is) ∙ behind_name x rest found e in cc;
    }

pub export_no_summary : {bytes after more : List ℕ} {name : Name} (n byte : ℕ)
    → Found anything text_bytes bytes name after → after ≡ byte ∷ more → n ≡ byte
    → NoneFirst (is_summary n) summary_bytes more
    → NoneFirst is_short_export export_bytes bytes
export_no_summary {more = more} n byte found is same none = record {
  never = λ x rest ok e.
      let some = behind_name x rest found e in
      let arity : n ≡ x.0.arity = cc in
      let tails : more ≡ summary_bytes x.1 ++ rest = cc in
      none.never x.1 rest (ap (λ k. is_summary k x.1) arity ∙ export_summary x ok) tails;
}

pub export_found : {bytes after more rest : List ℕ} (byte : ℕ) (x : FunName × Summary)
    → Found anything text_bytes bytes x.0.name after → after ≡ byte ∷ more → x.0.arity ≡ byte → byte < 256
    → Found (is_summary x.0.arity) summary_bytes more x.1 rest → Found is_short_export export_bytes bytes x rest
export_found {bytes = bytes} {after = after} {more = more} {rest = rest} byte x found is same small summary = record {
  kept = and_from (is_export x) (is_short_summary x.1)
      (and_from (nat_lt x.0.arity 256) (takes x.1 x.0.arity) (lt-ltb x.0.arity 256 (omega arith))
      (second (is_short_summary x.1) (takes x.1 x.0.arity) summary.kept))
      (first (is_short_summary x.1) (takes x.1 x.0.arity) summary.kept);
  spelled =
      behind bytes (text_bytes x.0.name) after (x.0.arity ∷ summary_bytes x.1) rest found.spelled
      (is ∙ ap (λ b. b ∷ more) (sym same) ∙ ap (λ w. x.0.arity ∷ w) summary.spelled)
      ∙ ap (λ w. w ++ rest) (sym (export_parts x));
}
