-- Two typings with one line are one.
use Rattle.std.proofs.Common.{◌≡◌, ℕ, ◌<◌, ◌^◌, List, [], ◌∷◌, ◌++◌, length, map, drop, refl, sym, ap, ◌∙◌, arith, append_assoc}
use Rattle.std.specs.Prelude.{codes}
use Rattle.std.specs.Fmt.{decimal}
use Rattle.std.proofs.lemmas.List.{append-nil, append_cancel_right}
use Rattle.type_kinds.specs.Quoted.{quoted}
use Rattle.type_lattice.specs.Types.{Type4}
use Rattle.type_text.specs.Texts.{after, separated, text_of}
use Rattle.type_text.specs.Words.{TypeStop, WordStop}
use Rattle.cons_tree.proofs.Copied.{same_signature}
use Rattle.typer_lines.specs.declared.typing.Typing.{Typing}
use Rattle.typer_lines.specs.Lines.{IsTyping, typing_line}
use Rattle.typer_lines.proofs.LineParts.{behind_home, behind_name, line_text, arity_text, name_parts, result_text, signature_parts}

-- what a text begins with is one atom, one number, one type
abbrev pub QuotedOnce : Type 0
QuotedOnce = (a b r q : List ℕ) → quoted a ++ r ≡ quoted b ++ q → (a ≡ b) × (r ≡ q)

abbrev pub NumberOnce : Type 0
NumberOnce = (m n : ℕ) (r q : List ℕ) → m < 2 ^ 128 → n < 2 ^ 128 → WordStop r → WordStop q → decimal m ++ r ≡ decimal n ++ q → (m ≡ n) × (r ≡ q)

abbrev pub FrontOnce : Type 0
FrontOnce = (s t : Type4) (r q : List ℕ) → TypeStop r → TypeStop q → text_of s ++ r ≡ text_of t ++ q → (s ≡ t) × (r ≡ q)

-- the later types, each behind a comma, and what stands behind them
abbrev later : List Type4 → List ℕ → List ℕ
later ts r = after (codes ",") (map text_of ts) ++ r

pub later_stop : (ts : List Type4) (r : List ℕ) → TypeStop r → TypeStop (later ts r)
later_stop [] r f = f
later_stop (t ∷ ts) r f = refl

pub first_text : (t : Type4) (ts : List Type4) (r : List ℕ) → (text_of t ++ after (codes ",") (map text_of ts)) ++ r ≡ text_of t ++ later ts r
first_text t ts r = append_assoc (text_of t) (after (codes ",") (map text_of ts)) r

module _ (front : FrontOnce) where
  one_more : (s t : Type4) (ss ts : List Type4) (r q : List ℕ) → (later ss r ≡ later ts q → (ss ≡ ts) × (r ≡ q)) → TypeStop r → TypeStop q
      → (text_of s ++ after (codes ",") (map text_of ss)) ++ r ≡ (text_of t ++ after (codes ",") (map text_of ts)) ++ q → (s ∷ ss ≡ t ∷ ts) × (r ≡ q)
  one_more s t ss ts r q rest f g e =
      let first = front s t (later ss r) (later ts q) (later_stop ss r f) (later_stop ts q g) (sym (first_text s ss r) ∙ e ∙ first_text t ts q) in
      let more = rest first.1 in
      (λ i. first.0 i ∷ more.0 i, more.1)

  later_once : (ss ts : List Type4) (r q : List ℕ) → length ss ≡ length ts → TypeStop r → TypeStop q → later ss r ≡ later ts q → (ss ≡ ts) × (r ≡ q)
  later_once [] [] r q n f g e = (refl, e)
  later_once [] (t ∷ ts) r q n f g e = absurd (omega (arith, n))
  later_once (s ∷ ss) [] r q n f g e = absurd (omega (arith, n))
  later_once (s ∷ ss) (t ∷ ts) r q n f g e = one_more s t ss ts r q (later_once ss ts r q (omega (arith, n)) f g) f g (ap (drop 1) e)

  types_once : (ss ts : List Type4) (r q : List ℕ) → length ss ≡ length ts → TypeStop r → TypeStop q
      → separated (codes ",") (map text_of ss) ++ r ≡ separated (codes ",") (map text_of ts) ++ q → (ss ≡ ts) × (r ≡ q)
  types_once [] [] r q n f g e = (refl, e)
  types_once [] (t ∷ ts) r q n f g e = absurd (omega (arith, n))
  types_once (s ∷ ss) [] r q n f g e = absurd (omega (arith, n))
  types_once (s ∷ ss) (t ∷ ts) r q n f g e = one_more s t ss ts r q (later_once ss ts r q (omega (arith, n)) f g) f g e

pub lines_once : QuotedOnce → NumberOnce → FrontOnce → (s t : Typing) → IsTyping s → IsTyping t → typing_line s ≡ typing_line t → s ≡ t
lines_once quote number front s t h k e =
    let home = quote s.home t.home (behind_home s) (behind_home t) (sym (line_text s) ∙ e ∙ line_text t) in
    let names = sym (name_parts s.name (behind_name s)) ∙ home.1 ∙ name_parts t.name (behind_name t) in
    let name = quote s.name.name t.name.name (arity_text s.name (behind_name s)) (arity_text t.name (behind_name t)) (ap (drop 1) names) in
    let arity = number s.name.arity t.name.arity (behind_name s) (behind_name t) (omega (arith, h.few)) (omega (arith, k.few)) refl refl (ap (drop 1) name.1) in
    let sigs = sym (signature_parts s.sig) ∙ arity.1 ∙ signature_parts t.sig in
    let args = types_once front s.sig.args t.sig.args (result_text s.sig) (result_text t.sig) (h.taken ∙ arity.0 ∙ sym k.taken) refl refl (ap (drop 2) sigs) in
    let cut = append_cancel_right (text_of s.sig.result) (text_of t.sig.result) (10 ∷ []) (ap (drop 5) args.1) in
    let value = front s.sig.result t.sig.result [] [] tt tt (append-nil (text_of s.sig.result) ∙ cut ∙ sym (append-nil (text_of t.sig.result))) in
    let sig = same_signature s.sig t.sig args.0 value.0 in
    λ i. record { home = home.0 i; name = record { name = name.0 i; arity = arity.0 i }; sig = sig i }
