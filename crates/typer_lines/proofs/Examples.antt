-- Worked lines: of typings whose types have these texts.
use Rattle.std.proofs.Common.{◌≡◌, [], ◌∷◌, ◌++◌, arith}
use Rattle.std.specs.Prelude.{codes}
use Rattle.std.proofs.lemmas.Fmt.{decimal_digit}
use Rattle.type_lattice.specs.Types.{Type4}
use Rattle.type_text.specs.Texts.{text_of}
use Rattle.cons_tree.specs.declared.parts.Sig.{Sig}
use Rattle.typer_lines.specs.Lines.{typing_line}

no_arguments : (g : Sig) → g.args ≡ [] → text_of g.result ≡ codes "none()"
    → typing_line (record { home = codes "r3"; name = record { name = codes "g"; arity = 0 }; sig = g }) ≡ codes "'r3':'g'/0 () -> none()" ++ 10 ∷ []
no_arguments g a r = simp (a, r, decimal_digit 0 (omega arith))

one_argument : (s : Type4) (g : Sig) → g.args ≡ s ∷ [] → text_of s ≡ codes "{'ok',any()}" → text_of g.result ≡ codes "any()"
    → typing_line (record { home = codes "r3"; name = record { name = codes "f"; arity = 1 }; sig = g }) ≡ codes "'r3':'f'/1 ({'ok',any()}) -> any()" ++ 10 ∷ []
one_argument s g a e r = simp (a, e, r, decimal_digit 1 (omega arith))

-- names with a quote and with a line feed
two_arguments : (s t : Type4) (g : Sig) → g.args ≡ s ∷ t ∷ [] → text_of s ≡ codes "[]" → text_of t ≡ codes "pid()" → text_of g.result ≡ codes "1 | 2"
    → typing_line (record { home = codes "it's"; name = record { name = 10 ∷ []; arity = 2 }; sig = g }) ≡ codes "'it\\'s':'\\012'/2 ([],pid()) -> 1 | 2" ++ 10 ∷ []
two_arguments s t g a e f r = simp (a, e, f, r, decimal_digit 2 (omega arith))
