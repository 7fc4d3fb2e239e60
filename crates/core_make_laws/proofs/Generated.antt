-- Each generated text is that of an accepted module.
use Rattle.std.proofs.Common.{◌≡◌, ℕ, ◌+◌, ◌<◌, ◌≤◌, ◌^◌, List, [], ◌∷◌, ◌++◌, refl, sym, subst, Bool, true, false, Option, Some, None, arith}
use Rattle.std.specs.Prelude.{codes, ◌%◌, ◌==◌}
use Rattle.std.specs.Fmt.{decimal}
use Rattle.std.specs.List.{list_all}
use Rattle.std.proofs.Math.Nat.{mod-lt}
use Rattle.std.proofs.lemmas.Bool.{and_parts}
use Rattle.std.proofs.lemmas.Bool.Decides.{nat_tests}
use Rattle.type_kinds.specs.Digits.{is_digit}
use Rattle.type_kinds.proofs.DigitLaws.{is_written}
use Rattle.core_ast.specs.Model as m
use Rattle.core_scan.specs.declared.token.Token.{Token}
use Rattle.core_scan.specs.Bytes.{start}
use Rattle.core_scan.specs.Lexed.{Lexed}
use Rattle.core_scan.specs.steps.Fronts.{is_symbol}
use Rattle.core_scan.specs.Pieces.{pieces_text, pieces_tokens, is_plain, all_stand, AtomsArePlain}
use Rattle.core_scan.proofs.Pieces.{pieces_are_lexed}
use Rattle.core_parse_grammar.specs.Begins.{depth_limit}
use Rattle.core_parse_grammar.specs.Grammar.{the, annotated_module}
use Rattle.core_parse_grammar.specs.Labels.{numbered}
use Rattle.core_parse_grammar.specs.Spells.{Reads, SpellsTo}
use Rattle.core_scope.specs.Breaks.{module_breaks}
use Rattle.core_make.specs.Modules.{module_text}
use Rattle.core_make_laws.specs.AcceptedTexts.{SpellsAccepted}
use Rattle.core_make_laws.proofs.Reading.{Read, read}
use Rattle.core_make_laws.proofs.Texts.{module_pieces, is_text}

-- ---- the tokens

standing : (i next : ℕ) (b : Bool) → all_stand (module_pieces i next b) ≡ true
unfolding is_symbol
standing i next true = refl
standing i next false = refl

digits_are_plain : (ds : List ℕ) → list_all is_digit ds ≡ true → list_all is_plain ds ≡ true
digits_are_plain [] h = refl
digits_are_plain (d ∷ ds) h =
    let r = and_parts (is_digit d) (list_all is_digit ds) h in
    let no_quote : (d == 39) ≡ false = grind (arith, nat_tests) in
    let no_backslash : (d == 92) ≡ false = grind (arith, nat_tests) in
    rw (no_quote, no_backslash) (digits_are_plain ds r.1)

numbered_plain : (x n : ℕ) → n < 10 ^ 64 → is_plain x ≡ true → list_all is_plain (x ∷ decimal n) ≡ true
numbered_plain x n fits h = rw h (digits_are_plain (decimal n) (is_written n fits).digits)

plain : (i next : ℕ) (b : Bool) → i < 10 ^ 64 → next < 10 ^ 64 → AtomsArePlain (module_pieces i next b)
plain i next true fits next_fits = (
  numbered_plain 103 i fits refl,
  (
    refl,
    (
      refl,
      (
        refl,
        (
          refl,
          (
            refl,
            (
              numbered_plain 122 i fits refl,
              (
                refl,
                (
                  refl,
                  (
                    numbered_plain 103 next next_fits refl,
                    (
                      refl,
                      (refl, (refl, (refl, (refl, (refl, (refl, (refl, (refl, tt)))))))),
                    ),
                  ),
                ),
              ),
            ),
          ),
        ),
      ),
    ),
  ),
)
plain i next false fits next_fits = (
  numbered_plain 103 i fits refl,
  (
    refl,
    (
      refl,
      (
        refl,
        (
          refl,
          (
            numbered_plain 122 i fits refl,
            (
              refl,
              (
                refl,
                (
                  numbered_plain 103 next next_fits refl,
                  (
                    refl,
                    (
                      refl,
                      (refl, (refl, (refl, (refl, tt)))),
                    ),
                  ),
                ),
              ),
            ),
          ),
        ),
      ),
    ),
  ),
)

-- ---- the module

-- Something is read, nothing is left, the module has the name, and it breaks no rule.
abbrev IsWhole : List ℕ → {ts : List Token} → Option (Read depth_limit (the annotated_module) ts) → Type 0
IsWhole x None = ⊥
IsWhole x (Some r) = (r.left ≡ []) × ((numbered r.says).name ≡ x) × (module_breaks (numbered r.says) ≡ [])

found : (i next : ℕ) (b : Bool) → Option (Read depth_limit (the annotated_module) (pieces_tokens start (module_pieces i next b)))
found i next b = read 300 depth_limit (the annotated_module) (pieces_tokens start (module_pieces i next b))

is_whole : (i next : ℕ) (b : Bool) → IsWhole (codes "g" ++ decimal i) (found i next b)
unfolding found read
is_whole i next true = (refl, refl, refl)
is_whole i next false = (refl, refl, refl)

spelled_by : (x : List ℕ) (ts : List Token) (o : Option (Read depth_limit (the annotated_module) ts)) → IsWhole x o → (y : m.Module) × SpellsTo depth_limit ts y × (module_breaks y ≡ []) × (y.name ≡ x)
spelled_by x ts None h = absurd h
spelled_by x ts (Some r) (left, name, sound) = (numbered r.says, record { says = r.says; reads = subst (λ us. Reads depth_limit (the annotated_module) ts r.says us) left r.reads; labels = refl }, sound, name)

pub generated_is_accepted : (n i : ℕ) → n ≤ 1000 → i < n → SpellsAccepted (module_text n i) (codes "g" ++ decimal i)
generated_is_accepted n i few within = of (i % 3 == 0) refl
  where
    of : (b : Bool) → (i % 3 == 0) ≡ b → SpellsAccepted (module_text n i) (codes "g" ++ decimal i)
    of b e =
        let next = (i + 1) % n in
        let next_within : next < n = mod-lt (i + 1) (omega arith) in
        let fits : i < 10 ^ 64 = omega arith in
        let next_fits : next < 10 ^ 64 = omega arith in
        let read_ = spelled_by (codes "g" ++ decimal i) (pieces_tokens start (module_pieces i next b)) (found i next b) (is_whole i next b) in
        let lexed : Lexed start (pieces_text (module_pieces i next b)) (pieces_tokens start (module_pieces i next b)) = pieces_are_lexed start (module_pieces i next b) (standing i next b) (plain i next b fits next_fits) in
        record {
          tokens = pieces_tokens start (module_pieces i next b);
          tree = read_.0;
          lexed = subst (λ text. Lexed start text (pieces_tokens start (module_pieces i next b))) (sym (is_text n i b e)) lexed;
          spelled = read_.1;
          sound = read_.2;
          named = read_.3;
        }
