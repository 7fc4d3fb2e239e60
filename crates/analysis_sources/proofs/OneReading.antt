-- Bytes are the source of one module, or have one fault, and never both.
use Rattle.std.proofs.Common.{◌≡◌, ◌≢◌, ℕ, List, [], Contains, Some, None, sym, ap, ◌∙◌, subst, length, arith}
use Rattle.type_kinds.specs.declared.place.Place.{Place}
use Rattle.core_ast.specs.Model as m
use Rattle.core_scan.specs.declared.token.Token.{Token}
use Rattle.core_scan.specs.declared.token.ScanFault.{ScanFault}
use Rattle.core_scan.specs.Bytes.{start, past}
use Rattle.core_scan.specs.Lexed.{Lexed, FirstFault}
use Rattle.core_parse_grammar.specs.declared.fault.ParseFault.{ParseFault}
use Rattle.core_parse_grammar.specs.declared.fault.ParseFault.TheVariants as p
use Rattle.core_parse_grammar.specs.Spells.{SpellsTo, SpellsModule}
use Rattle.core_parse_grammar.specs.Begins.{IsModule, Refused, depth_limit}
use Rattle.core_scope.specs.declared.fault.Break.{Break}
use Rattle.core_scope.specs.Breaks.{module_breaks}
use Rattle.core_scope.specs.Accepted.{FirstBreak}
use Rattle.analysis_sources.specs.declared.refusals.SourceFault.{SourceFault}
use Rattle.analysis_sources.specs.Sources.{scan_refusal, parse_refusal, break_refusal, Scanned, IsSource, IsTooLong, IsNotScanned, IsNotParsed, IsNotAccepted, IsAtFault, too_long, not_scanned, not_parsed, not_accepted}

some_same : {f g : SourceFault} → Some f ≡ Some g → f ≡ g
some_same e = cc

nothing_in : {X : Type 0} (x : X) (xs : List X) → xs ≡ [] → Contains xs x → ⊥
nothing_in x xs e h = absurd (omega (arith, ap (λ l. length l) e, h.1))

module _ (lexed_once : (place : Place) (bytes : List ℕ) (ts us : List Token) → Lexed place bytes ts → Lexed place bytes us → ts ≡ us)
    (first_fault_once : (place : Place) (bytes : List ℕ) (f g : ScanFault) → FirstFault place bytes f → FirstFault place bytes g → f ≡ g)
    (lexed_without_fault : (place : Place) (bytes : List ℕ) (ts : List Token) (fault : ScanFault) → Lexed place bytes ts → FirstFault place bytes fault → ⊥)
    (refused_once : (ts : List Token) (end : Place) (e g : ParseFault) → Refused ts end e → Refused ts end g → e ≢ p.Memory → g ≢ p.Memory → e ≡ g)
    (module_is_no_fault : (ts : List Token) (x : m.Module) → SpellsTo depth_limit ts x → (end : Place) (e : ParseFault) → Refused ts end e → e ≡ p.Memory)
    (first_break_once : (x : m.Module) (b c : Break) → FirstBreak x b → FirstBreak x c → b ≡ c) where
  same_tokens : {most : ℕ} {bytes : List ℕ} {ts us : List Token} → Scanned most bytes ts → Scanned most bytes us → ts ≡ us
  same_tokens a b = lexed_once start _ _ _ a.lexed b.lexed

  same_module : {most : ℕ} {bytes : List ℕ} {ts us : List Token} {x y : m.Module} → Scanned most bytes ts → Scanned most bytes us → IsModule ts x → IsModule us y → x ≡ y
  same_module {x = x} a b h k = k.alone x (subst (λ z. SpellsModule z x) (same_tokens a b) (depth_limit, h.spelled))

  pub one_module : {most : ℕ} {bytes : List ℕ} {x y : m.Module} → IsSource most bytes x → IsSource most bytes y → x ≡ y
  one_module a b = same_module a.scanned b.scanned a.spelled b.spelled

  -- a fault that names a refusal isn't `Memory`
  named_parse : {cause : ParseFault} {fault : SourceFault} → parse_refusal cause ≡ Some fault → cause ≢ p.Memory
  named_parse e h = let k : None ≡ Some _ = ap parse_refusal (sym h) ∙ e in absurd cc

  -- tokens that are refused spell no module
  spelled_or_refused : {most : ℕ} {bytes : List ℕ} {fault : SourceFault} {ts : List Token} {x : m.Module} → IsNotParsed most bytes fault → Scanned most bytes ts → IsModule ts x → ⊥
  spelled_or_refused {most} {bytes} {fault} {ts} {x} a s h =
      let spelled : SpellsTo depth_limit a.tokens x = subst (λ z. SpellsTo depth_limit z x) (same_tokens s a.scanned) h.spelled in
      named_parse a.named (module_is_no_fault a.tokens x spelled (past start bytes) a.cause a.refused)

  -- bytes that are scanned are few, and have no first fault
  not_long : {most : ℕ} {bytes : List ℕ} {fault : SourceFault} {ts : List Token} → IsTooLong most bytes fault → Scanned most bytes ts → ⊥
  not_long a b = let long = a.0 in let short = b.short in absurd (omega arith)

  long_or_scanned : {most : ℕ} {bytes : List ℕ} {fault other : SourceFault} → IsTooLong most bytes fault → IsNotScanned most bytes other → ⊥
  long_or_scanned a b = let long = a.0 in let short = b.short in absurd (omega arith)

  scanned_or_not : {most : ℕ} {bytes : List ℕ} {fault : SourceFault} {ts : List Token} → IsNotScanned most bytes fault → Scanned most bytes ts → ⊥
  scanned_or_not a b = lexed_without_fault start _ _ a.cause b.lexed a.first

  breaks_or_none : {most : ℕ} {bytes : List ℕ} {fault : SourceFault} {x : m.Module} → IsNotAccepted most bytes fault → IsSource most bytes x → ⊥
  breaks_or_none a b = nothing_in a.cause (module_breaks a.spelled) (ap module_breaks (same_module a.scanned b.scanned a.is b.spelled) ∙ b.sound) a.first.broken

  pub never_both : {most : ℕ} {bytes : List ℕ} {x : m.Module} {fault : SourceFault} → IsSource most bytes x → IsAtFault most bytes fault → ⊥
  never_both a (too_long h) = not_long h a.scanned
  never_both a (not_scanned h) = scanned_or_not h a.scanned
  never_both a (not_parsed h) = spelled_or_refused h a.scanned a.spelled
  never_both a (not_accepted h) = breaks_or_none h a

  -- ---- tokens that spell a module

  pub no_other : {most : ℕ} {bytes : List ℕ} {ts : List Token} {x y : m.Module} → Scanned most bytes ts → SpellsTo depth_limit ts x → IsSource most bytes y → y ≡ x
  no_other {x = x} s h k = sym (k.spelled.alone x (subst (λ z. SpellsModule z x) (same_tokens s k.scanned) (depth_limit, h)))

  pub no_fault : {most : ℕ} {bytes : List ℕ} {ts : List Token} {x : m.Module} {fault : SourceFault} → Scanned most bytes ts → SpellsTo depth_limit ts x → module_breaks x ≡ [] → IsAtFault most bytes fault → ⊥
  no_fault s h sound (too_long k) = not_long k s
  no_fault s h sound (not_scanned k) = scanned_or_not k s
  no_fault {bytes = bytes} {x = x} s h sound (not_parsed k) =
      named_parse k.named (module_is_no_fault k.tokens x (subst (λ z. SpellsTo depth_limit z x) (same_tokens s k.scanned) h) (past start bytes) k.cause k.refused)
  no_fault {x = x} s h sound (not_accepted k) =
      let same : x ≡ k.spelled = k.is.alone x (subst (λ z. SpellsModule z x) (same_tokens s k.scanned) (depth_limit, h)) in
      nothing_in k.cause (module_breaks k.spelled) (ap module_breaks (sym same) ∙ sound) k.first.broken

  -- ---- faults

  pub one_fault : {most : ℕ} {bytes : List ℕ} {f g : SourceFault} → IsAtFault most bytes f → IsAtFault most bytes g → f ≡ g
  one_fault (too_long h) (too_long k) = h.1 ∙ sym k.1
  one_fault (too_long h) (not_scanned k) = absurd (long_or_scanned h k)
  one_fault (too_long h) (not_parsed k) = absurd (not_long h k.scanned)
  one_fault (too_long h) (not_accepted k) = absurd (not_long h k.scanned)
  one_fault (not_scanned h) (too_long k) = absurd (long_or_scanned k h)
  one_fault (not_scanned h) (not_scanned k) = some_same (sym h.named ∙ ap scan_refusal (first_fault_once start _ _ _ h.first k.first) ∙ k.named)
  one_fault (not_scanned h) (not_parsed k) = absurd (scanned_or_not h k.scanned)
  one_fault (not_scanned h) (not_accepted k) = absurd (scanned_or_not h k.scanned)
  one_fault (not_parsed h) (too_long k) = absurd (not_long k h.scanned)
  one_fault (not_parsed h) (not_scanned k) = absurd (scanned_or_not k h.scanned)
  one_fault {most} {bytes} (not_parsed h) (not_parsed k) =
      let refused : Refused k.tokens (past start bytes) h.cause = subst (λ z. Refused z (past start bytes) h.cause) (same_tokens h.scanned k.scanned) h.refused in
      some_same (sym h.named ∙ ap parse_refusal (refused_once k.tokens (past start bytes) h.cause k.cause refused k.refused (named_parse h.named) (named_parse k.named)) ∙ k.named)
  one_fault (not_parsed h) (not_accepted k) = absurd (spelled_or_refused h k.scanned k.is)
  one_fault (not_accepted h) (too_long k) = absurd (not_long k h.scanned)
  one_fault (not_accepted h) (not_scanned k) = absurd (scanned_or_not k h.scanned)
  one_fault (not_accepted h) (not_parsed k) = absurd (spelled_or_refused k h.scanned h.is)
  one_fault (not_accepted h) (not_accepted k) =
      let first : FirstBreak k.spelled h.cause = subst (λ z. FirstBreak z h.cause) (same_module h.scanned k.scanned h.is k.is) h.first in
      sym h.named ∙ ap break_refusal (first_break_once k.spelled h.cause k.cause first k.first) ∙ k.named
