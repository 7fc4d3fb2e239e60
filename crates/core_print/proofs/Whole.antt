-- The module that a text spells, read back from its canonical text.
use Rattle.std.proofs.Common.{◌≡◌, ℕ, List, arith, subst, sym, ◌≤◌}
use Rattle.type_kinds.specs.declared.place.Place.{Place}
use Rattle.core_ast.specs.Model as m
use Rattle.core_ast.specs.Same.{Same}
use Rattle.core_scan.specs.declared.token.Token.{Token}
use Rattle.core_scan.specs.declared.token.ScanFault.{ScanFault}
use Rattle.core_scan.specs.Bytes.{start}
use Rattle.core_scan.specs.Lexed.{Lexed, FirstFault}
use Rattle.core_parse_grammar.specs.Begins.{depth_limit, IsModule, Refused}
use Rattle.core_parse_grammar.specs.Labels.{numbered}
use Rattle.core_parse_grammar.specs.Spells.{SpellsTo}
use Rattle.core_parse_grammar.specs.declared.fault.ParseFault.{ParseFault}
use Rattle.core_parse_grammar.specs.declared.fault.ParseFault.TheVariants as faults
use Rattle.core_print.specs.Canonical.{canonical, module_words}
use Rattle.core_print.specs.Fits.{ModuleFits}
use Rattle.core_print.specs.Tokens.{AreBytes, AreWords, tokens_of}
use Rattle.core_print.proofs.Lexing.{line_lexed}
use Rattle.core_print.proofs.ReadModules.{read_back, words_numbered}
use Rattle.core_print.proofs.FitWords.{module_are_words}
use Rattle.core_print.proofs.Spelled.{spelled_fits}
use Rattle.core_print.proofs.GoodTokens.{lexed_good}

abbrev pub ReadBack : m.Module → Type 0
ReadBack x = (us : List Token) × (y : m.Module) × Lexed start (canonical x) us × SpellsTo depth_limit us y × Same y x

pub fitting_is_read_back : (x : m.Module) → ModuleFits depth_limit x → ReadBack (numbered x)
fitting_is_read_back x h =
    let one : 1 ≤ depth_limit = omega arith in
    let back = read_back depth_limit one x h in
    let vs = module_words (numbered x) in
    (tokens_of start vs, back.0, line_lexed vs start (subst AreWords (sym (words_numbered depth_limit one x)) (module_are_words depth_limit x h)), back.1, back.2)

pub spelled_is_read_back : (text : List ℕ) (ts : List Token) (x : m.Module) → AreBytes text → Lexed start text ts → SpellsTo depth_limit ts x → ReadBack x
spelled_is_read_back text ts x bytes lexed spelled =
    let z = spelled_fits depth_limit ts x (lexed_good start text ts bytes lexed) spelled in
    subst ReadBack z.2 (fitting_is_read_back z.0 z.1)

-- what scanning and parsing may answer of the canonical text
pub one_reading : ((place : Place) (bytes : List ℕ) (ts us : List Token) → Lexed place bytes ts → Lexed place bytes us → ts ≡ us)
    → ((place : Place) (bytes : List ℕ) (ts : List Token) (fault : ScanFault) → Lexed place bytes ts → FirstFault place bytes fault → ⊥)
    → ((ts : List Token) (x : m.Module) → SpellsTo depth_limit ts x → (end : Place) (fault : ParseFault) → Refused ts end fault → fault ≡ faults.Memory) → (text : List ℕ) (ts : List Token) (x : m.Module) → AreBytes text
    → Lexed start text ts → SpellsTo depth_limit ts x → ((fault : ScanFault) → FirstFault start (canonical x) fault → ⊥)
    × ((us : List Token) → Lexed start (canonical x) us → ((y : m.Module) → IsModule us y → Same y x) × ((end : Place) (fault : ParseFault) → Refused us end fault → fault ≡ faults.Memory))
one_reading lexed_once never_both module_is_no_fault text ts x bytes lexed spelled = by (spelled_is_read_back text ts x bytes lexed spelled)
  where
    by : ReadBack x → ((fault : ScanFault) → FirstFault start (canonical x) fault → ⊥)
        × ((us : List Token) → Lexed start (canonical x) us → ((y : m.Module) → IsModule us y → Same y x) × ((end : Place) (fault : ParseFault) → Refused us end fault → fault ≡ faults.Memory))
    by (vs, z, is, says, alike) = (
      λ fault stands. never_both start (canonical x) vs fault is stands,
      λ us other.
          let here : SpellsTo depth_limit us z = subst (λ ws. SpellsTo depth_limit ws z) (lexed_once start (canonical x) vs us is other) says in
          (λ y made. subst (λ w. Same w x) (made.alone z (depth_limit, here)) alike, module_is_no_fault us z here),
    )
