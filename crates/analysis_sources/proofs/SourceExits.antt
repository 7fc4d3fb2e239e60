-- From bytes to an accepted module: each way out.
use Rattle.std.proofs.Common.{◌≡◌, ◌≢◌, ℕ, ◌≤◌, ◌<◌, ◌*◌, ◌^◌, List, refl, sym, ap, subst, length, [], ◌∷◌, arith}
use Rattle.call_graph.specs.Calls.{functions_of}
use Rattle.core_ast.specs.Model as m
use Rattle.core_scan.specs.declared.token.Token.{Token}
use Rattle.core_scan.specs.declared.token.ScanFault.{ScanFault}
use Rattle.core_scan.specs.declared.token.ScanFault.TheVariants as s
use Rattle.core_scan.specs.Bytes.{start}
use Rattle.core_scan.specs.Lexed.{Lexed, FirstFault}
use Rattle.core_parse_grammar.specs.Begins.{IsModule}
use Rattle.core_parse_grammar.specs.Spells.{SpellsModule}
use Rattle.core_parse_grammar.specs.Weights.{weight}
use Rattle.type_kinds.specs.declared.place.Place.{Place}
use Rattle.analysis_sources.specs.declared.source.TheConstants.{LONGEST_SOURCE}
use Rattle.analysis_sources.specs.Sources.{scan_refusal, Scanned, not_scanned}
use Rattle.analysis_sources.specs.steps.Refusing.{told, Refuses}

pub scan_exit : (most : ℕ) (bytes : List ℕ) (fault : ScanFault) → length bytes ≤ most → (fault ≢ s.Memory → FirstFault start bytes fault) → Refuses most bytes (told (scan_refusal fault))
scan_exit most bytes (s.BadByte place) short h = not_scanned (record { short = short; cause = s.BadByte place; first = h (λ e. absurd cc); named = refl })
scan_exit most bytes (s.OpenQuote place) short h = not_scanned (record { short = short; cause = s.OpenQuote place; first = h (λ e. absurd cc); named = refl })
scan_exit most bytes (s.BadEscape place) short h = not_scanned (record { short = short; cause = s.BadEscape place; first = h (λ e. absurd cc); named = refl })
scan_exit most bytes (s.WideInteger place) short h = not_scanned (record { short = short; cause = s.WideInteger place; first = h (λ e. absurd cc); named = refl })
scan_exit most bytes s.Memory short h = tt

pub scanned : (most : ℕ) (bytes : List ℕ) (tokens read : List Token) → length bytes ≤ most → Lexed start bytes tokens → read ≡ tokens → Scanned most bytes read
scanned most bytes tokens read short lexed is = record { short = short; lexed = subst (λ z. Lexed start bytes z) (sym is) lexed }

-- few bytes have light tokens
pub light : (most : ℕ) (bytes : List ℕ) (tokens read : List Token) → most ≤ LONGEST_SOURCE → length bytes ≤ most → Lexed start bytes tokens
    → ((place : Place) (text : List ℕ) (ts : List Token) → Lexed place text ts → weight ts ≤ 2 * length text) → read ≡ tokens → weight read < 2 ^ 32
light most bytes tokens read bound short lexed law is = let k = law start bytes tokens lexed in let e : weight read ≡ weight tokens = ap weight is in omega arith

-- bytes spell no more functions than they are
pub few_functions : (bytes : List ℕ) (tokens read : List Token) (x y : m.Module) → length tokens ≤ length bytes → read ≡ tokens → IsModule read x → y ≡ x
    → ((ts : List Token) (z : m.Module) → SpellsModule ts z → length (functions_of (z ∷ [])) ≤ length ts)
    → length (functions_of (y ∷ [])) ≤ length bytes
few_functions bytes tokens read x y short is parsed same few =
    let a = few read x (_, parsed.spelled) in
    let b : length read ≡ length tokens = ap length is in
    let c : length (functions_of (y ∷ [])) ≡ length (functions_of (x ∷ [])) = ap (λ z. length (functions_of (z ∷ []))) same in
    omega (arith, short, a, b, c)
