-- Bytes are the source of a module, or have a fault; and files are all read, or one of them is the first that is refused.
use Rattle.std.proofs.Common.{◌≡◌, ◌⊎◌, inl, inr, ℕ, zero, suc, ◌+◌, ◌<◌, ◌≤◌, List, [], ◌∷◌, length, take, refl, ap, ◌∙◌, Option, Some, None, slice_get, arith}
use Rattle.std.specs.FinMap.{get}
use Rattle.std.proofs.lemmas.Bool.{cases_lt}
use Rattle.type_kinds.specs.declared.place.Place.{Place}
use Rattle.core_ast.specs.Model as m
use Rattle.core_scan.specs.declared.token.Token.{Token}
use Rattle.core_scan.specs.declared.token.ScanFault.{ScanFault}
use Rattle.core_scan.specs.Bytes.{start, past}
use Rattle.core_scan.specs.Lexed.{Lexed, FirstFault, FaultAt, unknown_word, wide, open_quote, bad_escape, no_token}
use Rattle.core_parse_grammar.specs.declared.fault.ParseFault.TheVariants as p
use Rattle.core_parse_grammar.specs.Begins.{IsModule}
use Rattle.core_scope.specs.declared.fault.Break.{Break}
use Rattle.core_scope.specs.Breaks.{module_breaks}
use Rattle.core_scope.specs.Accepted.{FirstBreak}
use Rattle.core_reading_laws.specs.Tokens.{AreDecided, spelled, failed, sunk, short, SomeFirstBreak}
use Rattle.sha2.specs.Sha256.{sha256}
use Rattle.table_keep.specs.Model.{Source}
use Rattle.da_shelf.specs.Told.{Files, Holds}
use Rattle.analysis_sources.specs.declared.refusals.RefusalName.TheVariants as r
use Rattle.analysis_sources.specs.declared.refusals.SourceFault.{SourceFault}
use Rattle.analysis_sources.specs.Refusals.{missing}
use Rattle.analysis_sources.specs.Reading.{AreRead, IsReached, RefusedAt, not_held, at_fault}
use Rattle.analysis_sources.specs.Sources.{at, of_the_whole, scan_refusal, parse_refusal, break_refusal, room, Scanned, IsSource, IsTextOf, IsAtFault, too_long, not_scanned, not_parsed, not_accepted}

-- a fault of a text of tokens has a refusal
named : (place : Place) (bytes : List ℕ) (fault : ScanFault) → FaultAt place bytes fault → (f : SourceFault) × (scan_refusal fault ≡ Some f)
named place bytes fault (unknown_word w piece rest h k e) = (at r.BadByte place, ap scan_refusal e)
named place bytes fault (wide n bare piece rest h k e) = (at r.WideInteger place, ap scan_refusal e)
named place bytes fault (open_quote q inside text left a b c d e) = (at r.OpenQuote place, ap scan_refusal e)
named place bytes fault (bad_escape q inside text more a b c d e f) = (at r.BadEscape (past place (q ∷ inside)), ap scan_refusal f)
named place bytes fault (no_token b rest h i j k l o e) = (at r.BadByte place, ap scan_refusal e)

abbrev pub Decides : ℕ → List ℕ → Type 0
Decides most bytes = ((x : m.Module) × IsSource most bytes x) ⊎ ((fault : SourceFault) × IsAtFault most bytes fault)

not_scanned_so : (most : ℕ) (bytes : List ℕ) → length bytes ≤ most → (cause : ScanFault) → FirstFault start bytes cause → Decides most bytes
not_scanned_so most bytes few cause first =
    let name = named first.1 first.2 cause first.4 in
    inr (name.0, not_scanned (record { short = few; cause = cause; first = first; named = name.1 }))

spelled_so : (most : ℕ) (bytes : List ℕ) (ts : List Token) → Scanned most bytes ts → (x : m.Module) → IsModule ts x → (module_breaks x ≡ []) ⊎ ((b : Break) × FirstBreak x b) → Decides most bytes
spelled_so most bytes ts scanned x is (inl sound) = inl (x, record { tokens = ts; scanned = scanned; spelled = is; sound = sound })
spelled_so most bytes ts scanned x is (inr h) =
    inr (break_refusal h.0, not_accepted (record { tokens = ts; scanned = scanned; spelled = x; is = is; cause = h.0; first = h.1; named = refl }))

module _ (a_first_break : SomeFirstBreak) (most : ℕ) (bytes : List ℕ) (ts : List Token) (scanned : Scanned most bytes ts) where
  by_tokens : AreDecided ts → Decides most bytes
  by_tokens (spelled x h) = spelled_so most bytes ts scanned x h (a_first_break x)
  by_tokens (failed place h) = inr (at r.Syntax place, not_parsed (record { tokens = ts; scanned = scanned; cause = p.Syntax place; refused = inl h; named = refl }))
  by_tokens (sunk place h) = inr (at r.TooDeep place, not_parsed (record { tokens = ts; scanned = scanned; cause = p.TooDeep place; refused = h; named = refl }))
  by_tokens (short h) =
      inr (at r.Syntax (past start bytes), not_parsed (record { tokens = ts; scanned = scanned; cause = p.Syntax (past start bytes); refused = inr (refl, h); named = refl }))

module _ (lexed_or_fault : (place : Place) (bytes : List ℕ) → ((ts : List Token) × Lexed place bytes ts) ⊎ ((fault : ScanFault) × FirstFault place bytes fault))
    (tokens_are_decided : (ts : List Token) → AreDecided ts) (a_first_break : SomeFirstBreak) where
  pub source_or_fault : (most : ℕ) (bytes : List ℕ) → Decides most bytes
  source_or_fault most bytes = elim (cases_lt most (length bytes)) [
    | inl long ↦ inr (of_the_whole r.TooLong, too_long (long, refl))
    | inr low ↦ elim (lexed_or_fault start bytes) [
      | inl h ↦ by_tokens a_first_break most bytes h.0 (record { short = omega (arith, low); lexed = h.1 }) (tokens_are_decided h.0)
      | inr h ↦ not_scanned_so most bytes (omega (arith, low)) h.0 h.1
    ]
  ]

-- ---- files, one after another

-- the files before a position are read, and the one there is refused
pub record StopsAt (held : Files) (before : ℕ) (files : List (List ℕ)) (fault : SourceFault) : Type 0 where
  pub at : ℕ
  pub file : List ℕ
  pub there : slice_get files at ≡ Some file
  pub sources : List Source
  pub used : ℕ
  pub read : AreRead (Some held) before (take at files) sources used
  pub why : ((fault ≡ missing) × (get held file ≡ None)) ⊎ ((bytes : List ℕ) × (get held file ≡ Some bytes) × IsAtFault (room used) bytes fault)

abbrev Goes : Files → ℕ → List (List ℕ) → Type 0
Goes held before files = ((xs : List Source) × (after : ℕ) × AreRead (Some held) before files xs after) ⊎ ((fault : SourceFault) × StopsAt held before files fault)

found : (o : Option (List ℕ)) → ((bytes : List ℕ) × (o ≡ Some bytes)) ⊎ (o ≡ None)
found None = inr refl
found (Some bytes) = inl (bytes, refl)

refused_of : (held : Files) (files : List (List ℕ)) (fault : SourceFault) → StopsAt held 0 files fault → (at : ℕ) × (f : SourceFault) × RefusedAt (Some held) files at f
refused_of held files fault h = (h.at, fault, by h.why)
  where
    reached : IsReached (Some held) files h.at h.file h.used
    reached = record { there = h.there; sources = h.sources; read = h.read }

    by : ((fault ≡ missing) × (get held h.file ≡ None)) ⊎ ((bytes : List ℕ) × (get held h.file ≡ Some bytes) × IsAtFault (room h.used) bytes fault) → RefusedAt (Some held) files h.at fault
    by (inl k) = not_held k.0 (record { file = h.file; before = h.used; reached = reached; absent = k.1 })
    by (inr k) = at_fault (record { file = h.file; bytes = k.0; before = h.used; reached = reached; held_so = k.1; is = k.2 })

module _ (module_or_fault : (most : ℕ) (bytes : List ℕ) → Decides most bytes) (held : Files) where
  one_more : (before : ℕ) (f : List ℕ) (fs : List (List ℕ)) (bytes : List ℕ) → get held f ≡ Some bytes → (x : m.Module) → IsSource (room before) bytes x → Goes held (before + length bytes) fs
      → Goes held before (f ∷ fs)
  one_more before f fs bytes e x is (inl h) =
      inl (record { tree = x; digest = sha256 bytes } ∷ h.0, h.1, (bytes, e, record { source = is; digest = refl }, h.2))
  one_more before f fs bytes e x is (inr h) = let s = h.1 in inr (
    h.0,
    record {
      at = suc s.at;
      file = s.file;
      there = s.there;
      sources = record { tree = x; digest = sha256 bytes } ∷ s.sources;
      used = s.used;
      read = (bytes, e, record { source = is; digest = refl }, s.read);
      why = s.why;
    },
  )

  stops_here : (before : ℕ) (f : List ℕ) (fs : List (List ℕ)) (fault : SourceFault)
      → ((fault ≡ missing) × (get held f ≡ None)) ⊎ ((bytes : List ℕ) × (get held f ≡ Some bytes) × IsAtFault (room before) bytes fault) → Goes held before (f ∷ fs)
  stops_here before f fs fault why = inr (fault, record { at = 0; file = f; there = refl; sources = []; used = before; read = refl; why = why })

  goes : (before : ℕ) (files : List (List ℕ)) → Goes held before files
  goes before [] = inl ([], before, refl)
  goes before (f ∷ fs) = elim (found (get held f)) [
    | inl e ↦ elim (module_or_fault (room before) e.0) [
      | inl x ↦ one_more before f fs e.0 e.1 x.0 x.1 (goes (before + length e.0) fs)
      | inr x ↦ stops_here before f fs x.0 (inr (e.0, e.1, x.1))
    ]
    | inr e ↦ stops_here before f fs missing (inl (refl, e))
  ]

  pub read_or_refused : (files : List (List ℕ)) → ((xs : List Source) × (after : ℕ) × AreRead (Some held) 0 files xs after) ⊎ ((at : ℕ) × (fault : SourceFault) × RefusedAt (Some held) files at fault)
  read_or_refused files = elim (goes 0 files) [ inl h ↦ inl h | inr h ↦ inr (refused_of held files h.0 h.1) ]
