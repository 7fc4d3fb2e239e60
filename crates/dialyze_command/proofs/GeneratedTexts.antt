-- Generated texts are read: none is refused, and their modules have names of their own.
use Rattle.std.proofs.Common.{◌≡◌, ℕ, zero, suc, ◌+◌, ◌*◌, ◌<◌, ◌≤◌, List, [], ◌∷◌, ◌++◌, length, map, take, refl, sym, ap, ap₂, ◌∙◌, subst, Some, arith}
use Rattle.std.specs.Prelude.{codes, slice_get}
use Rattle.std.specs.Fmt.{decimal}
use Rattle.std.specs.List.{range_with_len}
use Rattle.std.proofs.lemmas.List.{length-map}
use Rattle.std.proofs.lemmas.List.FromFn.{take-map-range_with_len, length-map-range_with_len, get_or-map-range_with_len}
use Rattle.std.proofs.lemmas.Option.{slice_get-get_or}
use Rattle.core_ast.specs.Model as m
use Rattle.core_scan.specs.declared.token.Token.{Token}
use Rattle.core_parse_grammar.specs.Begins.{depth_limit}
use Rattle.core_parse_grammar.specs.Spells.{SpellsTo}
use Rattle.core_scope.specs.Breaks.{module_breaks}
use Rattle.core_scope.specs.Sets.{StandsEarlier}
use Rattle.core_make.specs.Modules.{module_text}
use Rattle.core_make_laws.specs.AcceptedTexts.{SpellsAccepted}
use Rattle.da_shelf.specs.Told.{Holds}
use Rattle.table_keep.specs.Model.{Source, trees}
use Rattle.analysis_sources.specs.declared.refusals.SourceFault.{SourceFault}
use Rattle.analysis_sources.specs.Reading.{AreRead, RefusedAt, not_held, at_fault}
use Rattle.analysis_sources.specs.Sources.{room, IsTextOf, IsSource, IsAtFault, Scanned}
use Rattle.analysis_summaries.specs.Known.{module_names}
use Rattle.analysis_answers.specs.ReadFiles.{HaveOwnNames}
use Rattle.dialyze_command.specs.Making.{file_name, file_names, generated_files}
use Rattle.dialyze_command.proofs.MakeFiles.{file_at, file_name_once, held_file, never_missing, number_within, some_same}

-- the name of a generated module
abbrev generated_name : ℕ → List ℕ
generated_name i = codes "g" ++ decimal i

module _ (accepted : (n i : ℕ) → n ≤ 1000 → i < n → SpellsAccepted (module_text n i) (codes "g" ++ decimal i))
    (short : (n i : ℕ) → n ≤ 1000 → i < n → length (module_text n i) ≤ 512)
    (no_other : (most : ℕ) (bytes : List ℕ) (ts : List Token) (x y : m.Module) → Scanned most bytes ts → SpellsTo depth_limit ts x → IsSource most bytes y → y ≡ x)
    (no_fault : (most : ℕ) (bytes : List ℕ) (ts : List Token) (x : m.Module) (fault : SourceFault) → Scanned most bytes ts → SpellsTo depth_limit ts x → module_breaks x ≡ [] → IsAtFault most bytes fault → ⊥)
    (n : ℕ) (few : n ≤ 1000) where
  -- what is held under the name of a file is its text
  held_text : (i : ℕ) (bytes : List ℕ) → i < n → Holds (Some (generated_files n)) (file_name i) bytes → bytes ≡ module_text n i
  held_text i bytes within holds = some_same (sym holds ∙ held_file n n i (omega (arith, few)) within)

  -- how many bytes files have together
  read_bytes : (a k before after : ℕ) (sources : List Source) → a + k ≤ n → AreRead (Some (generated_files n)) before (map file_name (range_with_len a k)) sources after → after ≤ before + 512 * k
  read_bytes a zero before after [] h read = omega (arith, read)
  read_bytes a zero before after (s ∷ ss) h read = absurd read
  read_bytes a (suc k) before after [] h read = absurd read
  read_bytes a (suc k) before after (s ∷ ss) h (bytes, holds, text, read) =
      let one : length bytes ≤ 512 = subst (λ t. length t ≤ 512) (sym (held_text a bytes (omega (arith, h)) holds)) (short n a few (omega (arith, h))) in
      let more = read_bytes (a + 1) k (before + length bytes) after ss (omega (arith, h)) read in
      omega (arith, one, more)

  -- a text has at most as many bytes as there is room for
  has_room : (i before : ℕ) → i < n → before ≤ 512 * i → length (module_text n i) ≤ room before
  has_room i before within some = let one = short n i few within in omega (arith, one, some, few, within)

  module _ (i : ℕ) (within : i < n) where
    spelling : SpellsAccepted (module_text n i) (codes "g" ++ decimal i)
    spelling = accepted n i few within

    no_fault_here : (most : ℕ) (bytes : List ℕ) (fault : SourceFault) → length (module_text n i) ≤ most → bytes ≡ module_text n i → IsAtFault most bytes fault → ⊥
    no_fault_here most bytes fault fits is h =
        no_fault most (module_text n i) spelling.tokens spelling.tree fault (record { short = fits; lexed = spelling.lexed }) spelling.spelled spelling.sound (subst (λ t. IsAtFault most t fault) is h)

    name_here : (most : ℕ) (bytes : List ℕ) (s : Source) → bytes ≡ module_text n i → IsTextOf most bytes s → s.tree.name ≡ generated_name i
    name_here most bytes s is text =
        let source : IsSource most (module_text n i) s.tree = subst (λ t. IsSource most t s.tree) is text.source in
        ap (λ (x : m.Module). x.name) (no_other most (module_text n i) spelling.tokens spelling.tree s.tree (record { short = source.scanned.short; lexed = spelling.lexed }) spelling.spelled source) ∙ spelling.named

  -- ---- no text is refused

  pub none_refused : (at : ℕ) (fault : SourceFault) → RefusedAt (Some (generated_files n)) (file_names n) at fault → ⊥
  none_refused at fault (not_held e h) = never_missing n at (omega (arith, few)) h
  none_refused at fault (at_fault h) =
      let within = number_within n at h.file h.reached.there in
      let called : file_name at ≡ h.file = some_same (sym (file_at n at within) ∙ h.reached.there) in
      let front : take at (file_names n) ≡ map file_name (range_with_len 0 at) = take-map-range_with_len file_name 0 n at (omega (arith, within)) in
      let read = subst (λ fs. AreRead (Some (generated_files n)) 0 fs h.reached.sources h.before) front h.reached.read in
      let before = read_bytes 0 at 0 h.before h.reached.sources (omega (arith, within)) read in
      no_fault_here at within (room h.before) h.bytes fault (has_room at h.before within (omega (arith, before))) (held_text at h.bytes within (subst (λ f. Holds (Some (generated_files n)) f h.bytes) (sym called) h.held_so)) h.is

  -- ---- names

  names_read : (a k before after : ℕ) (sources : List Source) → a + k ≤ n → AreRead (Some (generated_files n)) before (map file_name (range_with_len a k)) sources after
      → module_names (trees sources) ≡ map generated_name (range_with_len a k)
  names_read a zero before after [] h read = refl
  names_read a zero before after (s ∷ ss) h read = absurd read
  names_read a (suc k) before after [] h read = absurd read
  names_read a (suc k) before after (s ∷ ss) h (bytes, holds, text, read) =
      let within : a < n = omega (arith, h) in
      ap₂ (λ x xs. x ∷ xs) (name_here a within (room before) bytes s (held_text a bytes within holds) text) (names_read (a + 1) k (before + length bytes) after ss (omega (arith, h)) read)

  name_at : (j : ℕ) → j < n → slice_get (map generated_name (range_with_len 0 n)) j ≡ Some (generated_name j)
  name_at j within =
      slice_get-get_or (map generated_name (range_with_len 0 n)) j [] (omega (arith, within, length-map-range_with_len generated_name 0 n))
      ∙ ap Some (get_or-map-range_with_len generated_name 0 n j j [] within (omega arith))

  none_earlier : (j : ℕ) → j < n → StandsEarlier (map generated_name (range_with_len 0 n)) j → ⊥
  none_earlier j within (i, before, same) =
      let names : generated_name i ≡ generated_name j = some_same (sym (name_at i (omega (arith, before, within))) ∙ same ∙ name_at j within) in
      let once = file_name_once i j (omega (arith, few, before, within)) (omega (arith, few, within)) (ap (λ x. x ++ codes ".core") names) in
      absurd (omega (arith, once, before))

  pub own_names : (after : ℕ) (sources : List Source) → AreRead (Some (generated_files n)) 0 (file_names n) sources after → HaveOwnNames (trees sources)
  own_names after sources read j within earlier =
      let names = names_read 0 n 0 after sources (omega arith) read in
      let many : length (trees sources) ≡ n = sym (length-map (trees sources) (λ (x : m.Module). x.name)) ∙ ap length names ∙ length-map-range_with_len generated_name 0 n in
      none_earlier j (omega (arith, within, many)) (subst (λ ns. StandsEarlier ns j) names earlier)
