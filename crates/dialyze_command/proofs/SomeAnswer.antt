-- What a run answers is decided up to its analysis, one step after another.
use Rattle.std.proofs.Common.{◌≡◌, ◌≢◌, ◌⊎◌, inl, inr, ℕ, ◌+◌, ◌<◌, ◌≤◌, List, [], length, drop, map, All, get_or, refl, ap, arith}
use Rattle.std.specs.Prelude.{slice_get, Option, Some, None, IsTrue}
use Rattle.std.specs.FinMap.{get}
use Rattle.std.specs.List.{list_all}
use Rattle.std.proofs.lemmas.List.{length-map}
use Rattle.std.proofs.lemmas.Option.{slice_get-get_or}
use Rattle.components.proofs.Bounded.{Decided, is_low, least}
use Rattle.core_ast.specs.Model as m
use Rattle.core_scope.specs.Sets.{StandsEarlier, FirstDuplicate}
use Rattle.da_shelf.specs.Told.{Files}
use Rattle.table_file.specs.declared.tables.Table.{Table}
use Rattle.table_file.specs.declared.faults.TableFault.{TableFault as FaultOfTable}
use Rattle.table_file.specs.declared.faults.TableFault.TheVariants as t
use Rattle.table_file.specs.Faults.{IsFirst}
use Rattle.table_file.specs.Lengths.{has_short_types}
use Rattle.table_file.specs.Spelling.{table_bytes}
use Rattle.table_keep.specs.Model.{Source, trees}
use Rattle.analysis_sources.specs.declared.refusals.SourceFault.{SourceFault}
use Rattle.analysis_sources.specs.Refusals.{missing, refusal_line}
use Rattle.analysis_sources.specs.Reading.{AreRead, RefusedAt, not_held, at_fault}
use Rattle.analysis_sources.proofs.FilesRead.{read_length}
use Rattle.analysis_answers.specs.ReadFiles.{HaveOwnNames}
use Rattle.dialyze_command.specs.declared.words.Command.{Command}
use Rattle.dialyze_command.specs.Lines.{usage_line, refused, too_many, too_many_line, duplicate, duplicate_line, faulty_table, table_fault_line}
use Rattle.dialyze_command.specs.declared.status.Status.TheVariants.{Usage}
use Rattle.dialyze_command.specs.Making.{file_names, generated_files}
use Rattle.dialyze_command.specs.Outcome.{Checks, Names, empty, named, Begins, usage, many, no_table, bad_table, faulty, duplicate_module}
use Rattle.dialyze_command.specs.SomeAnswer.{HoldsBytes, ComesToModules, IsAnswered, at_once, of_files, of_generated_modules}
use Rattle.dialyze_command.specs.Words.{IsCheck, IsMake, IsNoMake, most_files}
use Rattle.dialyze_command.proofs.Places.{plt_before, files_there}
use Rattle.dialyze_command.proofs.SomeCommand.{same_text, CheckDecided, check_decided, make_decided}

-- ---- names

same_option : (x y : Option (List ℕ)) → Decided (x ≡ y)
same_option None None = inl refl
same_option None (Some y) = inr (λ e. absurd cc)
same_option (Some x) None = inr (λ e. absurd cc)
same_option (Some x) (Some y) = elim (same_text x y) [ inl e ↦ inl (ap Some e) | inr other ↦ inr (λ e. let k : x ≡ y = cc in other k) ]

earlier : (names : List (List ℕ)) (j : ℕ) → Decided (StandsEarlier names j)
earlier names j = elim (least (λ i. slice_get names i ≡ slice_get names j) (λ i. same_option (slice_get names i) (slice_get names j)) j) [
  | inl h ↦ inl (h.0, h.1.0, h.1.1)
  | inr none ↦ inr (λ h. none h.0 h.1 h.2)
]

first_duplicate : (names : List (List ℕ)) → ((i : ℕ) × (j : ℕ) × FirstDuplicate names i j) ⊎ ((j : ℕ) → j < length names → StandsEarlier names j → ⊥)
first_duplicate names = elim (least (λ j. StandsEarlier names j) (earlier names) (length names)) [
  | inl h ↦ elim (least (λ i. slice_get names i ≡ slice_get names h.0) (λ i. same_option (slice_get names i) (slice_get names h.0)) h.0) [
    | inl k ↦ inl (k.0, h.0, record { within = h.1.0; same = k.1.1; before = k.1.0; earliest = k.1.2; least = h.1.2 })
    | inr none ↦ absurd (none h.1.1.0 h.1.1.1 h.1.1.2)
  ]
  | inr none ↦ inr none
]

own_or_duplicate : (xs : List m.Module) → ((i : ℕ) × (j : ℕ) × FirstDuplicate (map (λ x. x.name) xs) i j) ⊎ HaveOwnNames xs
own_or_duplicate xs = elim (first_duplicate (map (λ (x : m.Module). x.name) xs)) [
  | inl h ↦ inl h
  | inr none ↦ inr (λ j low. none j (omega (arith, low, length-map xs (λ (x : m.Module). x.name))))
]

-- ---- the table to begin with

found : (o : Option (List ℕ)) → ((bytes : List ℕ) × (o ≡ Some bytes)) ⊎ (o ≡ None)
found None = inr refl
found (Some bytes) = inl (bytes, refl)

place_of : (o : Option ℕ) → ((word : ℕ) × (o ≡ Some word)) ⊎ (o ≡ None)
place_of None = inr refl
place_of (Some word) = inl (word, refl)

no_entries : Table
no_entries = record { entries = []; entries_rise = refl }

none_there : no_entries.entries ≡ []
unfolding no_entries
none_there = refl

abbrev TableDecided : List ℕ → Type 0
TableDecided bytes = ((t : Table) × (bytes ≡ table_bytes t) × IsTrue (list_all has_short_types t.entries)) ⊎ ((fault : FaultOfTable) × (fault ≢ t.Memory) × IsFirst fault bytes)

module _ (table_or_fault : (bytes : List ℕ) → All (λ b. b < 256) bytes → TableDecided bytes)
    (read_or_refused : (held : Files) (files : List (List ℕ)) → ((xs : List Source) × (after : ℕ) × AreRead (Some held) 0 files xs after) ⊎ ((at : ℕ) × (fault : SourceFault) × RefusedAt (Some held) files at fault))
    (words : List (List ℕ)) (held : Files) where
  -- ---- files and names

  refused_file : {files : List (List ℕ)} {at : ℕ} {fault : SourceFault} → RefusedAt (Some held) files at fault → (file : List ℕ) × (slice_get files at ≡ Some file)
  refused_file (not_held e h) = (h.file, h.reached.there)
  refused_file (at_fault h) = (h.file, h.reached.there)

  module _ (c : Command) (files : List (List ℕ)) (begins : Begins words (Some held) c files) where
    by_names : (xs : List Source) (after : ℕ) → AreRead (Some held) 0 files xs after → ((i : ℕ) × (j : ℕ) × FirstDuplicate (map (λ x. x.name) (trees xs)) i j) ⊎ HaveOwnNames (trees xs) → IsAnswered words held
    by_names xs after read (inr own) = of_files (record { command = c; files = files; begins = begins; sources = xs; read = record { after = after; read = read }; names = own })
    by_names xs after read (inl h) =
        let first = h.2 in
        let many = read_length (Some held) 0 files xs after read in
        let within : h.1 < length files = omega (arith, first.within, many, length-map (trees xs) (λ (x : m.Module). x.name), length-map xs (λ (s : Source). s.tree)) in
        let second_there = slice_get-get_or files h.1 [] within in
        let first_there = slice_get-get_or files h.0 [] (omega (arith, first.before, within)) in
        at_once (duplicate (c.start + h.1) (c.start + h.0)) (duplicate_line (get_or files h.1 []) (get_or files h.0 []))
        (duplicate_module c files h.0 h.1 (get_or files h.1 []) (get_or files h.0 []) refl refl refl begins second_there first_there (record { sources = xs; read = record { after = after; read = read }; is = first }))

    by_files : IsAnswered words held
    by_files = elim (read_or_refused held files) [
      | inl h ↦ by_names h.0 h.1 h.2 (own_or_duplicate (trees h.0))
      | inr h ↦ let file = refused_file h.2 in
          at_once (refused (c.start + h.0) h.1) (refusal_line file.0 h.1) (faulty c files h.0 file.0 h.1 refl refl refl begins file.1 h.2)
    ]

  -- ---- the table

  module _ (are_bytes : HoldsBytes held) (c : Command) (files : List (List ℕ)) (checks : Checks words c files) where
    by_bytes : (word : ℕ) (name : List ℕ) → Names words c.plt word name → (bytes : List ℕ) → get held name ≡ Some bytes → TableDecided bytes → IsAnswered words held
    by_bytes word name plt bytes e (inl h) =
        by_files c files (record { checks = checks; table = h.0; begun = named word name plt (record { bytes = bytes; held_so = e; spells = record { bytes_so = h.1; short = h.2 } }) })
    by_bytes word name plt bytes e (inr h) =
        at_once (faulty_table h.0) (table_fault_line name h.0)
        (bad_table word name bytes h.0 refl refl refl (record { command = c; files = files; checks = checks; plt = plt }) e (record { first = h.2; some = h.1 }))

    by_name : (word : ℕ) (name : List ℕ) → Names words c.plt word name → IsAnswered words held
    by_name word name plt = elim (found (get held name)) [
      | inl h ↦ by_bytes word name plt h.0 h.1 (table_or_fault h.0 (are_bytes name h.0 h.1))
      | inr e ↦ at_once (refused word missing) (refusal_line name missing) (no_table word name refl refl refl (record { command = c; files = files; checks = checks; plt = plt }) e)
    ]

    by_table : ((word : ℕ) → c.plt ≡ Some word → word < length words) → IsAnswered words held
    by_table there = elim (place_of c.plt) [
      | inl h ↦ by_name h.0 (get_or words h.0 []) (record { given = h.1; there = slice_get-get_or words h.0 [] (there h.0 h.1) })
      | inr e ↦ by_files c files (record { checks = checks; table = no_entries; begun = empty e none_there })
    ]

  -- ---- the words

  by_check : HoldsBytes held → (c : Command) → IsCheck words c (drop c.start words) → IsAnswered words held
  by_check are_bytes c check = elim (is_low most_files (length (drop c.start words))) [
    | inl more ↦ at_once too_many too_many_line (many refl refl refl (record { command = c; files = drop c.start words; check = check; many = more }))
    | inr few ↦
        by_table are_bytes c (drop c.start words) (record { check = check; few = omega (arith, few) }) (λ word e. let at = plt_before check word e in let there = files_there check in omega (arith, at.1, there))
  ]

  by_command : HoldsBytes held → CheckDecided words → ((count : ℕ) × IsMake words count) ⊎ IsNoMake words → ((count : ℕ) → IsMake words count → ComesToModules words) → IsAnswered words held
  by_command are_bytes (inl h) d comes = by_check are_bytes h.0 h.1
  by_command are_bytes (inr unchecked) (inl h) comes = of_generated_modules (comes h.0 h.1)
  by_command are_bytes (inr unchecked) (inr none) comes = at_once Usage usage_line (usage refl refl refl (λ h. elim h [ inl x ↦ unchecked x | inr x ↦ none x.0 x.1 ]))

  pub answered : HoldsBytes held → ((count : ℕ) → IsMake words count → ComesToModules words) → IsAnswered words held
  answered are_bytes comes = by_command are_bytes (check_decided words) (make_decided words) comes

-- ---- generated modules

pub comes_to_modules : (read_or_refused : (held : Files) (files : List (List ℕ))
    → ((xs : List Source) × (after : ℕ) × AreRead (Some held) 0 files xs after) ⊎ ((at : ℕ) × (fault : SourceFault) × RefusedAt (Some held) files at fault))
    → ((n : ℕ) → n ≤ 1000 → (at : ℕ) (fault : SourceFault) → RefusedAt (Some (generated_files n)) (file_names n) at fault → ⊥)
    → ((n : ℕ) → n ≤ 1000 → (after : ℕ) (sources : List Source) → AreRead (Some (generated_files n)) 0 (file_names n) sources after → HaveOwnNames (trees sources))
    → (words : List (List ℕ)) (count : ℕ) → IsMake words count → ComesToModules words
comes_to_modules read_or_refused none_refused own_names words count make = elim (read_or_refused (generated_files count) (file_names count)) [
  | inl h ↦ record { count = count; make = make; sources = h.0; read = record { after = h.1; read = h.2 }; names = own_names count make.most h.1 h.0 h.2 }
  | inr h ↦ absurd (none_refused count make.most h.0 h.1 h.2)
]
