-- Each refusal, and accepted modules, by what is held.
use Rattle.std.proofs.Common.{◌≡◌, ◌≢◌, ◌↔◌, ◌⊎◌, inl, inr, ℕ, ◌+◌, ◌<◌, ◌≤◌, List, refl, sym, ◌∙◌, ap, ap₂, subst, Option, Some, None, arith}
use Rattle.std.proofs.Common.{length as list_length}
use Rattle.std.specs.Prelude.{IfSome, slice_get}
use Rattle.core_scan.specs.declared.token.ScanFault.{ScanFault}
use Rattle.core_scan.specs.declared.token.ScanFault.TheVariants as s
use Rattle.core_parse_grammar.specs.declared.fault.ParseFault.{ParseFault}
use Rattle.core_parse_grammar.specs.declared.fault.ParseFault.TheVariants as p
use Rattle.core_scope.specs.declared.fault.ScopeRule.{ScopeRule}
use Rattle.core_scope.specs.declared.fault.ScopeRule.TheVariants.{BoundVariables, DistinctVariables, DefinedFunctions, DistinctFunctions, DefinedExports, Degrees}
use Rattle.da_shelf.specs.Told.{Files, Holds, Lacks}
use Rattle.table_file.specs.declared.tables.Table.{Table}
use Rattle.table_file.specs.declared.faults.TableFault.{TableFault as FaultOfTable}
use Rattle.table_file.specs.declared.faults.TableFault.TheVariants as t
use Rattle.table_keep.specs.Model.{Source, trees}
use Rattle.analysis_sources.specs.declared.refusals.RefusalName.TheVariants as r
use Rattle.analysis_sources.specs.declared.refusals.SourceFault.{SourceFault}
use Rattle.analysis_sources.specs.Reading.{IsMissingAt, HoldsAt, RefusedAt, not_held, at_fault}
use Rattle.analysis_sources.specs.Refusals.{missing, refusal_number}
use Rattle.analysis_sources.specs.Sources.{of_the_whole, scan_refusal, parse_refusal, rule_name, IsTooLong, IsNotScanned, IsNotParsed, IsNotAccepted, IsAtFault, too_long, not_scanned, not_parsed, not_accepted}
use Rattle.sound_laws_kept.proofs.Names.{some_is}
use Rattle.analysis_answers.specs.ReadFiles.{HaveOwnNames, IsDuplicate, ReadsAll}
use Rattle.analysis_answers.specs.Tables.{IsFaultOf, IsTableRead}
use Rattle.analysis_answers.proofs.HeldOnce.{NoFault, NoneRefused, OneFault, OneList, OneRefusal}
use Rattle.analysis_answers.proofs.HeldOnce.{not_both_held, not_faulty, not_read, not_repeated, one_fault, one_repeated}
use Rattle.dialyze_command.specs.declared.status.Status.{Status}
use Rattle.dialyze_command.specs.declared.words.Command.{Command}
use Rattle.dialyze_command.specs.Lines.{refused, duplicate, faulty_table}
use Rattle.dialyze_command.specs.Lines.{too_long as too_long_fault}
use Rattle.dialyze_command.specs.Making.{file_names, generated_files}
use Rattle.dialyze_command.specs.Words.{IsMake, IsNoCommand}
use Rattle.dialyze_command.specs.Outcome.{Checks, ChecksTooMany, Names, NamesTable, IsBegun, empty, named, Begins, Analyses, SaysWhether}
use Rattle.dialyze_command.specs.Outcome.{says_no, says_yes, Outcome, usage, many, no_table, bad_table, faulty, duplicate_module, long_table, passed, made, Intended, IsAnswer}
use Rattle.dialyze_command.specs.Causes.{Reads, by_check, by_make, NamesMissing, as_table, as_file, NamesBadTable, NamesSource, NamesTwice, NamesModules, NamesLongTable, IsAnalysed, is_clean, is_warned, is_long}
use Rattle.dialyze_command.specs.Causes.{Step, holding, length, tokens, grammar, scopes, step_of}
use Rattle.dialyze_command.proofs.CheckExits.{outcome_of, summary_mark}
use Rattle.dialyze_command.proofs.Numbers.{mark, mark_of, word_by, other_by, one_fault_of, one_word, one_table_fault}
use Rattle.dialyze_command.proofs.WordExits.{one_check, one_command}

-- ---- the step that a refusal is of

same_name : {f g : SourceFault} → Some f ≡ Some g → f.name ≡ g.name
same_name e = cc

of_tokens : {fault : SourceFault} (cause : ScanFault) → scan_refusal cause ≡ Some fault → step_of fault.name ≡ tokens
of_tokens (s.BadByte place) e = sym (ap step_of (same_name e))
of_tokens (s.OpenQuote place) e = sym (ap step_of (same_name e))
of_tokens (s.BadEscape place) e = sym (ap step_of (same_name e))
of_tokens (s.WideInteger place) e = sym (ap step_of (same_name e))
of_tokens s.Memory e = absurd cc

of_grammar : {fault : SourceFault} (cause : ParseFault) → parse_refusal cause ≡ Some fault → step_of fault.name ≡ grammar
of_grammar (p.Syntax place) e = sym (ap step_of (same_name e))
of_grammar (p.TooDeep place) e = sym (ap step_of (same_name e))
of_grammar p.Memory e = absurd cc

of_rule : (rule : ScopeRule) → step_of (rule_name rule) ≡ scopes
of_rule BoundVariables = refl
of_rule DistinctVariables = refl
of_rule DefinedFunctions = refl
of_rule DistinctFunctions = refl
of_rule DefinedExports = refl
of_rule Degrees = refl

of_scopes : {most : ℕ} {bytes : List ℕ} {fault : SourceFault} → IsNotAccepted most bytes fault → step_of fault.name ≡ scopes
of_scopes h = ap (λ f. step_of f.name) (sym h.named) ∙ of_rule h.cause.rule

of_length : {fault : SourceFault} → fault ≡ of_the_whole r.TooLong → step_of fault.name ≡ length
of_length h = ap (λ f. step_of f.name) h

-- ---- a refusal of one step is of that step alone

never_held : {most : ℕ} {bytes : List ℕ} {fault : SourceFault} → IsAtFault most bytes fault → step_of fault.name ≡ holding → ⊥
never_held (too_long h) e = let k = of_length h.1 in absurd cc
never_held (not_scanned h) e = let k = of_tokens h.cause h.named in absurd cc
never_held (not_parsed h) e = let k = of_grammar h.cause h.named in absurd cc
never_held (not_accepted h) e = let k = of_scopes h in absurd cc

by_length : {most : ℕ} {bytes : List ℕ} {fault : SourceFault} → step_of fault.name ≡ length → IsAtFault most bytes fault → IsTooLong most bytes fault
by_length e (too_long h) = h
by_length e (not_scanned h) = let k = of_tokens h.cause h.named in absurd cc
by_length e (not_parsed h) = let k = of_grammar h.cause h.named in absurd cc
by_length e (not_accepted h) = let k = of_scopes h in absurd cc

by_tokens : {most : ℕ} {bytes : List ℕ} {fault : SourceFault} → step_of fault.name ≡ tokens → IsAtFault most bytes fault → IsNotScanned most bytes fault
by_tokens e (too_long h) = let k = of_length h.1 in absurd cc
by_tokens e (not_scanned h) = h
by_tokens e (not_parsed h) = let k = of_grammar h.cause h.named in absurd cc
by_tokens e (not_accepted h) = let k = of_scopes h in absurd cc

by_grammar : {most : ℕ} {bytes : List ℕ} {fault : SourceFault} → step_of fault.name ≡ grammar → IsAtFault most bytes fault → IsNotParsed most bytes fault
by_grammar e (too_long h) = let k = of_length h.1 in absurd cc
by_grammar e (not_scanned h) = let k = of_tokens h.cause h.named in absurd cc
by_grammar e (not_parsed h) = h
by_grammar e (not_accepted h) = let k = of_scopes h in absurd cc

by_scopes : {most : ℕ} {bytes : List ℕ} {fault : SourceFault} → step_of fault.name ≡ scopes → IsAtFault most bytes fault → IsNotAccepted most bytes fault
by_scopes e (too_long h) = let k = of_length h.1 in absurd cc
by_scopes e (not_scanned h) = let k = of_tokens h.cause h.named in absurd cc
by_scopes e (not_parsed h) = let k = of_grammar h.cause h.named in absurd cc
by_scopes e (not_accepted h) = h

-- ---- the words and the table

pub not_many : {words files : List (List ℕ)} {command : Command} → Checks words command files → ChecksTooMany words → ⊥
not_many h k = let few = h.few in let e = ap (λ fs. list_length fs) (one_check h.check k.check).1 in let long = k.many in absurd (omega arith)

pub no_command_checks : {words files : List (List ℕ)} {command : Command} → Checks words command files → IsNoCommand words → ⊥
no_command_checks {files = files} {command = command} h none = none (inl (command, files, h.check))

-- words that ask for a check ask for no generated modules
pub no_make : {words files : List (List ℕ)} {command : Command} {count : ℕ} → Checks words command files → IsMake words count → ⊥
no_make h asks = one_command h.check asks

pub one_word_there : (words : List (List ℕ)) (option : Option ℕ) (v w : ℕ) (m n : List ℕ) → Names words option v m → Names words option w n → (v ≡ w) × (m ≡ n)
one_word_there words option v w m n h k =
    let same : v ≡ w = some_is (sym h.given ∙ k.given) in
    (same, some_is (sym h.there ∙ ap (slice_get words) same ∙ k.there))

-- a table is named once
pub one_name : {words : List (List ℕ)} {v w : ℕ} {m n : List ℕ} → NamesTable words v m → NamesTable words w n → (v ≡ w) × (m ≡ n)
one_name {words} {v} {w} {m} {n} h k =
    one_word_there words k.command.plt v w m n (subst (λ c. Names words c.plt v m) (one_check h.checks.check k.checks.check).0 h.plt) k.plt

-- the table to begin with is read, if one is named
named_table : {words files : List (List ℕ)} {held : Files} {command : Command} {w : ℕ} {n : List ℕ} → Begins words (Some held) command files → NamesTable words w n
    → (table : Table) × IsTableRead (Some held) n table
named_table {words} {files} {held} {command} {w} {n} h k = by h.begun
  where
    names : Names words command.plt w n
    names = subst (λ c. Names words c.plt w n) (one_check k.checks.check h.checks.check).0 k.plt

    by : IsBegun words (Some held) command.plt h.table → (table : Table) × IsTableRead (Some held) n table
    by (empty none e) = let f = sym none ∙ names.given in absurd cc
    by (named v m there read) = (h.table, subst (λ x. IsTableRead (Some held) x h.table) (one_word_there words command.plt v w m n there names).1 read)

pub lacking_begins : {words files : List (List ℕ)} {held : Files} {command : Command} {w : ℕ} {n : List ℕ} → NamesTable words w n → Lacks (Some held) n → Begins words (Some held) command files → ⊥
lacking_begins {held = held} h lacks begins = not_both_held held refl (named_table begins h).1.held_so lacks

-- ---- from the status to the cause

is_other : {v : Status} (word : ℕ) (fault : SourceFault) → v ≡ refused word fault → (mark v ≢ 14) × (mark v ≢ 24) × (mark v < 27)
is_other word fault e =
    let m = mark_of fault.name in
    let k = ap mark e in
    (λ f. m.1 (sym k ∙ f), λ f. m.2 (sym k ∙ f), omega (arith, m.0, k))

-- a file that is read is refused by this fault
record RefusedHere (words : List (List ℕ)) (held : Files) (word : ℕ) (fault : SourceFault) : Type 0 where
  pub command : Command
  pub files : List (List ℕ)
  pub begins : Begins words (Some held) command files
  pub at : ℕ
  pub place : word ≡ command.start + at
  pub refused_so : RefusedAt (Some held) files at fault

-- what a refusal of a word is of: the table to begin with, a file, or the table to write
data RefusedAs (words : List (List ℕ)) (held : Files) (word : ℕ) (fault : SourceFault) : Type 0 where
  table_missing : (name : List ℕ) → fault ≡ missing → NamesTable words word name → Lacks (Some held) name → RefusedAs words held word fault
  file_refused : RefusedHere words held word fault → RefusedAs words held word fault
  table_long : fault ≡ too_long_fault → NamesLongTable words held word → RefusedAs words held word fault

refused_of_outcome : {words : List (List ℕ)} {held : Files} {status : Status} {output : List ℕ} {after : Option Files} (word : ℕ) (fault : SourceFault) → Outcome words (Some held) status output after
    → status ≡ refused word fault → RefusedAs words held word fault
refused_of_outcome word fault (usage a b c d) e = let k = is_other word fault (sym a ∙ e) in absurd (omega (arith, k.2))
refused_of_outcome word fault (many a b c d) e = absurd ((is_other word fault (sym a ∙ e)).1 refl)
refused_of_outcome {words} {held} word fault (no_table at name a b c names lacks) e =
    let is = sym a ∙ e in
    table_missing name (sym (one_fault_of at word missing fault is)) (subst (λ w. NamesTable words w name) (one_word at word missing fault is) names) lacks
refused_of_outcome word fault (bad_table at name bytes other a b c names holds is) e = let k = is_other word fault (sym a ∙ e) in absurd (omega (arith, k.2))
refused_of_outcome {held = held} word fault (faulty command files at file other a b c d f g) e =
    let is = sym a ∙ e in
    file_refused (record {
      command = command;
      files = files;
      begins = d;
      at = at;
      place = sym (one_word (command.start + at) word other fault is);
      refused_so = subst (RefusedAt (Some held) files at) (one_fault_of (command.start + at) word other fault is) g;
    })
refused_of_outcome word fault (duplicate_module command files first second file other a b c d f g h) e = absurd ((is_other word fault (sym a ∙ e)).0 refl)
refused_of_outcome {words} word fault (long_table command reports new at name a b c d names long) e =
    let is = sym a ∙ e in
    table_long (sym (one_fault_of at word too_long_fault fault is))
    (record { command = command; reports = reports; new = new; analyses = d; name = name; out = subst (λ w. Names words command.out w name) (one_word at word too_long_fault fault is) names; long = long })
refused_of_outcome word fault (passed command reports new (says_no a b) c d f) e = let k = is_other word fault (sym a ∙ e) in absurd (omega (arith, k.2))
refused_of_outcome word fault (passed command reports new (says_yes a b) c d f) e = let k = is_other word fault (sym a ∙ e) in absurd (omega (arith, k.2))
refused_of_outcome word fault (made count asks is c) e = let k = is_other word fault (sym is.status_so ∙ e) in absurd (omega (arith, k.2))

missing_not_faulty : {told : Option Files} {files : List (List ℕ)} {at : ℕ} → RefusedAt told files at missing → IsMissingAt told files at
missing_not_faulty (not_held e h) = h
missing_not_faulty (at_fault h) = absurd (never_held h.is refl)

faulty_not_missing : {told : Option Files} {files : List (List ℕ)} {at : ℕ} {fault : SourceFault} → (step_of fault.name ≡ holding → ⊥) → RefusedAt told files at fault
    → HoldsAt told files at (λ most bytes. IsAtFault most bytes fault)
faulty_not_missing away (not_held e h) = absurd (away (ap (λ f. step_of f.name) e))
faulty_not_missing away (at_fault h) = h

missing_named : {words : List (List ℕ)} {held : Files} {word : ℕ} → RefusedAs words held word missing → NamesMissing words held word
missing_named (table_missing name e names lacks) = as_table name names lacks
missing_named (file_refused h) = as_file h.command h.files h.at h.place h.begins (missing_not_faulty h.refused_so)
missing_named (table_long e h) = let k : 26 ≡ 25 = ap (λ f. refusal_number f.name) e in absurd (omega (arith, k))

-- of a file, where this isn't a missing one, nor a table's
source_named : {words : List (List ℕ)} {held : Files} {word : ℕ} {fault : SourceFault} → (step_of fault.name ≡ holding → ⊥) → (fault ≡ too_long_fault → ⊥) → RefusedAs words held word fault
    → RefusedHere words held word fault
source_named away short (table_missing name e names lacks) = absurd (away (ap (λ f. step_of f.name) e))
source_named away short (file_refused h) = h
source_named away short (table_long e h) = absurd (short e)

long_named : {words : List (List ℕ)} {held : Files} {word : ℕ} → RefusedAs words held word too_long_fault
    → NamesSource words held word (λ most bytes. IsTooLong most bytes too_long_fault) ⊎ NamesLongTable words held word
long_named (table_missing name e names lacks) = let k : 25 ≡ 26 = ap (λ f. refusal_number f.name) e in absurd (omega (arith, k))
long_named (file_refused h) =
    let i = faulty_not_missing (λ k. cc) h.refused_so in
    inl (record {
      command = h.command;
      files = h.files;
      begins = h.begins;
      at = h.at;
      place = h.place;
      source = record { file = i.file; bytes = i.bytes; before = i.before; reached = i.reached; held_so = i.held_so; is = by_length refl i.is };
    })
long_named (table_long e h) = inr h

bad_table_of_outcome : {words : List (List ℕ)} {held : Files} {status : Status} {output : List ℕ} {after : Option Files} (fault : FaultOfTable) → Outcome words (Some held) status output after
    → status ≡ faulty_table fault → NamesBadTable words held fault
bad_table_of_outcome fault (usage a b c d) e = let k : 105 ≡ 102 = ap mark (sym a ∙ e) in absurd (omega (arith, k))
bad_table_of_outcome fault (many a b c d) e = let k : 24 ≡ 102 = ap mark (sym a ∙ e) in absurd (omega (arith, k))
bad_table_of_outcome fault (no_table at name a b c names lacks) e = let k : 26 ≡ 102 = ap mark (sym a ∙ e) in absurd (omega (arith, k))
bad_table_of_outcome {held = held} fault (bad_table at name bytes other a b c names holds is) e =
    record { word = at; name = name; bytes = bytes; names = names; held_so = holds; is = subst (IsFaultOf bytes) (one_table_fault other fault (sym a ∙ e)) is }
bad_table_of_outcome fault (faulty command files at file other a b c d f g) e = let k = ap mark (sym a ∙ e) in let m = mark_of other.name in absurd (omega (arith, m.0, k))
bad_table_of_outcome fault (duplicate_module command files first second file other a b c d f g h) e = let k : 14 ≡ 102 = ap mark (sym a ∙ e) in absurd (omega (arith, k))
bad_table_of_outcome fault (long_table command reports new at name a b c d names long) e = let k : 25 ≡ 102 = ap mark (sym a ∙ e) in absurd (omega (arith, k))
bad_table_of_outcome fault (passed command reports new (says_no a b) c d f) e = let k : 100 ≡ 102 = ap mark (sym a ∙ e) in absurd (omega (arith, k))
bad_table_of_outcome fault (passed command reports new (says_yes a b) c d f) e = let k : 101 ≡ 102 = ap mark (sym a ∙ e) in absurd (omega (arith, k))
bad_table_of_outcome fault (made count asks is c) e = absurd (summary_mark is (inr (omega (arith, ap mark e))))

duplicate_of_outcome : {words : List (List ℕ)} {held : Files} {status : Status} {output : List ℕ} {after : Option Files} (word other : ℕ) → Outcome words (Some held) status output after
    → status ≡ duplicate word other → NamesTwice words held word other
duplicate_of_outcome word other (usage a b c d) e = let k : 105 ≡ 14 = ap mark (sym a ∙ e) in absurd (omega (arith, k))
duplicate_of_outcome word other (many a b c d) e = let k : 24 ≡ 14 = ap mark (sym a ∙ e) in absurd (omega (arith, k))
duplicate_of_outcome word other (no_table at name a b c names lacks) e = let k : 26 ≡ 14 = ap mark (sym a ∙ e) in absurd (omega (arith, k))
duplicate_of_outcome word other (bad_table at name bytes fault a b c names holds is) e = let k : 102 ≡ 14 = ap mark (sym a ∙ e) in absurd (omega (arith, k))
duplicate_of_outcome word other (faulty command files at file fault a b c d f g) e = absurd ((mark_of fault.name).1 (ap mark (sym a ∙ e)))
duplicate_of_outcome {held = held} word other (duplicate_module command files first second file that a b c d f g h) e =
    let is = sym a ∙ e in
    record { command = command; files = files; begins = d; first = first; second = second; place = sym (ap word_by is); other_place = sym (ap other_by is); duplicate_module = h }
duplicate_of_outcome word other (long_table command reports new at name a b c d names long) e = let k : 25 ≡ 14 = ap mark (sym a ∙ e) in absurd (omega (arith, k))
duplicate_of_outcome word other (passed command reports new (says_no a b) c d f) e = let k : 100 ≡ 14 = ap mark (sym a ∙ e) in absurd (omega (arith, k))
duplicate_of_outcome word other (passed command reports new (says_yes a b) c d f) e = let k : 101 ≡ 14 = ap mark (sym a ∙ e) in absurd (omega (arith, k))
duplicate_of_outcome word other (made count asks is c) e = let k : 101 ≡ 14 = ap mark (sym is.status_so ∙ e) in absurd (omega (arith, k))

modules_of : {words : List (List ℕ)} {held : Files} {command : Command} {reports : List (List ℕ)} {new : Table} → Analyses words (Some held) command reports new → NamesModules words held
modules_of {held = held} {command = command} h =
    record { from = held; start = command.start; files = h.files; reads = by_check command refl refl h.begins; sources = h.sources; read = h.read; names = h.names }

modules_of_outcome : {words : List (List ℕ)} {held : Files} {status : Status} {output : List ℕ} {after : Option Files} → Outcome words (Some held) status output after
    → 100 ≤ mark status → mark status ≤ 101 → NamesModules words held
modules_of_outcome (usage a b c d) h k = absurd (omega (arith, k, ap mark a))
modules_of_outcome (many a b c d) h k = absurd (omega (arith, h, ap mark a))
modules_of_outcome (no_table at name a b c names lacks) h k = absurd (omega (arith, h, ap mark a))
modules_of_outcome (bad_table at name bytes fault a b c names holds is) h k = absurd (omega (arith, k, ap mark a))
modules_of_outcome (faulty command files at file fault a b c d f g) h k = absurd (omega (arith, h, ap mark a, (mark_of fault.name).0))
modules_of_outcome (duplicate_module command files first second file other a b c d f g i) h k = absurd (omega (arith, h, ap mark a))
modules_of_outcome (long_table command reports new at name a b c d names long) h k = absurd (omega (arith, h, ap mark a))
modules_of_outcome (passed command reports new says c d f) h k = modules_of d
modules_of_outcome (made count asks is c) h k =
    record { from = generated_files count; start = 0; files = file_names count; reads = by_make count asks refl refl refl; sources = is.sources; read = is.read; names = is.names }

analysed_modules : {words : List (List ℕ)} {held : Files} {status : Status} {output : List ℕ} {after : Option Files} → Outcome words (Some held) status output after → IsAnalysed words held status → NamesModules words held
analysed_modules o (is_clean e) = modules_of_outcome o (omega (arith, ap mark e)) (omega (arith, ap mark e))
analysed_modules o (is_warned e) = modules_of_outcome o (omega (arith, ap mark e)) (omega (arith, ap mark e))
analysed_modules o (is_long word e long) = modules_of long.analyses

-- ---- from the cause to the status

-- what an outcome says of the files of a check
data Level (words : List (List ℕ)) (held : Files) (start : ℕ) (files : List (List ℕ)) (status : Status) : Type 0 where
  refused_level : (at : ℕ) (fault : SourceFault) → status ≡ refused (start + at) fault → RefusedAt (Some held) files at fault → Level words held start files status
  twice_level : (first second : ℕ) → status ≡ duplicate (start + second) (start + first) → IsDuplicate (Some held) files first second → Level words held start files status
  read_level : (M : List Source) → ReadsAll (Some held) files M → HaveOwnNames (trees M) → IsAnalysed words held status → Level words held start files status

says_analysed : {words : List (List ℕ)} {held : Files} {status : Status} {output : List ℕ} → SaysWhether status output → IsAnalysed words held status
says_analysed (says_no a b) = is_clean a
says_analysed (says_yes a b) = is_warned a

module _ (one_list : OneList) (one_refusal : OneRefusal) (none_refused : NoneRefused) (fault_once : OneFault) (no_fault : NoFault) where
  pub faulty_begins : {words files : List (List ℕ)} {held : Files} {command : Command} {w : ℕ} {n bytes : List ℕ} {fault : FaultOfTable} → NamesTable words w n → Holds (Some held) n bytes
      → IsFaultOf bytes fault → Begins words (Some held) command files → ⊥
  faulty_begins {held = held} h holds is begins = not_faulty no_fault held refl holds is (named_table begins h).1

  check_level : {words files : List (List ℕ)} {held : Files} {command : Command} {status : Status} {output : List ℕ} {after : Option Files} → Outcome words (Some held) status output after
      → Begins words (Some held) command files → Level words held command.start files status
  check_level (usage a b c d) h = absurd (no_command_checks h.checks d)
  check_level (many a b c d) h = absurd (not_many h.checks d)
  check_level (no_table at name a b c names lacks) h = absurd (lacking_begins names lacks h)
  check_level (bad_table at name bytes fault a b c names holds is) h = absurd (faulty_begins names holds is h)
  check_level {held = held} (faulty other those at file fault a b c d f g) h =
      let one = one_check d.checks.check h.checks.check in
      refused_level at fault (a ∙ ap (λ c. refused (c.start + at) fault) one.0) (subst (λ fs. RefusedAt (Some held) fs at fault) one.1 g)
  check_level {held = held} (duplicate_module other those first second file that a b c d f g i) h =
      let one = one_check d.checks.check h.checks.check in
      twice_level first second (a ∙ ap (λ c. duplicate (c.start + second) (c.start + first)) one.0) (subst (λ fs. IsDuplicate (Some held) fs first second) one.1 i)
  check_level {words} {held = held} (long_table other reports new at name a b c d names long) h =
      let one = one_check d.begins.checks.check h.checks.check in
      read_level d.sources (subst (λ fs. ReadsAll (Some held) fs d.sources) one.1 d.read) d.names
      (is_long at a (record { command = other; reports = reports; new = new; analyses = d; name = name; out = names; long = long }))
  check_level {held = held} (passed other reports new says c d f) h =
      let one = one_check d.begins.checks.check h.checks.check in
      read_level d.sources (subst (λ fs. ReadsAll (Some held) fs d.sources) one.1 d.read) d.names (says_analysed says)
  check_level (made count asks is c) h = absurd (no_make h.checks asks)

  refused_answered : {words files : List (List ℕ)} {held : Files} {start : ℕ} {status : Status} (at word : ℕ) (fault : SourceFault) → Level words held start files status
      → word ≡ start + at → RefusedAt (Some held) files at fault → status ≡ refused word fault
  refused_answered {files = files} {held = held} {start = start} at word fault (refused_level place other e g) is h =
      let one = one_refusal held files place at other fault g h in
      e ∙ ap (λ n. refused (start + n) other) one.0 ∙ ap (refused (start + at)) one.1 ∙ ap (λ w. refused w fault) (sym is)
  refused_answered at word fault (twice_level first second e i) is h = absurd (not_read none_refused h i.read)
  refused_answered at word fault (read_level M read names status_so) is h = absurd (not_read none_refused h read)

  twice_answered : {words : List (List ℕ)} {held : Files} {status : Status} (word other : ℕ) → (h : NamesTwice words held word other) → Level words held h.command.start h.files status
      → status ≡ duplicate word other
  twice_answered word other h (refused_level at fault e g) = absurd (not_read none_refused g h.duplicate_module.read)
  twice_answered word other h (twice_level first second e k) =
      let one = one_repeated one_list k h.duplicate_module in
      e ∙ ap₂ (λ i j. duplicate (h.command.start + j) (h.command.start + i)) one.0 one.1 ∙ sym (ap₂ duplicate h.place h.other_place)
  twice_answered word other h (read_level M read names status_so) = absurd (not_repeated one_list h.duplicate_module read names)

  modules_answered : {words : List (List ℕ)} {held : Files} {status : Status} {output : List ℕ} {after : Option Files} → Outcome words (Some held) status output after → NamesModules words held
      → IsAnalysed words held status
  modules_answered {words} {held} {status} {output} {after} o h = by h.reads
    where
      of_level : {files : List (List ℕ)} {start : ℕ} → ReadsAll (Some held) files h.sources → Level words held start files status → IsAnalysed words held status
      of_level read (refused_level at fault e g) = absurd (not_read none_refused g read)
      of_level read (twice_level first second e k) = absurd (not_repeated one_list k read h.names)
      of_level read (read_level N also own status_so) = status_so

      of_make : {count : ℕ} → IsMake words count → Outcome words (Some held) status output after → IsAnalysed words held status
      of_make asks (usage a b c d) = absurd (d (inr (_, asks)))
      of_make asks (many a b c d) = absurd (one_command d.check asks)
      of_make asks (no_table at name a b c names lacks) = absurd (no_make names.checks asks)
      of_make asks (bad_table at name bytes fault a b c names holds is) = absurd (no_make names.checks asks)
      of_make asks (faulty command files at file fault a b c d f g) = absurd (no_make d.checks asks)
      of_make asks (duplicate_module command files first second file other a b c d f g i) = absurd (no_make d.checks asks)
      of_make asks (long_table command reports new at name a b c d names long) = absurd (no_make d.begins.checks asks)
      of_make asks (passed command reports new says c d f) = absurd (no_make d.begins.checks asks)
      of_make asks (made other also is c) = is_warned is.status_so

      by : Reads words held h.from h.start h.files → IsAnalysed words held status
      by (by_check command same start begins) = of_level (subst (λ f. ReadsAll (Some f) h.files h.sources) same h.read) (check_level o begins)
      by (by_make count asks same start files) = of_make asks o

  missing_table_answered : {words : List (List ℕ)} {held : Files} {status : Status} {output : List ℕ} {after : Option Files} (word : ℕ) (name : List ℕ) → Outcome words (Some held) status output after
      → NamesTable words word name → Lacks (Some held) name → status ≡ refused word missing
  missing_table_answered word name (usage a b c d) h lacks = absurd (no_command_checks h.checks d)
  missing_table_answered word name (many a b c d) h lacks = absurd (not_many h.checks d)
  missing_table_answered word name (no_table at other a b c names k) h lacks = a ∙ ap (λ w. refused w missing) (one_name names h).0
  missing_table_answered {held = held} word name (bad_table at other bytes fault a b c names holds is) h lacks = absurd (not_both_held held (one_name names h).1 holds lacks)
  missing_table_answered word name (faulty command files at file fault a b c d f g) h lacks = absurd (lacking_begins h lacks d)
  missing_table_answered word name (duplicate_module command files first second file other a b c d f g i) h lacks = absurd (lacking_begins h lacks d)
  missing_table_answered word name (long_table command reports new at other a b c d names long) h lacks = absurd (lacking_begins h lacks d.begins)
  missing_table_answered word name (passed command reports new says c d f) h lacks = absurd (lacking_begins h lacks d.begins)
  missing_table_answered word name (made count asks is c) h lacks = absurd (no_make h.checks asks)

  bad_table_answered : {words : List (List ℕ)} {held : Files} {status : Status} {output : List ℕ} {after : Option Files} (fault : FaultOfTable) → Outcome words (Some held) status output after
      → NamesBadTable words held fault → status ≡ faulty_table fault
  bad_table_answered fault (usage a b c d) h = absurd (no_command_checks h.names.checks d)
  bad_table_answered fault (many a b c d) h = absurd (not_many h.names.checks d)
  bad_table_answered {held = held} fault (no_table at other a b c names k) h = absurd (not_both_held held (sym (one_name names h.names).1) h.held_so k)
  bad_table_answered {held = held} fault (bad_table at name bytes other a b c names holds is) h =
      a ∙ ap faulty_table (one_fault fault_once held (one_name names h.names).1 holds is h.held_so h.is)
  bad_table_answered fault (faulty command files at file other a b c d f g) h = absurd (faulty_begins h.names h.held_so h.is d)
  bad_table_answered fault (duplicate_module command files first second file other a b c d f g i) h = absurd (faulty_begins h.names h.held_so h.is d)
  bad_table_answered fault (long_table command reports new at other a b c d names long) h = absurd (faulty_begins h.names h.held_so h.is d.begins)
  bad_table_answered fault (passed command reports new says c d f) h = absurd (faulty_begins h.names h.held_so h.is d.begins)
  bad_table_answered fault (made count asks is c) h = absurd (no_make h.names.checks asks)

  -- ---- each answer, both ways

  module _ (words : List (List ℕ)) (told : Option Files) (rb rn n k : ℕ) (status : Status) (output : List ℕ) (after : Option Files) (intended : Intended words told rb rn n k status output after) (answer : IsAnswer status) where
    told_cases : (P : Files → Type 0) → ((held : Files) → Outcome words (Some held) status output after → P held) → IfSome told P
    told_cases P by = cases told intended
      where
        cases : (some : Option Files) → Intended words some rb rn n k status output after → IfSome some P
        cases None h = tt
        cases (Some held) h = by held (outcome_of answer h)

    missing_answered : {held : Files} {word : ℕ} → Outcome words (Some held) status output after → NamesMissing words held word → status ≡ refused word missing
    missing_answered {word = word} o (as_table name names lacks) = missing_table_answered word name o names lacks
    missing_answered {word = word} o (as_file command files at place begins is) = refused_answered at word missing (check_level o begins) place (not_held refl is)

    pub missing_it : IfSome told (λ held. (word : ℕ) → (status ≡ refused word missing) ↔ NamesMissing words held word)
    missing_it =
        told_cases (λ held. (word : ℕ) → (status ≡ refused word missing) ↔ NamesMissing words held word)
        (λ held o word. (λ e. missing_named (refused_of_outcome word missing o e), λ h. missing_answered o h))

    pub bad_table_it : IfSome told (λ held. (fault : FaultOfTable) → fault ≢ t.Memory → (status ≡ faulty_table fault) ↔ NamesBadTable words held fault)
    bad_table_it =
        told_cases (λ held. (fault : FaultOfTable) → fault ≢ t.Memory → (status ≡ faulty_table fault) ↔ NamesBadTable words held fault)
        (λ held o fault some. (λ e. bad_table_of_outcome fault o e, λ h. bad_table_answered fault o h))

    source_answered : {held : Files} (word : ℕ) (fault : SourceFault) (Is : ℕ → List ℕ → SourceFault → Type 0) → ((most : ℕ) (bytes : List ℕ) → Is most bytes fault → IsAtFault most bytes fault)
        → Outcome words (Some held) status output after → NamesSource words held word (λ most bytes. Is most bytes fault) → status ≡ refused word fault
    source_answered word fault Is from o h =
        let i = h.source in
        refused_answered h.at word fault (check_level o h.begins) h.place (at_fault (record { file = i.file; bytes = i.bytes; before = i.before; reached = i.reached; held_so = i.held_so; is = from _ i.bytes i.is }))

    -- a fault of a step whose faults are those of a relation
    at_step : (Is : ℕ → List ℕ → SourceFault → Type 0) (step : Step) (fault : SourceFault) → (step ≡ holding → ⊥) → (step ≡ length → ⊥)
        → ((most : ℕ) (bytes : List ℕ) → step_of fault.name ≡ step → IsAtFault most bytes fault → Is most bytes fault)
        → ((most : ℕ) (bytes : List ℕ) → Is most bytes fault → IsAtFault most bytes fault) → (held : Files) → Outcome words (Some held) status output after → (word : ℕ)
        → step_of fault.name ≡ step → (status ≡ refused word fault) ↔ NamesSource words held word (λ most bytes. Is most bytes fault)
    at_step Is step fault away short to from held o word of = (
      λ e.
          let h = source_named (λ k. away (sym of ∙ k)) (λ k. short (sym of ∙ ap (λ f. step_of f.name) k)) (refused_of_outcome word fault o e) in
          let i = faulty_not_missing (λ k. away (sym of ∙ k)) h.refused_so in
          record {
            command = h.command;
            files = h.files;
            begins = h.begins;
            at = h.at;
            place = h.place;
            source = record { file = i.file; bytes = i.bytes; before = i.before; reached = i.reached; held_so = i.held_so; is = to _ i.bytes of i.is };
          },
      source_answered word fault Is from o,
    )

    pub too_long_it : IfSome told (λ held. (word : ℕ) → NamesSource words held word (λ most bytes. IsTooLong most bytes too_long_fault) → status ≡ refused word too_long_fault)
    too_long_it =
        told_cases (λ held. (word : ℕ) → NamesSource words held word (λ most bytes. IsTooLong most bytes too_long_fault) → status ≡ refused word too_long_fault)
        (λ held o word. source_answered word too_long_fault IsTooLong (λ most bytes h. too_long h) o)

    pub only_too_long_it : IfSome told (λ held. (word : ℕ) → status ≡ refused word too_long_fault → NamesSource words held word (λ most bytes. IsTooLong most bytes too_long_fault) ⊎ NamesLongTable words held word)
    only_too_long_it =
        told_cases (λ held. (word : ℕ) → status ≡ refused word too_long_fault → NamesSource words held word (λ most bytes. IsTooLong most bytes too_long_fault) ⊎ NamesLongTable words held word)
        (λ held o word e. long_named (refused_of_outcome word too_long_fault o e))

    pub not_scanned_it : IfSome told (λ held. (word : ℕ) (fault : SourceFault) → step_of fault.name ≡ tokens → (status ≡ refused word fault) ↔ NamesSource words held word (λ most bytes. IsNotScanned most bytes fault))
    not_scanned_it =
        told_cases (λ held. (word : ℕ) (fault : SourceFault) → step_of fault.name ≡ tokens → (status ≡ refused word fault) ↔ NamesSource words held word (λ most bytes. IsNotScanned most bytes fault))
        (λ held o word fault. at_step IsNotScanned tokens fault (λ e. absurd cc) (λ e. absurd cc) (λ most bytes e h. by_tokens e h) (λ most bytes h. not_scanned h) held o word)

    pub not_parsed_it : IfSome told (λ held. (word : ℕ) (fault : SourceFault) → step_of fault.name ≡ grammar → (status ≡ refused word fault) ↔ NamesSource words held word (λ most bytes. IsNotParsed most bytes fault))
    not_parsed_it =
        told_cases (λ held. (word : ℕ) (fault : SourceFault) → step_of fault.name ≡ grammar → (status ≡ refused word fault) ↔ NamesSource words held word (λ most bytes. IsNotParsed most bytes fault))
        (λ held o word fault. at_step IsNotParsed grammar fault (λ e. absurd cc) (λ e. absurd cc) (λ most bytes e h. by_grammar e h) (λ most bytes h. not_parsed h) held o word)

    pub not_accepted_it : IfSome told (λ held. (word : ℕ) (fault : SourceFault) → step_of fault.name ≡ scopes → (status ≡ refused word fault) ↔ NamesSource words held word (λ most bytes. IsNotAccepted most bytes fault))
    not_accepted_it =
        told_cases (λ held. (word : ℕ) (fault : SourceFault) → step_of fault.name ≡ scopes → (status ≡ refused word fault) ↔ NamesSource words held word (λ most bytes. IsNotAccepted most bytes fault))
        (λ held o word fault. at_step IsNotAccepted scopes fault (λ e. absurd cc) (λ e. absurd cc) (λ most bytes e h. by_scopes e h) (λ most bytes h. not_accepted h) held o word)

    pub duplicate_it : IfSome told (λ held. (word other : ℕ) → (status ≡ duplicate word other) ↔ NamesTwice words held word other)
    duplicate_it =
        told_cases (λ held. (word other : ℕ) → (status ≡ duplicate word other) ↔ NamesTwice words held word other)
        (λ held o word other. (λ e. duplicate_of_outcome word other o e, λ h. twice_answered word other h (check_level o h.begins)))

    pub checked_it : IfSome told (λ held. IsAnalysed words held status ↔ NamesModules words held)
    checked_it =
        told_cases (λ held. IsAnalysed words held status ↔ NamesModules words held)
        (λ held o. (λ e. analysed_modules o e, λ h. modules_answered o h))
