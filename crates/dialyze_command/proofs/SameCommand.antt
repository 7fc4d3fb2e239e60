-- What words answer is answered by other words that ask for the same, with other positions; and when a check begins with a table that fits.
use Rattle.std.proofs.Common.{◌≡◌, true, inl, ℕ, ◌+◌, ◌<◌, List, [], length, map, refl, sym, ◌∙◌, ap, subst, Option, Some}
use Rattle.std.specs.Cmp.Lexicographic.{bytes_decides}
use Rattle.da_shelf.specs.Told.{Files}
use Rattle.table_file.specs.declared.tables.Table.{Table}
use Rattle.table_keep.specs.Groups.{has}
use Rattle.table_keep.specs.Kept.{calls_by, is_old}
use Rattle.table_keep.specs.Model.{Source, source_of, entry_so, entry_of, entries_so}
use Rattle.sound_laws_kept.proofs.Names.{none_some}
use Rattle.sound_laws_kept.specs.Laws.{EntriesUseCalledLaw}
use Rattle.dialyze_command.specs.declared.status.Status.{Status}
use Rattle.dialyze_command.specs.declared.words.Command.{Command}
use Rattle.dialyze_command.specs.Codes.{code_of}
use Rattle.dialyze_command.specs.Lines.{refused, too_long, too_many, duplicate, faulty_table}
use Rattle.analysis_sources.specs.Refusals.{missing}
use Rattle.dialyze_command.specs.OneOutcome.{AloneLaw, AskTheSame, CallsWhatIsUsed, OfSourcesLaw, OneOutcomeLaw, SameName, neither, one_name, SameOutcomeLaw}
use Rattle.dialyze_command.specs.Outcome.{Checks, Names, NamesTable, IsBegun, empty, named, Begins, Analyses, Stores, nowhere, under, Outcome, usage, many, no_table, bad_table, faulty, duplicate_module, long_table, passed, made}
use Rattle.dialyze_command.specs.Words.{IsCheck, most_files}
use Rattle.dialyze_command.proofs.Causes.{one_word_there}
use Rattle.dialyze_command.proofs.OneOutcome.{given_none}
use Rattle.dialyze_command.proofs.WordExits.{one_check, one_command}

-- ---- the table to begin with

-- no entry is read of the empty table
nothing_used : (t : Table) (M : List Source) → t.entries ≡ [] → CallsWhatIsUsed (entries_so t) M
nothing_used t M none h s e u there at = none_some (sym (ap (λ es. entry_of (map entry_so es) h) none) ∙ at)

pub alone : AloneLaw
alone words held names_none command files begins M read = by begins.begun
  where
    by : IsBegun words (Some held) command.plt begins.table → CallsWhatIsUsed (entries_so begins.table) M
    by (empty a none) = nothing_used begins.table M none
    by (named word name is read) = absurd (names_none word name (record { command = command; files = files; checks = begins.checks; plt = is }))

pub of_sources : EntriesUseCalledLaw → OfSourcesLaw
of_sources law words held with command files begins M read h s e u there at digest used =
    let w = with command files begins M read in
    let old : is_old (source_of M h) e ≡ true = ap (λ o. is_old o e) there ∙ (bytes_decides s.digest e.digest).1 digest in
    sym (ap (λ o. has (calls_by o (entry_of (entries_so begins.table) h)) u.0.0) there)
    ∙ law w.0 M (entries_so begins.table) w.1.reports w.1.digests w.1.table h e u at old used

-- ---- other words that ask for the same

module _ (words others : List (List ℕ)) (same : AskTheSame words others) where
  carried_names : {option other : Option ℕ} {word : ℕ} {name : List ℕ} → SameName words others option other → Names words option word name → (that : ℕ) × Names others other that name
  carried_names (neither a b) is = given_none a is
  carried_names {option} {other} {word} {name} (one_name w that n h k) is = (that, subst (Names others other that) (one_word_there words option w word n name h is).1 k)

  one_asked : {command : Command} {files : List (List ℕ)} → IsCheck words command files → (same.command ≡ command) × (same.files ≡ files)
  one_asked h = one_check same.check h

  carried_checks : {command : Command} {files : List (List ℕ)} → Checks words command files → Checks others same.other files
  carried_checks h = record { check = subst (IsCheck others same.other) (one_asked h.check).1 same.also; few = h.few }

  plt_of : {command : Command} {files : List (List ℕ)} → IsCheck words command files → SameName words others command.plt same.other.plt
  plt_of h = subst (λ (c : Command). SameName words others c.plt same.other.plt) (one_asked h).0 same.plt

  out_of : {command : Command} {files : List (List ℕ)} → IsCheck words command files → SameName words others command.out same.other.out
  out_of h = subst (λ (c : Command). SameName words others c.out same.other.out) (one_asked h).0 same.out

  carried_table : {word : ℕ} {name : List ℕ} → NamesTable words word name → (that : ℕ) × NamesTable others that name
  carried_table h =
      let to = carried_names (plt_of h.checks.check) h.plt in
      (to.0, record { command = same.other; files = h.files; checks = carried_checks h.checks; plt = to.1 })

  carried_begins : {held : Files} {command : Command} {files : List (List ℕ)} → Begins words (Some held) command files → Begins others (Some held) same.other files
  carried_begins {held} {command} h = record { checks = carried_checks h.checks; table = h.table; begun = by (plt_of h.checks.check) h.begun }
    where
      by : SameName words others command.plt same.other.plt → IsBegun words (Some held) command.plt h.table → IsBegun others (Some held) same.other.plt h.table
      by (neither a b) (empty c none) = empty b none
      by (one_name w that n k l) (empty c none) = given_none c k
      by is (named word name names read) = let to = carried_names is names in named to.0 name to.1 read

  carried_analyses : {held : Files} {command : Command} {reports : List (List ℕ)} {new : Table} → Analyses words (Some held) command reports new → Analyses others (Some held) same.other reports new
  unfolding carried_begins
  carried_analyses h = record {
    files = h.files;
    begins = carried_begins h.begins;
    sources = h.sources;
    read = h.read;
    names = h.names;
    accepted = h.accepted;
    written = h.written;
  }

  carried_stores : {command : Command} {new : Table} {told after : Option Files} → SameName words others command.out same.other.out → Stores words command new told after → Stores others same.other new told after
  carried_stores (neither a b) (nowhere c d) = nowhere b d
  carried_stores (one_name w that n k l) (nowhere c d) = given_none c k
  carried_stores is (under word name names short a) = let to = carried_names is names in under to.0 name to.1 short a

  -- the same is answered, by positions among the other words
  carried : {held : Files} {status : Status} {output : List ℕ} {after : Option Files} → Outcome words (Some held) status output after
      → (other : Status) × (code_of status ≡ code_of other) × Outcome others (Some held) other output after
  carried (usage a b c d) = absurd (d (inl (same.command, same.files, same.check)))
  carried (many a b c d) = (
    too_many,
    ap code_of a,
    many refl b c (record { command = same.other; files = same.files; check = same.also; many = subst (λ fs. most_files < length fs) (sym (one_asked d.check).1) d.many }),
  )
  carried (no_table at name a b c names lacks) = let to = carried_table names in (refused to.0 missing, ap code_of a, no_table to.0 name refl b c to.1 lacks)
  carried (bad_table at name bytes fault a b c names holds is) = let to = carried_table names in (faulty_table fault, ap code_of a, bad_table to.0 name bytes fault refl b c to.1 holds is)
  carried (faulty command files at file fault a b c d f g) = (refused (same.other.start + at) fault, ap code_of a, faulty same.other files at file fault refl b c (carried_begins d) f g)
  carried (duplicate_module command files first second file other a b c d f g h) = (
    duplicate (same.other.start + second) (same.other.start + first),
    ap code_of a,
    duplicate_module same.other files first second file other refl b c (carried_begins d) f g h,
  )
  carried (long_table command reports new at name a b c d names long) =
      let to = carried_names (out_of d.begins.checks.check) names in
      (refused to.0 too_long, ap code_of a, long_table same.other reports new to.0 name refl b c (carried_analyses d) to.1 long)
  carried {status = status} (passed command reports new says c d f) =
      (status, refl, passed same.other reports new says c (carried_analyses d) (carried_stores (out_of d.begins.checks.check) f))
  carried (made count asks is c) = absurd (one_command same.check asks)

turned : {words others : List (List ℕ)} → AskTheSame words others → AskTheSame others words
turned same = record {
  command = same.other;
  other = same.command;
  files = same.files;
  check = same.also;
  also = same.check;
  plt = other_way same.plt;
  out = other_way same.out;
}
  where
    other_way : {words others : List (List ℕ)} {option other : Option ℕ} → SameName words others option other → SameName others words other option
    other_way (neither a b) = neither b a
    other_way (one_name word that name h k) = one_name that word name k h

pub same_outcome : OneOutcomeLaw → SameOutcomeLaw
same_outcome law words others held status other output that after then same fit o p =
    let back = carried others words (turned same) p in
    let one = law words held status back.0 output that after then fit o back.2 in
    (ap code_of one.0 ∙ sym back.1, one.1, one.2)
