-- Each run has an outcome: what is answered at once, and what is answered of the written analysis, where it comes to one.
use Rattle.std.proofs.Common.{◌≡◌, ℕ, ◌+◌, ◌<◌, List, [], ◌∷◌, get_or, length, Option, Some, None, Bool, true, false, inl, inr, refl, ap, ◌∙◌, subst, arith}
use Rattle.std.specs.List.{concat}
use Rattle.std.proofs.lemmas.Option.{slice_get-get_or}
use Rattle.sha2.proofs.Facts256.{length-sha256}
use Rattle.type_kinds.proofs.Lists.{contains_none, contains_cases}
use Rattle.core_ast.specs.Model as m
use Rattle.core_parse_grammar.specs.Begins.{depth_limit}
use Rattle.core_scope.specs.Accepted.{IsAccepted}
use Rattle.core_scope.specs.Checked.{tree_of}
use Rattle.core_scope.specs.declared.checked.Checked.{Checked}
use Rattle.core_scope.proofs.SpelledLaws.{is_spelled}
use Rattle.call_graph.specs.Calls.{functions_of}
use Rattle.da_shelf.specs.Told.{Files, replaced}
use Rattle.table_file.specs.declared.tables.Table.{Table}
use Rattle.table_file.specs.Lengths.{is_short_table}
use Rattle.table_file.specs.Spelling.{table_bytes}
use Rattle.table_keep.specs.Model.{Source, trees}
use Rattle.sound_laws.specs.Accepted.{AreAccepted}
use Rattle.sound_laws_written.specs.Laws.{HaveDigests, SomeAnalysisLaw, SomeTableLaw}
use Rattle.analysis_sources.specs.Reading.{AreRead}
use Rattle.analysis_sources.specs.Refusals.{refusal_line}
use Rattle.analysis_sources.specs.Sources.{IsSource}
use Rattle.dialyze_command.specs.declared.status.Status.{Status}
use Rattle.dialyze_command.specs.declared.status.Status.TheVariants.{Clean, Warnings}
use Rattle.dialyze_command.specs.declared.words.Command.{Command}
use Rattle.dialyze_command.specs.Lines.{refused, too_long}
use Rattle.dialyze_command.specs.Making.{with_first, file_names, generated_files, line_count, summary_line}
use Rattle.dialyze_command.specs.Outcome.{Names, Analyses, nowhere, under, SaysWhether, says_no, says_yes, long_table, passed, made}
use Rattle.dialyze_command.specs.SomeAnswer.{ComesToAnalysis, ComesToModules, IsAnswered, at_once, of_files, of_generated_modules}
use Rattle.dialyze_command.specs.SomeOutcome.{HasOutcome}
use Rattle.dialyze_command.specs.Words.{IsCheck}
use Rattle.dialyze_command.proofs.KeptExits.{are_sources}
use Rattle.dialyze_command.proofs.Places.{files_there, out_before}
use Rattle.dialyze_command.proofs.SomeCommand.{CheckDecided, check_decided}
use Rattle.dialyze_command.proofs.WordExits.{one_check}

-- ---- what is read

source_accepted : (most : ℕ) (bytes : List ℕ) (x : m.Module) → IsSource most bytes x → IsAccepted x
source_accepted most bytes x s = record { spelled = is_spelled x bytes s.tokens s.scanned.lexed (depth_limit, s.spelled.spelled); sound = s.sound }

-- digests have 32 bytes
read_digests : (told : Option Files) (before : ℕ) (fs : List (List ℕ)) (xs : List Source) (after : ℕ) → AreRead told before fs xs after → HaveDigests xs
read_digests told before fs [] after read s there = absurd (contains_none s there)
read_digests told before [] (x ∷ xs) after read s there = absurd read
read_digests told before (f ∷ fs) (x ∷ xs) after (bytes, holds, text, read) s there = elim (contains_cases x s xs there) [
  | inl same ↦ subst (λ (z : Source). length z.digest ≡ 32) same (ap length text.digest ∙ length-sha256 bytes)
  | inr more ↦ read_digests told (before + length bytes) fs xs after read s more
]

says : (output : List ℕ) → (status : Status) × SaysWhether status output
says [] = (Clean, says_no refl refl)
says (x ∷ xs) = (Warnings, says_yes refl (λ e. absurd cc))

-- the word behind an option is there
out_there : (words files : List (List ℕ)) (c : Command) → IsCheck words c files → (word : ℕ) → c.out ≡ Some word → word < length words
out_there words files c check word e = by (check_decided words)
  where
    by : CheckDecided words → word < length words
    by (inl h) =
        let same : h.0 ≡ c = (one_check h.1 check).0 in
        let start : h.0.start ≡ c.start = ap (λ (k : Command). k.start) same in
        let before = out_before check word e in
        let there = files_there h.1 in
        omega (arith, start, before.1, there)
    by (inr none) = absurd (none (c, files, check))

-- ---- the outcome

module _ (every : (x : m.Module) → IsAccepted x → (c : Checked) × (tree_of c ≡ x)) (analysis : SomeAnalysisLaw) (table : SomeTableLaw) (words : List (List ℕ)) (held : Files) where
  read_accepted : (told : Option Files) (before : ℕ) (fs : List (List ℕ)) (xs : List Source) (after : ℕ) → AreRead told before fs xs after → AreAccepted (trees xs)
  read_accepted told before fs [] after read = tt
  read_accepted told before [] (x ∷ xs) after read = absurd read
  read_accepted told before (f ∷ fs) (x ∷ xs) after (bytes, holds, text, read) =
      (every x.tree (source_accepted _ bytes x.tree text.source), read_accepted told (before + length bytes) fs xs after read)

  of_analysis : (c : Command) (reports : List (List ℕ)) (new : Table) → Analyses words (Some held) c reports new → HasOutcome words held
  of_analysis c reports new a = by c.out refl
    where
      by_length : (word : ℕ) (name : List ℕ) → Names words c.out word name → (b : Bool) → is_short_table new ≡ b → HasOutcome words held
      by_length word name names true e = let s = says (concat reports) in record {
        status = s.0;
        output = concat reports;
        after = replaced (Some held) name (table_bytes new);
        outcome = passed c reports new s.1 refl a (under word name names e refl);
      }
      by_length word name names false e = record {
        status = refused word too_long;
        output = refusal_line name too_long;
        after = Some held;
        outcome = long_table c reports new word name refl refl refl a names e;
      }

      by : (o : Option ℕ) → c.out ≡ o → HasOutcome words held
      by None none = let s = says (concat reports) in record { status = s.0; output = concat reports; after = Some held; outcome = passed c reports new s.1 refl a (nowhere none refl) }
      by (Some word) e =
          let there = out_there words a.files c a.begins.checks.check word e in
          by_length word (get_or words word []) (record { given = e; there = slice_get-get_or words word [] there }) (is_short_table new) refl

  of_read : ComesToAnalysis words (Some held) → HasOutcome words held
  of_read h =
      let accepted = read_accepted (Some held) 0 h.files h.sources h.read.after h.read.read in
      let w = table h.begins.table h.sources (are_sources h.sources accepted h.names) (read_digests (Some held) 0 h.files h.sources h.read.after h.read.read) in
      of_analysis h.command w.0 w.1.0 (record { files = h.files; begins = h.begins; sources = h.sources; read = h.read; names = h.names; accepted = accepted; written = w.1.1 })

  of_modules : ComesToModules words → HasOutcome words held
  of_modules h =
      let accepted = read_accepted (Some (generated_files h.count)) 0 (file_names h.count) h.sources h.read.after h.read.read in
      let w = analysis [] h.sources (are_sources h.sources accepted h.names) in
      record {
        status = Warnings;
        output = summary_line h.count (length (functions_of (trees h.sources))) (line_count (concat w.0));
        after = with_first h.count h.count (Some held);
        outcome = made h.count h.make
            (record { sources = h.sources; reports = w.0; new = w.1.0; status_so = refl; output_so = refl; read = h.read; names = h.names; accepted = accepted; written = w.1.1 }) refl;
      }

  pub outcome_of : IsAnswered words held → HasOutcome words held
  outcome_of (at_once status output o) = record { status = status; output = output; after = Some held; outcome = o }
  outcome_of (of_files h) = of_read h
  outcome_of (of_generated_modules h) = of_modules h
