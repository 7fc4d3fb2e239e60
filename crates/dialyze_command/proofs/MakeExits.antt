-- What a make gives, one step after another: each way out.
use Rattle.std.proofs.Common.{◌≡◌, ℕ, ◌^◌, ◌<◌, ◌≤◌, List, [], length, map, refl, sym, ap, ap₂, ◌∙◌, subst, Option, Some, Result, Ok, Err, arith}
use Rattle.std.specs.Prelude.{IfOk, OnErr}
use Rattle.std.specs.List.{concat}
use Rattle.std.proofs.lemmas.List.{length-map}
use Rattle.type_kinds.specs.declared.memory.Memory.{Memory}
use Rattle.call_graph.specs.Calls.{functions_of}
use Rattle.core_ast.specs.Model as m
use Rattle.core_make.specs.Modules.{module_text, generated}
use Rattle.core_scope.specs.Checked.{module_of, tree_of}
use Rattle.core_scope.specs.Sets.{StandsEarlier}
use Rattle.core_scope.specs.declared.fault.SetFault.{SetFault}
use Rattle.da_shelf.proofs.CountLaws.{rose_since}
use Rattle.da_shelf.specs.Told.{Files, IsOldOrNew}
use Rattle.table_file.specs.declared.tables.Table.{Table}
use Rattle.table_keep.specs.declared.source.Source.{Source as HandedIn}
use Rattle.table_keep.specs.Model.{source_so, sources_so, trees, entry_so, entries_so}
use Rattle.sound_laws_kept.specs.Solving.{IsWritten}
use Rattle.sound_laws_kept.proofs.Names.{accepted_sources}
use Rattle.analysis.specs.declared.analysing.Fault.TheVariants.{Set}
use Rattle.analysis.specs.Reports.{IsSetFault}
use Rattle.analysis_sources.specs.Reading.{AreHeld, AreRead, TextFails}
use Rattle.analysis_sources.specs.declared.reading.ReadFault.{ReadFault}
use Rattle.analysis_answers.specs.ReadFiles.{HaveOwnNames}
use Rattle.analysis_answers.proofs.AnswerExits.{own_so, trees_so}
use Rattle.dialyze_command.specs.declared.answer.Answer.{Answer}
use Rattle.dialyze_command.specs.declared.status.Status.TheVariants.{Warnings}
use Rattle.dialyze_command.specs.Making.{file_name, file_names, generated_files, with_first, line_count, summary_line, IsSummary, PutsFirst}
use Rattle.dialyze_command.specs.Outcome.{Intended, answered, unreplaced, made, of_generated}
use Rattle.dialyze_command.specs.Words.{IsMake}
use Rattle.dialyze_command.specs.steps.Plans.{first_of, second_of}
use Rattle.dialyze_command.specs.steps.Puts as p
use Rattle.dialyze_command.proofs.MakeFiles.{generated_held, made_length}
use Rattle.dialyze_command.proofs.PlanExits.{set_told}
use Rattle.dialyze_command.proofs.WordExits.{one_make}

-- ---- files that are put one after another

-- the shelf doesn't take one
pub put_fails : (n k early before now : ℕ) (told mid after : Option Files) (text : List ℕ) (answer : Answer) → k < n → mid ≡ with_first n k told → text ≡ module_text n k → early ≤ before
    → p.IsUnput k text mid after before now answer → p.IsPut n told after early now (Some answer)
put_fails n k early before now told mid after text answer h front is low u = (
  k,
  h,
  record {
    status_so = u.status_so;
    output_so = u.output_so;
    rose = rose_since early before now low u.rose;
    whole = subst (λ t. IsOldOrNew (with_first n k told) after (file_name k) t) is (subst (λ t. IsOldOrNew t after (file_name k) text) front u.whole);
  },
)

-- ---- what is answered

module _ (n : ℕ) (small : n < 2 ^ 64) (texts : List (List ℕ)) (is : texts ≡ generated n) (sources : List HandedIn)
    (read_so : (told : Option Files) (files : List (List ℕ)) → AreHeld told files texts → (after : ℕ) × AreRead told 0 files (sources_so sources) after) where
  pub all_read : (after : ℕ) × AreRead (Some (generated_files n)) 0 (file_names n) (sources_so sources) after
  all_read = read_so (Some (generated_files n)) (file_names n) (subst (AreHeld (Some (generated_files n)) (file_names n)) (sym is) (generated_held n small))

  many : length (sources_so sources) ≡ n
  many = made_length n (sources_so sources) (record { after = all_read.0; read = all_read.1 })

  pub as_many : length sources ≡ n
  as_many = sym (length-map sources source_so) ∙ many

  pub summed_it : (r : Result Answer Memory) → IfOk r (λ a. p.IsCounted (sources_so sources) a.status a.output) → IfOk r (λ a. IsSummary n a.status a.output)
  summed_it (Err e) h = tt
  summed_it (Ok a) h =
      record {
        sources = sources_so sources;
        reports = h.reports;
        new = h.new;
        status_so = h.status_so;
        output_so = h.output_so ∙ ap (λ k. summary_line k (length (functions_of (trees (sources_so sources)))) (line_count (concat h.reports))) many;
        read = record { after = all_read.0; read = all_read.1 };
        names = h.names;
        accepted = accepted_sources sources;
        written = h.written;
      }

-- what a fault says of the texts, it says of their files
pub fails_there : (n : ℕ) (fault : ReadFault) (texts : List (List ℕ)) → n < 2 ^ 64 → texts ≡ generated n
    → ((told : Option Files) (files : List (List ℕ)) → AreHeld told files texts → TextFails told files fault) → TextFails (Some (generated_files n)) (file_names n) fault
fails_there n fault texts small is fails =
    fails (Some (generated_files n)) (file_names n) (subst (AreHeld (Some (generated_files n)) (file_names n)) (sym is) (generated_held n small))

-- ---- what the analysis says of the modules

pub counted_it : (sources : List HandedIn) (table new : Table) (reports : List (List ℕ)) (modules functions : ℕ) (r : Result Answer Memory) → table.entries ≡ [] → modules ≡ length sources
    → ((j : ℕ) → j < length sources → StandsEarlier (map (λ (s : HandedIn). (module_of s.checked).name) sources) j → ⊥) → IsWritten (entries_so table) (sources_so sources) reports (entries_so new)
    → functions ≡ length (functions_of (map (λ (s : HandedIn). tree_of s.checked) sources)) → IfOk r (λ a. a.status ≡ Warnings) → IfOk r (λ a. a.output ≡ summary_line modules functions (line_count (concat reports)))
    → IfOk r (λ a. p.IsCounted (sources_so sources) a.status a.output)
counted_it sources table new reports modules functions (Err e) none is own written count s o = tt
counted_it sources table new reports modules functions (Ok a) none is own written count s o =
    record {
      reports = reports;
      new = entries_so new;
      status_so = s;
      output_so = o ∙ ap₂ (λ k f. summary_line k f (line_count (concat reports))) (is ∙ sym (length-map sources source_so)) (count ∙ ap (λ ts. length (functions_of ts)) (trees_so sources));
      names = own_so sources own;
      written = subst (λ T. IsWritten T (sources_so sources) reports (entries_so new)) (ap (map entry_so) none) written;
    }

-- no two have one name
pub never_twins : (sources : List HandedIn) (fault : SetFault) → HaveOwnNames (trees (sources_so sources)) → IsSetFault (map (λ (s : HandedIn). (module_of s.checked).name) sources) (Set fault) → ⊥
never_twins sources fault own h =
    let told = set_told sources fault (first_of fault) (second_of fault) h refl refl in
    own (second_of fault) (omega (arith, told.within, length-map (trees (sources_so sources)) (λ (x : m.Module). x.name))) (first_of fault, told.before, told.same)

-- ---- all are put

pub made_all : (n early now : ℕ) (told after : Option Files) (r : Result Answer Memory) → after ≡ with_first n n told → IfOk r (λ a. IsSummary n a.status a.output)
    → IfOk r (λ a. p.IsMadeAs n told after early now a)
made_all n early now told after (Err e) same h = tt
made_all n early now told after (Ok a) same h = p.all_put same h

pub all_first : (n : ℕ) (told after : Option Files) (r : Result Answer Memory) → after ≡ with_first n n told → OnErr r (PutsFirst n told after)
all_first n told after (Ok a) same = tt
all_first n told after (Err e) same = (n, omega arith, same)

pub made_failed : (n early now : ℕ) (told after : Option Files) (answer : Answer) → p.IsPut n told after early now (Some answer) → p.IsMadeAs n told after early now answer
made_failed n early now told after answer h = p.one_failed h.0 h.1 h.2

-- ---- the run

pub made_intended : (words : List (List ℕ)) (told after : Option Files) (rb rn n k count : ℕ) (r : Result Answer Memory) → IsMake words count → IfOk r (λ a. p.IsMadeAs count told after n k a)
    → IfOk r (λ a. Intended words told rb rn n k a.status a.output after)
made_intended words told after rb rn n k count (Err e) asks h = tt
made_intended words told after rb rn n k count (Ok a) asks (p.all_put same is) = answered (made count asks is same)
made_intended words told after rb rn n k count (Ok a) asks (p.one_failed number h u) =
    unreplaced number (file_name number) u.status_so u.output_so (of_generated (record { count = count; make = asks; within = h; called = refl; whole = u.whole })) u.rose

pub made_unfinished : (words : List (List ℕ)) (told after : Option Files) (count : ℕ) (r : Result Answer Memory) → IsMake words count → OnErr r (PutsFirst count told after)
    → OnErr r ((other : ℕ) → IsMake words other → PutsFirst other told after)
made_unfinished words told after count (Ok a) asks h = tt
made_unfinished words told after count (Err e) asks h = λ other also. subst (λ m. PutsFirst m told after) (one_make asks also) h
