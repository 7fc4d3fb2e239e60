-- What a run over files is to answer where its files are read: each way out.
use Rattle.std.proofs.Common.{◌≡◌, ℕ, ◌<◌, List, [], ◌∷◌, length, map, get_or, slice_get, Option, Some, Result, Ok, Err, refl, sym, ap, ◌∙◌, subst, arith}
use Rattle.std.specs.Prelude.{IfOk}
use Rattle.std.specs.Borrow.{Bor}
use Rattle.std.proofs.lemmas.List.{length-map}
use Rattle.std.proofs.lemmas.Option.{slice_get-get_or}
use Rattle.type_kinds.specs.declared.atom.Atom.{Atom}
use Rattle.type_kinds.specs.declared.memory.Memory.{Memory}
use Rattle.core_ast.specs.Model as m
use Rattle.core_scope.specs.Checked.{module_of, tree_of}
use Rattle.core_scope.specs.Names.{Distinct}
use Rattle.core_scope.specs.Sets.{StandsEarlier, FirstDuplicate}
use Rattle.core_scope.specs.declared.fault.SetFault.{SetFault}
use Rattle.core_scope.specs.declared.fault.SetFault.TheVariants.{DuplicateModule}
use Rattle.core_scope.proofs.NameLaws.{none_earlier}
use Rattle.da_shelf.specs.Told.{Files}
use Rattle.table_keep.specs.declared.source.Source.{Source as HandedIn}
use Rattle.table_keep.specs.Model.{Source, trees, source_so, sources_so}
use Rattle.analysis_sources.proofs.FilesRead.{read_length}
use Rattle.analysis_sources.specs.Words.{texts}
use Rattle.analysis_answers.specs.declared.files.FilesRead.{FilesRead}
use Rattle.analysis_answers.specs.declared.files.FilesRead.TheVariants.{Reads, Says}
use Rattle.analysis_answers.specs.declared.run_answer.RunAnswer.{RunAnswer}
use Rattle.analysis_answers.specs.declared.run_status.RunStatus.TheVariants.{Done}
use Rattle.analysis_answers.specs.FileRuns.{AnswersSources, gives_output, names_one, AreFilesRead, duplicate, same_name, declining, Intended, stopped, written}
use Rattle.analysis_answers.specs.Lines.{duplicate_line}
use Rattle.analysis_answers.specs.ReadFiles.{ReadsAll, HaveOwnNames}
use Rattle.analysis_answers.specs.Words.{NamesFiles}

-- ---- the modules of sources

pub trees_so : (ss : List HandedIn) → map (λ (s : HandedIn). tree_of s.checked) ss ≡ trees (sources_so ss)
trees_so [] = refl
trees_so (s ∷ ss) = ap (λ xs. tree_of s.checked ∷ xs) (trees_so ss)

abbrev pub names : List HandedIn → List Atom
names ss = map (λ (s : HandedIn). (module_of s.checked).name) ss

pub names_so : (ss : List HandedIn) → names ss ≡ map (λ (x : m.Module). x.name) (trees (sources_so ss))
names_so [] = refl
names_so (s ∷ ss) = ap (λ ns. (module_of s.checked).name ∷ ns) (names_so ss)

long_so : (ss : List HandedIn) → length (trees (sources_so ss)) ≡ length ss
long_so ss = length-map (sources_so ss) (λ (s : Source). s.tree) ∙ length-map ss source_so

pub own_so : (ss : List HandedIn) → ((j : ℕ) → j < length ss → StandsEarlier (names ss) j → ⊥) → HaveOwnNames (trees (sources_so ss))
own_so ss own j low e = own j (subst (λ n. j < n) (long_so ss) low) (subst (λ ns. StandsEarlier ns j) (sym (names_so ss)) e)

-- names of their own are distinct
pub apart : (xs : List m.Module) → HaveOwnNames xs → Distinct (map (λ (x : m.Module). x.name) xs)
apart xs own = none_earlier (map (λ (x : m.Module). x.name) xs) (λ j low e. own j (subst (λ n. j < n) (length-map xs (λ (x : m.Module). x.name)) low) e)

-- ---- what is answered of sources

module _ (Gives : List Source → List ℕ → Type 0) where
  pub gives_so : (words : List (List ℕ)) (ss : List HandedIn) (output : List ℕ) → ((j : ℕ) → j < length ss → StandsEarlier (names ss) j → ⊥) → Gives (sources_so ss) output
      → AnswersSources Gives words (sources_so ss) Done output
  gives_so words ss output own gives = gives_output refl (own_so ss own) gives

  pub twins_so : (words : List (Bor (List ℕ))) (ss : List HandedIn) (fault : SetFault) (first second : ℕ) (r : Result RunAnswer Memory) → length ss ≡ length words
      → (i : ℕ) × (j : ℕ) × (fault ≡ DuplicateModule i j) × FirstDuplicate (names ss) i j → IfOk r (λ a. a.status ≡ duplicate second first)
      → IfOk r (λ a. (file other : List ℕ) → slice_get (texts words) second ≡ Some file → slice_get (texts words) first ≡ Some other → a.output ≡ duplicate_line file other)
      → ((i j : ℕ) → fault ≡ DuplicateModule i j → (first ≡ i) × (second ≡ j)) → IfOk r (λ a. AnswersSources Gives (texts words) (sources_so ss) a.status a.output)
  twins_so words ss fault first second (Err e) long h s o is = tt
  twins_so words ss fault first second (Ok a) long h s o is =
      let same = is h.0 h.1 h.2 in
      let twins : FirstDuplicate (names ss) first second = subst (λ i. FirstDuplicate (names ss) i second) (sym same.0) (subst (FirstDuplicate (names ss) h.0) (sym same.1) h.3) in
      let n = length-map ss (λ (s : HandedIn). (module_of s.checked).name) in
      let k = length-map words (λ (w : Bor (List ℕ)). w.now) in
      let file = slice_get-get_or (texts words) second [] (omega (arith, n, twins.within, long, k)) in
      let other = slice_get-get_or (texts words) first [] (omega (arith, n, twins.within, twins.before, long, k)) in
      names_one first second (get_or (texts words) second []) (get_or (texts words) first []) s (o (get_or (texts words) second []) (get_or (texts words) first []) file other) file other
      (subst (λ ns. FirstDuplicate ns first second) (names_so ss) twins)

  -- ---- where the files are read

  pub intended_so : (usage_line : List ℕ) (told : Option Files) (rb rn : ℕ) (words : List (List ℕ)) (M : List Source) (r : Result RunAnswer Memory) → NamesFiles words → ReadsAll told words M
      → IfOk r (λ a. AnswersSources Gives words M a.status a.output) → IfOk r (λ a. Intended usage_line Gives words told rb rn a.status a.output)
  intended_so usage_line told rb rn words M (Err e) named read h = tt
  intended_so usage_line told rb rn words M (Ok a) named read h = by h
    where
      by : AnswersSources Gives words M a.status a.output → Intended usage_line Gives words told rb rn a.status a.output
      by (gives_output s own g) = written s (record { named = named; sources = M; read = read; names = own; gives = g })
      by (names_one first second file other s o f g d) = stopped (declining (same_name first second file other s o named f g (record { sources = M; read = read; is = d })))

  pub says_so : (line usage_line : List ℕ) (words : List (List ℕ)) (told : Option Files) (rb rn : ℕ) (r : FilesRead) (answer : RunAnswer) → line ≡ usage_line → r ≡ Says answer → AreFilesRead line words told rb rn r
      → Intended usage_line Gives words told rb rn answer.status answer.output
  says_so line usage_line words told rb rn r answer same e h =
      stopped (subst (λ l. AreFilesRead l words told rb rn (Says answer)) same (subst (AreFilesRead line words told rb rn) e h))

-- ---- what reading the files gave

pub reads_so : (line : List ℕ) (words : List (List ℕ)) (told : Option Files) (rb rn : ℕ) (r : FilesRead) (ss : List HandedIn) → r ≡ Reads ss → AreFilesRead line words told rb rn r
    → NamesFiles words × ReadsAll told words (sources_so ss)
reads_so line words told rb rn r ss e h = subst (AreFilesRead line words told rb rn) e h

pub as_many : (told : Option Files) (words : List (Bor (List ℕ))) (ss : List HandedIn) → ReadsAll told (texts words) (sources_so ss) → length ss ≡ length words
as_many told words ss h =
    omega (arith, read_length told 0 (texts words) (sources_so ss) h.after h.read, length-map ss source_so, length-map words (λ (w : Bor (List ℕ)). w.now))
