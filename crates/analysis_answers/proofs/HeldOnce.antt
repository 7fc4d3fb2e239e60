-- What is held decides what is read of it: the bytes of a name, the table that they spell or its first fault, and the sources of files,
-- or the first file that is refused, or the first two whose modules have one name.
use Rattle.std.proofs.Common.{◌≡◌, ℕ, List, map, Some, sym, ◌∙◌, ap, subst, IsTrue}
use Rattle.std.specs.FinMap.{get}
use Rattle.std.specs.List.{list_all}
use Rattle.std.proofs.lemmas.Option.{same_Some, none-some}
use Rattle.core_ast.specs.Model as m
use Rattle.core_scope.specs.Sets.{FirstDuplicate}
use Rattle.da_shelf.specs.Told.{Files, Holds, Lacks}
use Rattle.table_file.specs.declared.tables.Table.{Table}
use Rattle.table_file.specs.declared.faults.TableFault.{TableFault as FaultOfTable}
use Rattle.table_file.specs.declared.faults.TableFault.TheVariants as t
use Rattle.table_file.specs.Faults.{IsFirst}
use Rattle.table_file.specs.Lengths.{has_short_types}
use Rattle.table_file.specs.Spelling.{table_bytes}
use Rattle.table_keep.specs.Model.{Source, trees}
use Rattle.analysis_sources.specs.declared.refusals.SourceFault.{SourceFault}
use Rattle.analysis_sources.specs.Reading.{AreRead, RefusedAt}
use Rattle.analysis_answers.specs.ReadFiles.{HaveOwnNames, IsDuplicate, ReadsAll}
use Rattle.analysis_answers.specs.Tables.{IsFaultOf, IsTableRead}
use Rattle.analysis_answers.proofs.FileRefusals.{one_duplicate, own_names}

-- ---- what reading files and tables promises

abbrev pub OneList : Type 0
OneList = (held : Files) (files : List (List ℕ)) (xs ys : List Source) (a b : ℕ) → AreRead (Some held) 0 files xs a → AreRead (Some held) 0 files ys b → xs ≡ ys

abbrev pub OneRefusal : Type 0
OneRefusal = (held : Files) (files : List (List ℕ)) (i j : ℕ) (f g : SourceFault) → RefusedAt (Some held) files i f → RefusedAt (Some held) files j g → (i ≡ j) × (f ≡ g)

abbrev pub NoneRefused : Type 0
NoneRefused = (held : Files) (files : List (List ℕ)) (xs : List Source) (after i : ℕ) (f : SourceFault) → AreRead (Some held) 0 files xs after → RefusedAt (Some held) files i f → ⊥

abbrev pub OnceSpelled : Type 0
OnceSpelled = (s t : Table) → IsTrue (list_all has_short_types s.entries) → IsTrue (list_all has_short_types t.entries) → table_bytes s ≡ table_bytes t → s ≡ t

abbrev pub OneFault : Type 0
OneFault = (f g : FaultOfTable) (bytes : List ℕ) → (f ≡ t.Memory → ⊥) → (g ≡ t.Memory → ⊥) → IsFirst f bytes → IsFirst g bytes → f ≡ g

abbrev pub NoFault : Type 0
NoFault = (f : FaultOfTable) (table : Table) → IsTrue (list_all has_short_types table.entries) → IsFirst f (table_bytes table) → f ≡ t.Memory

-- ---- a name and its bytes

pub one_held : (held : Files) {m n : List ℕ} {a b : List ℕ} → m ≡ n → Holds (Some held) m a → Holds (Some held) n b → a ≡ b
one_held held e h k = same_Some _ _ (sym h ∙ ap (get held) e ∙ k)

pub not_both_held : (held : Files) {m n : List ℕ} {a : List ℕ} → m ≡ n → Holds (Some held) m a → Lacks (Some held) n → ⊥
not_both_held held e h k = absurd (none-some _ (sym k ∙ sym (ap (get held) e) ∙ h))

-- ---- a table

pub one_table : (once : OnceSpelled) (held : Files) {m n : List ℕ} {table other : Table} → m ≡ n → IsTableRead (Some held) m table → IsTableRead (Some held) n other → table ≡ other
one_table once held {table = table} {other = other} e h k =
    once table other h.spells.short k.spells.short (sym h.spells.bytes_so ∙ one_held held e h.held_so k.held_so ∙ k.spells.bytes_so)

-- a table that is read has no fault
pub not_faulty : (no_fault : NoFault) (held : Files) {m n bytes : List ℕ} {fault : FaultOfTable} {table : Table} → m ≡ n → Holds (Some held) m bytes → IsFaultOf bytes fault
    → IsTableRead (Some held) n table → ⊥
not_faulty no_fault held {fault = fault} {table = table} e holds is read =
    is.some (no_fault fault table read.spells.short (subst (IsFirst fault) (one_held held e holds read.held_so ∙ read.spells.bytes_so) is.first))

pub one_fault : (fault_once : OneFault) (held : Files) {m n bytes texts : List ℕ} {fault other : FaultOfTable} → m ≡ n → Holds (Some held) m bytes → IsFaultOf bytes fault
    → Holds (Some held) n texts → IsFaultOf texts other → fault ≡ other
one_fault fault_once held {texts = texts} {fault = fault} {other = other} e holds is also so =
    fault_once fault other texts is.some so.some (subst (IsFirst fault) (one_held held e holds also) is.first) so.first

-- ---- files

-- a file that is refused isn't read
pub not_read : (none_refused : NoneRefused) {held : Files} {files : List (List ℕ)} {at : ℕ} {fault : SourceFault} {M : List Source} → RefusedAt (Some held) files at fault → ReadsAll (Some held) files M → ⊥
not_read none_refused {held} {files} {at} {fault} {M} h k = none_refused held files M k.after at fault k.read h

module _ (one_list : OneList) {held : Files} {files : List (List ℕ)} where
  pub one_reading : {M N : List Source} → ReadsAll (Some held) files M → ReadsAll (Some held) files N → M ≡ N
  one_reading {M} {N} h k = one_list held files M N h.after k.after h.read k.read

  -- modules with names of their own have no two with the same name
  pub not_repeated : {first second : ℕ} {M : List Source} → IsDuplicate (Some held) files first second → ReadsAll (Some held) files M → HaveOwnNames (trees M) → ⊥
  not_repeated {first = first} {second = second} h read own = own_names (trees h.sources) first second (subst (λ N. HaveOwnNames (trees N)) (one_reading read h.read) own) h.is

  pub one_repeated : {i j k l : ℕ} → IsDuplicate (Some held) files i j → IsDuplicate (Some held) files k l → (i ≡ k) × (j ≡ l)
  one_repeated {i = i} {j = j} {k = k} {l = l} h g =
      let names = map (λ (x : m.Module). x.name) (trees h.sources) in
      one_duplicate names i j k l h.is (subst (λ M. FirstDuplicate (map (λ (x : m.Module). x.name) (trees M)) k l) (one_reading g.read h.read) g.is)
