-- What reading files gives, all of them: their sources, and whether their modules have names of their own.
use Rattle.std.specs.Prelude.{ℕ, ◌<◌, List, length, map, Option}
use Rattle.core_ast.specs.Model as m
use Rattle.core_scope.specs.Sets.{StandsEarlier, FirstDuplicate}
use Rattle.da_shelf.specs.Told.{Files}
use Rattle.table_keep.specs.Model.{Source, trees}
use Rattle.analysis_sources.specs.Reading.{AreRead}

-- All files are read, as these sources.
pub record ReadsAll (told : Option Files) (files : List (List ℕ)) (sources : List Source) : Type 0 where
  pub after : ℕ
  pub read : AreRead told 0 files sources after

-- No module has the name of one before it.
abbrev pub HaveOwnNames : List m.Module → Type 0
HaveOwnNames xs = (j : ℕ) → j < length xs → StandsEarlier (map (λ x. x.name) xs) j → ⊥

-- All files are read, and the module of the second of two is the first that has the name of one before it.
pub record IsDuplicate (told : Option Files) (files : List (List ℕ)) (first second : ℕ) : Type 0 where
  pub sources : List Source
  pub read : ReadsAll told files sources
  pub is : FirstDuplicate (map (λ x. x.name) (trees sources)) first second
