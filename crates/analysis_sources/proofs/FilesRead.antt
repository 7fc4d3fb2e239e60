-- The words of files from one on, as texts, and how many sources are read of files.
use Rattle.std.proofs.Common.{◌≡◌, ℕ, zero, suc, ◌+◌, ◌-◌, List, [], ◌∷◌, length, take, drop, Option, Bor, take_all, length-drop, refl, ap, ◌∙◌, arith}
use Rattle.table_keep.specs.Model.{Source}
use Rattle.da_shelf.specs.Told.{Files}
use Rattle.analysis_sources.specs.Reading.{AreRead}
use Rattle.analysis_sources.specs.Words.{texts}

pub texts_behind : (n : ℕ) (words : List (Bor (List ℕ))) → texts (drop n words) ≡ drop n (texts words)
texts_behind zero words = refl
texts_behind (suc n) [] = refl
texts_behind (suc n) (w ∷ words) = texts_behind n words

pub texts_from : (words : List (Bor (List ℕ))) (n : ℕ) → texts (take (length words - n) (drop n words)) ≡ drop n (texts words)
texts_from words n = ap texts (take_all (length words - n) (drop n words) (omega (arith, length-drop n words))) ∙ texts_behind n words

-- as many sources as files
pub read_length : (told : Option Files) (before : ℕ) (fs : List (List ℕ)) (xs : List Source) (after : ℕ) → AreRead told before fs xs after → length fs ≡ length xs
read_length told before [] [] after e = refl
read_length told before [] (x ∷ xs) after e = absurd e
read_length told before (f ∷ fs) [] after e = absurd e
read_length told before (f ∷ fs) (x ∷ xs) after e = ap suc (read_length told (before + length e.0) fs xs after e.3)
