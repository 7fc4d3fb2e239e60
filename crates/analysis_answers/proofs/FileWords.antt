-- A file that isn't read, where the files are the words from one on: the code names it by its position among all words.
use Rattle.std.proofs.Common.{◌≡◌, ℕ, ◌+◌, ◌<◌, List, drop, length, get_or, slice_get, Option, Some, sym, ap, ◌∙◌, arith}
use Rattle.std.specs.Borrow.{Bor}
use Rattle.std.proofs.lemmas.Option.{slice_get_within, same_Some}
use Rattle.da_shelf.specs.Told.{Files}
use Rattle.analysis_sources.specs.declared.reading.ReadFault.TheVariants as read
use Rattle.analysis_sources.specs.declared.refusals.SourceFault.{SourceFault}
use Rattle.analysis_sources.specs.Reading.{RefusedAt, not_held, at_fault, Fails}
use Rattle.analysis_sources.specs.Words.{texts}
use Rattle.analysis_answers.proofs.Texts.{texts_at, word_of, within_words}

-- a file that is refused has a name
pub refused_name : {told : Option Files} {files : List (List ℕ)} {at : ℕ} {fault : SourceFault} → RefusedAt told files at fault → (file : List ℕ) × (slice_get files at ≡ Some file)
refused_name (not_held e h) = (h.file, h.reached.there)
refused_name (at_fault h) = (h.file, h.reached.there)

module _ (words : List (Bor (List ℕ))) (start : ℕ) where
  abbrev files : List (List ℕ)
  files = drop start (texts words)

  -- the file's position and name, as a position among the words and the word there
  word_there : (at word : ℕ) (file : List ℕ) → word ≡ start + at → slice_get files at ≡ Some file → word < length words
  word_there at word file e there =
      let low = within_words words start at (slice_get_within files at file there) in
      omega arith

  name_there : (at word : ℕ) (file : List ℕ) (d : Bor (List ℕ)) → word ≡ start + at → slice_get files at ≡ Some file → (get_or words word d).now ≡ file
  name_there at word file d e there =
      same_Some _ _ (sym (texts_at words word d (word_there at word file e there)) ∙ ap (slice_get (texts words)) e ∙ word_of (texts words) start at ∙ there)

  module _ (told : Option Files) (rb rn : ℕ) where
    pub refused_within : (word : ℕ) (fault : SourceFault) → Fails told files start rb rn (read.Refused word fault) → word < length words
    refused_within word fault h = let file = refused_name h.2 in word_there h.0 word file.0 h.1 file.1

    pub refused_word : (word : ℕ) (fault : SourceFault) (d : Bor (List ℕ)) → (h : Fails told files start rb rn (read.Refused word fault)) → (get_or words word d).now ≡ (refused_name h.2).0
    refused_word word fault d h = let file = refused_name h.2 in name_there h.0 word file.0 d h.1 file.1

    pub failed_within : (word : ℕ) → Fails told files start rb rn (read.Failed word) → word < length words
    failed_within word h = word_there h.0 word h.2.0 h.1 h.2.2.there

    pub failed_word : (word : ℕ) (d : Bor (List ℕ)) → (h : Fails told files start rb rn (read.Failed word)) → (get_or words word d).now ≡ h.2.0
    failed_word word d h = name_there h.0 word h.2.0 d h.1 h.2.2.there
