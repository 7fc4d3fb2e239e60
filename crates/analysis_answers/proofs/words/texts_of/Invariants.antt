use Rattle.std.proofs.Common.{◌≡◌, map, take}
use Rattle.std.specs.String.{string_bytes}
use Rattle.analysis_sources.specs.Words.{texts}
use Rattle.analysis_answers.proofs.words.texts_of.Given as goal

abbrev pub invariant-loop-word : goal.invariant-loop-word
invariant-loop-word l = texts l.found ≡ map string_bytes (take l.word-index l.words.items)
