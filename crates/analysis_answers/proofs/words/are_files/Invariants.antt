use Rattle.std.proofs.Common.{◌↔◌, drop}
use Rattle.analysis_sources.specs.Words.{texts}
use Rattle.analysis_answers.specs.Words.{AreFiles}
use Rattle.analysis_answers.proofs.words.are_files.Given as goal

abbrev pub invariant-loop-word : goal.invariant-loop-word
invariant-loop-word l = AreFiles (texts (drop l.word-index l.words)) ↔ AreFiles (texts l.words)
