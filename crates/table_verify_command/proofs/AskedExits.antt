-- A command with too many files: the way out.
use Rattle.std.proofs.Common.{◌≡◌, ℕ, ◌+◌, ◌-◌, ◌<◌, List, drop, length, refl, arith}
use Rattle.std.specs.Prelude.{Result, Ok, Err, Option, IfOk}
use Rattle.std.specs.Borrow.{Bor}
use Rattle.type_kinds.specs.declared.memory.Memory.{Memory}
use Rattle.da_shelf.specs.Told.{Files}
use Rattle.analysis_sources.specs.Words.{texts}
use Rattle.analysis_answers.specs.declared.run_answer.RunAnswer.{RunAnswer}
use Rattle.analysis_answers.specs.FileRuns.{too_many}
use Rattle.analysis_answers.specs.Lines.{too_many_line}
use Rattle.analysis_answers.specs.Words.{most_files}
use Rattle.analysis_answers.proofs.Texts.{texts_long}
use Rattle.table_verify_command.specs.declared.words.Task.{Task}
use Rattle.table_verify_command.specs.declared.words.Task.TheVariants.{Make, Check}
use Rattle.table_verify_command.specs.Outcome.{many, Intended, answered}
use Rattle.table_verify_command.specs.Words.{first_file, to_make, to_check, NamesTooMany, AskFor}
use Rattle.table_verify_command.proofs.Commands.{make_files, check_files}

module _ (words : List (Bor (List ℕ))) where
  behind : (task : Task) → AskFor (texts words) task → length words ≡ first_file task + length (drop (first_file task) (texts words))
  behind Make h = let f = make_files h.1 in omega (arith, f.1, texts_long words)
  behind Check h = let f = check_files h.2 in omega (arith, f.1, texts_long words)

  -- how many files there are
  counted : (task : Task) (start : ℕ) → AskFor (texts words) task → start ≡ first_file task → length words - start ≡ length (drop (first_file task) (texts words))
  counted task start h at = omega (arith, behind task h, at)

  names_many : (task : Task) → AskFor (texts words) task → most_files < length (drop (first_file task) (texts words)) → NamesTooMany (texts words)
  names_many Make h long = record { start = 2; files = drop 2 (texts words); command = to_make h.0 refl h.1; many = long }
  names_many Check h long = record { start = 3; files = drop 3 (texts words); command = to_check h.0 h.1 refl h.2; many = long }

  pub asks_much : (told : Option Files) (rb n : ℕ) (task : Task) (start : ℕ) (r : Result RunAnswer Memory) → AskFor (texts words) task → start ≡ first_file task → most_files < length words - start
      → IfOk r (λ a. a.status ≡ too_many) → IfOk r (λ a. a.output ≡ too_many_line) → IfOk r (λ a. Intended (texts words) told rb rb n n a.status a.output told)
  asks_much told rb n task start (Err e) h at long s o = tt
  asks_much told rb n task start (Ok a) h at long s o = answered (many s o refl (names_many task h (omega (arith, long, counted task start h at))))
