-- The table that a check begins with: each way out.
use Rattle.std.proofs.Common.{◌≡◌, ℕ, ◌<◌, List, length, get_or, Option, Some, Result, Ok, Err, subst}
use Rattle.std.specs.Prelude.{IfOk, IfSome}
use Rattle.std.specs.Borrow.{Bor}
use Rattle.type_kinds.specs.declared.memory.Memory.{Memory}
use Rattle.da_shelf.specs.Told.{Files, Holds}
use Rattle.analysis_sources.specs.Words.{texts}
use Rattle.analysis_answers.specs.Tables.{IsFaultOf, Spells}
use Rattle.dialyze_command.specs.declared.begin.Begun.{Begun}
use Rattle.dialyze_command.specs.declared.begin.Begun.TheVariants.{Reads, Says}
use Rattle.dialyze_command.specs.Outcome.{named}
use Rattle.dialyze_command.specs.steps.Plans.{faulty, IsOfBytes, IsReadAs, IsBegunAs}
use Rattle.analysis_answers.proofs.Texts.{texts_at}

pub bytes_read : (told : Option Files) (word : ℕ) (name bytes items : List ℕ) (rb rn : ℕ) (r : Result Begun Memory) → items ≡ bytes → Holds told name bytes
    → IfOk r (λ b. IsOfBytes name items b) → IfOk r (λ b. IsReadAs told word name rb rn b)
bytes_read told word name bytes items rb rn (Ok (Reads table)) same held h = record { bytes = bytes; held_so = held; spells = subst (Spells table) same h }
bytes_read told word name bytes items rb rn (Ok (Says answer)) same held h = faulty bytes h.0 h.1 h.2 held (subst (λ b. IsFaultOf b h.0) same h.3)
bytes_read told word name bytes items rb rn (Err e) same held h = tt

pub begun_named : (ws : List (Bor (List ℕ))) (told : Option Files) (plt : Option ℕ) (word : ℕ) (rb rn : ℕ) (d : Bor (List ℕ)) (r : Result Begun Memory) → plt ≡ Some word → IfSome plt (λ w. w < length ws)
    → IfOk r (λ b. IsReadAs told word (get_or ws word d).now rb rn b) → IfOk r (λ b. IsBegunAs (texts ws) told plt rb rn b)
begun_named ws told plt word rb rn d (Ok (Reads table)) e h read =
    named word (get_or ws word d).now (record { given = e; there = texts_at ws word d (subst (λ o. IfSome o (λ w. w < length ws)) e h) }) read
begun_named ws told plt word rb rn d (Ok (Says answer)) e h read =
    (word, (get_or ws word d).now, record { given = e; there = texts_at ws word d (subst (λ o. IfSome o (λ w. w < length ws)) e h) }, read)
begun_named ws told plt word rb rn d (Err e) f h read = tt
