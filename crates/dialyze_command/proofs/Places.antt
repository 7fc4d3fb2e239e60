-- Where names stand among the words of a command.
use Rattle.std.proofs.Common.{◌≡◌, ℕ, ◌+◌, ◌-◌, ◌*◌, ◌<◌, ◌≤◌, ◌^◌, List, [], ◌∷◌, length, drop, Option, Some, None, refl, sym, ap, subst, arith}
use Rattle.std.specs.Prelude.{IfSome}
use Rattle.std.proofs.lemmas.List.{length-drop}
use Rattle.dialyze_command.specs.declared.words.Command.{Command}
use Rattle.dialyze_command.specs.declared.words.OptionName.{OptionName}
use Rattle.dialyze_command.specs.declared.words.OptionName.TheVariants.{Plt, Out, Workers}
use Rattle.dialyze_command.specs.Words.{AreOptions, no_more, one_more, Adds, plain, IsCheck, workers_asked, most_workers}

-- whether it is given
abbrev given : Option ℕ → ℕ
given None = 0
given (Some n) = 1

given_most : (o : Option ℕ) → given o ≤ 1
given_most None = omega arith
given_most (Some n) = omega arith

-- the position is of a word behind the first, before the files
abbrev IsBefore : (start : ℕ) → Option ℕ → Type 0
IsBefore start None = Unit {0}
IsBefore start (Some word) = (1 ≤ word) × (word < start)

later : (start more : ℕ) (o : Option ℕ) → start ≤ more → IsBefore start o → IsBefore more o
later start more None h k = tt
later start more (Some word) h k = (k.0, omega (arith, h, k.1))

-- so many workers may be asked for
abbrev AreWorkers : Option ℕ → Type 0
AreWorkers asked = (1 ≤ workers_asked asked) × (workers_asked asked ≤ most_workers)

record IsPlaced (c : Command) : Type 0 where
  pub plt : IsBefore c.start c.plt
  pub out : IsBefore c.start c.out
  pub workers : AreWorkers c.workers
  pub start : c.start ≡ 1 + 2 * (given c.plt + given c.out + given c.workers)

placed_more : (option : OptionName) (value : List ℕ) (before now : Command) → Adds option value before now → IsPlaced before → IsPlaced now
placed_more Plt value before now h p =
    subst IsPlaced (sym h.2)
    (record {
      plt = (omega (arith, p.start), omega arith);
      out = later before.start (before.start + 2) before.out (omega arith) p.out;
      workers = p.workers;
      start = let none : given before.plt ≡ 0 = ap given h.0 in omega (arith, p.start, none);
    })
placed_more Out value before now h p =
    subst IsPlaced (sym h.2)
    (record {
      plt = later before.start (before.start + 2) before.plt (omega arith) p.plt;
      out = (omega (arith, p.start), omega arith);
      workers = p.workers;
      start = let none : given before.out ≡ 0 = ap given h.0 in omega (arith, p.start, none);
    })
placed_more Workers value before now h p =
    subst IsPlaced (sym h.1.4)
    (record {
      plt = later before.start (before.start + 2) before.plt (omega arith) p.plt;
      out = later before.start (before.start + 2) before.out (omega arith) p.out;
      workers = (h.1.2, h.1.3);
      start = let none : given before.workers ≡ 0 = ap given h.0 in omega (arith, p.start, none);
    })

placed_options : (words : List (List ℕ)) (before now : Command) → AreOptions words before now → IsPlaced before → IsPlaced now
placed_options words before now (no_more ws b n e same) p = subst IsPlaced (sym same) p
placed_options words before now (one_more ws b n option value more next e adds asked) p =
    placed_options more next now asked (placed_more option value before next adds p)

placed : {words files : List (List ℕ)} {command : Command} → IsCheck words command files → IsPlaced command
placed {command = command} h = placed_options h.options plain command h.asked (record { plt = tt; out = tt; workers = (omega arith, omega arith); start = refl })

pub start_late : {words files : List (List ℕ)} {command : Command} → IsCheck words command files → 1 ≤ command.start
start_late h = let p = placed h in omega (arith, p.start)

pub start_small : {words files : List (List ℕ)} {command : Command} → IsCheck words command files → command.start ≤ 7
start_small {command = command} h =
    let p = placed h in
    omega (arith, p.start, given_most command.plt, given_most command.out, given_most command.workers)

before_start : (start : ℕ) (o : Option ℕ) (word : ℕ) → IsBefore start o → o ≡ Some word → (1 ≤ word) × (word < start)
before_start start o word p e = subst (IsBefore start) e p

pub workers_so : {words files : List (List ℕ)} {command : Command} → IsCheck words command files → (1 ≤ workers_asked command.workers) × (workers_asked command.workers ≤ most_workers)
workers_so h = (placed h).workers

pub plt_before : {words files : List (List ℕ)} {command : Command} → IsCheck words command files → (word : ℕ) → command.plt ≡ Some word → (1 ≤ word) × (word < command.start)
plt_before {command = command} h word e = before_start command.start command.plt word (placed h).plt e

pub out_before : {words files : List (List ℕ)} {command : Command} → IsCheck words command files → (word : ℕ) → command.out ≡ Some word → (1 ≤ word) × (word < command.start)
out_before {command = command} h word e = before_start command.start command.out word (placed h).out e

pub files_there : {words : List (List ℕ)} {command : Command} → IsCheck words command (drop command.start words) → command.start < length words
files_there {words} {command} h = by (drop command.start words) (length-drop command.start words) h.some
  where
    by : (fs : List (List ℕ)) → length fs ≡ length words - command.start → (fs ≡ [] → ⊥) → command.start < length words
    by [] e some = absurd (some refl)
    by (f ∷ fs) e some = omega arith

-- the same of each option, as the code asks for it
within_by : (start many : ℕ) (o : Option ℕ) → start < many → IsBefore start o → IfSome o (λ word. word < many)
within_by start many None h p = tt
within_by start many (Some word) h p = omega (arith, h, p.1)

module _ (words : List (List ℕ)) (command : Command) (many : ℕ) (long : many ≡ length words) (h : IsCheck words command (drop command.start words)) where
  pub plt_within : IfSome command.plt (λ word. word < many)
  plt_within = within_by command.start many command.plt (omega (arith, long, files_there h)) (placed h).plt

  pub out_within : IfSome command.out (λ word. word < many)
  out_within = within_by command.start many command.out (omega (arith, long, files_there h)) (placed h).out

  pub plt_small : IfSome command.plt (λ word. word < 2 ^ 32)
  plt_small = within_by command.start (2 ^ 32) command.plt (omega (arith, start_small h)) (placed h).plt

  pub out_small : IfSome command.out (λ word. word < 2 ^ 32)
  out_small = within_by command.start (2 ^ 32) command.out (omega (arith, start_small h)) (placed h).out
