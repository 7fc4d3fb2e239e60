-- A check that passed is clean where its reports have no line, and has warnings where they have one.
use Rattle.std.proofs.Common.{◌≡◌, ◌≢◌, ◌⊎◌, ◌≤◌, inl, inr, ℕ, List, [], refl, sym, ◌∙◌, ap, Option, Some, None, arith}
use Rattle.std.specs.Prelude.{IfSome}
use Rattle.std.specs.List.{concat}
use Rattle.da_shelf.specs.Told.{Files}
use Rattle.dialyze_command.specs.declared.status.Status.{Status}
use Rattle.dialyze_command.specs.declared.status.Status.TheVariants.{Clean, Warnings}
use Rattle.dialyze_command.specs.OneOutcome.{BeginsFitly, OneOutcomeLaw}
use Rattle.dialyze_command.specs.Outcome.{SaysWhether, says_no, says_yes, Outcome, usage, many, no_table, bad_table, faulty, duplicate_module, long_table, passed, made, Intended, IsAnswer}
use Rattle.dialyze_command.specs.Reported.{Reports, ComesOf}
use Rattle.dialyze_command.specs.Words.{IsMake}
use Rattle.dialyze_command.proofs.CheckExits.{outcome_of, makes_it}
use Rattle.dialyze_command.proofs.Numbers.{mark, mark_of}

-- a check that passed wrote the lines of its reports, and said whether there are any
data Said (words : List (List ℕ)) (held : Files) (status : Status) : Type 0 where
  said : (output : List ℕ) → SaysWhether status output → Reports words held (λ lines. lines ≡ output) → Said words held status
  summed : (count : ℕ) → IsMake words count → status ≡ Warnings → Said words held status

said_so : {words : List (List ℕ)} {held : Files} {after : Option Files} {status : Status} {output : List ℕ} → Outcome words (Some held) status output after → 100 ≤ mark status → mark status ≤ 101
    → Said words held status
said_so (usage a b c d) h k = absurd (omega (arith, k, ap mark a))
said_so (many a b c d) h k = absurd (omega (arith, h, ap mark a))
said_so (no_table at name a b c names lacks) h k = absurd (omega (arith, h, ap mark a))
said_so (bad_table at name bytes fault a b c names holds is) h k = absurd (omega (arith, k, ap mark a))
said_so (faulty command files at file fault a b c d f g) h k = absurd (omega (arith, h, ap mark a, (mark_of fault.name).0))
said_so (duplicate_module command files first second file other a b c d f g i) h k = absurd (omega (arith, h, ap mark a))
said_so (long_table command reports new at name a b c d names long) h k = absurd (omega (arith, h, ap mark a))
said_so {after = after} {output = output} (passed command reports new says c d f) h k =
    said output says (record { command = command; reports = reports; new = new; after = after; analyses = d; stored = f; are = sym c })
said_so (made count asks is c) h k = summed count asks is.status_so

-- what is reported, where something else is known of the same lines
re_reported : {words : List (List ℕ)} {held : Files} {output : List ℕ} {Are : List ℕ → Type 0} → Reports words held (λ lines. lines ≡ output) → ((lines : List ℕ) → lines ≡ output → Are lines)
    → Reports words held Are
re_reported r f = record { command = r.command; reports = r.reports; new = r.new; after = r.after; analyses = r.analyses; stored = r.stored; are = f (concat r.reports) r.are }

clean_said : {words : List (List ℕ)} {held : Files} {status : Status} → Said words held status → status ≡ Clean → Reports words held (λ lines. lines ≡ [])
clean_said (said output (says_no a b) r) e = re_reported r (λ lines same. same ∙ b)
clean_said (said output (says_yes a b) r) e = absurd (omega (arith, ap mark (sym a ∙ e)))
clean_said (summed count asks a) e = absurd (omega (arith, ap mark (sym a ∙ e)))

warned_said : {words : List (List ℕ)} {held : Files} {status : Status} → Said words held status → status ≡ Warnings → Reports words held (λ lines. lines ≢ []) ⊎ ((count : ℕ) × IsMake words count)
warned_said (said output (says_no a b) r) e = absurd (omega (arith, ap mark (sym a ∙ e)))
warned_said (said output (says_yes a b) r) e = inl (re_reported r (λ lines same none. b (sym same ∙ none)))
warned_said (summed count asks a) e = inr (count, asks)

module _ (one : OneOutcomeLaw) (words : List (List ℕ)) where
  -- the outcome of a check that reports this is that of these words
  outcome_so : {held : Files} {after : Option Files} {status : Status} {output : List ℕ} {Are : List ℕ → Type 0} → BeginsFitly words held → Outcome words (Some held) status output after
      → (r : Reports words held Are) → (is : Status) → SaysWhether is (concat r.reports) → status ≡ is
  outcome_so {held} {after} {status} {output} fit o r is says =
      (one words held status is output (concat r.reports) after r.after fit o (passed r.command r.reports r.new says refl r.analyses r.stored)).0

  pub clean_it : (told after : Option Files) (rb rn n k : ℕ) (status : Status) (output : List ℕ) → Intended words told rb rn n k status output after → IsAnswer status
      → IfSome told (λ held. ComesOf words held (status ≡ Clean) (Reports words held (λ lines. lines ≡ [])))
  clean_it None after rb rn n k status output h a = tt
  clean_it (Some held) after rb rn n k status output h a =
      let o = outcome_of a h in
      (λ e. clean_said (said_so o (omega (arith, ap mark e)) (omega (arith, ap mark e))) e, λ fit r. outcome_so fit o r Clean (says_no refl r.are))

  pub warned_it : (told after : Option Files) (rb rn n k : ℕ) (status : Status) (output : List ℕ) → Intended words told rb rn n k status output after → IsAnswer status
      → IfSome told (λ held. ComesOf words held (status ≡ Warnings) (Reports words held (λ lines. lines ≢ []) ⊎ ((count : ℕ) × IsMake words count)))
  warned_it None after rb rn n k status output h a = tt
  warned_it (Some held) after rb rn n k status output h a = (
    λ e. warned_said (said_so (outcome_of a h) (omega (arith, ap mark e)) (omega (arith, ap mark e))) e,
    λ fit cause. elim cause [
      | inl r ↦ outcome_so fit (outcome_of a h) r Warnings (says_yes refl r.are)
      | inr make ↦ makes_it words (Some held) after rb rn n k status output h a make.0 make.1
    ],
  )
