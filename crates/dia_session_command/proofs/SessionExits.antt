-- A script is read and carried out: each way out.
use Rattle.std.proofs.Common.{◌≡◌, ℕ, ◌≤◌, List, map, refl, sym, subst, inl, inr, arith}
use Rattle.std.specs.Prelude.{Option}
use Rattle.da_shelf.proofs.CountLaws.{rose_since}
use Rattle.da_shelf.specs.Told.{Files, appended}
use Rattle.analysis_sources.specs.declared.refusals.Device.TheVariants.{Read}
use Rattle.analysis_answers.specs.declared.run_answer.RunAnswer.{RunAnswer}
use Rattle.analysis_answers.specs.declared.run_status.RunStatus.{RunStatus}
use Rattle.analysis_answers.specs.declared.run_status.RunStatus.TheVariants.{DeviceFault}
use Rattle.analysis_answers.specs.Lines.{read_fault_line}
use Rattle.dia_session_command.specs.declared.session.ScriptRead.TheVariants.{Says}
use Rattle.dia_session_command.specs.declared.script.ScriptLine.{ScriptLine}
use Rattle.dia_session_command.specs.Lines.{bad_line, bad_line_line}
use Rattle.dia_session_command.specs.Script.{Request, request_so, IsScript, IsBadLine}
use Rattle.dia_session_command.specs.Session.{ReadsScript, line_is_bad}
use Rattle.dia_session_command.specs.Words.{IsCommand, by_itself, by_workers}
use Rattle.dia_session_command.specs.steps.Carrying.{IsCarried, done, ends}
use Rattle.dia_session_command.specs.steps.Ending.{IsSaid, IsScriptRead, EndsScript, out_of_memory, refuses, unread, carries}
use Rattle.dia_session_command.proofs.Carried.{fails_since}

-- ---- the shelf was read before

carried_since : (told : Option Files) (requests : List Request) (early reads now first last : ℕ) (written after : Option (List ℕ)) (status : RunStatus) → early ≤ reads
    → IsCarried told requests reads now first last written after status → IsCarried told requests early now first last written after status
carried_since told requests early reads now first last written after status low (done e output held give w) = done e output held give w
carried_since told requests early reads now first last written after status low (ends h) = ends (record {
  first = h.first;
  request = h.request;
  rest = h.rest;
  split = h.split;
  output = h.output;
  held = h.held;
  give = h.give;
  fault = h.fault;
  status_so = h.status_so;
  is = fails_since told h.held h.request early reads now first first last (appended written h.output) (appended written h.output) after h.fault low (omega arith) refl h.is;
})

module _ (told : Option Files) (script : List ℕ) (word early reads now first last : ℕ) (written after : Option (List ℕ)) (status : RunStatus) (low : early ≤ reads) where
  since : EndsScript told script word reads now first last written after status → EndsScript told script word early now first last written after status
  since (out_of_memory e w) = out_of_memory e w
  since (refuses answer output r s) = refuses answer output r s
  since (unread rose s) = unread (rose_since early reads now low rose) s
  since (carries bytes requests r i c) = carries bytes requests r i (carried_since told requests early reads now first last written after status low c)

  pub ends_since : (mid : Option Files) → mid ≡ told → EndsScript mid script word reads now first last written after status → EndsScript told script word early now first last written after status
  ends_since mid e h = since (subst (λ t. EndsScript t script word reads now first last written after status) e h)

-- ---- the script

-- what was written is this answer
pub said_so : (answer : RunAnswer) (said status : RunStatus) (output : List ℕ) (first last : ℕ) (written after : Option (List ℕ)) → answer.status ≡ said → answer.output ≡ output
    → IsSaid answer.status answer.output first last written after status → IsSaid said output first last written after status
said_so answer said status output first last written after e o s =
    subst (λ a. IsSaid a output first last written after status) e (subst (λ (text : List ℕ). IsSaid answer.status text first last written after status) o s)

pub says_script : (told : Option Files) (script : List ℕ) (word reads now first last : ℕ) (written after : Option (List ℕ)) (answer : RunAnswer) (status : RunStatus) → IsScriptRead told script word reads now (Says answer)
    → IsSaid answer.status answer.output first last written after status → EndsScript told script word reads now first last written after status
says_script told script word reads now first last written after answer status (inl r) s = refuses answer.status answer.output r s
says_script told script word reads now first last written after answer status (inr k) s =
    unread k.2 (said_so answer (DeviceFault (Read word)) status (read_fault_line script) first last written after k.0 k.1 s)

-- it is read as these bytes, also by the shelf that read it
pub script_is_read : (told mid : Option Files) (script items bytes : List ℕ) → mid ≡ told → bytes ≡ items → ReadsScript told script items → ReadsScript mid script bytes
script_is_read told mid script items bytes m e h = subst (λ t. ReadsScript t script bytes) (sym m) (subst (ReadsScript told script) (sym e) h)

-- ---- its lines

pub lines_carried : (told : Option Files) (script bytes : List ℕ) (word reads now first last : ℕ) (written after : Option (List ℕ)) (status : RunStatus) (lines shown : List ScriptLine) → shown ≡ lines
    → ReadsScript told script bytes
    → IsScript bytes (map request_so lines) → IsCarried told (map request_so shown) reads now first last written after status → EndsScript told script word reads now first last written after status
lines_carried told script bytes word reads now first last written after status lines shown e r i c =
    carries bytes (map request_so shown) r (subst (λ (ls : List ScriptLine). IsScript bytes (map request_so ls)) (sym e) i) c

pub line_refused : (told : Option Files) (script bytes : List ℕ) (word number reads now first last : ℕ) (written after : Option (List ℕ)) (answer : RunAnswer) (status : RunStatus) → ReadsScript told script bytes
    → IsBadLine bytes number → answer.status ≡ bad_line word number → answer.output ≡ bad_line_line script number → IsSaid answer.status answer.output first last written after status
    → EndsScript told script word reads now first last written after status
line_refused told script bytes word number reads now first last written after answer status r bad s o said = refuses answer.status answer.output (line_is_bad bytes number s o r bad) said

-- ---- the words

pub workers_fit : (words : List (List ℕ)) (workers : ℕ) (script : List ℕ) (word : ℕ) → IsCommand words workers script word → (1 ≤ workers) × (workers ≤ 64)
workers_fit words workers script word (by_itself a one c d) = (omega (arith, one), omega (arith, one))
workers_fit words workers script word (by_workers a least most c d) = (least, most)
