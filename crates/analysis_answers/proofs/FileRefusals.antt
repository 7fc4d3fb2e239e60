-- What a file's refusal tells, and that at most one file is the first whose module has the name of one before it.
use Rattle.std.proofs.Common.{◌≡◌, ◌≢◌, ◌⊎◌, inl, inr, ℕ, ◌<◌, ◌≤◌, List, length, map, slice_get, refl, sym, ◌∙◌, ap, subst, Some, arith}
use Rattle.std.specs.Prelude.{if◌then◌else◌, nat_eq}
use Rattle.std.proofs.lemmas.Bool.{cases_lt}
use Rattle.std.proofs.lemmas.List.{length-map}
use Rattle.std.proofs.lemmas.Option.{same_Some, none-some}
use Rattle.type_kinds.specs.declared.atom.Atom.{Atom}
use Rattle.core_ast.specs.Model as m
use Rattle.core_scan.specs.declared.token.ScanFault.{ScanFault}
use Rattle.core_scan.specs.declared.token.ScanFault.TheVariants as s
use Rattle.core_parse_grammar.specs.declared.fault.ParseFault.{ParseFault}
use Rattle.core_parse_grammar.specs.declared.fault.ParseFault.TheVariants as p
use Rattle.core_scope.specs.Sets.{StandsEarlier, FirstDuplicate}
use Rattle.core_scope.specs.declared.fault.ScopeRule.{ScopeRule}
use Rattle.core_scope.specs.declared.fault.ScopeRule.TheVariants.{BoundVariables, DistinctVariables, DefinedFunctions, DistinctFunctions, DefinedExports, Degrees}
use Rattle.analysis_sources.specs.declared.refusals.Refusal.{Refusal}
use Rattle.analysis_sources.specs.declared.refusals.RefusalName.{RefusalName}
use Rattle.analysis_sources.specs.declared.refusals.RefusalName.TheVariants as r
use Rattle.analysis_sources.specs.declared.refusals.SourceFault.{SourceFault}
use Rattle.analysis_sources.specs.Refusals.{refusal_number, missing}
use Rattle.analysis_sources.specs.Sources.{of_the_whole, scan_refusal, parse_refusal, rule_name, IsAtFault, too_long, not_scanned, not_parsed, not_accepted}
use Rattle.analysis_answers.specs.declared.run_status.RunStatus.{RunStatus}
use Rattle.analysis_answers.specs.declared.run_status.RunStatus.TheVariants.{Done, Refused, TableFault, DeviceFault, Memory, Usage}
use Rattle.analysis_answers.specs.Lines.{too_many_refusal}
use Rattle.analysis_answers.specs.ReadFiles.{HaveOwnNames}
use Rattle.analysis_answers.specs.FileRuns.{refused}

-- ---- what the number of a refusal tells

abbrev pub by_number : ℕ → RefusalName
by_number n =
    if nat_eq n 1 then r.BadByte
    else if nat_eq n 2 then r.OpenQuote
    else if nat_eq n 3 then r.BadEscape
    else if nat_eq n 4 then r.WideInteger
    else if nat_eq n 5 then r.Syntax
    else if nat_eq n 6 then r.TooDeep
    else if nat_eq n 8 then r.Unbound
    else if nat_eq n 9 then r.RepeatedVariable
    else if nat_eq n 10 then r.UndefinedFunction
    else if nat_eq n 11 then r.RepeatedFunction
    else if nat_eq n 12 then r.BadExport
    else if nat_eq n 13 then r.Degree
    else if nat_eq n 25 then r.TooLong
    else r.Missing

-- a file's refusal is known by its number, which isn't that of too many files or of two modules with one name
pub record Told (name : RefusalName) : Type 0 where
  pub known : by_number (refusal_number name) ≡ name
  pub low : refusal_number name ≤ 26
  pub of_one : refusal_number name ≢ 14
  pub of_some : refusal_number name ≢ 24

pub tells : (name : RefusalName) → Told name
tells r.BadByte = record { known = refl; low = omega arith; of_one = λ e. omega (arith, e); of_some = λ e. omega (arith, e) }
tells r.OpenQuote = record { known = refl; low = omega arith; of_one = λ e. omega (arith, e); of_some = λ e. omega (arith, e) }
tells r.BadEscape = record { known = refl; low = omega arith; of_one = λ e. omega (arith, e); of_some = λ e. omega (arith, e) }
tells r.WideInteger = record { known = refl; low = omega arith; of_one = λ e. omega (arith, e); of_some = λ e. omega (arith, e) }
tells r.Syntax = record { known = refl; low = omega arith; of_one = λ e. omega (arith, e); of_some = λ e. omega (arith, e) }
tells r.TooDeep = record { known = refl; low = omega arith; of_one = λ e. omega (arith, e); of_some = λ e. omega (arith, e) }
tells r.Unbound = record { known = refl; low = omega arith; of_one = λ e. omega (arith, e); of_some = λ e. omega (arith, e) }
tells r.RepeatedVariable = record { known = refl; low = omega arith; of_one = λ e. omega (arith, e); of_some = λ e. omega (arith, e) }
tells r.UndefinedFunction = record { known = refl; low = omega arith; of_one = λ e. omega (arith, e); of_some = λ e. omega (arith, e) }
tells r.RepeatedFunction = record { known = refl; low = omega arith; of_one = λ e. omega (arith, e); of_some = λ e. omega (arith, e) }
tells r.BadExport = record { known = refl; low = omega arith; of_one = λ e. omega (arith, e); of_some = λ e. omega (arith, e) }
tells r.Degree = record { known = refl; low = omega arith; of_one = λ e. omega (arith, e); of_some = λ e. omega (arith, e) }
tells r.TooLong = record { known = refl; low = omega arith; of_one = λ e. omega (arith, e); of_some = λ e. omega (arith, e) }
tells r.Missing = record { known = refl; low = omega arith; of_one = λ e. omega (arith, e); of_some = λ e. omega (arith, e) }

-- a number for each kind of status, and for a refusal its own
abbrev pub kind : RunStatus → ℕ
kind (Refused refusal) = refusal.number
kind Done = 100
kind (TableFault number) = 101
kind (DeviceFault device) = 102
kind Memory = 103
kind Usage = 104

abbrev pub refusal_of : RunStatus → Refusal
refusal_of (Refused refusal) = refusal
refusal_of status = too_many_refusal

-- a status tells the word that is refused, and its fault
pub told_once : (v w : ℕ) (f g : SourceFault) → refused v f ≡ refused w g → (v ≡ w) × (f ≡ g)
told_once v w f g e =
    let name : f.name ≡ g.name = sym (tells f.name).known ∙ ap (λ status. by_number (refusal_of status).number) e ∙ (tells g.name).known in
    let line : f.line ≡ g.line = ap (λ status. (refusal_of status).line) e in
    (ap (λ status. (refusal_of status).word) e, λ i. record { name = name i; line = line i })

-- ---- the faults of bytes

scan_low : {fault : SourceFault} (cause : ScanFault) → scan_refusal cause ≡ Some fault → refusal_number fault.name ≤ 13
scan_low (s.BadByte place) e = subst (λ f. refusal_number f.name ≤ 13) (same_Some _ _ e) (omega arith)
scan_low (s.OpenQuote place) e = subst (λ f. refusal_number f.name ≤ 13) (same_Some _ _ e) (omega arith)
scan_low (s.BadEscape place) e = subst (λ f. refusal_number f.name ≤ 13) (same_Some _ _ e) (omega arith)
scan_low (s.WideInteger place) e = subst (λ f. refusal_number f.name ≤ 13) (same_Some _ _ e) (omega arith)
scan_low {fault} s.Memory e = absurd (none-some fault e)

parse_low : {fault : SourceFault} (cause : ParseFault) → parse_refusal cause ≡ Some fault → refusal_number fault.name ≤ 13
parse_low (p.Syntax place) e = subst (λ f. refusal_number f.name ≤ 13) (same_Some _ _ e) (omega arith)
parse_low (p.TooDeep place) e = subst (λ f. refusal_number f.name ≤ 13) (same_Some _ _ e) (omega arith)
parse_low {fault} p.Memory e = absurd (none-some fault e)

rule_low : (rule : ScopeRule) → refusal_number (rule_name rule) ≤ 13
rule_low BoundVariables = omega arith
rule_low DistinctVariables = omega arith
rule_low DefinedFunctions = omega arith
rule_low DistinctFunctions = omega arith
rule_low DefinedExports = omega arith
rule_low Degrees = omega arith

abbrev pub long_fault : SourceFault
long_fault = of_the_whole r.TooLong

-- bytes are too many, or their fault has a number up to 13
long_or_low : {most : ℕ} {bytes : List ℕ} {fault : SourceFault} → IsAtFault most bytes fault → ((most < length bytes) × (fault ≡ long_fault)) ⊎ (refusal_number fault.name ≤ 13)
long_or_low (too_long h) = inl h
long_or_low (not_scanned h) = inr (scan_low h.cause h.named)
long_or_low (not_parsed h) = inr (parse_low h.cause h.named)
long_or_low (not_accepted h) = inr (subst (λ f. refusal_number f.name ≤ 13) h.named (rule_low h.cause.rule))

pub never_missing : {most : ℕ} {bytes : List ℕ} → IsAtFault most bytes missing → ⊥
never_missing {most = most} {bytes = bytes} h = by (long_or_low h)
  where
    by : ((most < length bytes) × (missing ≡ long_fault)) ⊎ (26 ≤ 13) → ⊥
    by (inl k) = omega (arith, ap (λ f. refusal_number f.name) k.1)
    by (inr k) = omega (arith, k)

pub only_long : {most : ℕ} {bytes : List ℕ} → IsAtFault most bytes long_fault → most < length bytes
only_long {most = most} {bytes = bytes} h = by (long_or_low h)
  where
    by : ((most < length bytes) × (long_fault ≡ long_fault)) ⊎ (25 ≤ 13) → most < length bytes
    by (inl k) = k.0
    by (inr k) = omega (arith, k)

-- ---- at most one file is the first whose module has the name of one before it

pub earliest_of : {names : List Atom} {i j : ℕ} → FirstDuplicate names i j → StandsEarlier names j
earliest_of {i = i} h = (i, h.before, h.same)

least_is_one : (P : ℕ → Type 0) (i j : ℕ) → P i → P j → ((k : ℕ) → k < i → P k → ⊥) → ((k : ℕ) → k < j → P k → ⊥) → i ≡ j
least_is_one P i j p q least also = by (cases_lt i j) (cases_lt j i)
  where
    by : (i < j) ⊎ (j ≤ i) → (j < i) ⊎ (i ≤ j) → i ≡ j
    by (inl low) c = absurd (also i low p)
    by (inr high) (inl low) = absurd (least j low q)
    by (inr high) (inr up) = omega (arith, high, up)

pub one_duplicate : (names : List Atom) (i j k l : ℕ) → FirstDuplicate names i j → FirstDuplicate names k l → (i ≡ k) × (j ≡ l)
one_duplicate names i j k l h g =
    let second : j ≡ l = least_is_one (StandsEarlier names) j l (earliest_of h) (earliest_of g) h.least g.least in
    let also : FirstDuplicate names k j = subst (FirstDuplicate names k) (sym second) g in
    (least_is_one (λ n. slice_get names n ≡ slice_get names j) i k h.same also.same h.earliest also.earliest, second)

pub own_names : (xs : List m.Module) (i j : ℕ) → HaveOwnNames xs → FirstDuplicate (map (λ (x : m.Module). x.name) xs) i j → ⊥
own_names xs i j own h = own j (subst (λ n. j < n) (length-map xs (λ (x : m.Module). x.name)) h.within) (earliest_of h)
