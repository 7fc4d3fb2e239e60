-- What a run of the program writes of the files that it reads, and what is promised of that.
use Rattle.std.specs.Prelude.{◌≡◌, ℕ, List, [], codes, map, Option}
use Rattle.type_kinds.specs.declared.atom.Atom.{Atom}
use Rattle.type_lattice_model.specs.Values.{Env, Values, closure, count, external, foreign}
use Rattle.core_meaning.specs.Meaning.{Among, Outcome, Trace, applied, fails, raised}
use Rattle.core_meaning.specs.Programs.{Program}
use Rattle.core_meaning.specs.Runs.{Run}
use Rattle.da_shelf.specs.Told.{Files}
use Rattle.table_keep.specs.Model.{Source, trees}
use Rattle.sound_laws.specs.Accepted.{AreAccepted}
use Rattle.sound_laws_fun_flow.specs.Claims.{ApplyAt}
use Rattle.fun_flow_sets.specs.Items.{anything, closure_at, external_function}
use Rattle.fun_flow_answers.specs.declared.target.AppliedCall.{AppliedCall}
use Rattle.fun_flow_answers.specs.Answers.{AreCalls, IsSaid}
use Rattle.fun_flow_answers.specs.Lines.{call_lines}
use Rattle.analysis_sources.specs.Refusals.{line}
use Rattle.analysis_answers.specs.FileRuns.{Writes}

abbrev pub usage_line : List ℕ
usage_line = line (codes "usage: fun_flow FILE..")

-- The modules of the sources are accepted, and these are the lines of their applications of values.
pub record Lists (sources : List Source) (output : List ℕ) : Type 0 where
  pub accepted : AreAccepted (trees sources)
  pub calls : List AppliedCall
  pub are : AreCalls (trees sources) calls
  pub lines : output ≡ call_lines (map (λ x. x.name) (trees sources)) calls

-- In no run of any stage does an application of a value enter a function that the list doesn't have for it. What is applied, by the event
-- of the trace for the module and the label of the application, may be a closure or an external function, which the list says; or a
-- function of which nothing is known, and then the list says anything. A closure or an external function that is applied to another
-- number of arguments than its own isn't entered: the application raises, and nothing happens before.
pub record NothingElseIsEntered (U : Program) (cs : List AppliedCall) : Type 0 where
  pub closures : (stage : ℕ) (tr : Trace) → Run U stage tr → (home : Atom) (label : ℕ) (x : Atom) (l n : ℕ) (env : Env) → Among (applied home label (closure x l n env)) tr → IsSaid U cs home label (closure_at x l n)
  pub externals : (stage : ℕ) (tr : Trace) → Run U stage tr → (home : Atom) (label : ℕ) (x name : Atom) (n : ℕ) → Among (applied home label (external x name n)) tr → IsSaid U cs home label (external_function x name n)
  pub foreigners : (stage : ℕ) (tr : Trace) → Run U stage tr → (home : Atom) (label : ℕ) (x n : ℕ) → Among (applied home label (foreign x n)) tr → IsSaid U cs home label anything
  pub arities : (stage fuel : ℕ) (x : Atom) (l n : ℕ) (env : Env) (vs : Values) (o : Outcome) (tr : Trace) → ApplyAt U stage fuel (closure x l n env) vs o tr → (n ≡ count vs → ⊥) → (o ≡ fails raised) × (tr ≡ [])
  pub external_arities : (stage fuel : ℕ) (x name : Atom) (n : ℕ) (vs : Values) (o : Outcome) (tr : Trace) → ApplyAt U stage fuel (external x name n) vs o tr → (n ≡ count vs → ⊥) → (o ≡ fails raised) × (tr ≡ [])

-- The run wrote the lines of the applications of values in the files' modules, and no run of these enters another function.
pub record WritesTruth (words : List (List ℕ)) (held : Files) (written_before written_now : Option (List ℕ)) : Type 0 where
  pub writes : Writes Lists words held written_before written_now
  pub sound : NothingElseIsEntered (trees writes.passes.sources) writes.passes.gives.calls
