-- No run of the modules enters a function that the lines don't have.
use Rattle.std.proofs.Common.{◌≡◌, ℕ, ◌⊎◌, List, [], ◌∷◌, map, Option, Some, None, inl, inr, refl, subst}
use Rattle.std.specs.Prelude.{IfSome}
use Rattle.type_kinds.specs.declared.atom.Atom.{Atom}
use Rattle.core_ast.specs.Model as m
use Rattle.core_scope.specs.Checked.{tree_of}
use Rattle.core_scope.specs.Names.{Distinct}
use Rattle.core_scope.specs.declared.checked.Checked.{Checked}
use Rattle.type_lattice_model.specs.Values.{Env, Values, closure, count, external, foreign}
use Rattle.core_meaning.specs.Meaning.{Among, Outcome, Trace, applied, fails, raised}
use Rattle.core_meaning.specs.Programs.{Program}
use Rattle.core_meaning.specs.Runs.{Run}
use Rattle.da_shelf.specs.Told.{Files}
use Rattle.table_keep.specs.Model.{trees}
use Rattle.sound_laws.specs.Accepted.{AreAccepted}
use Rattle.sound_laws_fun_flow.specs.Claims.{ApplyAt}
use Rattle.fun_flow_sets.specs.Items.{Item, anything, closure_at, external_function}
use Rattle.fun_flow_sets.specs.Sets.{MayEnter}
use Rattle.fun_flow_answers.specs.declared.target.AppliedCall.{AppliedCall}
use Rattle.fun_flow_answers.specs.Answers.{AreCalls, IsSaid}
use Rattle.analysis_answers.specs.FileRuns.{Writes}
use Rattle.analysis_answers.specs.ReadFiles.{HaveOwnNames}
use Rattle.analysis_answers.proofs.AnswerExits.{apart}
use Rattle.fun_flow_command.specs.Listed.{Lists, NothingElseIsEntered, WritesTruth}

abbrev names_of : List m.Module → List Atom
names_of xs = map (λ (x : m.Module). x.name) xs

-- accepted modules are the trees of what was accepted
accepted_ones : (xs : List m.Module) → AreAccepted xs → (mods : List Checked) × (map tree_of mods ≡ xs)
accepted_ones [] are = ([], refl)
accepted_ones (x ∷ xs) are =
    let more = accepted_ones xs are.1 in
    (are.0.0 ∷ more.0, λ i. are.0.1 i ∷ more.1 i)

abbrev LeftOut : Type 0
LeftOut =
    (mods : List Checked) → Distinct (names_of (map tree_of mods)) → (cs : List AppliedCall) → AreCalls (map tree_of mods) cs → (home : Atom) (label : ℕ) (x : Item)
    → MayEnter (map tree_of mods) home label x → IsSaid (map tree_of mods) cs home label x

abbrev Closures : Type 0
Closures =
    (U : Program) (stage : ℕ) (tr : Trace) → AreAccepted U → Run U stage tr → (home : Atom) (label : ℕ) (x : Atom) (l n : ℕ) (env : Env) → Among (applied home label (closure x l n env)) tr
    → MayEnter U home label anything ⊎ MayEnter U home label (closure_at x l n)

abbrev Externals : Type 0
Externals =
    (U : Program) (stage : ℕ) (tr : Trace) → AreAccepted U → Run U stage tr → (home : Atom) (label : ℕ) (x name : Atom) (n : ℕ) → Among (applied home label (external x name n)) tr
    → MayEnter U home label anything ⊎ MayEnter U home label (external_function x name n)

abbrev Foreigners : Type 0
Foreigners = (U : Program) (stage : ℕ) (tr : Trace) → AreAccepted U → Run U stage tr → (home : Atom) (label : ℕ) (x n : ℕ) → Among (applied home label (foreign x n)) tr → MayEnter U home label anything

abbrev Arities : Type 0
Arities =
    (U : Program) (stage fuel : ℕ) (x : Atom) (l n : ℕ) (env : Env) (vs : Values) (o : Outcome) (tr : Trace) → ApplyAt U stage fuel (closure x l n env) vs o tr → (n ≡ count vs → ⊥) → (o ≡ fails raised) × (tr ≡ [])

abbrev ExternalArities : Type 0
ExternalArities =
    (U : Program) (stage fuel : ℕ) (x name : Atom) (n : ℕ) (vs : Values) (o : Outcome) (tr : Trace) → ApplyAt U stage fuel (external x name n) vs o tr → (n ≡ count vs → ⊥) → (o ≡ fails raised) × (tr ≡ [])

module _ (left : LeftOut) (closures : Closures) (externals : Externals) (foreigners : Foreigners) (arities : Arities) (external_arities : ExternalArities) where
  module _ (xs : List m.Module) (accepted : AreAccepted xs) (own : HaveOwnNames xs) (cs : List AppliedCall) (are : AreCalls xs cs) where
    said : (home : Atom) (label : ℕ) (x : Item) → MayEnter xs home label x → IsSaid xs cs home label x
    said = let ones = accepted_ones xs accepted in
        subst (λ (U : Program). Distinct (names_of U) → AreCalls U cs → (home : Atom) (label : ℕ) (x : Item) → MayEnter U home label x → IsSaid U cs home label x) ones.1 (λ d a. left ones.0 d cs a) (apart xs own) are

    closure_said : (home : Atom) (label : ℕ) (x : Atom) (l n : ℕ) → MayEnter xs home label anything ⊎ MayEnter xs home label (closure_at x l n) → IsSaid xs cs home label (closure_at x l n)
    closure_said home label x l n (inl may) =
        let h = said home label anything may in
        record { call = h.call; among = h.among; module_so = h.module_so; at = h.at; named = h.named; labelled = h.labelled; says = inl h.says }
    closure_said home label x l n (inr may) = said home label (closure_at x l n) may

    external_said : (home : Atom) (label : ℕ) (x name : Atom) (n : ℕ) → MayEnter xs home label anything ⊎ MayEnter xs home label (external_function x name n) → IsSaid xs cs home label (external_function x name n)
    external_said home label x name n (inl may) =
        let h = said home label anything may in
        record { call = h.call; among = h.among; module_so = h.module_so; at = h.at; named = h.named; labelled = h.labelled; says = inl h.says }
    external_said home label x name n (inr may) = said home label (external_function x name n) may

    nothing_else : NothingElseIsEntered xs cs
    nothing_else = record {
      closures = λ stage tr run home label x l n env among. closure_said home label x l n (closures xs stage tr accepted run home label x l n env among);
      externals = λ stage tr run home label x name n among. external_said home label x name n (externals xs stage tr accepted run home label x name n among);
      foreigners = λ stage tr run home label x n among. said home label anything (foreigners xs stage tr accepted run home label x n among);
      arities = arities xs;
      external_arities = external_arities xs;
    }

  pub sound_it : (words : List (List ℕ)) (told : Option Files) (before now : Option (List ℕ)) → IfSome told (λ held. Writes Lists words held before now) → IfSome told (λ held. WritesTruth words held before now)
  sound_it words None before now h = tt
  sound_it words (Some held) before now h =
      let p = h.passes in record { writes = h; sound = nothing_else (trees p.sources) p.gives.accepted p.names p.gives.calls p.gives.are }
