use Rattle.std.proofs.Common.{length, map, refl, subst, sym}
use Rattle.std.specs.List.{AllZip}
use Rattle.std.proofs.lemmas.Result.{IfOk-weaker}
use Rattle.core_meaning.specs.Programs.{Program}
use Rattle.core_scope.specs.Checked.{tree_of}
use Rattle.core_scope.specs.Names.{Distinct}
use Rattle.fun_flow_answers.specs.Answers.{AreCalls}
use Rattle.fun_flow_numbers.specs.Held.{AreSetsOf}
use Rattle.fun_flow_places.specs.Naming.{AreRulesOf, module_names}
use Rattle.fun_flow_places.specs.Tables.{IsTableOf}
use Rattle.fun_flow_applied.specs.steps.Applications.{AreApplications}
use Rattle.fun_flow_applied.specs.steps.Calls.{IsCallOf}
use Rattle.fun_flow_applied.specs.steps.Texts.{AreTextsOf}
use Rattle.fun_flow_applied.proofs.Listing.{applied_so, within_texts}
use Rattle.fun_flow_applied.proofs.calls.applied.Goals as goal

pub calls_of-requires : goal.calls_of-requires
calls_of-requires g c =
    let mods = c.args.mods.now in
    record {
      there = within_texts g.S.AsChecked.stands_for mods (length mods) c.as_slice-2.result.now c.as_slice-4.result.now c.as_slice-3.result.now refl
          (subst (AreApplications (length mods) c.as_slice-2.result.now) (sym c.as_slice-4.ensures.value) c.in_ok-found.ensures)
          (subst (AreTextsOf (map (λ s. tree_of (g.S.AsChecked.stands_for s)) mods)) (sym c.as_slice-3.ensures.value) c.in_ok-texts.ensures);
    }

pub returns : goal.returns
returns g c =
    let mods = c.args.mods.now in
    let U = map (λ s. tree_of (g.S.AsChecked.stands_for s)) mods in
    let rules = c.in_ok-rules.rules in
    let texts = c.as_slice-3.result.now in
    let found = c.as_slice-4.result.now in
    IfOk-weaker c.calls_of.result (λ calls. AllZip (IsCallOf texts c.in_ok-sets.sets) found calls) (λ calls. AreCalls U calls)
    (λ calls zipped.
    applied_so c.names_and_positions.ensures.there c.names_and_positions.ensures.past c.names_and_positions.ensures.one g.S.AsChecked.stands_for mods c.requires.distinct rules
    c.in_ok-rules.ensures c.in_ok-table.table c.in_ok-table.ensures c.in_ok-sets.sets
    (subst (λ rs. (U : Program) → Distinct (module_names U) → IsTableOf U c.in_ok-table.table → AreRulesOf U rs → AreSetsOf U c.in_ok-sets.sets) c.as_slice.ensures c.in_ok-sets.ensures) texts
    (subst (AreTextsOf U) (sym c.as_slice-3.ensures.value) c.in_ok-texts.ensures) (length mods) refl found
    (subst (λ rs. AreApplications (length mods) rs found) c.as_slice-2.ensures
    (subst (AreApplications (length mods) c.as_slice-2.result.now) (sym c.as_slice-4.ensures.value) c.in_ok-found.ensures)) calls zipped)
    c.calls_of.ensures
