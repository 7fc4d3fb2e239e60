use Rattle.std.proofs.Common.{◌≡◌, ℕ, ◌+◌, Contains, length, take, sym, ◌∙◌, subst}
use Rattle.std.specs.Prelude.{slice_index}
use Rattle.std.proofs.lemmas.List.{take_all, take_more}
use Rattle.std.proofs.lemmas.List.Elements.{Contains-get_or}
use Rattle.std.proofs.lemmas.Result.{IfOk-weaker}
use Rattle.components.specs.Graph.{Leads}
use Rattle.comp_rounds.specs.Turns.{AllWithin}
use Rattle.comp_rounds.proofs.Gathering.{callers_more, callers_within}
use Rattle.comp_rounds.proofs.calls.callers_of.Goals as goal

pub targets-requires : goal.targets-requires
targets-requires c =
    c.requires.functions (slice_index c.args.functions.now c.loop-function.function-index)
    (Contains-get_or c.args.functions.now c.loop-function.function-index 0 c.loop-function-test.true)

pub loop-function-preserved : goal.loop-function-preserved
loop-function-preserved c =
    let fs = c.args.functions.now in
    let i = c.loop-function.function-index in
    let x = slice_index fs i in
    record {
      all =
          callers_more c.args.callers.now c.loop-function.found.keys c.add_all.new.numbers.keys (take (i + 1) fs) (take i fs) c.targets.result.now x
          (take_more fs i 0 c.loop-function-test.true) c.targets.ensures c.in_ok-add_all.ensures c.loop-function.invariant.all;
      within =
          callers_within c.args.callers.now c.loop-function.found.keys c.add_all.new.numbers.keys c.targets.result.now x c.targets.ensures c.requires.inside
          c.in_ok-add_all.ensures c.loop-function.invariant.within;
    }

pub returns-clause-all : goal.returns-clause-all
returns-clause-all c =
    IfOk-weaker c.from_slice.result (λ list. list ≡ c.as_slice.result.now) (λ list. (i j : ℕ) → Contains c.args.functions.now j → Leads c.args.callers.now j i → Contains list i)
    (λ list is i j has leads.
    subst (λ l. Contains l i) (sym (is ∙ c.as_slice.ensures.keys))
    (c.loop-function.invariant.all i j (subst (λ l. Contains l j) (sym (take_all c.loop-function.function-index c.args.functions.now c.loop-function-test.false)) has) leads))
    c.from_slice.ensures

pub returns-clause-within : goal.returns-clause-within
returns-clause-within c =
    IfOk-weaker c.from_slice.result (λ list. list ≡ c.as_slice.result.now) (λ list. AllWithin list (length c.args.callers.now))
    (λ list is i has. c.loop-function.invariant.within i (subst (λ l. Contains l i) (is ∙ c.as_slice.ensures.keys) has)) c.from_slice.ensures
