use Rattle.std.proofs.Common.{◌↔◌, ◌+◌, ◌⊎◌, ◌≡◌, Contains, take, refl, ◌∙◌, subst, arith}
use Rattle.std.specs.Prelude.{slice_index}
use Rattle.std.proofs.lemmas.List.{take_all, take_more}
use Rattle.std.proofs.lemmas.List.Elements.{Contains-get_or}
use Rattle.components.specs.Graph.{Leads}
use Rattle.call_graph.proofs.Lasts.{caller_begin, caller_round}
use Rattle.call_graph.proofs.among.add_caller.Goals as goal

pub loop-callee-init : goal.loop-callee-init
loop-callee-init c = record { added = caller_begin c.args.callers.now c.args.caller; size = refl }

pub add-requires-clause-from : goal.add-requires-clause-from
add-requires-clause-from c =
    let s = c.loop-callee.invariant.size in
    let r = c.requires.within (slice_index c.args.callees.now c.loop-callee.callee-index) (Contains-get_or c.args.callees.now c.loop-callee.callee-index 0 c.loop-callee-test.true) in
    omega (arith, s, r)

pub add-requires-clause-to : goal.add-requires-clause-to
add-requires-clause-to c = let s = c.loop-callee.invariant.size in let r = c.requires.caller in omega (arith, s, r)

pub loop-callee-preserved : goal.loop-callee-preserved
loop-callee-preserved c =
    let xs = c.args.callees.now in
    let i = c.loop-callee.callee-index in
    record {
      added =
          caller_round c.args.callers.now c.loop-callee.callers c.add.new.self c.args.caller (slice_index xs i) (take i xs) (take (i + 1) xs) (take_more xs i 0 c.loop-callee-test.true) c.in_ok-add.ensures.pairs
          c.loop-callee.invariant.added;
      size = c.in_ok-add.ensures.count ∙ c.loop-callee.invariant.size;
    }

pub returns-clause-added : goal.returns-clause-added
returns-clause-added c = λ i j.
    subst (λ xs. Leads c.loop-callee.callers j i ↔ (Leads c.args.callers.now j i ⊎ ((i ≡ c.args.caller) × Contains xs j)))
    (take_all c.loop-callee.callee-index c.args.callees.now (let t = c.loop-callee-test.false in omega arith)) (c.loop-callee.invariant.added i j)
