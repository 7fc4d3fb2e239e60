use Rattle.std.proofs.Common.{drop, ◌∙◌}
use Rattle.cons_tree.specs.Trails.{laid}
use Rattle.cons_solve.specs.steps.Alternatives.{now_of}
use Rattle.cons_solve.proofs.LowLaws.{rest_told, kept_first, first_gathered, next_kept, next_gathered}
use Rattle.cons_solve.proofs.alternatives.gather.Goals as goal

pub returns-in_ok-first-in-None-clause-kept : goal.returns-in_ok-first-in-None-clause-kept
returns-in_ok-first-in-None-clause-kept c =
    let xs = c.args.slots.now.types in
    let m = c.args.checkpoint in
    let new = c.in_ok-first-in-None.first in
    kept_first (drop m c.args.slots.now.trail) new xs (c.in_ok-first-in-None.ensures ∙ rest_told (now_of xs) c.as_slice.result.now c.args.slots.now.trail m c.as_slice.ensures) c.requires.within (c.requires.below c.if-not-alive.false)

pub returns-in_ok-first-in-None-clause-value : goal.returns-in_ok-first-in-None-clause-value
returns-in_ok-first-in-None-clause-value c =
    let xs = c.args.slots.now.types in
    let m = c.args.checkpoint in
    let new = c.in_ok-first-in-None.first in
    first_gathered c.args.best c.args.alive (drop m c.args.slots.now.trail) new xs c.in-None.is c.if-not-alive.false (c.in_ok-first-in-None.ensures ∙ rest_told (now_of xs) c.as_slice.result.now c.args.slots.now.trail m c.as_slice.ensures)

pub returns-in_ok-higher-in-Some-clause-kept : goal.returns-in_ok-higher-in-Some-clause-kept
returns-in_ok-higher-in-Some-clause-kept c =
    let xs = c.args.slots.now.types in
    next_kept c.type_facts.ensures c.args.best c.args.alive c.in-Some.lows c.as_slice-in-Some.result.now c.in_ok-higher-in-Some.higher
    (laid (drop c.args.checkpoint c.args.slots.now.trail) xs) xs c.in-Some.is c.if-not-alive.false c.as_slice-in-Some.ensures c.in_ok-higher-in-Some.ensures c.requires.below c.requires.kept

pub returns-in_ok-higher-in-Some-clause-value : goal.returns-in_ok-higher-in-Some-clause-value
returns-in_ok-higher-in-Some-clause-value c =
    let xs = c.args.slots.now.types in
    next_gathered c.type_facts.ensures c.args.best c.args.alive c.in-Some.lows c.as_slice-in-Some.result.now c.in_ok-higher-in-Some.higher
    (laid (drop c.args.checkpoint c.args.slots.now.trail) xs) xs c.in-Some.is c.if-not-alive.false c.as_slice-in-Some.ensures c.in_ok-higher-in-Some.ensures c.requires.below
