use Rattle.std.proofs.Common.{◌&&◌, ◌+◌, drop, map, sym, ap, ◌∙◌, arith}
use Rattle.cons_tree.specs.Callees.{as_called, found}
use Rattle.table_keep.specs.Kept.{Standing, all_stand}
use Rattle.table_keep.specs.Model.{used_so}
use Rattle.table_keep.proofs.StandingEntries.{failed, passed, used_end, used_next}
use Rattle.table_keep.proofs.unchanged_groups.all_used_stand.Goals as goal

pub loop-one-preserved : goal.loop-one-preserved
loop-one-preserved c =
    let K : Standing = λ h f. as_called (found c.args.known.now h f) in
    let us = c.args.used.now in
    let rest = all_stand K (map used_so (drop (c.loop-one.one-index + 1) us)) in
    passed (all_stand K (map used_so us)) (all_stand K (map used_so (drop c.loop-one.one-index us))) c.used_stands.result rest c.loop-one.invariant
    (used_next K us c.loop-one.one-index c.one-item.result c.loop-one-test.true c.one-item.is ∙ ap (λ b. b && rest) (sym c.used_stands.ensures)) c.if-not-used_stands.false

pub returns-then-not-used_stands : goal.returns-then-not-used_stands
returns-then-not-used_stands c =
    let K : Standing = λ h f. as_called (found c.args.known.now h f) in
    let us = c.args.used.now in
    let rest = all_stand K (map used_so (drop (c.loop-one.one-index + 1) us)) in
    failed (all_stand K (map used_so us)) (all_stand K (map used_so (drop c.loop-one.one-index us))) c.used_stands.result rest c.loop-one.invariant
    (used_next K us c.loop-one.one-index c.one-item.result c.loop-one-test.true c.one-item.is ∙ ap (λ b. b && rest) (sym c.used_stands.ensures)) c.if-not-used_stands.true

pub returns : goal.returns
returns c =
    let K : Standing = λ h f. as_called (found c.args.known.now h f) in
    sym (c.loop-one.invariant ∙ used_end K c.args.used.now c.loop-one.one-index (let t = c.loop-one-test.false in omega arith))
