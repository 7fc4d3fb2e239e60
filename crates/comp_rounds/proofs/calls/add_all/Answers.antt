use Rattle.std.proofs.Common.{◌↔◌, ◌+◌, ◌⊎◌, Contains, take, subst}
use Rattle.std.specs.Prelude.{slice_index}
use Rattle.std.proofs.lemmas.List.{take_all, take_more}
use Rattle.comp_rounds.proofs.Gathering.{gathered_more, gathered_none}
use Rattle.comp_rounds.proofs.calls.add_all.Goals as goal

pub loop-number-init : goal.loop-number-init
loop-number-init c = gathered_none c.args.numbers.now.keys

pub loop-number-preserved : goal.loop-number-preserved
loop-number-preserved c =
    let xs = c.args.more.now in
    let i = c.loop-number.number-index in
    gathered_more c.args.numbers.now.keys c.loop-number.numbers.keys c.add.new.numbers.keys (take i xs) (take (i + 1) xs) (slice_index xs i)
    (take_more xs i 0 c.loop-number-test.true) c.in_ok-add.ensures c.loop-number.invariant

pub returns : goal.returns
returns c = λ i.
    subst (λ xs. Contains c.loop-number.numbers.keys i ↔ (Contains c.args.numbers.now.keys i ⊎ Contains xs i))
    (take_all c.loop-number.number-index c.args.more.now c.loop-number-test.false) (c.loop-number.invariant i)
