use Rattle.std.proofs.Common.{◌≡◌, ℕ, ◌+◌, ◌-◌, cond, nat_eq, length}
use Rattle.module_flow_state.specs.steps.Changes.{in_round}
use Rattle.module_flow_state.proofs.LastRounds.{noted_at, reached_within}
use Rattle.module_flow_state.proofs.Latest.{more_one}
use Rattle.module_flow_state.proofs.changes.Changes.note.Goals as goal

pub returns : goal.returns
returns c =
    let noted : (k l : ℕ) → in_round c.replace-before.new.self k l ≡ cond (nat_eq c.args.label l) (nat_eq c.args.round k) (in_round c.args.self.now.rounds k l) =
    λ k l. noted_at c.args.self.now.rounds c.reach.new.self.rounds c.replace-before.new.self c.args.label (c.args.label + 1 - length c.args.self.now.rounds) c.args.round k l c.in_ok-reach.ensures.rounds
    (reached_within c.args.self.now.rounds c.reach.new.self.rounds c.args.label c.in_ok-reach.ensures.rounds) c.replace-before.ensures.after
    in
    record { rounds = noted; more = more_one c.args.self.now (record { rounds = c.replace-before.new.self; latest = c.add.new.self }) c.args.label c.args.round noted (let e = c.in_ok-add.ensures.ok in let f = c.reach.ensures.latest in cc) }
