use Rattle.std.proofs.Common.{sym, ◌∙◌}
use Rattle.cons_tree.specs.Callees.{found}
use Rattle.comp_rounds.specs.Members.{function_of}
use Rattle.comp_rounds.specs.Rounds.{strict_pass}
use Rattle.comp_rounds.proofs.Turning.{turn_kept, turn_moved}
use Rattle.comp_rounds.proofs.rounds.turn.Goals as goal

pub returns-then-below-clause-next : goal.returns-then-below-clause-next
returns-then-below-clause-next c = λ s has.
    turn_kept c.type_facts.ensures (strict_pass (found c.args.known.now)) c.args.round c.args.at c.args.signatures.now c.at-old.result.now c.in_ok-given.given s
    (function_of c.args.member.now) c.in_ok-given.ensures c.at-old.ensures has (sym c.below.ensures ∙ c.if-below.true)

pub returns-clause-next : goal.returns-clause-next
returns-clause-next c = λ s has.
    turn_moved (strict_pass (found c.args.known.now)) c.args.round c.args.at c.args.signatures.now c.replace.new.self c.at-old.result.now c.in_ok-given.given c.in_ok-sig.sig s
    (function_of c.args.member.now) c.in_ok-given.ensures c.at-old.ensures has c.in_ok-sig.ensures c.replace.ensures.after
