use Rattle.std.proofs.Common.{refl, arith}
use Rattle.comp_rounds.specs.Signatures.{joins}
use Rattle.comp_rounds.proofs.SignatureLaws.{joins_nothing}
use Rattle.comp_rounds.proofs.Steps.{made_all}
use Rattle.comp_rounds.proofs.signatures.joined.Goals as goal

pub returns : goal.returns
returns c =
    made_all joins (λ ys. refl) joins_nothing c.args.left.now c.args.right.now c.loop-at.at (omega arith) c.loop-at.types
    (joins c.args.left.now c.args.right.now) c.loop-at.invariant
