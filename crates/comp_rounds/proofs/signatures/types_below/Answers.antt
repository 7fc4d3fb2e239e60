use Rattle.comp_rounds.proofs.SignatureLaws.{not_below}
use Rattle.comp_rounds.proofs.signatures.types_below.Goals as goal

pub returns-then-left-right : goal.returns-then-left-right
returns-then-left-right c = not_below c.args.left.now c.args.right.now c.if-left-right.true
