use Rattle.comp_rounds.proofs.SignatureLaws.{signature_is}
use Rattle.comp_rounds.proofs.signatures.signature_of.Goals as goal

pub returns : goal.returns
returns c = signature_is c.new.result c.args.returned c.args.args c.new.ensures.types
