use Rattle.std.proofs.Common.{ap₂, ◌∙◌}
use Rattle.comp_rounds.specs.Signatures.{signature}
use Rattle.comp_rounds.proofs.SignatureLaws.{nothing_of}
use Rattle.comp_rounds.proofs.signatures.no_value.Goals as goal

pub returns : goal.returns
returns c =
    c.signature_of.ensures ∙ ap₂ signature c.none.ensures.value c.in_ok-args.ensures ∙ nothing_of c.args.count
