use Rattle.std.proofs.Common.{◌∙◌}
use Rattle.cons_tree.proofs.Copied.{same_signature}
use Rattle.cons_tree.proofs.parts.Sig.copy.Goals as goal

pub returns : goal.returns
returns c = same_signature _ c.args.self.now (c.in_ok-args.ensures ∙ c.as_slice.ensures) c.in_ok-result.ensures
