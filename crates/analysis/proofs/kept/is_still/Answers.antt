use Rattle.std.proofs.Common.{sym, ◌∙◌}
use Rattle.sound_laws_kept.proofs.Names.{callee_is}
use Rattle.analysis.proofs.kept.is_still.Goals as goal

pub returns : goal.returns
returns c = λ e. callee_is c.args.rest.now.callee c.find.result.now (sym c.eq.ensures ∙ e) ∙ c.find.ensures.value
