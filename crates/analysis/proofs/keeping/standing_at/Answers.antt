use Rattle.std.proofs.Common.{Some, ap, ◌∙◌}
use Rattle.analysis.proofs.keeping.standing_at.Goals as goal

pub lines_now-requires-clause-kept : goal.lines_now-requires-clause-kept
lines_now-requires-clause-kept c = c.requires.kept c.in-Some.report (c.at.ensures ∙ ap Some c.in-Some.is)
