use Rattle.std.proofs.Common.{sym, ap, ◌∙◌}
use Rattle.std.specs.Option.{option_copied}
use Rattle.core_scope.proofs.WalkExits.{first_width}
use Rattle.core_scope.proofs.expressions.width.Goals as goal

pub returns-in-Some : goal.returns-in-Some
returns-in-Some c = first_width c.args.clauses.now c.in-Some.first.now c.len.result (sym c.first.ensures.value ∙ ap option_copied c.in-Some.is) c.len.ensures
