use Rattle.typer_lines.proofs.LineLaws.{lines_once}
use Rattle.typer_lines.proofs.laws.typing_lines_once.Goals as goal

pub returns : goal.returns
returns c = lines_once c.front_laws.ensures.quoted c.front_laws.ensures.number c.front_laws.ensures.front
