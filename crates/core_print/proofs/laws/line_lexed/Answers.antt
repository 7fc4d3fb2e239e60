use Rattle.core_scan.specs.Bytes.{start}
use Rattle.core_print.proofs.Lexing.{line_lexed}
use Rattle.core_print.proofs.laws.line_lexed.Goals as goal

pub returns : goal.returns
returns c = λ ws are. line_lexed ws start are
