use Rattle.std.proofs.Common.{◌≡◌, ◌++◌, codes, map, take}
use Rattle.type_text.specs.Texts.{after, text_of}
use Rattle.typer_lines.proofs.printing.append_later.Given as goal

abbrev pub invariant-loop-ty : goal.invariant-loop-ty
invariant-loop-ty l = l.out ≡ l.fn.out ++ after (codes ",") (map text_of (take l.ty-index l.types))
