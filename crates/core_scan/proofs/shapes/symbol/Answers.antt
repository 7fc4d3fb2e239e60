use Rattle.std.proofs.Common.{arith, sym, ◌∙◌}
use Rattle.core_scan.proofs.ShapeLemmas.{symbol_found, symbol_none}
use Rattle.core_scan.proofs.shapes.symbol.Goals as goal

pub returns-then-len-eq0-clause-err : goal.returns-then-len-eq0-clause-err
returns-then-len-eq0-clause-err c =
    λ _. symbol_none c.args.rest.now c.requires.other c.requires.no_number c.args.place c.requires.some (sym c.symbol_len-len.ensures.front ∙ c.if-len-eq0.true)

pub returns-clause-ok : goal.returns-clause-ok
returns-clause-ok c =
    symbol_found c.args.rest.now c.requires.other c.requires.no_number c.in_ok-from_slice.field-0 c.symbol_len-len.result c.symbol_len-len.ensures.front (omega arith) c.symbol_len-len.ensures.within c.in_ok-from_slice.ensures
