use Rattle.std.proofs.Common.{◌≡◌, map, drop}
use Rattle.bif_types.specs.Table.{row_of}
use Rattle.bif_types.proofs.Walks.{seen}
use Rattle.bif_types.proofs.finding.named.Given as goal

abbrev pub invariant-loop-row : goal.invariant-loop-row
invariant-loop-row l = row_of (map seen (drop l.row-index l.rows)) l.name ≡ row_of (map seen l.rows) l.name
