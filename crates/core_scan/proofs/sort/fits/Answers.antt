use Rattle.std.proofs.Common.{sym, ap, ◌∙◌}
use Rattle.core_scan.specs.Sorts.{fits}
use Rattle.core_scan.proofs.SortLaws.{fits_itself}
use Rattle.core_scan.proofs.sort.fits.Goals as goal

pub returns-then-same : goal.returns-then-same
returns-then-same c =
    c.if-same.true ∙ sym (ap (λ p. fits p c.args.found) (c.same.ensures.0 c.if-same.true) ∙ fits_itself c.args.found)
