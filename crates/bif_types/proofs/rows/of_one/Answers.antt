use Rattle.std.proofs.Common.{refl}
use Rattle.bif_types.proofs.Walks.{next_row}
use Rattle.bif_types.proofs.rows.of_one.Goals as goal

pub returns : goal.returns
returns c =
    next_row c.one_argument.ensures.name c.one_argument.ensures.bif (
    next_row c.one_argument-2.ensures.name c.one_argument-2.ensures.bif (
    next_row c.one_argument-3.ensures.name c.one_argument-3.ensures.bif (
    next_row c.one_argument-4.ensures.name c.one_argument-4.ensures.bif (
    next_row c.one_argument-5.ensures.name c.one_argument-5.ensures.bif (
    next_row c.one_argument-6.ensures.name c.one_argument-6.ensures.bif (
    next_row c.one_argument-7.ensures.name c.one_argument-7.ensures.bif (
    next_row c.one_argument-8.ensures.name c.one_argument-8.ensures.bif (
    next_row c.one_argument-9.ensures.name c.one_argument-9.ensures.bif (
    next_row c.one_argument-10.ensures.name c.one_argument-10.ensures.bif (
    next_row c.one_argument-11.ensures.name c.one_argument-11.ensures.bif (
    next_row c.one_argument-12.ensures.name c.one_argument-12.ensures.bif (
    next_row c.one_argument-13.ensures.name c.one_argument-13.ensures.bif (
    next_row c.one_argument-14.ensures.name c.one_argument-14.ensures.bif (
    next_row c.one_argument-15.ensures.name c.one_argument-15.ensures.bif (
    next_row c.one_argument-16.ensures.name c.one_argument-16.ensures.bif (
    next_row c.one_argument-17.ensures.name c.one_argument-17.ensures.bif (
    refl)))))))))))))))))
