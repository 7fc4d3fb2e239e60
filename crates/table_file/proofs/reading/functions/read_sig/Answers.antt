use Rattle.std.proofs.Common.{◌∷◌, ◌∙◌, sym, ap}
use Rattle.cons_tree.specs.Signatures.{agree}
use Rattle.table_file.proofs.SigReading.{sig_no_args, sig_no_result, sig_disagrees, sig_found}
use Rattle.table_file.proofs.reading.functions.read_sig.Goals as goal

pub returns-in_default-clause-none : goal.returns-in_default-clause-none
returns-in_default-clause-none c = sig_no_args c.args.count (rw c.in_default.is at c.in_ok-args.ensures.none)

pub returns-in_default-2-clause-none : goal.returns-in_default-2-clause-none
returns-in_default-2-clause-none c =
    sig_no_result c.args.count c.spelling_laws.ensures.types (rw c.in-Some.is at c.in_ok-args.ensures.found)
    (rw c.in_default-2.is at c.in_ok-returned.ensures.none)

pub returns-then-not-types_agree-clause-none : goal.returns-then-not-types_agree-clause-none
returns-then-not-types_agree-clause-none c =
    sig_disagrees c.args.count c.spelling_laws.ensures.types (rw c.in-Some.is at c.in_ok-args.ensures.found)
    (rw c.in-Some-2.is at c.in_ok-returned.ensures.found)
    (ap (λ ts. agree (c.in-Some-2.returned ∷ ts)) (sym c.as_slice.ensures) ∙ sym c.types_agree.ensures
    ∙ c.if-not-types_agree.true)

pub returns-clause-found : goal.returns-clause-found
returns-clause-found c =
    sig_found c.args.count _ (rw c.in-Some.is at c.in_ok-args.ensures.found)
    (rw c.in-Some-2.is at c.in_ok-returned.ensures.found)
