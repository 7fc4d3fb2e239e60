use Rattle.std.proofs.Common.{codes, subst}
use Rattle.std.proofs.lemmas.Result.{on_ok_weaker}
use Rattle.type_text.specs.Texts.{plain_words}
use Rattle.type_text.specs.Adds.{Adds}
use Rattle.type_text.proofs.Adding.{both}
use Rattle.type_text.proofs.printing.append_plain.Goals as goal

pub returns-clause-ok : goal.returns-clause-ok
returns-clause-ok c =
    let ints = both c.in_ok-append_atoms.ensures.ok c.in_ok-append_ints.ensures.ok in
    let bits = both (both ints c.in_ok-append_if.ensures.ok) c.in_ok-append_bits.ensures.ok in
    let references = both (both (both bits c.in_ok-append_if-2.ensures.ok) c.in_ok-append_if-3.ensures.ok) c.in_ok-append_if-4.ensures.ok in
    let maps = both references c.in_ok-append_if-5.ensures.ok in
    let functions = both maps c.in_ok-append_functions.ensures.ok in
    on_ok_weaker c.append_if-6.result
    (λ nil. subst (λ p. Adds (codes " | ") (plain_words p) c.args.some.now c.append_if-6.new.some c.args.out.now c.append_if-6.new.out) c.plain.view_is (both functions nil))
    c.append_if-6.ensures.ok
