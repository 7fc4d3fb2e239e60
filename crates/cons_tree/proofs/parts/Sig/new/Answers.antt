use Rattle.std.proofs.Common.{sym, ap, ◌∙◌, subst}
use Rattle.std.specs.Prelude.{IsTrue}
use Rattle.std.proofs.Common.{◌∷◌, refl}
use Rattle.type_lattice.specs.Types.{none}
use Rattle.cons_tree.specs.Signatures.{agree, has_none}
use Rattle.cons_tree.proofs.SignatureLaws.{some_agree, none_agree, agreed_kept, agreed_none, map_length}
use Rattle.cons_tree.proofs.parts.Sig.new.Goals as goal

pub invariant_of-result : goal.invariant_of-result
invariant_of-result c = record { agreed = some_agree (c.args.returned ∷ c.args.args) (ap (λ ts. has_none (c.args.returned ∷ ts)) (sym c.as_slice.ensures) ∙ sym c.some_none-none.ensures ∙ c.if-not-none.true) }

pub invariant_of-result-2 : goal.invariant_of-result-2
invariant_of-result-2 c = record {
  agreed = subst (λ t. IsTrue (agree (t ∷ c.empty_all.new.types))) (sym c.none.ensures.value) (none_agree ((c.decision_laws.ensures.none none).1 refl) c.args.args c.empty_all.new.types c.empty_all.ensures);
}

pub returns-then-not-none-clause-types : goal.returns-then-not-none-clause-types
returns-then-not-none-clause-types c = agreed_kept (c.args.returned ∷ c.args.args) (ap (λ ts. has_none (c.args.returned ∷ ts)) (sym c.as_slice.ensures) ∙ sym c.some_none-none.ensures ∙ c.if-not-none.true)

pub returns-clause-types : goal.returns-clause-types
returns-clause-types c =
    ap (λ t. t ∷ c.empty_all.new.types) c.none.ensures.value
    ∙ agreed_none c.args.returned c.args.args c.empty_all.new.types (ap (λ ts. has_none (c.args.returned ∷ ts)) (sym c.as_slice.ensures) ∙ sym c.some_none-none.ensures ∙ c.if-not-none.false) c.empty_all.ensures

pub returns-clause-count : goal.returns-clause-count
returns-clause-count c = map_length c.args.args c.empty_all.new.types c.empty_all.ensures
