use Rattle.std.proofs.Common.{◌∙◌, ◌-◌, sym, subst, refl, arith}
use Rattle.std.proofs.lemmas.Result.{IfOk-weaker}
use Rattle.type_lattice_trees.specs.View.{Fits}
use Rattle.type_lattice_trees.proofs.Views.{one_more}
use Rattle.type_lattice_trees.proofs.JoinLaws.{tags_after_first, tags_of_body, product_of_body}
use Rattle.type_lattice_trees.proofs.Projections.{product_element, tag_element}
use Rattle.type_lattice_trees.proofs.joins.element_of.Goals as goal

pub element_of_rests-requires : goal.element_of_rests-requires
element_of_rests-requires c =
    let k = tags_after_first _ _ _ _ _ c.requires.1.0 c.in-Tags.is c.as_slice-else-at-eq0.ensures in
    (k.0, (k.1.1, omega (arith, k.1.0, c.requires.1.1, c.if-at-eq0.false)))

pub returns-in-Product-clause-value : goal.returns-in-Product-clause-value
returns-in-Product-clause-value c =
    IfOk-weaker c.copy.result _ _ (λ n e. product_element _ _ _ _ _ _ _ n c.in-Product.is (product_of_body _ _ _ _ c.requires.1.0 c.in-Product.is) c.as_slice.ensures c.requires.1.1 c.index-as_slice-at.is (e ∙ c.get.ensures))
    c.copy.ensures

pub returns-then-at-eq0-clause-fits : goal.returns-then-at-eq0-clause-fits
returns-then-at-eq0-clause-fits c =
    let above = (tags_of_body _ _ _ _ _ c.requires.1.0 c.in-Tags.is refl).1 in
    IfOk-weaker c.atoms_of.result _ _ (λ n f. subst (λ d. Fits d n) (sym (one_more c.args.level (omega (arith, above)))) (f (c.args.level - 1))) c.atoms_of.ensures.fits

pub returns-then-at-eq0-clause-value : goal.returns-then-at-eq0-clause-value
returns-then-at-eq0-clause-value c =
    let above = (tags_of_body _ _ _ _ _ c.requires.1.0 c.in-Tags.is refl).1 in
    IfOk-weaker c.atoms_of.result _ _ (λ n f. tag_element c.args.level c.args.at _ _ _ n c.in-Tags.is c.as_slice-then-at-eq0.ensures (omega (arith, c.if-at-eq0.true)) above f) c.atoms_of.ensures.value
