use Rattle.std.proofs.Common.{◌≡◌, ◌<◌, ◌≤◌, length, map, get_or, refl, sym, ap, ◌∙◌, subst, true≢false}
use Rattle.std.proofs.lemmas.List.{length-map}
use Rattle.core_scope.specs.Names.{has_function}
use Rattle.table_verify_rules.proofs.Listing.{one_more, none_more, lists_all}
use Rattle.table_verify_rules.proofs.entries.lists_all.Goals as goal

pub returns-then-not-has : goal.returns-then-not-has
returns-then-not-has c =
    let xs = c.args.certified.now.exports in let i = c.loop-listed.listed-index in let x = c.listed-item.result in
    let low : i < length xs = subst (λ ys. i < length ys) c.as_slice-listed-items.ensures c.loop-listed-test.true in
    let is : x ≡ get_or xs i x = subst (λ ys. x ≡ get_or ys i x) c.as_slice-listed-items.ensures c.listed-item.is in (
      λ t. absurd (true≢false (sym t)),
      λ l. absurd (none_more (map (λ d. d.name) c.args.defs.now) xs i x low is (sym (c.has.ensures ∙ ap (λ ns. has_function ns x.0) c.in_ok-defined.ensures) ∙ c.if-not-has.true) l),
    )

pub loop-listed-preserved : goal.loop-listed-preserved
loop-listed-preserved c =
    let xs = c.args.certified.now.exports in let i = c.loop-listed.listed-index in let x = c.listed-item.result in
    let low : i < length xs = subst (λ ys. i < length ys) c.as_slice-listed-items.ensures c.loop-listed-test.true in
    let is : x ≡ get_or xs i x = subst (λ ys. x ≡ get_or ys i x) c.as_slice-listed-items.ensures c.listed-item.is in
    one_more (map (λ d. d.name) c.args.defs.now) xs i x low is c.loop-listed.invariant (sym (c.has.ensures ∙ ap (λ ns. has_function ns x.0) c.in_ok-defined.ensures) ∙ c.if-not-has.false)

pub returns : goal.returns
returns c =
    let xs = c.args.certified.now.exports in let i = c.loop-listed.listed-index in (
      λ t. lists_all (map (λ d. d.name) c.args.defs.now) xs i
          (length-map xs (λ x. x.0) ∙ sym c.len.ensures ∙ c.if-len-defs.false ∙ sym (length-map c.args.defs.now (λ d. d.name)))
          (subst (λ ys. length ys ≤ i) c.as_slice-listed-items.ensures c.loop-listed-test.false) c.loop-listed.invariant,
      λ l. refl,
    )
