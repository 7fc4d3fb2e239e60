use Rattle.std.proofs.Common.{◌≡◌, sym, ap, ◌∙◌, subst}
use Rattle.std.proofs.lemmas.Option.{get_or_from_slice_get, same_Some}
use Rattle.type_kinds.proofs.Results.{on_both}
use Rattle.core_scope.specs.Names.{has_function}
use Rattle.cons_tree.specs.Callees.{Fits, found}
use Rattle.comp_rounds.specs.Rounds.{standing, with_callee}
use Rattle.comp_rounds.proofs.SameCallees.{set_callee}
use Rattle.table_verify_rules.proofs.Entering.{fits}
use Rattle.table_verify_rules.proofs.knowing.enter_at.Goals as goal

pub set-requires : goal.set-requires
set-requires c =
    subst (λ x. Fits x c.at-listed.result.now.0.arity) (sym c.in_ok-callee.ensures)
    (fits c.args.entry.now.exports c.args.at c.at-listed.result.now c.has.result c.args.entry.now.exports_fit c.requires
    (get_or_from_slice_get c.args.entry.now.exports c.args.at c.at-listed.result.now c.at-listed.result.now c.at-listed.ensures))

pub returns : goal.returns
returns c =
    on_both c.set.result c.set.ensures.set c.set.ensures.others (λ here other x at.
    subst (λ y. found c.set.new.self ≡ with_callee (found c.args.known.now) c.args.home.now y.0 (standing (has_function c.args.exports.now y.0) y.1))
    (same_Some _ _ (sym c.at-listed.ensures ∙ at))
    (set_callee (found c.args.known.now) (found c.set.new.self) c.args.home.now c.at-listed.result.now.0 (standing (has_function c.args.exports.now c.at-listed.result.now.0) c.at-listed.result.now.1)
    (here ∙ c.in_ok-callee.ensures ∙ ap (λ b. standing b c.at-listed.result.now.1) c.has.ensures) other))
