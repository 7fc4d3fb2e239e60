use Rattle.std.proofs.Common.{◌≡◌, cond, slice_get, sym, ap, ◌∙◌, subst, subst₂}
use Rattle.std.proofs.lemmas.Result.{on_ok_weaker}
use Rattle.std.proofs.lemmas.Option.{same_Some, none-some}
use Rattle.cons_tree.specs.Callees.{Fits, HomeCallees, callee_in, same_name}
use Rattle.cons_tree.proofs.CalleeLaws.{in_there, fits_there}
use Rattle.cons_tree.proofs.summaries.CalleeTable.set_entry.Goals as goal

pub set-requires : goal.set-requires
set-requires c =
    let es : HomeCallees = (c.table.inside.callees.entries, c.table.inside.rest) in
    let name = c.in-Some.name.now in
    let callee = c.in-Some.callee.now in
    subst₂ (λ d f. Fits d f.arity) (sym c.in-Ok.ensures) (sym c.in_ok-name-in-Some.ensures)
    (fits_there es name callee (in_there es name callee (sym c.in-Some.ensures.value)) c.table.invariant.0)

pub returns-in-None : goal.returns-in-None
returns-in-None c e is f =
    let none = c.in-None.ensures.entry ∙ ap (λ t. slice_get t.0 c.args.at) c.table.view_is in
    absurd (none-some e (none ∙ is))

pub returns-in-Ok : goal.returns-in-Ok
returns-in-Ok c =
    let name = c.in-Some.name.now in
    let callee = c.in-Some.callee.now in
    let old = c.args.self.now in
    let new = c.set.new.self in
    let here = ap (λ t. slice_get t.0 c.args.at) (sym c.table.view_is) ∙ sym c.in-Some.ensures.entry in
    on_ok_weaker c.set.result
    (λ set e is f.
    subst (λ p. callee_in new f ≡ cond (same_name p.0 f) p.1 (callee_in old f)) (same_Some (name, callee) e (sym here ∙ is))
    (subst₂ (λ n d. callee_in new f ≡ cond (same_name n f) d (callee_in old f)) c.in_ok-name-in-Some.ensures c.in-Ok.ensures (set f)))
    c.set.ensures.ok
