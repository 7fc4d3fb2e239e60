use Rattle.std.proofs.Common.{◌≡◌, true, false, map, ap, ◌∙◌, arith}
use Rattle.cons_tree.specs.Callees.{as_called, found}
use Rattle.table_keep.specs.Groups.{has}
use Rattle.table_keep.specs.Model.{used_so}
use Rattle.table_keep.proofs.MadeLaws.{used_inside, used_outside}
use Rattle.table_keep.proofs.made.used_from.Goals as goal

pub loop-call-preserved-in_ok-add : goal.loop-call-preserved-in_ok-add
loop-call-preserved-in_ok-add c =
    let member = c.is_member.ensures in
    let test = c.if-not-is_member.true in
    let out : has c.args.group.now c.in-Some.call.0 ≡ false = grind arith in
    ap (map used_so) c.in_ok-add.ensures.ok
    ∙ used_outside c.args.group.now (λ h f. as_called (found c.args.known.now h f)) c.loop-call.yielded c.in-Some.call c.loop-call.used c.in_ok-used_now.field-0
    c.loop-call.invariant c.in_ok-used_now.ensures out

pub loop-call-preserved : goal.loop-call-preserved
loop-call-preserved c =
    let member = c.is_member.ensures in
    let test = c.if-not-is_member.false in
    let inside : has c.args.group.now c.in-Some.call.0 ≡ true = grind arith in
    used_inside c.args.group.now (λ h f. as_called (found c.args.known.now h f)) c.loop-call.yielded c.in-Some.call (map used_so c.loop-call.used) c.loop-call.invariant inside
