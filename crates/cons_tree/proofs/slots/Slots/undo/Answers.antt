use Rattle.std.proofs.Common.{◌<◌, length, drop, arith, sym, ap, ◌∙◌, subst}
use Rattle.std.proofs.lemmas.List.{length-set}
use Rattle.cons_tree.specs.Trails.{Within}
use Rattle.cons_tree.proofs.TrailLaws.{last_within, last_low, last_front, last_back}
use Rattle.cons_tree.proofs.slots.Slots.undo.Goals as goal

pub replace-requires : goal.replace-requires
replace-requires c =
    let s = c.loop-self.self in
    let more : c.args.checkpoint < length s.trail = omega (arith, c.loop-self-test.true, c.len.ensures) in
    (last_within (length s.types) c.args.checkpoint s.trail c.pop.new.self c.in-Some.former c.in-Some.ensures more c.loop-self.invariant.within).1

pub loop-self-preserved-in-Some : goal.loop-self-preserved-in-Some
loop-self-preserved-in-Some c =
    let it = c.loop-self.invariant in
    let s = c.loop-self.self in
    let new = c.pop.new.self in
    let f = c.in-Some.former in
    let more : c.args.checkpoint < length s.trail = omega (arith, c.loop-self-test.true, c.len.ensures) in
    let long = ap length c.replace.ensures.after ∙ length-set s.types f.slot f.ty in
    record {
      low = last_low c.args.checkpoint s.trail new f c.in-Some.ensures more;
      within = subst (λ n. Within n (drop c.args.checkpoint new)) (sym long) (last_within (length s.types) c.args.checkpoint s.trail new f c.in-Some.ensures more it.within).0;
      back = last_back c.args.checkpoint s.trail new f s.types c.replace.new.self c.in-Some.ensures more c.replace.ensures.after ∙ it.back;
      front = last_front c.args.checkpoint s.trail new f c.in-Some.ensures more ∙ it.front;
    }
