use Rattle.std.proofs.Common.{◌≡◌, ◌+◌, ◌<◌, Some, length, drop, map, slice_get, refl, subst, arith}
use Rattle.std.specs.Prelude.{slice_index}
use Rattle.std.proofs.lemmas.List.{drop_all, drop_more, length-map}
use Rattle.std.proofs.lemmas.List.Elements.{Contains-get_or}
use Rattle.std.proofs.lemmas.Option.{slice_get_read}
use Rattle.cons_tree.specs.Callees.{found}
use Rattle.comp_rounds.specs.Members.{function_of}
use Rattle.comp_rounds.specs.Turns.{AreEntered}
use Rattle.comp_rounds.proofs.Places.{all_entered, entered_step, function_read, others_step}
use Rattle.comp_rounds.proofs.Turning.{takes_long, takes_one}
use Rattle.comp_rounds.proofs.entering.enter_changed.Goals as goal

pub at-is_last-requires : goal.at-is_last-requires
at-is_last-requires c =
    let low = c.requires.within (slice_index c.args.changed.now c.loop-number.number-index) (Contains-get_or c.args.changed.now c.loop-number.number-index 0 c.loop-number-test.true) in
    let flags = c.requires.last in
    omega (arith, low, flags)

pub bounds-members-place : goal.bounds-members-place
bounds-members-place c =
    c.requires.within (slice_index c.args.changed.now c.loop-number.number-index) (Contains-get_or c.args.changed.now c.loop-number.number-index 0 c.loop-number-test.true)

pub bounds-signatures-place : goal.bounds-signatures-place
bounds-signatures-place c =
    let low = c.requires.within (slice_index c.args.changed.now c.loop-number.number-index) (Contains-get_or c.args.changed.now c.loop-number.number-index 0 c.loop-number-test.true) in
    let long = takes_long (map function_of c.args.members.now) c.args.signatures.now c.requires.take in
    let many = length-map c.args.members.now function_of in
    omega (arith, low, long, many)

pub enter_last-requires : goal.enter_last-requires
enter_last-requires c =
    let gs = map function_of c.args.members.now in
    let ss = c.args.signatures.now in
    let p = slice_index c.args.changed.now c.loop-number.number-index in
    let low : p < length c.args.members.now = c.requires.within p (Contains-get_or c.args.changed.now c.loop-number.number-index 0 c.loop-number-test.true) in
    let long = takes_long gs ss c.requires.take in
    let many = length-map c.args.members.now function_of in
    let m = c.index-members-place.result in
    let s = c.index-signatures-place.result in
    takes_one gs ss p (function_of m) s c.requires.take (function_read c.args.members.now p m low c.index-members-place.is)
    (slice_get_read ss (length ss) p s refl (omega (arith, low, long, many)) c.index-signatures-place.is)

pub loop-number-preserved : goal.loop-number-preserved
loop-number-preserved c =
    let gs = map function_of c.args.members.now in
    let ss = c.args.signatures.now in
    let i = c.loop-number.number-index in
    let p = slice_index c.args.changed.now i in
    let low : p < length c.args.members.now = c.requires.within p (Contains-get_or c.args.changed.now i 0 c.loop-number-test.true) in
    let long = takes_long gs ss c.requires.take in
    let many = length-map c.args.members.now function_of in
    let m = c.index-members-place.result in
    let s = c.index-signatures-place.result in
    let here : slice_get gs p ≡ Some (function_of m) = function_read c.args.members.now p m low c.index-members-place.is in
    let has : slice_get ss p ≡ Some s = slice_get_read ss (length ss) p s refl (omega (arith, low, long, many)) c.index-signatures-place.is in
    record {
      entered =
          entered_step gs ss p (function_of m) s here has c.args.last.now c.at-is_last.result.now (found c.loop-number.known) (found c.enter_last.new.known) c.at-is_last.ensures
          c.requires.lasts c.in_ok-enter_last.ensures.entered c.in_ok-enter_last.ensures.passed (drop i c.args.changed.now) (drop (i + 1) c.args.changed.now)
          (drop_more c.args.changed.now i 0 c.loop-number-test.true) c.loop-number.invariant.entered;
      others =
          others_step gs ss p (function_of m) s here has c.args.last.now c.at-is_last.result.now (found c.loop-number.known) (found c.enter_last.new.known) c.at-is_last.ensures
          c.requires.lasts c.in_ok-enter_last.ensures.entered c.in_ok-enter_last.ensures.passed (found c.args.known.now) c.loop-number.invariant.others;
    }

pub returns : goal.returns
returns c =
    let gs = map function_of c.args.members.now in
    all_entered gs c.args.signatures.now (found c.args.known.now) (found c.loop-number.known) (takes_long gs c.args.signatures.now c.requires.take)
    c.loop-number.invariant.others
    (subst (AreEntered gs c.args.signatures.now (found c.loop-number.known)) (drop_all c.loop-number.number-index c.args.changed.now c.loop-number-test.false)
    c.loop-number.invariant.entered)
