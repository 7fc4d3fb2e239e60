use Rattle.std.proofs.Common.{◌≡◌, ◌+◌, ◌++◌, [], ◌∷◌, map, take, sym, ap, ◌∙◌}
use Rattle.std.proofs.lemmas.List.{take_more, take_all, map-append}
use Rattle.cons_gen_rows.specs.Members as members
use Rattle.comp_rounds.specs.Members.{function_of}
use Rattle.comp_rounds.specs.Rounds.{is_member}
use Rattle.comp_rounds.proofs.Naming.{member_more, same_members}
use Rattle.comp_rounds.proofs.rounds.names.Goals as goal

pub loop-member-preserved : goal.loop-member-preserved
loop-member-preserved c h f =
    let xs = c.args.members.now in
    let i = c.loop-member.member-index in
    let x = c.member-item.result in
    let more : map function_of (take (i + 1) xs) ≡ map function_of (take i xs) ++ function_of x ∷ [] =
    ap (map function_of) (take_more xs i x c.loop-member-test.true ∙ ap (λ y. take i xs ++ y ∷ []) (sym c.member-item.is))
    ∙ map-append function_of (take i xs) (x ∷ [])
    in
    member_more (members.is_member c.loop-member.names) (members.is_member c.add.new.self) (map function_of (take i xs)) (function_of x)
    c.get.result.now.name (ap (λ d. d.name) c.get.ensures) c.loop-member.invariant c.in_ok-add.ensures.added c.in_ok-add.ensures.others h f
    ∙ ap (λ gs. is_member gs h f) (sym more)

pub returns : goal.returns
returns c =
    same_members (members.is_member c.loop-member.names) (map function_of (take c.loop-member.member-index c.args.members.now))
    (map function_of c.args.members.now) c.loop-member.invariant
    (ap (map function_of) (take_all c.loop-member.member-index c.args.members.now c.loop-member-test.false))
