use Rattle.std.proofs.Common.{◌∙◌}
use Rattle.std.proofs.lemmas.Option.{MatchOption-at_some, MatchOption-at_none}
use Rattle.type_lattice.specs.Types.{is_none, same_type}
use Rattle.type_text.proofs.TextOnce.{front_text}
use Rattle.type_text.proofs.reading.read_some.Goals as goal

pub returns-in-None : goal.returns-in-None
unfolding is_none
returns-in-None c = λ t rest k stops e. absurd (MatchOption-at_none _ _ c.in-None.is (c.in_ok-read_type.ensures.complete t.ty rest t.normal k stops (front_text c.args.text.now rest t e)))

pub returns-in-Some : goal.returns-in-Some
unfolding is_none
returns-in-Some c = λ t rest k stops e.
    let h = MatchOption-at_some _ _ _ c.in-Some.is (c.in_ok-read_type.ensures.complete t.ty rest t.normal k stops (front_text c.args.text.now rest t e)) in
    (same_type c.of_node.result t (c.of_node.ensures ∙ h.0), h.1)
