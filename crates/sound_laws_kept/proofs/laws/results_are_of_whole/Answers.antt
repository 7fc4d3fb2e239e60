use Rattle.sound_laws_kept.proofs.OfWhole.{whole_law}
use Rattle.sound_laws_kept.proofs.laws.results_are_of_whole.Goals as goal

pub returns : goal.returns
returns c =
    whole_law c.known_is_carried.ensures c.known_of_parts.ensures c.known_rests_on_calls.ensures c.one_is_known.ensures c.solved_is_known.ensures
    c.findings_rest_on_calls.ensures.findings c.one_text.ensures
