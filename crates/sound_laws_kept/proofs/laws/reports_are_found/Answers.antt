use Rattle.sound_laws_kept.proofs.Found.{found_law}
use Rattle.sound_laws_kept.proofs.laws.reports_are_found.Goals as goal

pub returns : goal.returns
returns c =
    found_law c.known_is_carried.ensures c.known_of_parts.ensures c.one_is_known.ensures c.findings_rest_on_calls.ensures.findings c.one_text.ensures
