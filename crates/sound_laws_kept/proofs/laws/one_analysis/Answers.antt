use Rattle.sound_laws_kept.proofs.Linking.{carries, gives_one}
use Rattle.sound_laws_kept.proofs.OneAnalysis.{one_analysis}
use Rattle.sound_laws_kept.proofs.laws.one_analysis.Goals as goal

pub returns : goal.returns
returns c =
    one_analysis (carries c.known_is_carried.ensures c.findings_rest_on_calls.ensures.findings) (gives_one c.one_is_known.ensures c.one_text.ensures) c.one_table.ensures
