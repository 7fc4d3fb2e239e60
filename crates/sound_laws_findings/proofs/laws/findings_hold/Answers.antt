use Rattle.sound_laws_findings.proofs.laws.findings_hold.Goals as goal

pub returns : goal.returns
returns c = λ xs known x accepted distinct whole among. c.nothing_is_false.ensures.each xs known x accepted distinct (c.known_is_whole.ensures xs known accepted distinct whole) among
