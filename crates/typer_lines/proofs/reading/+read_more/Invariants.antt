use Rattle.typer_lines.proofs.reading.+read_more.Given as goal

abbrev pub decreases-read_more : goal.decreases-read_more
decreases-read_more l = l.count
