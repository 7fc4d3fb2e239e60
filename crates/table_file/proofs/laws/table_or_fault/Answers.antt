use Rattle.table_file.proofs.TableOrFault as table
use Rattle.table_file.proofs.laws.table_or_fault.Goals as goal

pub returns : goal.returns
returns c = table.table_or_fault c.spelling_laws.ensures.types c.spelling_laws.ensures.sigs c.spelling_laws.ensures.used c.spelling_laws.ensures.exports c.spelling_laws.ensures.parts
