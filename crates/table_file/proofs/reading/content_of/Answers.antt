use Rattle.std.proofs.Common.{refl}
use Rattle.table_file.proofs.TableReading.{content_found}
use Rattle.table_file.proofs.reading.content_of.Goals as goal

pub returns-clause-spelled : goal.returns-clause-spelled
returns-clause-spelled c =
    content_found c.args.bytes.now c.in-Some.after.now c.split_at.result.0.now c.split_at.result.1.now c.split_at-2.result.1.now
    c.in-Some.ensures.some
    (c.if-is_other_version.ensures.same refl) c.if-bytes-lt46.false c.split_at.ensures.front c.split_at.ensures.back (c.if-not-is_digest.ensures.0 refl) c.split_at-2.ensures.back
