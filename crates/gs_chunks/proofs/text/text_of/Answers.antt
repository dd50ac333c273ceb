use Rattle.gs_chunks.specs.Files.{too_long, not_text}
use Rattle.gs_chunks.proofs.text.text_of.Goals as goal

pub returns-then-bytes-gt-MOST_BYTES : goal.returns-then-bytes-gt-MOST_BYTES
returns-then-bytes-gt-MOST_BYTES c = too_long c.if-bytes-gt-MOST_BYTES.true

pub returns-in-Err : goal.returns-in-Err
returns-in-Err c = not_text c.if-bytes-gt-MOST_BYTES.false c.in-Err.ensures.cases.0
