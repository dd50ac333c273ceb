use Rattle.std.proofs.Common.{length, sym, ap, ◌∙◌}
use Rattle.gs_scan.specs.Reading.{begins_keyword}
use Rattle.gs_scan.proofs.KeywordLemmas.{no_keyword}
use Rattle.gs_scan.proofs.word.keyword_of.Goals as goal

pub returns-else-begins_keyword-clause-value : goal.returns-else-begins_keyword-clause-value
returns-else-begins_keyword-clause-value c =
    sym (no_keyword c.args.word.now (ap (begins_keyword (length c.args.word.now)) (sym c.byte_at.ensures) ∙ sym c.if-begins_keyword.ensures))
