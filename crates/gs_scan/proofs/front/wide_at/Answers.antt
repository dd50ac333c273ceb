use Rattle.std.proofs.Common.{sym, ◌∙◌}
use Rattle.gs_scan.proofs.StandingWords.{wide_stands, wide_boundary}
use Rattle.gs_scan.proofs.front.wide_at.Goals as goal

pub returns-else-is_letter-clause-stands : goal.returns-else-is_letter-clause-stands
returns-else-is_letter-clause-stands c =
    wide_stands _ _ _ _ (c.requires, sym c.chars-chars.ensures.rest ∙ c.in-Some.ensures.steps.0, sym c.if-is_letter.ensures) c.len_utf8.ensures.value

pub returns-else-is_letter-clause-boundary : goal.returns-else-is_letter-clause-boundary
returns-else-is_letter-clause-boundary c =
    wide_boundary _ _ _ _ c.utf8.rest (sym c.chars-chars.ensures.rest ∙ c.in-Some.ensures.steps.0) c.len_utf8.ensures.value
