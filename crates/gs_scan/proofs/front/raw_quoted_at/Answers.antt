use Rattle.std.proofs.Common.{ap, subst, length, sym}
use Rattle.std.specs.Str.{IsCharBoundary}
use Rattle.std.proofs.lemmas.Str.{IsCharBoundary-end}
use Rattle.gs_syntax.specs.Quotes.{IsRawText, IsOpenRawText}
use Rattle.gs_scan.specs.Reading.{IsOnlyFront}
use Rattle.gs_scan.proofs.StandingQuotes.{raw_stands, raw_boundary, open_raw_stands}
use Rattle.gs_scan.proofs.front.raw_quoted_at.Goals as goal
use Rattle.gs_scan.proofs.front.raw_quoted_at.Goals.{In-Some}

front : (c : In-Some) → IsOnlyFront IsRawText c.args.rest.now c.in-Some.value c.in-Some.len
front c = subst (λ l. IsOnlyFront IsRawText l c.in-Some.value c.in-Some.len) c.as_bytes-bytes.ensures.value (rw c.in-Some.is at c.in_ok-value.ensures)

pub returns-in-Some-clause-stands : goal.returns-in-Some-clause-stands
returns-in-Some-clause-stands c = raw_stands c.args.rest.now c.in-Some.value c.in-Some.len c.requires (front (goal.at.returns-in-Some-clause-stands c).In-Some)

pub returns-in-Some-clause-boundary : goal.returns-in-Some-clause-boundary
returns-in-Some-clause-boundary c = raw_boundary c.args.rest.now c.in-Some.value c.in-Some.len c.utf8.rest (front (goal.at.returns-in-Some-clause-boundary c).In-Some)

pub returns-in-None-clause-stands : goal.returns-in-None-clause-stands
returns-in-None-clause-stands c =
    open_raw_stands c.args.rest.now _ c.requires
    (subst IsOpenRawText c.as_bytes-bytes.ensures.value (rw c.in-None.is at c.in_ok-value.ensures))
    (ap length c.as_bytes-bytes.ensures.value)

pub returns-in-None-clause-boundary : goal.returns-in-None-clause-boundary
returns-in-None-clause-boundary c = subst (IsCharBoundary c.args.rest.now) (ap length (sym c.as_bytes-bytes.ensures.value)) (IsCharBoundary-end c.args.rest.now)
