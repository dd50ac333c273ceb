use Rattle.std.proofs.Common.{subst}
use Rattle.gs_numbers.specs.Spelling.{IsLongestNumber, HasNoNumber}
use Rattle.gs_scan.proofs.StandingNumbers.{no_number_marks}
use Rattle.gs_scan.proofs.front.digit_at.Goals as goal

pub counted_at-requires-clause-longest : goal.counted_at-requires-clause-longest
counted_at-requires-clause-longest c =
    subst (λ l. IsLongestNumber l c.in-Some.number c.in-Some.len) c.as_bytes.ensures.value c.in-Some.ensures.found

pub mark_at-requires : goal.mark_at-requires
mark_at-requires c = no_number_marks c.args.rest.now c.requires (subst HasNoNumber c.as_bytes.ensures.value c.in-None.ensures.none)
