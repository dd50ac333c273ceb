use Rattle.std.proofs.Common.{◌≡◌, get_or, sym, ◌∙◌, ap, refl}
use Rattle.gs_scan.specs.declared.class.Class.TheVariants as class
use Rattle.gs_scan.specs.Reading.{class_of}
use Rattle.gs_scan.proofs.StandingBlanks.{space_stands, line_stands, byte_boundary, letter_text}
use Rattle.gs_scan.proofs.StandingMarks.{only_marks}
use Rattle.gs_scan.proofs.front.piece_at.Goals as goal
use Rattle.gs_scan.proofs.front.piece_at.Goals.{After-class_of}

first : (c : After-class_of) → class_of (get_or c.args.rest.now 0 0) ≡ c.class_of.result
first c = sym (c.class_of.ensures ∙ ap class_of (c.byte_at.ensures ∙ ap (λ l. get_or l 0 0) c.as_bytes.ensures.value))

pub word_at-requires-clause-letter : goal.word_at-requires-clause-letter
word_at-requires-clause-letter c = letter_text c.args.rest.now (first (goal.at.word_at-requires-clause-letter c).After-class_of ∙ c.in-Letter.is)

pub mark_at-requires : goal.mark_at-requires
mark_at-requires c = only_marks c.args.rest.now c.requires (first (goal.at.mark_at-requires c).After-class_of ∙ c.in-Mark.is)

pub returns-in-Space-clause-stands : goal.returns-in-Space-clause-stands
returns-in-Space-clause-stands c = space_stands c.args.rest.now c.requires (first (goal.at.returns-in-Space-clause-stands c).After-class_of ∙ c.in-Space.is)

pub returns-in-Space-clause-boundary : goal.returns-in-Space-clause-boundary
returns-in-Space-clause-boundary c = byte_boundary c.args.rest.now class.Space c.utf8.rest c.requires refl (first (goal.at.returns-in-Space-clause-boundary c).After-class_of ∙ c.in-Space.is)

pub returns-in-LineFeed-clause-stands : goal.returns-in-LineFeed-clause-stands
returns-in-LineFeed-clause-stands c = line_stands c.args.rest.now c.requires (first (goal.at.returns-in-LineFeed-clause-stands c).After-class_of ∙ c.in-LineFeed.is)

pub returns-in-LineFeed-clause-boundary : goal.returns-in-LineFeed-clause-boundary
returns-in-LineFeed-clause-boundary c = byte_boundary c.args.rest.now class.LineFeed c.utf8.rest c.requires refl (first (goal.at.returns-in-LineFeed-clause-boundary c).After-class_of ∙ c.in-LineFeed.is)
