use Rattle.std.proofs.Common.{◌≡◌, ◌+◌, length, drop, subst, ap, sym, ◌∙◌, arith}
use Rattle.std.specs.Str.{IsCharBoundary}
use Rattle.gs_text.specs.TextLines.{TextLines}
use Rattle.gs_text.specs.LineEnds.{line_starts, first_line}
use Rattle.gs_text.specs.Positions.{bytes_within}
use Rattle.gs_text.proofs.Starts.{line_starts-whole}
use Rattle.gs_text.proofs.Whole.{offset_of-whole}
use Rattle.gs_text.proofs.OffsetsAt.{line_read, line_past, offset_past}
use Rattle.gs_text.proofs.lines.Lines.offset_at.Goals as goal

pub range_from-requires : goal.range_from-requires
range_from-requires c =
    let starts : c.self.inside.starts ≡ line_starts c.args.text.now = ap (λ (l : TextLines). l.starts) (c.self.view_is ∙ c.requires) in
    let read = line_read c.self.inside.starts c.args.text.now c.args.pos.line c.in-Some.field-0.now starts (sym c.in-Some.ensures.value) in
    λ some. subst (λ n. IsCharBoundary c.args.text.now n) (sym read.1) (line_starts-whole c.args.text.now c.args.pos.line (length c.args.text.now) c.utf8.text read.0)

pub overflow_cast-result : goal.overflow_cast-result
overflow_cast-result c =
    let long : c.self.inside.length ≡ length c.args.text.now = ap (λ (l : TextLines). l.length) (c.self.view_is ∙ c.requires) in
    omega arith

pub overflow_add-result : goal.overflow_add-result
overflow_add-result c =
    let long : c.self.inside.length ≡ length c.args.text.now = ap (λ (l : TextLines). l.length) (c.self.view_is ∙ c.requires) in
    omega arith

pub returns-in-Some-clause-value : goal.returns-in-Some-clause-value
returns-in-Some-clause-value c =
    let starts : c.self.inside.starts ≡ line_starts c.args.text.now = ap (λ (l : TextLines). l.starts) (c.self.view_is ∙ c.requires) in
    let read = line_read c.self.inside.starts c.args.text.now c.args.pos.line c.in-Some.field-0.now starts (sym c.in-Some.ensures.value) in
    let here = ap (λ t. bytes_within c.args.unit (first_line t) c.args.pos.character) c.range_from.ensures.value in
    let same = ap (λ n. n + bytes_within c.args.unit (first_line (drop n c.args.text.now)) c.args.pos.character) read.1 in
    ap (λ n. c.in-Some.field-0.now + n) (c.fit.ensures.value ∙ here) ∙ same

pub returns-in-None-clause-value : goal.returns-in-None-clause-value
returns-in-None-clause-value c =
    let starts : c.self.inside.starts ≡ line_starts c.args.text.now = ap (λ (l : TextLines). l.starts) (c.self.view_is ∙ c.requires) in
    let long : c.self.inside.length ≡ length c.args.text.now = ap (λ (l : TextLines). l.length) (c.self.view_is ∙ c.requires) in
    long ∙ sym (offset_past c.args.unit c.args.text.now c.args.pos (line_past c.self.inside.starts c.args.text.now c.args.pos.line starts (sym c.in-None.ensures.value)))

pub returns-in-Some-clause-whole : goal.returns-in-Some-clause-whole
returns-in-Some-clause-whole c =
    subst (λ n. IsCharBoundary c.args.text.now n) (sym (returns-in-Some-clause-value c)) (offset_of-whole c.args.unit c.args.text.now c.args.pos c.utf8.text)

pub returns-in-None-clause-whole : goal.returns-in-None-clause-whole
returns-in-None-clause-whole c =
    subst (λ n. IsCharBoundary c.args.text.now n) (sym (returns-in-None-clause-value c)) (offset_of-whole c.args.unit c.args.text.now c.args.pos c.utf8.text)
