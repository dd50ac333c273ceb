use Rattle.std.proofs.Common.{◌≡◌, ◌≤◌, ◌-◌, List, ℕ, length, get_or, take, drop, subst, ap, sym, ◌∙◌, arith}
use Rattle.std.specs.Str.{IsCharBoundary}
use Rattle.std.specs.List.Sorted.{IsNonDecreasingBy}
use Rattle.std.proofs.lemmas.List.{get_or_default}
use Rattle.gs_text.specs.TextLines.{TextLines}
use Rattle.gs_text.specs.LineEnds.{line_starts, is_in_line, first_line}
use Rattle.gs_text.specs.Units.{units}
use Rattle.gs_text.specs.Lines.{line_start}
use Rattle.gs_text.specs.Positions.{line_number, line_before}
use Rattle.gs_text.proofs.Starts.{Splits-of, Splits-some, Splits-start, line_starts-whole, line_starts-count, line_starts-sorted, line_number-split, take_while-take}
use Rattle.gs_text.proofs.lines.Lines.pos_at.Goals as goal

pub count_upto-line-requires : goal.count_upto-line-requires
count_upto-line-requires c =
    let are : c.as_slice-starts.result.now ≡ line_starts c.args.text.now = c.as_slice-starts.ensures ∙ ap (λ (l : TextLines). l.starts) (c.self.view_is ∙ c.requires.of_text) in
    subst (λ l. IsNonDecreasingBy (λ s. s) l) (sym are) (line_starts-sorted c.args.text.now)

pub overflow_sub-line : goal.overflow_sub-line
overflow_sub-line c =
    let are : c.as_slice-starts.result.now ≡ line_starts c.args.text.now = c.as_slice-starts.ensures ∙ ap (λ (l : TextLines). l.starts) (c.self.view_is ∙ c.requires.of_text) in
    Splits-some c.args.text.now c.args.offset c.count_upto-line.result (Splits-of _ _ _ _ are c.count_upto-line.ensures.split)

pub range-before-requires-clause-start_le_end : goal.range-before-requires-clause-start_le_end
range-before-requires-clause-start_le_end c =
    let are : c.as_slice-starts.result.now ≡ line_starts c.args.text.now = c.as_slice-starts.ensures ∙ ap (λ (l : TextLines). l.starts) (c.self.view_is ∙ c.requires.of_text) in
    omega (arith, ap (λ l. get_or l (c.count_upto-line.result - 1) 0) are, Splits-start c.args.text.now c.args.offset c.count_upto-line.result 0 (Splits-of _ _ _ _ are c.count_upto-line.ensures.split))

pub range-before-requires-clause-start_boundary : goal.range-before-requires-clause-start_boundary
range-before-requires-clause-start_boundary c =
    let are : c.as_slice-starts.result.now ≡ line_starts c.args.text.now = c.as_slice-starts.ensures ∙ ap (λ (l : TextLines). l.starts) (c.self.view_is ∙ c.requires.of_text) in
    let i : ℕ = c.count_upto-line.result in
    let some = Splits-some c.args.text.now c.args.offset i (Splits-of _ _ _ _ are c.count_upto-line.ensures.split) in
    let bound : i ≤ length (line_starts c.args.text.now) = omega (arith, c.count_upto-line.ensures.within, ap length are) in
    λ after. subst (λ n. IsCharBoundary c.args.text.now n) (sym (ap (λ l. get_or l (i - 1) 0) are)) (line_starts-whole c.args.text.now (i - 1) 0 c.utf8.text (omega arith))

pub overflow_cast-result : goal.overflow_cast-result
overflow_cast-result c =
    let are : c.as_slice-starts.result.now ≡ line_starts c.args.text.now = c.as_slice-starts.ensures ∙ ap (λ (l : TextLines). l.starts) (c.self.view_is ∙ c.requires.of_text) in
    let long : c.self.inside.length ≡ length c.args.text.now = ap (λ (l : TextLines). l.length) (c.self.view_is ∙ c.requires.of_text) in
    omega (arith, c.count_upto-line.ensures.within, ap length are, line_starts-count c.args.text.now)

pub returns : goal.returns
returns c =
    let are : c.as_slice-starts.result.now ≡ line_starts c.args.text.now = c.as_slice-starts.ensures ∙ ap (λ (l : TextLines). l.starts) (c.self.view_is ∙ c.requires.of_text) in
    let i : ℕ = c.count_upto-line.result in
    let text : List ℕ = c.args.text.now in
    let split = Splits-of _ text c.args.offset i are c.count_upto-line.ensures.split in
    let some = Splits-some text c.args.offset i split in
    let bound : i ≤ length (line_starts text) = omega (arith, c.count_upto-line.ensures.within, ap length are) in
    let line : line_number text c.args.offset ≡ i - 1 = line_number-split text c.args.offset i bound split in
    let start : get_or c.as_slice-starts.result.now (i - 1) 0 ≡ line_start text (i - 1) = ap (λ l. get_or l (i - 1) 0) are ∙ get_or_default (line_starts text) (i - 1) 0 (length text) (omega arith) in
    let before = c.range-before.ensures.value ∙ ap (λ s. take (c.args.offset - s) (drop s text)) start in
    let units_are = c.line_units.ensures
    ∙ ap (λ t. units c.args.unit (first_line t)) before
    ∙ ap (units c.args.unit) (take_while-take is_in_line (c.args.offset - line_start text (i - 1)) (drop (line_start text (i - 1)) text)) in
    let same = units_are ∙ ap (λ n. units c.args.unit (line_before text (line_start text n) c.args.offset)) (sym line) in
    λ k. record { line = (sym line) k; character = same k }
