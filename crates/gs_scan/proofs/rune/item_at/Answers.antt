use Rattle.std.proofs.Common.{◌≡◌, drop, get_or, sym, ◌∙◌, ap, subst}
use Rattle.gs_syntax.specs.Quotes.{IsRuneItem}
use Rattle.gs_scan.specs.Escapes.{escape_at}
use Rattle.gs_scan.specs.Reading.{IsOnlyFront}
use Rattle.gs_scan.proofs.RuneLemmas.{escape_front, escape_none}
use Rattle.gs_scan.proofs.rune.item_at.Goals as goal
use Rattle.gs_scan.proofs.rune.item_at.Goals.{After-escape_at}

first : (c : After-escape_at) → get_or c.args.inside.now 0 0 ≡ 92
first c = ap (λ l. get_or l 0 0) (sym c.as_bytes-bytes.ensures.value) ∙ sym c.byte_at.ensures ∙ c.if-byte_at-ne92.false

read : (c : After-escape_at) → escape_at 39 (drop 1 c.args.inside.now) ≡ c.escape_at.result
read c = sym (c.escape_at.ensures ∙ ap (escape_at 39) (c.behind_first.ensures ∙ ap (drop 1) c.as_bytes-bytes.ensures.value))

pub returns-in-Some : goal.returns-in-Some
returns-in-Some c =
    let at = (goal.at.returns-in-Some c).After-escape_at in
    subst (λ code. IsOnlyFront IsRuneItem c.args.inside.now code c.in-Some.len) (sym c.code_of.ensures)
    (escape_front c.args.inside.now c.in-Some.item c.in-Some.len (first at) (read at ∙ c.in-Some.is))

pub returns-in-None : goal.returns-in-None
returns-in-None c =
    let at = (goal.at.returns-in-None c).After-escape_at in
    escape_none c.args.inside.now (first at) (read at ∙ c.in-None.is)
