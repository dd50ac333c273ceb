use Rattle.std.proofs.Common.{◌≡◌, ◌+◌, get_or, arith, sym, ap, ◌∙◌, subst}
use Rattle.std.specs.Str.{IsCharBoundary}
use Rattle.gs_scan.specs.Reading.{word_size}
use Rattle.gs_scan.proofs.WordLemmas.{AsciiEnd, ascii_end, ascii_end-size, word_size-boundary}
use Rattle.gs_scan.proofs.word.word_len.Goals as goal
use Rattle.gs_scan.proofs.word.word_len.Goals.{After-ascii_word_len-len, After-wide_word_len, Else-byte_at-ge128}

at_end : (c : After-ascii_word_len-len) → AsciiEnd c.args.rest.now c.ascii_word_len-len.result
at_end c = ascii_end _ _ _ c.utf8.rest c.as_bytes-bytes.ensures.value c.ascii_word_len-len.ensures

pub range_from-requires : goal.range_from-requires
range_from-requires c = λ _. (at_end (goal.at.range_from-requires c).After-ascii_word_len-len).boundary

whole : (c : After-wide_word_len) → c.ascii_word_len-len.result + c.wide_word_len.result ≡ word_size c.args.rest.now
whole c =
    let e = ascii_end _ _ _ c.utf8.rest c.as_bytes-bytes.ensures.value c.ascii_word_len-len.ensures in
    omega (arith, e.size, c.wide_word_len.ensures.size, ap word_size c.range_from.ensures.value)

pub returns-then-byte_at-ge128-clause-size : goal.returns-then-byte_at-ge128-clause-size
returns-then-byte_at-ge128-clause-size c = whole c

pub returns-then-byte_at-ge128-clause-boundary : goal.returns-then-byte_at-ge128-clause-boundary
returns-then-byte_at-ge128-clause-boundary c = subst (IsCharBoundary c.args.rest.now) (sym (whole c)) (word_size-boundary _ c.utf8.rest)

ended : (c : Else-byte_at-ge128) → c.ascii_word_len-len.result ≡ word_size c.args.rest.now
ended c =
    let e = ascii_end _ _ _ c.utf8.rest c.as_bytes-bytes.ensures.value c.ascii_word_len-len.ensures in
    let here : get_or c.args.rest.now c.ascii_word_len-len.result 0 ≡ c.byte_at.result = sym (c.byte_at.ensures ∙ ap (λ l. get_or l c.ascii_word_len-len.result 0) c.as_bytes-bytes.ensures.value) in
    sym (ascii_end-size _ _ _ c.utf8.rest c.as_bytes-bytes.ensures.value c.ascii_word_len-len.ensures (λ _. omega (arith, here)))

pub returns-else-byte_at-ge128-clause-size : goal.returns-else-byte_at-ge128-clause-size
returns-else-byte_at-ge128-clause-size c = ended c

pub returns-else-byte_at-ge128-clause-boundary : goal.returns-else-byte_at-ge128-clause-boundary
returns-else-byte_at-ge128-clause-boundary c = subst (IsCharBoundary c.args.rest.now) (sym (ended c)) (word_size-boundary _ c.utf8.rest)
