use Rattle.std.proofs.Common.{ℕ, length, arith, sym, ap, ◌∙◌, length-append}
use Rattle.std.proofs.lemmas.List.{nil_from_length}
use Rattle.std.proofs.lemmas.Str.{IsUtf8-past_char}
use Rattle.gs_scan.specs.Reading.{word_size}
use Rattle.gs_scan.proofs.WordLemmas.{word_size-nil, word_size-no, word_size-yes}
use Rattle.gs_scan.proofs.word.wide_word_len.Goals as goal

pub loop-c-preserved : goal.loop-c-preserved
loop-c-preserved c =
    let begins = c.in-Some.ensures.steps.0 in
    let utf8 = c.loop-c.invariant.4 in
    let is_word = sym c.if-not-is_word_char.ensures in (
      tt,
      tt,
      omega (arith, c.loop-c.invariant.2, c.len_utf8-len.ensures.value, word_size-yes _ _ _ utf8 begins is_word),
      omega (arith, c.loop-c.invariant.3, c.len_utf8-len.ensures.len, ap length begins, length-append {A = ℕ}),
      IsUtf8-past_char _ _ _ utf8 begins,
    )

pub returns-in-None-clause-size : goal.returns-in-None-clause-size
returns-in-None-clause-size c =
    let at_end = ap word_size (nil_from_length _ c.in-None.ensures.steps.0.0) ∙ word_size-nil in
    omega (arith, c.loop-c.invariant.2, at_end)

pub returns-then-not-is_word_char-clause-size : goal.returns-then-not-is_word_char-clause-size
returns-then-not-is_word_char-clause-size c =
    let stops = word_size-no _ _ _ c.loop-c.invariant.4 c.in-Some.ensures.steps.0 (sym c.if-not-is_word_char.ensures) in
    omega (arith, c.loop-c.invariant.2, stops)
