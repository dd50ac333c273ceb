use Rattle.std.proofs.Common.{sym, ◌∙◌, ap, inl}
use Rattle.gs_scan.specs.Reading.{keyword_of}
use Rattle.gs_scan.proofs.StandingBlanks.{letter_text}
use Rattle.gs_scan.proofs.StandingWords.{keyword_stands_at, identifier_stands_at}
use Rattle.gs_scan.proofs.StepLemmas.{token_adds}
use Rattle.gs_scan.proofs.step.word_step.Goals as goal

pub returns-in_ok-add-in-Some-clause-adds : goal.returns-in_ok-add-in-Some-clause-adds
returns-in_ok-add-in-Some-clause-adds c =
    let done = c.in_ok-add-in-Some.ensures in
    token_adds _ _ _ _ _ _ _ _ done.len (keyword_stands_at _ _ _ _ c.utf8.rest (letter_text _ c.requires.class) (inl c.requires.class)
    c.word_len-len.ensures.size c.split_at.ensures.front (sym c.as_bytes.ensures.value ∙ c.in-Some.ensures.found)) done.added done.end

pub returns-in_ok-add-in-None-clause-adds : goal.returns-in_ok-add-in-None-clause-adds
returns-in_ok-add-in-None-clause-adds c =
    let done = c.in_ok-add-in-None.ensures in
    token_adds _ _ _ _ _ _ _ _ done.len (identifier_stands_at _ _ _ _ c.utf8.rest (letter_text _ c.requires.class) (inl c.requires.class)
    c.word_len-len.ensures.size c.split_at.ensures.front (ap keyword_of (sym c.as_bytes.ensures.value) ∙ sym c.in-None.ensures.value) (c.in_ok-name-in-None.ensures ∙ sym c.split_at.ensures.front)) done.added done.end
