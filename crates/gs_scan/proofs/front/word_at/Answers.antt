use Rattle.std.proofs.Common.{sym, ◌∙◌, ap}
use Rattle.gs_scan.specs.Reading.{keyword_of}
use Rattle.gs_scan.proofs.StandingWords.{keyword_stands_at, identifier_stands_at}
use Rattle.gs_scan.proofs.front.word_at.Goals as goal

pub returns-in-Some-clause-stands : goal.returns-in-Some-clause-stands
returns-in-Some-clause-stands c =
    keyword_stands_at _ _ _ _ c.utf8.rest c.requires.letter c.requires.class c.word_len-len.ensures.size c.split_at.ensures.front (sym c.as_bytes.ensures.value ∙ c.in-Some.ensures.found)

pub returns-in_ok-name-in-None-clause-stands : goal.returns-in_ok-name-in-None-clause-stands
returns-in_ok-name-in-None-clause-stands c =
    identifier_stands_at _ _ _ _ c.utf8.rest c.requires.letter c.requires.class c.word_len-len.ensures.size c.split_at.ensures.front (ap keyword_of (sym c.as_bytes.ensures.value) ∙ sym c.in-None.ensures.value) (c.in_ok-name-in-None.ensures ∙ sym c.split_at.ensures.front)
