use Rattle.std.proofs.Common.{◌≡◌, ◌+◌, length, IsUtf8}
use Rattle.std.specs.Str.Iter.{chars_rest}
use Rattle.gs_scan.specs.Reading.{word_size}
use Rattle.gs_scan.proofs.word.wide_word_len.Given as goal

abbrev pub invariant-loop-c : goal.invariant-loop-c
invariant-loop-c l =
    (goal.iterator-loop-c).can_next l.c-iterator × (goal.iterator-loop-c).is_finite l.c-iterator
    × (l.len + word_size (chars_rest l.c-iterator) ≡ word_size l.rest)
    × (l.len + length (chars_rest l.c-iterator) ≡ length l.rest)
    × IsUtf8 (chars_rest l.c-iterator)
