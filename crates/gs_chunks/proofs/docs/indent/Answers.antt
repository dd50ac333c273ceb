use Rattle.std.proofs.Common.{arith, sym, ap, ◌∙◌, get_or, length}
use Rattle.std.proofs.lemmas.List.Sums.{prefix_len_is}
use Rattle.gs_chunks.specs.Docs.{is_blank}
use Rattle.gs_chunks.proofs.Texts.{indent_boundary}
use Rattle.gs_chunks.proofs.docs.indent.Goals as goal

pub returns-then-not-is_blank-clause-blanks : goal.returns-then-not-is_blank-clause-blanks
returns-then-not-is_blank-clause-blanks c =
    sym (prefix_len_is is_blank c.args.line.now c.loop-i.i 0 (omega arith) c.loop-i.invariant
    (λ h. ap (λ l. is_blank (get_or l c.loop-i.i 0)) (sym c.as_bytes-byte-items.ensures.value) ∙ sym c.is_blank.ensures ∙ c.if-not-is_blank.true))

pub returns-then-not-is_blank-clause-boundary : goal.returns-then-not-is_blank-clause-boundary
returns-then-not-is_blank-clause-boundary c = indent_boundary c.args.line.now c.loop-i.i c.utf8.line (returns-then-not-is_blank-clause-blanks c)

pub returns-clause-blanks : goal.returns-clause-blanks
returns-clause-blanks c =
    let size = ap length c.as_bytes-byte-items.ensures.value in
    sym (prefix_len_is is_blank c.args.line.now (length c.args.line.now) 0 (omega arith) (λ k h. c.loop-i.invariant k (omega arith)) (λ h. absurd (omega arith)))
