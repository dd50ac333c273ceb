use Rattle.std.proofs.Common.{◌∷◌, [], nat_eq, sym, ◌∙◌, ap}
use Rattle.std.specs.List.{starts_with}
use Rattle.std.proofs.lemmas.Str.{IsCharBoundary-start}
use Rattle.gs_scan.proofs.ByteMarkLemmas.{mark_boundary}
use Rattle.gs_scan.proofs.scan.mark_len.Goals as goal

pub returns-then-starts_with-clause-boundary : goal.returns-then-starts_with-clause-boundary
returns-then-starts_with-clause-boundary c =
    mark_boundary c.args.text.now c.utf8.text (ap (λ l. starts_with nat_eq l (239 ∷ 187 ∷ 191 ∷ [])) (sym c.as_bytes.ensures.value)
    ∙ ap (λ n. starts_with nat_eq c.as_bytes.result.now n) (sym c.as_slice.ensures) ∙ sym c.if-starts_with.ensures.value)

pub returns-else-starts_with-clause-boundary : goal.returns-else-starts_with-clause-boundary
returns-else-starts_with-clause-boundary c = IsCharBoundary-start c.args.text.now c.utf8.text
