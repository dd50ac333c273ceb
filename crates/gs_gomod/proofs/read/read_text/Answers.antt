use Rattle.std.proofs.Common.{map, ap, sym, ◌∙◌, length, subst}
use Rattle.std.proofs.lemmas.List.{length-map}
use Rattle.gs_gomod.specs.Steps.{Finds}
use Rattle.gs_gomod.proofs.LineLemmas.{concluded}
use Rattle.gs_gomod.proofs.read.read_text.Goals as goal

pub returns : goal.returns
returns c =
    let same = ap (map (λ x. x.now)) c.as_slice-lines.ensures.value ∙ c.in_ok-lines.ensures.lines in
    let last = ap length c.as_slice-lines.ensures.value ∙ sym (length-map c.in_ok-lines.lines.items (λ x. x.now)) ∙ ap length c.in_ok-lines.ensures.lines in
    concluded c.args.text.now c.in_ok-found.found _ c.conclude.result (subst (λ l. Finds l c.in_ok-found.found) same c.in_ok-found.ensures) last c.conclude.ensures
