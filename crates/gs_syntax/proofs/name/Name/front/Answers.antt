use Rattle.std.proofs.Common.{take, sym, ap, subst, ◌∙◌}
use Rattle.std.specs.Prelude.{IsUtf8}
use Rattle.std.proofs.lemmas.Str.{IsUtf8-take}
use Rattle.gs_syntax.proofs.name.Name.front.Goals as goal

pub invariant_of-result : goal.invariant_of-result
invariant_of-result c =
    subst IsUtf8 (sym (c.in_ok-front.ensures ∙ ap (take c.args.count) c.as_bytes.ensures.value)) (IsUtf8-take c.args.text.now c.args.count c.utf8.text c.requires)
