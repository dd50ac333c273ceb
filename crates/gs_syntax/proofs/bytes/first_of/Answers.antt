use Rattle.std.proofs.Common.{take, ap, ◌∙◌}
use Rattle.std.proofs.lemmas.List.{take-take}
use Rattle.gs_syntax.proofs.bytes.first_of.Goals as goal

pub returns-in-Some : goal.returns-in-Some
returns-in-Some c = λ n within few. ap (take n) c.in-Some.ensures.cases.same ∙ take-take n 14 c.args.text.now few
