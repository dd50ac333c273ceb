use Rattle.gs_numbers.proofs.LawLemmas.{number_same}
use Rattle.gs_numbers.proofs.laws.one_number.Goals as goal

pub returns : goal.returns
returns c = number_same
