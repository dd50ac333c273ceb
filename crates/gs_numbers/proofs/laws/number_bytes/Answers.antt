use Rattle.gs_numbers.proofs.LawLemmas.{number_begins, number_is_ascii}
use Rattle.gs_numbers.proofs.laws.number_bytes.Goals as goal

pub returns-clause-begins : goal.returns-clause-begins
returns-clause-begins c = number_begins

pub returns-clause-ascii : goal.returns-clause-ascii
returns-clause-ascii c = number_is_ascii
