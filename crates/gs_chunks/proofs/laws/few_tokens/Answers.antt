use Rattle.gs_chunks.proofs.Fewness.{few_tokens}
use Rattle.gs_chunks.proofs.laws.few_tokens.Goals as goal

pub returns : goal.returns
returns c = few_tokens
