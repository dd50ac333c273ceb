use Rattle.std.proofs.Common.{sym, ap, ◌∙◌, ◌++◌, append-nil}
use Rattle.gs_chunks.proofs.Texts.{docs_none}
use Rattle.gs_chunks.proofs.docs.put_docs.Goals as goal

pub returns-in_default : goal.returns-in_default
returns-in_default c = sym (ap (λ l. c.args.docs.now.items ++ l) (docs_none c.args.front c.args.above.now c.args.starts.now c.in_default.is) ∙ append-nil c.args.docs.now.items)
