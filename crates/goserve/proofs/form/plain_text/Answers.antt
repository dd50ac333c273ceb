use Rattle.std.proofs.Common.{rules}
use Rattle.std.proofs.lemmas.Str.{IsUtf8-from_ascii}
use Rattle.goserve.proofs.form.plain_text.Goals as goal

pub unreachable-requires : goal.unreachable-requires
unreachable-requires c = c.in-Err.ensures.cases.0 (IsUtf8-from_ascii c.args.input.now (c.if-not-is_plain_text.ensures.0 (search rules)).ascii)
