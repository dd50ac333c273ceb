-- What the words and forms of the code stand for.
use Rattle.std.specs.Prelude.{Option, Some, None}
use Rattle.std.specs.Option.{option_map}
use Rattle.gs_gomod.specs.declared.word.Word.{Word as WordItem}
use Rattle.gs_gomod.specs.declared.word.Word.TheVariants as word
use Rattle.gs_gomod.specs.declared.form.Form.{Form as FormItem}
use Rattle.gs_gomod.specs.declared.form.Form.TheVariants as form
use Rattle.gs_gomod.specs.Words.{Word, Plain, Quoted, Unclosed}
use Rattle.gs_gomod.specs.Forms.{Form, empty, opens, closes, a_module, a_replace, passed, bad}

abbrev pub seen : WordItem → Word
seen (word.Plain w) = Plain w.now
seen (word.Quoted w) = Quoted w.now
seen word.Unclosed = Unclosed

abbrev pub seen_form : FormItem → Form
seen_form form.Empty = empty
seen_form (form.Opens verb) = opens (seen verb)
seen_form form.Closes = closes
seen_form (form.Module p) = a_module p.now
seen_form (form.Replace p t) = a_replace p.now t.now
seen_form form.Passed = passed
seen_form form.Bad = bad
