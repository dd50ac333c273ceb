-- What a reader is told of a declaration.
use Rattle.std.specs.Prelude.{ℕ, ◌+◌, ◌/◌, ◌%◌, ◌&&◌, ◌||◌, ◌==◌, nat_lt, nat_le, true, false, List, [], ◌∷◌, ◌++◌, flat_map, Option, Some, None, codes, if◌then◌else◌}
use Rattle.std.specs.Fmt.{signed_decimal}
use Rattle.gs_terms.specs.declared.kinds.SigKind.{SigKind}
use Rattle.gs_terms.specs.declared.kinds.SigKind.TheVariants as kind
use Rattle.gs_terms.specs.declared.sig.Value.{Value}
use Rattle.gs_terms.specs.declared.sig.Value.TheVariants as value
use Rattle.gs_terms.specs.declared.sig.Sig.{Sig}
use Rattle.gs_terms.specs.Term.{Term}
use Rattle.gs_print.specs.Text.{term_text, after_name}

-- 0 to 9 and a to f
abbrev pub hex_digit : ℕ → ℕ
hex_digit d = if nat_lt d 10 then 48 + d else 87 + d

-- A byte of a constant text: `"` and `\` after a `\`, and bytes outside 20 to 7e by their number, as `\x0a`.
abbrev pub byte_text : ℕ → List ℕ
byte_text c =
    if c == 34 || c == 92 then 92 ∷ c ∷ []
    else (if nat_le 32 c && nat_le c 126 then c ∷ [] else 92 ∷ 120 ∷ hex_digit (c / 16) ∷ hex_digit (c % 16) ∷ [])

abbrev pub value_text : Value → List ℕ
value_text (value.Truth true) = codes "true"
value_text (value.Truth false) = codes "false"
value_text (value.Whole n) = signed_decimal n
value_text (value.Text bytes) = 34 ∷ [] ++ flat_map byte_text bytes ++ 34 ∷ []

-- ` = V`, or nothing where the constant has no value
abbrev pub value_part : Option Value → List ℕ
value_part None = []
value_part (Some v) = codes " = " ++ value_text v

-- two LF and the doc comment, where there is one
abbrev pub doc_part : List ℕ → List ℕ
doc_part [] = []
doc_part (c ∷ cs) = (10 ∷ 10 ∷ []) ++ (c ∷ cs)

-- the declaration of a name in one line, where its type has this text
abbrev pub declaration : SigKind → List ℕ → Term → List ℕ → Option Value → List ℕ
declaration kind.Var name t text v = codes "var " ++ name ++ codes " " ++ text
declaration kind.Const name t text v = codes "const " ++ name ++ codes " " ++ text ++ value_part v
declaration kind.Defined name t text v = codes "type " ++ name ++ codes " " ++ text
declaration kind.Alias name t text v = codes "type " ++ name ++ codes " = " ++ text
declaration kind.Func name t text v = codes "func " ++ name ++ after_name t text

-- Types are written as in the package that declares the name.
abbrev pub hover_text : List ℕ → Sig → List ℕ
hover_text name sig = declaration sig.kind name sig.term (term_text sig.place.package sig.term) sig.value ++ doc_part sig.doc
