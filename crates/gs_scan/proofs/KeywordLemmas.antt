-- A word that begins as no keyword is none.
use Rattle.std.proofs.Common.{◌≡◌, ℕ, Bool, true, false, List, length, get_or, sym, refl, ◌∙◌, Some, None}
use Rattle.std.specs.Prelude.{Option, if◌then◌else◌}
use Rattle.std.specs.Str.{bytes_eq}
use Rattle.std.proofs.lemmas.Bool.{false≢true}
use Rattle.std.proofs.lemmas.Slice.Eq.{bytes_eq-Decides}
use Rattle.gs_syntax.specs.declared.token.Keyword.{Keyword}
use Rattle.gs_syntax.specs.declared.token.Keyword.TheVariants as keyword
use Rattle.gs_syntax.specs.Kinds.{keyword_text}
use Rattle.gs_scan.specs.Reading.{keyword_of, begins_keyword}

begins : (k : Keyword) → begins_keyword (length (keyword_text k)) (get_or (keyword_text k) 0 0) ≡ true
begins keyword.Break = refl
begins keyword.Case = refl
begins keyword.Chan = refl
begins keyword.Const = refl
begins keyword.Continue = refl
begins keyword.Default = refl
begins keyword.Defer = refl
begins keyword.Else = refl
begins keyword.Fallthrough = refl
begins keyword.For = refl
begins keyword.Func = refl
begins keyword.Go = refl
begins keyword.Goto = refl
begins keyword.If = refl
begins keyword.Import = refl
begins keyword.Interface = refl
begins keyword.Map = refl
begins keyword.Package = refl
begins keyword.Range = refl
begins keyword.Return = refl
begins keyword.Select = refl
begins keyword.Struct = refl
begins keyword.Switch = refl
begins keyword.«Type» = refl
begins keyword.Var = refl

-- no text of a keyword begins as none does
abbrev BeginsNone : List ℕ → Type 0
BeginsNone word = begins_keyword (length word) (get_or word 0 0) ≡ false

passed : (b : Bool) (word : List ℕ) (k : Keyword) (others : Option Keyword) → (b ≡ true → word ≡ keyword_text k) → BeginsNone word → others ≡ None
    → (if b then Some k else others) ≡ None
passed true word k others is h none = absurd (false≢true (sym h ∙ (λ i. begins_keyword (length (is refl i)) (get_or (is refl i) 0 0)) ∙ begins k))
passed false word k others is h none = none

pass : (word : List ℕ) → BeginsNone word → (k : Keyword) (others : Option Keyword) → others ≡ None → (if bytes_eq word (keyword_text k) then Some k else others) ≡ None
pass word h k others none = passed (bytes_eq word (keyword_text k)) word k others (bytes_eq-Decides word (keyword_text k)).0 h none

pub no_keyword : (word : List ℕ) → begins_keyword (length word) (get_or word 0 0) ≡ false → keyword_of word ≡ None
no_keyword word h =
    pass word h keyword.Break _ (pass word h keyword.Case _ (pass word h keyword.Chan _ (pass word h keyword.Const _ (pass word h keyword.Continue _ (pass word h keyword.Default _ (pass word h keyword.Defer _ (pass word h keyword.Else _ (pass word h keyword.Fallthrough _ (pass word h keyword.For _ (pass word h keyword.Func _ (pass word h keyword.Go _ (pass word h keyword.Goto _ (pass word h keyword.If _ (pass word h keyword.Import _ (pass word h keyword.Interface _ (pass word h keyword.Map _ (pass word h keyword.Package _ (pass word h keyword.Range _ (pass word h keyword.Return _ (pass word h keyword.Select _ (pass word h keyword.Struct _ (pass word h keyword.Switch _ (pass word h keyword.«Type» _ (pass word h keyword.Var _ refl))))))))))))))))))))))))
