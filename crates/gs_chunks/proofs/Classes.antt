-- The first token of a chunk says of which of the three it is.
use Rattle.std.proofs.Common.{◌≡◌, true, List, ℕ, refl}
use Rattle.gs_syntax.specs.declared.token.Span.{Span}
use Rattle.gs_syntax.specs.declared.token.Token.{Token}
use Rattle.gs_syntax.specs.declared.token.TokenKind.{TokenKind}
use Rattle.gs_syntax.specs.declared.token.TokenKind.TheVariants as kind
use Rattle.gs_syntax.specs.declared.token.Keyword.TheVariants as word
use Rattle.gs_grammar.specs.declared.trees.Chunk.{Chunk}
use Rattle.gs_grammar.specs.declared.trees.Top.{Top}
use Rattle.gs_grammar.specs.Front.{IsWord, IsFront, is_decl_start}
use Rattle.gs_grammar.specs.Grammar as g
use Rattle.gs_grammar.proofs.Common.{no}
use Rattle.gs_chunks.specs.declared.stage.Class.TheVariants as class
use Rattle.gs_chunks.specs.Verdicts.{class_of, class_by, first_class}

decl-class : (k : TokenKind) → is_decl_start k ≡ true → class.Declaration ≡ class_by k
decl-class (kind.Keyword word.Package) e = absurd (no e)
decl-class (kind.Keyword word.Import) e = absurd (no e)
decl-class _ e = refl

front-class : {x : Token} {s r : List Token} → IsFront is_decl_start x s r → class.Declaration ≡ first_class s
front-class (IsFront.a_front {k} e) = decl-class k e

func-class : {s r : List Token} {p : Span} → IsWord word.Func p s r → class.Declaration ≡ first_class s
func-class IsWord.a_word = refl

top-class : {S : g.Part → List Token → List Token → Type 0} {t : Top} {s r : List Token} {d : ℕ} → g.IsTop S t s r d → class.Declaration ≡ first_class s
top-class (g.IsTop.declaration h1 h2) = front-class h1
top-class (g.IsTop.function h1 h2 h3 h4) = func-class h1
top-class (g.IsTop.method_decl h1 h2 h3 h4 h5 h6 h7) = func-class h1

pub class_first : {S : g.Part → List Token → List Token → Type 0} {t : Chunk} {s r : List Token} {d : ℕ} → g.IsChunk S t s r d → class_of t ≡ first_class s
class_first (g.IsChunk.top_chunk h1 h2) = top-class h1
class_first (g.IsChunk.package_clause IsWord.a_word h2 h3) = refl
class_first (g.IsChunk.import_decl IsWord.a_word h2 h3 h4) = refl
class_first (g.IsChunk.import_group IsWord.a_word h2 h3 h4 h5) = refl
