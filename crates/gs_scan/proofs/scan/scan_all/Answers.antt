use Rattle.std.proofs.Common.{IsUtf8, eqb-true, ◌≡◌, ◌∷◌, length, subst, sym, arith, [], append-nil}
use Rattle.std.proofs.lemmas.List.{nil_from_length}
use Rattle.std.proofs.lemmas.Str.{IsUtf8-drop}
use Rattle.gs_syntax.specs.Tokens.{AreTokens, IsCutInto}
use Rattle.gs_scan.specs.Comments.{AreComments}
use Rattle.gs_scan.proofs.StepLemmas.{comments_grow}
use Rattle.gs_scan.proofs.scan.scan_all.Goals as goal

-- what stands at the place joins the tokens, or the comments
pub loop-rest-preserved : goal.loop-rest-preserved
loop-rest-preserved c =
    let adds = c.in_ok-step.ensures.adds in
    let left = c.range_from-rest-in-loop-rest.ensures.value in record {
      tokens = λ cs h.
          subst (AreTokens c.args.text.now) (adds.2 cs)
          (c.loop-rest.invariant.tokens ((adds.0, c.in_ok-step.step.len) ∷ cs) (adds.1, subst (λ t. IsCutInto t cs) left h));
      comments = λ cs h.
          subst (AreComments c.args.text.now) (comments_grow _ _ _ _ _ cs _ _ adds.3 left)
          (c.loop-rest.invariant.comments ((adds.0, c.in_ok-step.step.len) ∷ cs) (adds.1, subst (λ t. IsCutInto t cs) left h));
      place = omega arith;
      utf8 = subst IsUtf8 (sym left) (IsUtf8-drop _ _ c.loop-rest.invariant.utf8 c.in_ok-step.ensures.boundary);
    }

-- at the end only the semicolon that waits is left
pub returns-clause-tokens : goal.returns-clause-tokens
returns-clause-tokens c =
    let at_end : length c.loop-rest.rest.now ≡ 0 = eqb-true _ 0 (sym c.loop-rest-test.ensures) in
    subst (AreTokens c.args.text.now) (sym (c.in_ok-insert.ensures)) (c.loop-rest.invariant.tokens [] (nil_from_length _ at_end))

pub returns-clause-comments : goal.returns-clause-comments
returns-clause-comments c =
    let at_end : length c.loop-rest.rest.now ≡ 0 = eqb-true _ 0 (sym c.loop-rest-test.ensures) in
    subst (AreComments c.args.text.now) (append-nil _) (c.loop-rest.invariant.comments [] (nil_from_length _ at_end))
