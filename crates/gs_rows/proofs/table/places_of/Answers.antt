use Rattle.std.proofs.Common.{◌≡◌, sym, ◌∙◌, ap, arith, length}
use Rattle.gs_places.specs.Places.{last, places}
use Rattle.gs_rows.proofs.Filling.{start, grown, finish, fits_behind, few_behind}
use Rattle.gs_rows.proofs.table.places_of.Goals as goal

pub loop-i-init : goal.loop-i-init
loop-i-init c = c.in_ok-push.ensures.items ∙ rw (c.in_ok-found.ensures.items, c.end_place.ensures) (sym (start c.args.tokens.now))

pub invariant_of-place_by : goal.invariant_of-place_by
invariant_of-place_by c =
    let before = c.token_before.ensures in
    let behind = few_behind c.loop-i.i c.args.tokens.now c.token_before.result.0.now c.token_before.result.1.now before in
    record {
      few = omega (arith, c.requires, behind);
      fits = fits_behind c.loop-i.i c.args.tokens.now c.token_before.result.0.now c.token_before.result.1.now c.as_slice-table.result.now before (c.as_slice-table.ensures.value ∙ c.loop-i.invariant);
    }

pub place_by-next-requires : goal.place_by-next-requires
place_by-next-requires c = omega (arith, c.requires, few_behind c.loop-i.i c.args.tokens.now c.token_before.result.0.now c.token_before.result.1.now c.token_before.ensures)

pub loop-i-preserved : goal.loop-i-preserved
loop-i-preserved c = c.in_ok-push-2.ensures.items ∙ rw (c.loop-i.invariant, c.place_by-next.ensures) (sym (grown c.loop-i.i c.args.tokens.now c.token_before.result.0.now c.token_before.result.1.now c.token_before.ensures))

pub returns : goal.returns
returns c =
    let all : c.loop-i.i ≡ length c.args.tokens.now = omega (arith, c.loop-i.auto.i-end) in
    c.loop-i.invariant ∙ ap (λ k. places (last k c.args.tokens.now)) all ∙ ap places (finish c.args.tokens.now)
