use Rattle.std.proofs.Common.{append_assoc, [], ◌∷◌, length, refl}
use Rattle.std.specs.Fmt.{decimal}
use Rattle.gs_frames.proofs.write.frame.Goals as goal

pub returns : goal.returns
returns c =
    rw (c.in_ok-extend_from_slice.ensures.items, c.into_bytes-frame.ensures.value, c.in_ok-format.ensures.ok)
    (rw (append_assoc (decimal (length c.args.body.now)) (13 ∷ 10 ∷ 13 ∷ 10 ∷ []) c.args.body.now) refl)
