use Rattle.std.proofs.Common.{◌∙◌, ℕ, ap, take, length, arith, inl}
use Rattle.std.proofs.lemmas.List.{take_min, length-take}
use Rattle.gs_frames.proofs.Fronts.{fault_in, incomplete_in}
use Rattle.gs_frames.proofs.front.front_of.Goals as goal

pub returns-in-Broken : goal.returns-in-Broken
returns-in-Broken c =
    let window = c.split_at.ensures.front ∙ (ap (λ (n : ℕ). take n c.args.bytes.now) c.min.ensures ∙ take_min 1024 c.args.bytes.now) in
    inl (rw window at c.in-Broken.ensures)

pub returns-in-Open : goal.returns-in-Open
returns-in-Open c =
    let window = c.split_at.ensures.front ∙ (ap (λ (n : ℕ). take n c.args.bytes.now) c.min.ensures ∙ take_min 1024 c.args.bytes.now) in
    fault_in c.args.bytes.now (rw window at c.in-Open.ensures) (omega (arith, ap length window, length-take 1024 c.args.bytes.now))

pub returns-in-Open-2 : goal.returns-in-Open-2
returns-in-Open-2 c =
    let window = c.split_at.ensures.front ∙ (ap (λ (n : ℕ). take n c.args.bytes.now) c.min.ensures ∙ take_min 1024 c.args.bytes.now) in
    incomplete_in c.args.bytes.now (rw window at c.in-Open-2.ensures) (omega (arith, ap length window, length-take 1024 c.args.bytes.now))
