use Rattle.std.proofs.Common.{◌≡◌, ◌+◌, ◌*◌, ◌/◌, ◌<◌, ◌≤◌, length, get_or, ℤ, Some, sym, ap, ◌∙◌, arith, w16, SFits, rules}
use Rattle.std.proofs.lemmas.Option.{slice_get_past}
use Rattle.std.proofs.lemmas.Int.{to_z-of_z}
use Rattle.blocks.specs.Samples.{sample_of, samples_of}
use Rattle.blocks.proofs.Sampling.{length_samples, nth_samples, pair_at}
use Rattle.blocks.proofs.sample.sample_at.Goals as goal

pub returns-in_err-low-clause-value : goal.returns-in_err-low-clause-value
returns-in_err-low-clause-value c =
    let e = length_samples c.args.payload.now in
    let h : length (samples_of c.args.payload.now) ≤ c.args.i = omega (arith, e, c.as_chunks.ensures.front_len, c.in_err-low.ensures.lookup.3) in
    c.from_residual.ensures ∙ sym (slice_get_past (samples_of c.args.payload.now) c.args.i h)

pub returns-clause-value : goal.returns-clause-value
returns-clause-value c =
    let bytes = c.args.payload.now in
    let f : SFits w16 c.sample_of.result = search rules in
    let e = length_samples bytes in
    let h : c.args.i < length bytes / 2 = omega (arith, c.as_chunks.ensures.front_len, c.in_ok-low.ensures.lookup.3.0) in
    let low : get_or c.in_ok-low.field-0.now 0 0 ≡ get_or bytes (2 * c.args.i) 0 = grind (arith, pair_at, c.as_chunks.ensures, c.in_ok-low.ensures.lookup.3) in
    let high : get_or c.in_ok-low.field-0.now 1 0 ≡ get_or bytes (2 * c.args.i + 1) 0 = grind (arith, pair_at, c.as_chunks.ensures, c.in_ok-low.ensures.lookup.3) in
    let is : c.sample_of.result ≡ sample_of (get_or bytes (2 * c.args.i) 0) (get_or bytes (2 * c.args.i + 1) 0) = cc in
    ap (λ (z : ℤ). Some z) (to_z-of_z w16 _ f ∙ is) ∙ sym (nth_samples bytes c.args.i (omega arith))
