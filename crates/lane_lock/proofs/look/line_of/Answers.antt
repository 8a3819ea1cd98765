use Rattle.std.proofs.Common.{◌≡◌, ◌+◌, ◌*◌, ◌^◌, ◌++◌, ◌∷◌, [], length, drop, take, get_or, ap, sym, ◌∙◌, arith, length-take}
use Rattle.std.specs.Prelude.{bit_or}
use Rattle.std.proofs.lemmas.List.{take_more, take_all}
use Rattle.std.proofs.lemmas.Nat.{or_lt}
use Rattle.bit_lists.specs.Bits.{bits, all_bits}
use Rattle.bit_lists.proofs.Facts.{all_bits-push}
use Rattle.lane_lock.specs.Seen.{padded}
use Rattle.lane_lock.proofs.Rows.{zeros, line_is, last_is, line_bits, behind_zeros}
use Rattle.lane_lock.proofs.look.line_of.Goals as goal

pub loop-i-init : goal.loop-i-init
loop-i-init c = record { bits = zeros; fits = omega arith }

pub loop-i-preserved : goal.loop-i-preserved
loop-i-preserved c =
    let xs = c.args.octets.now in
    let octet = get_or xs c.loop-i.i 0 in
    let size = c.told-octets in
    let low = c.loop-i-test.true in
    let top : c.at_top.result ≡ octet * 2 ^ 120 = c.at_top.ensures.value in
    let small = c.at_top.ensures.fits in
    let more : take (c.loop-i.i + 1) xs ≡ take c.loop-i.i xs ++ octet ∷ [] = take_more xs c.loop-i.i 0 (omega (arith, size, low)) in
    record {
      bits = rw (more, top) (last_is (take c.loop-i.i xs) octet (bit_or c.loop-i.last (octet * 2 ^ 120))
          (line_is (take c.loop-i.i xs) octet c.loop-i.last c.loop-i.invariant.fits c.loop-i.invariant.bits));
      fits = rw top (omega (arith, or_lt 128 c.loop-i.last (octet * 2 ^ 120) (omega (arith, c.loop-i.invariant.fits)) (omega (arith, small))));
    }

pub returns : goal.returns
returns c =
    let xs = c.args.octets.now in
    let octet = get_or xs 15 0 in
    let size = c.told-octets in
    let most = c.loop-i-test.false in
    let end : c.loop-i.i ≡ 15 = omega arith in
    let fifteen : length (take 15 xs) ≡ 15 = length-take 15 xs ∙ omega (arith, size) in
    let last : bits 120 c.loop-i.last ≡ all_bits 8 (take 15 xs) =
    c.loop-i.invariant.bits ∙ ap (λ i. drop (8 * length (take i xs)) (padded (take i xs))) end ∙ behind_zeros (take 15 xs) fifteen in
    ap (λ n. bits 128 (bit_or c.loop-i.last n)) c.at_top-2.ensures.value ∙ line_bits c.loop-i.last octet c.loop-i.invariant.fits
    ∙ ap (λ bs. bs ++ bits 8 octet) last ∙ sym (all_bits-push 8 (take 15 xs) octet)
    ∙ ap (all_bits 8) (sym (take_more xs 15 0 (omega (arith, size))) ∙ take_all 16 xs (omega (arith, size)))
