use Rattle.std.proofs.Common.{◌≡◌, ℕ, ◌+◌, ◌-◌, ◌*◌, ◌/◌, length, take, drop, arith, ap, sym, ◌∙◌, Ok, subst}
use Rattle.std.proofs.lemmas.List.{take_rest}
use Rattle.hex.specs.Hex.{decode_pairs}
use Rattle.std.proofs.lemmas.Slice.{take-put_mid}
use Rattle.pcs_io.proofs.DigitGroups.{one-group-more, groups-and-few, no-digits, put-at-end}
use Rattle.pcs_io.proofs.hex_groups.decode_digits.Goals as goal

pub loop-i-init : goal.loop-i-init
loop-i-init c = (c.requires, no-digits)

pub loop-i-preserved : goal.loop-i-preserved
loop-i-preserved c =
    let i = c.loop-i.i in
    let new = c.decode_group.new.octets in
    let size = c.decode_group.auto.octets in
    let inv = c.loop-i.invariant in
    let whole : 32 * i + 32 - 32 * i ≡ 32 = omega arith in (
      search,
      one-group-more c.args.digits.now (take (16 * i) c.loop-i.octets) _ new i (omega (arith, inv.0)) (ap (λ (n : ℕ). take n (drop (32 * i) c.args.digits.now)) whole) (c.decode_group.ensures c.if-not-decode_group.false) inv.1
          ∙ ap Ok (sym (take-put_mid (16 * i) (16 * i + 16 - 16 * i) c.loop-i.octets new (16 * (i + 1)) (omega (arith, size)) (omega (arith, inv.0)))),
    )

pub returns : goal.returns
returns c = λ ok.
    let n = length c.args.octets.now / 16 in
    let same : c.loop-i.i ≡ n = omega (arith, c.loop-i-test.false, c.loop-i.auto.i-end) in
    let inv = subst (λ (k : ℕ). decode_pairs 0 (take (32 * k) c.args.digits.now) ≡ Ok (take (16 * k) c.loop-i.octets)) same c.loop-i.invariant.1 in
    groups-and-few c.args.digits.now (take (16 * n) c.loop-i.octets) _ c.decode_few.new.octets (32 * n) (omega (arith, c.if-digits-ne0.false))
    (take_rest c.args.digits.now (32 * n)) (c.decode_few.ensures ok) inv
    ∙ ap Ok (sym (put-at-end (16 * n) c.loop-i.octets c.decode_few.new.octets))
