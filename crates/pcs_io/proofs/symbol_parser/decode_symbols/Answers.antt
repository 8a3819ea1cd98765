use Rattle.std.proofs.Common.{◌≡◌, ◌+◌, ◌-◌, ◌*◌, ◌/◌, ◌<◌, ◌≤◌, ◌++◌, ◌∷◌, [], length, take, drop, sym, ◌∙◌, ap, ap₂, subst, arith, length-set, take_all}
use Rattle.std.proofs.lemmas.List.{take_more_set}
use Rattle.pcs_io.specs.SymbolLines.{numbers_of, AreSymbolDigits}
use Rattle.pcs_io.proofs.SymbolNumbers.{numbers-none, numbers-more, three-digits, width-thirds, small-set}
use Rattle.pcs_io.proofs.SymbolRuns.{wide}
use Rattle.pcs_io.proofs.symbol_parser.decode_symbols.Goals as goal

pub loop-i-init : goal.loop-i-init
loop-i-init c = (sym numbers-none, c.requires.small, c.requires.room)

pub symbol_of-requires-clause-right : goal.symbol_of-requires-clause-right
symbol_of-requires-clause-right c =
    let i = c.loop-i.i in
    let ds = c.args.digits.now in
    let low : 3 * i + 3 ≤ length ds = omega (arith, c.loop-i-test.true) in
    let three : 3 ≡ 3 * i + 3 - 3 * i = omega arith in
    subst (λ n. AreSymbolDigits (take n (drop (3 * i) ds))) three (three-digits ds i low c.requires.right)

pub loop-i-preserved : goal.loop-i-preserved
loop-i-preserved c =
    let i = c.loop-i.i in
    let ds = c.args.digits.now in
    let xs = c.loop-i.symbols in
    let room : length xs ≡ 528 = c.loop-i.invariant.2 in
    let low : 3 * i + 3 ≤ length ds = omega (arith, c.loop-i-test.true) in
    let within : i < length xs = omega (arith, room, c.loop-i-test.true, wide (length ds) c.requires.width) in
    let three : 3 * i + 3 - 3 * i ≡ 3 = omega arith in
    let last : numbers_of (take 3 (drop (3 * i) ds)) ≡ c.symbol_of.result ∷ [] =
    ap (λ n. numbers_of (take n (drop (3 * i) ds))) (sym three) ∙ c.symbol_of.ensures.number in (
      take_more_set xs i c.symbol_of.result within
          ∙ ap₂ (λ a b. a ++ b) c.loop-i.invariant.0 (sym last) ∙ sym (numbers-more ds i low),
      small-set xs i c.symbol_of.result within c.symbol_of.ensures.small c.loop-i.invariant.1,
      length-set xs i c.symbol_of.result ∙ room,
    )

pub returns-clause-numbers : goal.returns-clause-numbers
returns-clause-numbers c =
    let ds = c.args.digits.now in
    let all : c.loop-i.i ≡ length ds / 3 = omega (arith, c.loop-i-test.false, c.loop-i.auto.i-end) in
    ap (λ n. take n c.loop-i.symbols) (sym all) ∙ c.loop-i.invariant.0
    ∙ ap (λ n. numbers_of (take n ds)) (ap (λ n. 3 * n) all ∙ width-thirds (length ds) c.requires.width) ∙ ap numbers_of (take_all (length ds) ds (omega arith))
